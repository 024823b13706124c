-- What a stop leaves while bytes are written behind a store's changes.
use Rattle.std.proofs.Common.{◌≡◌, ◌≢◌, ◌⊎◌, inl, ℕ, ◌+◌, ◌^◌, ◌<◌, ◌≤◌, List, ◌++◌, length, take, Option, IsTrue, sym, subst, ◌∙◌, ap, arith, length-take}
use Rattle.std.specs.Prelude.{Result, OnOk}
use Rattle.std.proofs.lemmas.List.{append-nil, get_or-take}
use Rattle.std.proofs.lemmas.Grind.{same_number_lists}
use Rattle.st_host.specs.Files.{Files, bytes_of, IsWritten, KeepsBelow}
use Rattle.st_host.specs.Stops.{Comes}
use Rattle.st_host.specs.Runs.{Touched, Writes, WritesAbove, IsAtRest, Makes}
use Rattle.st_host.specs.declared.host.Host.{Ghosts}
use Rattle.st_host.proofs.Joining.{weaker}
use Rattle.st_host.proofs.Touching.{write_above}
use Rattle.st_host.proofs.Texts.{flushed}
use Rattle.st_store.specs.Names.{roots_file, changes_file, image_file}
use Rattle.st_store.specs.Stored.{Stored, Begins, Opens, IsFirm, IsChosen}
use Rattle.st_store.proofs.Turning.{came}
use Rattle.st_store.proofs.Others.{changes_roots, image_changes}
use Rattle.st_store.specs.declared.root.Root.{Root}
use Rattle.st_changes.specs.inside.States.{grown}

-- a file that keeps its first bytes begins as before
begins_kept : (n : ℕ) (bytes : List ℕ) (old new : Option (List ℕ)) → Begins n bytes old → KeepsBelow n old new → Begins n bytes new
begins_kept n bytes old new begins keeps = record {
  long = keeps.long begins.long;
  is = same_number_lists (take n (bytes_of new)) (take n (bytes_of old))
      (omega (arith, length-take n (bytes_of new), length-take n (bytes_of old), begins.long, keeps.long begins.long))
      (λ i less.
      let below : i < n = omega (arith, length-take n (bytes_of new)) in
      get_or-take n (bytes_of new) i 0 below ∙ keeps.same i below begins.long ∙ sym (get_or-take n (bytes_of old) i 0 below))
      ∙ begins.is;
}

-- bytes written behind the first ones
begins_more : (n : ℕ) (bytes more : List ℕ) (old new : Option (List ℕ)) → Begins n bytes old → IsWritten n more old new → Begins (n + length more) (bytes ++ more) new
begins_more n bytes more old new begins written =
    let holds = flushed n more old new (bytes ++ more) written (record { there = begins.long; is = ap (λ (x : List ℕ). x ++ more) begins.is }) in
    record { long = holds.there; is = sym (append-nil (take (n + length more) (bytes_of new))) ∙ holds.is }

module _ {D : Type 0} (host : Ghosts D) (name : List ℕ) (c : Stored) (k : ℕ) (a b : D) (told : IsTrue host.is_told) (chosen : IsChosen host a name k c) (n : ℕ)
    (reads : host.may_leave a (changes_file name c.root.slot) (host.files a (changes_file name c.root.slot))) (writes : Writes host (changes_file name c.root.slot) c.root.length n a b) where
  above : WritesAbove host c.root.length (changes_file name c.root.slot) a b
  above = write_above host (changes_file name c.root.slot) c.root.length c.root.length n a b (omega arith) (λ told. (chosen.firm.changes (host.files a (changes_file name c.root.slot)) reads).long) writes

  stays : (x : Option (List ℕ)) → Comes (KeepsBelow c.root.length) (host.may_leave a (changes_file name c.root.slot)) x → Begins c.root.length c.changes x
  stays x step = came (host.may_leave a (changes_file name c.root.slot)) (KeepsBelow c.root.length) (Begins c.root.length c.changes) x
      (λ d could keeps. begins_kept c.root.length c.changes d x (chosen.firm.changes d could) keeps) step

  -- at each moment the store opens as before
  opens_still : (f : Files) → ((m : List ℕ) → m ≢ changes_file name c.root.slot → host.may_leave a m (f m)) → Comes (KeepsBelow c.root.length) (host.may_leave a (changes_file name c.root.slot)) (f (changes_file name c.root.slot)) → Opens name c f
  opens_still f others own = record {
    number = k;
    chosen = chosen.roots (f (roots_file name)) (others (roots_file name) (λ e. changes_roots name c.root.slot (sym e)));
    sound = chosen.firm.sound;
    image = chosen.firm.image (f (image_file name c.root.slot)) (others (image_file name c.root.slot) (image_changes name c.root.slot c.root.slot));
    changes = stays (f (changes_file name c.root.slot)) own;
  }

  pub kept_on : IsChosen host b name k c
  kept_on =
      let apart = above.run.others told in
      record {
        which = chosen.which;
        roots = λ x can. chosen.roots x (apart.fewer (roots_file name) x (λ e. changes_roots name c.root.slot (sym e)) can);
        firm = record {
          sound = chosen.firm.sound;
          image = λ x can. chosen.firm.image x (apart.fewer (image_file name c.root.slot) x (image_changes name c.root.slot c.root.slot) can);
          changes = λ x can. stays x (above.run.own told x can);
        };
      }

  rest_on : IsAtRest host (Opens name) c b
  rest_on =
      let apart = above.run.others told in
      record { opens_as = λ f can. opens_still f (λ m other. apart.fewer m (f m) other (can m)) (above.run.own told (f (changes_file name c.root.slot)) (can (changes_file name c.root.slot))) }

  pub behind_makes : {R E : Type 0} (result : Result R E) → Makes host (Opens name) c c a b result
  behind_makes result = record {
    rest = always result;
    either = λ f can. inl (rest_on.opens_as f can);
    quiet = above.run.quiet told;
    moments = weaker host a b (λ f s. (s ≡ host.said a) × (Opens name c f ⊎ Opens name c f)) (Touched host (KeepsBelow c.root.length) (changes_file name c.root.slot) a) (above.run.moments told)
        (λ f s so. (so.quiet, inl (opens_still f so.others so.own)));
  }
    where
      always : {R E : Type 0} (result : Result R E) → OnOk result (IsAtRest host (Opens name) c b)
      always (Rattle.std.specs.Prelude.Ok x) = rest_on
      always (Rattle.std.specs.Prelude.Err e) = tt

  -- and once they are synced, the store with these bytes is firm
  pub behind_firm : (bytes : List ℕ) → IsWritten c.root.length bytes (host.files a (changes_file name c.root.slot)) (host.files b (changes_file name c.root.slot))
      → ((x : Option (List ℕ)) → host.may_leave b (changes_file name c.root.slot) x → x ≡ host.files b (changes_file name c.root.slot))
      → c.root.length + length bytes ≤ 2 ^ 30 → IsFirm host b name (grown c bytes)
  behind_firm bytes written synced fits = record {
    sound = record { slot = chosen.firm.sound.slot; base = omega (arith, chosen.firm.sound.base); limit = fits };
    image = kept_on.firm.image;
    changes = λ x can. subst (λ (y : Option (List ℕ)). Begins (c.root.length + length bytes) (c.changes ++ bytes) y) (sym (synced x can))
        (begins_more c.root.length c.changes bytes (host.files a (changes_file name c.root.slot)) (host.files b (changes_file name c.root.slot)) (chosen.firm.changes (host.files a (changes_file name c.root.slot)) reads) written);
  }

-- the same facts, by the name and the place that the code has
pub writes_to : {D : Type 0} (host : Ghosts D) (m n : List ℕ) (at k len : ℕ) (a b : D) → m ≡ n → at ≡ k → Writes host m at len a b → Writes host n k len a b
writes_to host m n at k len a b is place writes = subst (λ (x : List ℕ). Writes host x k len a b) is (subst (λ j. Writes host m j len a b) place writes)

pub written_to : (bytes m n : List ℕ) (at k : ℕ) (f g : Files) → m ≡ n → at ≡ k → IsWritten at bytes (f m) (g m) → IsWritten k bytes (f n) (g n)
written_to bytes m n at k f g is place written = subst (λ (x : List ℕ). IsWritten k bytes (f x) (g x)) is (subst (λ j. IsWritten j bytes (f m) (g m)) place written)

pub grown_root : (x : Stored) (root : Root) (bytes : List ℕ) (n : ℕ) → x.root ≡ root → length bytes ≡ n → (grown x bytes).root ≡ record root { length = root.length + n }
grown_root x root bytes n is long = λ i. record (is i) { length = (is i).length + long i }
