-- From what a store has in its files to the commit that it holds.
use Rattle.std.proofs.Common.{◌≡◌, inl, inr, ⊎_elim, ℕ, ◌+◌, ◌-◌, List, [], ◌∷◌, ◌++◌, length, IsTrue, sym, ap, subst, ◌∙◌, append_assoc, length-append}
use Rattle.std.specs.Prelude.{◌⊎◌, Result, Ok, Err, OnOk, All}
use Rattle.std.proofs.lemmas.List.{append-nil}
use Rattle.st_host.specs.Files.{Files}
use Rattle.st_host.specs.Runs.{IsAtRest, Makes}
use Rattle.st_host.specs.declared.host.Host.{Ghosts}
use Rattle.st_host.proofs.Joining.{weaker}
use Rattle.st_chunk.specs.Definitions.{Definition, IsDefinition, entry, entries}
use Rattle.st_store.specs.Stored.{Opens}
use Rattle.st_store.specs.Faults.{RestsUnlessGate}
use Rattle.st_store.proofs.Turning.{rests}
use Rattle.st_changes.specs.inside.States.{grown, next_store}
use Rattle.st_changes.proofs.ListTexts.{entries_more}
use Rattle.st_recover.specs.inside.Archives.{ArchiveState, Holds, store_of}
use Rattle.st_recover.specs.Images.{IsReadable}
use Rattle.st_recover.specs.Commits.{Commit, OpensAs, all_of, accepted, imaged, root_of, stored_of, other_image}

pub all_accepted : (c : Commit) (d : Definition) → all_of (accepted c d) ≡ all_of c ++ d ∷ []
all_accepted c d = sym (append_assoc c.before c.definitions (d ∷ []))

-- one definition more is one entry more
pub grown_accepted : (slot : ℕ) (c : Commit) (d : Definition) → grown (stored_of slot c) (entry d) ≡ stored_of slot (accepted c d)
grown_accepted slot c d =
    let bytes : entries (all_of c) ++ entry d ≡ entries (all_of (accepted c d)) = sym (ap entries (all_accepted c d) ∙ entries_more (all_of c) d) in
    let long : length (entries (all_of c)) + length (entry d) ≡ length (entries (all_of (accepted c d))) = sym (length-append (entries (all_of c)) (entry d)) ∙ ap length bytes in
    λ i. record {
      root = record { slot = slot; image_length = length c.image; base = length (entries c.before); length = long i };
      image = c.image;
      changes = bytes i;
    }

pub next_accepted : (name : List ℕ) (chosen slot : ℕ) (c : Commit) (d : Definition)
    → next_store (store_of name chosen slot c) (entry d) ≡ store_of name (1 - chosen) slot (accepted c d)
next_accepted name chosen slot c d = λ i. record { name = name; chosen = 1 - chosen; root = (grown_accepted slot c d i).root }

-- the root behind a snapshot
pub root_imaged : (slot : ℕ) (c : Commit) (image : List ℕ) (at l m n : ℕ) → at ≡ other_image slot → l ≡ length image → m ≡ length (entries (all_of c)) → n ≡ length (entries (all_of c))
    → root_of (other_image slot) (imaged c image) ≡ record { slot = at; image_length = l; base = m; length = n }
root_imaged slot c image at l m n at_is l_is m_is n_is =
    let long : length (entries (all_of (imaged c image))) ≡ n = ap (λ (ds : List Definition). length (entries ds)) (append-nil (all_of c)) ∙ sym n_is in
    λ i. record { slot = sym at_is i; image_length = sym l_is i; base = sym m_is i; length = long i }

-- the image of a commit can be read, and its definitions are some
pub record IsOpenable (c : Commit) : Type 0 where
  pub readable : IsReadable c.image
  pub good : All IsDefinition (all_of c)

module _ (name : List ℕ) where
  as_commit : (slot : ℕ) (c : Commit) (f : Files) → IsOpenable c → Opens name (stored_of slot c) f → OpensAs name c f
  as_commit slot c f openable opens = record { slot = slot; opens = opens; readable = openable.readable; good = openable.good }

  either_commit : (s t : ℕ) (c d : Commit) (f : Files) → IsOpenable c → IsOpenable d → Opens name (stored_of s c) f ⊎ Opens name (stored_of t d) f
      → OpensAs name c f ⊎ OpensAs name d f
  either_commit s t c d f first second so = ⊎_elim (λ was. inl (as_commit s c f first was)) (λ is. inr (as_commit t d f second is)) so

  module _ {D : Type 0} (host : Ghosts D) where
    rest_as : {R E : Type 0} (slot : ℕ) (c : Commit) (h : D) (result : Result R E) → IsOpenable c → OnOk result (IsAtRest host (Opens name) (stored_of slot c) h) → OnOk result (IsAtRest host (OpensAs name) c h)
    rest_as slot c h (Ok x) readable rest = record { opens_as = λ f can. as_commit slot c f readable (rest.opens_as f can) }
    rest_as slot c h (Err e) readable rest = tt

    -- what makes one store of another makes one commit of another, where these can be read
    pub makes_commit : {R E : Type 0} (s t : ℕ) (c d : Commit) (a b : D) (result : Result R E) → IsOpenable c → IsOpenable d → Makes host (Opens name) (stored_of s c) (stored_of t d) a b result → Makes host (OpensAs name) c d a b result
    makes_commit s t c d a b result first second makes = record {
      rest = rest_as t d b result second makes.rest;
      either = λ f can. either_commit s t c d f first second (makes.either f can);
      quiet = makes.quiet;
      moments = weaker host a b (λ f w. (w ≡ host.said a) × (OpensAs name c f ⊎ OpensAs name d f)) (λ f w. (w ≡ host.said a) × (Opens name (stored_of s c) f ⊎ Opens name (stored_of t d) f))
          makes.moments (λ f w so. (so.0, either_commit s t c d f first second so.1));
    }

-- what stands of a store after a fault stands of the commit
pub broken_commit : {D : Type 0} (host : Ghosts D) (name n : List ℕ) (slot : ℕ) (c : Commit) (h : D) → IsOpenable c → n ≡ name → RestsUnlessGate host (Opens n) n (stored_of slot c) h → RestsUnlessGate host (OpensAs name) name c h
broken_commit {D = D} host name n slot c h openable named broken = ⊎_elim
    (λ rest. inl (as_rest h rest))
    (λ gate. let fails = gate.fails in inr (record { fails = record { before = fails.before; rest = as_rest fails.before fails.rest; writes = fails.writes; fault = fails.fault }; ready = gate.ready }))
    (subst (λ (x : List ℕ). RestsUnlessGate host (Opens x) x (stored_of slot c) h) named broken)
  where
    as_rest : (x : D) → IsAtRest host (Opens name) (stored_of slot c) x → IsAtRest host (OpensAs name) c x
    as_rest x rest = record { opens_as = λ f can. as_commit name slot c f openable (rest.opens_as f can) }

-- what an archive holds can be read
pub held_openable : {D : Type 0} (host : Ghosts D) (h : D) (a : ArchiveState) (c : Commit) → Holds host h a c → IsOpenable c
held_openable host h a c holds = record { readable = holds.readable; good = holds.good }

-- an archive that holds a commit is at rest
pub holds_rest : {D : Type 0} (host : Ghosts D) (h : D) (a : ArchiveState) (c : Commit) → Holds host h a c → IsTrue host.is_told → IsAtRest host (OpensAs a.name) c h
holds_rest host h a c holds told = record {
  opens_as = λ f can. as_commit a.name holds.slot c f (held_openable host h a c holds) (rests host a.name h holds.chosen (stored_of holds.slot c) f (holds.kept told).is can);
}
