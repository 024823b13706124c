-- A gate that failed is the store's own, or the store is at rest.
use Rattle.std.proofs.Common.{◌≡◌, ◌≢◌, inl, inr, ⊎_elim, ℕ, zero, suc, ◌+◌, ◌-◌, List, ◌++◌, length, slice_index, codes, IsTrue, refl, sym, subst, ap, ◌∙◌, arith, length-append}
use Rattle.std.specs.Prelude.{◌⊎◌}
use Rattle.std.proofs.lemmas.List.{append_cancel_right, get_or-append_right}
use Rattle.st_host.specs.Files.{Files}
use Rattle.st_host.specs.inside.Names.{same_or_other}
use Rattle.st_host.specs.Runs.{IsAtRest}
use Rattle.st_host.specs.declared.host.Host.{Ghosts}
use Rattle.st_store.specs.Names.{roots_file, changes_file, image_file}
use Rattle.st_store.specs.Roots.{Chooses}
use Rattle.st_store.specs.Stored.{Stored, Begins, Opens}
use Rattle.st_store.specs.Faults.{GateFails, RestsUnlessGate}
use Rattle.st_recover.specs.Commits.{Commit, OpensAs}

-- endings that differ in a letter, where the second is so much longer than the first
shifted : (a b s t : List ℕ) (k x y : ℕ) → k + length s ≡ length t → slice_index s 0 ≡ x → slice_index t k ≡ y → x ≢ y → a ++ s ≢ b ++ t
shifted a b s t k x y more first second other same =
    let both : length a + length s ≡ length b + length t = sym (length-append a s) ∙ ap length same ∙ length-append b t in
    let long : length a ≡ length b + k = omega (arith, both, more) in
    let here : slice_index (a ++ s) (length a) ≡ slice_index s 0 =
    get_or-append_right a s (length a) (length a) 0 refl (omega arith) ∙ ap (λ (j : ℕ). slice_index s j) (let e : length a - length a ≡ 0 = omega arith in e) in
    let there : slice_index (b ++ t) (length a) ≡ slice_index t k =
    get_or-append_right b t (length b) (length a) 0 refl (omega (arith, long)) ∙ ap (λ (j : ℕ). slice_index t j) (let e : length a - length b ≡ k = omega (arith, long) in e) in
    other (sym first ∙ sym here ∙ ap (λ (z : List ℕ). slice_index z (length a)) same ∙ there ∙ second)

-- the roots file of a store is none of the other files of another
module _ (a b : List ℕ) where
  roots_changes : (slot : ℕ) → roots_file a ≢ changes_file b slot
  roots_changes zero = shifted a b (codes ".roots") (codes ".changes") 2 46 104 refl refl refl (λ e. omega (arith, e))
  roots_changes (suc zero) = shifted a b (codes ".roots") (codes ".changes") 2 46 104 refl refl refl (λ e. omega (arith, e))
  roots_changes (suc (suc n)) = shifted a b (codes ".roots") (codes ".changes2") 3 46 97 refl refl refl (λ e. omega (arith, e))

  image_roots : (slot : ℕ) → image_file b slot ≢ roots_file a
  image_roots zero = shifted b a (codes ".a") (codes ".roots") 4 46 116 refl refl refl (λ e. omega (arith, e))
  image_roots (suc zero) = shifted b a (codes ".b") (codes ".roots") 4 46 116 refl refl refl (λ e. omega (arith, e))
  image_roots (suc (suc n)) = image_roots n

-- what files open as is in those of its name
opens_alike : (name : List ℕ) (c : Stored) (f g : Files) → f (roots_file name) ≡ g (roots_file name) → ((slot : ℕ) → f (changes_file name slot) ≡ g (changes_file name slot))
    → ((slot : ℕ) → f (image_file name slot) ≡ g (image_file name slot)) → Opens name c f → Opens name c g
opens_alike name c f g roots changes images opens = record {
  number = opens.number;
  chosen = subst (Chooses opens.number c.root) roots opens.chosen;
  sound = opens.sound;
  image = subst (Begins c.root.image_length c.image) (images c.root.slot) opens.image;
  changes = subst (Begins c.root.length c.changes) (changes c.root.slot) opens.changes;
}

module _ {D : Type 0} (host : Ghosts D) (name other : List ℕ) (c : Commit) (new : D) (told : IsTrue host.is_told) (reads : (h : D) (n : List ℕ) → host.may_leave h n (host.files h n)) where
  -- the roots file of another store was written
  elsewhere : other ≢ name → GateFails host (OpensAs name) other c new → IsAtRest host (OpensAs name) c new
  elsewhere apart gate = record { opens_as = opens }
    where
      own : roots_file name ≢ roots_file other
      own same = apart (sym (append_cancel_right name other (codes ".roots") same))

      mixed : Files → Files
      mixed f n = ⊎_elim (λ is. host.files gate.fails.before n) (λ differs. f n) (same_or_other n (roots_file other))

      as_was : (f : Files) (n : List ℕ) → n ≢ roots_file other → mixed f n ≡ f n
      as_was f n differs = over (same_or_other n (roots_file other))
        where
          over : (x : (n ≡ roots_file other) ⊎ (n ≢ roots_file other)) → ⊎_elim (λ is. host.files gate.fails.before n) (λ differs. f n) x ≡ f n
          over (inl is) = absurd (differs is)
          over (inr apart) = refl

      could : (f : Files) → ((n : List ℕ) → host.may_leave new n (f n)) → (n : List ℕ) → host.may_leave gate.fails.before n (mixed f n)
      could f can n = over (same_or_other n (roots_file other))
        where
          over : (x : (n ≡ roots_file other) ⊎ (n ≢ roots_file other)) → host.may_leave gate.fails.before n (⊎_elim (λ is. host.files gate.fails.before n) (λ differs. f n) x)
          over (inl is) = reads gate.fails.before n
          over (inr differs) = (gate.fails.writes.run.others told).fewer n (f n) differs (can n)

      opens : (f : Files) → ((n : List ℕ) → host.may_leave new n (f n)) → OpensAs name c f
      opens f can =
          let was = gate.fails.rest.opens_as (mixed f) (could f can) in
          record {
            slot = was.slot;
            opens = opens_alike name _ (mixed f) f (as_was f (roots_file name) own) (λ slot. as_was f (changes_file name slot) (λ e. roots_changes other name slot (sym e))) (λ slot. as_was f (image_file name slot) (image_roots other name slot)) was.opens;
            readable = was.readable;
            good = was.good;
          }

  pub own_gate : GateFails host (OpensAs name) other c new → RestsUnlessGate host (OpensAs name) name c new
  own_gate gate = ⊎_elim
      (λ same. inr (subst (λ (n : List ℕ). GateFails host (OpensAs name) n c new) same gate))
      (λ apart. inl (elsewhere apart gate))
      (same_or_other other name)
