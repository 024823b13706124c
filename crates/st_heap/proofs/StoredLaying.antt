-- The words of a new object that has nothing but fields are written at once.
use Rattle.std.proofs.Common.{◌≡◌, ◌≢◌, ℕ, ◌+◌, ◌*◌, ◌<◌, ◌≤◌, Bool, true, false, List, Option, Some, None, ◌++◌, length, take, get_or, set, replicate, refl, sym, ap, ◌∙◌, arith, length-set}
use Rattle.std.specs.Prelude.{◌==◌, ◌&&◌, nat_lt, if◌then◌else◌, unwrap_or}
use Rattle.std.proofs.Math.ListN.{drop_of_length-le}
use Rattle.std.proofs.lemmas.List.{append-nil, length-replicate, length-take-le, ext_get_or, get_or-take, get_or-replicate, get_or-set_same, get_or-set_other}
use Rattle.st_model.specs.declared.kind.Kind.{Kind}
use Rattle.st_model.specs.Objects.{is_method}
use Rattle.st_cells.specs.inside.Words.{with_run}
use Rattle.st_cells.proofs.Written.{run_is}
use Rattle.st_heap.specs.declared.adding.ObjectLayout.{ObjectLayout}
use Rattle.st_heap.specs.inside.Stored.{Stored, run, slot, stored, nothing_stored, Takes}
use Rattle.st_heap.specs.inside.Fresh.{new_cell}
use Rattle.st_heap.proofs.Runs.{length-run, get_or-run}

-- as many words over all that stood there
pub all_over : (us ws : List ℕ) → length ws ≡ length us → with_run us 0 ws ≡ ws
all_over us ws same =
    sym (run_is us 0 ws (omega (arith, same))) ∙ ap (λ xs. ws ++ xs) (drop_of_length-le us (omega (arith, same))) ∙ append-nil ws

module _ (f : ObjectLayout) (plain : is_method f.kind ≡ false) (fields : f.words ≡ 2 + f.fields) (few : f.words ≤ 40) where
  -- words of nil, of which the first two are the size and the class
  abbrev pub laid : List ℕ
  laid = set (set (replicate 40 2) 0 f.words) 1 f.class.0

  long : length laid ≡ 40
  long = length-set (set (replicate 40 2) 0 f.words) 1 f.class.0 ∙ length-set (replicate 40 2) 0 f.words ∙ length-replicate {A = ℕ} 40 2

  laid_word : (i : ℕ) → i < f.words → get_or laid i 0 ≡ new_cell f i
  laid_word i l = by_place (i == 0) (i == 1) (nat_lt i (2 + f.fields)) refl refl refl
    where
      first : List ℕ
      first = set (replicate 40 2) 0 f.words

      by_place : (a b c : Bool) → (i == 0) ≡ a → (i == 1) ≡ b → nat_lt i (2 + f.fields) ≡ c
          → get_or laid i 0 ≡ (if a then f.words else if b then f.class.0 else if c then (if is_method f.kind && i == 2 then 2 * f.literals + 1 else 2) else 0)
      by_place true b c p q r =
          let z : i ≡ 0 = grind (arith, p) in
          let size = length-replicate {A = ℕ} 40 2 in
          get_or-set_other first 1 i f.class.0 0 (λ e. absurd (omega (arith, z, e))) ∙ ap (λ n. get_or first n 0) z ∙ get_or-set_same (replicate 40 2) 0 f.words 0 (omega (arith, size))
      by_place false true c p q r =
          let z : i ≡ 1 = grind (arith, q) in
          let size = length-set (replicate 40 2) 0 f.words ∙ length-replicate {A = ℕ} 40 2 in
          ap (λ n. get_or laid n 0) z ∙ get_or-set_same first 1 f.class.0 0 (omega (arith, size))
      by_place false false true p q r =
          let ne : i ≢ 0 = λ z. grind (arith, p, z) in
          let ne' : i ≢ 1 = λ z. grind (arith, q, z) in
          get_or-set_other first 1 i f.class.0 0 ne' ∙ get_or-set_other (replicate 40 2) 0 i f.words 0 ne ∙ get_or-replicate 40 i 2 0 (omega (arith, l, few))
          ∙ ap (λ m. if m && i == 2 then 2 * f.literals + 1 else 2) (sym plain)
      by_place false false false p q r = absurd (grind (arith, r, l, fields))

  pub laid_is : take f.words laid ≡ run (new_cell f) f.words
  laid_is =
      let taken : length (take f.words laid) ≡ f.words = length-take-le f.words laid (omega (arith, few, long)) in
      ext_get_or 0 (take f.words laid) (run (new_cell f) f.words) (taken ∙ sym (length-run (new_cell f) f.words)) (λ i l.
      let l' : i < f.words = omega (arith, l, taken) in
      get_or-take f.words laid i 0 l' ∙ laid_word i l' ∙ sym (get_or-run (new_cell f) f.words i 0 l'))

-- what is stored once so many words were taken
module _ (all all' : List (Option Stored)) (k : ℕ) (kind : Kind) (odd : Bool) (n : ℕ) (t : Takes all all' k kind odd n) (last : k < length all) where
  pub slot_taken : slot all' k ≡ Some (record { kind = kind; odd = odd; cells = t.cells })
  slot_taken = ap (λ xs. slot xs k) t.is ∙ get_or-set_same all k (Some (record { kind = kind; odd = odd; cells = t.cells })) None last

  pub stored_taken : stored all' k ≡ record { kind = kind; odd = odd; cells = t.cells }
  stored_taken = ap (λ x. unwrap_or x nothing_stored) slot_taken

  pub length_taken : length (stored all' k).cells ≡ n
  length_taken = ap (λ (s : Stored). length s.cells) stored_taken ∙ t.long
