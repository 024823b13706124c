-- The lines of the objects up to a place, and up to the next one that there is.
use Rattle.std.proofs.Common.{◌≡◌, ℕ, ◌+◌, ◌*◌, ◌/◌, ◌<◌, ◌≤◌, zero, suc, true, false, [], ◌∷◌, ◌++◌, length, take, drop, refl, sym, ap, subst, ◌∙◌, arith, append_assoc, append-nil}
use Rattle.std.specs.Prelude.{Option, Some, None, ◌%◌, ◌==◌}
use Rattle.std.proofs.lemmas.Bool.Decides.{nat_tests}
use Rattle.st_model.specs.declared.oop.Oop.{Oop}
use Rattle.st_model.specs.Values.{Ref, value, value_of}
use Rattle.st_model.specs.Objects.{Object}
use Rattle.st_model.specs.Table.{Table, entry}
use Rattle.st_model.specs.View.{is_live, object_of, nothing}
use Rattle.st_memory.proofs.Bodies.{even_pointer}
use Rattle.st_model.specs.Text.{object_text, objects_text}
use Rattle.st_writer.proofs.Places.{some_there, none_there}

-- nothing stands from one place up to another
abbrev pub IsEmptyFrom : Table → ℕ → ℕ → Type 0
IsEmptyFrom t n m = (j : ℕ) → n ≤ j → j < m → entry t j ≡ None

later : (t : Table) (e : Option Object) (n m : ℕ) → IsEmptyFrom (e ∷ t) (suc n) (suc m) → IsEmptyFrom t n m
later t e n m none j low high = none (suc j) (omega (arith, low)) (omega (arith, high))

first : (t : Table) (e : Option Object) (m : ℕ) → IsEmptyFrom (e ∷ t) 0 (suc m) → IsEmptyFrom t 0 m
first t e m none j low high = none (suc j) (omega arith) (omega (arith, high))

line : (p q : ℕ) (o : Object) → p ≡ q → object_text p o ≡ object_text q o
line p q o e = ap (λ n. object_text n o) e

pub next_line : (k n m : ℕ) (t : Table) (o : Object) → n ≤ m → IsEmptyFrom t n m → entry t m ≡ Some o
    → objects_text k (take (suc m) t) ≡ objects_text k (take n t) ++ object_text (k + m) o
next_line k n m [] o l none there = cc
next_line k zero zero (e ∷ t) o l none there = rw there (append-nil (object_text k o) ∙ line k (k + 0) o (omega arith))
next_line k zero (suc m) (e ∷ t) o l none there =
    let empty : e ≡ None = none 0 (omega arith) (omega arith) in
    rw empty (next_line (suc k) 0 m t o (omega arith) (first t e m none) there ∙ line (suc k + m) (k + suc m) o (omega arith))
next_line k (suc n) zero (e ∷ t) o l none there = absurd (omega (arith, l))
next_line k (suc n) (suc m) (None ∷ t) o l none there =
    next_line (suc k) n m t o (omega (arith, l)) (later t None n m none) there
    ∙ ap (λ u. objects_text (suc k) (take n t) ++ u) (line (suc k + m) (k + suc m) o (omega arith))
next_line k (suc n) (suc m) (Some p ∷ t) o l none there =
    ap (λ u. object_text k p ++ u) (next_line (suc k) n m t o (omega (arith, l)) (later t (Some p) n m none) there)
    ∙ (sym (append_assoc (object_text k p) (objects_text (suc k) (take n t)) (object_text (suc k + m) o))
    ∙ ap (λ u. (object_text k p ++ objects_text (suc k) (take n t)) ++ u) (line (suc k + m) (k + suc m) o (omega arith)))

pub cut_lines : (k n : ℕ) (t : Table) → objects_text k t ≡ objects_text k (take n t) ++ objects_text (k + n) (drop n t)
cut_lines k zero t = ap (λ p. objects_text p t) (omega arith)
cut_lines k (suc n) [] = refl
cut_lines k (suc n) (None ∷ t) = cut_lines (suc k) n t ∙ ap (λ p. objects_text (suc k) (take n t) ++ objects_text p (drop n t)) (omega arith)
cut_lines k (suc n) (Some o ∷ t) =
    ap (λ u. object_text k o ++ u) (cut_lines (suc k) n t)
    ∙ (sym (append_assoc (object_text k o) (objects_text (suc k) (take n t)) (objects_text (suc k + n) (drop n t)))
    ∙ ap (λ p. (object_text k o ++ objects_text (suc k) (take n t)) ++ objects_text p (drop n t)) (omega arith))

pub no_lines : (k : ℕ) (t : Table) → IsEmptyFrom t 0 (length t) → objects_text k t ≡ []
no_lines k [] none = refl
no_lines k (e ∷ t) none =
    let empty : e ≡ None = none 0 (omega arith) (omega arith) in
    rw empty (no_lines (suc k) t (first t e (length t) none))

pub all_lines : (k n : ℕ) (t : Table) → IsEmptyFrom t n (length t) → objects_text k t ≡ objects_text k (take n t)
all_lines k zero [] none = refl
all_lines k (suc n) [] none = refl
all_lines k zero (e ∷ t) none = no_lines k (e ∷ t) none
all_lines k (suc n) (None ∷ t) none = all_lines (suc k) n t (later t None n (length t) none)
all_lines k (suc n) (Some o ∷ t) none = ap (λ u. object_text k o ++ u) (all_lines (suc k) n t (later t (Some o) n (length t) none))

-- no object stands at place 0
pub first_line : (t : Table) → entry t 0 ≡ None → objects_text 0 (take 1 t) ≡ []
first_line [] none = refl
first_line (None ∷ t) none = refl
first_line (Some o ∷ t) none = cc

-- the word of a place, and what a live pointer shows of the table
pub value_of-even : (j : ℕ) → value_of (2 * j) ≡ Ref j
unfolding value_of
value_of-even j =
    let b : ((2 * j) % 2 == 1) ≡ false = grind (arith, nat_tests) in
    let h : (2 * j) / 2 ≡ j = grind arith in
    rw b (ap Ref h)

dead_place : (t : Table) (j : ℕ) → is_live t (Ref j) ≡ false → entry t j ≡ None
unfolding is_live
dead_place t j dead = none_there (entry t j) dead

live_place : (t : Table) (j : ℕ) → is_live t (Ref j) ≡ true → entry t j ≡ Some (object_of t (Ref j))
unfolding is_live object_of
live_place t j live = some_there (entry t j) live

pub live_entry : (t : Table) (w : ℕ) → is_live t (value_of w) ≡ true → entry t (w / 2) ≡ Some (object_of t (value_of w))
live_entry t w live =
    let even = even_pointer t w live in
    let same : value_of w ≡ Ref (w / 2) = ap value_of (sym even) ∙ value_of-even (w / 2) in
    live_place t (w / 2) (subst (λ v. is_live t v ≡ true) same live) ∙ ap (λ v. Some (object_of t v)) (sym same)

-- pointers that are not live leave their places empty
pub empty_from : (t : Table) (after end : ℕ) → ((p : Oop) → after < p.0 → p.0 < end → is_live t (value p) ≡ false) → IsEmptyFrom t (after / 2 + 1) (end / 2)
empty_from t after end dead j low high =
    let p : Oop = record { 0 = 2 * j } in
    dead_place t j (subst (λ v. is_live t v ≡ false) (value_of-even j) (dead p (omega (arith, low)) (omega (arith, high))))
