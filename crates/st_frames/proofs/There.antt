-- Words of registers that are narrow, and live, are there.
use Rattle.std.proofs.Common.{◌≡◌, ◌<◌, ◌≤◌, ℕ, arith, Bool, true, false, refl, ap, length, inl, inr}
use Rattle.std.specs.Prelude.{Option, None, ◌/◌, ◌%◌, ◌==◌, ◌&&◌, is_some, if◌then◌else◌}
use Rattle.std.proofs.lemmas.Bool.{cases_lt}
use Rattle.std.proofs.lemmas.Bool.Decides.{nat_tests}
use Rattle.st_model.specs.declared.word.Word.{Word}
use Rattle.st_model.specs.Values.{Value, Small, Ref, value_of, word, is_small, IsLive}
use Rattle.st_model.specs.Show.{IsUsed}
use Rattle.st_model.specs.Machine.{is_there}
use Rattle.st_model.specs.Objects.{Object}
use Rattle.st_model.specs.Table.{Table, table}
use Rattle.st_model.specs.View.{View, IsWhole, IsKnown, is_live}
use Rattle.st_model.proofs.TableLemmas.{entry_past}
use Rattle.st_frames.specs.inside.Narrow.{IsNarrow}

pub there_if : (t : Table) (b : Bool) (n : ℕ) → IsLive (IsUsed t) (if b then Small n else Ref n) → (is_small (if b then Small n else Ref n) ≡ true → n < 32768)
    → is_there table t (if b then Small n else Ref n) ≡ true
there_if t true n h s = let l = s refl in grind (arith, nat_tests, l)
there_if t false n h s = ap (λ x. is_some x) h.1

pub word_there : (t : Table) (w : Word) → IsLive (IsUsed t) (word w) → IsNarrow w → is_there table t (word w) ≡ true
unfolding value_of
word_there t w h s = there_if t (w.0 % 2 == 1) (w.0 / 2) h (λ e. let l = s e in omega (arith, l))

below_if : (t : Table) (b : Bool) (n : ℕ) → length t ≤ 32768 → is_there table t (if b then Small n else Ref n) ≡ true → n < 32768
below_if t true n long e = grind (arith, nat_tests, e)
below_if t false n long e = elim (cases_lt n 32768) [
  | inl l ↦ l
  | inr l ↦ absurd (none (entry_past t n (omega (arith, l, long))) e)
]
  where
    none : {a : Option Object} → a ≡ None → is_some a ≡ true → ⊥
    none p q = cc

-- a word that is there has 16 bits
pub word_below : (v : View) → IsWhole v → (w : ℕ) → is_there table v.objects (value_of w) ≡ true → w < 65536
unfolding value_of
word_below v whole w e = let l = below_if v.objects (w % 2 == 1) (w / 2) (let p = whole.places in omega (arith, p)) e in omega (arith, l)

-- what is there is known
pub there_known : (t : Table) (v : Value) → is_there table t v ≡ true → IsKnown t v
unfolding is_live
there_known t (Small n) e = λ big. cc
there_known t (Ref n) e = λ big. e

pub ruleset pointers = (word_below, there_known)

pub all_four : (a b c d : Bool) → a ≡ true → b ≡ true → c ≡ true → d ≡ true → (a && (b && (c && d))) ≡ true
all_four a b c d p q r s = rw (p, q, r, s) refl
