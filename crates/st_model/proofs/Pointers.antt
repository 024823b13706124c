-- Even words are pointers, and pointers are even words.
use Rattle.std.proofs.Common.{◌≡◌, ℕ, ◌+◌, ◌*◌, ◌%◌, ◌/◌, ◌<◌, Bool, true, false, sym, ap, ◌∙◌, refl, arith}
use Rattle.std.specs.Prelude.{◌==◌, if◌then◌else◌}
use Rattle.std.proofs.lemmas.Bool.Decides.{nat_tests}
use Rattle.st_model.specs.Values.{Value, Small, Ref, value_of, is_small}
use Rattle.st_model.specs.Formed.{IsWord}
use Rattle.st_model.specs.Settled.{names}
use Rattle.st_model.proofs.Words.{is_small-value_of}

even_if : (w : ℕ) (odd : Bool) → is_small (if odd then Small (w / 2) else Ref (w / 2)) ≡ false → (if odd then Small (w / 2) else Ref (w / 2)) ≡ Ref (w / 2)
even_if w true h = cc
even_if w false h = refl

-- a word that is no SmallInteger names its half
pub value_of-even : (w : ℕ) → is_small (value_of w) ≡ false → value_of w ≡ Ref (w / 2)
unfolding value_of
value_of-even w h = even_if w (w % 2 == 1) h

pub value_of-pointer : (k : ℕ) → value_of (2 * k) ≡ Ref k
unfolding value_of
value_of-pointer k =
    let e : (2 * k % 2 == 1) ≡ false = grind (arith, nat_tests) in
    let h : 2 * k / 2 ≡ k = omega arith in
    rw (e, h) refl

word_if : (n : ℕ) (odd : Bool) → n < 32768 → IsWord (if odd then Small n else Ref n)
word_if n true h = h
word_if n false h = tt

pub IsWord-value_of : (w : ℕ) → w < 65536 → IsWord (value_of w)
unfolding value_of
IsWord-value_of w h = word_if (w / 2) (w % 2 == 1) (omega arith)

pub names-small : (v : Value) (n : ℕ) → is_small v ≡ true → names v n ≡ false
names-small (Small x) n h = refl
names-small (Ref x) n h = cc

pub names-even : (w n : ℕ) → is_small (value_of w) ≡ false → names (value_of w) n ≡ (n == w / 2)
names-even w n h = ap (λ v. names v n) (value_of-even w h)

pub value_of-odd : (n : ℕ) → value_of (2 * n + 1) ≡ Small n
unfolding value_of
value_of-odd n =
    let e : ((2 * n + 1) % 2 == 1) ≡ true = grind (arith, nat_tests) in
    let h : (2 * n + 1) / 2 ≡ n = omega arith in
    rw (e, h) refl

pub even_word : (w : ℕ) → is_small (value_of w) ≡ false → w % 2 ≡ 0
even_word w h =
    let e : (w % 2 == 1) ≡ false = sym (is_small-value_of w) ∙ h in
    grind (arith, nat_tests)
