-- Literals that are Symbols.
use Rattle.std.proofs.Common.{◌≡◌, ℕ, suc, ◌+◌, ◌/◌, List, drop, Some, None, Bool, true, false, refl, sym, ap, ◌∙◌, arith}
use Rattle.std.specs.Prelude.{slice_get, ◌||◌, ◌&&◌, ◌==◌, ◌%◌, if◌then◌else◌}
use Rattle.std.specs.List.{list_any}
use Rattle.std.proofs.lemmas.Bool.Decides.{nat_tests}
use Rattle.st_model.specs.Values.{Value, Small, Ref, value_of}
use Rattle.st_model.specs.Objects.{is_bytes}
use Rattle.st_model.specs.Table.{Table}
use Rattle.st_model.specs.View.{is_live, object_of}
use Rattle.st_scope.specs.Tables.{is_text}
use Rattle.st_scope.specs.Texts.{text_at}
use Rattle.st_browse.proofs.Parting.{dropped}

-- what has a text is there
pub text_lives : (t : Table) (v : Value) (text : List ℕ) (b : Bool) → b ≡ is_text text (text_at t v) → b ≡ true → is_live t v ≡ true
unfolding text_at
text_lives t v text b e f = by (is_live t v) refl (sym f ∙ e)
  where
    by : (l : Bool) → is_live t v ≡ l → true ≡ is_text text (if is_live t v && is_bytes (object_of t v).kind then Some (object_of t v).units else None) → is_live t v ≡ true
    by true l h = l
    by false l h = let z : true ≡ false = h ∙ rw l refl in cc

word_is : (w n : ℕ) (b : Bool) → (w % 2 == 1) ≡ b → (if b then Small (w / 2) else Ref (w / 2)) ≡ Ref n → (w == 56) ≡ (n == 28)
word_is w n true e f = cc
word_is w n false e f = let q : w / 2 ≡ n = cc in grind (arith, nat_tests, e, q)

pub class_word : (w n : ℕ) → value_of w ≡ Ref n → (w == 56) ≡ (n == 28)
unfolding value_of
class_word w n e = word_is w n (w % 2 == 1) refl e

pub is_symbol_by : (t : Table) (v : Value) (text : List ℕ) (w : ℕ) (b : Bool) → value_of w ≡ Ref (object_of t v).class → b ≡ is_text text (text_at t v) → b ≡ true
    → (w == 56) ≡ (((object_of t v).class == 28) && is_text text (text_at t v))
is_symbol_by t v text w b e f g = rw (sym f ∙ g) (class_word w (object_of t v).class e ∙ with_true ((object_of t v).class == 28))
  where
    with_true : (x : Bool) → x ≡ (x && true)
    with_true true = refl
    with_true false = refl

pub no_symbol : (t : Table) (v : Value) (text : List ℕ) (b : Bool) → b ≡ is_text text (text_at t v) → b ≡ false
    → false ≡ (((object_of t v).class == 28) && is_text text (text_at t v))
no_symbol t v text b f g = rw (sym f ∙ g) (with_false ((object_of t v).class == 28))
  where
    with_false : (x : Bool) → false ≡ (x && false)
    with_false true = refl
    with_false false = refl

pub ruleset symbols = (text_lives, is_symbol_by, no_symbol)

-- A TEST OF THE FIRST THAT IS LEFT

module _ {A : Type 0} (p : A → Bool) (xs : List A) (i : ℕ) (x : A) (e : slice_get xs i ≡ Some x) (all : Bool) (h : list_any p (drop i xs) ≡ all) where
  parts : list_any p (drop i xs) ≡ p x || list_any p (drop (suc i) xs)
  parts = ap (list_any p) (dropped xs i x e)

  pub any_here : p x ≡ true → true ≡ all
  any_here f = sym (parts ∙ ap (λ b. b || list_any p (drop (suc i) xs)) f) ∙ h

  pub any_next : p x ≡ false → list_any p (drop (i + 1) xs) ≡ all
  any_next f =
      let z : i + 1 ≡ suc i = omega arith in
      ap (λ j. list_any p (drop j xs)) z ∙ (sym (parts ∙ ap (λ b. b || list_any p (drop (suc i) xs)) f) ∙ h)
