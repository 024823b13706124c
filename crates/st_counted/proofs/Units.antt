-- Words, bytes and headers keep to what the form of an object allows.
use Rattle.std.proofs.Common.{◌≡◌, ◌≢◌, ℕ, ◌+◌, ◌/◌, ◌<◌, ◌≤◌, true, false, refl, sym, subst, arith}
use Rattle.std.specs.Prelude.{Some, slice_get}
use Rattle.st_model.specs.declared.kind.Kind.{Kind}
use Rattle.st_model.specs.Values.{Value, value_of, is_small}
use Rattle.st_model.specs.Objects.{Object, one, words_of, is_words}
use Rattle.st_model.specs.Formed.{IsHeader, IsMakeable, fresh, unit_limit}
use Rattle.st_model.specs.inside.Loading.{IsLoading}
use Rattle.st_model.specs.Table.{total_used}
use Rattle.st_model.specs.View.{View, IsWhole, is_live, object_of, with_object}
use Rattle.st_model.proofs.FormedLemmas.{unit_limit-byte, unit_limit-word, formed_fresh}
use Rattle.st_model.proofs.LoadingLemmas.{loading_placed}
use Rattle.st_model.proofs.Pointers.{value_of-even, even_word}
use Rattle.st_model.proofs.WholeLemmas.{formed_live}

-- a byte fits where no words are, and a word where they are
pub byte_fits : (o : Object) (b : ℕ) → is_words o.kind ≡ false → b < 256 → b < unit_limit o.kind
byte_fits o b bytes small = subst (λ n. b < n) (sym (unit_limit-byte o.kind bytes)) small

pub word_fits : (o : Object) (u : ℕ) → is_words o.kind ≡ true → u < 65536 → u < unit_limit o.kind
word_fits o u words small = subst (λ n. u < n) (sym (unit_limit-word o.kind words)) small

-- a byte that is read is one
pub byte_small : (v : View) (x : Value) (i b : ℕ) → IsWhole v → is_live v.objects x ≡ true → is_words (object_of v.objects x).kind ≡ false → slice_get (object_of v.objects x).units i ≡ Some b → b < 256
byte_small v x i b whole live bytes read = subst (λ n. b < n) (unit_limit-byte (object_of v.objects x).kind bytes) ((formed_live v whole x live).units i b read)

-- the first literal that is read of a method is its header
pub header_read : (v : View) (x y : Value) (i : ℕ) → IsWhole v → is_live v.objects x ≡ true → slice_get (object_of v.objects x).fields i ≡ Some y → IsHeader (object_of v.objects x) i y
header_read v x y i whole live read = λ method first. (formed_live v whole x live).header y (subst (λ k. slice_get (object_of v.objects x).fields k ≡ Some y) first read) method refl

-- a new object at a free pointer leaves the placed objects formed
pub loading_fresh : (v w : View) (at class : ℕ) (k : Kind) (size literals : ℕ) → IsLoading v → is_small (value_of at) ≡ false → at ≢ 0 → at < 65536 → is_live v.objects (value_of at) ≡ false → IsMakeable class k size literals
    → total_used one v.objects + 1 ≤ v.head.entries → total_used words_of v.objects + words_of (fresh class k size literals) ≤ v.head.words
    → w.objects ≡ with_object v.objects (value_of at) (fresh class k size literals) → w.held ≡ v.held → w.head ≡ v.head → IsLoading w
loading_fresh v w at class k size literals loading pointer borne small free makeable =
    let even = even_word at pointer in
    let some : at / 2 ≢ 0 = λ q. borne (omega (arith, q, even)) in
    loading_placed v w (value_of at) (at / 2) (fresh class k size literals) loading (value_of-even at pointer) some (omega (arith, small)) free (formed_fresh class k size literals makeable)
