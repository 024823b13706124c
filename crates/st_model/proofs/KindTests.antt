-- Kinds of bodies, told apart.
use Rattle.std.proofs.Common.{◌≡◌, Bool, true, false, refl}
use Rattle.std.specs.Prelude.{◌&&◌}
use Rattle.st_model.specs.declared.kind.Kind.{Kind}
use Rattle.st_model.specs.declared.kind.Kind.TheVariants as kind
use Rattle.st_model.specs.Objects.{is_pointers, is_words, is_bytes, is_method, has_bytes, holds_fields}

untrue : (a b : Bool) → a && b ≡ false → a ≡ true → b ≡ false
untrue true b h e = h
untrue false b h e = cc

-- where no kind answers both tests, one that answers the first does not answer the second
apart : (p q : Kind → Bool) → p kind.Pointers && q kind.Pointers ≡ false → p kind.Words && q kind.Words ≡ false → p kind.Bytes && q kind.Bytes ≡ false → p kind.Method && q kind.Method ≡ false
    → (k : Kind) → p k ≡ true → q k ≡ false
apart p q pointers words bytes method kind.Pointers = untrue (p kind.Pointers) (q kind.Pointers) pointers
apart p q pointers words bytes method kind.Words = untrue (p kind.Words) (q kind.Words) words
apart p q pointers words bytes method kind.Bytes = untrue (p kind.Bytes) (q kind.Bytes) bytes
apart p q pointers words bytes method kind.Method = untrue (p kind.Method) (q kind.Method) method

pub no_method : (k : Kind) → is_pointers k ≡ true → is_method k ≡ false
no_method = apart is_pointers is_method refl refl refl refl

pub method_pointers : (k : Kind) → is_method k ≡ true → is_pointers k ≡ false
method_pointers = apart is_method is_pointers refl refl refl refl

module _ (k : Kind) (e : is_words k ≡ true) where
  pub words_pointers : is_pointers k ≡ false
  words_pointers = apart is_words is_pointers refl refl refl refl k e

  pub words_fields : holds_fields k ≡ false
  words_fields = apart is_words holds_fields refl refl refl refl k e

module _ (k : Kind) (e : is_bytes k ≡ true) where
  pub text_pointers : is_pointers k ≡ false
  text_pointers = apart is_bytes is_pointers refl refl refl refl k e

  pub text_words : is_words k ≡ false
  text_words = apart is_bytes is_words refl refl refl refl k e

  pub text_fields : holds_fields k ≡ false
  text_fields = apart is_bytes holds_fields refl refl refl refl k e

module _ (k : Kind) (e : has_bytes k ≡ true) where
  pub bytes_pointers : is_pointers k ≡ false
  bytes_pointers = apart has_bytes is_pointers refl refl refl refl k e

  pub bytes_words : is_words k ≡ false
  bytes_words = apart has_bytes is_words refl refl refl refl k e
