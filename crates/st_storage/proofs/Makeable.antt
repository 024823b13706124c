-- What may be made.
use Rattle.std.proofs.Common.{◌≡◌, ◌≢◌, ℕ, zero, suc, ◌+◌, ◌*◌, ◌<◌, ◌≤◌, true, false, refl, ap, sym, arith, length}
use Rattle.std.specs.Prelude.{◌-◌, ◌==◌, replicate}
use Rattle.std.proofs.lemmas.Bool.Decides.{nat_tests}
use Rattle.st_model.specs.declared.kind.Kind.{Kind}
use Rattle.st_model.specs.declared.kind.Kind.TheVariants as kind
use Rattle.st_model.specs.Values.{Value, Small, Ref}
use Rattle.st_model.specs.Objects.{is_method, nil}
use Rattle.st_model.specs.Formed.{IsMakeable}
use Rattle.st_model.specs.Steps.{same_value}
use Rattle.st_model.specs.Storage.{body_words, method_words}
use Rattle.st_memory.specs.inside.Making.{CanMake}
use Rattle.st_model.proofs.SameValues.{other_value}

replicated : {A : Type 0} (n : ℕ) (a : A) → length (replicate n a) ≡ n
replicated zero a = refl
replicated (suc n) a = ap (λ k. suc k) (replicated n a)

no_method_class : (n : ℕ) → (let v : Value = Ref n in v ≢ Ref 17) → (n == 17) ≡ false
no_method_class n d = let e : n ≢ 17 = λ q. d (ap Ref q) in grind (arith, nat_tests)

makeable_of : (n size : ℕ) (k : Kind) → (n == 17) ≡ false → is_method k ≡ false → body_words k size ≤ 65533 → IsMakeable n k size 0
makeable_of n size kind.Pointers d e l = record { kind = sym d; body = let q = replicated size nil in omega (arith, q, l); few = omega arith; none = λ x. refl; header = λ x. cc }
makeable_of n size kind.Words d e l = record { kind = sym d; body = let z : ℕ = 0 in let q = replicated size z in omega (arith, q, l); few = omega arith; none = λ x. refl; header = λ x. cc }
makeable_of n size kind.Bytes d e l = record { kind = sym d; body = let z : ℕ = 0 in let q = replicated size z in omega (arith, q, l); few = omega arith; none = λ x. refl; header = λ x. cc }
makeable_of n size kind.Method d e l = cc

pub can_make : (v : Value) (size : ℕ) (k : Kind) → v ≢ Ref 17 → is_method k ≡ false → body_words k size ≤ 65533 → CanMake v k size 0
can_make (Small n) size k d e l = tt
can_make (Ref n) size k d e l = makeable_of n size k (no_method_class n d) e l

small_body : (k : Kind) (n : ℕ) → n < 2048 → body_words k n ≤ 65533
small_body kind.Pointers n l = omega (arith, l)
small_body kind.Words n l = omega (arith, l)
small_body kind.Bytes n l = omega (arith, l)
small_body kind.Method n l = omega (arith, l)

pub can_make_fixed : (v : Value) (size : ℕ) (k : Kind) → v ≢ Ref 17 → is_method k ≡ false → size < 2048 → CanMake v k size 0
can_make_fixed v size k d e l = can_make v size k d e (small_body k size l)

pub few_words : (k : Kind) (n : ℕ) → n < 2048 → body_words k n < 2048
few_words kind.Pointers n l = l
few_words kind.Words n l = l
few_words kind.Bytes n l = omega (arith, l)
few_words kind.Method n l = omega (arith, l)

pub ruleset makeable = (can_make, can_make_fixed, few_words)

pub ruleset classes = (other_value)

-- a body of at most 65533 words has a size of 32 bits
pub small_size : (k : Kind) (n : ℕ) → body_words k n ≤ 65533 → n ≤ 131066
small_size kind.Pointers n l = omega (arith, l)
small_size kind.Words n l = omega (arith, l)
small_size kind.Bytes n l = omega (arith, l)
small_size kind.Method n l = omega (arith, l)

pub ruleset sizes = (small_size)

-- a new Method
same_class : (v : Value) → same_value v (Ref 17) ≡ true → v ≡ Ref 17
same_class (Small n) e = cc
same_class (Ref n) e = let q : n ≡ 17 = grind (arith, nat_tests) in ap Ref q

pub method_class : (v w : Value) → w ≡ Ref 17 → same_value v w ≡ true → v ≡ Ref 17
method_class v w e f = same_class v (rw e at f)

pub can_make_method : (v : Value) (size literals bytes : ℕ) → v ≡ Ref 17 → literals < 64 → size ≡ 2 * literals + 2 + bytes → method_words literals bytes ≤ 65533 → CanMake v kind.Method size literals
can_make_method v size literals bytes e few is l = rw e (record {
  kind = refl;
  body =
      let p = replicated literals nil in
      let z : ℕ = 0 in
      let q = replicated (size - 2 * (literals + 1)) z in
      omega (arith, p, q, l, is);
  few = omega arith;
  none = λ x. cc;
  header = λ x. omega (arith, is);
})

pub ruleset methods = (method_class, can_make_method)
