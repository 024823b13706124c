-- How large an object of its form can be.
use Rattle.std.proofs.Common.{◌≡◌, ℕ, ◌+◌, ◌*◌, ◌/◌, ◌<◌, ◌≤◌, Bool, true, false, length, refl, ap, arith}
use Rattle.st_model.specs.declared.kind.Kind.{Kind}
use Rattle.st_model.specs.declared.kind.Kind.TheVariants.{Pointers, Words, Bytes, Method}
use Rattle.st_model.specs.Objects.{Object, is_words, is_pointers, holds_fields, size_of}
use Rattle.st_model.specs.Formed.{IsFormed}
use Rattle.std.specs.Prelude.{if◌then◌else◌}

pub size_small : (o : Object) → IsFormed o → 2 * length o.fields + length o.units ≤ 131066
size_small o formed = by_kind o.kind (length o.fields) (length o.units) (λ h. ap length (formed.fieldless h)) formed.size
  where
    by_kind : (k : Kind) (fields units : ℕ) → (holds_fields k ≡ false → fields ≡ 0) → (if is_words k then 2 + units else 2 + fields + (units + 1) / 2) ≤ 65535 → 2 * fields + units ≤ 131066
    by_kind Pointers fields units none size = omega (arith, size)
    by_kind Words fields units none size = let z = none refl in omega (arith, size, z)
    by_kind Bytes fields units none size = omega (arith, size)
    by_kind Method fields units none size = omega (arith, size)

pub size_within : (o : Object) → IsFormed o → size_of o ≤ 131066
size_within o formed = by_test (is_pointers o.kind) (length o.fields) (length o.units) (size_small o formed)
  where
    by_test : (b : Bool) (fields units : ℕ) → 2 * fields + units ≤ 131066 → (if b then fields else 2 * fields + units) ≤ 131066
    by_test true fields units small = omega (arith, small)
    by_test false fields units small = small

-- a word among the units is within the size
pub units_within : (o : Object) (i : ℕ) → is_words o.kind ≡ true → i < length o.units → i < size_of o
units_within o i words below = by_kind o.kind (length o.fields) (length o.units) words below
  where
    by_kind : (k : Kind) (fields units : ℕ) → is_words k ≡ true → i < units → i < (if is_pointers k then fields else 2 * fields + units)
    by_kind Pointers fields units h l = cc
    by_kind Words fields units h l = omega (arith, l)
    by_kind Bytes fields units h l = cc
    by_kind Method fields units h l = cc
