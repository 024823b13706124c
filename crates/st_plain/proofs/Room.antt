-- The lists keep room for what the objects may take.
use Rattle.std.proofs.Common.{◌≡◌, ℕ, ◌+◌, ◌*◌, ◌≤◌, ap, subst, sym, arith}
use Rattle.st_plain.specs.inside.ListsPlain.{Extent, IsEnough, IsLong, unused, with_taken}

pub room_same : (e f : Extent) (used now words : ℕ) → IsEnough e used words → f ≡ e → now ≡ used → IsEnough f now words
room_same e f used now words room same as_many = subst (λ (g : Extent). IsEnough g now words) (sym same) (subst (λ n. IsEnough e n words) (sym as_many) room)

pub room_less : (e f : Extent) (used now words fields units size : ℕ) → IsEnough e used words → f ≡ with_taken e fields units → now ≡ used + size → 2 * fields + units ≤ 2 * size → IsEnough f now words
room_less e f used now words fields units size room more count small =
    subst (λ (g : Extent). IsEnough g now words) (sym more) (record {
      fields = room.fields;
      units = room.units;
      taken = let t = room.taken in omega (arith, t, count, small);
    })

pub room_start : (e : Extent) (used words capacity : ℕ) → e ≡ unused words → capacity ≡ words → IsEnough e used capacity
room_start e used words capacity is same =
    subst (λ (g : Extent). IsEnough g used capacity) (sym is) (record {
      fields = sym same;
      units = ap (λ n. 2 * n) (sym same);
      taken = omega arith;
    })

pub long_start : (e : Extent) (words capacity : ℕ) → e ≡ unused words → capacity ≡ words → IsLong e capacity
long_start e words capacity is same =
    subst (λ (g : Extent). IsLong g capacity) (sym is) (record {
      fields = sym same;
      units = ap (λ n. 2 * n) (sym same);
    })

pub enough_long : (e : Extent) (used words : ℕ) → IsEnough e used words → IsLong e words
enough_long e used words enough = record { fields = enough.fields; units = enough.units }

pub long_same : (e f : Extent) (words : ℕ) → IsLong e words → f ≡ e → IsLong f words
long_same e f words long same = subst (λ (g : Extent). IsLong g words) (sym same) long
