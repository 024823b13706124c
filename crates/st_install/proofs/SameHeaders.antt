-- The header of a compiled method is a SmallInteger.
use Rattle.std.proofs.Common.{◌≡◌, ℕ, Option, Some, None, Bool, true, false, Ok, refl, subst, ◌∙◌, arith, length}
use Rattle.std.specs.Prelude.{◌+◌, ◌*◌, ◌%◌, ◌==◌, if◌then◌else◌}
use Rattle.std.proofs.lemmas.Bool.Decides.{nat_tests}
use Rattle.st_model.proofs.Words.{is_small-value_of}
use Rattle.st_scan.specs.Views.{MethodView}
use Rattle.st_emit.specs.Bounds.{small_room}
use Rattle.st_emit.specs.Names.{NamesView}
use Rattle.st_emit.specs.declared.level.Level.{Level}
use Rattle.st_code.specs.declared.fault.Fault.{Fault}
use Rattle.st_code.specs.Methods.{PartsView, passes, room_bit, flag, header_count, variables, depth, literals, fault, parts, parts_or, code}
use Rattle.st_install.specs.inside.Same.{HasHeader}

room_if : (b : Bool) → (if b then 128 else 0) % 2 ≡ 0
room_if true = refl
room_if false = refl

room_even : (n : ℕ) (d : Level) → room_bit n d % 2 ≡ 0
room_even n d = room_if (passes small_room n d)

odd_header : (f c r l : ℕ) → r % 2 ≡ 0 → (f * 8192 + c * 256 + r + l * 2 + 1) % 2 ≡ 1
odd_header f c r l e = omega (arith, e)

module _ (tree : MethodView) (names : NamesView) where
  parts_header : HasHeader (parts tree names)
  parts_header =
      let e = room_even (variables tree names) (depth tree names) in
      let o = odd_header (flag tree names) (header_count tree names) (room_bit (variables tree names) (depth tree names)) (length (literals tree names)) e in
      let t : ((parts tree names).header % 2 == 1) ≡ true = grind (arith, nat_tests) in
      is_small-value_of (parts tree names).header ∙ t

  of_parts : (f : Option Fault) (p : PartsView) → parts_or tree names f ≡ Ok p → HasHeader p
  of_parts None p e = let q : parts tree names ≡ p = cc in subst HasHeader q parts_header
  of_parts (Some x) p e = cc

  pub code_header : (p : PartsView) → code tree names ≡ Ok p → HasHeader p
  code_header p e = of_parts (fault tree names) p e
