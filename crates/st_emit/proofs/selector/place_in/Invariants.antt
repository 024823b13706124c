use Rattle.std.proofs.Common.{◌≡◌, drop}
use Rattle.std.specs.Prelude.{map}
use Rattle.st_emit.specs.Names.{field_from}
use Rattle.st_emit.specs.Selectors.{sends_now}
use Rattle.st_emit.proofs.selector.place_in.Given as goal

abbrev pub invariant-loop-i : goal.invariant-loop-i
invariant-loop-i l = field_from l.i (map (λ s. s.0) (sends_now (drop l.i l.sends))) l.text ≡ field_from 0 (map (λ s. s.0) (sends_now l.sends)) l.text
