use Rattle.std.proofs.Common.{arith}
use Rattle.std.proofs.lemmas.List.{nil_from_length}
use Rattle.st_parse.proofs.Assigning.{assigned_turn, assigned_end}
use Rattle.st_parse.proofs.names.assigned.Goals as goal

pub loop-name-preserved : goal.loop-name-preserved
loop-name-preserved c = assigned_turn c.loop-name.names.items _ c.in-Some.name _ _ _ c.in-Some.ensures.items c.in_ok-value.ensures c.loop-name.invariant

pub returns : goal.returns
returns c = assigned_end c.loop-name.names.items _ _ (nil_from_length c.loop-name.names.items (omega (arith, c.loop-name.names.ok.0, c.in_default.ensures.cases.0))) c.loop-name.invariant
