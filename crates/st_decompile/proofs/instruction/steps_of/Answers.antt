use Rattle.std.proofs.Common.{ℕ, ◌+◌, ◌-◌, ◌<◌, List, ◌++◌, length, sym, ap₂, ◌∙◌, arith, rules}
use Rattle.std.specs.Prelude.{option_map}
use Rattle.st_emit.specs.declared.instruction.Instruction.{Instruction}
use Rattle.st_resolved.specs.Instructions.{steps_up}
use Rattle.st_decompile.proofs.StepTurns.{steps_none, steps_short, steps_turn}
use Rattle.st_decompile.proofs.instruction.steps_of.Goals as goal

pub returns-in_default : goal.returns-in_default
returns-in_default c =
    let l = c.loop-i in
    let some : 0 < length l.rest.now = search rules in
    sym l.invariant ∙ steps_none (length c.args.bytes.now - l.i) (length c.args.bytes.now - (l.i + 1)) l.steps.items l.rest.now (omega (arith, c.loop-i-test.true)) some (sym c.instruction.ensures ∙ c.in_default.is)

pub returns-else-is_empty-2 : goal.returns-else-is_empty-2
returns-else-is_empty-2 c =
    let l = c.loop-i in
    let some : 0 < length l.rest.now = search rules in
    sym l.invariant ∙ steps_short (length c.args.bytes.now - l.i) l.steps.items l.rest.now (omega (arith, c.loop-i-test.false)) some

pub loop-i-preserved : goal.loop-i-preserved
loop-i-preserved c =
    let l = c.loop-i in
    let left = length c.args.bytes.now - (l.i + 1) in
    let some : 0 < length l.rest.now = search rules in
    ap₂ (λ (done : List Instruction) (rest : List ℕ). option_map (λ (ss : List Instruction). done ++ ss) (steps_up left rest)) c.in_ok-push.ensures.items c.behind-rest.ensures
    ∙ steps_turn (length c.args.bytes.now - l.i) left l.steps.items l.rest.now c.in-Some.found (omega (arith, c.loop-i-test.true)) some (sym c.instruction.ensures ∙ c.in-Some.is)
    ∙ l.invariant
