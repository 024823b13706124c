use Rattle.std.proofs.Common.{◌+◌, List, drop, sym, ap, ◌∙◌, arith}
use Rattle.std.specs.Prelude.{pos}
use Rattle.std.proofs.lemmas.List.{at_drop_more, at_drop_all}
use Rattle.st_meaning.specs.declared.deed.Variable.{Variable}
use Rattle.st_meaning.specs.declared.deed.Variable.TheVariants.{Temporary}
use Rattle.st_meaning.specs.declared.deed.Value.{Value}
use Rattle.st_meaning.specs.declared.deed.Value.TheVariants.{Number}
use Rattle.st_meaning.specs.inside.Runs.{all_changed}
use Rattle.st_meaning.specs.inside.Courses.{held_of}
use Rattle.st_meaning.proofs.held.Held.change_all.Goals as goal

abbrev none : Variable × Value
none = (Temporary 0, Number (pos 0))

pub loop-change-preserved : goal.loop-change-preserved
loop-change-preserved c =
    let changes = c.args.changes.now in
    let i = c.loop-change.change-index in
    let next = at_drop_more (λ (cs : List (Variable × Value)). all_changed cs (held_of c.loop-change.self)) changes i none (omega (arith, c.loop-change-test.true)) in
    record {
      held = ap (λ (held : Variable → Value). all_changed (drop (i + 1) changes) held) c.change.ensures.held ∙ sym next ∙ c.loop-change.invariant.held;
      table = c.change.ensures.table;
    }

pub returns-clause-held : goal.returns-clause-held
returns-clause-held c =
    sym (at_drop_all (λ (cs : List (Variable × Value)). all_changed cs (held_of c.loop-change.self)) c.args.changes.now c.loop-change.change-index (omega (arith, c.loop-change-test.false))) ∙ c.loop-change.invariant.held
