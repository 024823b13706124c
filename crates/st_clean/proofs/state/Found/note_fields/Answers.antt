use Rattle.std.proofs.Common.{◌≡◌, take_all, subst, arith, length}
use Rattle.std.proofs.lemmas.Grind.{common_steps}
use Rattle.st_model.specs.Values.{value}
use Rattle.st_model.specs.View.{object_of}
use Rattle.st_clean.specs.inside.Found.{Notes}
use Rattle.st_clean.proofs.Steps.{notes_none, notes_more}
use Rattle.st_clean.proofs.state.Found.note_fields.Goals as goal

pub loop-i-init : goal.loop-i-init
loop-i-init g c = notes_none c.args.self.now

pub loop-i-preserved : goal.loop-i-preserved
loop-i-preserved g c =
    let fields = (object_of (g.M.Memory.view c.args.m.now).objects (value c.args.o)).fields in
    notes_more fields c.loop-i.i (value c.pointer.result) c.args.self.now c.loop-i.self c.note.new.self c.pointer.ensures.field c.loop-i.invariant c.in_ok-note.ensures

pub returns : goal.returns
returns g c =
    let fields = (object_of (g.M.Memory.view c.args.m.now).objects (value c.args.o)).fields in
    let end : c.loop-i.i ≡ length fields = grind (arith, common_steps) in
    subst (λ vs. Notes vs c.args.self.now c.loop-i.self) (take_all c.loop-i.i fields (omega (arith, end))) c.loop-i.invariant
