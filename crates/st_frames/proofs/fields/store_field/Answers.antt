use Rattle.std.proofs.Common.{arith, ap, sym, ◌∙◌}
use Rattle.std.proofs.lemmas.Grind.{common_steps}
use Rattle.st_model.specs.Values.{value}
use Rattle.st_model.specs.Machine.{Went}
use Rattle.st_model.proofs.Pointers.{IsWord-value_of}
use Rattle.st_model.proofs.Runs.{run-store}
use Rattle.st_frames.specs.inside.Shown.{shown}
use Rattle.st_frames.proofs.Shown.{shown_stored}
use Rattle.st_frames.proofs.fields.store_field.Goals as goal

pub returns-then-i-size-clause-stores : goal.returns-then-i-size-clause-stores
returns-then-i-size-clause-stores g c = λ w.
    let e = c.set_pointer.ensures in
    let v = g.M.Memory.view c.args.m.now in
    let s = shown_stored v (g.M.Memory.view c.set_pointer.new.self) c.args.f.now w _ e.objects e.head in
    run-store (value c.args.o) c.args.i (value c.args.x) (shown v c.args.f.now w) (grind arith) (grind arith) (grind (arith, common_steps)) c.requires.known (IsWord-value_of c.args.x.0 (omega arith)) ∙ sym (ap (λ t. Went tt t) s)
