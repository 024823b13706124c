use Rattle.std.proofs.Common.{rules, ◌≡◌, ◌∙◌, ◌+◌, None, sym, ap}
use Rattle.st_kernel_text.specs.inside.Views.{start_of}
use Rattle.st_kernel.specs.Built.{fault_at}
use Rattle.st_kernel.proofs.Finishing.{dead_start, no_room_start, whole_start, longer_start}
use Rattle.st_kernel.proofs.following.finish_text.Goals as goal

pub returns-in-Err-clause-finishes : goal.returns-in-Err-clause-finishes
returns-in-Err-clause-finishes g c = λ install whole side parts u.
    dead_start install c.args.cause whole c.args.chunk side (start_of c.args.first.now) parts (g.M.Memory.view c.args.m.now) (g.met.M.Memory.whole c.args.m.now).places u
    _ (g.M.Memory.view c.start_process.new.m) c.in-Err.ensures.begins

pub returns-in-Ok-false-clause-finishes : goal.returns-in-Ok-false-clause-finishes
returns-in-Ok-false-clause-finishes g c = λ install whole side parts u.
    no_room_start install c.args.cause whole c.args.chunk side (start_of c.args.first.now) parts (g.M.Memory.view c.args.m.now) (g.met.M.Memory.whole c.args.m.now).places u
    (g.M.Memory.view c.start_process.new.m) c.in-Ok-false.field-0 (search rules) c.in-Ok-false.ensures.begins

pub returns-in-None-clause-finishes : goal.returns-in-None-clause-finishes
returns-in-None-clause-finishes g c = λ install whole side parts u.
    let none : c.args.cause ≡ None = search rules in
    whole_start install c.args.cause whole c.args.chunk side (start_of c.args.first.now) parts (g.M.Memory.view c.args.m.now) (g.met.M.Memory.whole c.args.m.now).places u
    (g.M.Memory.view c.start_process.new.m) c.in-Ok-true.field-0 (search rules) c.in-Ok-true.ensures.begins none

pub returns-clause-finishes : goal.returns-clause-finishes
returns-clause-finishes g c = λ install whole side parts u.
    longer_start install c.args.cause whole c.args.chunk side (start_of c.args.first.now) parts (g.M.Memory.view c.args.m.now) (g.met.M.Memory.whole c.args.m.now).places u
    (g.M.Memory.view c.start_process.new.m) c.in-Some.cause c.in-Ok-true.field-0 (search rules) c.in-Ok-true.ensures.begins c.in-Some.is
    ∙ ap (λ k. fault_at (c.args.chunk + 1) k) (sym c.cause_number.ensures)
