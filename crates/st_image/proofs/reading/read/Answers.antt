use Rattle.st_model.specs.declared.fault.ImageFault.TheVariants.{Scheduler}
use Rattle.st_image.proofs.FaultOrder.{no_fault}
use Rattle.st_image.proofs.Starts.{scheduler_fault, is_well_formed, start_went, start_died, is_start, same_start}
use Rattle.st_image.proofs.reading.read.Goals as goal

pub returns-in-Ok-clause-well_formed : goal.returns-in-Ok-clause-well_formed
returns-in-Ok-clause-well_formed g c =
    let view = same_start _ _ _ _ _ c.in_ok-image.ensures.image.0 c.in_ok-image.ensures.image.1 c.in_ok-memory.ensures in
    is_well_formed _ _ _ c.in_ok-image.ensures.clean (start_went _ _ _ (g.L.Done.Memory.view c.fetch_scheduled.new.m) _ view c.in-Ok.ensures.registers)

pub returns-in-Ok-clause-start : goal.returns-in-Ok-clause-start
returns-in-Ok-clause-start g c =
    let view = same_start _ _ _ _ _ c.in_ok-image.ensures.image.0 c.in_ok-image.ensures.image.1 c.in_ok-memory.ensures in
    is_start _ _ _ _ _ (g.met.L.Done.Memory.whole c.fetch_scheduled.new.m).complete view c.in-Ok.ensures.objects c.in-Ok.ensures.head c.in-Ok.ensures.frame c.in-Ok.ensures.registers

pub returns-in-Err-clause-fault : goal.returns-in-Err-clause-fault
returns-in-Err-clause-fault g c =
    let view = same_start _ _ _ _ _ c.in_ok-image.ensures.image.0 c.in_ok-image.ensures.image.1 c.in_ok-memory.ensures in
    scheduler_fault _ _ _ c.in_ok-image.ensures.clean (start_died _ _ _ _ view c.in-Err.ensures.registers)

pub returns-in-Err-clause-accepts : goal.returns-in-Err-clause-accepts
returns-in-Err-clause-accepts g c = λ well.
    let view = same_start _ _ _ _ _ c.in_ok-image.ensures.image.0 c.in_ok-image.ensures.image.1 c.in_ok-memory.ensures in
    absurd (no_fault _ _ well Scheduler (scheduler_fault _ _ _ c.in_ok-image.ensures.clean (start_died _ _ _ _ view c.in-Err.ensures.registers)))
