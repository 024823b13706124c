use Rattle.std.proofs.Common.{refl, ap}
use Rattle.std.specs.Prelude.{Some, Err}
use Rattle.st_host.specs.declared.file_fault.FileFault.{FileFault}
use Rattle.st_protocol.specs.declared.status.Status.TheVariants.{DiskFault, OutOfMemory}
use Rattle.st_call.specs.Replies.{cleaned_text}
use Rattle.st_session.specs.Exports.{ExportsImage}
use Rattle.st_session.specs.declared.extent.Extent.TheVariants.{Reachable}
use Rattle.st_session.proofs.Exported.{export_told, export_failed}
use Rattle.st_session.proofs.exporting.export_reachable.Goals as goal

pub returns-in-Ok : goal.returns-in-Ok
returns-in-Ok g c =
    let v = g.M.Memory.view c.args.m.now in
    let file = c.in-Ok.ensures.file in
    export_told g.H.Host c.args.image.now (ExportsImage Reachable v.objects v.head) (record { image = Some file.image; text = cleaned_text c.in-Ok.demand }) c.args.host.now c.clean.new.host c.say_reply.new.host c.say_reply.result
    (record { image = file.image; demand = c.in-Ok.demand; cleaned = file.cleaned; is = refl }) file.written c.clean.ensures.writes c.clean.ensures.cause.later c.say_reply.ensures

pub returns-in-Err-Disk : goal.returns-in-Err-Disk
returns-in-Err-Disk g c =
    let v = g.M.Memory.view c.args.m.now in
    export_failed g.H.Host c.args.image.now (ExportsImage Reachable v.objects v.head) c.args.host.now c.clean.new.host DiskFault tt c.clean.ensures.writes.run.quiet c.clean.ensures.writes c.clean.ensures.cause.later
    (c.in-Err-Disk.ensures.cause.rose (ap (λ (e : FileFault). Err e) c.in-Err-Disk.field-0-is))

pub returns-in-Err-OutOfMemory : goal.returns-in-Err-OutOfMemory
returns-in-Err-OutOfMemory g c =
    let v = g.M.Memory.view c.args.m.now in
    let same = c.in-Err-OutOfMemory.ensures.none (ap (λ (e : FileFault). Err e) c.in-Err-OutOfMemory.field-0-is) in
    export_failed g.H.Host c.args.image.now (ExportsImage Reachable v.objects v.head) c.args.host.now c.clean.new.host OutOfMemory tt (λ told. record { file = ap (λ h. g.H.Host.files h c.args.image.now) same; quiet = ap g.H.Host.said same })
    c.clean.ensures.writes c.clean.ensures.cause.later tt
