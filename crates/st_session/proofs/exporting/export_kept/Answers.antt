use Rattle.std.proofs.Common.{refl, ap, subst}
use Rattle.st_protocol.specs.declared.status.Status.TheVariants.{DiskFault}
use Rattle.st_recover.proofs.Images.{image_is}
use Rattle.st_session.specs.Exports.{exporting, ExportsImage}
use Rattle.st_session.specs.declared.extent.Extent.TheVariants.{Kept}
use Rattle.st_call.specs.Replies.{exported_text}
use Rattle.st_call.specs.inside.Telling.{Tells}
use Rattle.st_session.proofs.Exported.{export_told, export_failed}
use Rattle.st_session.proofs.exporting.export_kept.Goals as goal

pub returns-in-Ok : goal.returns-in-Ok
returns-in-Ok g c =
    let v = g.M.Memory.view c.args.m.now in
    export_told g.H.Host c.args.image.now (ExportsImage Kept v.objects v.head) (exporting _) c.args.host.now c.write.new.host c.say_reply.new.host c.say_reply.result (ap exporting (image_is v)) c.in-Ok.ensures.file c.write.ensures.writes c.write.ensures.cause.later
    (subst (λ n. Tells g.H.Host (exported_text n) c.write.new.host c.say_reply.new.host c.say_reply.result) c.in-Ok.ensures.length c.say_reply.ensures)

pub returns-in-Err : goal.returns-in-Err
returns-in-Err g c =
    let v = g.M.Memory.view c.args.m.now in
    export_failed g.H.Host c.args.image.now (ExportsImage Kept v.objects v.head) c.args.host.now c.write.new.host DiskFault tt c.write.ensures.writes.run.quiet c.write.ensures.writes c.write.ensures.cause.later (c.in-Err.ensures.cause.rose refl)
