use Rattle.std.proofs.Common.{refl, subst}
use Rattle.st_model.specs.Births.{births}
use Rattle.std.specs.Prelude.{None}
use Rattle.st_model.specs.Saving.{save}
use Rattle.st_model.specs.Text.{dead_text}
use Rattle.st_model.proofs.Showing.{show_is}
use Rattle.st_session.specs.Exports.{ExportsImage, ExportsState, HasExported}
use Rattle.st_session.specs.inside.Standing.{shown_by}
use Rattle.st_session.proofs.Exported.{saved_export, died_export, exported_as, others_none, others_said, told_kind, has_told}
use Rattle.st_session.proofs.exporting.export_machine.Goals as goal

pub returns-in-Ok-clause-has : goal.returns-in-Ok-clause-has
returns-in-Ok-clause-has g c s shows told =
    let view = g.M.Memory.view in
    let n = c.save.new.self in
    let old = c.args.host.now in
    let new = c.export_image.new.host in
    let result = c.export_image.result in
    let at = shown_by view n in
    let extent = c.args.extent in
    exported_as g.H.Host c.args.image.now (ExportsImage extent at.memory at.head) (ExportsState extent s) old new result
    (saved_export extent at (save births s) (c.in-Ok.ensures.saves c.requires.alive s shows) (λ t w. show_is at t w (g.met.M.Memory.whole n.memory).places))
    (subst (λ x. HasExported g.H.Host c.args.image.now (ExportsImage extent (view x).objects (view x).head) old new result) c.memory.ensures
    (c.export_image.ensures.has told))

pub returns-in-Ok-clause-others : goal.returns-in-Ok-clause-others
returns-in-Ok-clause-others g c = c.export_image.ensures.others

pub returns-in-Ok-clause-counts : goal.returns-in-Ok-clause-counts
returns-in-Ok-clause-counts g c = c.export_image.ensures.counts

pub returns-in-Ok-clause-kind : goal.returns-in-Ok-clause-kind
returns-in-Ok-clause-kind g c = c.export_image.ensures.kind

pub returns-in-Err-clause-has : goal.returns-in-Err-clause-has
returns-in-Err-clause-has g c s shows told =
    let n = c.save.new.self in
    let old = c.args.host.now in
    let new = c.say_reply.new.host in
    let result = c.say_reply.result in
    let at = shown_by g.M.Memory.view n in
    has_told g.H.Host c.args.image.now (ExportsState c.args.extent s) (record { image = None; text = dead_text 0 c.in-Err.cause }) old old new result
    (died_export c.args.extent c.in-Err.cause at (save births s) (c.in-Err.ensures.saves c.requires.alive s shows)) told refl refl c.say_reply.ensures

pub returns-in-Err-clause-others : goal.returns-in-Err-clause-others
returns-in-Err-clause-others g c =
    let old = c.args.host.now in
    others_said g.H.Host c.args.image.now _ old old c.say_reply.new.host (others_none g.H.Host c.args.image.now old (g.met.H.Host.only_now old)) c.say_reply.ensures.says

pub returns-in-Err-clause-counts : goal.returns-in-Err-clause-counts
returns-in-Err-clause-counts g c = c.say_reply.ensures.counts

pub returns-in-Err-clause-kind : goal.returns-in-Err-clause-kind
returns-in-Err-clause-kind g c = told_kind g.H.Host c.args.image.now _ c.args.host.now c.say_reply.new.host c.say_reply.result c.say_reply.ensures
