use Rattle.std.proofs.Common.{IsTrue, sym, subst}
use Rattle.st_host.specs.Files.{bytes_of}
use Rattle.st_model.specs.Image.{image_head}
use Rattle.st_model.specs.View.{View}
use Rattle.st_frames.specs.declared.frame.Frame.{Frame}
use Rattle.st_image.specs.inside.Reading.{IsStart}
use Rattle.st_session.proofs.Points.{ready_new}
use Rattle.st_session.proofs.Started.{own_readable, own_start, own_refused}
use Rattle.st_session.proofs.starting.start.Goals as goal

pub boot-requires : goal.boot-requires
boot-requires g c =
    let loaded = c.in_ok-loaded.loaded in
    record { ready = ready_new (g.L.Done.Memory.view loaded.memory) loaded.frame c.in_ok-world.world c.in_ok-loaded.ensures.frame c.in_ok-loaded.ensures.quiet c.in_ok-world.ensures }

pub returns-clause-readable : goal.returns-clause-readable
returns-clause-readable g c told = own_readable (bytes_of (g.H.Host.files c.args.host.now c.args.name.now)) (c.in_ok-loaded.ensures.readable told)

pub returns-clause-start : goal.returns-clause-start
returns-clause-start g c told =
    let bytes = bytes_of (g.H.Host.files c.args.host.now c.args.name.now) in
    let loaded = c.in_ok-loaded.loaded in
    subst (λ (v : View). IsStart (image_head bytes) bytes v c.boot.result.frame) (sym c.boot.ensures.memory)
    (subst (λ (f : Frame). IsStart (image_head bytes) bytes (g.L.Done.Memory.view loaded.memory) f) (sym c.boot.ensures.frame)
    (own_start bytes (g.L.Done.Memory.view loaded.memory) loaded.frame (c.in_ok-loaded.ensures.start told)))

pub returns-in_err-loaded-clause-refused : goal.returns-in_err-loaded-clause-refused
returns-in_err-loaded-clause-refused g c =
    own_refused (IsTrue g.H.Host.is_told) (bytes_of (g.H.Host.files c.args.host.now c.args.name.now)) c.in_err-loaded.field-0.0 c.from_residual.result c.from_residual.ensures.1 c.in_err-loaded.ensures.refused
