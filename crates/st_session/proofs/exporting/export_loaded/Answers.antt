use Rattle.std.proofs.Common.{◌≡◌, ◌∙◌, refl, sym, subst}
use Rattle.st_model.specs.Machine.{State, empty_world}
use Rattle.st_model.specs.Objects.{nil}
use Rattle.st_model.specs.Show.{Shows}
use Rattle.st_model.specs.Table.{Table}
use Rattle.st_frames.specs.inside.Shown.{shown}
use Rattle.st_session.specs.inside.Standing.{shown_by}
use Rattle.st_session.proofs.Exported.{others_none}
use Rattle.st_session.proofs.Points.{ready_new}
use Rattle.st_session.proofs.exporting.export_loaded.Goals as goal

pub boot-machine-requires : goal.boot-machine-requires
boot-machine-requires g c =
    let loaded = c.args.loaded in
    record { ready = ready_new (g.L.Done.Memory.view loaded.memory) loaded.frame c.in-Ok.world c.requires.frame c.requires.quiet c.in-Ok.ensures }

pub returns-in-Err-clause-others : goal.returns-in-Err-clause-others
returns-in-Err-clause-others g c = others_none g.H.Host c.args.image.now c.args.host.now (g.met.H.Host.only_now c.args.host.now)

pub returns-in-Err-clause-has : goal.returns-in-Err-clause-has
returns-in-Err-clause-has g c s shows told = record { file = refl; quiet = refl }

pub returns-clause-has : goal.returns-clause-has
returns-clause-has g c s shows told =
    let view = g.L.Done.Memory.view in
    let loaded = c.args.loaded in
    let m = c.boot-machine.result in
    let boots = c.boot-machine.ensures in
    let same : shown_by view m ≡ shown (view loaded.memory) loaded.frame (empty_world nil) = λ i. shown (boots.memory i) (boots.frame i) ((boots.world ∙ c.in-Ok.ensures) i) in
    c.export_machine.ensures.has s (subst (λ (x : State Table). Shows x s) (sym same) shows) told
