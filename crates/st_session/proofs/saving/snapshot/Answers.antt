use Rattle.std.proofs.Common.{◌∙◌, refl, ap, sym, subst}
use Rattle.st_model.specs.Births.{births}
use Rattle.st_model.specs.Saving.{save}
use Rattle.st_model.proofs.Showing.{show_is}
use Rattle.st_image.specs.inside.Back.{CanStart}
use Rattle.st_machine.specs.inside.Asked.{death_by}
use Rattle.st_store.specs.Names.{IsNoFileOf}
use Rattle.st_protocol.specs.inside.Obeying.{Obeys}
use Rattle.st_recover.specs.inside.Archives.{Holds}
use Rattle.st_recover.specs.Commits.{Commit, OpensAs, image_with}
use Rattle.st_session.specs.Answers.{going_on}
use Rattle.st_session.specs.Keeping.{in_a_store, imaging}
use Rattle.st_session.specs.inside.Standing.{shown_by}
use Rattle.st_session.proofs.Points.{living_answers, shown_births}
use Rattle.st_session.proofs.Served.{on_ok_then, served_said}
use Rattle.st_session.proofs.Snapshots.{saved_can_start, saved_kept, saved_died}
use Rattle.st_session.proofs.saving.snapshot.Goals as goal

pub keep_image-requires-clause-starts : goal.keep_image-requires-clause-starts
keep_image-requires-clause-starts g c =
    let view = g.M.Memory.view in
    let m = c.args.kept.now.machine in
    let some = shown_births view m (g.met.M.Memory.whole m.memory) (c.requires.go_on.may_run c.requires.alive) in
    subst (λ x. CanStart (view x)) (sym c.memory.ensures)
    (saved_can_start view c.save.new.self some.0 (save births some.0) refl (c.in-Ok.ensures.saves c.requires.alive some.0 some.1))

pub returns-in-Ok : goal.returns-in-Ok
returns-in-Ok g c =
    let kept = c.args.kept.now in
    let n = c.save.new.self in
    let new = c.keep_image.new.host in
    let b = c.keep_image.new.archive in
    let result = c.keep_image.result in
    let lives = c.save.ensures.death c.requires.alive ∙ ap death_by c.in-Ok.is in
    let follows = living_answers g.M.Memory.view g.H.Host kept.machine kept.archive c.args.host.now n b new (λ being. going_on in_a_store (in_a_store.snapshot c.args.finished) being) result c.requires.alive
    (λ s k shows holds. saved_kept g.M.Memory.view g.H.Host kept.archive.name n b c.args.host.now new k c.args.finished (save births s) result (c.in-Ok.ensures.saves c.requires.alive s shows) lives
    (λ t w. show_is (shown_by g.M.Memory.view n) t w (g.met.M.Memory.whole n.memory).places)
    (subst (λ x. Obeys g.H.Host (OpensAs kept.archive.name) (IsNoFileOf kept.archive.name) (Holds g.H.Host new b) (λ (d : Commit). d) k (imaging k (image_with (g.M.Memory.view x).objects (g.M.Memory.view x).head)) result c.args.host.now new) c.memory.ensures
    (c.keep_image.ensures.obeys k holds))) in
    record {
      go_on = on_ok_then result (λ there. record { may_run = c.save.ensures.ready; is_open = there }) c.keep_image.ensures.«open»;
      named = c.keep_image.ensures.named;
      follows = follows;
      counts = c.keep_image.ensures.counts;
      served = c.keep_image.ensures.served;
      starved = c.keep_image.ensures.ample;
    }

pub returns-in-Err : goal.returns-in-Err
returns-in-Err g c =
    let kept = c.args.kept.now in
    let n = c.save.new.self in
    let new = c.say_reply.new.host in
    let result = c.say_reply.result in
    let dies = c.save.ensures.death c.requires.alive ∙ ap death_by c.in-Err.is in
    served_said (record { may_run = c.save.ensures.ready; is_open = c.requires.go_on.is_open }) refl c.say_reply.ensures
    (living_answers g.M.Memory.view g.H.Host kept.machine kept.archive c.args.host.now n kept.archive new (λ being. going_on in_a_store (in_a_store.snapshot c.args.finished) being) result c.requires.alive
    (λ s k shows holds. saved_died g.M.Memory.view g.H.Host kept.archive.name n kept.archive c.args.host.now new k c.args.finished c.in-Err.cause (save births s) result (c.in-Err.ensures.saves c.requires.alive s shows) dies refl holds c.say_reply.ensures))
