use Rattle.std.proofs.Common.{rules, ◌≡◌, ◌-◌, Some, sym, ap, subst, ◌∙◌}
use Rattle.st_model.specs.Values.{value}
use Rattle.st_model.specs.Surroundings.{newest_of}
use Rattle.st_model.specs.View.{IsKnown, with_held}
use Rattle.st_model.specs.declared.place.RootPlace.TheVariants as place
use Rattle.st_model.specs.Objects.{nil}
use Rattle.st_model.specs.Table.{Table}
use Rattle.st_model.proofs.Words.{value_of-nil}
use Rattle.st_frames.specs.Naming.{naming}
use Rattle.st_frames.proofs.HoldsNamed.{any_newest, known_newest, signal_gone}
use Rattle.st_frames.proofs.naming.take_newest_signal.Goals as goal

pub returns-clause-known : goal.returns-clause-known
returns-clause-known g c =
    let newest : newest_of c.args.w.now.devices.pending ≡ Some (value c.in_ok-newest.newest) = search rules in
    subst (λ (t : Table). IsKnown t (value c.in_ok-newest.newest)) (sym c.hold.ensures.objects)
    (known_newest c.args.w.now (g.met.M.Memory.whole c.args.m.now) c.requires.named newest)

pub returns-clause-held : goal.returns-clause-held
returns-clause-held g c =
    let h = (g.M.Memory.view c.args.m.now).held in
    let w = c.args.w.now in
    let newest : newest_of w.devices.pending ≡ Some (value c.in_ok-newest.newest) = search rules in
    let some = any_newest w.devices.pending (value c.in_ok-newest.newest) newest in
    c.hold.ensures.held ∙ ap (λ x. with_held h (place.Pending (c.pending_count.result - 1)) x) value_of-nil
    ∙ ap (λ n. with_held h (place.Pending (n - 1)) nil) c.pending_count.ensures.count
    ∙ signal_gone h w c.requires.named some (search rules) ∙ ap (naming h) (sym c.take_signal.ensures)
