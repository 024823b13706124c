use Rattle.std.proofs.Common.{◌≡◌, Some, sym, ap, ◌∙◌}
use Rattle.st_call.proofs.Pushing.{push_none, push_as}
use Rattle.st_session.specs.Drills.{use_text}
use Rattle.st_session.specs.Reports.{text_of}
use Rattle.st_session.specs.inside.Standing.{shown_by}
use Rattle.st_session.proofs.drilling.push_use.Goals as goal

pub returns-in-Some : goal.returns-in-Some
returns-in-Some g c =
    let m = c.args.machine.now in
    let died : m.death ≡ Some c.in-Some._cause = sym c.death.ensures ∙ c.in-Some.is in
    push_as (push_none g.H.Host c.args.host.now (g.met.H.Host.only_now c.args.host.now)) (sym (ap (λ d. text_of use_text d (shown_by g.M.Memory.view m)) died))
