use Rattle.std.proofs.Common.{string_bytes}
use Rattle.st_host.proofs.Joining.{makes_then, makes_of}
use Rattle.st_host.proofs.Touching.{changes_join}
use Rattle.st_store.specs.Names.{roots_file}
use Rattle.st_store.specs.Stored.{Opens}
use Rattle.st_store.proofs.Causes.{cause_of_call}
use Rattle.st_store.proofs.Opening.{freshly}
use Rattle.st_store.proofs.open.freshen.Goals as goal

pub returns-in_err-stage-clause-makes : goal.returns-in_err-stage-clause-makes
returns-in_err-stage-clause-makes g c x told chosen is =
    makes_of g.H.Host (Opens (string_bytes c.args.names.now.name)) x x _ _ c.stage.result _ c.from_residual.ensures.0 (c.stage.ensures.makes x x told chosen chosen.firm is)

pub returns-in_err-turn-clause-makes : goal.returns-in_err-turn-clause-makes
returns-in_err-turn-clause-makes g c x told chosen is =
    let H = g.H.Host in
    let opens = Opens (string_bytes c.args.names.now.name) in
    makes_then H opens x x _ _ _ c.stage.result _ (c.stage.ensures.makes x x told chosen chosen.firm is)
    (makes_of H opens x x _ _ c.turn.result _ c.from_residual-in_err-turn.ensures.0 (c.turn.ensures.keeps x told (c.in_ok-stage.ensures.staged x x told chosen chosen.firm is)))

pub returns-in_err-turn-clause-changes : goal.returns-in_err-turn-clause-changes
returns-in_err-turn-clause-changes g c = changes_join g.H.Host _ _ _ _ c.stage.ensures.changes c.turn.ensures.changes

pub returns-in_err-turn-clause-cause : goal.returns-in_err-turn-clause-cause
returns-in_err-turn-clause-cause g c =
    cause_of_call (g.H.Host.disk_faults c.args.host.now) (g.H.Host.disk_faults c.stage.new.host) (g.H.Host.disk_faults c.turn.new.host) c.turn.result c.in_err-turn.field-0.0 _ c.stage.ensures.cause.later c.in_err-turn.was c.turn.ensures.cause

pub returns-clause-makes : goal.returns-clause-makes
returns-clause-makes g c x told chosen is =
    let kept = c.in_ok-turn.ensures.keeps x told (c.in_ok-stage.ensures.staged x x told chosen chosen.firm is) in
    makes_then g.H.Host (Opens (string_bytes c.args.names.now.name)) x x _ _ _ c.stage.result _ (c.stage.ensures.makes x x told chosen chosen.firm is)
    (record { rest = kept.rest; either = kept.either; quiet = kept.quiet; moments = kept.moments })

pub returns-clause-chosen : goal.returns-clause-chosen
returns-clause-chosen g c x told chosen is = c.in_ok-turn.ensures.same x told (c.in_ok-stage.ensures.staged x x told chosen chosen.firm is)

pub returns-clause-fresh : goal.returns-clause-fresh
returns-clause-fresh g c x told chosen is =
    let roots = roots_file (string_bytes c.args.names.now.name) in
    let staged = c.in_ok-stage.ensures.staged x x told chosen chosen.firm is in
    freshly g.H.Host (string_bytes c.args.names.now.name) _ _ c.args.number x (g.met.H.Host.read_counts _ roots told) staged (g.met.H.Host.read_counts _ roots told)
    (c.in_ok-turn.ensures.same x told staged) (c.in_ok-turn.ensures.written told)

pub returns-clause-changes : goal.returns-clause-changes
returns-clause-changes g c = changes_join g.H.Host _ _ _ _ c.stage.ensures.changes c.turn.ensures.changes
