use Rattle.std.proofs.Common.{inl, inr, refl, string_bytes, ap, subst, lit<}
use Rattle.st_host.specs.Runs.{Makes}
use Rattle.st_host.proofs.Joining.{makes_then, makes_failed, makes_of}
use Rattle.st_store.specs.Stored.{StoreState, Opens}
use Rattle.st_store.specs.Faults.{RestsUnlessGate}
use Rattle.st_store.proofs.Turning.{makes_as, viewed, rests}
use Rattle.st_store.proofs.Settling.{when_err, kept_rest}
use Rattle.st_store.proofs.store.Store.commit.Goals as goal

pub returns-in_err-stage-clause-makes : goal.returns-in_err-stage-clause-makes
returns-in_err-stage-clause-makes g c x d told kept firm is =
    let H = g.H.Host in
    let at = viewed H c.args.host.now _ _ x d c.self.view_is kept firm in
    subst (λ (s : StoreState). Makes H (Opens s.name) x d c.args.host.now c.stage.new.host c.from_residual.result) c.self.view_is
    (makes_failed H (Opens (string_bytes c.self.inside.names.name)) x d c.args.host.now c.stage.new.host c.stage.new.host c.stage.result _ c.from_residual.ensures.0 (c.stage.ensures.makes x d told at.0 at.1 is))

pub returns-in_err-turn-clause-makes : goal.returns-in_err-turn-clause-makes
returns-in_err-turn-clause-makes g c x d told kept firm is =
    let H = g.H.Host in
    let at = viewed H c.args.host.now _ _ x d c.self.view_is kept firm in
    let opens = Opens (string_bytes c.self.inside.names.name) in
    let made = c.turn.ensures.makes c.self.inside.chosen x d told refl (c.in_ok-stage.ensures.staged x d told at.0 at.1 is) in
    subst (λ (s : StoreState). Makes H (Opens s.name) x d c.args.host.now c.turn.new.host c.from_residual-in_err-turn.result) c.self.view_is
    (makes_then H opens x d _ _ _ c.stage.result _ (c.stage.ensures.makes x d told at.0 at.1 is) (makes_of H opens x d _ _ c.turn.result _ c.from_residual-in_err-turn.ensures.0 made))

pub returns-clause-makes : goal.returns-clause-makes
returns-clause-makes g c x d told kept firm is =
    let H = g.H.Host in
    let at = viewed H c.args.host.now _ _ x d c.self.view_is kept firm in
    let name = string_bytes c.self.inside.names.name in
    let made = c.in_ok-turn.ensures.makes c.self.inside.chosen x d told refl (c.in_ok-stage.ensures.staged x d told at.0 at.1 is) in
    makes_as H name c.args.self.name x d c.args.host.now c.turn.new.host _ (ap (λ (s : StoreState). s.name) c.self.view_is)
    (makes_then H (Opens name) x d _ _ _ c.stage.result _ (c.stage.ensures.makes x d told at.0 at.1 is)
    (record { rest = made.rest; either = made.either; quiet = made.quiet; moments = made.moments }))

pub returns-clause-kept : goal.returns-clause-kept
returns-clause-kept g c x d told kept firm is =
    let at = viewed g.H.Host c.args.host.now _ _ x d c.self.view_is kept firm in
    record { root = is; is = c.in_ok-turn.ensures.other c.self.inside.chosen x d told refl (c.in_ok-stage.ensures.staged x d told at.0 at.1 is) }

pub returns-in_err-stage-clause-broken : goal.returns-in_err-stage-clause-broken
returns-in_err-stage-clause-broken g c = when_err c.from_residual.result _ (λ x d told kept firm is.
    let H = g.H.Host in
    let at = viewed H c.args.host.now _ _ x d c.self.view_is kept firm in
    subst (λ (s : StoreState). RestsUnlessGate H (Opens s.name) s.name x c.stage.new.host) c.self.view_is
    (inl (kept_rest H (Opens (string_bytes c.self.inside.names.name)) x _ _ c.stage.result (c.stage.ensures.makes x d told at.0 at.1 is))))

pub returns-in_err-turn-clause-broken : goal.returns-in_err-turn-clause-broken
returns-in_err-turn-clause-broken g c = when_err c.from_residual-in_err-turn.result _ (λ x d told kept firm is.
    let H = g.H.Host in
    let at = viewed H c.args.host.now _ _ x d c.self.view_is kept firm in
    let staged = c.in_ok-stage.ensures.staged x d told at.0 at.1 is in
    let name = string_bytes c.self.inside.names.name in
    subst (λ (s : StoreState). RestsUnlessGate H (Opens s.name) s.name x c.turn.new.host) c.self.view_is
    (inr (record {
      fails = record {
        before = c.stage.new.host;
        rest = record { opens_as = λ f can. rests H name c.stage.new.host c.self.inside.chosen x f staged.chosen can };
        writes = c.turn.ensures.writes;
        fault = c.in_err-turn.ensures.cause.rose refl;
      };
      ready = c.turn.ensures.ready c.self.inside.chosen x d told staged;
    })))

pub returns-clause-gate : goal.returns-clause-gate
returns-clause-gate g c told = (c.in_ok-turn.ensures.written told).inside 0 (lit< tt)
