use Rattle.std.proofs.Common.{◌≡◌, false, sym, ap, ◌∙◌, ⊎_elim}
use Rattle.std.proofs.lemmas.Bool.{false≢true}
use Rattle.st_model.specs.Values.{value}
use Rattle.st_model.specs.Objects.{is_bytes}
use Rattle.st_call.proofs.Pushing.{push_none, push_as}
use Rattle.st_call.proofs.Escaping.{none_said}
use Rattle.st_call.proofs.said.push_said.Goals as goal

pub returns-then-not-live : goal.returns-then-not-live
returns-then-not-live g c =
    push_as (push_none g.H.Host c.args.host.now (g.met.H.Host.only_now c.args.host.now))
    (none_said (g.M.Memory.view c.args.m.now).objects (value c.args.o) (λ live. absurd (false≢true (sym c.if-not-live.true ∙ (c.live.ensures ∙ live)))))

pub returns-in-Pointers : goal.returns-in-Pointers
returns-in-Pointers g c =
    let other : is_bytes c.kind.result ≡ false = ⊎_elim (λ e. ap is_bytes e) (λ q. ⊎_elim (λ e. ap is_bytes e) (λ e. ap is_bytes e) q) c.in-Pointers.is in
    push_as (push_none g.H.Host c.args.host.now (g.met.H.Host.only_now c.args.host.now))
    (none_said (g.M.Memory.view c.args.m.now).objects (value c.args.o) (λ live. sym (ap is_bytes c.kind.ensures.kind) ∙ other))
