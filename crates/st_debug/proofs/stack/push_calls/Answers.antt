use Rattle.std.proofs.Common.{◌≡◌, ◌∙◌, ap, sym, subst, arith}
use Rattle.std.specs.Prelude.{option_map}
use Rattle.st_model.specs.Values.{value}
use Rattle.st_debug.specs.inside.Calls.{call_of}
use Rattle.st_debug.proofs.Walked.{AddsSome, none_there, none_added, added_more, added_part, added_stopped, added_all, one_later}
use Rattle.st_debug.proofs.stack.push_calls.Goals as goal

pub contexts-init : goal.contexts-init
contexts-init g c = record {
  within = omega arith;
  adds = none_added (g.M.Memory.view c.args.m.now).objects g.H.Host c.args.most (value c.args.active) c.args.host.now c.args.out.now (g.met.H.Host.only_now c.args.host.now);
}

pub contexts-preserved : goal.contexts-preserved
contexts-preserved g c =
    let t = (g.M.Memory.view c.args.m.now).objects in
    let less = c.contexts-test.true in
    record {
      within = omega (arith, less);
      adds = subst (λ k. AddsSome t g.H.Host c.args.most (value c.args.active) k (value c.in-Some.call.sender) c.args.host.now c.push_values_line.new.host c.args.out.now c.push_values_line.new.out) (one_later c.contexts.count)
          (added_more t g.H.Host c.args.most (value c.args.active) c.contexts.invariant.adds (call_of c.in-Some.call) less (sym c.call_at.ensures ∙ ap (option_map call_of) c.in-Some.is) c.in_ok-push_values_line.ensures);
    }

pub returns-in_err-push_values_line : goal.returns-in_err-push_values_line
returns-in_err-push_values_line g c =
    let t = (g.M.Memory.view c.args.m.now).objects in
    added_part t g.H.Host c.args.most (value c.args.active) c.contexts.invariant.adds (call_of c.in-Some.call) c.contexts-test.true (sym c.call_at.ensures ∙ ap (option_map call_of) c.in-Some.is)
    c.from_residual.ensures.0 c.in_err-push_values_line.ensures

pub returns-in_default : goal.returns-in_default
returns-in_default g c =
    added_stopped (g.M.Memory.view c.args.m.now).objects g.H.Host c.args.most (value c.args.active) c.contexts.invariant.adds (sym c.call_at.ensures ∙ ap (option_map call_of) (none_there c.call_at.result c.in_default.not-Some))

pub returns : goal.returns
returns g c =
    let t = (g.M.Memory.view c.args.m.now).objects in
    let within = c.contexts.invariant.within in
    let done = c.contexts-test.false in
    let e : c.contexts.count ≡ c.args.most = omega (arith, within, done) in
    added_all t g.H.Host c.args.most (value c.args.active)
    (subst (λ k. AddsSome t g.H.Host c.args.most (value c.args.active) k (value c.contexts.context) c.args.host.now c.contexts.host c.args.out.now c.contexts.out) e c.contexts.invariant.adds)
