use Rattle.std.proofs.Common.{◌≡◌, ◌∙◌, ap, sym, subst, arith}
use Rattle.std.specs.Prelude.{option_map}
use Rattle.st_model.specs.Values.{value}
use Rattle.st_debug.specs.inside.Calls.{call_of}
use Rattle.st_debug.proofs.Walked.{Counts, none_counted, counted_more, counted_stopped, counted_all, one_later}
use Rattle.st_debug.proofs.stack.count_calls.Goals as goal

pub contexts-init : goal.contexts-init
contexts-init g c = record {
  within = omega arith;
  counts = none_counted (g.M.Memory.view c.args.m.now).objects c.args.most (value c.args.active);
}

pub contexts-preserved : goal.contexts-preserved
contexts-preserved g c =
    let t = (g.M.Memory.view c.args.m.now).objects in
    let less = c.contexts-test.true in
    record {
      within = omega (arith, less);
      counts = subst (λ k. Counts t c.args.most k (value c.args.active) (value c.in-Some.call.sender)) (one_later c.contexts.count)
          (counted_more t c.args.most c.contexts.count (value c.args.active) (value c.contexts.context) (call_of c.in-Some.call) less
          (sym c.call_at.ensures ∙ ap (option_map call_of) c.in-Some.is) c.contexts.invariant.counts);
    }

pub returns-in-None : goal.returns-in-None
returns-in-None g c =
    let t = (g.M.Memory.view c.args.m.now).objects in
    counted_stopped t c.args.most c.contexts.count (value c.args.active) (value c.contexts.context) (sym c.call_at.ensures ∙ ap (option_map call_of) c.in-None.is) c.contexts.invariant.counts

pub returns : goal.returns
returns g c =
    let t = (g.M.Memory.view c.args.m.now).objects in
    let within = c.contexts.invariant.within in
    let done = c.contexts-test.false in
    let e : c.contexts.count ≡ c.args.most = omega (arith, within, done) in
    counted_all t c.args.most (value c.args.active) (value c.contexts.context) (subst (λ k. Counts t c.args.most k (value c.args.active) (value c.contexts.context)) e c.contexts.invariant.counts)
