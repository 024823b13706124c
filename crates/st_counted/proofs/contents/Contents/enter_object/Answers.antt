use Rattle.std.proofs.Common.{◌≡◌, ◌<◌, sym, ap, ◌∙◌, subst, cond, is_some}
use Rattle.std.specs.Prelude.{Option, Some, None}
use Rattle.std.proofs.lemmas.List.{get_or-set_same, get_or-set_other}
use Rattle.st_model.specs.Values.{value}
use Rattle.st_model.specs.Objects.{Object}
use Rattle.st_model.specs.Table.{entry}
use Rattle.st_counted.specs.inside.Counts.{count_at}
use Rattle.st_counted.specs.inside.Counted.{counted_view, numbers_of}
use Rattle.st_counted.proofs.Swept.{place_value, live_entry, dead_entry}
use Rattle.st_counted.proofs.contents.Contents.enter_object.Goals as goal

pub start-requires-clause-some : goal.start-requires-clause-some
start-requires-clause-some c e =
    let t = (counted_view c.args.self.now).objects in
    let is = live_entry t (value c.pointer_of-o.result) c.args.k (place_value c.pointer_of-o.result.0 c.args.k c.pointer_of-o.ensures) (sym c.live.ensures ∙ c.if-live.true) in
    let none : entry t c.args.k ≡ None = ap (entry t) e ∙ c.requires.whole.unused in cc

pub start-requires-clause-absent : goal.start-requires-clause-absent
start-requires-clause-absent c = ap is_some c.requires.none

pub returns-then-live-clause-here : goal.returns-then-live-clause-here
returns-then-live-clause-here c =
    let m = c.args.self.now in
    let t = (counted_view m).objects in
    let k = c.args.k in
    let is = live_entry t (value c.pointer_of-o.result) k (place_value c.pointer_of-o.result.0 k c.pointer_of-o.ensures) (sym c.live.ensures ∙ c.if-live.true) in
    ap (λ cs. count_at cs k) c.start.ensures.counts
    ∙ get_or-set_same (numbers_of m) k (Some 0) None (subst (λ n. k < n) (sym m.counts.places) c.requires.place)
    ∙ ap (λ (x : Option Object). cond (is_some x) (Some 0) None) (sym is)

pub returns-then-live-clause-others : goal.returns-then-live-clause-others
returns-then-live-clause-others c = λ j ne. ap (λ cs. count_at cs j) c.start.ensures.counts ∙ get_or-set_other (numbers_of c.args.self.now) c.args.k j (Some 0) None ne

pub returns-else-live-clause-here : goal.returns-else-live-clause-here
returns-else-live-clause-here c =
    let t = (counted_view c.args.self.now).objects in
    let k = c.args.k in
    let dead = dead_entry t (value c.pointer_of-o.result) k (place_value c.pointer_of-o.result.0 k c.pointer_of-o.ensures) (sym c.live.ensures ∙ c.if-live.false) in
    c.requires.none ∙ ap (λ (x : Option Object). cond (is_some x) (Some 0) None) (sym dead)
