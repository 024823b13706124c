use Rattle.std.proofs.Common.{◌≡◌, ℕ, ◌+◌, ◌/◌, length, arith, sym, ap, subst, ◌∙◌}
use Rattle.st_model.specs.declared.oop.Oop.{Oop}
use Rattle.st_model.specs.Objects.{Object, words_of}
use Rattle.st_first_objects.specs.Pointers.{place, object}
use Rattle.st_first_objects.specs.inside.Placing.{CanPlace, Underway}
use Rattle.st_first_objects.specs.inside.Views.{thing_of, content_of}
use Rattle.st_first_objects.proofs.Underway.{begins, refused, can_place, goes_on, object_is, puts_there}
use Rattle.st_first_objects.proofs.first.place_all.Goals as goal

pub loop-i-init : goal.loop-i-init
loop-i-init g c = begins c.args.plan.now (g.L.Loader.loaded c.args.loader.now) c.requires

pub returns-in-Err : goal.returns-in-Err
returns-in-Err g c =
    let p = c.args.plan.now in
    let x = thing_of c.thing.result in
    let object_here = object_is p x (content_of c.in_ok-content.content) c.in_ok-content.ensures in
    refused p (g.L.Loader.loaded c.args.loader.now) (g.L.Loader.loaded c.loop-i.loader) (g.L.Loader.loaded c.loop-i.loader) c.loop-i.used c.loop-i.i c.words.result x c.in-Err.unmade c.loop-i.invariant
    c.thing.ensures (c.words.ensures p.order.things ∙ ap words_of object_here) c.in-Err.ensures

pub place_content-requires-clause-can : goal.place_content-requires-clause-can
place_content-requires-clause-can g c =
    let p = c.args.plan.now in
    let x = thing_of c.thing.result in
    let v = g.L.Loader.loaded c.loop-i.loader in
    let object_here = object_is p x (content_of c.in_ok-content.content) c.in_ok-content.ensures in
    let words : c.words.result ≡ words_of (object p x) = c.words.ensures p.order.things ∙ ap words_of object_here in
    let size = c.in-Ok.ensures.1 in
    let fits = c.in-Ok.ensures.2 in
    subst (λ (o : Object). (class : Oop) × CanPlace v c.pointer_at.result class (c.pointer_at.result.0 / 2) o) (sym object_here)
    (can_place p (g.L.Loader.loaded c.args.loader.now) v c.loop-i.used c.loop-i.i c.requires c.loop-i.invariant x c.thing.ensures (omega arith) (omega arith)
    c.pointer_at.result c.pointer_at.ensures.value c.pointer_at.ensures.half)

pub loop-i-preserved : goal.loop-i-preserved
loop-i-preserved g c =
    let p = c.args.plan.now in
    let x = thing_of c.thing.result in
    let v = g.L.Loader.loaded c.loop-i.loader in
    let w = g.L.Loader.loaded c.place_content.new.loader in
    let object_here = object_is p x (content_of c.in_ok-content.content) c.in_ok-content.ensures in
    let words : c.words.result ≡ words_of (object p x) = c.words.ensures p.order.things ∙ ap words_of object_here in
    let size = c.in-Ok.ensures.1 in
    let fits = c.in-Ok.ensures.2 in
    let h = c.pointer_at.ensures.half in
    let k : c.pointer_at.result.0 / 2 ≡ place c.loop-i.i = omega arith in
    goes_on p (g.L.Loader.loaded c.args.loader.now) v c.loop-i.used c.loop-i.i c.requires c.loop-i.invariant x c.thing.ensures w c.in-Ok.all
    (puts_there v w _ _ _ _ k object_here c.place_content.ensures)
    (c.in-Ok.ensures.0 ∙ ap (λ n. c.loop-i.used + n) words) (omega arith) (omega arith)

pub returns : goal.returns
returns g c =
    let n = c.count-i-end.ensures in
    let e = c.loop-i.auto.i-end in
    let t = c.loop-i-test.false in
    let all : c.loop-i.i ≡ length c.args.plan.now.order.things = omega arith in
    (c.loop-i.used, subst (λ (n : ℕ). Underway c.args.plan.now (g.L.Loader.loaded c.args.loader.now) (g.L.Loader.loaded c.loop-i.loader) c.loop-i.used n) all c.loop-i.invariant)
