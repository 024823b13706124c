use Rattle.std.proofs.Common.{◌∙◌, arith, ap, length}
use Rattle.std.specs.Prelude.{slice_get}
use Rattle.st_kernel_text.specs.inside.Views.{account_of}
use Rattle.st_model.specs.View.{View, empty_view}
use Rattle.st_first_objects.specs.Plans.{FirstObjects}
use Rattle.st_first_objects.specs.inside.Views.{thing_of}
use Rattle.st_first_objects.specs.First.{head_in, view_of}
use Rattle.st_first_objects.proofs.Complete.{first_methods, first_many, begun_is, empty_head, complete, made}
use Rattle.st_first_objects.proofs.first.make_first.Goals as goal

pub place_all-requires : goal.place_all-requires
unfolding empty_view
place_all-requires g c = record {
  objects = ap (λ (v : View). v.objects) c.in_ok-loader.ensures;
  entries = ap (λ (v : View). v.head.entries) c.in_ok-loader.ensures;
  words = ap (λ (v : View). v.head.words) c.in_ok-loader.ensures;
  few = c.in-Ok.ensures.1;
  methods = ap (λ (p : FirstObjects). slice_get p.order.things 12) c.in-Ok.ensures.0 ∙ first_methods (account_of c.args.kernel.now);
}

pub finish-requires : goal.finish-requires
finish-requires g c =
    let things = c.in-Ok.plan.order.things in
    let begun = c.in_ok-loader.ensures
    ∙ begun_is things c.pointer-globals.result c.pointer-symbols.result (thing_of c.only.result) (thing_of c.only-2.result) c.in-Ok.ensures.1
    c.pointer-globals.ensures.value c.pointer-globals.ensures.half c.only.ensures c.pointer-symbols.ensures.value c.pointer-symbols.ensures.half c.only-2.ensures in
    let m = first_many (account_of c.args.kernel.now) in
    let e = ap (λ (p : FirstObjects). length p.order.things) c.in-Ok.ensures.0 in
    complete c.in-Ok.plan (g.L.Loader.loaded c.in_ok-loader.loader) (g.L.Loader.loaded c.place_all.new.loader) c.in-Ok-place_all.ensures.0 c.in-Ok-place_all.ensures.1 (omega arith)
    (ap (λ (v : View). v.head) begun ∙ empty_head (head_in things))

pub returns-in-Ok-place_all-clause-made : goal.returns-in-Ok-place_all-clause-made
returns-in-Ok-place_all-clause-made g c =
    let things = c.in-Ok.plan.order.things in
    let begun = c.in_ok-loader.ensures
    ∙ begun_is things c.pointer-globals.result c.pointer-symbols.result (thing_of c.only.result) (thing_of c.only-2.result) c.in-Ok.ensures.1
    c.pointer-globals.ensures.value c.pointer-globals.ensures.half c.only.ensures c.pointer-symbols.ensures.value c.pointer-symbols.ensures.half c.only-2.ensures in
    let m = first_many (account_of c.args.kernel.now) in
    let e = ap (λ (p : FirstObjects). length p.order.things) c.in-Ok.ensures.0 in
    c.finish.ensures
    ∙ made c.in-Ok.plan (g.L.Loader.loaded c.in_ok-loader.loader) (g.L.Loader.loaded c.place_all.new.loader) c.in-Ok-place_all.ensures.0 c.in-Ok-place_all.ensures.1 (omega arith) begun
    ∙ ap view_of c.in-Ok.ensures.0
