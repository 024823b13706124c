use Rattle.std.proofs.Common.{◌≡◌, subst, ap, sym, ◌∙◌}
use Rattle.std.specs.Prelude.{OnOk}
use Rattle.st_kernel_text.specs.inside.Views.{class_of, part_of}
use Rattle.st_first_objects.specs.declared.thing.What.TheVariants as what
use Rattle.st_first_objects.specs.Things.{named}
use Rattle.st_first_objects.specs.Orders.{Order, want, want_all, class_things, names_things, wanted_by}
use Rattle.st_first_objects.proofs.Wanting.{want_three}
use Rattle.st_first_objects.proofs.wanted.want_part.Goals as goal

pub returns-in_ok-want_names-in-Class : goal.returns-in_ok-want_names-in-Class
returns-in_ok-want_names-in-Class c =
    let class = c.in-Class.class in
    let names = names_things c.args.number (class_of class) in
    let first : c.want_class.new.order ≡ want_all c.args.order.now (class_things class.name.items) =
    c.in_ok-want_class-in-Class.ensures ∙ ap (λ n. want_all c.args.order.now (class_things n)) c.deref.ensures.value in
    let second : c.want_names.new.order ≡ want_all (want_all c.args.order.now (class_things class.name.items)) names =
    c.in_ok-want_names-in-Class.ensures ∙ ap (λ (o : Order). want_all o names) first in
    let third : want c.want_names.new.order _ ≡ want (want_all (want_all c.args.order.now (class_things class.name.items)) names) (named what.Global class.name.items) =
    (λ i. want (second i) ((c.named.ensures ∙ ap (named what.Global) c.deref-in-Class.ensures.value) i)) in
    subst (λ (o : Order). OnOk c.want.result (c.want.new.self ≡ o))
    (third
    ∙ want_three c.args.order.now (class_things class.name.items) names (named what.Global class.name.items)
    ∙ ap (λ p. want_all c.args.order.now (wanted_by c.args.names.now c.args.number (part_of p))) (sym c.in-Class.is))
    c.want.ensures
