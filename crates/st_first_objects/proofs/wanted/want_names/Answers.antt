use Rattle.std.proofs.Common.{◌≡◌, length, nat_eq, subst, ap, sym, cond, List, [], ◌∷◌, ◌∙◌}
use Rattle.std.specs.Prelude.{OnOk, map}
use Rattle.st_kernel_text.specs.inside.Lists.{texts_of}
use Rattle.st_kernel_text.specs.inside.Views.{class_of}
use Rattle.st_first_objects.specs.declared.thing.What.TheVariants as what
use Rattle.st_first_objects.specs.Things.{Thing, named, within}
use Rattle.st_first_objects.specs.Orders.{Order, want, want_all, names_things}
use Rattle.st_first_objects.proofs.Wanting.{some_names}
use Rattle.st_first_objects.proofs.wanted.want_names.Goals as goal

pub returns : goal.returns
returns c =
    let class = c.args.class.now in
    let variables : List Thing = map (within what.Variable c.args.number) (texts_of class.variables.items) in
    let name : List Thing = named what.Names class.name.items ∷ variables in
    let done : want_all c.want.new.self (map (within what.Variable c.args.number) (texts_of c.as_slice-names.result.now)) ≡ want_all c.args.order.now name =
    ap (λ vs. want_all c.want.new.self (map (within what.Variable c.args.number) (texts_of vs))) c.as_slice-names.ensures.value
    ∙ ap (λ (o : Order). want_all o variables) (c.in_ok-want.ensures ∙ ap (want c.args.order.now) (c.named.ensures ∙ ap (named what.Names) c.deref.ensures.value)) in
    let wanted : want_all c.args.order.now name ≡ want_all c.args.order.now (names_things c.args.number (class_of class)) =
    ap (λ b. want_all c.args.order.now (cond b [] name)) (sym (some_names class.variables.items (c.if-is_empty.ensures ∙ ap (λ vs. nat_eq (length vs) 0) c.as_slice-names.ensures.value))) in
    subst (λ (o : Order). OnOk c.want_variables.result (c.want_variables.new.order ≡ o)) (done ∙ wanted) c.want_variables.ensures
