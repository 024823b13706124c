use Rattle.std.proofs.Common.{◌≡◌, subst, List, [], ◌∷◌}
use Rattle.std.specs.Prelude.{OnOk}
use Rattle.st_first_objects.specs.Things.{Thing}
use Rattle.st_first_objects.specs.Orders.{want_all}
use Rattle.st_first_objects.proofs.wanted.want_class.Goals as goal

pub returns : goal.returns
returns c =
    subst (λ (ts : List Thing). OnOk c.want_all.result (c.want_all.new.self ≡ want_all c.args.order.now ts))
    (λ i. c.class.ensures i ∷ c.named.ensures i ∷ c.named-2.ensures i ∷ c.named-3.ensures i ∷ c.named-4.ensures i ∷ c.named-5.ensures i ∷ c.symbol.ensures i ∷ [])
    c.want_all.ensures
