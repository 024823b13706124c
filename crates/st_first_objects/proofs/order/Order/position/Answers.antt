use Rattle.std.proofs.Common.{ap, ◌∙◌}
use Rattle.std.specs.List.{position}
use Rattle.st_first_objects.specs.Things.{same}
use Rattle.st_first_objects.specs.Orders.{Order}
use Rattle.st_first_objects.specs.inside.Views.{thing_of}
use Rattle.st_first_objects.proofs.Same.{position_is}
use Rattle.st_first_objects.proofs.order.Order.position.Goals as goal

pub returns-clause-found : goal.returns-clause-found
returns-clause-found c =
    c.get_index_of.ensures.index
    ∙ position_is c.args.thing.now c.self.inside.things.keys
    ∙ ap (λ (o : Order). position (same (thing_of c.args.thing.now)) o.things) c.self.view_is
