use Rattle.std.proofs.Common.{not, ap, ◌∙◌}
use Rattle.st_first_objects.specs.Orders.{Order, is_made, put}
use Rattle.st_first_objects.specs.inside.Views.{thing_of}
use Rattle.st_first_objects.proofs.Same.{made_is, put_is}
use Rattle.st_first_objects.proofs.order.Order.put.Goals as goal

pub returns-clause-added : goal.returns-clause-added
returns-clause-added c =
    c.in_ok-added.ensures.added
    ∙ ap not (made_is c.args.thing c.self.inside.things.keys)
    ∙ ap (λ (o : Order). not (is_made o (thing_of c.args.thing))) c.self.view_is

pub returns-clause-put : goal.returns-clause-put
returns-clause-put c =
    put_is c.self.inside.things.keys c.insert_full.new.self.keys c.args.thing c.self.inside.symbols c.self.inside.places c.in_ok-added.ensures.keys
    ∙ ap (λ (o : Order). put o (thing_of c.args.thing)) c.self.view_is
