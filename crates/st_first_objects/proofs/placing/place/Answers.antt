use Rattle.st_first_objects.proofs.Places.{place_first}
use Rattle.st_first_objects.proofs.placing.place.Goals as goal

pub returns-then-i-lt28-clause-least : goal.returns-then-i-lt28-clause-least
returns-then-i-lt28-clause-least c = (place_first c.args.i c.if-i-lt28.true).1

pub returns-then-i-lt28-clause-most : goal.returns-then-i-lt28-clause-most
returns-then-i-lt28-clause-most c = (place_first c.args.i c.if-i-lt28.true).2
