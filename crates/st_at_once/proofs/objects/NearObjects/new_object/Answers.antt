use Rattle.st_model.specs.Values.{word}
use Rattle.st_memory.proofs.Fresh.{can_make}
use Rattle.st_at_once.proofs.objects.NearObjects.new_object.Goals as goal

pub make-requires-clause-makeable : goal.make-requires-clause-makeable
make-requires-clause-makeable g c = can_make (word c.args.class) c.args.n c.requires.class c.requires.small
