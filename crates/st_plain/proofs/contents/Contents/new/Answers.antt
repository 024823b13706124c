use Rattle.st_model.specs.View.{head_of}
use Rattle.st_counted.specs.inside.Held.{held_of}
use Rattle.st_plain.specs.inside.ListsPlain.{objects_of}
use Rattle.st_counted.proofs.Beginning.{empty_is}
use Rattle.st_plain.proofs.contents.Contents.new.Goals as goal

pub returns-clause-empty : goal.returns-clause-empty
returns-clause-empty c =
    let head = c.args.head in
    empty_is (objects_of c.in_ok-objects.objects) (held_of c.in_ok-roots.roots) (head_of head.capacity head.globals head.symbols) c.in_ok-objects.ensures.places c.in_ok-objects.ensures.empty c.in_ok-roots.ensures
