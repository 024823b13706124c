use Rattle.std.proofs.Common.{◌<◌, ◌/◌, length, ◌∙◌, arith}
use Rattle.st_model.specs.Formed.{fresh}
use Rattle.st_model.specs.Table.{first_free}
use Rattle.st_plain.specs.inside.ListsPlain.{objects_of}
use Rattle.st_plain.proofs.Made.{length-objects, pointer_even, pointer_free, pointer_least, made_placed, made_full}
use Rattle.st_plain.proofs.objects.Objects.make.Goals as goal

pub place-requires-clause-even : goal.place-requires-clause-even
place-requires-clause-even c = pointer_even c.least_free-k.result

pub place-requires-clause-free : goal.place-requires-clause-free
place-requires-clause-free c = pointer_free (objects_of c.args.self.now) c.least_free-k.result c.least_free-k.ensures.least

pub invariant_of-self : goal.invariant_of-self
invariant_of-self c =
    let new = c.place.new.self in
    let k = c.least_free-k.result in
    let within : k < 32768 = let a = c.least_free-k.ensures.least in let b = c.requires.left in omega (arith, a, b) in
    record {
      laid_out = new.laid_out;
      counted = new.counted;
      full = made_full c.args.self.now new k (fresh (c.args.class.0 / 2) c.args.kind c.args.size c.args.literals) within c.least_free-k.ensures.full c.place.ensures.objects;
    }

pub returns-clause-pointer : goal.returns-clause-pointer
returns-clause-pointer c = pointer_least (objects_of c.args.self.now) c.least_free-k.result c.least_free-k.ensures.least

pub returns-clause-objects : goal.returns-clause-objects
returns-clause-objects c =
    let t = objects_of c.args.self.now in
    let within : first_free t < length t = let a = length-objects c.args.self.now in let b = c.requires.left in omega (arith, a, b) in
    c.place.ensures.objects ∙ made_placed t c.least_free-k.result c.least_free-k.ensures.least (fresh (c.args.class.0 / 2) c.args.kind c.args.size c.args.literals) within
