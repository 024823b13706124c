use Rattle.std.proofs.Common.{◌≤◌, subst, sym}
use Rattle.st_model.specs.Values.{value}
use Rattle.st_model.specs.View.{object_of}
use Rattle.st_model.proofs.WholeLemmas.{formed_live}
use Rattle.st_counted.specs.inside.Counted.{counted_view}
use Rattle.st_counted.proofs.Sizes.{size_within}
use Rattle.st_counted.proofs.memory.CountedMemoryMemory.size.Goals as goal

pub returns-clause-small : goal.returns-clause-small
returns-clause-small c =
    let v = counted_view c.args.self.now.contents in
    subst (λ n. n ≤ 131066) (sym c.size.ensures) (size_within (object_of v.objects (value c.args.o)) (formed_live v c.args.self.now.whole (value c.args.o) c.requires))
