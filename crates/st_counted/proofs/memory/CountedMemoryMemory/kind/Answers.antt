use Rattle.std.proofs.Common.{ap, sym, ◌∙◌}
use Rattle.st_model.specs.Objects.{is_method}
use Rattle.st_model.specs.Values.{value}
use Rattle.st_model.proofs.WholeLemmas.{formed_live}
use Rattle.st_counted.specs.inside.Counted.{counted_view}
use Rattle.st_counted.proofs.memory.CountedMemoryMemory.kind.Goals as goal

pub returns-clause-method : goal.returns-clause-method
returns-clause-method c = λ method.
    let v = counted_view c.args.self.now.contents in
    (formed_live v c.args.self.now.whole (value c.args.o) c.requires).has_header (ap is_method (sym c.kind.ensures) ∙ method)
