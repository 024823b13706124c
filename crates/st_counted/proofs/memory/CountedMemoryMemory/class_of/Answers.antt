use Rattle.std.proofs.Common.{◌≡◌, true, sym, subst}
use Rattle.st_model.specs.Values.{Value, value}
use Rattle.st_model.specs.View.{is_live}
use Rattle.st_model.proofs.WholeLemmas.{class_live}
use Rattle.st_counted.specs.inside.Counted.{counted_view}
use Rattle.st_counted.proofs.memory.CountedMemoryMemory.class_of.Goals as goal

pub returns-clause-known : goal.returns-clause-known
returns-clause-known c = λ big.
    let v = counted_view c.args.self.now.contents in
    subst (λ (x : Value). is_live v.objects x ≡ true) (sym c.class_of.ensures) (class_live v c.args.self.now.whole (value c.args.o) c.requires)
