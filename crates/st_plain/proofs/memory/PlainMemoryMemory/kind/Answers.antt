use Rattle.std.proofs.Common.{ap, ◌∙◌}
use Rattle.st_model.specs.Objects.{Object, is_method}
use Rattle.st_model.specs.Values.{value}
use Rattle.st_model.proofs.WholeLemmas.{formed_live}
use Rattle.st_plain.specs.inside.Plain.{plain_view}
use Rattle.st_plain.proofs.memory.PlainMemoryMemory.kind.Goals as goal

pub returns-clause-method : goal.returns-clause-method
returns-clause-method c = λ method.
    let v = plain_view c.args.self.now.contents in
    (formed_live v c.args.self.now.whole (value c.args.o) c.requires).has_header (ap (λ (o : Object). is_method o.kind) c.live_entry.ensures.object ∙ method)
