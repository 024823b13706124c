use Rattle.std.proofs.Common.{◌≡◌, true, sym, ap, ◌∙◌, subst}
use Rattle.st_model.specs.Objects.{Object}
use Rattle.st_model.specs.Values.{Value, Ref, value}
use Rattle.st_model.specs.View.{is_live, object_of}
use Rattle.st_model.proofs.Pointers.{value_of-even}
use Rattle.st_model.proofs.WholeLemmas.{class_live}
use Rattle.st_plain.specs.inside.Plain.{plain_view}
use Rattle.st_plain.proofs.memory.PlainMemoryMemory.class_of.Goals as goal

pub returns-clause-class : goal.returns-clause-class
returns-clause-class c = value_of-even c.live_entry.result.class.0 c.live_entry.ensures.placed.class ∙ ap (λ (o : Object). Ref o.class) (sym c.live_entry.ensures.object)

pub returns-clause-known : goal.returns-clause-known
returns-clause-known c = λ big.
    let v = plain_view c.args.self.now.contents in
    let named : value c.live_entry.result.class ≡ Ref (object_of v.objects (value c.args.o)).class =
    value_of-even c.live_entry.result.class.0 c.live_entry.ensures.placed.class ∙ ap (λ (o : Object). Ref o.class) (sym c.live_entry.ensures.object) in
    subst (λ (x : Value). is_live v.objects x ≡ true) (sym named) (class_live v c.args.self.now.whole (value c.args.o) c.requires)
