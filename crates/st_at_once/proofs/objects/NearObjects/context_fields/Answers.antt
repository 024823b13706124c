use Rattle.std.proofs.Common.{Option, Ok, subst}
use Rattle.std.specs.Prelude.{ℕ, IfSome}
use Rattle.st_model.specs.declared.word.Word.{Word}
use Rattle.st_model.specs.Values.{Value, word}
use Rattle.st_model.specs.Machine.{Step}
use Rattle.st_model.specs.Steps.{fetch_field}
use Rattle.st_model.specs.Table.{Table, table, bounded_table}
use Rattle.st_model.specs.inside.Calls.{Reads, itself}
use Rattle.st_memory.specs.declared.context_fields.ContextFields.{ContextFields}
use Rattle.st_memory.proofs.Wide.{fetch_field-bounded, count_fields-bounded}
use Rattle.st_at_once.proofs.objects.NearObjects.context_fields.Goals as goal

read : (t : Table) (v : Value) (i : ℕ) (x : Option ContextFields) (f : ContextFields → Word) → IfSome x (λ c. Reads (fetch_field bounded_table v i) word t (Ok (f c))) → IfSome x (λ c. Reads (fetch_field table v i) word t (Ok (f c)))
read t v i x f h = subst (λ (m : Step Table Value). IfSome x (λ c. Reads m word t (Ok (f c)))) (fetch_field-bounded v i) h

pub returns-clause-instruction_pointer : goal.returns-clause-instruction_pointer
returns-clause-instruction_pointer g c =
    read (g.M.Memory.view c.args.self.now.memory.now).objects (word c.args.context) 1 c.context_fields.result (λ f. f.instruction_pointer) c.context_fields.ensures.instruction_pointer

pub returns-clause-stack_pointer : goal.returns-clause-stack_pointer
returns-clause-stack_pointer g c =
    read (g.M.Memory.view c.args.self.now.memory.now).objects (word c.args.context) 2 c.context_fields.result (λ f. f.stack_pointer) c.context_fields.ensures.stack_pointer

pub returns-clause-method : goal.returns-clause-method
returns-clause-method g c =
    read (g.M.Memory.view c.args.self.now.memory.now).objects (word c.args.context) 3 c.context_fields.result (λ f. f.method) c.context_fields.ensures.method

pub returns-clause-receiver : goal.returns-clause-receiver
returns-clause-receiver g c =
    read (g.M.Memory.view c.args.self.now.memory.now).objects (word c.args.context) 5 c.context_fields.result (λ f. f.receiver) c.context_fields.ensures.receiver

pub returns-clause-count : goal.returns-clause-count
returns-clause-count g c =
    subst (λ (m : Step Table ℕ). IfSome c.context_fields.result (λ f. Reads m itself (g.M.Memory.view c.args.self.now.memory.now).objects (Ok f.count)))
    (count_fields-bounded (word c.args.context)) c.context_fields.ensures.count
