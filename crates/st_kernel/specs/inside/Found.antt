-- What a start finds, and with what its first process can be begun.
use Rattle.std.specs.Prelude.{◌≡◌, ◌≢◌, ℕ, ◌+◌, ◌≤◌, true, codes, length, slice_get, Some, Bool}
use Rattle.st_model.specs.declared.page.PageObject.TheVariants.{SchedulerAssociation, MethodClass}
use Rattle.st_model.specs.Values.{Value, Ref}
use Rattle.st_model.specs.Objects.{place_of, is_pointers}
use Rattle.st_model.specs.Machine.{State, Step, Went, is_there}
use Rattle.st_model.specs.Methods.{context_size, method_header}
use Rattle.st_model.specs.Table.{Table, table}
use Rattle.st_model.specs.View.{View, IsWhole, is_live, object_of}
use Rattle.st_model.specs.Start.{idle_state}
use Rattle.st_kernel_text.specs.Parts.{Start}
use Rattle.st_kernel.specs.Starting.{global_value, method_of, first_words, begin_by}
use Rattle.st_kernel.specs.Built.{fault_at, begun_in}

-- a step finds this in what a memory contains, and leaves it as it is
abbrev pub Finds : {A : Type 0} → View → Step Table A → A → Type 0
Finds v m a = m.run (idle_state v) ≡ Went a (idle_state v)

-- The start is found: the receiver, its method without arguments, whose temporary variables have places in a context, and the global
-- Process, which is an object other than the class of methods.
pub record IsFound (v : View) (s : Start) : Type 0 where
  pub receiver : Value
  pub method : Value
  pub header : Value
  pub class : ℕ
  pub has_receiver : Finds v (global_value table v.head s.receiver) receiver
  pub there : is_there table v.objects receiver ≡ true
  pub has_method : Finds v (method_of table v.head receiver s.selector) method
  pub has_header : Finds v (method_header table method) header
  pub has_places : first_words header + 6 ≤ context_size header
  pub has_class : Finds v (global_value table v.head (codes "Process")) (Ref class)
  pub live : is_live v.objects (Ref class) ≡ true
  pub other : class ≢ place_of MethodClass

-- the association of the page that has the scheduler
abbrev pub scheduler_association : Value
scheduler_association = Ref (place_of SchedulerAssociation)

-- an object of kind Pointers with so many fields or more
pub record IsPointers (t : Table) (v : Value) (n : ℕ) : Type 0 where
  pub live : is_live t v ≡ true
  pub pointers : is_pointers (object_of t v).kind ≡ true
  pub enough : n ≤ length (object_of t v).fields

-- the scheduler is another object, with a field for its active process
pub record HasScheduler (v : View) : Type 0 where
  pub scheduler : Value
  pub association : IsPointers v.objects scheduler_association 2
  pub is : slice_get (object_of v.objects scheduler_association).fields 1 ≡ Some scheduler
  pub object : IsPointers v.objects scheduler 2
  pub other : scheduler ≢ scheduler_association

-- a process is begun, or there is no room
abbrev pub Begins : View → Start → Type 0
Begins v s = (made : Bool) × (c : State Table) × ((begin_by v.head s).run (idle_state v) ≡ Went made c)

-- a start that is found begins
abbrev pub FoundBegins : Type 0
FoundBegins = (v : View) (s : Start) → IsWhole v → HasScheduler v → IsFound v s → Begins v s

-- where there is a scheduler, the start isn't found
abbrev pub IsMissing : View → Start → Type 0
IsMissing v s = HasScheduler v → ¬ IsFound v s

-- cause 6 is that of a start that isn't found
abbrev pub MissingStart : Type 0
MissingStart = (v : View) (s : Start) (n : ℕ) → IsWhole v → begun_in n s (idle_state v) ≡ fault_at n 6 → IsMissing v s
