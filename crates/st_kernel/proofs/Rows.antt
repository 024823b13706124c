-- Worked rows: a first process in a small image, and faults of texts.
use Rattle.std.proofs.Common.{◌≡◌, ℕ, List, [], ◌∷◌, Some, None, Option, Bool, true, false, refl}
use Rattle.std.specs.Prelude.{codes, Result, if◌then◌else◌}
use Rattle.st_model.specs.declared.kind.Kind.TheVariants as kind
use Rattle.st_model.specs.Values.{Value, Small, Ref}
use Rattle.st_model.specs.Objects.{Object, nil}
use Rattle.st_model.specs.Machine.{State, Went, after, answer, empty_world, ◌>>=◌, ◌>>◌}
use Rattle.st_model.specs.Births.{Births}
use Rattle.st_model.specs.Table.{Table, bounded_table}
use Rattle.st_model.specs.Start.{idle_registers}
use Rattle.st_model.specs.Steps.{found, object_named, object, stored_at, store_at, set_field, made, make_named, make, new_object, of_page, or_die, check, fetch_field, store_field}
use Rattle.st_model.specs.Methods.{method_header}
use Rattle.st_model.specs.Storage.{check_not_method_class}
use Rattle.st_protocol.specs.declared.refusal.Refusal.TheVariants.{NoClass}
use Rattle.st_kernel_text.specs.declared.shape.Shape.TheVariants.{Fixed}
use Rattle.st_kernel_text.specs.declared.cause.Cause.TheVariants.{Form}
use Rattle.st_kernel_text.specs.Parts.{Part, class, opening, header, method, closing, start}
use Rattle.st_kernel_text.specs.Texts.{account}
use Rattle.st_first_objects.specs.First.{has_room}
use Rattle.st_protocol.specs.Installing.{Install, Refused, Accepted}
use Rattle.st_kernel.specs.Starting.{first_words, fill_first_context, schedule, schedule_method, in_new_context, in_new_process}
use Rattle.st_kernel.specs.Built.{Built, Fault, fault_at, no_side, begun_as, built_from, without_room, built}

-- A FIRST PROCESS

pointers : ℕ → List Value → Option Object
pointers c fields = Some (record { class = c; kind = kind.Pointers; fields = fields; units = [] })

-- a method with a literal and a temporary variable
sample : Option Object
sample = Some (record { class = 17; kind = kind.Method; fields = Small 129 ∷ Small 3 ∷ []; units = 117 ∷ 124 ∷ [] })

-- 4 is the scheduler's association, 5 the scheduler, 7 the method, 8 the receiver, 9 the class of processes
image : (first second : Option Object) (active : Value) → Table
image first second active =
    None
    ∷ pointers 6 []
    ∷ first
    ∷ second
    ∷ pointers 6 (nil ∷ Ref 5 ∷ [])
    ∷ pointers 6 (nil ∷ active ∷ [])
    ∷ pointers 6 []
    ∷ sample
    ∷ pointers 6 []
    ∷ pointers 6 []
    ∷ None
    ∷ pointers 6 []
    ∷ []

state : (entries : ℕ) → Table → State Table
state entries t = record { memory = t; registers = idle_registers; world = empty_world nil; head = record { entries = entries; words = 200; globals = None; symbols = None } }

process : Option Object
process = pointers 9 (nil ∷ Ref 3 ∷ Small 4 ∷ nil ∷ [])

context : Option Object
context = pointers 11 (nil ∷ Small 5 ∷ Small 1 ∷ Ref 7 ∷ nil ∷ Ref 8 ∷ nil ∷ nil ∷ nil ∷ nil ∷ nil ∷ nil ∷ nil ∷ nil ∷ nil ∷ nil ∷ nil ∷ nil ∷ [])

-- the process takes the first free place, its context the next one
begun : (in_new_process bounded_table (Ref 9) (Ref 7) (Ref 8)).run (state 10 (image None None nil)) ≡ Went true (state 10 (image process context (Ref 2)))
unfolding image pointers sample state process context in_new_process in_new_context schedule_method schedule fill_first_context check_not_method_class method_header found object_named object stored_at store_at set_field made make_named make new_object of_page or_die check fetch_field store_field answer after ◌>>=◌ ◌>>◌
begun = refl

-- room for the process alone
no_room_for_context : begun_as 9 ((in_new_process bounded_table (Ref 9) (Ref 7) (Ref 8)).run (state 9 (image None None nil))) ≡ fault_at 9 7
unfolding image pointers sample state in_new_process in_new_context check_not_method_class method_header found object_named object made make_named make new_object of_page or_die check answer after ◌>>=◌ ◌>>◌
no_room_for_context = refl

-- a method that answers instance variable 3 has no temporary variables
no_words : first_words (Small 24960) ≡ 0
no_words = refl

-- TEXTS

point : Part
point = class (record { name = codes "Point"; above = codes "nil"; shape = Fixed; variables = [] })

of_point : Part
of_point = header (record { class = codes "Point"; meta = false })

begins : Part
begins = start (record { receiver = codes "S"; selector = codes "run" })

refuses : Install
refuses d s = Refused NoClass

accepts : Install
accepts d s = Accepted [] s

refused_method : (s : State Births) → built_from refuses (Some Form) 20 s no_side (opening ∷ of_point ∷ method (codes "x ^1") ∷ []) ≡ fault_at 22 5
unfolding built_from refuses of_point
refused_method s = refl

-- the text is wrong behind its first group
wrong_behind : (s : State Births) → built_from accepts (Some Form) 20 s no_side (opening ∷ of_point ∷ method (codes "x ^1") ∷ closing ∷ []) ≡ fault_at 24 1
unfolding built_from accepts of_point
wrong_behind s = refl

-- the group of the first method is the second one
no_room_at_group : without_room None 0 1 (point ∷ opening ∷ of_point ∷ closing ∷ opening ∷ of_point ∷ method (codes "x ^1") ∷ []) ≡ fault_at 5 7
unfolding without_room point of_point
no_room_at_group = refl

wrong_without_methods : without_room (Some Form) 0 1 (point ∷ opening ∷ of_point ∷ []) ≡ fault_at 4 1
unfolding without_room point of_point
wrong_without_methods = refl

no_method_at_start : without_room None 0 1 (point ∷ opening ∷ of_point ∷ closing ∷ begins ∷ []) ≡ fault_at 5 6
unfolding without_room point of_point begins
no_method_at_start = refl

either : (b : Bool) (x : Result Built Fault) → (if b then x else x) ≡ x
either true x = refl
either false x = refl

bad : (install : Install) → built install (codes "bad!") ≡ fault_at 1 1
unfolding built_from without_room
bad install = either (has_room (account (codes "bad!"))) (fault_at 1 1)
