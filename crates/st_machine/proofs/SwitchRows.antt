-- A worked row of a switch in which the scheduler is asked for twice, computed from the definitions.
use Rattle.std.proofs.Common.{◌≡◌, List, [], ◌∷◌, Some, None, Option, refl}
use Rattle.std.specs.Prelude.{pos}
use Rattle.st_model.specs.declared.kind.Kind.TheVariants as kind
use Rattle.st_model.specs.Values.{Value, Small, Ref}
use Rattle.st_model.specs.Objects.{Object, nil}
use Rattle.st_model.specs.Machine.{State, Registers, Went, empty_world}
use Rattle.st_model.specs.Table.{Table, table}
use Rattle.st_model.specs.Processes.{switch_to_process}
use Rattle.st_model.proofs.Opened.{opened}

-- an object of kind Pointers
unfoldable object : List Value → Option Object
object fields = Some (record { class = 6; kind = kind.Pointers; fields = fields; units = [] })

-- The association of the scheduler, which is 4, names this; the scheduler 5 has that association as its active process. The process 7 has the
-- context 9, and in the active context 8 these pointers are stored.
unfoldable objects : Value → Value → Value → Table
unfolding object
objects named ip sp =
    None ∷ object [] ∷ object [] ∷ object [] ∷ object (nil ∷ named ∷ []) ∷ object (nil ∷ Ref 4 ∷ []) ∷ object [] ∷ object (nil ∷ Ref 9 ∷ [])
    ∷ object (nil ∷ ip ∷ sp ∷ nil ∷ nil ∷ Ref 2 ∷ Small 9 ∷ []) ∷ object (nil ∷ Small 7 ∷ Small 2 ∷ Ref 3 ∷ nil ∷ Small 5 ∷ Small 8 ∷ Small 9 ∷ []) ∷ []

unfoldable here : Registers
here = record { active = Ref 8; home = Ref 8; method = nil; receiver = Ref 2; ip = pos 4; sp = 6 }

unfoldable there : Registers
there = record { active = Ref 9; home = Ref 9; method = Ref 3; receiver = Small 5; ip = pos 6; sp = 7 }

-- with this process waiting
unfoldable at : Registers → Value → Table → State Table
at r p t = record {
  memory = t;
  registers = r;
  world = record (empty_world nil) { devices = record (empty_world nil).devices { new_process = p } };
  head = record { entries = 100; words = 1000; globals = None; symbols = None };
}

-- As `checkProcessSwitch` does: the active context is kept in the process that was active, which is the association here, and then what that
-- names takes the new process. That is the active context, whose field 1 is stored once more. The scheduler's process stays.
asked_twice : (switch_to_process table (Ref 7)).run (at here (Ref 7) (objects (Ref 5) nil nil)) ≡ Went tt (at there nil (objects (Ref 8) (Small 5) (Small 1)))
unfolding opened at here there objects object
asked_twice = refl
