-- The classes whose variables a method sees, on both sides.
use Rattle.std.proofs.Common.{◌≡◌, Ok, refl, ap, sym, ◌∙◌}
use Rattle.std.specs.Global.{Vec}
use Rattle.st_model.specs.declared.oop.Oop.{Oop}
use Rattle.st_model.specs.Values.{Value, value}
use Rattle.st_model.specs.Machine.{State, Went}
use Rattle.st_model.specs.Steps.{fetch_field}
use Rattle.st_model.specs.Table.{Table, table}
use Rattle.st_model.specs.inside.Calls.{Reads}
use Rattle.st_model.proofs.Runs.{run-then, after-went, run-answer}
use Rattle.st_scope.specs.Classes.{chain, instance_lineage, metaclass_lineage}
use Rattle.st_scope.specs.inside.Meanings.{values, values_of}

module _ (class : Value) (t : Table) where
  pub one_chain : (classes : Vec Oop) → Reads (chain table 9 class) values_of t (Ok classes) → (copy : Vec Oop) → copy.items ≡ classes.items
      → (s : State Table) → s.memory ≡ t → (instance_lineage table class).run s ≡ Went (record { owners = values_of classes; sharers = values_of copy }) s
  unfolding instance_lineage
  one_chain classes a copy e s f =
      simp (run-then, a s f, after-went, run-answer) refl ∙ ap (λ os. Went (record { owners = values_of classes; sharers = values os }) s) (sym e)

  pub both_chains : (owners : Vec Oop) → Reads (chain table 7 class) values_of t (Ok owners) → (instance : Oop) → Reads (fetch_field table class 6) value t (Ok instance)
      → (sharers : Vec Oop) → Reads (chain table 9 (value instance)) values_of t (Ok sharers)
      → (s : State Table) → s.memory ≡ t → (metaclass_lineage table class).run s ≡ Went (record { owners = values_of owners; sharers = values_of sharers }) s
  unfolding metaclass_lineage
  both_chains owners a instance b sharers c s f = simp (run-then, a s f, after-went, b s f, c s f, run-answer) refl
