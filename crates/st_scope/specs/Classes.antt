-- Classes by their names, and superclass chains (chapters 4 and 5). Of a class field 0 is the superclass, 1 the method
-- dictionary, 2 the instance specification, 4 the Array of instance variable names, 6 the name, 7 the class pool and 8 the
-- Array of shared pools. A metaclass has its one instance in field 6.
use Rattle.std.specs.Prelude.{ℕ, zero, suc, List, [], ◌∷◌, Bool, true, false}
use Rattle.st_model.specs.declared.dead.Dead.TheVariants as dead
use Rattle.st_model.specs.Values.{Value}
use Rattle.st_model.specs.declared.page.PageObject.TheVariants.{NilObject}
use Rattle.st_model.specs.Machine.{ObjectMemory, Step, answer, die, ◌>>=◌, ◌>>◌}
use Rattle.st_model.specs.Steps.{of_page, class_of, same_value, or_die, fetch_field}
use Rattle.st_scope.specs.Tables.{check_fields, member_named}

-- the fields that a class has at least, and those of a metaclass
abbrev pub class_fields : ℕ
class_fields = 9

abbrev pub metaclass_fields : ℕ
metaclass_fields = 7

-- no classes where this is so
unfoldable pub none_if : {H : Type 0} → Bool → Step H (List Value) → Step H (List Value)
none_if true otherwise = answer []
none_if false otherwise = otherwise

-- the classes whose instance variables a method sees, and those whose pools it sees, each from the class upward
pub record Lineage : Type 0 where
  pub owners : List Value
  pub sharers : List Value

module _ {H : Type 0} (m : ObjectMemory H) where
  -- The first global of this name, an association. It dies where there is none, or where its value is no class.
  unfoldable pub class_association : Value → List ℕ → Step H Value
  class_association globals name = do
    found ← member_named m globals name
    association ← or_die dead.Field found
    class ← fetch_field m association 1
    check_fields m class class_fields
    answer association

  -- the class of the instance side is the class itself, that of the class side is its metaclass
  unfoldable pub class_on_side : Value → (meta : Bool) → Step H Value
  class_on_side class false = answer class
  class_on_side class true = class_of m class

  -- the class of a name and a side
  unfoldable pub class_named : Value → List ℕ → (meta : Bool) → Step H Value
  class_named globals name meta = do
    association ← class_association globals name
    class ← fetch_field m association 1
    class_on_side class meta

  -- CHAINS

  -- a chain ends in nil
  unfoldable pub until_nil : Value → Step H (List Value) → Step H (List Value)
  until_nil class otherwise = do
    nil ← of_page m NilObject
    none_if (same_value class nil) otherwise

  -- the superclass of a class with so many fields or more
  unfoldable pub superclass : ℕ → Value → Step H Value
  superclass least class = do
    check_fields m class least
    fetch_field m class 0

  -- a class, and what its superclass gives
  unfoldable pub class_and : ℕ → Value → (Value → Step H (List Value)) → Step H (List Value)
  class_and least class otherwise = do
    above ← superclass least class
    classes ← otherwise above
    answer (class ∷ classes)

  -- of so many classes, and no more
  unfoldable pub chain_within : ℕ → ℕ → Value → Step H (List Value)
  chain_within least zero class = until_nil class (die dead.Chain)
  chain_within least (suc left) class = until_nil class (class_and least class (chain_within least left))

  -- A class and its superclasses, upward. Each has so many fields or more, and the chain ends in nil within 32767 classes.
  unfoldable pub chain : ℕ → Value → Step H (List Value)
  chain least class = chain_within least 32767 class

  unfoldable pub instance_lineage : Value → Step H Lineage
  instance_lineage class = do
    classes ← chain class_fields class
    answer (record { owners = classes; sharers = classes })

  -- the pools that a method of a metaclass sees are those of its one instance
  unfoldable pub metaclass_lineage : Value → Step H Lineage
  metaclass_lineage class = do
    metaclasses ← chain metaclass_fields class
    instance ← fetch_field m class 6
    classes ← chain class_fields instance
    answer (record { owners = metaclasses; sharers = classes })

  unfoldable pub lineage : Value → (meta : Bool) → Step H Lineage
  lineage class false = instance_lineage class
  lineage class true = metaclass_lineage class
