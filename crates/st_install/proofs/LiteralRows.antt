-- Worked rows of literals, of Symbols whose table grows, of the class side and of a dictionary in which a method is replaced,
-- computed from the definitions.
use Rattle.std.proofs.Common.{◌≡◌, ℕ, List, [], ◌∷◌, None, Option, Ok, Err, true, false, refl}
use Rattle.std.specs.Prelude.{codes, replicate}
use Rattle.st_model.specs.Values.{Small, Ref}
use Rattle.st_model.specs.Objects.{Object, nil}
use Rattle.st_model.specs.Machine.{State, Transition, Went, Died}
use Rattle.st_model.specs.Table.{Table, table, entry}
use Rattle.st_scan.specs.Views.{MethodView, variable, statement, no_statements}
use Rattle.st_emit.specs.Literals.{LiteralView, no_literals, literal, number, bytes as string, symbol, array, named, owner, character}
use Rattle.st_code.specs.Methods.{PartsView}
use Rattle.st_scope.specs.declared.fault.InstallFault.TheVariants.{Shape}
use Rattle.st_install.specs.Plans.{Plan, There, Made, bytes_object, method_object, pointers_object}
use Rattle.st_scope.specs.Calls.{class_of_name, names}
use Rattle.st_install.specs.Calls.{ready}
use Rattle.st_install.specs.Installing.{install}
use Rattle.st_install.proofs.InstallRows.{x_plan}
use Rattle.st_install.proofs.Opened.{opened}
use Rattle.st_install.proofs.Image.{plain, pointers, bytes, method, point, objects, first_image, head, state}

abbrev parts_of : List LiteralView → PartsView
parts_of literals = record { selector = codes "x"; header = 49153; literals = literals; bytes = 0 ∷ 124 ∷ [] }

-- #foo, 70000, 'ab' and #(x 1 (true)): the Symbols come first, each once, and then a number of three bytes, a string, and an array
-- before the one in it
abbrev literals : List LiteralView
literals =
    symbol (codes "foo") ∷ number (record { minus = false; size = 70000 }) ∷ string (codes "ab")
    ∷ array (literal (symbol (codes "x")) (literal (number (record { minus = true; size = 1 })) (literal (array (literal (named 6) no_literals)) no_literals)))
    ∷ []

abbrev literals_plan : Plan
literals_plan = record {
  objects = bytes_object (Ref 28) (codes "x") ∷ bytes_object (Ref 28) (codes "foo") ∷ bytes_object (Ref 14) (112 ∷ 17 ∷ 1 ∷ []) ∷ bytes_object (Ref 7) (codes "ab")
      ∷ pointers_object (Ref 8) (Made 0 ∷ There (Small 32767) ∷ Made 5 ∷ []) ∷ pointers_object (Ref 8) (There (Ref 3) ∷ [])
      ∷ method_object (Ref 17) (There (Small 24576) ∷ Made 1 ∷ Made 2 ∷ Made 3 ∷ Made 4 ∷ []) (0 ∷ 124 ∷ []) ∷ [];
  symbol_stores = record { object = There (Ref 35); field = 0; value = Made 0 } ∷ record { object = There (Ref 35); field = 1; value = Made 1 } ∷ [];
  selector = Made 0;
  method = Made 6;
  class = Ref 15;
  dictionary = Ref 18;
  grown = None;
}

literals_ready : (ready table head (Ref 15) (codes "Point") false (parts_of literals)).run (state first_image) ≡ Went (Ok literals_plan) (state first_image)
unfolding opened
literals_ready = refl

-- the table of characters has no field for a character
no_character : (ready table head (Ref 15) (codes "Point") false (parts_of (character 97 ∷ []))).run (state first_image) ≡ Went (Err Shape) (state first_image)
unfolding opened
no_character = refl

-- SYMBOLS

-- a table of Symbols with one place left, in which x is a Symbol already
abbrev nearly_full : Table
nearly_full =
    objects (point (Ref 18)) (plain (Small 0 ∷ Ref 19 ∷ nil ∷ nil ∷ [])) (pointers 8 (nil ∷ nil ∷ [])) (Ref 36 ∷ nil ∷ []) (bytes 28 (codes "x") ∷ [])

-- a is stored there; for b an Array of 16 is made, which is the table's value from then on, and c goes into it
abbrev growing_plan : Plan
growing_plan = record {
  objects = bytes_object (Ref 28) (codes "a") ∷ bytes_object (Ref 28) (codes "b") ∷ pointers_object (Ref 8) (There (Ref 36) ∷ Made 0 ∷ Made 1 ∷ replicate 13 (There nil))
      ∷ bytes_object (Ref 28) (codes "c") ∷ method_object (Ref 17) (There (Small 24576) ∷ Made 0 ∷ Made 1 ∷ Made 3 ∷ []) (0 ∷ 124 ∷ []) ∷ [];
  symbol_stores = record { object = There (Ref 35); field = 1; value = Made 0 } ∷ record { object = There (Ref 34); field = 1; value = Made 2 }
      ∷ record { object = Made 2; field = 3; value = Made 3 } ∷ [];
  selector = There (Ref 36);
  method = Made 4;
  class = Ref 15;
  dictionary = Ref 18;
  grown = None;
}

growing_ready : (ready table head (Ref 15) (codes "Point") false (parts_of (symbol (codes "a") ∷ symbol (codes "b") ∷ symbol (codes "c") ∷ []))).run (state nearly_full)
    ≡ Went (Ok growing_plan) (state nearly_full)
unfolding opened
growing_ready = refl

-- what bears half of a pointer once a plan was carried out
abbrev memory_of : Transition (State Table) Unit → Table
memory_of (Died cause) = []
memory_of (Went u s) = s.memory

abbrev installed_at : Plan → Table → ℕ → Option Object
installed_at p t k = entry (memory_of ((install table p).run (state t))) k

-- the objects have the pointers 74 to 82
grown_association : installed_at growing_plan nearly_full 34 ≡ plain (nil ∷ Ref 39 ∷ [])
unfolding opened
grown_association = refl

grown_symbols : installed_at growing_plan nearly_full 39 ≡ pointers 8 (Ref 36 ∷ Ref 37 ∷ Ref 38 ∷ Ref 40 ∷ replicate 12 nil)
unfolding opened
grown_symbols = refl

left_symbols : installed_at growing_plan nearly_full 35 ≡ pointers 8 (Ref 36 ∷ Ref 37 ∷ [])
unfolding opened
left_symbols = refl

grown_method : installed_at growing_plan nearly_full 41 ≡ method (Small 24576 ∷ Ref 37 ∷ Ref 38 ∷ Ref 40 ∷ []) (0 ∷ 124 ∷ [])
unfolding opened
grown_method = refl

grown_dictionary : installed_at growing_plan nearly_full 18 ≡ plain (Small 1 ∷ Ref 19 ∷ Ref 36 ∷ nil ∷ [])
unfolding opened
grown_dictionary = refl

grown_methods : installed_at growing_plan nearly_full 19 ≡ pointers 8 (Ref 41 ∷ nil ∷ [])
unfolding opened
grown_methods = refl

-- REPLACEMENT

-- x has a method already, of pointer 74
abbrev with_method : Table
with_method =
    objects (point (Ref 18)) (plain (Small 1 ∷ Ref 19 ∷ Ref 36 ∷ nil ∷ [])) (pointers 8 (Ref 37 ∷ nil ∷ [])) (Ref 36 ∷ nil ∷ [])
    (bytes 28 (codes "x") ∷ method (Small 24576 ∷ []) (0 ∷ 124 ∷ []) ∷ [])

abbrev replacing_plan : Plan
replacing_plan = record {
  objects = method_object (Ref 17) (There (Small 24576) ∷ []) (0 ∷ 124 ∷ []) ∷ [];
  symbol_stores = [];
  selector = There (Ref 36);
  method = Made 0;
  class = Ref 15;
  dictionary = Ref 18;
  grown = None;
}

replacing_ready : (ready table head (Ref 15) (codes "Point") false (parts_of [])).run (state with_method) ≡ Went (Ok replacing_plan) (state with_method)
unfolding opened
replacing_ready = refl

-- the tally stays
replaced : installed_at replacing_plan with_method 18 ≡ plain (Small 1 ∷ Ref 19 ∷ Ref 36 ∷ nil ∷ [])
unfolding opened
replaced = refl

replaced_methods : installed_at replacing_plan with_method 19 ≡ pointers 8 (Ref 38 ∷ nil ∷ [])
unfolding opened
replaced_methods = refl

-- CLASS SIDE

-- Point as an instance of the metaclass 72, with a class pool in which Z is
abbrev point_of_metaclass : Option Object
point_of_metaclass = pointers 36 (nil ∷ Ref 18 ∷ Small 16386 ∷ nil ∷ Ref 23 ∷ nil ∷ Ref 10 ∷ Ref 39 ∷ nil ∷ [])

abbrev with_metaclass : Table
with_metaclass =
    objects point_of_metaclass (plain (Small 0 ∷ Ref 19 ∷ nil ∷ nil ∷ [])) (pointers 8 (nil ∷ nil ∷ [])) (nil ∷ nil ∷ nil ∷ nil ∷ [])
    (plain (nil ∷ Ref 37 ∷ Small 16384 ∷ nil ∷ nil ∷ nil ∷ Ref 15 ∷ []) ∷ plain (Small 0 ∷ Ref 38 ∷ nil ∷ nil ∷ []) ∷ pointers 8 (nil ∷ nil ∷ [])
    ∷ pointers 8 (Ref 40 ∷ []) ∷ plain (Ref 41 ∷ nil ∷ []) ∷ bytes 28 (codes "Z") ∷ [])

metaclass_named : (class_of_name table head (codes "Point") true).run (state with_metaclass) ≡ Went (Ok (Ref 36)) (state with_metaclass)
unfolding opened
metaclass_named = refl

-- a method x that returns Z
abbrev returning_pool_variable : MethodView
returning_pool_variable = record {
  selector = codes "x";
  arguments = [];
  temporaries = [];
  primitive = None;
  body = statement true (variable (record { text = codes "Z"; place = 4 })) no_statements;
}

-- the metaclass has no instance variables, and sees the pool of its one instance
metaclass_names : (names table head (Ref 36) true returning_pool_variable).run (state with_metaclass)
    ≡ Went (Ok (record { fields = []; shared = record { text = codes "Z"; association = 80 } ∷ []; symbols = true })) (state with_metaclass)
unfolding opened
metaclass_names = refl

-- the owner is an association of its own, made before the method
abbrev owner_plan : Plan
owner_plan = record x_plan {
  objects = bytes_object (Ref 28) (codes "x") ∷ pointers_object (Ref 6) (There nil ∷ There (Ref 36) ∷ [])
      ∷ method_object (Ref 17) (There (Small 24576) ∷ Made 1 ∷ []) (0 ∷ 124 ∷ []) ∷ [];
  method = Made 2;
  class = Ref 36;
  dictionary = Ref 37;
}

owner_ready : (ready table head (Ref 36) (codes "Point") true (parts_of (owner ∷ []))).run (state with_metaclass) ≡ Went (Ok owner_plan) (state with_metaclass)
unfolding opened
owner_ready = refl

-- on the instance side the owner is the global
abbrev global_plan : Plan
global_plan = record owner_plan {
  objects = bytes_object (Ref 28) (codes "x") ∷ method_object (Ref 17) (There (Small 24576) ∷ There (Ref 9) ∷ []) (0 ∷ 124 ∷ []) ∷ [];
  method = Made 1;
  class = Ref 15;
  dictionary = Ref 18;
}

global_ready : (ready table head (Ref 15) (codes "Point") false (parts_of (owner ∷ []))).run (state with_metaclass) ≡ Went (Ok global_plan) (state with_metaclass)
unfolding opened
global_ready = refl
