-- Worked rows of definitions that are installed, computed from the definitions.
use Rattle.std.proofs.Common.{◌≡◌, [], ◌∷◌, Some, None, Option, Ok, Err, true, false, refl}
use Rattle.std.specs.Prelude.{codes}
use Rattle.st_model.specs.Values.{Small, Ref}
use Rattle.st_model.specs.Objects.{Object, nil}
use Rattle.st_model.specs.Machine.{Went, used}
use Rattle.st_model.specs.Settled.{reclaim}
use Rattle.st_model.specs.Table.{Table, table}
use Rattle.st_code.specs.Methods.{PartsView, code}
use Rattle.st_emit.specs.Names.{NamesView}
use Rattle.st_scope.specs.declared.fault.InstallFault.TheVariants.{NoClass, NoGlobals, NoRoom, Shape}
use Rattle.st_install.specs.Plans.{Plan, There, Made, bytes_object, method_object, pointers_object}
use Rattle.st_scope.specs.Calls.{class_of_name, names}
use Rattle.st_install.specs.Calls.{ready}
use Rattle.st_install.specs.Installing.{install}
use Rattle.st_install.proofs.Rows.{returning}
use Rattle.st_install.proofs.Opened.{opened}
use Rattle.st_install.proofs.Image.{plain, pointers, bytes, method, point, objects, first_image, head, head_with, bare_head, state, state_of}

-- CLASSES

point_named : (class_of_name table head (codes "Point") false).run (state first_image) ≡ Went (Ok (Ref 15)) (state first_image)
unfolding opened
point_named = refl

-- Point's class, as its pointer says
metaclass_named : (class_of_name table head (codes "Point") true).run (state first_image) ≡ Went (Ok (Ref 6)) (state first_image)
unfolding opened
metaclass_named = refl

nowhere_named : (class_of_name table head (codes "Nowhere") false).run (state first_image) ≡ Went (Err NoClass) (state first_image)
unfolding opened
nowhere_named = refl

no_globals : (class_of_name table bare_head (codes "Point") false).run (state_of bare_head first_image) ≡ Went (Err NoGlobals) (state_of bare_head first_image)
unfolding opened
no_globals = refl

-- NAMES

abbrev names_of_point : NamesView
names_of_point = record { fields = codes "x" ∷ codes "y" ∷ []; shared = []; symbols = true }

names_seen : (names table head (Ref 15) false (returning (codes "x") (codes "x"))).run (state first_image) ≡ Went (Ok names_of_point) (state first_image)
unfolding opened
names_seen = refl

-- a global that is mentioned is shared, by the pointer of its association
global_seen : (names table head (Ref 15) false (returning (codes "x") (codes "Point"))).run (state first_image)
    ≡ Went (Ok (record { fields = codes "x" ∷ codes "y" ∷ []; shared = record { text = codes "Point"; association = 18 } ∷ []; symbols = true })) (state first_image)
unfolding opened
global_seen = refl

-- the class of pointer 72 above Point has the instance variable a and the class variable K, whose association has pointer 80
abbrev below_image : Table
below_image =
    objects (plain (Ref 36 ∷ Ref 18 ∷ Small 16387 ∷ nil ∷ Ref 23 ∷ nil ∷ Ref 10 ∷ nil ∷ nil ∷ [])) (plain (Small 0 ∷ Ref 19 ∷ nil ∷ nil ∷ []))
    (pointers 8 (nil ∷ nil ∷ [])) (nil ∷ nil ∷ nil ∷ nil ∷ [])
    (plain (nil ∷ nil ∷ Small 16385 ∷ nil ∷ Ref 37 ∷ nil ∷ Ref 41 ∷ Ref 39 ∷ nil ∷ []) ∷ pointers 8 (Ref 38 ∷ []) ∷ bytes 7 (codes "a")
    ∷ pointers 8 (Ref 40 ∷ []) ∷ plain (Ref 42 ∷ nil ∷ []) ∷ bytes 28 (codes "Above") ∷ bytes 28 (codes "K") ∷ [])

inherited_seen : (names table head (Ref 15) false (returning (codes "x") (codes "K"))).run (state below_image)
    ≡ Went (Ok (record { fields = codes "a" ∷ codes "x" ∷ codes "y" ∷ []; shared = record { text = codes "K"; association = 80 } ∷ []; symbols = true })) (state below_image)
unfolding opened
inherited_seen = refl

-- a dictionary whose tally is no SmallInteger
abbrev without_tally : Table
without_tally = objects (point (Ref 18)) (plain (nil ∷ Ref 19 ∷ nil ∷ nil ∷ [])) (pointers 8 (nil ∷ nil ∷ [])) (nil ∷ nil ∷ nil ∷ nil ∷ []) []

no_tally : (names table head (Ref 15) false (returning (codes "x") (codes "x"))).run (state without_tally) ≡ Went (Err Shape) (state without_tally)
unfolding opened
no_tally = refl

-- METHODS

-- the code of x ^x
abbrev x_parts : PartsView
x_parts = record { selector = codes "x"; header = 49153; literals = []; bytes = 0 ∷ 124 ∷ [] }

x_coded : code (returning (codes "x") (codes "x")) names_of_point ≡ Ok x_parts
x_coded = refl

abbrev y_parts : PartsView
y_parts = record { selector = codes "y"; header = 49409; literals = []; bytes = 1 ∷ 124 ∷ [] }

y_coded : code (returning (codes "y") (codes "y")) names_of_point ≡ Ok y_parts
y_coded = refl

abbrev pub x_plan : Plan
x_plan = record {
  objects = bytes_object (Ref 28) (codes "x") ∷ method_object (Ref 17) (There (Small 24576) ∷ []) (0 ∷ 124 ∷ []) ∷ [];
  symbol_stores = record { object = There (Ref 35); field = 0; value = Made 0 } ∷ [];
  selector = Made 0;
  method = Made 1;
  class = Ref 15;
  dictionary = Ref 18;
  grown = None;
}

x_ready : (ready table head (Ref 15) (codes "Point") false x_parts).run (state first_image) ≡ Went (Ok x_plan) (state first_image)
unfolding opened
x_ready = refl

-- two entries and seven words have no room beside 35 of 36 entries
x_crowded : (ready table (head_with 36) (Ref 15) (codes "Point") false x_parts).run (state_of (head_with 36) first_image)
    ≡ Went (Err (NoRoom (record { entries = 2; words = 7 }))) (state_of (head_with 36) first_image)
unfolding opened
x_crowded = refl

-- the Symbol has pointer 72, and the method 74
abbrev second_image : Table
second_image =
    objects (point (Ref 18)) (plain (Small 1 ∷ Ref 19 ∷ Ref 36 ∷ nil ∷ [])) (pointers 8 (Ref 37 ∷ nil ∷ [])) (Ref 36 ∷ nil ∷ nil ∷ nil ∷ [])
    (bytes 28 (codes "x") ∷ method (Small 24576 ∷ []) (0 ∷ 124 ∷ []) ∷ [])

x_installed : (install table x_plan).run (state first_image) ≡ Went tt (state second_image)
unfolding opened
x_installed = refl

second_use : used table second_image ≡ record { entries = 37; words = 138 }
second_use = refl

-- With y no place of the dictionary would hold nil: a dictionary of 4 places has pointer 80, and its Array 82.
abbrev y_plan : Plan
y_plan = record {
  objects = bytes_object (Ref 28) (codes "y") ∷ method_object (Ref 17) (There (Small 24704) ∷ []) (1 ∷ 124 ∷ [])
      ∷ pointers_object (Ref 6) (There (Small 1) ∷ Made 3 ∷ There nil ∷ There nil ∷ There nil ∷ There nil ∷ [])
      ∷ pointers_object (Ref 8) (There nil ∷ There nil ∷ There nil ∷ There nil ∷ []) ∷ [];
  symbol_stores = record { object = There (Ref 35); field = 1; value = Made 0 } ∷ [];
  selector = Made 0;
  method = Made 1;
  class = Ref 15;
  dictionary = Ref 18;
  grown = Some 2;
}

y_ready : (ready table head (Ref 15) (codes "Point") false y_parts).run (state second_image) ≡ Went (Ok y_plan) (state second_image)
unfolding opened
y_ready = refl

-- the old dictionary and its Array are there up to reclaiming
abbrev third_image : Option Object → Option Object → Table
third_image dictionary methods =
    objects (point (Ref 40)) dictionary methods (Ref 36 ∷ Ref 38 ∷ nil ∷ nil ∷ [])
    (bytes 28 (codes "x") ∷ method (Small 24576 ∷ []) (0 ∷ 124 ∷ []) ∷ bytes 28 (codes "y") ∷ method (Small 24704 ∷ []) (1 ∷ 124 ∷ [])
    ∷ plain (Small 2 ∷ Ref 41 ∷ Ref 36 ∷ nil ∷ Ref 38 ∷ nil ∷ []) ∷ pointers 8 (Ref 37 ∷ nil ∷ Ref 39 ∷ nil ∷ []) ∷ [])

y_installed : (install table y_plan).run (state second_image)
    ≡ Went tt (state (third_image (plain (Small 1 ∷ Ref 19 ∷ Ref 36 ∷ nil ∷ [])) (pointers 8 (Ref 37 ∷ nil ∷ []))))
unfolding opened
y_installed = refl

y_reclaimed : reclaim table (state (third_image (plain (Small 1 ∷ Ref 19 ∷ Ref 36 ∷ nil ∷ [])) (pointers 8 (Ref 37 ∷ nil ∷ [])))) ≡ state (third_image None None)
unfolding opened
y_reclaimed = refl

third_use : used table (third_image None None) ≡ record { entries = 39; words = 149 }
third_use = refl
