-- What the first objects are. Each is named by what it is, and, where there are several of that, by a name or a number.
use denote.Enum.Bare.{sameb}
use Rattle.std.specs.Prelude.{ℕ, ◌&&◌, nat_eq, bytes_eq, Bool, List, []}
use Rattle.st_first_objects.specs.contracts.thing.What.{the_type}
use Rattle.st_first_objects.specs.declared.thing.What.{What}
use Rattle.st_first_objects.specs.declared.thing.What.TheVariants as what

-- A String of a variable's name and the association of a class variable have the number of the part that declares it; a Character has its
-- code, an Array of the symbol table its size, a list of the scheduler its place.
pub record Thing : Type 0 where
  pub what : What
  pub name : List ℕ
  pub number : ℕ

abbrev pub only : What → Thing
only w = record { what = w; name = []; number = 0 }

abbrev pub named : What → (name : List ℕ) → Thing
named w name = record { what = w; name = name; number = 0 }

abbrev pub numbered : What → (number : ℕ) → Thing
numbered w number = record { what = w; name = []; number = number }

-- a name's thing in the part of this number
abbrev pub within : What → (part : ℕ) → (name : List ℕ) → Thing
within w part name = record { what = w; name = name; number = part }

abbrev pub class : List ℕ → Thing
class name = named what.Class name

abbrev pub symbol : List ℕ → Thing
symbol name = named what.Symbol name

abbrev pub is : What → Thing → Bool
is w t = sameb the_type t.what w

abbrev pub same : Thing → Thing → Bool
same a b = sameb the_type a.what b.what && (bytes_eq a.name b.name && nat_eq a.number b.number)
