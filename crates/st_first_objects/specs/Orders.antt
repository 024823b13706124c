-- The order in which the first objects are made. Each is made once: one that is there already isn't made again.
use Rattle.std.specs.Prelude.{ℕ, ◌+◌, ◌*◌, zero, suc, nat_eq, ◌&&◌, not, Bool, List, [], ◌∷◌, ◌++◌, map, codes, if◌then◌else◌}
use Rattle.std.specs.List.{list_any}
use Rattle.st_emit.specs.Selectors.{special_sends}
use Rattle.st_kernel_text.specs.Parts.{Class, Pool, Part, class, pool, global}
use Rattle.st_kernel_text.specs.Known.{Names}
use Rattle.st_kernel_text.specs.Texts.{Account}
use Rattle.st_first_objects.specs.declared.thing.What.{What}
use Rattle.st_first_objects.specs.declared.thing.What.TheVariants as what
use Rattle.st_first_objects.specs.Things.{Thing, only, named, numbered, within, is, same, symbol, class as class_thing}
use Rattle.st_first_objects.specs.Classes.{is_none, has_pool}

-- the things in the order of their making, how many of them are Symbols, and how many places the symbol table has
pub record Order : Type 0 where
  pub things : List Thing
  pub symbols : ℕ
  pub places : ℕ

abbrev pub empty : Order
empty = record { things = []; symbols = 0; places = 16 }

abbrev pub is_made : Order → Thing → Bool
is_made o t = list_any (same t) o.things

abbrev pub put : Order → Thing → Order
put o t = if is_made o t then o else record { things = o.things ++ t ∷ []; symbols = o.symbols; places = o.places }

-- a Symbol more: one that finds no place in the symbol table is followed by an Array of twice as many
abbrev pub with_symbol : Order → Order
with_symbol o = if nat_eq o.symbols o.places
    then put (record { things = o.things; symbols = o.symbols + 1; places = 2 * o.places }) (numbered what.SymbolTable (2 * o.places))
    else record { things = o.things; symbols = o.symbols + 1; places = o.places }

-- a thing is wanted
unfoldable pub want : Order → Thing → Order
want o t = if not (is_made o t) && is what.Symbol t then with_symbol (put o t) else put o t

abbrev pub want_all : Order → List Thing → Order
want_all o [] = o
want_all o (t ∷ ts) = want_all (want o t) ts

-- BEFORE ALL PARTS

-- the root page, in the order of its pointers
unfoldable pub page : List Thing
page =
    only what.Nil ∷ only what.False ∷ only what.True ∷ only what.SchedulerAssociation
    ∷ class_thing (codes "SmallInteger")
    ∷ class_thing (codes "String")
    ∷ class_thing (codes "Array")
    ∷ class_thing (codes "MethodContext")
    ∷ class_thing (codes "BlockContext")
    ∷ class_thing (codes "Point")
    ∷ class_thing (codes "LargePositiveInteger")
    ∷ class_thing (codes "Message")
    ∷ class_thing (codes "CompiledMethod")
    ∷ class_thing (codes "Character")
    ∷ symbol (codes "doesNotUnderstand:")
    ∷ symbol (codes "cannotReturn:")
    ∷ only what.Selectors
    ∷ only what.Characters
    ∷ symbol (codes "mustBeBoolean")
    ∷ class_thing (codes "Symbol")
    ∷ []

-- so many of what is numbered, from one on
unfoldable pub numbered_from : What → (from count : ℕ) → List Thing
numbered_from w from zero = []
numbered_from w from (suc count) = numbered w from ∷ numbered_from w (suc from) count

unfoldable pub characters : List Thing
characters = numbered_from what.Character 0 256

abbrev pub tables : List Thing
tables = only what.Symbols ∷ numbered what.SymbolTable 16 ∷ only what.Globals ∷ []

-- A PART

abbrev pub class_things : List ℕ → List Thing
class_things name =
    class_thing name ∷ named what.Metaclass name
    ∷ named what.Dictionary name ∷ named what.Methods name
    ∷ named what.MetaDictionary name ∷ named what.MetaMethods name
    ∷ symbol name ∷ []

-- an Array of names is made only where there are some
abbrev pub names_things : (number : ℕ) → Class → List Thing
names_things number c = if is_none c.variables then [] else named what.Names c.name ∷ map (within what.Variable number) c.variables

abbrev pub shared_things : (number : ℕ) → (names : List (List ℕ)) → List Thing
shared_things number [] = []
shared_things number (name ∷ names) = symbol name ∷ within what.Shared number name ∷ shared_things number names

-- so is a pool Array, at the first part that may give the class class variables
abbrev pub pool_things : Names → Pool → List Thing
pool_things names p = if has_pool names p.class then named what.Pool p.class ∷ [] else []

-- what the part of this number makes, where it isn't there
abbrev pub wanted_by : Names → (number : ℕ) → Part → List Thing
wanted_by names number (class c) = class_things c.name ++ names_things number c ++ named what.Global c.name ∷ []
wanted_by names number (pool p) = pool_things names p ++ shared_things number p.variables
wanted_by names number (global name) = symbol name ∷ named what.Global name ∷ []
wanted_by names number _ = []

abbrev pub want_parts : Names → Order → (number : ℕ) → List Part → Order
want_parts names o number [] = o
want_parts names o number (p ∷ ps) = want_parts names (want_all o (wanted_by names number p)) (suc number) ps

-- BEHIND ALL PARTS

-- the special selectors, as the compiler has them, and how many arguments each has
unfoldable pub selectors : List (List ℕ × ℕ)
selectors = special_sends

abbrev pub selector_symbols : List (List ℕ × ℕ) → List Thing
selector_symbols ss = map (λ s. symbol s.0) ss

unfoldable pub lists : List Thing
lists = numbered_from what.List 0 8

abbrev pub scheduling : List Thing
scheduling = only what.Scheduler ∷ only what.Lists ∷ []

-- ALL

abbrev pub first_things : Order → Order
first_things o = want_all (want_all (want_all o page) characters) tables

abbrev pub last_things : Order → Order
last_things o = want_all (want_all (want_all o (selector_symbols selectors)) scheduling) lists

abbrev pub order : Account → Order
order a = last_things (want_parts a.names (first_things empty) 0 a.parts)
