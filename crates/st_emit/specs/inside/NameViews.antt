-- What contracts see of names.
use Rattle.std.specs.Prelude.{◌≡◌, ℕ, Option, option_map, List, [], ◌∷◌, ◌++◌, map}
use Rattle.std.specs.Global.{Vec}
use Rattle.std.specs.Borrow.{Bor}
use Rattle.st_model.specs.declared.oop.Oop.{Oop}
use Rattle.st_emit.specs.declared.names.Names.{Names}
use Rattle.st_emit.specs.declared.declared_names.DeclaredNames.{DeclaredNames}
use Rattle.st_emit.specs.declared.names.Variable.{Variable as Kept}
use Rattle.st_emit.specs.declared.names.Variable.TheVariants.{Temporary, Field, Shared}
use Rattle.st_scan.specs.Views.{name_view}
use Rattle.st_emit.specs.Names.{NamesView, SharedName, Declared, Scope, numbered, variable_named, Variable, temporary, field, shared}

abbrev pub texts_view : List (Vec ℕ) → List (List ℕ)
texts_view [] = []
texts_view (t ∷ ts) = t.items ∷ texts_view ts

abbrev pub shared_view : List (Vec ℕ × Oop) → List SharedName
shared_view [] = []
shared_view (s ∷ ss) = record { text = s.0.items; association = s.1.0 } ∷ shared_view ss

abbrev pub names_view : Names → NamesView
names_view n = record {
  fields = texts_view n.fields.items;
  shared = shared_view n.shared.entries;
  symbols = n.symbols;
}

-- names that are declared together
abbrev pub frame_view : DeclaredNames → List Declared
frame_view f = numbered f.assignable f.first (map name_view f.names.now)

abbrev pub scope_view : List DeclaredNames → Scope
scope_view [] = []
scope_view (f ∷ fs) = frame_view f ++ scope_view fs

-- what a name means
abbrev pub variable_at : Names → List DeclaredNames → List ℕ → Option Variable
variable_at names fs text = variable_named (names_view names) (scope_view fs) text

abbrev pub variable_view : Kept → Variable
variable_view (Temporary number assignable) = temporary number assignable
variable_view (Field n) = field n
variable_view (Shared p) = shared p.0

-- this variable was found
abbrev pub IsVariable : Option Variable → Option Kept → Type 0
IsVariable v found = option_map variable_view found ≡ v

abbrev pub pointer_of : Oop → ℕ
pointer_of p = p.0

-- texts that are lent
abbrev pub texts_now : List (Bor (List ℕ)) → List (List ℕ)
texts_now [] = []
texts_now (t ∷ ts) = t.now ∷ texts_now ts
