-- A method's code as it is made.
use Rattle.std.specs.Prelude.{◌≡◌, ℕ, ◌+◌, ◌*◌, ◌≤◌, ◌++◌, true, length, Option, Ok}
use Rattle.st_scan.specs.Views.{MethodView}
use Rattle.st_emit.specs.declared.draft.Draft.{Draft}
use Rattle.st_emit.specs.Names.{NamesView}
use Rattle.st_emit.specs.Bounds.{most_literals, most_variables}
use Rattle.st_emit.specs.Steps.{all_reach, size}
use Rattle.st_emit.specs.inside.Views.{literals_view}
use Rattle.st_code.specs.declared.method.MethodDraft.{MethodDraft}
use Rattle.st_code.specs.declared.fault.Fault.{Fault}
use Rattle.st_code.specs.declared.compiler.MethodParts.{MethodParts}
use Rattle.st_code.specs.Methods.{PartsView, code, body, steps, depth, variables, literals, bounds_fault, flag_of, count_of, room_bit, last_of}
use Rattle.st_code.specs.inside.Simple.{simple_by}

-- the instructions of a method's body, the literals that they name, its depth and its variables
pub record IsBody (tree : MethodView) (names : NamesView) (made : MethodDraft) : Type 0 where
  pub steps : made.draft.steps.items ≡ steps tree names
  pub literals : literals_view made.draft.literals.items ≡ (body tree names).literals
  pub level : made.draft.level ≡ depth tree names
  pub variables : made.variables ≡ variables tree names

-- what passes the bounds of a method
abbrev pub bounds_of : MethodDraft → Option Fault
bounds_of made = bounds_fault (length made.draft.literals.items) made.variables made.draft.level made.draft.steps.items

-- the same with all its literals
pub record IsWhole (tree : MethodView) (names : NamesView) (made : MethodDraft) : Type 0 where
  pub steps : made.draft.steps.items ≡ steps tree names
  pub literals : literals_view made.draft.literals.items ≡ literals tree names
  pub level : made.draft.level ≡ depth tree names
  pub variables : made.variables ≡ variables tree names

-- what a header and bytes have room for
pub record IsWithin (made : MethodDraft) : Type 0 where
  pub literals : length made.draft.literals.items ≤ most_literals
  pub variables : made.variables ≤ most_variables
  pub reach : all_reach made.draft.steps.items ≡ true

abbrev pub header_of : MethodView → MethodDraft → ℕ
header_of m made =
    let s = simple_by made.draft.steps.items in
    let flag = flag_of m s in
    flag * 8192 + count_of flag s made.variables * 256 + room_bit made.variables made.draft.level + length made.draft.literals.items * 2 + 1

abbrev pub parts_view : MethodParts → PartsView
parts_view p = record { selector = p.selector.items; header = p.header; literals = literals_view p.literals.items; bytes = p.bytes.items }

-- a method's tree has this code under these names
abbrev pub IsCodeOf : MethodView → NamesView → MethodParts → Type 0
IsCodeOf m names p = code m names ≡ Ok (parts_view p)

-- the last literals stand behind the others
abbrev pub HasLast : MethodView → (flag : ℕ) → (old new : Draft) → Type 0
HasLast m flag old new = literals_view new.literals.items ≡ literals_view old.literals.items ++ last_of m flag old.steps.items

-- how many bytes a method has, with its header and its literals
abbrev pub size_with : MethodDraft → ℕ
size_with made = length made.draft.literals.items * 2 + 2 + size made.draft.steps.items
