-- The last definition of a class, a side of it and a selector, and where its text stands in the changes file.
use Rattle.std.specs.Prelude.{◌≡◌, ℕ, ◌+◌, Bool, List, ◌∷◌, ◌++◌, length, Option, Some, None, Ok, MatchOption, All, Vec}
use Rattle.std.specs.Global.{Global}
use Rattle.std.specs.Option.{option_map}
use Rattle.std.specs.List.{AllZip}
use Rattle.st_scan.specs.Views.{MethodView}
use Rattle.st_grammar.specs.Syntax.{syntax}
use Rattle.st_chunk.specs.Texts.{doubled}
use Rattle.st_chunk.specs.Groups.{header_text}
use Rattle.st_chunk.specs.Definitions.{Definition, header_for, entries}
use Rattle.st_changes.specs.declared.span.Span.{Span}

-- the text means a tree of this selector
pub record HasSelector (text selector : List ℕ) : Type 0 where
  pub tree : MethodView
  pub means : syntax text ≡ Ok tree
  pub is : tree.selector ≡ selector

-- the selector was found, or the text means no tree
abbrev pub FindsSelector : List ℕ → Option (List ℕ) → Type 0
FindsSelector text None = (selector : List ℕ) → HasSelector text selector → ⊥
FindsSelector text (Some selector) = HasSelector text selector

-- of each definition's text the selector was found, or it means no tree
abbrev pub FindsEach : List Definition → List (Option (Vec ℕ Global)) → Type 0
FindsEach ds selectors = AllZip (λ d s. FindsSelector d.text (option_map (λ v. v.items) s)) ds selectors

-- the list ends with definitions of whose texts these are the selectors
pub record FindsLast (ds : List Definition) (selectors : List (Option (Vec ℕ Global))) : Type 0 where
  pub front : List Definition
  pub behind : List Definition
  pub is : ds ≡ front ++ behind
  pub finds : FindsEach behind selectors

-- a definition of this class, this side of it and this selector
pub record IsOf (class : List ℕ) (meta : Bool) (selector : List ℕ) (d : Definition) : Type 0 where
  pub class_is : d.class ≡ class
  pub side : d.meta ≡ meta
  pub named : HasSelector d.text selector

-- of these definitions none is
abbrev pub IsNowhere : List Definition → List ℕ → Bool → List ℕ → Type 0
IsNowhere ds class meta selector = All (λ d. IsOf class meta selector d → ⊥) ds

-- in an entry: how many bytes stand before the method's text
abbrev pub text_place : Definition → ℕ
text_place d = length (doubled (header_text (header_for d))) + 3

-- the number, from 0, of the last of these definitions that is of this class, this side of it and this selector
pub record IsLast (ds : List Definition) (class : List ℕ) (meta : Bool) (selector : List ℕ) (number : ℕ) : Type 0 where
  pub before : List Definition
  pub last : Definition
  pub behind : List Definition
  pub is : ds ≡ before ++ last ∷ behind
  pub of : IsOf class meta selector last
  pub none : IsNowhere behind class meta selector
  pub place : number ≡ length before

-- the bytes are those of that definition's text, each `!` doubled
pub record IsLastSpan (ds : List Definition) (class : List ℕ) (meta : Bool) (selector : List ℕ) (span : Span) : Type 0 where
  pub number : ℕ
  pub last : IsLast ds class meta selector number
  pub at : span.at ≡ length (entries last.before) + text_place last.last
  pub long : span.length ≡ length (doubled last.last.text)

-- the text is that of the last of these definitions that is of this class, this side of it and this selector
pub record IsLastText (ds : List Definition) (class : List ℕ) (meta : Bool) (selector text : List ℕ) : Type 0 where
  pub before : List Definition
  pub last : Definition
  pub behind : List Definition
  pub is : ds ≡ before ++ last ∷ behind
  pub of : IsOf class meta selector last
  pub none : IsNowhere behind class meta selector
  pub text_is : text ≡ last.text

-- this finds the number of the last of these definitions
abbrev pub Answers : List Definition → (List ℕ → Bool → List ℕ → Option ℕ) → Type 0
Answers ds f = (class : List ℕ) (meta : Bool) (selector : List ℕ) → MatchOption (f class meta selector) (IsNowhere ds class meta selector) (IsLast ds class meta selector)
