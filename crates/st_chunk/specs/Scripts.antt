-- A whole script: what it asks for, one after the other, up to its end or to the first that is wrong.
use Rattle.std.specs.Prelude.{◌≡◌, ℕ, ◌+◌, ◌≤◌, ◌==◌, true, not, List, [], ◌∷◌, ◌++◌, length, Some, None, IsTrue, IsFalse}
use Rattle.std.specs.List.{list_all}
use Rattle.st_chunk.specs.Texts.{mark, most}
use Rattle.st_chunk.specs.Feeding.{State}
use Rattle.st_chunk.specs.Groups.{begins, is_name, trimmed, GroupHeader, header_text}
use Rattle.st_chunk.specs.Definitions.{Definition, IsDefinition, line_feed}
use Rattle.st_chunk.specs.declared.request.Request.{Request}
use Rattle.st_chunk.specs.declared.request.Request.TheVariants.{Browse, Define}
use Rattle.st_chunk.specs.Asks.{Ask}
use Rattle.st_chunk.specs.Lines.{without_return}
use Rattle.st_chunk.specs.Reading.{Place, Browsed, InHeader, InMethods, Defined, CutOff, Reading, line_from, line_behind, Told, line_ended, read, end_read}

-- the definition that a method's chunk is, below this header
abbrev pub method_of : GroupHeader → State → Definition
method_of h s = record { class = h.class; meta = h.meta; category = h.category; text = trimmed s.bytes }

-- something was asked to be looked at last
abbrev pub IsBrowsed : Place → Type 0
IsBrowsed (Browsed ask) = Unit {0}
IsBrowsed _ = ⊥

-- it is this
abbrev pub HasAsk : Place → Ask → Type 0
HasAsk (Browsed ask) a = a ≡ ask
HasAsk _ a = ⊥

-- a definition was asked for last
abbrev pub IsDefined : Place → Type 0
IsDefined (Defined h s) = Unit {0}
IsDefined (CutOff h s) = Unit {0}
IsDefined _ = ⊥

-- it is this one
abbrev pub HasDefinition : Place → Definition → Type 0
HasDefinition (Defined h s) d = d ≡ method_of h s
HasDefinition (CutOff h s) d = d ≡ method_of h s
HasDefinition _ d = ⊥

-- a request as a script has it: a line's, what is to be looked at, or a definition
pub data Asked : Type 0 where
  Asks : Request → Asked
  Browses : Ask → Asked
  Defines : Definition → Asked

abbrev pub asked_at : Place → Request → Asked
asked_at (Browsed ask) Browse = Browses ask
asked_at (Defined h s) Define = Defines (method_of h s)
asked_at (CutOff h s) Define = Defines (method_of h s)
asked_at place request = Asks request

abbrev pub asked_by : Told → List Asked
asked_by (r, None) = []
asked_by (r, Some request) = asked_at r.place request ∷ []

abbrev pub asked_at_end : Reading → List Asked
asked_at_end r = asked_by (end_read r) ++ asked_by (end_read (end_read r).0)

-- what the bytes behind this reading ask for, and their end
abbrev pub asked_from : Reading → List ℕ → List Asked
asked_from r [] = asked_at_end r
asked_from r (b ∷ text) = asked_by (read r b) ++ asked_from (read r b).0 text

abbrev pub asked : List ℕ → List Asked
asked text = asked_from (line_from 1) text

-- what these bytes alone tell to be asked for, however the script goes on, and how far it is read behind them
abbrev pub told_from : Reading → List ℕ → List Asked
told_from r [] = []
told_from r (b ∷ text) = asked_by (read r b) ++ told_from (read r b).0 text

abbrev pub read_through : Reading → List ℕ → Reading
read_through r [] = r
read_through r (b ∷ text) = read_through (read r b).0 text

abbrev pub told : List ℕ → List Asked
told text = told_from (line_from 1) text

-- A LINE AS A WHOLE

-- It has no line feed, doesn't begin with a mark, and has at most as many bytes as a line and a carriage return may have.
pub record IsWholeLine (text : List ℕ) : Type 0 where
  pub inside : list_all (λ b. not (b == line_feed)) text ≡ true
  pub first : IsFalse (begins (λ b. b == mark) text)
  pub short : length text ≤ most + 1

-- how far a script is read behind the line of this number, and what that asks for
abbrev pub line_read : ℕ → List ℕ → Told
line_read n text = line_ended (record (line_from n) { line = line_behind line_feed n }) (without_return text)

-- WHAT A DEFINITION MEETS

-- a header whose definitions may be stored
pub record IsHeading (h : GroupHeader) : Type 0 where
  pub named : IsTrue (is_name h.class)
  pub short : length (header_text h) ≤ most

-- in a group, headers and methods are as `IsDefinition` asks
abbrev pub IsSound : Place → Type 0
IsSound (InHeader s) = length s.bytes ≤ most
IsSound (InMethods h s) = IsHeading h × (length s.bytes ≤ most)
IsSound (Defined h s) = IsHeading h × IsDefinition (method_of h s)
IsSound (CutOff h s) = IsHeading h × IsDefinition (method_of h s)
IsSound _ = Unit {0}
