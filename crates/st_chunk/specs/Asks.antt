-- What a line asks to look at.
use Rattle.std.specs.Prelude.{ℕ, Bool, true, false, List}
use Rattle.st_chunk.specs.declared.ask.LentSide.{LentSide as DeclaredSide}
use Rattle.st_chunk.specs.declared.ask.LentAsk.{LentAsk as DeclaredAsk}
use Rattle.st_chunk.specs.declared.ask.LentAsk.TheVariants as declared

-- a class's name, and whether its class side is meant
pub record Side : Type 0 where
  pub class : List ℕ
  pub meta : Bool

-- An object, by its pointer; the display; the classes; the methods of a class; a method's text, or its bytecodes, by its selector; the
-- methods that send a selector; and a method to run up to, within so many cycles.
pub data Ask : Type 0 where
  Object : ℕ → Ask
  Display Classes : Ask
  Methods : Side → Ask
  Source Bytecodes : Side → List ℕ → Ask
  Senders : List ℕ → Ask
  Until : ℕ → Side → List ℕ → Ask

abbrev pub instance_side : List ℕ → Side
instance_side class = record { class = class; meta = false }

abbrev pub class_side : List ℕ → Side
class_side class = record { class = class; meta = true }

-- as its bytes have it
abbrev pub side_of : DeclaredSide → Side
side_of side = record { class = side.class.now; meta = side.meta }

abbrev pub ask_of : DeclaredAsk → Ask
ask_of (declared.Object n) = Object n
ask_of declared.Display = Display
ask_of declared.Classes = Classes
ask_of (declared.Methods side) = Methods (side_of side)
ask_of (declared.Source side selector) = Source (side_of side) selector.now
ask_of (declared.Bytecodes side selector) = Bytecodes (side_of side) selector.now
ask_of (declared.Senders selector) = Senders selector.now
ask_of (declared.Until cycles side selector) = Until cycles (side_of side) selector.now
