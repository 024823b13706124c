-- What a definition's text comes to has a size that an object may have.
use Rattle.std.specs.Prelude.{◌≡◌, ℕ, ◌≤◌, List, [], ◌∷◌, ◌++◌, length, map, Bool, Ok}
use Rattle.st_model.specs.Values.{Value, value_of}
use Rattle.st_model.specs.Machine.{ObjectMemory, State, Went}
use Rattle.st_scan.specs.Views.{MethodView}
use Rattle.st_grammar.specs.Syntax.{syntax}
use Rattle.st_emit.specs.Names.{NamesView}
use Rattle.st_code.specs.Methods.{PartsView, code}
use Rattle.st_chunk.specs.Texts.{most}
use Rattle.st_install.specs.Plans.{There, bytes_object, method_object}
use Rattle.st_install.specs.Symbols.{NamedSymbol, symbols_in}
use Rattle.st_install.specs.Literals.{PlacedAll, place_owner, place_literals}
use Rattle.st_install.specs.inside.Rooms.{AreSmall}

module _ {H : Type 0} (m : ObjectMemory H) where
  -- What these parts need has at most 65535 words each: a Symbol for their selector and for each that their literals name; and what is made
  -- for their literals, in whatever state, with the method.
  pub record FitParts (parts : PartsView) : Type 0 where
    pub symbols : (class : Value) → AreSmall (map (bytes_object class) (parts.selector ∷ symbols_in parts.literals))
    pub others : (symbols : List NamedSymbol) (association class method_class : Value) (meta : Bool) (next : ℕ) (s t : State H) (placed : PlacedAll)
        → (place_literals m symbols (place_owner m association class meta) next parts.literals).run s ≡ Went placed t
        → AreSmall (placed.objects ++ method_object method_class (There (value_of parts.header) ∷ placed.parts) parts.bytes ∷ [])

  -- so it is with the code of each text that a definition may have, whatever names its class has
  abbrev pub TextsFit : Type 0
  TextsFit = (text : List ℕ) (tree : MethodView) (names : NamesView) (parts : PartsView)
      → length text ≤ most → syntax text ≡ Ok tree → code tree names ≡ Ok parts → FitParts parts
