-- Where the method of a selector stands, and the names that it sees.
use Rattle.std.specs.Prelude.{ℕ, List, Option, option_and_then, option_map}
use Rattle.std.specs.Result.{result_ok}
use Rattle.st_model.specs.Values.{Value}
use Rattle.st_model.specs.Table.{table}
use Rattle.st_model.specs.View.{View}
use Rattle.st_emit.specs.Names.{NamesView}
use Rattle.st_scope.specs.Calls.{names}
use Rattle.st_parts.specs.Keys.{mentioning, literals_in, names_for}
use Rattle.st_parts.specs.Parts.{Place}
use Rattle.st_chunk.specs.Asks.{Side}
use Rattle.st_browse.specs.Display.{answer_in}
use Rattle.st_browse.specs.Asked.{class_of_side, method_in}

-- THE METHOD

abbrev pub placed : Side → List ℕ → (class method : Value) → Place
placed side selector class method = record { class = class; name = side.class; meta = side.meta; selector = selector; method = method }

-- where the method of a selector stands
unfoldable pub method_place : View → Side → List ℕ → Option Place
method_place v side selector = option_and_then (λ class. option_map (placed side selector class) (method_in v.objects selector class)) (class_of_side v side)

-- WHAT IT SEES

-- The names that a method sees, where its class has the form that an installation asks: of those that are shared all that mean the
-- value of one of its literals.
unfoldable pub names_at : View → Place → Option NamesView
names_at v at =
    let vs = literals_in v.objects at.method in
    option_map (names_for v.objects vs) (option_and_then result_ok (answer_in (names table v.head at.class at.meta (mentioning v.objects vs)) v.objects))
