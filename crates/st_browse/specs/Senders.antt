-- Which methods send a selector: it is one of their literals, or a bytecode names it.
use Rattle.std.specs.Prelude.{ℕ, ◌+◌, ◌==◌, List, [], ◌∷◌, drop, Option, Some, None, Bool, false, ◌||◌, ◌&&◌, filter}
use Rattle.std.specs.List.{list_any}
use Rattle.st_model.specs.Values.{Value}
use Rattle.st_model.specs.declared.page.PageObject.TheVariants.{SymbolClass}
use Rattle.st_model.specs.Objects.{place_of}
use Rattle.st_model.specs.Table.{Table}
use Rattle.st_model.specs.View.{object_of}
use Rattle.st_scope.specs.Tables.{is_text}
use Rattle.st_scope.specs.Texts.{text_at}
use Rattle.st_emit.specs.Resolving.{special_selector, first_special}
use Rattle.st_browse.specs.Naming.{Named}
use Rattle.st_browse.specs.Methods.{methods, has_method}
use Rattle.st_parts.specs.Cutting.{codes_of}

-- a Symbol of this text
unfoldable pub is_symbol : Table → List ℕ → Value → Bool
is_symbol t selector v = ((object_of t v).class == place_of SymbolClass) && is_text selector (text_at t v)

-- the bytecode is the special send of number k
abbrev pub is_special : Option ℕ → List ℕ → Bool
is_special None code = false
is_special (Some k) [] = false
is_special (Some k) (b ∷ code) = b == first_special + k

-- whatever the array of special selectors holds, a special send names the selector that the book gives it
unfoldable pub is_sent : List ℕ → List ℕ → Bool
is_sent selector bytes = list_any (is_special (special_selector selector)) (codes_of bytes)

-- a method sends a selector
unfoldable pub sends : Table → List ℕ → Value → Bool
sends t selector method =
    has_method t method
    && (list_any (is_symbol t selector) (drop 1 (object_of t method).fields) || is_sent selector (object_of t method).units)

-- the methods of a class that send a selector
unfoldable pub senders : Table → List ℕ → Value → List Named
senders t selector class = filter (λ n. sends t selector n.value) (methods t class)
