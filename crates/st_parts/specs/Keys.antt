-- The names that a method which is there sees: those by which its literals are members of tables of names.
use Rattle.std.specs.Prelude.{◌≡◌, ℕ, ◌+◌, ◌*◌, List, [], ◌∷◌, drop, slice_get, Option, Some, None, Bool, false, ◌&&◌, nat_le, length, option_and_then, if◌then◌else◌}
use Rattle.st_model.specs.Values.{Value, Small, Ref}
use Rattle.st_model.specs.Objects.{is_pointers}
use Rattle.st_model.specs.Table.{Table}
use Rattle.st_model.specs.View.{is_live, object_of}
use Rattle.st_scan.specs.Views.{MethodView, StatementsView, no_statements, with_statement, variable}
use Rattle.st_emit.specs.Names.{NamesView, SharedName, shared_named}
use Rattle.st_scope.specs.Texts.{text_at}
use Rattle.st_expression_stack.specs.Names.{names_value}

-- the word of a value
abbrev pub word_of : Value → ℕ
word_of (Small n) = 2 * n + 1
word_of (Ref n) = 2 * n

-- KEYS

-- field 0 of an object of kind Pointers with two fields or more
unfoldable pub key_field : Table → Value → Option Value
key_field t v = if is_live t v && (is_pointers (object_of t v).kind && nat_le 2 (length (object_of t v).fields)) then slice_get (object_of t v).fields 0 else None

-- the name by which a value can be a member of a table of names
unfoldable pub key_in : Table → Value → Option (List ℕ)
key_in t v = option_and_then (text_at t) (key_field t v)

-- WHAT MENTIONS THEM

-- with a statement more that mentions this name, if there is one
abbrev pub with_mentioned : StatementsView → Option (List ℕ) → StatementsView
with_mentioned ss None = ss
with_mentioned ss (Some text) = with_statement ss false (variable (record { text = text; place = 0 }))

-- with statements more that mention the keys of these values
abbrev pub with_keys : Table → StatementsView → List Value → StatementsView
with_keys t ss [] = ss
with_keys t ss (v ∷ vs) = with_keys t (with_mentioned ss (key_in t v)) vs

-- the literals of a method
abbrev pub literals_in : Table → Value → List Value
literals_in t method = drop 1 (object_of t method).fields

-- a method that does no more than to mention the keys of these values
abbrev pub mentioning : Table → List Value → MethodView
mentioning t vs = record {
  selector = [];
  arguments = [];
  temporaries = [];
  primitive = None;
  body = with_keys t no_statements vs;
}

-- WHAT IS NAMED

-- of a value by its key: outside its own variables a text can name it so, and no name is one of the six that are always theirs
abbrev pub is_named_by : NamesView → Option (List ℕ) → ℕ → Bool
is_named_by names None p = false
is_named_by names (Some key) p = names_value names key p

-- with a name more
abbrev pub with_named : Option (List ℕ) → ℕ → List SharedName → List SharedName
with_named None p ss = ss
with_named (Some key) p ss = record { text = key; association = p } ∷ ss

-- those of these values that are named by their keys, behind others
abbrev pub named_among : NamesView → Table → List SharedName → List Value → List SharedName
named_among names t ss [] = ss
named_among names t ss (v ∷ vs) =
    named_among names t (if is_named_by names (key_in t v) (word_of v) then with_named (key_in t v) (word_of v) ss else ss) vs

-- the names of a class, of which those that are shared name one of these values
abbrev pub names_for : Table → List Value → NamesView → NamesView
names_for t vs names = record names { shared = named_among names t [] vs }

-- no association is the value of two names
abbrev pub HasOneName : NamesView → Type 0
HasOneName names = (s t : List ℕ) (p : ℕ) → shared_named names s ≡ Some p → shared_named names t ≡ Some p → s ≡ t
