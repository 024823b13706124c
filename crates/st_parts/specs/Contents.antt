-- A literal by its contents: what a compiler makes such an object of.
use Rattle.std.specs.Prelude.{ℕ, zero, suc, ◌+◌, ◌==◌, ◌&&◌, nat_lt, List, [], ◌∷◌, Option, Some, None, option_and_then, option_map, if◌then◌else◌}
use Rattle.st_model.specs.declared.kind.Kind.{Kind}
use Rattle.st_model.specs.declared.kind.Kind.TheVariants as kind
use Rattle.st_model.specs.Values.{Value, Small, Ref, is_small}
use Rattle.st_model.specs.declared.page.PageObject.TheVariants.{StringClass, ArrayClass, LargeClass, Characters, SymbolClass}
use Rattle.st_model.specs.Objects.{Object, is_pointers, place_of}
use Rattle.st_model.specs.Steps.{same_value}
use Rattle.st_model.specs.Table.{Table}
use Rattle.st_model.specs.View.{is_live, object_of}
use Rattle.st_emit.specs.Names.{or_else}
use Rattle.st_emit.specs.Literals.{LiteralView, LiteralsView, character, bytes, symbol, array, named, no_literals, literal}
use Rattle.st_parts.specs.Numbers.{small_number, large_number}

-- the name of a class; no SmallInteger is one
abbrev pub class_in : Value → ℕ
class_in (Small n) = 0
class_in (Ref n) = n

-- a LargePositiveInteger, a String or a Symbol of bytes
abbrev pub bytes_by : (class : ℕ) → List ℕ → Option LiteralView
bytes_by class bs =
    if class == place_of LargeClass then large_number bs else
    (if class == place_of StringClass then Some (bytes bs) else
    (if class == place_of SymbolClass then Some (symbol bs) else None))

-- CHARACTERS

-- the number of the first of these, counted from n, that is this value
abbrev pub number_among : ℕ → List Value → Value → Option ℕ
number_among n [] v = None
number_among n (x ∷ xs) v = if same_value x v then Some n else number_among (n + 1) xs v

-- the fields of an object of kind Pointers, or none
abbrev pub fields_at : Table → Value → List Value
fields_at t v = if is_live t v && is_pointers (object_of t v).kind then (object_of t v).fields else []

abbrev pub character_by : Option ℕ → Option LiteralView
character_by None = None
character_by (Some n) = if nat_lt n 256 then Some (character n) else None

-- the number of the first field of the table of characters that is this object
abbrev pub character_at : Table → Value → Option LiteralView
character_at t v = character_by (number_among 0 (fields_at t (Ref (place_of Characters))) v)

abbrev pub or_character : Option LiteralView → Table → Value → Option LiteralView
or_character l t v = or_else l (character_at t v)

-- ARRAYS

-- nil, false or true
abbrev pub constant_named : Value → Option LiteralView
constant_named v =
    if same_value v (Ref 1) then Some (named 2) else
    (if same_value v (Ref 2) then Some (named 4) else
    (if same_value v (Ref 3) then Some (named 6) else None))

-- given how a literal is read: such a literal, or else nil, false or true; and the members of an Array
abbrev pub member_by : (Value → Option LiteralView) → Value → Option LiteralView
member_by contents v = or_else (contents v) (constant_named v)

abbrev pub members_by : (Value → Option LiteralView) → List Value → Option LiteralsView
members_by contents [] = Some no_literals
members_by contents (v ∷ vs) = option_and_then (λ l. option_map (literal l) (members_by contents vs)) (member_by contents v)

-- given how an Array is read by its fields: what an object of this kind is, and what a value is
abbrev pub made_by : (List Value → Option LiteralView) → Object → Kind → Option LiteralView
made_by arrays o kind.Bytes = bytes_by o.class o.units
made_by arrays o kind.Pointers = if o.class == place_of ArrayClass then arrays o.fields else None
made_by arrays o kind.Words = None
made_by arrays o kind.Method = None

abbrev pub contents_by : (List Value → Option LiteralView) → Table → Value → Option LiteralView
contents_by arrays t v =
    if is_small v then Some (small_number v) else
    (if is_live t v then or_character (made_by arrays (object_of t v) (object_of t v).kind) t v else None)

-- LITERALS

-- Arrays that stand so deep in one another at most: none, or of members one less deep
abbrev pub arrays_at : ℕ → Table → List Value → Option LiteralView
arrays_at zero t vs = None
arrays_at (suc deep) t vs = option_map array (members_by (λ v. contents_by (arrays_at deep t) t v) vs)

-- a number, a String, a Symbol or an Array, or else a Character
abbrev pub contents : ℕ → Table → Value → Option LiteralView
contents deep t v = contents_by (arrays_at deep t) t v

abbrev pub made_at : ℕ → Table → Value → Option LiteralView
made_at deep t v = made_by (arrays_at deep t) (object_of t v) (object_of t v).kind

abbrev pub member_at : ℕ → Table → Value → Option LiteralView
member_at deep t v = member_by (contents deep t) v

abbrev pub members_at : ℕ → Table → List Value → Option LiteralsView
members_at deep t vs = members_by (contents deep t) vs

-- a text has no more brackets in one another
abbrev pub most_deep : ℕ
most_deep = 200
