-- What variables are called in the tree that is read. A text can use the names of a class that are names and no pseudo
-- variables; of the others none. The method's own variables are t1, t2 and so on, the names of the class left out.
use Rattle.std.specs.Prelude.{ℕ, zero, suc, ◌+◌, ◌==◌, nat_lt, Bool, false, not, ◌&&◌, List, [], ◌∷◌, ◌++◌, length, map, slice_get, Option, Some, None, is_some, if◌then◌else◌, codes, bytes_eq}
use Rattle.std.specs.Fmt.{decimal}
use Rattle.std.specs.List.{list_any}
use Rattle.st_scan.specs.Pieces.{is_name}
use Rattle.st_emit.specs.declared.instruction.InstructionOperand.{InstructionOperand}
use Rattle.st_emit.specs.declared.instruction.InstructionOperand.TheVariants.{Field, Temporary, Literal, Shared}
use Rattle.st_emit.specs.Names.{NamesView, SharedName, Variable, shared, constant_named, variable_named}
use Rattle.st_emit.specs.Literals.{LiteralView, named}

-- WHAT A TEXT CAN USE

abbrev pub is_usable : List ℕ → Bool
is_usable text = is_name text && not (is_some (constant_named text))

-- stands for what no text can use
abbrev pub unused : List ℕ
unused = codes "self"

abbrev pub usable_or : List ℕ → List ℕ
usable_or text = if is_usable text then text else unused

abbrev pub usable_shared : List SharedName → List SharedName
usable_shared [] = []
usable_shared (s ∷ ss) = if is_usable s.text then s ∷ usable_shared ss else usable_shared ss

-- the names of a class that a text can use; instance variables keep their numbers
abbrev pub usable : NamesView → NamesView
usable names = record { fields = map usable_or names.fields; shared = usable_shared names.shared; symbols = names.symbols }

-- OWN VARIABLES

-- what a number past those of a machine is written as
abbrev pub zeros : ℕ → List ℕ
zeros zero = 48 ∷ []
zeros (suc n) = 48 ∷ zeros n

abbrev pub numeral : ℕ → List ℕ
numeral n = if nat_lt n 18446744073709551615 then decimal (n + 1) else zeros n

-- t1, t2 and so on, by their numbers from 0 on
abbrev pub numbered : ℕ → List ℕ
numbered n = 116 ∷ numeral n

-- given which texts are names of the class
module _ (is_taken : List ℕ → Bool) where
  -- the first number from n on whose text is no name of the class, within so many tries
  abbrev pub first_free : (tries n : ℕ) → ℕ
  first_free zero n = n
  first_free (suc tries) n = if is_taken (numbered n) then first_free tries (n + 1) else n

  -- the first such number, and then each time the next; a class with so many names has one within so many tries
  abbrev pub own_number : (count k : ℕ) → ℕ
  own_number count zero = first_free count 0
  own_number count (suc k) = first_free count (own_number count k + 1)

  abbrev pub own_name : (count k : ℕ) → List ℕ
  own_name count k = numbered (own_number count k)

abbrev pub texts_of : List SharedName → List (List ℕ)
texts_of ss = map (λ s. s.text) ss

-- all names of a class
abbrev pub texts_in : NamesView → List (List ℕ)
texts_in names = names.fields ++ texts_of names.shared

abbrev pub is_among : List (List ℕ) → List ℕ → Bool
is_among texts text = list_any (λ t. bytes_eq t text) texts

-- WHAT THE CLASS HAS

-- a name means the value of this association
abbrev pub is_value : Option Variable → ℕ → Bool
is_value (Some (shared a)) b = a == b
is_value _ b = false

abbrev pub names_value : NamesView → List ℕ → ℕ → Bool
names_value names text a = is_usable text && is_value (variable_named names [] text) a

-- the first name that means the value of an association
abbrev pub shared_text : NamesView → ℕ → List (List ℕ) → List ℕ
shared_text names a [] = unused
shared_text names a (text ∷ texts) = if names_value names text a then text else shared_text names a texts

abbrev pub literal_text : NamesView → LiteralView → List ℕ
literal_text names (named a) = shared_text names a (texts_of names.shared)
literal_text names l = unused

-- what variables are called: instance variables and the method's own by their numbers, shared ones by their literals' places
pub record CallingView : Type 0 where
  pub fields : List (List ℕ)
  pub shared : List (List ℕ)
  pub own : ℕ → List ℕ

abbrev pub calling_of : NamesView → List LiteralView → CallingView
calling_of names literals = record {
  fields = map usable_or names.fields;
  shared = map (literal_text names) literals;
  own = own_name (is_among (texts_in names)) (length (texts_in names));
}

abbrev pub or_unused : Option (List ℕ) → List ℕ
or_unused None = unused
or_unused (Some text) = text

abbrev pub name_in : CallingView → InstructionOperand → List ℕ
name_in c (Field n) = or_unused (slice_get c.fields n)
name_in c (Temporary k) = c.own k
name_in c (Literal n) = unused
name_in c (Shared p) = or_unused (slice_get c.shared p)
