-- Symbols (chapter 10: no two of them have the same characters). The symbol table is an association. Its value is an object of
-- kind Pointers, and the members are the fields of that which are of kind Bytes and of class Symbol.
use Rattle.std.specs.Prelude.{ℕ, ◌+◌, ◌-◌, ◌*◌, List, [], ◌∷◌, ◌++◌, map, max, length, replicate, slice_set, find, option_map, Option, Some, None, Bool, false, nat_lt, bytes_eq, if◌then◌else◌}
use Rattle.std.specs.List.{position_or_len}
use Rattle.st_model.specs.Values.{Value}
use Rattle.st_model.specs.declared.page.PageObject.TheVariants.{NilObject, ArrayClass, SymbolClass}
use Rattle.st_model.specs.Machine.{ObjectMemory, Step, answer, tried, ◌>>=◌, ◌>>◌}
use Rattle.st_model.specs.Steps.{of_page, same_value, fetch_field, fetch_fields, count_fields}
use Rattle.st_model.specs.Primitives.{check_class}
use Rattle.st_emit.specs.Literals.{LiteralView, LiteralsView}
use Rattle.st_emit.specs.Literals as literals
use Rattle.st_scope.specs.Tables.{bytes_of, is_text, first_field}
use Rattle.st_install.specs.Plans.{PlannedValue, There, Made, NewObject, bytes_object, pointers_object, FieldStore}

-- SYMBOLS THAT ARE THERE

unfoldable pub symbol_text : {H : Type 0} → ObjectMemory H → Value → Step H (List ℕ)
symbol_text m v = check_class m v SymbolClass >> bytes_of m v

-- it is a member, of this text
unfoldable pub is_symbol : {H : Type 0} → ObjectMemory H → Value → List ℕ → Step H Bool
is_symbol m v text = do
  found ← tried (symbol_text m v)
  answer (is_text text found)

-- the first member of this text
unfoldable pub symbol_named : {H : Type 0} → ObjectMemory H → Value → List ℕ → Step H (Option Value)
symbol_named m table text = first_field m table (λ v. is_symbol m v text)

-- SYMBOLS THAT A METHOD NEEDS

-- those of a literal: of an array those of its elements, from left to right
abbrev mutual
  pub symbols_of : LiteralView → List (List ℕ)
  symbols_of (literals.symbol text) = text ∷ []
  symbols_of (literals.array ls) = symbols_among ls
  symbols_of _ = []

  pub symbols_among : LiteralsView → List (List ℕ)
  symbols_among literals.no_literals = []
  symbols_among (literals.literal l ls) = symbols_of l ++ symbols_among ls

abbrev pub symbols_in : List LiteralView → List (List ℕ)
symbols_in [] = []
symbols_in (l ∷ ls) = symbols_of l ++ symbols_in ls

-- a Symbol by its text
pub record NamedSymbol : Type 0 where
  pub text : List ℕ
  pub part : PlannedValue

abbrev pub symbol_part : List NamedSymbol → List ℕ → Option PlannedValue
symbol_part ss text = option_map (λ s. s.part) (find (λ s. bytes_eq s.text text) ss)

-- the table's value and its fields as they come to be, what is made and stored for that, and the Symbols by their texts
pub record Symbols : Type 0 where
  pub table : PlannedValue
  pub fields : List PlannedValue
  pub objects : List NewObject
  pub stores : List FieldStore
  pub named : List NamedSymbol

abbrev pub is_vacant : (nil : Value) → PlannedValue → Bool
is_vacant nil (There v) = same_value v nil
is_vacant nil (Made k) = false

-- an Array of twice as many fields, at least 16
abbrev pub grown_size : ℕ → ℕ
grown_size n = max 16 (2 * n)

module _ (nil array_class symbol_class association : Value) (text : List ℕ) (s : Symbols) where
  -- the number of the Symbol among the objects
  abbrev pub new_number : ℕ
  new_number = length s.objects

  -- the first field that holds nil
  abbrev pub vacant_field : ℕ
  vacant_field = position_or_len (is_vacant nil) s.fields

  -- the old fields, the Symbol behind them, and nil
  abbrev pub grown_fields : List PlannedValue
  grown_fields = s.fields ++ Made new_number ∷ replicate (grown_size (length s.fields) - (length s.fields + 1)) (There nil)

  abbrev pub symbol_in_field : Symbols
  symbol_in_field = record {
    table = s.table;
    fields = slice_set s.fields vacant_field (Made new_number);
    objects = s.objects ++ bytes_object symbol_class text ∷ [];
    stores = s.stores ++ record { object = s.table; field = vacant_field; value = Made new_number } ∷ [];
    named = s.named ++ record { text = text; part = Made new_number } ∷ [];
  }

  abbrev pub symbol_in_array : Symbols
  symbol_in_array = record {
    table = Made (new_number + 1);
    fields = grown_fields;
    objects = s.objects ++ bytes_object symbol_class text ∷ pointers_object array_class grown_fields ∷ [];
    stores = s.stores ++ record { object = There association; field = 1; value = Made (new_number + 1) } ∷ [];
    named = s.named ++ record { text = text; part = Made new_number } ∷ [];
  }

  -- A new Symbol takes the first field that holds nil. Where there is none, an Array takes the place of the table's value.
  abbrev pub with_new_symbol : Symbols
  with_new_symbol = if nat_lt vacant_field (length s.fields) then symbol_in_field else symbol_in_array

unfoldable pub make_symbol : {H : Type 0} → ObjectMemory H → Value → List ℕ → Symbols → Step H Symbols
make_symbol m association text s = do
  nil ← of_page m NilObject
  array_class ← of_page m ArrayClass
  symbol_class ← of_page m SymbolClass
  answer (with_new_symbol nil array_class symbol_class association text s)

unfoldable pub found_or_made : {H : Type 0} → ObjectMemory H → Value → List ℕ → Symbols → Option Value → Step H Symbols
found_or_made m association text s None = make_symbol m association text s
found_or_made m association text s (Some v) = answer (record s { named = s.named ++ record { text = text; part = There v } ∷ [] })

-- Symbols of the same text are one
unfoldable pub seek_unless : {H : Type 0} → ObjectMemory H → Value → Value → List ℕ → Symbols → Option PlannedValue → Step H Symbols
seek_unless m association table text s (Some p) = answer s
seek_unless m association table text s None = do
  found ← symbol_named m table text
  found_or_made m association text s found

unfoldable pub with_symbol : {H : Type 0} → ObjectMemory H → Value → Value → List ℕ → Symbols → Step H Symbols
with_symbol m association table text s = seek_unless m association table text s (symbol_part s.named text)

-- one after the other
unfoldable pub with_symbols : {H : Type 0} → ObjectMemory H → Value → Value → List (List ℕ) → Symbols → Step H Symbols
with_symbols m association table [] s = answer s
with_symbols m association table (text ∷ texts) s = do
  t ← with_symbol m association table text s
  with_symbols m association table texts t

abbrev pub symbols_there : Value → List Value → Symbols
symbols_there table fields = record { table = There table; fields = map There fields; objects = []; stores = []; named = [] }

-- the Symbols of these texts, of which those that the table lacks are made
unfoldable pub symbols_for : {H : Type 0} → ObjectMemory H → Value → List (List ℕ) → Step H Symbols
symbols_for m association texts = do
  table ← fetch_field m association 1
  n ← count_fields m table
  fields ← fetch_fields m table 0 n
  with_symbols m association table texts (symbols_there table fields)
