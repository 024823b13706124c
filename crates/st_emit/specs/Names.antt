-- What a name means in a method of a class.
use Rattle.std.specs.Prelude.{ℕ, ◌+◌, Bool, List, [], ◌∷◌, ◌++◌, find, Option, Some, None, option_map, if◌then◌else◌, codes, bytes_eq, nat_lt}
use Rattle.std.specs.List.{list_any}
use Rattle.st_scan.specs.Views.{NameView}
use Rattle.st_emit.specs.Bounds.{most_fields}
use Rattle.st_emit.specs.declared.instruction.Constant.{Constant}
use Rattle.st_emit.specs.declared.instruction.Constant.TheVariants.{Receiver, True, False, Nil, Context}

-- a name that a class, its pools or the globals share, and the pointer of its association
pub record SharedName : Type 0 where
  pub text : List ℕ
  pub association : ℕ

-- the names of a class: its instance variables in order, what is shared, and whether the image has a symbol table
pub record NamesView : Type 0 where
  pub fields : List (List ℕ)
  pub shared : List SharedName
  pub symbols : Bool

-- PSEUDO VARIABLES

abbrev pub constant_named : List ℕ → Option Constant
constant_named text =
    if bytes_eq text (codes "self") then Some Receiver
    else (if bytes_eq text (codes "super") then Some Receiver
    else (if bytes_eq text (codes "true") then Some True
    else (if bytes_eq text (codes "false") then Some False
    else (if bytes_eq text (codes "nil") then Some Nil
    else (if bytes_eq text (codes "thisContext") then Some Context
    else None)))))

-- METHOD VARIABLES

-- an argument or a temporary of the method, or an argument of a block, with its number; only temporaries are assigned
pub record Declared : Type 0 where
  pub text : List ℕ
  pub number : ℕ
  pub assignable : Bool

-- what is declared at a place, the outermost first
abbrev pub Scope : Type 0
Scope = List Declared

-- names, numbered from n on
abbrev pub numbered : (assignable : Bool) → ℕ → List NameView → List Declared
numbered assignable n [] = []
numbered assignable n (x ∷ xs) = record { text = x.text; number = n; assignable = assignable } ∷ numbered assignable (n + 1) xs

-- more names in a scope
abbrev pub declared : (assignable : Bool) → ℕ → List NameView → Scope → Scope
declared assignable n xs scope = scope ++ numbered assignable n xs

-- a name is among these
abbrev pub is_among : List NameView → List ℕ → Bool
is_among names text = list_any (λ n. bytes_eq n.text text) names

abbrev pub declared_as : Scope → List ℕ → Option Declared
declared_as scope text = find (λ d. bytes_eq d.text text) scope

-- VARIABLES

-- a method variable, an instance variable, or the value of an association
pub data Variable : Type 0 where
  temporary : (number : ℕ) → (assignable : Bool) → Variable
  field : (number : ℕ) → Variable
  shared : (association : ℕ) → Variable

-- the first instance variables have numbers
abbrev pub if_named : Option ℕ → Option ℕ
if_named None = None
if_named (Some n) = if nat_lt n most_fields then Some n else None

-- the number of the first field of a name, counted from n
abbrev pub field_from : ℕ → List (List ℕ) → List ℕ → Option ℕ
field_from n [] text = None
field_from n (name ∷ names) text = if bytes_eq name text then Some n else field_from (n + 1) names text

abbrev pub field_named : NamesView → List ℕ → Option ℕ
field_named names text = if_named (field_from 0 names.fields text)

abbrev pub shared_named : NamesView → List ℕ → Option ℕ
shared_named names text = option_map (λ s. s.association) (find (λ s. bytes_eq s.text text) names.shared)

-- what is found first
abbrev pub or_else : {A : Type 0} → Option A → Option A → Option A
or_else None b = b
or_else (Some a) b = Some a

-- a variable that is declared
abbrev pub own_variable : Option Declared → Option Variable
own_variable None = None
own_variable (Some d) = Some (temporary d.number d.assignable)

-- a variable's name: those of the method first, then the receiver's, then what is shared
abbrev pub variable_named : NamesView → Scope → List ℕ → Option Variable
variable_named names scope text =
    or_else (own_variable (declared_as scope text)) (or_else (option_map field (field_named names text)) (option_map shared (shared_named names text)))
