-- What is declared so far, and what may be declared, or named, behind it.
use denote.Enum.Bare.{sameb}
use Rattle.std.specs.Prelude.{ℕ, ◌+◌, nat_le, nat_lt, nat_eq, bytes_eq, ◌&&◌, ◌||◌, Bool, true, false, List, [], ◌∷◌, ◌++◌, length, codes, Option, Some, None, is_some, option_map, option_and_then, ok_or, Result, Ok, Err, if◌then◌else◌}
use Rattle.std.specs.List.{list_all, list_any}
use Rattle.std.specs.Option.{option_map_or}
use Rattle.std.specs.Map.{lookup}
use Rattle.st_kernel_text.specs.contracts.shape.Shape.{the_type}
use Rattle.st_kernel_text.specs.declared.shape.Shape.{Shape}
use Rattle.st_kernel_text.specs.declared.shape.Shape.TheVariants.{Fixed, Indexed, Words, Bytes}
use Rattle.st_kernel_text.specs.declared.place.ChunkPlace.{ChunkPlace}
use Rattle.st_kernel_text.specs.declared.place.ChunkPlace.TheVariants.{Declarations}
use Rattle.st_kernel_text.specs.declared.cause.Cause.{Cause}
use Rattle.st_kernel_text.specs.declared.cause.Cause.TheVariants.{Name, Variables, Missing}
use Rattle.st_kernel_text.specs.declared.named.Layout.{Layout}
use Rattle.st_kernel_text.specs.declared.named.Named.{Named}
use Rattle.st_kernel_text.specs.declared.named.Named.TheVariants.{Global, Class as AClass}
use Rattle.st_kernel_text.specs.Words.{is_word}
use Rattle.st_kernel_text.specs.Parts.{Class, Pool, Part, class, pool, global, opening, header, method, closing, start}

-- the names of classes and globals, in the order of their declarations, and what each is that of
abbrev pub Names : Type 0
Names = List (List ℕ × Named)

-- these names; and those of variables, each with the number of its class
pub record Known : Type 0 where
  pub names : Names
  -- the variables of instances
  pub fields : List (ℕ × List ℕ)
  -- the variables that a class shares
  pub shared : List (ℕ × List ℕ)

-- nothing is declared yet
abbrev pub nothing : Known
nothing = record { names = []; fields = []; shared = [] }

-- what a name is that of, if it is declared
abbrev pub named : Names → List ℕ → Option Named
named names name = lookup (λ other. bytes_eq name other) names

-- with this name as that of something: one that is there keeps its place, and a new one goes last
abbrev pub with_named : Names → List ℕ → Named → Names
with_named [] name n = (name, n) ∷ []
with_named (first ∷ names) name n = if bytes_eq name first.0 then (first.0, n) ∷ names else first ∷ with_named names name n

abbrev pub is_known : Known → List ℕ → Bool
is_known k name = is_some (named k.names name)

abbrev pub and_then : {A B : Type 0} → (A → Result B Cause) → Result A Cause → Result B Cause
and_then f (Ok a) = f a
and_then f (Err cause) = Err cause

-- VARIABLES

abbrev pub is_variable : (number : ℕ) → List ℕ → List (ℕ × List ℕ) → Bool
is_variable number name variables = list_any (λ v. nat_eq number v.0 && bytes_eq name v.1) variables

-- with one variable more of the class of this number, which isn't declared yet
abbrev pub with_variable : (number : ℕ) → List ℕ → List (ℕ × List ℕ) → Result (List (ℕ × List ℕ)) Cause
with_variable number name variables = if is_variable number name variables then Err Name else Ok (variables ++ (number, name) ∷ [])

-- and with several
abbrev pub with_variables : (number : ℕ) → List (List ℕ) → List (ℕ × List ℕ) → Result (List (ℕ × List ℕ)) Cause
with_variables number [] variables = Ok variables
with_variables number (name ∷ names) variables = and_then (with_variables number names) (with_variable number name variables)

-- the most fields of an instance
abbrev pub most_fields : Shape → ℕ
most_fields Fixed = 64
most_fields Indexed = 64
most_fields Words = 0
most_fields Bytes = 0

-- DECLARATIONS

abbrev pub layout_in : Named → Option Layout
layout_in (AClass layout) = Some layout
layout_in Global = None

-- the layout of the class of this name, if it is declared
abbrev pub layout_of : Names → List ℕ → Option Layout
layout_of names name = option_and_then layout_in (named names name)

-- how many fields a class inherits, if its superclass is nil or a class
abbrev pub inherited : Known → List ℕ → Option ℕ
inherited k above = if is_word (codes "nil") above then Some 0 else option_map (λ layout. layout.fields) (layout_of k.names above)

abbrev pub with_name : Known → List ℕ → Named → Known
with_name k name n = record k { names = with_named k.names name n }

-- a class with so many fields in all, which the part of this number declares
abbrev pub with_layout : Known → (number : ℕ) → Class → (fields : ℕ) → List (ℕ × List ℕ) → Result Known Cause
with_layout k number c fields all =
    if nat_le fields (most_fields c.shape)
    then Ok (with_name (record k { fields = all }) c.name (AClass (record { number = number; shape = c.shape; fields = fields; shares = false })))
    else Err Variables

-- a class whose superclass has so many fields
abbrev pub with_inherited : Known → (number : ℕ) → Class → (fields : ℕ) → Result Known Cause
with_inherited k number c fields = and_then (with_layout k number c (fields + length c.variables)) (with_variables number c.variables k.fields)

abbrev pub with_class : Known → (number : ℕ) → Class → Result Known Cause
with_class k number c = if is_known k c.name then Err Name else and_then (with_inherited k number c) (ok_or (inherited k c.above) Name)

-- the layout of a class with so many class variables more
abbrev pub with_more : Layout → ℕ → Layout
with_more layout count = record layout { shares = layout.shares || nat_lt 0 count }

-- class variables of the class with this layout
abbrev pub with_shared : Known → Pool → Layout → Result Known Cause
with_shared k p layout =
    and_then (λ all. Ok (with_name (record k { shared = all }) p.class (AClass (with_more layout (length p.variables))))) (with_variables layout.number p.variables k.shared)

abbrev pub with_pool : Known → Pool → Result Known Cause
with_pool k p = and_then (with_shared k p) (ok_or (layout_of k.names p.class) Name)

abbrev pub with_global : Known → List ℕ → Result Known Cause
with_global k name = if is_known k name then Err Name else Ok (with_name k name Global)

-- NEEDED CLASSES

-- the shape and the number of fields are those that are wanted, where any are
abbrev pub fits : Option (Shape × ℕ) → Layout → Bool
fits None layout = true
fits (Some want) layout = sameb the_type want.0 layout.shape && nat_eq want.1 layout.fields

abbrev pub has_class : Known → Option (Shape × ℕ) → (name : List ℕ) → Bool
has_class k want name = option_map_or (fits want) (layout_of k.names name) false

abbrev pub has_all : Known → List (Option (Shape × ℕ) × List (List ℕ)) → Bool
has_all k wanted = list_all (λ need. list_all (has_class k need.0) need.1) wanted

-- the shape and the number of fields, where any are asked for, and of which classes
abbrev pub needs : List (Option (Shape × ℕ) × List (List ℕ))
needs =
    (None, codes "UndefinedObject" ∷ codes "False" ∷ codes "True" ∷ codes "SmallInteger" ∷ codes "Metaclass" ∷ [])
    ∷ (Some (Fixed, 2), codes "Association" ∷ codes "Point" ∷ codes "Message" ∷ codes "ProcessorScheduler" ∷ codes "LinkedList" ∷ [])
    ∷ (Some (Fixed, 4), codes "Process" ∷ [])
    ∷ (Some (Fixed, 1), codes "Character" ∷ [])
    ∷ (Some (Indexed, 0), codes "Array" ∷ [])
    ∷ (Some (Indexed, 6), codes "MethodContext" ∷ codes "BlockContext" ∷ [])
    ∷ (Some (Indexed, 2), codes "MethodDictionary" ∷ [])
    ∷ (Some (Bytes, 0), codes "String" ∷ codes "Symbol" ∷ codes "LargePositiveInteger" ∷ codes "CompiledMethod" ∷ [])
    ∷ []

-- PARTS

-- what ends the declarations finds the needed classes
abbrev pub complete : ChunkPlace → Known → Result Known Cause
complete Declarations k = if has_all k needs then Ok k else Err Missing
complete _ k = Ok k

abbrev pub if_known : Known → List ℕ → Result Known Cause → Result Known Cause
if_known k name after = if is_known k name then after else Err Name

-- what is known behind the part of this number that stands here, or the least cause why it cannot stand
abbrev pub known_behind : ChunkPlace → Known → (number : ℕ) → Part → Result Known Cause
known_behind place k number (class c) = with_class k number c
known_behind place k number (pool p) = with_pool k p
known_behind place k number (global name) = with_global k name
known_behind place k number opening = complete place k
known_behind place k number (header side) = if_known k side.class (Ok k)
known_behind place k number (method text) = Ok k
known_behind place k number closing = Ok k
known_behind place k number (start s) = if_known k s.receiver (complete place k)
