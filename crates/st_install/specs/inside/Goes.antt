-- An installation that is ready never fails.
use Rattle.std.specs.Prelude.{◌≡◌, ℕ, ◌<◌, ◌==◌, length, List, [], ◌∷◌, Bool, true, false, Ok}
use Rattle.std.specs.List.{AllByRecursion}
use Rattle.st_model.specs.declared.page.PageObject.TheVariants.{MethodClass}
use Rattle.st_model.specs.Values.{Value, Ref, value_of, is_small}
use Rattle.st_model.specs.Objects.{size_of, is_words, is_method, place_of}
use Rattle.st_model.specs.Formed.{literals_of}
use Rattle.st_model.specs.Machine.{State, Went}
use Rattle.st_model.specs.Table.{Table, table, bounded_table}
use Rattle.st_model.specs.View.{View, IsWhole, is_live, object_of}
use Rattle.st_model.specs.inside.Calls.{Changes, itself}
use Rattle.st_scan.specs.Views.{MethodView}
use Rattle.st_emit.specs.Names.{NamesView}
use Rattle.st_code.specs.Methods.{PartsView}
use Rattle.st_install.specs.Plans.{PlannedValue, There, Made, NewObject, Plan}
use Rattle.st_scope.specs.Calls.{names}
use Rattle.st_install.specs.Calls.{ready}
use Rattle.st_install.specs.Installing.{install}

-- the header of parts is a SmallInteger that counts their literals, as that of each compiled method is
pub record IsHeaded (parts : PartsView) : Type 0 where
  pub small : is_small (value_of parts.header) ≡ true
  pub word : parts.header < 65536
  pub count : literals_of (value_of parts.header) ≡ length parts.literals

-- A plan that is ready over what a memory contains: `names` has answered for the class, and `ready` this plan for parts.
pub record IsReadyFor (v : View) (p : Plan) : Type 0 where
  pub class : Value
  pub name : List ℕ
  pub meta : Bool
  pub tree : MethodView
  pub seen : NamesView
  pub parts : PartsView
  pub headed : IsHeaded parts
  pub named : (s : State Table) → s.memory ≡ v.objects → (names table v.head class meta tree).run s ≡ Went (Ok seen) s
  pub ready : (s : State Table) → s.memory ≡ v.objects → (ready table v.head class name meta parts).run s ≡ Went (Ok p) s

-- an object that was there is there, of the same size
pub record Stays (t u : Table) (x : Value) : Type 0 where
  pub live : is_live u x ≡ true
  pub kind : (object_of u x).kind ≡ (object_of t x).kind
  pub size : size_of (object_of u x) ≡ size_of (object_of t x)

-- all objects are made and all stores done, whatever the state that has these objects and this head; and all objects stay
pub record Installs (v : View) (p : Plan) : Type 0 where
  pub after : Table
  pub goes : Changes (install bounded_table p) itself v.objects v.head (Ok tt) after
  pub stays : (x : Value) → is_live v.objects x ≡ true → Stays v.objects after x

-- what is ready is installed, in a memory that makes an object only where there is room
abbrev pub ReadyInstalls : Type 0
ReadyInstalls = (v : View) (p : Plan) → IsWhole v → IsReadyFor v p → Installs v p

-- OBJECTS

-- a header that is there, and counts the literals behind it
abbrev pub HasHeader : List PlannedValue → Type 0
HasHeader [] = ⊥
HasHeader (Made k ∷ literals) = ⊥
HasHeader (There header ∷ literals) = (is_small header ≡ true) × (literals_of header ≡ length literals)

-- an object that is made has the class that its kind asks for, a Method a header that counts its literals, and none is of kind Words
pub record IsOfKind (o : NewObject) : Type 0 where
  pub kind : is_words o.kind ≡ false
  pub method : (class : ℕ) → o.class ≡ Ref class → is_method o.kind ≡ (class == place_of MethodClass)
  pub header : is_method o.kind ≡ true → HasHeader o.fields

-- so are all objects of a plan that is ready
abbrev pub ReadyObjects : Type 0
ReadyObjects = (v : View) (p : Plan) → IsWhole v → IsReadyFor v p → AllByRecursion IsOfKind p.objects
