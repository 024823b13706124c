-- What a function of the code that is sure to succeed stands on, and what it does with a memory.
use Rattle.std.specs.Prelude.{◌≡◌, ◌≤◌, ⊤, List, [], ◌∷◌, length, true}
use Rattle.std.specs.List.{AllByRecursion}
use Rattle.st_model.specs.Values.{Value}
use Rattle.st_model.specs.Objects.{is_method}
use Rattle.st_model.specs.Machine.{State, Transition, Died, Went, Step}
use Rattle.st_model.specs.Table.{Table, bounded_table}
use Rattle.st_model.specs.View.{View, SettlesTo, is_live, object_of, fits}
use Rattle.st_install.specs.inside.Goes.{IsOfKind}
use Rattle.st_install.specs.Installing.{install}
use Rattle.st_install.specs.Plans.{NewObject, Plan, words_of_new, demand_of_all}

-- it didn't die
abbrev pub HasGone : {S A : Type 0} → Transition S A → Type 0
HasGone (Died cause) = ⊥
HasGone (Went a s) = ⊤

-- from each state over the objects of a memory, under its head, the step goes
pub record Goes {A : Type 0} (m : Step Table A) (v : View) : Type 0 where
  pub gone : (s : State Table) → s.memory ≡ v.objects → s.head ≡ v.head → HasGone (m.run s)

-- by the step the memory that contained v comes to contain w; it answers a, and nothing but objects is changed
pub record Becomes {A : Type 0} (m : Step Table A) (v : View) (a : A) (w : View) : Type 0 where
  pub run : (s : State Table) → s.memory ≡ v.objects → s.head ≡ v.head → m.run s ≡ Went a (record s { memory = w.objects })
  pub held : w.held ≡ v.held
  pub head : w.head ≡ v.head

-- What a plan says is made and stored, and then nothing is kept but the largest set that supports itself.
pub record Installs (p : Plan) (v w : View) : Type 0 where
  pub between : View
  pub becomes : Becomes (install bounded_table p) v tt between
  pub settles : SettlesTo between w

-- each object has as many fields as before
abbrev pub KeepsFields : Table → Table → Type 0
KeepsFields t u = (x : Value) → length (object_of u x).fields ≡ length (object_of t x).fields

-- an object that can be made as it is planned: it is of its kind, and its body isn't too long
pub record IsPlannable (o : NewObject) : Type 0 where
  pub of_kind : IsOfKind o
  pub body : words_of_new o ≤ 65535

-- a Method that was made has as many fields as were planned for it
abbrev pub IsShaped : Table → Value → NewObject → Type 0
IsShaped t v o = is_method o.kind ≡ true → length (object_of t v).fields ≡ length o.fields

-- each of them
abbrev pub AreShaped : Table → List Value → List NewObject → Type 0
AreShaped t [] os = ⊤
AreShaped t (v ∷ vs) [] = ⊤
AreShaped t (v ∷ vs) (o ∷ os) = IsShaped t v o × AreShaped t vs os

-- An object that was made: it is there, a Method with as many fields as were planned, all that was there stays as it was, and
-- what has room beside it has room now.
pub record Makes (v : View) (o : NewObject) (x : Value) (w : View) : Type 0 where
  pub live : is_live w.objects x ≡ true
  pub shaped : IsShaped w.objects x o
  pub stays : (y : Value) → is_live v.objects y ≡ true → (is_live w.objects y ≡ true) × (object_of w.objects y ≡ object_of v.objects y)
  pub room : (os : List NewObject) → fits v (demand_of_all (o ∷ os)) ≡ true → fits w (demand_of_all os) ≡ true

-- no object of a plan has a longer body than an object can have
abbrev pub HasSmallBodies : Plan → Type 0
HasSmallBodies p = AllByRecursion (λ o. words_of_new o ≤ 65535) p.objects
