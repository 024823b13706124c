-- Plans with their names changed, and what a plan names; the same of what the calls answer.
use Rattle.std.specs.Prelude.{ℕ, List, [], ◌∷◌, Result, Ok, Err}
use Rattle.st_model.specs.Values.{Value, renamed, IsLive}
use Rattle.st_scope.specs.declared.fault.InstallFault.{InstallFault}
use Rattle.st_install.specs.Plans.{PlannedValue, There, Made, NewObject, FieldStore, Plan}

-- NAMES CHANGED

abbrev pub renamed_part : (ℕ → ℕ) → PlannedValue → PlannedValue
renamed_part f (There v) = There (renamed f v)
renamed_part f (Made k) = Made k

abbrev pub renamed_parts : (ℕ → ℕ) → List PlannedValue → List PlannedValue
renamed_parts f [] = []
renamed_parts f (p ∷ ps) = renamed_part f p ∷ renamed_parts f ps

abbrev pub renamed_new : (ℕ → ℕ) → NewObject → NewObject
renamed_new f o = record { class = renamed f o.class; kind = o.kind; fields = renamed_parts f o.fields; bytes = o.bytes }

abbrev pub renamed_objects : (ℕ → ℕ) → List NewObject → List NewObject
renamed_objects f [] = []
renamed_objects f (o ∷ os) = renamed_new f o ∷ renamed_objects f os

abbrev pub renamed_store : (ℕ → ℕ) → FieldStore → FieldStore
renamed_store f s = record { object = renamed_part f s.object; field = s.field; value = renamed_part f s.value }

abbrev pub renamed_stores : (ℕ → ℕ) → List FieldStore → List FieldStore
renamed_stores f [] = []
renamed_stores f (s ∷ ss) = renamed_store f s ∷ renamed_stores f ss

abbrev pub renamed_plan : (ℕ → ℕ) → Plan → Plan
renamed_plan f p = record {
  objects = renamed_objects f p.objects;
  symbol_stores = renamed_stores f p.symbol_stores;
  selector = renamed_part f p.selector;
  method = renamed_part f p.method;
  class = renamed f p.class;
  dictionary = renamed f p.dictionary;
  grown = p.grown;
}

-- WHAT LIVES: what a plan names, the objects that it makes aside

abbrev pub IsLivePart : (ℕ → Type 0) → PlannedValue → Type 0
IsLivePart live (There v) = IsLive live v
IsLivePart live (Made k) = Unit {0}

abbrev pub AllLiveParts : (ℕ → Type 0) → List PlannedValue → Type 0
AllLiveParts live [] = Unit {0}
AllLiveParts live (p ∷ ps) = IsLivePart live p × AllLiveParts live ps

pub record IsLiveNew (live : ℕ → Type 0) (o : NewObject) : Type 0 where
  pub class : IsLive live o.class
  pub fields : AllLiveParts live o.fields

abbrev pub AllLiveObjects : (ℕ → Type 0) → List NewObject → Type 0
AllLiveObjects live [] = Unit {0}
AllLiveObjects live (o ∷ os) = IsLiveNew live o × AllLiveObjects live os

pub record IsLiveStore (live : ℕ → Type 0) (s : FieldStore) : Type 0 where
  pub object : IsLivePart live s.object
  pub value : IsLivePart live s.value

abbrev pub AllLiveStores : (ℕ → Type 0) → List FieldStore → Type 0
AllLiveStores live [] = Unit {0}
AllLiveStores live (s ∷ ss) = IsLiveStore live s × AllLiveStores live ss

pub record IsLivePlan (live : ℕ → Type 0) (p : Plan) : Type 0 where
  pub objects : AllLiveObjects live p.objects
  pub symbol_stores : AllLiveStores live p.symbol_stores
  pub selector : IsLivePart live p.selector
  pub method : IsLivePart live p.method
  pub class : IsLive live p.class
  pub dictionary : IsLive live p.dictionary

-- ANSWERS

abbrev pub renamed_class : (ℕ → ℕ) → Result Value InstallFault → Result Value InstallFault
renamed_class f (Ok class) = Ok (renamed f class)
renamed_class f (Err fault) = Err fault

abbrev pub IsLiveClass : (ℕ → Type 0) → Result Value InstallFault → Type 0
IsLiveClass live (Ok class) = IsLive live class
IsLiveClass live (Err fault) = Unit {0}

abbrev pub renamed_ready : (ℕ → ℕ) → Result Plan InstallFault → Result Plan InstallFault
renamed_ready f (Ok p) = Ok (renamed_plan f p)
renamed_ready f (Err fault) = Err fault

abbrev pub IsLiveReady : (ℕ → Type 0) → Result Plan InstallFault → Type 0
IsLiveReady live (Ok p) = IsLivePlan live p
IsLiveReady live (Err fault) = Unit {0}

-- an answer that names nothing
abbrev pub as_it_was : {A : Type 0} → (ℕ → ℕ) → A → A
as_it_was f a = a

abbrev pub IsNameless : {A : Type 0} → (ℕ → Type 0) → A → Type 0
IsNameless live a = Unit {0}
