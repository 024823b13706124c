-- A dictionary's growth, and what comes behind it.
use Rattle.std.proofs.Common.{◌≡◌, ℕ, ◌+◌, List, [], ◌∷◌, ◌++◌, Bool, true, false, Some, None, Ok, Err, refl, sym, ap, ◌∙◌, length}
use Rattle.std.specs.Prelude.{◌==◌, if◌then◌else◌, not}
use Rattle.std.specs.Bool.{then_some}
use Rattle.st_model.specs.declared.dead.Dead.{Dead}
use Rattle.st_model.specs.Values.{Value, value}
use Rattle.st_model.specs.Machine.{State, Died, Went, Step, after, ◌>>=◌}
use Rattle.st_model.specs.Table.{Table, table}
use Rattle.st_model.specs.Steps.{fetch_field}
use Rattle.st_model.specs.inside.Calls.{Reads, itself}
use Rattle.st_model.specs.declared.oop.Oop.{Oop}
use Rattle.std.specs.Global.{Vec}
use Rattle.std.proofs.lemmas.List.{append_assoc, map-append}
use Rattle.st_install.specs.declared.plan.PlannedValue.{PlannedValue as CodePart}
use Rattle.st_install.specs.declared.plan.NewObject.{NewObject as CodeObject}
use Rattle.st_install.specs.declared.plan.Ready.{Ready}
use Rattle.st_install.specs.declared.planning.PlanDraft.{PlanDraft}
use Rattle.st_install.specs.declared.planning.Growth.{Growth}
use Rattle.st_install.specs.Shapes.{check_size}
use Rattle.st_install.specs.inside.Readies.{part_of, object_of, objects_of, plan_of}
use Rattle.st_scope.specs.declared.unread.Unread.{Unread}
use Rattle.st_scope.specs.declared.unread.Unread.TheVariants.{Dies, OutOfMemory}
use Rattle.st_install.specs.Plans.{PlannedValue, Made, NewObject}
use Rattle.st_install.specs.inside.Growing.{Grows}
use Rattle.st_install.specs.inside.PlanDrafts.{TellsGrowth, IsGrowth, plan_from, TellsPlan}
use Rattle.st_install.proofs.Drafting.{growth_dies, too_large, planned_so}

module _ {A B : Type 0} where
  then_went : (m : Step Table A) (f : A → Step Table B) (a : A) (s t : State Table) → m.run s ≡ Went a t → (m >>= f).run s ≡ (f a).run t
  unfolding ◌>>=◌ after
  then_went m f a s t e = rw e refl

  then_died : (m : Step Table A) (f : A → Step Table B) (k : Dead) (s : State Table) → m.run s ≡ Died k → (m >>= f).run s ≡ Died k
  unfolding ◌>>=◌ after
  then_died m f k s e = rw e refl

module _ (class : Value) (selector : PlannedValue) (next : ℕ) (t : Table) where
  pub no_dictionary : (k : Dead) → Reads (fetch_field table class 1) value t (Err k) → TellsGrowth class selector next t (Err (Dies k))
  no_dictionary k f = λ rest s e. then_died (fetch_field table class 1) _ k s (f s e)

  pub not_grown : (dictionary : Value) → ((s : State Table) → s.memory ≡ t → (fetch_field table class 1).run s ≡ Went dictionary s) → (u : Unread) → Grows dictionary selector next t (Err u)
      → TellsGrowth class selector next t (Err u)
  not_grown dictionary f (Dies k) g = λ rest s e. then_went (fetch_field table class 1) _ dictionary s s (f s e) ∙ g (rest dictionary) s e
  not_grown dictionary f OutOfMemory g = tt

-- the number of a grown dictionary, by how many objects are made for it
pub number_if : (b : Bool) (n : ℕ) (next : ℕ) → n ≡ (if b then 2 else 0) → then_some (not (n == 0)) next ≡ (if b then Some next else None)
number_if true n next e = rw e refl
number_if false n next e = rw e refl

module _ (class : Oop) (d : PlanDraft) (method : NewObject) (t : Table) (next : ℕ) (e : next ≡ length d.objects.items + 1) where
  pub not_planned : (u : Unread) → TellsGrowth (value class) (part_of d.selector) next t (Err u) → TellsPlan (value class) d method t (Err u)
  not_planned (Dies k) g = λ parts symbols literals m h s f. growth_dies class d method t next e parts symbols literals m h k g s f
  not_planned OutOfMemory g = tt

  module _ (g : Growth) (i : IsGrowth (value class) (part_of d.selector) next t g) where
    pub objects_too_large : (k : Dead) → Reads (check_size (plan_from (value class) d method g).objects) itself t (Err k) → TellsPlan (value class) d method t (Err (Dies k))
    objects_too_large k x = λ parts symbols literals m h s f. too_large class d method t next e parts symbols literals m h g i k x s f

    pub all_planned : (u : Unit {0}) → Reads (check_size (plan_from (value class) d method g).objects) itself t (Ok u) → (r : Ready) → plan_of r ≡ plan_from (value class) d method g → TellsPlan (value class) d method t (Ok r)
    all_planned u x r q = λ parts symbols literals m h s f. planned_so class d method t next e parts symbols literals m h g i u x s f ∙ ap (λ p. Went p s) (sym q)

-- THE WHOLE

pub assembled_plan : (class : Oop) (d : PlanDraft) (x : CodeObject) (g : Growth) (one : List CodeObject) (n : CodePart) (made : Vec Oop) (v : Vec CodeObject) → v.items ≡ one ++ g.objects.items → one ≡ d.objects.items ++ x ∷ []
    → part_of n ≡ Made (length d.objects.items)
    → plan_of (record { objects = v; symbol_stores = d.stores; selector = d.selector; method = n; class = class; dictionary = g.dictionary; grown = g.number; made = made }) ≡ plan_from (value class) d (object_of x) g
assembled_plan class d x g one n made v e q m =
    let o : objects_of v.items ≡ objects_of d.objects.items ++ object_of x ∷ objects_of g.objects.items =
    ap objects_of e ∙ map-append object_of one g.objects.items ∙ ap (λ os. objects_of os ++ objects_of g.objects.items) q ∙ ap (λ os. os ++ objects_of g.objects.items) (map-append object_of d.objects.items (x ∷ []))
    ∙ append_assoc (objects_of d.objects.items) (object_of x ∷ []) (objects_of g.objects.items) in
    rw (o, m) refl
