-- A plan that is made of its draft, the method, and the growth of its dictionary.
use Rattle.std.proofs.Common.{◌≡◌, ℕ, ◌+◌, Bool, true, false, List, [], ◌∷◌, ◌++◌, length, Option, Some, None, Ok, Err, refl, sym, ap, ◌∙◌}
use Rattle.std.specs.Prelude.{if◌then◌else◌}
use Rattle.std.proofs.lemmas.List.{append_assoc, length-map, length-append}
use Rattle.st_model.specs.declared.dead.Dead.{Dead}
use Rattle.st_model.specs.declared.oop.Oop.{Oop}
use Rattle.st_model.specs.declared.page.PageObject.TheVariants.{MethodClass}
use Rattle.st_model.specs.Values.{Value, Ref, value}
use Rattle.st_model.specs.Objects.{place_of}
use Rattle.st_model.specs.Machine.{State, Died, Went, Step, answer, ◌>>=◌, ◌>>◌}
use Rattle.st_model.specs.Steps.{of_page}
use Rattle.st_model.specs.Table.{Table, table}
use Rattle.st_model.specs.inside.Calls.{Reads, itself}
use Rattle.st_model.proofs.Runs.{run-then, run-next, after-went, after-died, run-of_page}
use Rattle.st_code.specs.Methods.{PartsView}
use Rattle.st_install.specs.declared.planning.PlanDraft.{PlanDraft}
use Rattle.st_install.specs.declared.planning.Growth.{Growth}
use Rattle.st_install.specs.declared.plan.NewObject.{NewObject as CodeObject}
use Rattle.st_scope.specs.declared.unread.Unread.TheVariants.{Dies}
use Rattle.st_install.specs.Plans.{Made, NewObject, FieldStore, Plan}
use Rattle.st_install.specs.Symbols.{Symbols}
use Rattle.st_install.specs.Literals.{PlacedAll}
use Rattle.st_install.specs.Shapes.{check_size}
use Rattle.st_install.specs.Planning.{method_number, objects_with_method, grown_number, sized, plan_objects}
use Rattle.st_install.specs.inside.Readies.{part_of, object_of, objects_of}
use Rattle.st_install.specs.inside.PlanDrafts.{IsGrowth, growth_then, TellsGrowth, IsDraft, method_of, plan_from}

module _ (class : Oop) (d : PlanDraft) (method : NewObject) (t : Table) (next : ℕ) (e : next ≡ length d.objects.items + 1) (parts : PartsView) (symbols : Symbols) (literals : PlacedAll)
    (m : method ≡ method_of parts literals) (h : IsDraft d symbols literals) where
  count_is : length d.objects.items ≡ method_number symbols literals
  count_is = sym (length-map d.objects.items object_of) ∙ ap length h.objects ∙ length-append symbols.objects literals.objects

  next_is : next ≡ method_number symbols literals + 1
  next_is = e ∙ ap (λ k. k + 1) count_is

  abbrev rest : Value → Bool → List NewObject → Step Table Plan
  rest dictionary grows grown =
      of_page table MethodClass >>= (λ method_class. sized (record {
        objects = objects_with_method method_class parts symbols literals ++ grown;
        symbol_stores = symbols.stores;
        selector = part_of d.selector;
        method = Made (method_number symbols literals);
        class = value class;
        dictionary = dictionary;
        grown = grown_number grows symbols literals;
      }))

  opened : (s : State Table) → (plan_objects table (value class) parts symbols literals (part_of d.selector)).run s ≡ (growth_then (value class) (part_of d.selector) next rest).run s
  unfolding plan_objects
  opened s = ap (λ k. (growth_then (value class) (part_of d.selector) k rest).run s) (sym next_is)

  pub growth_dies : (k : Dead) → TellsGrowth (value class) (part_of d.selector) next t (Err (Dies k)) → (s : State Table) → s.memory ≡ t
      → (plan_objects table (value class) parts symbols literals (part_of d.selector)).run s ≡ Died k
  growth_dies k g s f = opened s ∙ g rest s f

  module _ (g : Growth) (i : IsGrowth (value class) (part_of d.selector) next t g) where
    grown_on : (s : State Table) → s.memory ≡ t → (plan_objects table (value class) parts symbols literals (part_of d.selector)).run s ≡ (rest (value g.dictionary) i.grown.grows (objects_of g.objects.items)).run s
    grown_on s f = opened s ∙ simp (run-then, i.dictionary s f, after-went, i.grown.test s f, i.grown.tells s f) refl

    number_is : (b : Bool) → (if b then Some next else None) ≡ grown_number b symbols literals
    number_is true = ap Some next_is
    number_is false = refl

    all_objects : objects_with_method (Ref (place_of MethodClass)) parts symbols literals ++ objects_of g.objects.items ≡ objects_of d.objects.items ++ method ∷ objects_of g.objects.items
    all_objects =
        append_assoc (symbols.objects ++ literals.objects) (method_of parts literals ∷ []) (objects_of g.objects.items)
        ∙ ap (λ os. os ++ method_of parts literals ∷ objects_of g.objects.items) (sym h.objects)
        ∙ ap (λ o. objects_of d.objects.items ++ o ∷ objects_of g.objects.items) (sym m)

    same_plan : (a b : List NewObject) (k n : ℕ) (p q : Option ℕ) (ss ts : List FieldStore) → a ≡ b → k ≡ n → p ≡ q → ss ≡ ts
        → ◌≡◌ {A = Plan} (record { objects = a; symbol_stores = ss; selector = part_of d.selector; method = Made k; class = value class; dictionary = value g.dictionary; grown = p })
        (record { objects = b; symbol_stores = ts; selector = part_of d.selector; method = Made n; class = value class; dictionary = value g.dictionary; grown = q })
    same_plan a b k n p q ss ts u v w z = rw (u, v, w, z) refl

    -- the plan is made, and its objects are looked at
    sized_so : (s : State Table) → s.memory ≡ t → (plan_objects table (value class) parts symbols literals (part_of d.selector)).run s ≡ (sized (plan_from (value class) d method g)).run s
    sized_so s f =
        grown_on s f ∙ simp (run-then, run-of_page, after-went) refl
        ∙ ap (λ p. (sized p).run s) (same_plan _ _ _ _ _ _ _ _ all_objects (sym count_is) (sym (i.number ∙ number_is i.grown.grows)) (sym h.stores))

    pub too_large : (k : Dead) → Reads (check_size (plan_from (value class) d method g).objects) itself t (Err k) → (s : State Table) → s.memory ≡ t
        → (plan_objects table (value class) parts symbols literals (part_of d.selector)).run s ≡ Died k
    unfolding sized
    too_large k x s f = sized_so s f ∙ simp (run-next, x s f, after-died) refl

    pub planned_so : (u : Unit {0}) → Reads (check_size (plan_from (value class) d method g).objects) itself t (Ok u) → (s : State Table) → s.memory ≡ t
        → (plan_objects table (value class) parts symbols literals (part_of d.selector)).run s ≡ Went (plan_from (value class) d method g) s
    unfolding answer sized
    planned_so u x s f = sized_so s f ∙ simp (run-next, x s f, after-went) refl
