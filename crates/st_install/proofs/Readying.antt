-- A plan as the code makes it, and whether there is room for it.
use Rattle.std.proofs.Common.{◌≡◌, ◌≢◌, ℕ, ◌+◌, ◌≤◌, Bool, true, false, List, ◌∷◌, ◌++◌, length, Option, Some, None, Result, Ok, Err, refl, sym, ap, ◌∙◌, subst, arith}
use Rattle.std.specs.Prelude.{◌==◌, if◌then◌else◌}
use Rattle.std.proofs.lemmas.List.{length-map, length-append}
use Rattle.std.proofs.lemmas.Bool.Decides.{nat_tests}
use Rattle.st_model.specs.declared.dead.Dead.{Dead}
use Rattle.st_model.specs.declared.dead.Dead.TheVariants as dead
use Rattle.st_model.specs.declared.oop.Oop.{Oop}
use Rattle.st_model.specs.declared.page.PageObject.TheVariants.{MethodClass}
use Rattle.st_model.specs.Values.{Value, Ref, value, value_of}
use Rattle.st_model.specs.Objects.{place_of}
use Rattle.st_model.specs.Machine.{Head, State, Died, Went, Step, after, answer, or_left, tried, ◌>>=◌}
use Rattle.st_model.specs.Table.{Table, table}
use Rattle.st_model.specs.inside.Calls.{Reads}
use Rattle.st_model.specs.View.{table_of}
use Rattle.st_model.proofs.Runs.{run-then, after-went, after-died, run-some, run-none, run-tried_went, run-tried_died}
use Rattle.st_emit.specs.declared.literal.Literal.{Literal}
use Rattle.st_emit.specs.inside.Views.{literals_view}
use Rattle.st_code.specs.declared.compiler.MethodParts.{MethodParts}
use Rattle.st_code.specs.Methods.{PartsView}
use Rattle.st_code.specs.inside.MethodDrafts.{parts_view}
use Rattle.st_scope.specs.declared.fault.InstallFault.{InstallFault}
use Rattle.st_scope.specs.declared.fault.InstallFault.TheVariants as fault
use Rattle.st_install.specs.declared.plan.NewObject.{NewObject as CodeObject}
use Rattle.st_install.specs.declared.plan.PlannedValue.{PlannedValue as CodePart}
use Rattle.st_install.specs.declared.plan.Ready.{Ready}
use Rattle.st_install.specs.declared.planning.PlanDraft.{PlanDraft}
use Rattle.st_install.specs.declared.plan.Owner.{Owner}
use Rattle.st_install.specs.declared.symbol_plan.SymbolPlan.{SymbolPlan}
use Rattle.st_scope.specs.declared.unread.Unread.{Unread}
use Rattle.st_scope.specs.declared.unread.Unread.TheVariants.{Dies, OutOfMemory}
use Rattle.st_install.specs.Plans.{There, Plan, method_object}
use Rattle.st_install.specs.Symbols.{symbol_part, symbols_in, symbols_for}
use Rattle.st_scope.specs.Classes.{class_association}
use Rattle.st_install.specs.Literals.{PlacedAll}
use Rattle.st_install.specs.Calls.{planned_for, planned, ready_for, ready, with_room}
use Rattle.st_install.specs.inside.Readies.{part_of, parts_of, object_of, objects_of, stores_of, plan_of}
use Rattle.st_scope.specs.inside.Findings.{Finds}
use Rattle.st_install.specs.inside.Told.{named_of, ArePlaced, PlacesAll, literals_step}
use Rattle.st_install.specs.inside.Naming.{Names, TellsNames}
use Rattle.st_install.specs.inside.Rooms.{TellsReady}
use Rattle.st_install.specs.inside.PlanDrafts.{IsDraft, method_of, TellsPlan, plan_step, planned_step, ready_step}
use Rattle.st_install.proofs.Planned.{unnamed, unplaced, all_placed, no_selector, planned_as}

-- THE PLAN

method_class : value_of 34 ≡ Ref (place_of MethodClass)
unfolding value_of
method_class = refl

module _ (symbol_table : Value) (o : Owner) (t : Table) (p : MethodParts) where
  abbrev this : Step Table Plan
  this = plan_step symbol_table o (parts_view p)

  module _ (selector : List ℕ) (ls : List Literal) (i : selector ≡ p.selector.items) (j : ls ≡ p.literals.items) where
    texts_are : selector ∷ symbols_in (literals_view ls) ≡ p.selector.items ∷ symbols_in (literals_view p.literals.items)
    texts_are = rw (i, j) refl

    pub unnamed_fails : (x : Unread) → TellsNames (symbols_for table symbol_table (selector ∷ symbols_in (literals_view ls))) t (Err x) → Finds this plan_of t (Err x)
    unnamed_fails (Dies k) e = unnamed symbol_table o (parts_view p) t k (λ s f. ap (λ ts. (symbols_for table symbol_table ts).run s) (sym texts_are) ∙ e s f)
    unnamed_fails OutOfMemory e = tt

    pub all_named : (q : SymbolPlan) → Names (symbols_for table symbol_table (selector ∷ symbols_in (literals_view ls))) t q → Names (symbols_for table symbol_table (p.selector.items ∷ symbols_in (literals_view p.literals.items))) t q
    all_named q n = subst (λ ts. Names (symbols_for table symbol_table ts) t q) texts_are n

  module _ (q : SymbolPlan) (n : Names (symbols_for table symbol_table (p.selector.items ∷ symbols_in (literals_view p.literals.items))) t q) (ls : List Literal) (j : ls ≡ p.literals.items) where
    same_literals : literals_view p.literals.items ≡ literals_view ls
    same_literals = ap literals_view (sym j)

    pub unplaced_fails : (x : Unread) (new : List CodeObject) → PlacesAll (literals_step q.named.entries o (length q.objects.items) ls) t q.objects.items new (Err x) → Finds this plan_of t (Err x)
    unplaced_fails (Dies k) new e = unplaced symbol_table o (parts_view p) t q n ls same_literals k e
    unplaced_fails OutOfMemory new e = tt

    module _ (new : List CodeObject) (ps : List CodePart) (e : ArePlaced (literals_step q.named.entries o (length q.objects.items) ls) t q.objects.items new ps) (text : List ℕ) (i : text ≡ p.selector.items) where
      pub unselected : symbol_part (named_of q.named.entries) text ≡ None → (s : State Table) → s.memory ≡ t → this.run s ≡ Died dead.Field
      unselected none = no_selector symbol_table o (parts_view p) t q n ls same_literals new ps e (subst (λ x. symbol_part (named_of q.named.entries) x ≡ None) i none)

      module _ (d : PlanDraft) (method : CodeObject) (some : symbol_part (named_of q.named.entries) text ≡ Some (part_of d.selector)) (bytes : List ℕ) (lits : List CodePart)
          (objects : d.objects.items ≡ new) (stores : d.stores.items ≡ q.stores.items) (l : lits ≡ ps) (b : bytes ≡ p.bytes.items)
          (m : object_of method ≡ method_object (value_of 34) (There (value_of p.header) ∷ parts_of lits) bytes) where
        is_draft : IsDraft d n.symbols (all_placed symbol_table o (parts_view p) t q n ls same_literals new ps e)
        is_draft = record {
          objects = ap objects_of objects ∙ e.behind ∙ ap (λ os. os ++ e.added) n.is.objects;
          stores = ap stores_of stores ∙ n.is.stores;
        }

        is_method : object_of method ≡ method_of (parts_view p) (all_placed symbol_table o (parts_view p) t q n ls same_literals new ps e)
        is_method =
            m ∙ ap (λ v. method_object v (There (value_of p.header) ∷ parts_of lits) bytes) method_class ∙ ap (λ xs. method_object (Ref (place_of MethodClass)) (There (value_of p.header) ∷ parts_of xs) bytes) l
            ∙ ap (λ bs. method_object (Ref (place_of MethodClass)) (There (value_of p.header) ∷ parts_of ps) bs) b

        chosen : symbol_part (named_of q.named.entries) p.selector.items ≡ Some (part_of d.selector)
        chosen = subst (λ x. symbol_part (named_of q.named.entries) x ≡ Some (part_of d.selector)) i some

        pub whole : (r : Result Ready Unread) → TellsPlan (value o.class) d (object_of method) t r → Finds this plan_of t r
        whole (Ok r) h = λ s f.
            planned_as symbol_table o (parts_view p) t q n ls same_literals new ps e d.selector chosen s f
            ∙ h (parts_view p) n.symbols (all_placed symbol_table o (parts_view p) t q n ls same_literals new ps e) is_method is_draft s f
        whole (Err (Dies k)) h = λ s f.
            planned_as symbol_table o (parts_view p) t q n ls same_literals new ps e d.selector chosen s f
            ∙ h (parts_view p) n.symbols (all_placed symbol_table o (parts_view p) t q n ls same_literals new ps e) is_method is_draft s f
        whole (Err OutOfMemory) h = tt

-- what a step tells, one that does the same tells
told : (m n : Step Table (Result Plan InstallFault)) (t : Table) → ((s : State Table) → s.memory ≡ t → n.run s ≡ m.run s)
    → (r : Result Ready InstallFault) → TellsReady m t r → TellsReady n t r
told m n t same (Ok r) h = λ s f. same s f ∙ h s f
told m n t same (Err fault.NoClass) h = λ s f. same s f ∙ h s f
told m n t same (Err fault.NoGlobals) h = λ s f. same s f ∙ h s f
told m n t same (Err (fault.NoRoom d)) h = λ s f. same s f ∙ h s f
told m n t same (Err fault.Shape) h = λ s f. same s f ∙ h s f
told m n t same (Err fault.OutOfMemory) h = tt

-- TABLES OF THE HEAD

pub head_none : (w : ℕ) (o : Option Value) → table_of w ≡ o → w ≡ 0 → o ≡ None
head_none w o e z = by (w == 0) refl e
  where
    by : (b : Bool) → (w == 0) ≡ b → (if b then None else Some (value_of w)) ≡ o → o ≡ None
    by true q e = sym e
    by false q e = absurd (grind (arith, nat_tests))

pub head_some : (w : ℕ) (o : Option Value) → table_of w ≡ o → w ≢ 0 → o ≡ Some (value_of w)
head_some w o e z = by (w == 0) refl e
  where
    by : (b : Bool) → (w == 0) ≡ b → (if b then None else Some (value_of w)) ≡ o → o ≡ Some (value_of w)
    by true q e = absurd (z (grind (arith, nat_tests)))
    by false q e = sym e

module _ (head : Head) (o : Owner) (parts : PartsView) (t : Table) where
  pub no_symbols : head.symbols ≡ None → (s : State Table) → s.memory ≡ t → (planned_step head o parts).run s ≡ Died dead.Field
  unfolding planned_for
  no_symbols y s f = simp (run-then, run-none dead.Field head.symbols s y, after-died) refl

  module _ (v : Value) (y : head.symbols ≡ Some v) where
    opened : (s : State Table) → (planned_step head o parts).run s ≡ (plan_step v o parts).run s
    unfolding planned_for
    opened s = simp (run-then, run-some dead.Field head.symbols v s y, after-went) refl

    pub planned_by : (r : Result Ready Unread) → Finds (plan_step v o parts) plan_of t r → Finds (planned_step head o parts) plan_of t r
    planned_by (Ok r) h = λ s f. opened s ∙ h s f
    planned_by (Err (Dies k)) h = λ s f. opened s ∙ h s f
    planned_by (Err OutOfMemory) h = tt

  -- ROOM

  module _ (p : Ready) (e : Finds (planned_step head o parts) plan_of t (Ok p)) where
    roomed : (s : State Table) → s.memory ≡ t → (ready_step head o parts).run s ≡ (with_room table head (Some (plan_of p))).run s
    unfolding ready_for
    roomed s f = simp (run-then, run-tried_went (planned_step head o parts) s s (plan_of p) (e s f), after-went) refl

    pub ready_by : (r : Result Ready InstallFault) → TellsReady (with_room table head (Some (plan_of p))) t r → TellsReady (ready_step head o parts) t r
    ready_by r h = told (with_room table head (Some (plan_of p))) (ready_step head o parts) t roomed r h

  pub no_shape : (k : Dead) → Finds (planned_step head o parts) plan_of t (Err (Dies k)) → (s : State Table) → s.memory ≡ t → (ready_step head o parts).run s ≡ Went (Err fault.Shape) s
  unfolding ready_for with_room answer
  no_shape k e s f = simp (run-then, run-tried_died (planned_step head o parts) s k (e s f), after-went) refl

-- THE CLASS BY ITS NAME

-- what dies is not ready, and what does the same is as ready
module _ (head : Head) (p : Step Table Plan) (s : State Table) where
  unplanned : (k : Dead) → p.run s ≡ Died k → (tried p >>= with_room table head).run s ≡ Went (Err fault.Shape) s
  unfolding with_room answer
  unplanned k e = simp (run-then, run-tried_died p s k e, after-went) refl

  as_ready : (q : Step Table Plan) → p.run s ≡ q.run s → (tried p >>= with_room table head).run s ≡ (tried q >>= with_room table head).run s
  unfolding tried ◌>>=◌
  as_ready q e = ap (λ x. after (or_left s x) (λ a z. (with_room table head a).run z)) e

module _ (head : Head) (class : Value) (name : List ℕ) (meta : Bool) (parts : PartsView) (t : Table) where
  pub no_globals : head.globals ≡ None → (s : State Table) → s.memory ≡ t → (ready table head class name meta parts).run s ≡ Went (Err fault.Shape) s
  unfolding ready planned
  no_globals e s f = unplanned head (planned table head class name meta parts) s dead.Field (simp (run-then, run-none dead.Field head.globals s e, after-died) refl)

  module _ (w : Value) (e : head.globals ≡ Some w) where
    pub no_association : (k : Dead) → Reads (class_association table w name) value t (Err k) → (s : State Table) → s.memory ≡ t → (ready table head class name meta parts).run s ≡ Went (Err fault.Shape) s
    unfolding ready planned
    no_association k a s f = unplanned head (planned table head class name meta parts) s k (simp (run-then, run-some dead.Field head.globals w s e, after-went, a s f, after-died) refl)

    module _ (association : Oop) (a : Reads (class_association table w name) value t (Ok association)) where
      of_class : (s : State Table) → s.memory ≡ t → (ready table head class name meta parts).run s ≡ (ready_for table head (value association) class meta parts).run s
      unfolding ready ready_for planned
      of_class s f = as_ready head (planned table head class name meta parts) s (planned_for table head (value association) class meta parts)
          (simp (run-then, run-some dead.Field head.globals w s e, after-went, a s f) refl)

      pub ready_of : (r : Result Ready InstallFault) → TellsReady (ready_for table head (value association) class meta parts) t r → TellsReady (ready table head class name meta parts) t r
      ready_of r h = told (ready_for table head (value association) class meta parts) (ready table head class name meta parts) t of_class r h
