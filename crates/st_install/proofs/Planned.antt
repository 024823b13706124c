-- The plan of a method: its Symbols, its literals, and then the rest.
use Rattle.std.proofs.Common.{◌≡◌, ℕ, ◌+◌, List, [], ◌∷◌, length, Option, Some, None, refl, sym, ap, ◌∙◌}
use Rattle.std.proofs.lemmas.List.{length-map}
use Rattle.st_model.specs.declared.dead.Dead.{Dead}
use Rattle.st_model.specs.declared.dead.Dead.TheVariants as dead
use Rattle.st_model.specs.Values.{Value, value}
use Rattle.st_model.specs.Machine.{State, Transition, Died, Went, Step, after, answer, ◌>>=◌}
use Rattle.st_model.specs.Steps.{or_die}
use Rattle.st_model.specs.Table.{Table, table}
use Rattle.st_model.proofs.Runs.{run-then, after-went, after-died, run-some, run-none}
use Rattle.st_emit.specs.declared.literal.Literal.{Literal}
use Rattle.st_emit.specs.Literals.{LiteralView, LiteralsView}
use Rattle.st_emit.specs.Literals as literals
use Rattle.st_emit.specs.inside.Views.{literals_view}
use Rattle.st_code.specs.Methods.{PartsView}
use Rattle.st_install.specs.declared.plan.PlannedValue.{PlannedValue as CodePart}
use Rattle.st_install.specs.declared.plan.NewObject.{NewObject as CodeObject}
use Rattle.st_install.specs.declared.plan.Owner.{Owner}
use Rattle.st_install.specs.declared.symbol_plan.SymbolPlan.{SymbolPlan}
use Rattle.st_install.specs.Plans.{PlannedValue}
use Rattle.st_install.specs.Symbols.{NamedSymbol, symbol_part, symbols_in, symbols_for}
use Rattle.st_install.specs.Literals.{Placed, PlacedAll, as_it_is, then_placed, place_symbol, place_literal, place_members, place_literals}
use Rattle.st_install.specs.Planning.{plan, plan_objects}
use Rattle.st_install.specs.inside.Readies.{part_of, parts_of, object_of}
use Rattle.st_install.specs.inside.Told.{owner_step, named_of, ArePlaced, literals_step}
use Rattle.st_install.specs.inside.Naming.{Names}
use Rattle.st_install.specs.inside.PlanDrafts.{plan_step}

-- LITERALS KNOW SYMBOLS BY THEIR TEXTS ALONE

after_same : {A B : Type 0} (x y : Transition (State Table) A) (f g : A → State Table → Transition (State Table) B) → x ≡ y → ((a : A) (s : State Table) → f a s ≡ g a s) → after x f ≡ after y g
unfolding after
after_same x y f g q e = ap (λ z. after z f) q ∙ by y
  where
    by : (y : Transition (State Table) _) → after y f ≡ after y g
    by (Died k) = refl
    by (Went a s) = e a s

module _ (xs ys : List NamedSymbol) (owner : ℕ → Step Table Placed) (same : (text : List ℕ) → symbol_part xs text ≡ symbol_part ys text) where
  mutual
    unfolding place_literal place_members place_symbol ◌>>=◌ after

    literal_same : (l : LiteralView) (next : ℕ) (s : State Table) → (place_literal table xs owner next l).run s ≡ (place_literal table ys owner next l).run s
    literal_same (literals.number n) next s = refl
    literal_same (literals.character b) next s = refl
    literal_same (literals.bytes text) next s = refl
    literal_same (literals.symbol text) next s = ap (λ (o : Option PlannedValue). after ((or_die dead.Field o).run s) (λ p u. (answer (as_it_is p)).run u)) (same text)
    literal_same (literals.array ls) next s = after_same _ _ _ _ (members_same ls (next + 1) s) (λ a u. refl)
    literal_same (literals.named pointer) next s = refl
    literal_same literals.owner next s = refl

    members_same : (ls : LiteralsView) (next : ℕ) (s : State Table) → (place_members table xs owner next ls).run s ≡ (place_members table ys owner next ls).run s
    members_same literals.no_literals next s = refl
    members_same (literals.literal l ls) next s =
        after_same _ _ _ _ (literal_same l next s) (λ p u. ap (λ x. after x (λ ps v. (answer (then_placed p ps)).run v)) (members_same ls (next + length p.objects) u))

  pub literals_same : (ls : List LiteralView) (next : ℕ) (s : State Table) → (place_literals table xs owner next ls).run s ≡ (place_literals table ys owner next ls).run s
  unfolding place_literals ◌>>=◌
  literals_same [] next s = refl
  literals_same (l ∷ ls) next s =
      after_same _ _ _ _ (literal_same l next s) (λ p u. ap (λ x. after x (λ ps v. (answer (then_placed p ps)).run v)) (literals_same ls (next + length p.objects) u))

-- THE PLAN

module _ (symbol_table : Value) (o : Owner) (parts : PartsView) (t : Table) where
  pub unnamed : (k : Dead) → ((s : State Table) → s.memory ≡ t → (symbols_for table symbol_table (parts.selector ∷ symbols_in parts.literals)).run s ≡ Died k)
      → (s : State Table) → s.memory ≡ t → (plan_step symbol_table o parts).run s ≡ Died k
  unfolding plan
  unnamed k e s f = simp (run-then, e s f, after-died) refl

  module _ (p : SymbolPlan) (n : Names (symbols_for table symbol_table (parts.selector ∷ symbols_in parts.literals)) t p) (ls : List Literal) (q : parts.literals ≡ literals_view ls) where
    placing : (s : State Table) → (place_literals table n.symbols.named (owner_step o) (length n.symbols.objects) parts.literals).run s ≡ (literals_step p.named.entries o (length p.objects.items) ls).run s
    placing s =
        sym (literals_same (named_of p.named.entries) n.symbols.named (owner_step o) n.is.named parts.literals (length n.symbols.objects) s)
        ∙ ap (λ k. (place_literals table (named_of p.named.entries) (owner_step o) k parts.literals).run s) (sym (sym (length-map p.objects.items object_of) ∙ ap length n.is.objects))
        ∙ ap (λ vs. (place_literals table (named_of p.named.entries) (owner_step o) (length p.objects.items) vs).run s) q

    pub unplaced : (k : Dead) → ((s : State Table) → s.memory ≡ t → (literals_step p.named.entries o (length p.objects.items) ls).run s ≡ Died k)
        → (s : State Table) → s.memory ≡ t → (plan_step symbol_table o parts).run s ≡ Died k
    unfolding plan
    unplaced k e s f = simp (run-then, n.tells s f, after-went, placing s ∙ e s f, after-died) refl

    module _ (new : List CodeObject) (ps : List CodePart) (e : ArePlaced (literals_step p.named.entries o (length p.objects.items) ls) t p.objects.items new ps) where
      abbrev pub all_placed : PlacedAll
      all_placed = record { parts = parts_of ps; objects = e.added }

      pub no_selector : symbol_part (named_of p.named.entries) parts.selector ≡ None → (s : State Table) → s.memory ≡ t → (plan_step symbol_table o parts).run s ≡ Died dead.Field
      unfolding plan
      no_selector none s f =
          simp (run-then, n.tells s f, after-went, placing s ∙ e.tells s f, run-none dead.Field (symbol_part n.symbols.named parts.selector) s (sym (n.is.named parts.selector) ∙ none), after-died) refl

      pub planned_as : (x : CodePart) → symbol_part (named_of p.named.entries) parts.selector ≡ Some (part_of x) → (s : State Table) → s.memory ≡ t
          → (plan_step symbol_table o parts).run s ≡ (plan_objects table (value o.class) parts n.symbols all_placed (part_of x)).run s
      unfolding plan
      planned_as x some s f =
          simp (run-then, n.tells s f, after-went, placing s ∙ e.tells s f, run-some dead.Field (symbol_part n.symbols.named parts.selector) (part_of x) s (sym (n.is.named parts.selector) ∙ some)) refl
