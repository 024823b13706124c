-- What is guarded stays so through each installation.
use Rattle.std.proofs.Common.{◌≡◌, ◌≢◌, ℕ, suc, ◌+◌, ◌<◌, List, [], ◌∷◌, length, Option, Some, None, Bool, Result, Ok, Err, refl, sym, ap, subst, ◌∙◌, arith, inl}
use Rattle.st_model.specs.declared.page.PageObject.{PageObject}
use Rattle.st_model.specs.Values.{Value, Small, Ref, IsLive}
use Rattle.st_model.specs.Objects.{place_of}
use Rattle.st_model.specs.Machine.{State, Head, roots_of, Transition, Died, Went, Step, answer, after, ◌>>=◌, ◌>>◌}
use Rattle.st_model.specs.Births.{Births, births, object_born, borne, bearer, settled_births}
use Rattle.st_model.specs.Table.{Table}
use Rattle.st_model.specs.Settled.{settled_set, reclaim}
use Rattle.st_model.specs.Saving.{settled_after}
use Rattle.st_model.specs.Show.{IsKept}
use Rattle.st_model.proofs.BirthLemmas.{borne_before, object_within}
use Rattle.st_model.proofs.SettledLemmas.{settled-borne, object_born-settled}
use Rattle.st_simulation.specs.inside.Laws.{Runs}
use Rattle.st_simulation.proofs.Same.{Anything, IsLiveOption}
use Rattle.st_scan.specs.Views.{MethodView}
use Rattle.st_emit.specs.Names.{NamesView}
use Rattle.st_code.specs.Methods.{PartsView, code}
use Rattle.st_chunk.specs.Definitions.{Definition}
use Rattle.st_protocol.specs.declared.refusal.Refusal.{Refusal}
use Rattle.st_protocol.specs.Installing.{Accepted}
use Rattle.st_install.specs.Plans.{Plan}
use Rattle.st_grammar.specs.Syntax.{syntax}
use Rattle.st_install.specs.Installing.{install}
use Rattle.st_install.specs.Calls.{ready}
use Rattle.st_install.specs.inside.SamePlans.{IsLiveClass}
use Rattle.st_install.specs.inside.Same.{RunsOn, IsReady}
use Rattle.st_install.specs.Defining.{of_syntax, of_code, of_install, Prepared, on_ok, prepare, carry_out, define, outcome_of, installed}
use Rattle.st_install.proofs.Joining.{refuses_at, goes_at}
use Rattle.st_install.proofs.SameCalls.{class_shows, names_show, ready_shows}
use Rattle.st_install.proofs.SameHeaders.{code_header}
use Rattle.st_install.proofs.SameInstalls.{install_shows, install_settles}
use Rattle.st_kernel.proofs.Keeping.{Leads, Kept, Keeps}
use Rattle.st_kernel.proofs.KeepingPlans.{class_of_name_keeps, Chosen, IsPlanIn, IsReadyIn, ready_keeps}
use Rattle.st_kernel.proofs.KeepingInstalls.{Fixed, IsGuarded, Joins, apart_up, within_up, install_keeps}

-- a running machine's births, in which all that an installation meets is among some objects, of which two others aren't
pub record Holds (z : Fixed) (s : State Births) : Type 1 where
  pub among : ℕ → Type 0
  pub guarded : IsGuarded among z (length s.memory) s
  pub within : (n : ℕ) → among n → n < length s.memory
  pub apart : (n : ℕ) → among n → (n ≢ z.one) × (n ≢ z.other)
  pub globals : IsLiveOption among z.head.globals
  pub symbols : IsLiveOption among z.head.symbols
  pub table : State Table
  pub runs : Runs table s

length-settled : (h : Births) (keep : ℕ → Bool) → length (settled_births h keep) ≡ length h
length-settled [] keep = refl
length-settled (b ∷ h) keep = ap (λ n. suc n) (length-settled h (λ n. keep (suc n)))

-- WHAT STEPS ANSWER that change nothing

abbrev Here : State Births → State Births → Type 0
Here s u = u ≡ s

module _ (s : State Births) (K : ℕ → Type 0) (leads : Leads K s.memory) where
  here_leads : (u : State Births) → Here s u → Leads K u.memory
  here_leads u e = subst (λ (x : State Births). Leads K x.memory) (sym e) leads

  told : {A : Type 0} (P : A → Type 0) (m : Step Births A) (a : A) → Keeps (Here s) P m → m.run s ≡ Went a s → P a
  told P m a k e = (subst (λ o. Kept (Here s) P o) e (k.go s refl)).0

-- A DEFINITION

module _ (z : Fixed) (s : State Births) (holds : Holds z s) (d : Definition) (selector : List ℕ) where
  abbrev K : ℕ → Type 0
  K = holds.among

  pub record Installs (u : State Births) : Type 0 where
    pub plan : Plan
    pub is_ready : IsReady plan s
    pub plan_in : IsPlanIn K plan
    pub ran : (install births plan).run s ≡ Went tt u

  abbrev carried : Transition (State Births) (Result Prepared Refusal) → Transition (State Births) (Result (List ℕ) Refusal)
  carried o = after o (λ p t. (carry_out births p).run t)

  abbrev said : List ℕ → Result (List ℕ) Refusal
  said text = Ok text

  module _ (u : State Births) where
    abbrev Goal : Transition (State Births) (Result Prepared Refusal) → Type 0
    Goal o = carried o ≡ Went (Ok selector) u → Installs u

    refused : (why : Refusal) → Goal (Went (Err why) s)
    unfolding carry_out after answer
    refused why e = cc

    ran_so : (p : Plan) (text : List ℕ) (x : Transition (State Births) (Unit {0})) → (install births p).run s ≡ x
        → after x (λ a t. (answer {H = Births} (said text)).run t) ≡ Went (Ok selector) u → (install births p).run s ≡ Went tt u
    unfolding after answer
    ran_so p text (Died cause) f e = cc
    ran_so p text (Went a t) f e = let q : t ≡ u = cc in f ∙ ap (λ w. Went tt w) q

    by_plan : (text : List ℕ) (p : Plan) → IsReady p s → IsPlanIn K p → Goal (Went (Ok (record { selector = text; plan = p })) s)
    unfolding carry_out ◌>>◌ ◌>>=◌ after
    by_plan text p is_ready plan_in e = record { plan = p; is_ready = is_ready; plan_in = plan_in; ran = ran_so p text ((install births p).run s) refl e }

    -- a fault is refused, or it goes on with what came
    on : {A E : Type 0} (says : E → Refusal) (m : Step Births (Result A E)) (f : A → Step Births (Result Prepared Refusal)) (r : Result A E) → m.run s ≡ Went r s
        → ((a : A) → r ≡ Ok a → Goal ((f a).run s)) → Goal ((on_ok says m f).run s)
    on says m f (Err fault) is go e = refused (says fault) (ap carried (sym (refuses_at says m f s fault is)) ∙ e)
    on says m f (Ok a) is go e = go a refl (ap carried (sym (goes_at says m f s a is)) ∙ e)

    globals_in : IsLiveOption K s.head.globals
    globals_in = subst (λ (a : Head). IsLiveOption K a.globals) (sym holds.guarded.head) holds.globals

    symbols_in : IsLiveOption K s.head.symbols
    symbols_in = subst (λ (a : Head). IsLiveOption K a.symbols) (sym holds.guarded.head) holds.symbols

    by_parts : (class : Value) → IsLive K class → IsLive (IsKept s.memory) class → (tree : MethodView) (seen : NamesView) (parts : PartsView) → code tree seen ≡ Ok parts
        → Goal ((on_ok of_install (ready births s.head class d.class d.meta parts) (λ plan. answer (Ok (record { selector = parts.selector; plan = plan })))).run s)
    unfolding answer
    by_parts class class_in kept tree seen parts coded =
        let header = code_header tree seen parts coded in
        let l = ready_shows class d.class d.meta parts holds.table s holds.runs.shows kept header in
        let k = told s K holds.guarded.leads _ _ l.answer
        (ready_keeps K (Here s) (here_leads s K holds.guarded.leads) s.head globals_in symbols_in class class_in d.class d.meta parts) l.born in
        on of_install _ _ l.answer l.born (λ plan q. by_plan parts.selector plan
        (record { class = class; name = d.class; meta = d.meta; parts = parts; kept = kept; header = header; ready = l.born ∙ ap (λ a. Went a s) q })
        (subst (IsReadyIn K) q k))

    defined : (define births s.head d).run s ≡ Went (Ok selector) u → Installs u
    unfolding define prepare ◌>>=◌ answer
    defined =
        let l = class_shows d.class d.meta holds.table s holds.runs.shows in
        let k = told s K holds.guarded.leads _ _ l.answer (class_of_name_keeps K (Here s) (here_leads s K holds.guarded.leads) s.head d.class d.meta globals_in) l.born in
        on of_install _ _ l.answer l.born λ class found.
        let kept : IsLive (IsKept s.memory) class = subst (IsLiveClass (IsKept s.memory)) found l.kept in
        on of_syntax _ _ (syntax d.text) refl λ tree reads.
        let n = names_show class d.meta tree holds.table s holds.runs.shows kept in
        on of_install _ _ n.answer n.born λ seen sees.
        on of_code _ _ (code tree seen) refl λ parts coded.
        by_parts class (subst (IsLiveClass K) found k) kept tree seen parts coded

  -- what is left, before and after all that nothing supports is dropped

  module _ (u : State Births) (h : Installs u) where
    abbrev C : ℕ → Type 0
    C = Chosen h.plan_in.first h.plan_in.last

    abbrev K' : ℕ → Type 0
    K' = Joins K C (length s.memory) (length h.plan.objects)

    one_before : z.one < length s.memory
    one_before = object_within s.memory z.one z.one_object holds.guarded.is_one

    other_before : z.other < length s.memory
    other_before = object_within s.memory z.other z.other_object holds.guarded.is_other

    after_install : IsGuarded K' z (length s.memory + length h.plan.objects) u
    after_install =
        (subst (λ o. Kept (λ t. IsGuarded K' z (length s.memory + length h.plan.objects) t) Anything o) h.ran
        (install_keeps K z h.plan h.plan_in (length s.memory) holds.within holds.apart one_before other_before s refl holds.guarded)).1

    shown_by : (o : Transition (State Table) (Unit {0})) (p : Transition (State Births) (Unit {0})) (w : State Births) → p ≡ Went tt w → RunsOn o p → (c : State Table) × Runs c w
    shown_by o (Died k) w e f = cc
    shown_by (Died a) (Went y t) w e f = absurd f
    shown_by (Went x c) (Went y t) w e f = let q : t ≡ w = cc in (c, subst (λ v. Runs c v) q f)

    before : (c : State Table) × Runs c u
    before = shown_by _ _ u h.ran (install_shows h.plan holds.table s holds.runs h.is_ready)

    left : (c : State Table) × Runs c (reclaim births u)
    left = shown_by _ _ (reclaim births u) (ap (settled_after births) h.ran) (install_settles h.plan holds.table s holds.runs h.is_ready)

    abbrev keep : ℕ → Bool
    keep = settled_set births u.memory (roots_of u)

    abbrev t : State Births
    t = reclaim births u

    settled : t.memory ≡ settled_births u.memory keep
    unfolding reclaim
    settled = refl

    same_object : (n : ℕ) → object_born t.memory n ≡ object_born u.memory n
    same_object n = ap (λ m. object_born m n) settled ∙ object_born-settled u.memory keep n

    same_bearer : (q : PageObject) → bearer t.memory (place_of q) ≡ bearer u.memory (place_of q)
    same_bearer q =
        let now = left.1.shows.page q in
        let n = bearer t.memory (place_of q) in
        let old = (settled-borne u.memory keep n (place_of q) (subst (λ m. borne m n ≡ Some (place_of q)) settled now)).0 in
        before.1.shows.distinct n (bearer u.memory (place_of q)) (place_of q) old (before.1.shows.page q)

    same_rest : (t.registers ≡ u.registers) × (t.world ≡ u.world) × (t.head ≡ u.head)
    unfolding reclaim
    same_rest = (refl, refl, refl)

    same_length : length t.memory ≡ length u.memory
    same_length = ap length settled ∙ length-settled u.memory keep

    pub holds_on : Holds z t
    holds_on =
        let g = after_install in
        record {
          among = K';
          guarded = record {
            leads = record {
              objects = λ n o k e. g.leads.objects n o k (sym (same_object n) ∙ e);
              page = λ q o. subst (λ m. K' m) (sym (same_bearer q)) (g.leads.page q o);
            };
            is_one = same_object z.one ∙ g.is_one;
            is_other = same_object z.other ∙ g.is_other;
            page = λ q. same_bearer q ∙ g.page q;
            below = λ q. borne_before t.memory (bearer t.memory (place_of q)) (place_of q) (left.1.shows.page q);
            long = omega arith;
            registers = same_rest.0 ∙ g.registers;
            world = same_rest.1 ∙ g.world;
            head = same_rest.2 ∙ g.head;
          };
          within = λ n k. (
              let l = within_up K z h.plan h.plan_in (length s.memory) holds.within holds.apart one_before other_before n k in
              let m = g.long in
              let e = same_length in
              omega (arith, l, m, e));
          apart = λ n k. apart_up K z h.plan h.plan_in (length s.memory) holds.within holds.apart one_before other_before n k;
          globals = option_up z.head.globals holds.globals;
          symbols = option_up z.head.symbols holds.symbols;
          table = left.0;
          runs = left.1;
        }
      where
        option_up : (x : Option Value) → IsLiveOption K x → IsLiveOption K' x
        option_up None l = tt
        option_up (Some (Small n)) l = tt
        option_up (Some (Ref n)) l = inl l

-- AN INSTALLATION that is accepted

pub accepted : (z : Fixed) (s : State Births) (d : Definition) (selector : List ℕ) (t : State Births) → Holds z s → installed d s ≡ Accepted selector t → Holds z t
unfolding installed
accepted z s d selector t holds e = by_outcome ((define births s.head d).run s) refl e
  where
    by_outcome : (o : Transition (State Births) (Result (List ℕ) Refusal)) → (define births s.head d).run s ≡ o → outcome_of o ≡ Accepted selector t → Holds z t
    by_outcome (Died cause) f g = cc
    by_outcome (Went (Err why) u) f g = cc
    by_outcome (Went (Ok name) u) f g =
        let q : reclaim births u ≡ t = cc in
        subst (Holds z) q (holds_on z s holds d name u (defined z s holds d name u f))
