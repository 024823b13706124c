-- What a call answered over a table, it answers over the births that the table shows: with this a caller goes from one to the other.
use Rattle.std.proofs.Common.{◌≡◌, ℕ, List, Bool, Result, Ok, Err, refl, sym, ap, ◌∙◌, subst}
use Rattle.st_model.specs.declared.dead.Dead.{Dead}
use Rattle.st_model.specs.Values.{Value, renamed, IsLive}
use Rattle.st_model.specs.Machine.{State, Transition, Died, Went, Step}
use Rattle.st_model.specs.Births.{Births, births}
use Rattle.st_model.specs.Table.{Table, table, bounded_table}
use Rattle.st_model.specs.Settled.{reclaim}
use Rattle.st_model.specs.Saving.{settled_after}
use Rattle.st_model.specs.Show.{pointer_of, IsKept, Shows}
use Rattle.st_simulation.specs.inside.Laws.{Runs}
use Rattle.st_scan.specs.Views.{MethodView}
use Rattle.st_emit.specs.Names.{NamesView}
use Rattle.st_code.specs.Methods.{PartsView}
use Rattle.st_scope.specs.declared.fault.InstallFault.{InstallFault}
use Rattle.st_install.specs.Plans.{Plan}
use Rattle.st_scope.specs.Calls.{class_of_name, names}
use Rattle.st_install.specs.Calls.{ready}
use Rattle.st_install.specs.Installing.{install}
use Rattle.st_install.specs.inside.SamePlans.{renamed_class, IsLiveClass, renamed_ready, IsLiveReady, renamed_plan}
use Rattle.st_install.specs.inside.Same.{AnswersAlike, RunsOn, HasHeader, IsReady}
use Rattle.st_install.proofs.SameCalls.{class_shows, names_show, ready_shows}
use Rattle.st_install.proofs.SameInstalls.{install_shows, install_settles}

-- it is the births' answer, with names written as pointers
written_is : {A : Type 0} (lives : (ℕ → Type 0) → A → Type 0) (written : (ℕ → ℕ) → A → A) (n : Step Table A) (m : Step Births A) (c : State Table) (s : State Births) (a : A)
    (h : AnswersAlike lives written n m c s) → n.run c ≡ Went a c → a ≡ written (pointer_of s.memory) h.answer
written_is lives written n m c s a h e = let k = h.shown in let q : Went a c ≡ Went (written (pointer_of s.memory) h.answer) c = sym e ∙ k in cc

class_back : (f : ℕ → ℕ) (w : Value) (a : Result Value InstallFault) → Ok w ≡ renamed_class f a → (v : Value) × (a ≡ Ok v) × (w ≡ renamed f v)
class_back f w (Ok v) e = (v, refl, cc)
class_back f w (Err x) e = cc

class_fault_back : (f : ℕ → ℕ) (fault : InstallFault) (a : Result Value InstallFault) → Err fault ≡ renamed_class f a → a ≡ Err fault
class_fault_back f fault (Ok v) e = cc
class_fault_back f fault (Err x) e = cc

ready_back : (f : ℕ → ℕ) (q : Plan) (a : Result Plan InstallFault) → Ok q ≡ renamed_ready f a → (p : Plan) × (a ≡ Ok p) × (q ≡ renamed_plan f p)
ready_back f q (Ok p) e = let k : q ≡ renamed_plan f p = cc in (p, refl, k)
ready_back f q (Err x) e = cc

ready_fault_back : (f : ℕ → ℕ) (fault : InstallFault) (a : Result Plan InstallFault) → Err fault ≡ renamed_ready f a → a ≡ Err fault
ready_fault_back f fault (Ok p) e = cc
ready_fault_back f fault (Err x) e = cc

module _ (c : State Table) (s : State Births) (shows : Shows c s) where
  pub record ClassBorn (name : List ℕ) (meta : Bool) (w : Value) : Type 0 where
    pub class : Value
    pub born : (class_of_name births s.head name meta).run s ≡ Went (Ok class) s
    pub shown : w ≡ renamed (pointer_of s.memory) class
    pub kept : IsLive (IsKept s.memory) class

  pub class_answered : (name : List ℕ) (meta : Bool) (w : Value) → (class_of_name table c.head name meta).run c ≡ Went (Ok w) c → ClassBorn name meta w
  class_answered name meta w e =
      let h = class_shows name meta c s shows in
      let r = class_back (pointer_of s.memory) w h.answer (written_is IsLiveClass renamed_class _ _ c s (Ok w) h e) in
      record {
        class = r.0;
        born = subst (λ a. (class_of_name births s.head name meta).run s ≡ Went a s) r.1 h.born;
        shown = r.2;
        kept = subst (λ a. IsLiveClass (IsKept s.memory) a) r.1 h.kept;
      }

  pub class_refused : (name : List ℕ) (meta : Bool) (fault : InstallFault) → (class_of_name table c.head name meta).run c ≡ Went (Err fault) c
      → (class_of_name births s.head name meta).run s ≡ Went (Err fault) s
  class_refused name meta fault e =
      let h = class_shows name meta c s shows in
      let r = class_fault_back (pointer_of s.memory) fault h.answer (written_is IsLiveClass renamed_class _ _ c s (Err fault) h e) in
      subst (λ a. (class_of_name births s.head name meta).run s ≡ Went a s) r h.born

  module _ (class : Value) (kept : IsLive (IsKept s.memory) class) where
    pub names_answered : (meta : Bool) (tree : MethodView) (r : Result NamesView InstallFault) → (names table c.head (renamed (pointer_of s.memory) class) meta tree).run c ≡ Went r c
        → (names births s.head class meta tree).run s ≡ Went r s
    names_answered meta tree r e =
        let h = names_show class meta tree c s shows kept in
        let q = written_is _ _ _ _ c s r h e in
        subst (λ a. (names births s.head class meta tree).run s ≡ Went a s) (sym q) h.born

    pub record ReadyBorn (name : List ℕ) (meta : Bool) (parts : PartsView) (q : Plan) : Type 0 where
      pub plan : Plan
      pub is_ready : IsReady plan s
      pub born : (ready births s.head class name meta parts).run s ≡ Went (Ok plan) s
      pub shown : q ≡ renamed_plan (pointer_of s.memory) plan

    pub ready_answered : (name : List ℕ) (meta : Bool) (parts : PartsView) (q : Plan) → HasHeader parts
        → (ready table c.head (renamed (pointer_of s.memory) class) name meta parts).run c ≡ Went (Ok q) c → ReadyBorn name meta parts q
    ready_answered name meta parts q header e =
        let h = ready_shows class name meta parts c s shows kept header in
        let r = ready_back (pointer_of s.memory) q h.answer (written_is IsLiveReady renamed_ready _ _ c s (Ok q) h e) in
        let b = subst (λ a. (ready births s.head class name meta parts).run s ≡ Went a s) r.1 h.born in
        record {
          plan = r.0;
          is_ready = record { class = class; name = name; meta = meta; parts = parts; kept = kept; header = header; ready = b };
          born = b;
          shown = r.2;
        }

    pub ready_refused : (name : List ℕ) (meta : Bool) (parts : PartsView) (fault : InstallFault) → HasHeader parts
        → (ready table c.head (renamed (pointer_of s.memory) class) name meta parts).run c ≡ Went (Err fault) c
        → (ready births s.head class name meta parts).run s ≡ Went (Err fault) s
    ready_refused name meta parts fault header e =
        let h = ready_shows class name meta parts c s shows kept header in
        let r = ready_fault_back (pointer_of s.memory) fault h.answer (written_is IsLiveReady renamed_ready _ _ c s (Err fault) h e) in
        subst (λ a. (ready births s.head class name meta parts).run s ≡ Went a s) r h.born

-- what was installed in the table was installed in the births

pub record InstallBorn (p : Plan) (d : State Table) (s : State Births) : Type 0 where
  pub state : State Births
  pub born : (install births p).run s ≡ Went tt state
  pub runs : Runs d state
  pub settled : Runs (reclaim table d) (reclaim births state)

abbrev state_or : {S A : Type 0} → S → Transition S A → S
state_or s (Died k) = s
state_or s (Went a t) = t

born_so : (p : Plan) (c d : State Table) (s : State Births) (x : Unit {0}) (o : Transition (State Births) (Unit {0})) → Went x c ≡ Went tt d → (install births p).run s ≡ o
    → RunsOn (Went x c) o → RunsOn (settled_after table (Went x c)) (settled_after births o) → InstallBorn p d s
born_so p c d s x (Died k) e f h l = absurd h
born_so p c d s x (Went y u) e f h l =
    let a = ap (state_or d) e in
    record {
      state = u;
      born = f;
      runs = subst (λ z. Runs z u) a h;
      settled = subst (λ z. Runs (reclaim table z) (reclaim births u)) a l;
    }

never_both : (k : Dead) (x : Unit {0}) (d : State Table) → Died k ≡ Went x d → ⊥
never_both k x d e = cc

born_at : (p : Plan) (d : State Table) (s : State Births) (q : Transition (State Table) (Unit {0})) (o : Transition (State Births) (Unit {0})) → q ≡ Went tt d → (install births p).run s ≡ o
    → RunsOn q o → RunsOn (settled_after table q) (settled_after births o) → InstallBorn p d s
born_at p d s (Died k) o e f h l = absurd (never_both k tt d e)
born_at p d s (Went x t) o e f h l = born_so p t d s x o e f h l

pub install_answered : (p : Plan) (c d : State Table) (s : State Births) → Runs c s → IsReady p s → (install bounded_table (renamed_plan (pointer_of s.memory) p)).run c ≡ Went tt d → InstallBorn p d s
install_answered p c d s r k e = born_at p d s _ _ e refl (install_shows p c s r k) (install_settles p c s r k)
