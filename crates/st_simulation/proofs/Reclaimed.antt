-- What both reclaim after a step: the table shows the births again, and what an outcome names is kept.
use Rattle.std.proofs.Common.{◌≡◌, ℕ, ◌<◌, refl, ap, subst, length, ◌∙◌}
use Rattle.std.specs.Prelude.{IsTrue}
use mathlib.Core.Path.{fun_ext}
use Rattle.st_model.specs.Values.{Value, Small, Ref, renamed, IsLive}
use Rattle.st_model.specs.Outcomes.{Outcome, renamed_outcome, IsLiveOutcome}
use Rattle.st_model.specs.Outcomes as outcome
use Rattle.st_model.specs.Machine.{State, roots_of}
use Rattle.st_model.specs.Births.{Births, births, borne, settled_births, pointer_of}
use Rattle.st_model.specs.Table.{Table, table}
use Rattle.st_model.specs.Show.{Shows, IsClosed, IsUsed, IsKept}
use Rattle.st_model.specs.Settled.{Reclaimed, with_memory, settled_set, reclaim}
use Rattle.st_simulation.proofs.Same.{StateSame}
use Rattle.st_model.proofs.BirthLemmas.{borne_before}
use Rattle.st_model.proofs.SettledLemmas.{some_is}
use Rattle.st_simulation.proofs.HeapsSame.{Naming, cycle_simulation}
use Rattle.st_simulation.proofs.Ended.{reclaimed}
use Rattle.st_model.proofs.SettledIs.{settled_is, settled_once}
use Rattle.st_model.proofs.Reclaiming.{table_finite}

births_finite : (s : State Births) (n : ℕ) → IsTrue (births.kept s.memory n) → n < length s.memory
births_finite s n h = let p = some_is (borne s.memory n) h in borne_before s.memory n p.0 p.1

reclaimed_is : (u t : State Births) → Reclaimed births u t → t ≡ reclaim births u
unfolding reclaim
reclaimed_is u t r =
    let e : r.set ≡ settled_set births u.memory (roots_of u) = fun_ext (settled_once births u.memory (roots_of u) r.set (settled_set births u.memory (roots_of u)) r.is_settled (settled_is births u.memory (roots_of u) (births_finite u))) in
    r.is ∙ ap (λ set. with_memory u (settled_births u.memory set)) e

reclaim_table : (c : State Table) → Reclaimed table c (reclaim table c)
unfolding reclaim
reclaim_table c = record { set = settled_set table c.memory (roots_of c); is_settled = settled_is table c.memory (roots_of c) (table_finite c.memory); is = refl }

-- an outcome's name is the pointer of what it names, which is kept
value_shown : (w : Naming) (d : State Table) (t : State Births) (v : Value)
    → ((n : ℕ) → w.live n → IsUsed d.memory (w.name n) → (w.name n ≡ pointer_of t.memory n) × IsKept t.memory n)
    → IsLive w.live v → IsLive (IsUsed d.memory) (renamed w.name v) → (renamed w.name v ≡ renamed (pointer_of t.memory) v) × IsLive (IsKept t.memory) v
value_shown w d t (Small n) f l u = (refl, tt)
value_shown w d t (Ref n) f l u = let k = f n l u in (ap (λ x. Ref x) k.0, k.1)

outcome_shown : (w : Naming) (d : State Table) (t : State Births) (o : Outcome)
    → ((n : ℕ) → w.live n → IsUsed d.memory (w.name n) → (w.name n ≡ pointer_of t.memory n) × IsKept t.memory n)
    → IsLiveOutcome w.live o → IsLiveOutcome (IsUsed d.memory) (renamed_outcome w.name o)
    → (renamed_outcome w.name o ≡ renamed_outcome (pointer_of t.memory) o) × IsLiveOutcome (IsKept t.memory) o
outcome_shown w d t outcome.Went f l u = (refl, tt)
outcome_shown w d t outcome.Snapshot f l u = (refl, tt)
outcome_shown w d t outcome.Quit f l u = (refl, tt)
outcome_shown w d t outcome.Debugger f l u = (refl, tt)
outcome_shown w d t (outcome.Say v) f l u = let k = value_shown w d t v f l u in (ap (λ x. outcome.Say x) k.0, k.1)

-- a step that went is followed by reclaiming
pub went_step : (w : Naming) (d : State Table) (u : State Births) (o : Outcome) → StateSame (cycle_simulation w) u d → IsLiveOutcome w.live o → IsClosed (reclaim table d)
    → IsLiveOutcome (IsUsed (reclaim table d).memory) (renamed_outcome w.name o)
    → (renamed_outcome w.name o ≡ renamed_outcome (pointer_of (reclaim births u).memory) o) × Shows (reclaim table d) (reclaim births u) × IsLiveOutcome (IsKept (reclaim births u).memory) o
went_step w d u o same live closed used =
    let r = reclaimed w u d same (reclaim table d) (reclaim_table d) closed in
    let e = reclaimed_is u r.0 r.1 in
    let k = outcome_shown w (reclaim table d) r.0 o r.3 live used in (
      subst (λ (t : State Births). renamed_outcome w.name o ≡ renamed_outcome (pointer_of t.memory) o) e k.0,
      subst (λ t. Shows (reclaim table d) t) e r.2,
      subst (λ (t : State Births). IsLiveOutcome (IsKept t.memory) o) e k.1,
    )
