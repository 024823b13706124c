-- Of the lists of those that are ready the highest that has a process, list by list.
use Rattle.std.proofs.Common.{◌≡◌, ℕ, zero, suc, ◌<◌, ◌-◌, Bool, true, false, refl, sym, ◌∙◌, arith}
use Rattle.std.specs.Prelude.{if◌then◌else◌}
use Rattle.st_model.specs.declared.dead.Dead.{Dead}
use Rattle.st_model.specs.declared.dead.Dead.TheVariants as dead
use Rattle.st_model.specs.Values.{Value}
use Rattle.st_model.specs.declared.page.PageObject.TheVariants.{NilObject}
use Rattle.st_model.specs.Machine.{ObjectMemory, State, Transition, Died, Went, answer, die, after, ◌>>=◌}
use Rattle.st_model.specs.Table.{Table}
use Rattle.st_model.specs.Steps.{of_page, same_value, fetch_field, count_fields}
use Rattle.st_model.specs.Processes.{ready_lists, go_on_with, highest_goes_on, suspend}
use Rattle.st_process.specs.inside.Scheduling.{is_empty, highest_list}

after_after : {S A B C : Type 0} (x : Transition S A) (f : A → S → Transition S B) (g : B → S → Transition S C) → after (after x f) g ≡ after x (λ a s. after (f a s) g)
unfolding after
after_after (Died k) f g = refl
after_after (Went a s) f g = refl

after_each : {S A B : Type 0} (x : Transition S A) (f g : A → S → Transition S B) → ((a : A) (s : S) → f a s ≡ g a s) → after x f ≡ after x g
unfolding after
after_each (Died k) f g h = refl
after_each (Went a s) f g h = h a s

module _ (m : ObjectMemory Table) (lists : Value) where
  chosen : (n : ℕ) (l : Value) (b : Bool) (s : State Table) → (highest_goes_on m lists n).run s ≡ after ((highest_list m lists n).run s) (λ x t. (go_on_with m x).run t)
      → (if b then highest_goes_on m lists n else go_on_with m l).run s ≡ after ((if b then highest_list m lists n else answer l).run s) (λ x t. (go_on_with m x).run t)
  unfolding after answer
  chosen n l true s h = h
  chosen n l false s h = refl

  -- a list is looked at, and what follows goes by whether it is empty
  looked : {B : Type 0} (l : Value) (s : State Table) (f : Bool → State Table → Transition (State Table) B)
      → after ((fetch_field m l 0).run s) (λ first t. after ((of_page m NilObject).run t) (λ nil u. f (same_value first nil) u)) ≡ after ((is_empty m l).run s) f
  unfolding is_empty ◌>>=◌ after answer
  looked l s f =
      sym (after_after ((fetch_field m l 0).run s) (λ first t. after ((of_page m NilObject).run t) (λ nil u. Went (same_value first nil) u)) f
      ∙ after_each ((fetch_field m l 0).run s) _ _ (λ first t. after_after ((of_page m NilObject).run t) (λ nil u. Went (same_value first nil) u) f))

  goes_on : ℕ → Value → Bool → State Table → Transition (State Table) (Unit {0})
  goes_on n l b s = (if b then highest_goes_on m lists n else go_on_with m l).run s

  finds : ℕ → Value → Bool → State Table → Transition (State Table) Value
  finds n l b s = (if b then highest_list m lists n else answer l).run s

  then_goes_on : Value → State Table → Transition (State Table) (Unit {0})
  then_goes_on x s = (go_on_with m x).run s

  -- it is found, and then its first process goes on
  pub highest-then : (n : ℕ) (s : State Table) → (highest_goes_on m lists n).run s ≡ after ((highest_list m lists n).run s) (λ x t. (go_on_with m x).run t)
  unfolding highest_goes_on highest_list ◌>>=◌ after die goes_on finds then_goes_on
  highest-then zero s = refl
  highest-then (suc n) s =
      after_each ((fetch_field m lists n).run s) _ (λ l t. after (after ((is_empty m l).run t) (finds n l)) then_goes_on) (λ l t.
      looked l t (goes_on n l)
      ∙ (after_each ((is_empty m l).run t) (goes_on n l) (λ b u. after (finds n l b u) then_goes_on) (λ b u. chosen n l b u (highest-then n u))
      ∙ sym (after_after ((is_empty m l).run t) (finds n l) then_goes_on)))
      ∙ sym (after_after ((fetch_field m lists n).run s) (λ l t. after ((is_empty m l).run t) (finds n l)) then_goes_on)

pub suspend-by : (m : ObjectMemory Table) (s : State Table)
    → (suspend m).run s ≡ after ((ready_lists m).run s) (λ lists t. after ((count_fields m lists).run t) (λ n u. after ((highest_list m lists n).run u) (λ l w. (go_on_with m l).run w)))
unfolding suspend ◌>>=◌
suspend-by m s = after_each ((ready_lists m).run s) _ _ (λ lists t. after_each ((count_fields m lists).run t) _ _ (λ n u. highest-then m lists n u))

pub ruleset suspends = (suspend-by)

-- the lists from one on were seen to be empty
pub record Left (m : ObjectMemory Table) (lists : Value) (n left : ℕ) (t : Table) : Type 0 where
  pub same : (s : State Table) → s.memory ≡ t → (highest_list m lists n).run s ≡ (highest_list m lists left).run s

module _ (m : ObjectMemory Table) (lists : Value) (n left : ℕ) (t : Table) where
  pub all_left : Left m lists n n t
  all_left = record { same = λ s e. refl }

  pub none_left : Left m lists n left t → left ≡ 0 → (s : State Table) → s.memory ≡ t → (highest_list m lists n).run s ≡ Died dead.Idle
  unfolding highest_list die
  none_left h e s q = h.same s q ∙ rw e refl

  pub list-died : (k : Dead) → Left m lists n left t → 0 < left → ((s : State Table) → s.memory ≡ t → (fetch_field m lists (left - 1)).run s ≡ Died k)
      → (s : State Table) → s.memory ≡ t → (highest_list m lists n).run s ≡ Died k
  unfolding highest_list ◌>>=◌ after
  list-died k h l f s q = h.same s q ∙ by left l (f s q)
    where
      by : (i : ℕ) → 0 < i → (fetch_field m lists (i - 1)).run s ≡ Died k → (highest_list m lists i).run s ≡ Died k
      by zero l f = absurd (omega (arith, l))
      by (suc i) l f = let e : suc i - 1 ≡ i = omega arith in let g : (fetch_field m lists i).run s ≡ Died k = rw e at f in rw g refl

  pub first-died : (k : Dead) (x : Value) → Left m lists n left t → 0 < left → ((s : State Table) → s.memory ≡ t → (fetch_field m lists (left - 1)).run s ≡ Went x s)
      → ((s : State Table) → s.memory ≡ t → (is_empty m x).run s ≡ Died k) → (s : State Table) → s.memory ≡ t → (highest_list m lists n).run s ≡ Died k
  unfolding highest_list ◌>>=◌ after
  first-died k x h l f d s q = h.same s q ∙ by left l (f s q) (d s q)
    where
      by : (i : ℕ) → 0 < i → (fetch_field m lists (i - 1)).run s ≡ Went x s → (is_empty m x).run s ≡ Died k → (highest_list m lists i).run s ≡ Died k
      by zero l f d = absurd (omega (arith, l))
      by (suc i) l f d = let e : suc i - 1 ≡ i = omega arith in let g : (fetch_field m lists i).run s ≡ Went x s = rw e at f in rw (g, d) refl

  pub list-found : (x : Value) → Left m lists n left t → 0 < left → ((s : State Table) → s.memory ≡ t → (fetch_field m lists (left - 1)).run s ≡ Went x s)
      → ((s : State Table) → s.memory ≡ t → (is_empty m x).run s ≡ Went false s) → (s : State Table) → s.memory ≡ t → (highest_list m lists n).run s ≡ Went x s
  unfolding highest_list ◌>>=◌ after answer
  list-found x h l f d s q = h.same s q ∙ by left l (f s q) (d s q)
    where
      by : (i : ℕ) → 0 < i → (fetch_field m lists (i - 1)).run s ≡ Went x s → (is_empty m x).run s ≡ Went false s → (highest_list m lists i).run s ≡ Went x s
      by zero l f d = absurd (omega (arith, l))
      by (suc i) l f d = let e : suc i - 1 ≡ i = omega arith in let g : (fetch_field m lists i).run s ≡ Went x s = rw e at f in rw (g, d) refl

  pub list-passed : (x : Value) → Left m lists n left t → 0 < left → ((s : State Table) → s.memory ≡ t → (fetch_field m lists (left - 1)).run s ≡ Went x s)
      → ((s : State Table) → s.memory ≡ t → (is_empty m x).run s ≡ Went true s) → Left m lists n (left - 1) t
  unfolding highest_list ◌>>=◌ after
  list-passed x h l f d = record { same = λ s q. h.same s q ∙ by s left l (f s q) (d s q) }
    where
      by : (s : State Table) (i : ℕ) → 0 < i → (fetch_field m lists (i - 1)).run s ≡ Went x s → (is_empty m x).run s ≡ Went true s → (highest_list m lists i).run s ≡ (highest_list m lists (i - 1)).run s
      by s zero l f d = absurd (omega (arith, l))
      by s (suc i) l f d = let e : suc i - 1 ≡ i = omega arith in let g : (fetch_field m lists i).run s ≡ Went x s = rw e at f in rw (g, d, e) refl
