-- Superclass chains, class after class.
use Rattle.std.proofs.Common.{◌≡◌, ◌≢◌, ℕ, ◌-◌, zero, suc, List, [], ◌∷◌, ◌++◌, Bool, true, false, Ok, Err, refl, sym, ap, ◌∙◌, subst, arith}
use Rattle.std.specs.Prelude.{◌==◌, ◌/◌, ◌%◌, if◌then◌else◌}
use Rattle.std.proofs.lemmas.Bool.Decides.{nat_tests}
use Rattle.std.proofs.lemmas.List.{append_assoc, append-nil, map-append}
use Rattle.st_model.specs.declared.dead.Dead.{Dead}
use Rattle.st_model.specs.declared.dead.Dead.TheVariants as dead
use Rattle.st_model.specs.declared.oop.Oop.{Oop}
use Rattle.st_model.specs.Values.{Value, Small, Ref, value_of, value}
use Rattle.st_model.specs.Machine.{State, Transition, Went, Died, Step, after, answer, die, ◌>>=◌}
use Rattle.st_model.specs.Steps.{of_page, same_value}
use Rattle.st_model.specs.Table.{Table, table}
use Rattle.st_model.specs.inside.Calls.{Reads}
use Rattle.st_model.proofs.Runs.{run-then, after-went, after-died}
use Rattle.st_scope.specs.Classes.{superclass, class_and, none_if, until_nil, chain_within, chain}
use Rattle.st_scope.specs.inside.Meanings.{values}

pub nil_if : (w : ℕ) (b : Bool) → (w % 2 == 1) ≡ b → w ≡ 2 → same_value (if b then Small (w / 2) else Ref (w / 2)) (Ref 1) ≡ true
nil_if w true e q = let z : w % 2 ≡ 1 = grind (arith, nat_tests) in absurd (omega (arith, z, q))
nil_if w false e q = let z : w / 2 ≡ 1 = omega (arith, q) in rw z refl

pub other_if : (w : ℕ) (b : Bool) → (w % 2 == 1) ≡ b → w ≢ 2 → same_value (if b then Small (w / 2) else Ref (w / 2)) (Ref 1) ≡ false
other_if w true e q = refl
other_if w false e q = let z : w % 2 ≢ 1 = grind (arith, nat_tests) in let n : w / 2 ≢ 1 = λ h. q (omega (arith, z, h)) in grind (arith, nat_tests)

pub is_nil : (o : Oop) → o.0 ≡ 2 → same_value (value o) (Ref 1) ≡ true
unfolding value_of
is_nil o q = nil_if o.0 (o.0 % 2 == 1) refl q

pub is_other : (o : Oop) → o.0 ≢ 2 → same_value (value o) (Ref 1) ≡ false
unfolding value_of
is_other o q = other_if o.0 (o.0 % 2 == 1) refl q

pub ruleset nils = (is_nil, is_other)

-- classes that were passed, and what comes behind them
abbrev pub behind : List Value → Transition (State Table) (List Value) → Transition (State Table) (List Value)
behind passed x = after x (λ classes s. Went (passed ++ classes) s)

-- the whole chain is the classes that were passed and the chain from one on, with so many that may still come
pub record LeftChain (least : ℕ) (first : Value) (left : ℕ) (class : Value) (passed : List Value) (t : Table) : Type 0 where
  pub same : (s : State Table) → s.memory ≡ t → (chain table least first).run s ≡ behind passed ((chain_within table least left class).run s)

pub behind_none : (x : Transition (State Table) (List Value)) → x ≡ behind [] x
unfolding after
behind_none (Died k) = refl
behind_none (Went classes s) = refl

module _ (least : ℕ) (first : Value) (t : Table) where
  pub chain_begins : LeftChain least first 32767 first [] t
  unfolding chain
  chain_begins = record { same = λ s f. behind_none ((chain_within table least 32767 first).run s) }

  nil_ends : (b : Bool) (rest : Step Table (List Value)) (s : State Table) → b ≡ true → (none_if b rest).run s ≡ Went [] s
  unfolding none_if answer
  nil_ends b rest s e = rw e refl

  goes_on : (b : Bool) (rest : Step Table (List Value)) (s : State Table) → b ≡ false → (none_if b rest).run s ≡ rest.run s
  unfolding none_if
  goes_on b rest s e = rw e refl

  within_nil : (left : ℕ) (class : Oop) (s : State Table) → class.0 ≡ 2 → (chain_within table least left (value class)).run s ≡ Went [] s
  unfolding chain_within until_nil of_page ◌>>=◌ after
  within_nil zero class s q = nil_ends _ _ s (is_nil class q)
  within_nil (suc left) class s q = nil_ends _ _ s (is_nil class q)

  within_none : (class : Oop) (s : State Table) → class.0 ≢ 2 → (chain_within table least 0 (value class)).run s ≡ Died dead.Chain
  unfolding chain_within until_nil of_page ◌>>=◌ after die
  within_none class s q = goes_on _ _ s (is_other class q)

  within_more : (left : ℕ) (class : Oop) (s : State Table) → class.0 ≢ 2 → (chain_within table least (suc left) (value class)).run s ≡ (class_and table least (value class) (chain_within table least left)).run s
  unfolding chain_within until_nil of_page ◌>>=◌ after
  within_more left class s q = goes_on _ _ s (is_other class q)

  behind_died : (passed : List Value) (k : Dead) → behind passed (Died k) ≡ Died k
  unfolding after
  behind_died passed k = refl

  module _ (left : ℕ) (class : Oop) (passed : List Value) (h : LeftChain least first left (value class) passed t) where
    pub chain_ends : (s : State Table) → s.memory ≡ t → class.0 ≡ 2 → (chain table least first).run s ≡ Went passed s
    unfolding after
    chain_ends s f q = h.same s f ∙ (ap (behind passed) (within_nil left class s q) ∙ ap (λ xs. Went xs s) (append-nil passed))

    pub chain_too_long : (s : State Table) → s.memory ≡ t → class.0 ≢ 2 → left ≡ 0 → (chain table least first).run s ≡ Died dead.Chain
    chain_too_long s f q z = h.same s f ∙ (ap (λ n. behind passed ((chain_within table least n (value class)).run s)) z ∙ (ap (behind passed) (within_none class s q) ∙ behind_died passed dead.Chain))

    more : (s : State Table) → s.memory ≡ t → class.0 ≢ 2 → left ≢ 0 → (chain table least first).run s ≡ behind passed ((class_and table least (value class) (chain_within table least (left - 1))).run s)
    more s f q z =
        let n : left ≡ suc (left - 1) = omega (arith, z) in
        h.same s f ∙ (ap (λ k. behind passed ((chain_within table least k (value class)).run s)) n ∙ ap (behind passed) (within_more (left - 1) class s q))

    pub chain_dies : (k : Dead) (s : State Table) → s.memory ≡ t → class.0 ≢ 2 → left ≢ 0 → Reads (superclass table least (value class)) value t (Err k) → (chain table least first).run s ≡ Died k
    unfolding class_and
    chain_dies k s f q z r = more s f q z ∙ (ap (behind passed) (simp (run-then, r s f, after-died) refl) ∙ behind_died passed k)

    behind_more : (x : Transition (State Table) (List Value)) → behind passed (after x (λ classes s. (answer (value class ∷ classes)).run s)) ≡ behind (passed ++ value class ∷ []) x
    unfolding after answer
    behind_more (Died k) = refl
    behind_more (Went classes s) = ap (λ xs. Went xs s) (sym (append_assoc passed (value class ∷ []) classes))

    pub chain_more : (above : Oop) → class.0 ≢ 2 → left ≢ 0 → Reads (superclass table least (value class)) value t (Ok above) → LeftChain least first (left - 1) (value above) (passed ++ value class ∷ []) t
    unfolding class_and
    chain_more above q z r = record { same = λ s f. more s f q z ∙ (ap (behind passed) (simp (run-then, r s f, after-went) refl) ∙ behind_more ((chain_within table least (left - 1) (value above)).run s)) }

-- the classes as they are listed
pub chain_pushed : (least : ℕ) (first : Value) (t : Table) (left : ℕ) (class above : Oop) (os : List Oop) → LeftChain least first left (value class) (values os) t → class.0 ≢ 2 → left ≢ 0
    → Reads (superclass table least (value class)) value t (Ok above) → LeftChain least first (left - 1) (value above) (values (os ++ class ∷ [])) t
chain_pushed least first t left class above os h q z r =
    subst (λ vs. LeftChain least first (left - 1) (value above) vs t) (sym (map-append value os (class ∷ []))) (chain_more least first t left class (values os) h above q z r)
