-- A walk that is over stays over with more instructions, so a code has one walk.
use Rattle.std.proofs.Common.{◌≡◌, ℕ, zero, suc, ◌+◌, ◌-◌, ◌≤◌, ◌==◌, Bool, true, false, List, ◌∷◌, drop, Option, Some, None, sym, ◌∙◌, subst, ⊎_elim, arith}
use Rattle.std.specs.Prelude.{if◌then◌else◌}
use Rattle.std.proofs.lemmas.Bool.{cases_lt}
use Rattle.st_emit.specs.Literals.{LiteralView}
use Rattle.st_resolved.specs.declared.reading.Found.{Found}
use Rattle.st_resolved.specs.Instructions.{instruction}
use Rattle.st_meaning.specs.declared.deed.Variable.{Variable}
use Rattle.st_meaning.specs.declared.deed.Value.{Value}
use Rattle.st_meaning.specs.declared.deed.Value.TheVariants as values
use Rattle.st_meaning.specs.inside.Runs.{Going, Outcome, went, over, long, stuck, unfinished, Run, then_go, ◌>>=◌, answer_to, make_block, assign_to, jump_back, decide}
use Rattle.st_meaning.specs.inside.Codes.{Walked, walk_code}
use Rattle.st_meaning.specs.inside.Codes as codes
use Rattle.st_meaning.specs.inside.Walks.{Next, values_at, on_boolean, done, act_found, walk}
use Rattle.st_meaning.specs.inside.Meanings.{IsEnded}

-- a walk that is over, too long, or stuck
abbrev pub IsDone : Outcome Value → Type 0
IsDone (went v g) = ⊥
IsDone (over d) = Unit {0}
IsDone long = Unit {0}
IsDone (stuck d) = Unit {0}
IsDone unfinished = ⊥

pub ended_done : (o : Outcome Value) → IsEnded o → IsDone o
ended_done (went v g) i = i
ended_done (over d) i = tt
ended_done long i = tt
ended_done (stuck d) i = tt
ended_done unfinished i = i

-- where one run is over, the other is over too, in the same way
abbrev Extends : Run Value → Run Value → Type 0
Extends f f' = (g : Going) (p : Outcome Value) → IsDone p → f g ≡ p → f' g ≡ p

abbrev NextExtends : Next → Next → Type 0
NextExtends f f' = (at : ℕ) (s : List Value) → Extends (f at s) (f' at s)

then_extends : {A : Type 0} (m : Run A) (k k' : A → Run Value) → ((x : A) → Extends (k x) (k' x)) → Extends (m >>= k) (m >>= k')
then_extends m k k' h g p i e = by_outcome (m g) e
  where
    by_outcome : (o : Outcome _) → then_go o k ≡ p → then_go o k' ≡ p
    by_outcome (went x g') e = h x g' p i e
    by_outcome (over d) e = e
    by_outcome long e = e
    by_outcome (stuck d) e = e
    by_outcome unfinished e = e

module _ (most : ℕ) (literals : List LiteralView) where
  decide_extends : (v : Value) (a b a' b' : Run Value) → Extends a a' → Extends b b' → Extends (decide most v a b) (decide most v a' b')
  decide_extends (values.Constant (suc zero)) a b a' b' h j g p i e = h g p i e
  decide_extends (values.Constant (suc (suc zero))) a b a' b' h j g p i e = j g p i e
  decide_extends (values.Constant zero) a b a' b' h j g p i e = e
  decide_extends (values.Constant (suc (suc (suc n)))) a b a' b' h j g p i e = e
  decide_extends (values.Number z) a b a' b' h j g p i e = e
  decide_extends (values.First q) a b a' b' h j g p i e = e
  decide_extends (values.Literal n) a b a' b' h j g p i e = e
  decide_extends (values.Block n) a b a' b' h j g p i e = e
  decide_extends (values.Answer n) a b a' b' h j g p i e = e

  boolean_extends : (on : Bool) (v : Value) (a b a' b' : Run Value) → Extends a a' → Extends b b' → Extends (on_boolean most on v a b) (on_boolean most on v a' b')
  boolean_extends true v a b a' b' h j = decide_extends v a b a' b' h j
  boolean_extends false v a b a' b' h j = decide_extends v b a b' a' j h

  back_extends : (a a' : Run Value) → Extends a a' → Extends (jump_back most a) (jump_back most a')
  unfolding jump_back
  back_extends a a' h g p i e = by_test (g.backs == most) e
    where
      by_test : (b : Bool) → (if b then long else a (record g { backs = g.backs + 1 })) ≡ p → (if b then long else a' (record g { backs = g.backs + 1 })) ≡ p
      by_test true e = e
      by_test false e = h (record g { backs = g.backs + 1 }) p i e

  done_extends : (w : Walked Variable Value) (f f' : Next) (at : ℕ) → NextExtends f f' → Extends (done most w f at) (done most w f' at)
  done_extends (codes.went s) f f' at h = h at s
  done_extends (codes.stored q v s) f f' at h = then_extends (assign_to most q v) (λ w. f at s) (λ w. f' at s) (λ w. h at s)
  done_extends (codes.sent r text arguments above s) f f' at h = then_extends (answer_to most r text arguments above) (λ v. f at (v ∷ s)) (λ v. f' at (v ∷ s)) (λ v. h at (v ∷ s))
  done_extends (codes.copied s) f f' at h = then_extends (make_block most) (λ v. f at (v ∷ s)) (λ v. f' at (v ∷ s)) (λ v. h at (v ∷ s))
  done_extends (codes.returned v) f f' at h = λ g p i e. e
  done_extends (codes.ahead d s) f f' at h = h (at + d) s
  done_extends (codes.aback d s) f f' at h = back_extends (f (at - d) s) (f' (at - d) s) (h (at - d) s)
  done_extends (codes.tested on v d s) f f' at h = boolean_extends on v (f (at + d) s) (f at s) (f' (at + d) s) (f' at s) (h (at + d) s) (h at s)
  done_extends codes.stuck f f' at h = λ g p i e. e

  found_extends : (o : Option Found) (f f' : Next) (at : ℕ) (s : List Value) → NextExtends f f' → Extends (act_found most literals o f at s) (act_found most literals o f' at s)
  found_extends None f f' at s h = λ g p i e. e
  found_extends (Some x) f f' at s h = λ g p i e. done_extends (walk_code (values_at literals g) x.step s) f f' (at + x.size) h g p i e

  -- more instructions change nothing of a walk that is over
  pub longer : (bytes : List ℕ) (m n : ℕ) → m ≤ n → NextExtends (walk most literals bytes m) (walk most literals bytes n)
  unfolding walk
  longer bytes zero n le at s g p i e = absurd (subst IsDone (sym e) i)
  longer bytes (suc m) zero le at s g p i e = absurd (omega arith)
  longer bytes (suc m) (suc n) le at s g p i e =
      found_extends (instruction (drop at bytes)) (walk most literals bytes m) (walk most literals bytes n) at s (longer bytes m n (omega arith)) g p i e

  -- so two ends of a walk are one
  pub one_end : (bytes : List ℕ) (m n at : ℕ) (s : List Value) (g : Going) (p q : Outcome Value) → IsDone p → IsDone q → walk most literals bytes m at s g ≡ p → walk most literals bytes n at s g ≡ q → p ≡ q
  one_end bytes m n at s g p q i j e f =
      ⊎_elim (λ lt. sym (longer bytes m n (omega arith) at s g p i e) ∙ f) (λ le. sym e ∙ longer bytes n m le at s g q j f) (cases_lt m n)
