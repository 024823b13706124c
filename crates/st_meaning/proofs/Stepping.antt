-- A walk, one instruction after the other.
use Rattle.std.proofs.Common.{◌≡◌, ℕ, zero, suc, ◌+◌, ◌-◌, ◌*◌, ◌<◌, List, [], length, Some, None, refl, sym, ap, ◌∙◌, subst, arith}
use Rattle.std.specs.Prelude.{Result, Err, IfErr}
use Rattle.st_emit.specs.Selectors.{arity}
use Rattle.st_code.specs.Methods.{PartsView}
use Rattle.st_meaning.specs.declared.deed.Value.{Value}
use Rattle.st_meaning.specs.declared.course.Course.{Course}
use Rattle.st_meaning.specs.inside.Values.{DeedView, AnswerView}
use Rattle.st_meaning.specs.inside.Runs.{Going, Outcome, long, unfinished}
use Rattle.st_meaning.specs.inside.Walks.{walk}
use Rattle.st_meaning.specs.inside.Meanings.{most, start_of, before_all, Walk}
use Rattle.st_meaning.specs.declared.deed.Answer.{Answer}
use Rattle.st_meaning.specs.declared.fault.MeaningFault.{MeaningFault}
use Rattle.st_meaning.specs.declared.fault.MeaningFault.TheVariants.{Long, OutOfMemory}
use Rattle.st_meaning.specs.inside.Deeds.{answers_view, Lists, IsFault}
use Rattle.st_meaning.specs.inside.Courses.{going_view, stack_view, Continues, IsLong, IsTooLong, advances}
use Rattle.st_meaning.proofs.Longer.{IsDone}
use Rattle.st_meaning.proofs.Bounded.{walk_bounded}

-- at most n instructions, from a place on
abbrev pub walk_at : PartsView → (n at : ℕ) → List Value → Course → Outcome Value
walk_at p n at s c = walk most p.literals p.bytes n at (stack_view s) (going_view c)

one_step : (p : PartsView) (n at : ℕ) (s : List Value) (c : Course) → walk_at p (suc n) at s c ≡ advances p at s c (walk most p.literals p.bytes n)
unfolding walk
one_step p n at s c = refl

pub goes_on : (p : PartsView) (n at to : ℕ) (s t : List Value) (c d : Course) (o : Outcome Value)
    → 0 < n → Continues (advances p at s c) t d (Some to) → walk_at p n at s c ≡ o → walk_at p (n - 1) to t d ≡ o
goes_on p zero at to s t c d o few k e = absurd (omega (arith, few))
goes_on p (suc n) at to s t c d o few k e =
    let less : suc n - 1 ≡ n = omega arith in
    ap (λ (m : ℕ). walk_at p m to t d) less ∙ sym (k (walk most p.literals p.bytes n)) ∙ sym (one_step p n at s c) ∙ e

pub is_over : (p : PartsView) (n at : ℕ) (s t : List Value) (c d : Course) (o : Outcome Value)
    → 0 < n → Continues (advances p at s c) t d None → walk_at p n at s c ≡ o → Lists o (going_view d).deeds
is_over p zero at s t c d o few k e = absurd (omega (arith, few))
is_over p (suc n) at s t c d o few k e = subst (λ (x : Outcome Value). Lists x (going_view d).deeds) (sym (one_step p n at s c) ∙ e) (k (walk most p.literals p.bytes n))

pub is_long : (p : PartsView) (n at : ℕ) (s : List Value) (c : Course) (o : Outcome Value)
    → 0 < n → IsTooLong (advances p at s c) → walk_at p n at s c ≡ o → o ≡ long
is_long p zero at s c o few k e = absurd (omega (arith, few))
is_long p (suc n) at s c o few k e = sym e ∙ one_step p n at s c ∙ k (walk most p.literals p.bytes n)

at_none : (p : PartsView) (at : ℕ) (s : List Value) (c : Course) → walk_at p 0 at s c ≡ unfinished
unfolding walk
at_none p at s c = refl

-- so many instructions are enough
pub is_enough : (p : PartsView) (answers : List AnswerView) (n at : ℕ) (s : List Value) (c : Course) (deeds : List DeedView)
    → n ≡ 0 → walk_at p n at s c ≡ Walk p answers → Lists (Walk p answers) deeds
is_enough p answers n at s c deeds z e =
    let ended : walk_at p 0 at s c ≡ Walk p answers = subst (λ (m : ℕ). walk_at p m at s c ≡ Walk p answers) z e in
    let none : IsDone unfinished = subst IsDone (sym ended ∙ at_none p at s c) (walk_bounded most p.literals p.bytes 0 [] (before_all (start_of (arity p.selector)) answers) refl) in
    absurd none

-- a walk that begins
pub begins_so : (p : PartsView) (answers given : List Answer) (text : List ℕ) (k m n : ℕ) (s : List Value) (c : Course)
    → n ≡ (most + 1) * (m + 1) → m ≡ length p.bytes → k ≡ arity text → text ≡ p.selector → given ≡ answers → s ≡ [] → going_view c ≡ before_all (start_of k) (answers_view given) → walk_at p n 0 s c ≡ Walk p (answers_view answers)
begins_so p answers given text k m n s c many bytes arguments selector same empty b =
    let most_steps : ℕ = (most + 1) * (length p.bytes + 1) in
    let begun : going_view c ≡ before_all (start_of (arity p.selector)) (answers_view answers) =
    b ∙ ap (λ (x : ℕ). before_all (start_of x) (answers_view given)) (arguments ∙ ap arity selector) ∙ ap (λ (l : List Answer). before_all (start_of (arity p.selector)) (answers_view l)) same in
    ap (λ (x : ℕ). walk_at p x 0 s c) (many ∙ ap (λ (x : ℕ). (most + 1) * (x + 1)) bytes)
    ∙ ap (λ (l : List Value). walk_at p most_steps 0 l c) empty
    ∙ ap (λ (g : Going). walk most p.literals p.bytes most_steps 0 [] g) begun

-- a fault of the walk
pub faults_so : (A Q : Type 0) (o : Outcome Value) (z : Result A MeaningFault) (e : MeaningFault) → z ≡ Err e → (Q → o ≡ long) → IsLong Q e → IfErr z (IsFault o)
faults_so A Q o z e is k h = subst (λ (x : Result A MeaningFault). IfErr x (IsFault o)) (sym is) (by_fault e h)
  where
    by_fault : (y : MeaningFault) → IsLong Q y → IsFault o y
    by_fault Long l = k l
    by_fault OutOfMemory l = tt
