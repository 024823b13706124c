-- Where a walk goes on behind what an instruction does, and where it is over.
use Rattle.std.proofs.Common.{◌≡◌, ℕ, zero, suc, ◌+◌, ◌-◌, ◌==◌, Bool, true, false, not, List, ◌∷◌, length, drop, Option, Some, None, refl, sym, ap, ◌∙◌, subst}
use Rattle.std.specs.Prelude.{Result, Ok, Err, IfOk, IfErr, if◌then◌else◌}
use Rattle.st_resolved.specs.declared.reading.Found.{Found}
use Rattle.st_resolved.specs.Instructions.{instruction}
use Rattle.st_code.specs.Methods.{PartsView}
use Rattle.st_meaning.specs.declared.deed.Variable.{Variable}
use Rattle.st_meaning.specs.declared.deed.Value.{Value}
use Rattle.st_meaning.specs.declared.deed.Value.TheVariants as values
use Rattle.st_meaning.specs.declared.course.Course.{Course}
use Rattle.st_meaning.specs.inside.Values.{returned, unsure}
use Rattle.st_meaning.specs.inside.Runs.{Going, Outcome, went, over, long, Run, then_go, assign_to, answer_to, make_block, be_unsure, decide}
use Rattle.st_meaning.specs.inside.Codes.{walk_code}
use Rattle.st_meaning.specs.inside.Codes as codes
use Rattle.st_meaning.specs.inside.Walks.{Next, values_of, on_boolean, done, act_found}
use Rattle.st_meaning.specs.inside.Deeds.{Lists}
use Rattle.st_meaning.specs.inside.Meanings.{most}
use Rattle.st_meaning.specs.declared.code.Walked.{Walked}
use Rattle.st_meaning.specs.declared.code.Walked.TheVariants as walked
use Rattle.st_meaning.specs.declared.fault.MeaningFault.{MeaningFault}
use Rattle.st_meaning.specs.declared.fault.MeaningFault.TheVariants.{Long, OutOfMemory}
use Rattle.st_meaning.specs.inside.Courses.{going_view, held_of, with_deed, with_back, stack_view, walked_view, boolean, Goes, IsLong, IsTooLong, IsBehind, Continues, Tests, IsLongTest, becomes, advances}
use Rattle.st_meaning.proofs.Coursing.{few_deeds, full_deeds, return_on, return_long, unsure_on, unsure_long, back_on as back_goes, back_long as back_is_long}

-- BOOLEANS

by_true : (on : Bool) (v : Value) → boolean v ≡ Some true → (jump go : Run Value) (g : Going) → on_boolean most on v jump go g ≡ (if on then jump else go) g
by_true true (values.Constant (suc zero)) e jump go g = refl
by_true false (values.Constant (suc zero)) e jump go g = refl
by_true on (values.Constant (suc (suc zero))) e jump go g = absurd cc
by_true on v e jump go g = absurd cc

by_false : (on : Bool) (v : Value) → boolean v ≡ Some false → (jump go : Run Value) (g : Going) → on_boolean most on v jump go g ≡ (if not on then jump else go) g
by_false true (values.Constant (suc (suc zero))) e jump go g = refl
by_false false (values.Constant (suc (suc zero))) e jump go g = refl
by_false on v e jump go g = absurd cc

decide_none : (v : Value) → boolean v ≡ None → (a b : Run Value) (g : Going) → decide most v a b g ≡ be_unsure most v g
decide_none (values.Constant (suc zero)) e a b g = absurd cc
decide_none (values.Constant (suc (suc zero))) e a b g = absurd cc
decide_none (values.Constant zero) e a b g = refl
decide_none (values.Constant (suc (suc (suc i)))) e a b g = refl
decide_none (values.Number z) e a b g = refl
decide_none (values.First q) e a b g = refl
decide_none (values.Literal i) e a b g = refl
decide_none (values.Block i) e a b g = refl
decide_none (values.Answer i) e a b g = refl

by_none : (on : Bool) (v : Value) → boolean v ≡ None → (jump go : Run Value) (g : Going) → on_boolean most on v jump go g ≡ be_unsure most v g
by_none true v e jump go g = decide_none v e jump go g
by_none false v e jump go g = decide_none v e go jump g

pub on_true : (on : Bool) (v : Value) (c : Course) → boolean v ≡ Some true → Tests on v c c (Some on)
on_true on v c e jump go = by_true on v e jump go (going_view c)

pub on_false : (on : Bool) (v : Value) (c : Course) → boolean v ≡ Some false → Tests on v c c (Some (not on))
on_false on v c e jump go = by_false on v e jump go (going_view c)

pub on_none : (on : Bool) (v : Value) (c d : Course) → boolean v ≡ None → (length c.deeds.items == most) ≡ false → going_view d ≡ with_deed (unsure v) (going_view c) → Tests on v c d None
on_none on v c d e few w jump go =
    by_none on v e jump go (going_view c) ∙ unsure_on most v (going_view c) (few_deeds most c few) ∙ ap over (sym w)

pub on_none_long : (on : Bool) (v : Value) (c : Course) → boolean v ≡ None → (length c.deeds.items == most) ≡ true → IsLongTest on v c
on_none_long on v c e full jump go = by_none on v e jump go (going_view c) ∙ unsure_long most v (going_view c) (full_deeds most c full)

-- INSTRUCTIONS

-- a fault of one run is one of another that is too long where the first is
pub so_long : (P Q : Type 0) (e : MeaningFault) → (P → Q) → IsLong P e → IsLong Q e
so_long P Q Long k h = k h
so_long P Q OutOfMemory k h = tt

pub faulted : (A P Q : Type 0) (r : Result A MeaningFault) (e : MeaningFault) → r ≡ Err e → (P → Q) → IsLong P e → IfErr r (IsLong Q)
faulted A P Q r e is k h = subst (λ (x : Result A MeaningFault). IfErr x (IsLong Q)) (sym is) (so_long P Q e k h)

pub still_long : (A P Q : Type 0) (r : Result A MeaningFault) → (P → Q) → IfErr r (IsLong P) → IfErr r (IsLong Q)
still_long A P Q (Ok x) k h = tt
still_long A P Q (Err e) k h = so_long P Q e k h

-- a jump on a boolean
pub tested_ahead : (on : Bool) (v : Value) (d n at : ℕ) (c c' : Course) → Tests on v c c' (Some true) → n ≡ at + d → (s : List Value) → Continues (becomes (walked.Tested on v d) at s c) s c' (Some n)
tested_ahead on v d n at c c' t e s f = t (f (at + d) (stack_view s)) (f at (stack_view s)) ∙ ap (λ (k : ℕ). f k (stack_view s) (going_view c')) (sym e)

pub tested_on : (on : Bool) (v : Value) (d at : ℕ) (c c' : Course) → Tests on v c c' (Some false) → (s : List Value) → Continues (becomes (walked.Tested on v d) at s c) s c' (Some at)
tested_on on v d at c c' t s f = t (f (at + d) (stack_view s)) (f at (stack_view s))

pub tested_over : (on : Bool) (v : Value) (d at : ℕ) (c c' : Course) → Tests on v c c' None → (s : List Value) → Continues (becomes (walked.Tested on v d) at s c) s c' None
tested_over on v d at c c' t s f = subst (λ (o : Outcome Value). Lists o (going_view c').deeds) (sym (t (f (at + d) (stack_view s)) (f at (stack_view s)))) refl

pub tested_long : (on : Bool) (v : Value) (d at : ℕ) (c : Course) → IsLongTest on v c → (s : List Value) → IsTooLong (becomes (walked.Tested on v d) at s c)
tested_long on v d at c t s f = t (f (at + d) (stack_view s)) (f at (stack_view s))

-- what becomes of an instruction is what becomes of what it is
pub along : (w x : Walked) (at : ℕ) (s t : List Value) (c d : Course) (o : Option ℕ) → w ≡ x → Continues (becomes x at s c) t d o → Continues (becomes w at s c) t d o
along w x at s t c d o is h = subst (λ (y : Walked). Continues (becomes y at s c) t d o) (sym is) h

pub along_long : (w x : Walked) (at : ℕ) (s : List Value) (c : Course) → w ≡ x → IsTooLong (becomes x at s c) → IsTooLong (becomes w at s c)
along_long w x at s c is h = subst (λ (y : Walked). IsTooLong (becomes y at s c)) (sym is) h

pub went_on : (at : ℕ) (s : List Value) (c : Course) → Continues (becomes walked.Went at s c) s c (Some at)
went_on at s c f = refl

pub stuck_there : (at : ℕ) (s : List Value) (c : Course) → Continues (becomes walked.Stuck at s c) s c None
stuck_there at s c f = refl

pub stored_on : (p : Variable) (v : Value) (at : ℕ) (s : List Value) (c d : Course) → assign_to most p v (going_view c) ≡ went v (going_view d) → Continues (becomes (walked.Stored p v) at s c) s d (Some at)
stored_on p v at s c d e f = ap (λ (o : Outcome Value). then_go o (λ w. f at (stack_view s))) e

pub stored_long : (p : Variable) (v : Value) (at : ℕ) (s : List Value) (c : Course) → assign_to most p v (going_view c) ≡ long → IsTooLong (becomes (walked.Stored p v) at s c)
stored_long p v at s c e f = ap (λ (o : Outcome Value). then_go o (λ w. f at (stack_view s))) e

-- with its answer, or at the end of the answers
pub sent_on : (r : Value) (text : List ℕ) (vs : List Value) (above : Bool) (at : ℕ) (s t : List Value) (c d : Course) (a : Option Value) (o : Option ℕ)
    → Goes (answer_to most r text vs above (going_view c)) a (going_view d) → IsBehind a at s t o → Continues (λ f. done most (codes.sent r text vs above (stack_view s)) f at (going_view c)) t d o
sent_on r text vs above at s t c d (Some v) o e b = subst (Continues (λ f. done most (codes.sent r text vs above (stack_view s)) f at (going_view c)) t d) (sym b.0) on
  where
    on : (f : Next) → then_go (answer_to most r text vs above (going_view c)) (λ w. f at (w ∷ stack_view s)) ≡ f at (stack_view t) (going_view d)
    on f = ap (λ (x : Outcome Value). then_go x (λ w. f at (w ∷ stack_view s))) e ∙ ap (λ (l : List Value). f at l (going_view d)) (sym b.1)
sent_on r text vs above at s t c d None o e b = subst (Continues (λ f. done most (codes.sent r text vs above (stack_view s)) f at (going_view c)) t d) (sym b) ended
  where
    ended : (f : Next) → Lists (then_go (answer_to most r text vs above (going_view c)) (λ w. f at (w ∷ stack_view s))) (going_view d).deeds
    ended f = subst (λ (x : Outcome Value). Lists (then_go x (λ w. f at (w ∷ stack_view s))) (going_view d).deeds) (sym e) refl

pub sent_long : (r : Value) (text : List ℕ) (vs : List Value) (above : Bool) (at : ℕ) (s : List Value) (c : Course) → answer_to most r text vs above (going_view c) ≡ long → IsTooLong (λ f. done most (codes.sent r text vs above (stack_view s)) f at (going_view c))
sent_long r text vs above at s c e f = ap (λ (x : Outcome Value). then_go x (λ w. f at (w ∷ stack_view s))) e

pub copied_on : (v : Value) (at : ℕ) (s t : List Value) (c d : Course) (o : Option ℕ) → make_block most (going_view c) ≡ went v (going_view d) → IsBehind (Some v) at s t o → Continues (becomes walked.Copied at s c) t d o
copied_on v at s t c d o e b = subst (Continues (becomes walked.Copied at s c) t d) (sym b.0) on
  where
    on : (f : Next) → then_go (make_block most (going_view c)) (λ w. f at (w ∷ stack_view s)) ≡ f at (stack_view t) (going_view d)
    on f = ap (λ (x : Outcome Value). then_go x (λ w. f at (w ∷ stack_view s))) e ∙ ap (λ (l : List Value). f at l (going_view d)) (sym b.1)

pub copied_long : (at : ℕ) (s : List Value) (c : Course) → make_block most (going_view c) ≡ long → IsTooLong (becomes walked.Copied at s c)
copied_long at s c e f = ap (λ (x : Outcome Value). then_go x (λ w. f at (w ∷ stack_view s))) e

pub returned_over : (v : Value) (at : ℕ) (s : List Value) (c d : Course) → (length c.deeds.items == most) ≡ false → going_view d ≡ with_deed (returned v) (going_view c) → Continues (becomes (walked.Returned v) at s c) s d None
returned_over v at s c d few w f =
    subst (λ (o : Outcome Value). Lists o (going_view d).deeds) (sym (return_on most v (going_view c) (few_deeds most c few))) (ap (λ (g : Going). g.deeds) w)

pub returned_long : (v : Value) (at : ℕ) (s : List Value) (c : Course) → (length c.deeds.items == most) ≡ true → IsTooLong (becomes (walked.Returned v) at s c)
returned_long v at s c full f = return_long most v (going_view c) (full_deeds most c full)

pub ahead_on : (d n at : ℕ) (s : List Value) (c : Course) → n ≡ at + d → Continues (becomes (walked.Ahead d) at s c) s c (Some n)
ahead_on d n at s c e f = ap (λ (k : ℕ). f k (stack_view s) (going_view c)) (sym e)

pub back_on : (k n at : ℕ) (s : List Value) (c d : Course) → n ≡ at - k → (c.backs == most) ≡ false → going_view d ≡ with_back (going_view c) → Continues (becomes (walked.Back k) at s c) s d (Some n)
back_on k n at s c d e few w f =
    back_goes most (f (at - k) (stack_view s)) (going_view c) few ∙ ap (λ (g : Going). f (at - k) (stack_view s) g) (sym w) ∙ ap (λ (m : ℕ). f m (stack_view s) (going_view d)) (sym e)

pub back_long : (k at : ℕ) (s : List Value) (c : Course) → (c.backs == most) ≡ true → IsTooLong (becomes (walked.Back k) at s c)
back_long k at s c full f = back_is_long most (f (at - k) (stack_view s)) (going_view c) full

-- THE INSTRUCTION AT A PLACE

-- what becomes of what the instruction does
becomes_so : (p : PartsView) (at : ℕ) (s t : List Value) (c : Course) (o : Option Found) (x : Found) (w : Walked) (to : ℕ) → o ≡ instruction (drop at p.bytes) → o ≡ Some x → to ≡ at + x.size
    → walked_view w (stack_view t) ≡ walk_code (values_of p.literals (held_of c.held)) x.step (stack_view s) → (f : Next) → advances p at s c f ≡ becomes w to t c f
becomes_so p at s t c o x w to e is n k f =
    ap (λ (y : Option Found). act_found most p.literals y f at (stack_view s) (going_view c)) (sym e ∙ is)
    ∙ ap (λ (m : ℕ). done most (walk_code (values_of p.literals (held_of c.held)) x.step (stack_view s)) f m (going_view c)) (sym n)
    ∙ ap (λ (y : codes.Walked Variable Value). done most y f to (going_view c)) (sym k)

goes_along : (m m' : Next → Outcome Value) (t : List Value) (d : Course) (r : Option ℕ) → ((f : Next) → m f ≡ m' f) → Continues m' t d r → Continues m t d r
goes_along m m' t d (Some n) e h = λ f. e f ∙ h f
goes_along m m' t d None e h = λ f. subst (λ (o : Outcome Value). Lists o (going_view d).deeds) (sym (e f)) (h f)

pub found_on : (p : PartsView) (at : ℕ) (s t u : List Value) (c d : Course) (o : Option Found) (x : Found) (w : Walked) (to : ℕ) (r : Option ℕ) → o ≡ instruction (drop at p.bytes) → o ≡ Some x → to ≡ at + x.size
    → walked_view w (stack_view t) ≡ walk_code (values_of p.literals (held_of c.held)) x.step (stack_view s) → Continues (becomes w to t c) u d r → Continues (advances p at s c) u d r
found_on p at s t u c d o x w to r e is n k h = goes_along (advances p at s c) (becomes w to t c) u d r (becomes_so p at s t c o x w to e is n k) h

pub found_long : (p : PartsView) (at : ℕ) (s t : List Value) (c : Course) (o : Option Found) (x : Found) (w : Walked) (to : ℕ) → o ≡ instruction (drop at p.bytes) → o ≡ Some x → to ≡ at + x.size
    → walked_view w (stack_view t) ≡ walk_code (values_of p.literals (held_of c.held)) x.step (stack_view s) → IsTooLong (becomes w to t c) → IsTooLong (advances p at s c)
found_long p at s t c o x w to e is n k h f = becomes_so p at s t c o x w to e is n k f ∙ h f

-- what is told of the one is told of the other
pub found_goes : (z : Result (Option ℕ) MeaningFault) (p : PartsView) (at : ℕ) (s t u : List Value) (c d : Course) (o : Option Found) (x : Found) (w : Walked) (to : ℕ) → o ≡ instruction (drop at p.bytes) → o ≡ Some x → to ≡ at + x.size
    → walked_view w (stack_view t) ≡ walk_code (values_of p.literals (held_of c.held)) x.step (stack_view s) → IfOk z (Continues (becomes w to t c) u d) → IfOk z (Continues (advances p at s c) u d)
found_goes (Ok r) p at s t u c d o x w to e is n k h = found_on p at s t u c d o x w to r e is n k h
found_goes (Err y) p at s t u c d o x w to e is n k h = tt

pub found_faults : (z : Result (Option ℕ) MeaningFault) (p : PartsView) (at : ℕ) (s t : List Value) (c : Course) (o : Option Found) (x : Found) (w : Walked) (to : ℕ) → o ≡ instruction (drop at p.bytes) → o ≡ Some x → to ≡ at + x.size
    → walked_view w (stack_view t) ≡ walk_code (values_of p.literals (held_of c.held)) x.step (stack_view s) → IfErr z (IsLong (IsTooLong (becomes w to t c))) → IfErr z (IsLong (IsTooLong (advances p at s c)))
found_faults (Ok r) p at s t c o x w to e is n k h = tt
found_faults (Err y) p at s t c o x w to e is n k h = so_long (IsTooLong (becomes w to t c)) (IsTooLong (advances p at s c)) y (λ l. found_long p at s t c o x w to e is n k l) h
