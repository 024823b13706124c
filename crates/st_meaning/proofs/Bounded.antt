-- So many instructions as between one jump back and the next, once more than jumps back are allowed, are enough for each
-- walk of any bytes.
use Rattle.std.proofs.Common.{◌≡◌, ℕ, zero, suc, ◌+◌, ◌-◌, ◌*◌, ◌<◌, ◌≤◌, ◌==◌, Bool, true, false, List, [], ◌∷◌, ◌++◌, drop, length, Option, Some, None, refl, sym, ap, ◌∙◌, inl, inr, ◌⊎◌, arith}
use Rattle.std.proofs.lemmas.Bool.{cases_lt}
use Rattle.std.proofs.lemmas.Bool.Decides.{nat_tests}
use Rattle.std.specs.Prelude.{if◌then◌else◌}
use Rattle.st_emit.specs.Literals.{LiteralView}
use Rattle.st_resolved.specs.declared.reading.Found.{Found}
use Rattle.st_resolved.specs.Instructions.{instruction}
use Rattle.st_resolved.proofs.Decoding.{found_some}
use Rattle.st_meaning.specs.declared.deed.Variable.{Variable}
use Rattle.st_meaning.specs.declared.deed.Value.{Value}
use Rattle.st_meaning.specs.declared.deed.Value.TheVariants as values
use Rattle.st_meaning.specs.inside.Values.{DeedView, AnswerView}
use Rattle.st_meaning.specs.inside.Values as views
use Rattle.st_meaning.specs.inside.Runs.{Going, Outcome, went, over, long, stuck, unfinished, Run, then_go, did, ends, take_answer, answer_to, make_block, assign_to, return_value, be_unsure, jump_back, decide}
use Rattle.st_meaning.specs.inside.Codes.{Walked, walk_code}
use Rattle.st_meaning.specs.inside.Codes as codes
use Rattle.st_meaning.specs.inside.Walks.{Next, values_at, on_boolean, done, act_found, walk}
use Rattle.st_meaning.specs.inside.Meanings.{enough_steps}
use Rattle.st_meaning.proofs.Longer.{IsDone}

module _ (most : ℕ) where
  -- a run that goes on has not jumped back
  abbrev Stays : {A : Type 0} → ℕ → Outcome A → Type 0
  Stays b (went x g) = g.backs ≡ b
  Stays b (over d) = Unit {0}
  Stays b long = Unit {0}
  Stays b (stuck d) = ⊥
  Stays b unfinished = ⊥

  stays_did : {A : Type 0} (d : DeedView) (m : Run A) (g : Going) → ((h : Going) → h.backs ≡ g.backs → Stays g.backs (m h)) → Stays g.backs (did most d m g)
  unfolding did
  stays_did d m g h = by_test (length g.deeds == most)
    where
      by_test : (b : Bool) → Stays g.backs (if b then long else m (record g { deeds = g.deeds ++ d ∷ [] }))
      by_test true = tt
      by_test false = h (record g { deeds = g.deeds ++ d ∷ [] }) refl

  stays_answers : (answers : List AnswerView) (g : Going) (b : ℕ) → g.backs ≡ b → Stays b (take_answer answers g)
  stays_answers [] g b e = tt
  stays_answers (a ∷ rest) g b e = e

  stays_assign : (p : _) (v : Value) (g : Going) → Stays g.backs (assign_to most p v g)
  unfolding assign_to
  stays_assign p v g = stays_did (views.assigned p v) _ g (λ h e. e)

  stays_answer : (r : Value) (text : List ℕ) (vs : List Value) (above : Bool) (g : Going) → Stays g.backs (answer_to most r text vs above g)
  unfolding answer_to
  stays_answer r text vs above g = stays_did (views.sent r text vs above) _ g (λ h e. stays_answers h.answers h g.backs e)

  stays_block : (g : Going) → Stays g.backs (make_block most g)
  unfolding make_block
  stays_block g = stays_did (views.made g.blocks) _ g (λ h e. e)

  done_did : (d : DeedView) (g : Going) → IsDone (did most d ends g)
  unfolding did
  done_did d g = by_test (length g.deeds == most)
    where
      by_test : (b : Bool) → IsDone (if b then long else over (record g { deeds = g.deeds ++ d ∷ [] }))
      by_test true = tt
      by_test false = tt

  done_return : (v : Value) (g : Going) → IsDone (return_value most v g)
  unfolding return_value
  done_return v g = done_did (views.returned v) g

  done_unsure : (v : Value) (g : Going) → IsDone (be_unsure most v g)
  unfolding be_unsure
  done_unsure v g = done_did (views.unsure v) g

  done_then : {A : Type 0} (b : ℕ) (o : Outcome A) (f : A → Run Value) → Stays b o → ((x : A) (g : Going) → g.backs ≡ b → IsDone (f x g)) → IsDone (then_go o f)
  done_then b (went x g) f h k = k x g h
  done_then b (over d) f h k = tt
  done_then b long f h k = tt
  done_then b (stuck d) f h k = absurd h
  done_then b unfinished f h k = absurd h

  done_decide : (v : Value) (a b : Run Value) (g : Going) → IsDone (a g) → IsDone (b g) → IsDone (decide most v a b g)
  done_decide (values.Constant (suc zero)) a b g h k = h
  done_decide (values.Constant (suc (suc zero))) a b g h k = k
  done_decide (values.Constant zero) a b g h k = done_unsure (values.Constant zero) g
  done_decide (values.Constant (suc (suc (suc i)))) a b g h k = done_unsure (values.Constant (suc (suc (suc i)))) g
  done_decide (values.Number z) a b g h k = done_unsure (values.Number z) g
  done_decide (values.First q) a b g h k = done_unsure (values.First q) g
  done_decide (values.Literal i) a b g h k = done_unsure (values.Literal i) g
  done_decide (values.Block i) a b g h k = done_unsure (values.Block i) g
  done_decide (values.Answer i) a b g h k = done_unsure (values.Answer i) g

  done_boolean : (on : Bool) (v : Value) (a b : Run Value) (g : Going) → IsDone (a g) → IsDone (b g) → IsDone (on_boolean most on v a b g)
  done_boolean true v a b g h k = done_decide v a b g h k
  done_boolean false v a b g h k = done_decide v b a g k h

  done_back : (f : Run Value) (g : Going) → ((g.backs == most) ≡ false → IsDone (f (record g { backs = g.backs + 1 }))) → IsDone (jump_back most f g)
  unfolding jump_back
  done_back f g h = by_test (g.backs == most) refl
    where
      by_test : (b : Bool) → (g.backs == most) ≡ b → IsDone (if b then long else f (record g { backs = g.backs + 1 }))
      by_test true e = tt
      by_test false e = h e

  -- what is done is over, where whatever comes next is: further on with as many jumps back, and anywhere with one more
  done_all : (w : Walked Variable Value) (f : Next) (at : ℕ) (g : Going)
      → ((to : ℕ) (s : List Value) (h : Going) → at ≤ to → h.backs ≡ g.backs → IsDone (f to s h))
      → ((to : ℕ) (s : List Value) → (g.backs == most) ≡ false → IsDone (f to s (record g { backs = g.backs + 1 })))
      → IsDone (done most w f at g)
  done_all (codes.went s) f at g on again = on at s g (omega arith) refl
  done_all (codes.stored q v s) f at g on again = done_then g.backs (assign_to most q v g) (λ w. f at s) (stays_assign q v g) (λ w h e. on at s h (omega arith) e)
  done_all (codes.sent r text arguments above s) f at g on again =
      done_then g.backs (answer_to most r text arguments above g) (λ v. f at (v ∷ s)) (stays_answer r text arguments above g) (λ v h e. on at (v ∷ s) h (omega arith) e)
  done_all (codes.copied s) f at g on again = done_then g.backs (make_block most g) (λ v. f at (v ∷ s)) (stays_block g) (λ v h e. on at (v ∷ s) h (omega arith) e)
  done_all (codes.returned v) f at g on again = done_return v g
  done_all (codes.ahead d s) f at g on again = on (at + d) s g (omega arith) refl
  done_all (codes.aback d s) f at g on again = done_back (f (at - d) s) g (λ e. again (at - d) s e)
  done_all (codes.tested on_true v d s) f at g on again = done_boolean on_true v (f (at + d) s) (f at s) g (on (at + d) s g (omega arith) refl) (on at s g (omega arith) refl)
  done_all codes.stuck f at g on again = tt

  module _ (literals : List LiteralView) (bytes : List ℕ) where
    abbrev line : ℕ
    line = length bytes + 1

    -- behind the last byte there is no instruction
    past_end : (at : ℕ) → length bytes ≤ at → drop at bytes ≡ []
    past_end at h = dropped bytes at h
      where
        dropped : (bs : List ℕ) (n : ℕ) → length bs ≤ n → drop n bs ≡ []
        dropped [] zero h = refl
        dropped [] (suc n) h = refl
        dropped (b ∷ bs) zero h = absurd (omega (arith, h))
        dropped (b ∷ bs) (suc n) h = dropped bs n (omega (arith, h))

    found_in : (at : ℕ) (x : Found) → instruction (drop at bytes) ≡ Some x → at < length bytes
    found_in at x e = by_order (cases_lt at (length bytes))
      where
        by_order : (at < length bytes) ⊎ (length bytes ≤ at) → at < length bytes
        by_order (inl h) = h
        by_order (inr h) = let none : instruction [] ≡ Some x = sym (ap instruction (past_end at h)) ∙ e in absurd cc

    -- whatever is walked with one instruction fewer is over, with k jumps back left and so many bytes from there on
    abbrev Fewer : ℕ → Type 0
    Fewer n = (at : ℕ) (s : List Value) (g : Going) (k : ℕ) → g.backs ≤ most → g.backs + k ≡ most → k * line + (length bytes - at) < n → IsDone (walk most literals bytes n at s g)

    line_more : (k : ℕ) → suc k * line ≡ k * line + line
    line_more k = omega arith

    again_done : (n at to : ℕ) (t : List Value) (g : Going) (k : ℕ) → Fewer n → g.backs + k ≡ most → k * line + (length bytes - at) < suc n → (g.backs == most) ≡ false → IsDone (walk most literals bytes n to t (record g { backs = g.backs + 1 }))
    again_done n at to t g zero more e h again = let same : (g.backs == most) ≡ true = grind (arith, nat_tests, e) in absurd cc
    again_done n at to t g (suc k) more e h again =
        let less : k * line + (length bytes - to) < n = omega (arith, h, line_more k) in
        more to t (record g { backs = g.backs + 1 }) k (omega (arith, e)) (omega (arith, e)) less

    found_done : (n at : ℕ) (s : List Value) (g : Going) (k : ℕ) → Fewer n → g.backs ≤ most → g.backs + k ≡ most → k * line + (length bytes - at) < suc n
        → (o : Option Found) → instruction (drop at bytes) ≡ o → IsDone (act_found most literals o (walk most literals bytes n) at s g)
    found_done n at s g k more l e h None i = tt
    found_done n at s g k more l e h (Some x) i =
        let within : at < length bytes = found_in at x i in
        let some : 1 ≤ x.size = found_some (drop at bytes) x i in
        done_all (walk_code (values_at literals g) x.step s) (walk most literals bytes n) (at + x.size) g
        (λ to t h1 le same. more to t h1 k (omega (arith, same, l)) (omega (arith, same, e)) (omega (arith, h, le, some, within)))
        (λ to t again. again_done n at to t g k more e h again)

    walk_done : (n at : ℕ) (s : List Value) (g : Going) (k : ℕ) → g.backs ≤ most → g.backs + k ≡ most → k * line + (length bytes - at) < n → IsDone (walk most literals bytes n at s g)
    unfolding walk
    walk_done zero at s g k l e h = absurd (omega arith)
    walk_done (suc n) at s g k l e h = found_done n at s g k (λ at1 s1 g1 k1 l1 e1 h1. walk_done n at1 s1 g1 k1 l1 e1 h1) l e h (instruction (drop at bytes)) refl

    pub walk_bounded : (at : ℕ) (s : List Value) (g : Going) → g.backs ≡ 0 → IsDone (walk most literals bytes (enough_steps most bytes) at s g)
    walk_bounded at s g e = walk_done (enough_steps most bytes) at s g most (omega (arith, e)) (omega (arith, e)) enough
      where
        enough : most * line + (length bytes - at) < (most + 1) * line
        enough = let more : (most + 1) * line ≡ most * line + line = omega arith in omega (arith, more)
