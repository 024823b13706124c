-- What is done in a walk, by what is left of it.
use Rattle.std.proofs.Common.{◌≡◌, ℕ, ◌+◌, ◌-◌, ◌≤◌, ◌==◌, Bool, true, false, List, [], ◌∷◌, ◌++◌, length, take, drop, get_or, Option, refl, sym, ap, ◌∙◌, subst, arith}
use Rattle.std.proofs.lemmas.List.{drop_more, take_rest}
use Rattle.std.specs.Prelude.{if◌then◌else◌}
use Rattle.st_meaning.specs.declared.deed.Variable.{Variable}
use Rattle.st_meaning.specs.declared.deed.Value.{Value}
use Rattle.st_meaning.specs.declared.deed.Value.TheVariants.{Block}
use Rattle.st_meaning.specs.declared.deed.Deed.{Deed}
use Rattle.st_meaning.specs.declared.deed.Answer.{Answer}
use Rattle.st_meaning.specs.declared.held.Held.{Held}
use Rattle.st_meaning.specs.declared.course.Course.{Course}
use Rattle.st_meaning.specs.inside.Values.{DeedView, AnswerView, sent, assigned, made, returned, unsure}
use Rattle.st_meaning.specs.inside.Deeds.{answers_view, deed_view, deeds_view}
use Rattle.st_meaning.specs.inside.Runs.{Going, Outcome, went, over, long, Run, changed, all_changed, did, ends, take_answer, assign_to, answer_to, make_block, return_value, be_unsure, jump_back}
use Rattle.st_meaning.specs.inside.Meanings.{before_all}
use Rattle.st_meaning.specs.inside.Courses.{going_view, held_of, with_deed, with_back, Goes}

pub many_deeds : (deeds : List Deed) → length (deeds_view deeds) ≡ length deeds
many_deeds [] = refl
many_deeds (d ∷ ds) = omega (arith, many_deeds ds)

pub one_more : (a : List Deed) (d : Deed) → deeds_view (a ++ d ∷ []) ≡ deeds_view a ++ deed_view d ∷ []
one_more [] d = refl
one_more (x ∷ a) d = ap (λ (l : List DeedView). deed_view x ∷ l) (one_more a d)

module _ (most : ℕ) where
  pub did_on : {A : Type 0} (d : DeedView) (f : Run A) (g : Going) → (length g.deeds == most) ≡ false → did most d f g ≡ f (with_deed d g)
  unfolding did
  did_on d f g e = ap (λ (b : Bool). if b then long else f (with_deed d g)) e

  pub did_long : {A : Type 0} (d : DeedView) (f : Run A) (g : Going) → (length g.deeds == most) ≡ true → did most d f g ≡ long
  unfolding did
  did_long d f g e = ap (λ (b : Bool). if b then long else f (with_deed d g)) e

  pub assign_on : (p : Variable) (v : Value) (g : Going) → (length g.deeds == most) ≡ false → assign_to most p v g ≡ went v (record (with_deed (assigned p v) g) { held = changed p v g.held })
  unfolding assign_to
  assign_on p v g e = did_on (assigned p v) _ g e

  pub assign_long : (p : Variable) (v : Value) (g : Going) → (length g.deeds == most) ≡ true → assign_to most p v g ≡ long
  unfolding assign_to
  assign_long p v g e = did_long (assigned p v) _ g e

  pub answer_on : (r : Value) (text : List ℕ) (vs : List Value) (above : Bool) (g : Going) → (length g.deeds == most) ≡ false → answer_to most r text vs above g ≡ take_answer g.answers (with_deed (sent r text vs above) g)
  unfolding answer_to
  answer_on r text vs above g e = did_on (sent r text vs above) _ g e

  pub answer_long : (r : Value) (text : List ℕ) (vs : List Value) (above : Bool) (g : Going) → (length g.deeds == most) ≡ true → answer_to most r text vs above g ≡ long
  unfolding answer_to
  answer_long r text vs above g e = did_long (sent r text vs above) _ g e

  pub make_on : (g : Going) → (length g.deeds == most) ≡ false → make_block most g ≡ went (Block g.blocks) (record (with_deed (made g.blocks) g) { blocks = g.blocks + 1 })
  unfolding make_block
  make_on g e = did_on (made g.blocks) _ g e

  pub make_long : (g : Going) → (length g.deeds == most) ≡ true → make_block most g ≡ long
  unfolding make_block
  make_long g e = did_long (made g.blocks) _ g e

  pub return_on : (v : Value) (g : Going) → (length g.deeds == most) ≡ false → return_value most {A = Value} v g ≡ over (with_deed (returned v) g)
  unfolding return_value
  return_on v g e = did_on (returned v) ends g e

  pub return_long : (v : Value) (g : Going) → (length g.deeds == most) ≡ true → return_value most {A = Value} v g ≡ long
  unfolding return_value
  return_long v g e = did_long (returned v) ends g e

  pub unsure_on : (v : Value) (g : Going) → (length g.deeds == most) ≡ false → be_unsure most {A = Value} v g ≡ over (with_deed (unsure v) g)
  unfolding be_unsure
  unsure_on v g e = did_on (unsure v) ends g e

  pub unsure_long : (v : Value) (g : Going) → (length g.deeds == most) ≡ true → be_unsure most {A = Value} v g ≡ long
  unfolding be_unsure
  unsure_long v g e = did_long (unsure v) ends g e

  pub back_on : (f : Run Value) (g : Going) → (g.backs == most) ≡ false → jump_back most f g ≡ f (with_back g)
  unfolding jump_back
  back_on f g e = ap (λ (b : Bool). if b then long else f (with_back g)) e

  pub back_long : (f : Run Value) (g : Going) → (g.backs == most) ≡ true → jump_back most f g ≡ long
  unfolding jump_back
  back_long f g e = ap (λ (b : Bool). if b then long else f (with_back g)) e

-- COURSES

pub begins : (deeds : List Deed) (held start : Variable → Value) (answers : List AnswerView) → deeds ≡ [] → held ≡ start
    → record { deeds = deeds_view deeds; answers = answers; held = held; blocks = 0; backs = 0 } ≡ before_all start answers
begins deeds held start answers d h = λ i. record { deeds = deeds_view (d i); answers = answers; held = h i; blocks = 0; backs = 0 }

pub few_deeds : (most : ℕ) (c : Course) → (length c.deeds.items == most) ≡ false → (length (going_view c).deeds == most) ≡ false
few_deeds most c e = ap (λ (n : ℕ). n == most) (many_deeds c.deeds.items) ∙ e

pub full_deeds : (most : ℕ) (c : Course) → (length c.deeds.items == most) ≡ true → (length (going_view c).deeds == most) ≡ true
full_deeds most c e = ap (λ (n : ℕ). n == most) (many_deeds c.deeds.items) ∙ e

pub assign_goes : (most : ℕ) (c d : Course) (h : Held) (p : Variable) (v : Value) → (length c.deeds.items == most) ≡ false → going_view d ≡ with_deed (assigned p v) (going_view c) → d.held ≡ c.held → held_of h ≡ changed p v (held_of d.held)
    → assign_to most p v (going_view c) ≡ went v (record (going_view d) { held = held_of h })
assign_goes most c d h p v few w e k =
    assign_on most p v (going_view c) (few_deeds most c few)
    ∙ ap (λ (g : Going). went v (record g { held = changed p v (held_of c.held) })) (sym w)
    ∙ ap (λ (f : Variable → Value). went v (record (going_view d) { held = f })) (sym (k ∙ ap (λ (x : Held). changed p v (held_of x)) e))

pub answer_follows : (most : ℕ) (c d : Course) (r : Value) (text : List ℕ) (vs : List Value) (above : Bool) → (length c.deeds.items == most) ≡ false → going_view d ≡ with_deed (sent r text vs above) (going_view c)
    → answer_to most r text vs above (going_view c) ≡ take_answer (going_view d).answers (going_view d)
answer_follows most c d r text vs above few w = answer_on most r text vs above (going_view c) (few_deeds most c few) ∙ ap (λ (g : Going). take_answer g.answers g) (sym w)

-- the next answer, and those behind it
pub first_answer : (xs : List Answer) (x : Answer) (g : Going) (h : Variable → Value) → 1 ≤ length xs → x ≡ get_or xs 0 x → h ≡ all_changed x.changes.items g.held
    → take_answer (answers_view xs) g ≡ went x.value (record g { answers = answers_view (take (length xs - 1) (drop 1 xs)); held = h })
first_answer xs x g h there is e =
    let first : xs ≡ x ∷ take (length xs - 1) (drop 1 xs) = drop_more xs 0 x (omega (arith, there)) ∙ ap (λ y. y ∷ drop 1 xs) (sym is) ∙ ap (λ ys. x ∷ ys) (sym (take_rest xs 1)) in
    ap (λ (ys : List Answer). take_answer (answers_view ys) g) first
    ∙ ap (λ (k : Variable → Value). went x.value (record g { answers = answers_view (take (length xs - 1) (drop 1 xs)); held = k })) (sym e)

pub answer_goes : (most : ℕ) (r : Value) (text : List ℕ) (vs : List Value) (above : Bool) (c d e : Course) (o : Option Value) → (length c.deeds.items == most) ≡ false → going_view d ≡ with_deed (sent r text vs above) (going_view c)
    → Goes (take_answer (going_view d).answers (going_view d)) o (going_view e) → Goes (answer_to most r text vs above (going_view c)) o (going_view e)
answer_goes most r text vs above c d e o few w h = subst (λ (x : Outcome Value). Goes x o (going_view e)) (sym (answer_follows most c d r text vs above few w)) h
