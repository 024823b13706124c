-- What a row tests, sends and returns is what a walk's code says.
use Rattle.std.proofs.Common.{◌≡◌, ◌≢◌, ◌⊎◌, inl, inr, ℕ, zero, suc, ◌+◌, ◌<◌, List, [], ◌∷◌, length, Bool, true, false, not, Option, Some, None, refl, sym, ap, ◌∙◌, subst, arith}
use Rattle.std.specs.Prelude.{◌-◌, ◌*◌, ◌==◌, ℤ, pos, negsuc, ◌+ℤ◌, slice_get, nat_lt, if◌then◌else◌}
use Rattle.std.proofs.lemmas.Bool.Decides.{nat_tests}
use Rattle.st_model.specs.declared.bytecode.Constant.{Constant as Pushed_constant}
use Rattle.st_model.specs.declared.page.PageObject.{PageObject}
use Rattle.st_model.specs.declared.page.PageObject.TheVariants.{TrueObject, FalseObject, Selectors}
use Rattle.st_model.specs.Values.{Value, Small, Ref, integer}
use Rattle.st_model.specs.Machine.{ObjectMemory, State, Transition, Died, Went, Step, answer, die, or_left, tried, ◌>>=◌, ◌>>◌}
use Rattle.st_model.specs.Steps.{get_receiver, same_value, fetch_integer, integer_or_die, pop, jump}
use Rattle.st_model.specs.Outcomes.{Outcome}
use Rattle.st_model.specs.Outcomes as outcome
use Rattle.st_model.specs.Sends.{Call, send, argument_count, special_send}
use Rattle.st_model.specs.Returns.{return_to_sender, return_to_caller, calls, calls_nothing, must_be_boolean, jump_on}
use Rattle.st_model.specs.Executing.{goes_on, executed, execute, executed_if_any, execute_if_any}
use Rattle.st_model.specs.Primitives.{succeed, primitive}
use Rattle.st_model.specs.Arithmetic.{arithmetic, arithmetic_number, integer_answer, value_of_answer, equivalence, receiver_class}
use Rattle.st_model.specs.Blocks.{primitive_value, value_if_any, value_with_words, start_of}
use Rattle.st_model.specs.Bytecodes.{send_literal, send_literal_to_super, return_receiver, return_constant, return_top_to_sender, return_top_to_caller, or_send, arithmetic_by, arithmetic_send}
use Rattle.st_emit.specs.declared.instruction.Constant.TheVariants.{Receiver}
use Rattle.st_emit.specs.declared.instruction.Instruction.{Instruction as Code}
use Rattle.st_emit.specs.declared.instruction.Instruction.TheVariants.{Send, SendSuper, SendSpecial, ReturnConstant, ReturnTop, ReturnBlock, JumpIf}
use Rattle.st_emit.specs.Resolving.{special_selectors, first_special, block_copy}
use Rattle.st_emit.specs.Selectors.{arity}
use Rattle.st_meaning.specs.inside.Codes.{sent, returned, tested, on_top, on_some, on_message, sends, copies, sends_special, walk_code}
use Rattle.st_meaning.specs.inside.Machines.{KeepsOthers, laid, field_at, literal_at, text_at, values_in, stack_in, IsSelector, NamesSelectors, Keeps, GoesOn, Answers, Shows, boolean_at, sends_by, succeeds, primitive_first, return_by, returning}
use Rattle.st_meaning.proofs.Inverting.{split, split_next, then_goes, next_goes, then_as, read_then, answered, page_reads, page_is, field_reads, field_is, jump_is, pop_is, under_reads, then_reads, Reads, Topped}
use Rattle.st_meaning.proofs.RowsWalk.{Frame, frame_of, RowShows, by_top, lowered, jumped, literal_then, literal_fetched, done_of, constant_word, constant_got}
use Rattle.st_model.proofs.SameValues.{same_ref}

other_ref : (n j : ℕ) → n ≢ j → same_value (Ref n) (Ref j) ≡ false
other_ref n j d = let e : (n ≡ j) → ⊥ = d in grind (arith, nat_tests, e)

module _ {H : Type 0} (m : ObjectMemory H) (laws : KeepsOthers m) (k b : ℕ) where
  executed_as : (n p : Step H Call) (s u : State H) → n.run s ≡ p.run u → (executed m n).run s ≡ (executed m p).run u
  unfolding executed
  executed_as n p s u e = then_as n p (execute m) s u e

  executed_any_as : (n p : Step H (Option Call)) (s u : State H) → n.run s ≡ p.run u → (executed_if_any m n).run s ≡ (executed_if_any m p).run u
  unfolding executed_if_any
  executed_any_as n p s u e = then_as n p (execute_if_any m) s u e

  -- A JUMP WITH A CONDITION

  abbrev branch : Value → Value → Value → ℤ → Step H (Option Call)
  branch x wanted other d = if same_value x wanted then calls_nothing (jump d) else if same_value x other then answer None else calls (must_be_boolean m x)

  none_left : (call : Option Call) (w t : State H) (z : Outcome) → call ≡ None → (execute_if_any m call).run w ≡ Went z t → t ≡ w
  unfolding execute_if_any answer
  none_left None w t z e q = cc
  none_left (Some c) w t z e q = cc

  nothing_called : (d : ℤ) (v w : State H) (call : Option Call) → (calls_nothing (jump d)).run v ≡ Went call w → (call ≡ None) × (w ≡ record v { registers = record v.registers { ip = v.registers.ip +ℤ d } })
  unfolding calls_nothing
  nothing_called d v w call q =
      let p = split_next _ _ v w call q in
      let a = answered None call p.state w p.rest in
      (sym a.0, sym a.1 ∙ jump_is m d v p.state p.mid p.first)

  branch_jumps : (x wanted other : Value) (d : ℤ) (v w t : State H) (call : Option Call) (z : Outcome) → same_value x wanted ≡ true → (branch x wanted other d).run v ≡ Went call w
      → (execute_if_any m call).run w ≡ Went z t → t ≡ record v { registers = record v.registers { ip = v.registers.ip +ℤ d } }
  branch_jumps x wanted other d v w t call z e q r =
      let n = nothing_called d v w call
      (subst (λ (p : Bool). (if p then calls_nothing (jump d) else if same_value x other then answer None else calls (must_be_boolean m x)).run v ≡ Went call w) e q) in
      none_left call w t z n.0 r ∙ n.1

  passes_by : (p : Bool) (n : Step H (Option Call)) (v w : State H) (call : Option Call) → p ≡ true → (if p then answer None else n).run v ≡ Went call w → (call ≡ None) × (w ≡ v)
  passes_by true n v w call e q = let a = answered None call v w q in (sym a.0, sym a.1)
  passes_by false n v w call e q = cc

  branch_passes : (x wanted other : Value) (d : ℤ) (v w t : State H) (call : Option Call) (z : Outcome) → same_value x wanted ≡ false → same_value x other ≡ true → (branch x wanted other d).run v ≡ Went call w
      → (execute_if_any m call).run w ≡ Went z t → t ≡ v
  branch_passes x wanted other d v w t call z e f q r =
      let n = passes_by (same_value x other) (calls (must_be_boolean m x)) v w call f
      (subst (λ (p : Bool). (if p then calls_nothing (jump d) else if same_value x other then answer None else calls (must_be_boolean m x)).run v ≡ Went call w) e q) in
      none_left call w t z n.0 r ∙ n.1

  -- what the top is, and what is done with it behind the pop
  record Tests (wanted other : PageObject) (d : ℤ) (u t : State H) (z : Outcome) : Type 0 where
    x : Value
    top : Topped m u x
    call : Option Call
    state : State H
    first : (branch x (Ref (m.named u.memory wanted)) (Ref (m.named u.memory other)) d).run (lowered m laws k b u) ≡ Went call state
    rest : (execute_if_any m call).run state ≡ Went z t

  tests : (wanted other : PageObject) (d : ℤ) (u t : State H) (z : Outcome) → (executed_if_any m (jump_on m wanted other d)).run u ≡ Went z t → Tests wanted other d u t z
  unfolding executed_if_any jump_on
  tests wanted other d u t z q =
      let p = split _ _ u t z q in
      let g = split _ _ u p.state p.mid p.first in
      let r = pop_is m u g.state g.mid g.first in
      let i = read_then _ _ g.state p.state p.mid (page_reads m wanted) g.rest in
      let j = read_then _ _ g.state p.state p.mid (page_reads m other) i.rest in
      let e = page_is m wanted g.state g.state i.mid i.first in
      let f = page_is m other g.state g.state j.mid j.first in
      let c : (branch g.mid (Ref (m.named g.state.memory wanted)) (Ref (m.named g.state.memory other)) d).run g.state ≡ Went p.mid p.state =
      subst (λ a. (branch g.mid a (Ref (m.named g.state.memory other)) d).run g.state ≡ Went p.mid p.state) e
      (subst (λ a. (branch g.mid i.mid a d).run g.state ≡ Went p.mid p.state) f j.rest) in
      record {
        x = g.mid;
        top = r.top;
        call = p.mid;
        state = p.state;
        first = subst (λ (v : State H). (branch g.mid (Ref (m.named v.memory wanted)) (Ref (m.named v.memory other)) d).run v ≡ Went p.mid p.state) r.is c;
        rest = p.rest;
      }

  went_to : (u t : State H) (i : ℤ) → t ≡ record (lowered m laws k b u) { registers = record (lowered m laws k b u).registers { ip = i } }
      → GoesOn m b (stack_in m b (lowered m laws k b u)) i u t × Keeps m k u t
  went_to u t i e =
      subst (λ s. GoesOn m b (stack_in m b (lowered m laws k b u)) i u s × Keeps m k u s) (sym e)
      (jumped m laws k b u i (stack_in m b (lowered m laws k b u)) (u.registers.sp - 1) refl)

  same_some : (x a : Value) → Some x ≡ Some a → x ≡ a
  same_some x a e = cc

  pub test_row : (on : Bool) (wanted other : PageObject) (d : ℕ) (u : State H) → boolean_at m u on ≡ Some (Ref (m.named u.memory wanted)) → boolean_at m u (not on) ≡ Some (Ref (m.named u.memory other))
      → (m.named u.memory TrueObject ≢ m.named u.memory FalseObject → m.named u.memory other ≢ m.named u.memory wanted) → RowShows m laws k b (executed_if_any m (jump_on m wanted other (pos d))) (JumpIf on d) u
  test_row on wanted other d u wanted_is other_is apart t o z w e q =
      let f = frame_of m laws k b u (JumpIf on d) w in
      let p = tests wanted other (pos d) u t z (sym e ∙ q) in
      let v = lowered m laws k b u in
      by_top m laws k b u t o (JumpIf on d) p.x (λ x rest. tested on x d rest) f p.top (λ l. (
        (λ s.
            let i : p.x ≡ Ref (m.named u.memory wanted) = same_some p.x _ (s ∙ wanted_is) in
            went_to u t (u.registers.ip +ℤ pos d)
            (branch_jumps p.x (Ref (m.named u.memory wanted)) (Ref (m.named u.memory other)) (pos d) v p.state t p.call z
            (subst (λ y. same_value y (Ref (m.named u.memory wanted)) ≡ true) (sym i) (same_ref (m.named u.memory wanted))) p.first p.rest)),
        (λ s.
            let i : p.x ≡ Ref (m.named u.memory other) = same_some p.x _ (s ∙ other_is) in
            went_to u t u.registers.ip
            (branch_passes p.x (Ref (m.named u.memory wanted)) (Ref (m.named u.memory other)) (pos d) v p.state t p.call z
            (subst (λ y. same_value y (Ref (m.named u.memory wanted)) ≡ false) (sym i) (other_ref _ _ (apart w.booleans)))
            (subst (λ y. same_value y (Ref (m.named u.memory other)) ≡ true) (sym i) (same_ref (m.named u.memory other))) p.first p.rest)),
      ))

  -- MESSAGES

  -- a message of so many arguments, of which these were taken
  message_shows : (c : Code) (u t : State H) (o : Transition (State H) Outcome) (above : Bool) (text : List ℕ) (selector : Value) (total : ℕ) → text_at m u.memory (Some selector) ≡ Some text
      → (o ≡ (executed m (sends_by m above selector total)).run u) ⊎ Answers m c u t o
      → (n : ℕ) (arguments st : List (Option Value)) → laid arguments st ≡ stack_in m b u → length arguments + n ≡ total
      → Shows m k b c (on_message n arguments st (λ r a rest. sent r text a above rest)) u t o
  message_shows c u t o above text selector total spelled goes n arguments [] e l = tt
  message_shows c u t o above text selector total spelled goes zero arguments (r ∷ s) e l =
      let j : total ≡ length arguments = omega (arith, l) in
      record {
        selector = selector;
        spelled = spelled;
        stack = sym e;
        goes = subst (λ i. (o ≡ (executed m (sends_by m above selector i)).run u) ⊎ Answers m c u t o) j goes;
      }
  message_shows c u t o above text selector total spelled goes (suc n) arguments (v ∷ s) e l =
      message_shows c u t o above text selector total spelled goes n (v ∷ arguments) s e (omega (arith, l))

  by_text : (c : Code) (u t : State H) (o : Transition (State H) Outcome) (above : Bool) (selector : Value) (n : ℕ) (e : Option (List ℕ)) → text_at m u.memory (Some selector) ≡ e
      → (o ≡ (executed m (sends_by m above selector n)).run u) ⊎ Answers m c u t o
      → Shows m k b c (on_some e (λ text. sends above n text (stack_in m b u))) u t o
  by_text c u t o above selector n None e goes = tt
  by_text c u t o above selector n (Some text) e goes = message_shows c u t o above text selector n e goes n [] (stack_in m b u) refl (omega arith)

  literal_message : (c : Code) (u t : State H) (o : Transition (State H) Outcome) (above : Bool) (i n : ℕ) (selector : Value) → literal_at m u i ≡ Some selector
      → (o ≡ (executed m (sends_by m above selector n)).run u) ⊎ Answers m c u t o
      → Shows m k b c (on_some (text_at m u.memory (literal_at m u i)) (λ text. sends above n text (stack_in m b u))) u t o
  literal_message c u t o above i n selector e goes =
      subst (λ l. Shows m k b c (on_some (text_at m u.memory l) (λ text. sends above n text (stack_in m b u))) u t o) (sym e)
      (by_text c u t o above selector n (text_at m u.memory (Some selector)) refl goes)

  pub send_row : (n i : ℕ) (u : State H) → RowShows m laws k b (executed m (send_literal m i n)) (Send n i) u
  unfolding executed send_literal
  send_row n i u t o z w e q =
      let p = split _ _ u t z (sym e ∙ q) in
      let r = read_then _ _ u p.state p.mid (literal_then m laws k b u i) p.first in
      literal_message (Send n i) u t o false i n r.mid (literal_fetched m laws k b i u u r.mid r.first)
      (inl (e ∙ executed_as _ _ u u (then_goes _ _ u u r.mid r.first)))

  pub super_row : (n i : ℕ) (u : State H) → RowShows m laws k b (executed m (send_literal_to_super m i n)) (SendSuper n i) u
  unfolding executed send_literal_to_super
  super_row n i u t o z w e q =
      let p = split _ _ u t z (sym e ∙ q) in
      let r = read_then _ _ u p.state p.mid (literal_then m laws k b u i) p.first in
      literal_message (SendSuper n i) u t o true i n r.mid (literal_fetched m laws k b i u u r.mid r.first)
      (inl (e ∙ executed_as _ _ u u (then_goes _ _ u u r.mid r.first)))

  -- by a code of its own

  copies_shows : (c : Code) (u t : State H) (o : Transition (State H) Outcome) (st : List (Option Value)) → Shows m k b c (copies st) u t o
  copies_shows c u t o [] = tt
  copies_shows c u t o (v ∷ []) = tt
  copies_shows c u t o (v ∷ r ∷ st) = tt

  abbrev Goes : Code → State H → State H → Transition (State H) Outcome → ℕ → Type 0
  Goes c u t o i = (text : List ℕ) (s : IsSelector m u i text) → (o ≡ (executed m (send m s.selector (arity text))).run u) ⊎ Answers m c u t o

  special_by : (c : Code) (u t : State H) (o : Transition (State H) Outcome) (i : ℕ) (e : Option (List ℕ)) → slice_get special_selectors i ≡ e → NamesSelectors m u → Goes c u t o i
      → Shows m k b c (on_some e (λ text. sends false (arity text) text (stack_in m b u))) u t o
  special_by c u t o i None e names goes = tt
  special_by c u t o i (Some text) e names goes =
      let s = names i text e in
      message_shows c u t o false text s.selector (arity text) s.spelled (goes text s) (arity text) [] (stack_in m b u) refl (omega arith)

  special_if : (c : Code) (u t : State H) (o : Transition (State H) Outcome) (i : ℕ) (copying : Bool) → NamesSelectors m u → Goes c u t o i
      → Shows m k b c (if copying then copies (stack_in m b u) else on_some (slice_get special_selectors i) (λ text. sends false (arity text) text (stack_in m b u))) u t o
  special_if c u t o i true names goes = copies_shows c u t o (stack_in m b u)
  special_if c u t o i false names goes = special_by c u t o i (slice_get special_selectors i) refl names goes

  special_shows : (c : Code) (u t : State H) (o : Transition (State H) Outcome) (i : ℕ) → NamesSelectors m u → Goes c u t o i
      → Shows m k b c (sends_special (first_special + i) (stack_in m b u)) u t o
  special_shows c u t o i names goes =
      let n : (first_special + i) - first_special ≡ i = omega arith in
      subst (λ j. Shows m k b c (if (first_special + i) == (first_special + block_copy) then copies (stack_in m b u) else on_some (slice_get special_selectors j) (λ text. sends false (arity text) text (stack_in m b u))) u t o) (sym n)
      (special_if c u t o i ((first_special + i) == (first_special + block_copy)) names goes)

  -- the page names the selector and its number of arguments

  die_reads : (x : Value) → Reads {H = H} (integer_or_die x)
  unfolding integer_or_die answer die
  die_reads (Small n) s u a q = cc
  die_reads (Ref n) s u a q = cc

  integer_read : (v : Value) (i : ℕ) → Reads (fetch_integer m v i)
  unfolding fetch_integer
  integer_read v i = then_reads _ _ (field_reads m v i) die_reads

  count_read : (n : ℤ) → Reads {H = H} (argument_count n)
  unfolding argument_count answer die
  count_read (pos a) s u x q = cc
  count_read (negsuc a) s u x q = cc

  counted_as : (count : ℕ) (u w : State H) (x : Value) (n : ℤ) → x ≡ Small count → (integer_or_die x).run u ≡ Went n w → (n ≡ integer count) × (w ≡ u)
  unfolding integer_or_die answer die
  counted_as count u w (Small c) n e q = let a : c ≡ count = cc in let p : n ≡ integer c = cc in let r : w ≡ u = cc in (p ∙ ap integer a, r)
  counted_as count u w (Ref c) n e q = cc

  arguments_as : (n : ℤ) (c : ℕ) (u w : State H) (x : ℕ) → n ≡ pos c → (argument_count n).run u ≡ Went x w → (x ≡ c) × (w ≡ u)
  unfolding argument_count answer die
  arguments_as (pos a) c u w x e q = let p : x ≡ a = cc in let r : a ≡ c = cc in let s : w ≡ u = cc in (p ∙ r, s)
  arguments_as (negsuc a) c u w x e q = cc

  integer_got : (v : Value) (i count : ℕ) (u w : State H) (n : ℤ) → field_at m u.memory v i ≡ Some (Small count) → (fetch_integer m v i).run u ≡ Went n w → n ≡ integer count
  unfolding fetch_integer
  integer_got v i count u w n e q =
      let p = read_then _ _ u w n (field_reads m v i) q in
      (counted_as count u w p.mid n (same_some p.mid (Small count) (sym (field_is m v i u u p.mid p.first) ∙ e)) p.rest).0

  special_as : (i : ℕ) (text : List ℕ) (u w : State H) (call : Call) (s : IsSelector m u i text) → (special_send m i).run u ≡ Went call w
      → (special_send m i).run u ≡ (send m s.selector (arity text)).run u
  unfolding special_send
  special_as i text u w call s q =
      let p = read_then _ _ u w call (page_reads m Selectors) q in
      let f = read_then _ _ u w call (field_reads m p.mid (2 * i)) p.rest in
      let g = read_then _ _ u w call (integer_read p.mid (2 * i + 1)) f.rest in
      let h = read_then _ _ u w call (count_read g.mid) g.rest in
      let e : p.mid ≡ Ref (m.named u.memory Selectors) = page_is m Selectors u u p.mid p.first in
      let x : f.mid ≡ s.selector = same_some f.mid s.selector (sym (field_is m p.mid (2 * i) u u f.mid f.first) ∙ ap (λ v. field_at m u.memory v (2 * i)) e ∙ s.stands) in
      let n : g.mid ≡ integer s.count = integer_got p.mid (2 * i + 1) s.count u u g.mid (ap (λ v. field_at m u.memory v (2 * i + 1)) e ∙ s.counted) g.first in
      let a : h.mid ≡ arity text = (arguments_as g.mid (arity text) u u h.mid (n ∙ s.arguments) h.first).0 in
      q ∙ sym (subst (λ j. (send m s.selector j).run u ≡ Went call w) a (subst (λ v. (send m v h.mid).run u ≡ Went call w) x h.rest))

  special_goes : (c : Code) (i : ℕ) (u t : State H) (o : Transition (State H) Outcome) (z : Outcome) → o ≡ (executed m (special_send m i)).run u → o ≡ Went z t → Goes c u t o i
  unfolding executed
  special_goes c i u t o z e q text s =
      let p = split _ _ u t z (sym e ∙ q) in
      inl (e ∙ executed_as _ _ u u (special_as i text u p.state p.mid s p.first))

  pub special_row : (i : ℕ) (u : State H) → RowShows m laws k b (executed m (special_send m i)) (SendSpecial (first_special + i)) u
  special_row i u t o z w e q = special_shows (SendSpecial (first_special + i)) u t o i w.selectors (special_goes (SendSpecial (first_special + i)) i u t o z e q)

  -- a primitive that fails has changed nothing
  abbrev FailsStill : Step H Bool → Type 0
  FailsStill n = (s t : State H) → n.run s ≡ Went false t → t ≡ s

  tried_goes : (i : ℕ) (p : Step H Bool) (u t : State H) (o : Transition (State H) Outcome) (z : Outcome) → primitive_first m i ≡ Some p → FailsStill p
      → (a : Bool) (w : State H) → p.run u ≡ Went a w → (if a then answer outcome.Went else executed m (special_send m i)).run w ≡ Went z t
      → o ≡ (if a then answer outcome.Went else executed m (special_send m i)).run w → o ≡ Went z t → Goes (SendSpecial (first_special + i)) u t o i
  tried_goes i p u t o z first still true w d r e q text s =
      let a = answered outcome.Went z w t r in
      inr (record {
        number = i;
        of_code = refl;
        primitive = p;
        first = first;
        done = subst (λ v. p.run u ≡ Went true v) a.1 d;
        went = q ∙ ap (λ y. Went y t) (sym a.0);
      })
  tried_goes i p u t o z first still false w d r e q text s =
      special_goes (SendSpecial (first_special + i)) i u t o z (subst (λ v. o ≡ (executed m (special_send m i)).run v) (still u w d) e) q text s

  pub tried_row : (i : ℕ) (p : Step H Bool) (u : State H) → primitive_first m i ≡ Some p → FailsStill p → RowShows m laws k b (or_send m i p) (SendSpecial (first_special + i)) u
  unfolding or_send
  tried_row i p u first still t o z w e q =
      let g = split _ _ u t z (sym e ∙ q) in
      special_shows (SendSpecial (first_special + i)) u t o i w.selectors
      (tried_goes i p u t o z first still g.mid g.state g.first g.rest (e ∙ then_goes _ _ u g.state g.mid g.first) q)

  succeeded : (n : Step H Unit) (u t : State H) (y : Unit {0}) → n.run u ≡ Went y t → (succeeds m n).run u ≡ Went true t
  unfolding answer
  succeeded n u t y e = next_goes n (answer true) u t y e

  went_only : (n : Step H Unit) (u t : State H) (z : Outcome) → (goes_on n).run u ≡ Went z t → z ≡ outcome.Went
  unfolding goes_on
  went_only n u t z q =
      let p = split_next n (answer outcome.Went) u t z q in
      sym (answered outcome.Went z p.state t p.rest).0

  -- it always succeeds
  pub always_row : (i : ℕ) (n : Step H Unit) (u : State H) → primitive_first m i ≡ Some (succeeds m n) → RowShows m laws k b (goes_on n) (SendSpecial (first_special + i)) u
  always_row i n u first t o z w e q =
      let d = done_of m laws k b n u t o z e q in
      special_shows (SendSpecial (first_special + i)) u t o i w.selectors (λ text s. inr (record {
        number = i;
        of_code = refl;
        primitive = succeeds m n;
        first = first;
        done = succeeded n u t d.unit d.run;
        went = q ∙ ap (λ y. Went y t) (went_only n u t z (sym e ∙ q));
      }))

  -- PRIMITIVES THAT ARE TRIED FIRST

  abbrev EndsTrue : Step H Bool → Type 0
  EndsTrue n = (s t : State H) → n.run s ≡ Went false t → ⊥

  true_ends : EndsTrue (answer true)
  unfolding answer
  true_ends s t q = cc

  then_ends : {A : Type 0} (n : Step H A) (f : A → Step H Bool) → ((a : A) → EndsTrue (f a)) → EndsTrue (n >>= f)
  then_ends n f h s t q = let p = split n f s t false q in h p.mid p.state t p.rest

  next_ends : {A : Type 0} (n : Step H A) (p : Step H Bool) → EndsTrue p → EndsTrue (n >> p)
  unfolding ◌>>◌
  next_ends n p h = then_ends n (λ a. p) (λ a. h)

  none_still : {A : Type 0} (o : Transition (State H) A) (s w : State H) → or_left s o ≡ Went None w → w ≡ s
  none_still (Died c) s w e = cc
  none_still (Went x v) s w e = cc

  tried_still : {A : Type 0} (n : Step H A) (f : Option A → Step H Bool) → ((s t : State H) → (f None).run s ≡ Went false t → t ≡ s) → ((x : A) → EndsTrue (f (Some x)))
      → (a : Option A) (s w t : State H) → (tried n).run s ≡ Went a w → (f a).run w ≡ Went false t → t ≡ s
  unfolding tried
  tried_still n f fails ends None s w t e q = fails w t q ∙ none_still (n.run s) s w e
  tried_still n f fails ends (Some x) s w t e q = absurd (ends x w t q)

  false_still : (s t : State H) → (answer {H = H} false).run s ≡ Went false t → t ≡ s
  unfolding answer
  false_still s t q = cc

  succeeds_ends : {A : Type 0} (n : ℕ) (effect : A → Step H Value) (x : A) → EndsTrue (succeed m n effect (Some x))
  unfolding succeed
  succeeds_ends n effect x = then_ends _ _ (λ v. next_ends _ _ true_ends)

  none_fails : {A : Type 0} (n : ℕ) (effect : A → Step H Value) (s t : State H) → (succeed m n effect None).run s ≡ Went false t → t ≡ s
  unfolding succeed
  none_fails n effect s t q = false_still s t q

  arithmetic_still : (n : ℕ) → FailsStill (arithmetic m n)
  unfolding arithmetic primitive
  arithmetic_still n s t q =
      let p = split _ _ s t false q in
      tried_still (integer_answer m n) (succeed m 1 (value_of_answer m)) (none_fails 1 (value_of_answer m)) (succeeds_ends 1 (value_of_answer m)) p.mid s p.state t p.first p.rest

  value_ends : (block : Value) (n : ℕ) (first : ℤ) → EndsTrue (value_if_any m block n (Some first))
  unfolding value_if_any value_with_words
  value_ends block n first = then_ends _ _ (λ c. then_ends _ _ (λ sp. next_ends _ _ (next_ends _ _ (next_ends _ _ true_ends))))

  no_value : (block : Value) (n : ℕ) (s t : State H) → (value_if_any m block n None).run s ≡ Went false t → t ≡ s
  unfolding value_if_any
  no_value block n s t q = false_still s t q

  value_still : (n : ℕ) → FailsStill (primitive_value m n)
  unfolding primitive_value
  value_still n s t q =
      let p = read_then _ _ s t false (under_reads m n) q in
      let r = split _ _ s t false p.rest in
      tried_still (start_of m p.mid n) (value_if_any m p.mid n) (no_value p.mid n) (value_ends p.mid n) r.mid s r.state t r.first r.rest

  first_arithmetic : (i : ℕ) → i < 16 → primitive_first m i ≡ Some (arithmetic m (arithmetic_number i))
  first_arithmetic i l = let e : nat_lt i 16 ≡ true = grind (arith, nat_tests, l) in rw e refl

  receiver_by : (i : ℕ) (u : State H) → i < 16 → (x : Value) → RowShows m laws k b (arithmetic_by m i x) (SendSpecial (first_special + i)) u
  unfolding arithmetic_by
  receiver_by i u l (Small n) = tried_row i (arithmetic m (arithmetic_number i)) u (first_arithmetic i l) (arithmetic_still (arithmetic_number i))
  receiver_by i u l (Ref n) = special_row i u

  pub arithmetic_row : (i : ℕ) (u : State H) → i < 16 → RowShows m laws k b (arithmetic_send m i) (SendSpecial (first_special + i)) u
  unfolding arithmetic_send
  arithmetic_row i u l t o z w e q =
      let p = read_then _ _ u t z (under_reads m 1) (sym e ∙ q) in
      receiver_by i u l p.mid t o z w (e ∙ then_goes _ _ u u p.mid p.first) q

  pub equivalence_row : (u : State H) → RowShows m laws k b (goes_on (equivalence m)) (SendSpecial (first_special + 22)) u
  equivalence_row u = always_row 22 (equivalence m) u refl

  pub class_row : (u : State H) → RowShows m laws k b (goes_on (receiver_class m)) (SendSpecial (first_special + 23)) u
  class_row u = always_row 23 (receiver_class m) u refl

  pub value_row : (u : State H) → RowShows m laws k b (or_send m 25 (primitive_value m 0)) (SendSpecial (first_special + 25)) u
  value_row u = tried_row 25 (primitive_value m 0) u refl (value_still 0)

  pub value_with_row : (u : State H) → RowShows m laws k b (or_send m 26 (primitive_value m 1)) (SendSpecial (first_special + 26)) u
  value_with_row u = tried_row 26 (primitive_value m 1) u refl (value_still 1)

  -- of what makes a block nothing is said
  pub copy_row : (n : Step H Outcome) (u : State H) → RowShows m laws k b n (SendSpecial (first_special + block_copy)) u
  copy_row n u t o z w e q = copies_shows (SendSpecial (first_special + block_copy)) u t o (stack_in m b u)

  -- RETURNS

  pub return_receiver_row : (u : State H) → RowShows m laws k b (executed_if_any m (return_receiver m)) (ReturnConstant Receiver) u
  unfolding return_receiver executed_if_any get_receiver
  return_receiver_row u t o z w e q = record {
    word = u.registers.receiver;
    is = refl;
    goes = e ∙ executed_any_as _ _ u u (then_goes _ _ u u u.registers.receiver refl);
  }

  abbrev Constantly : Pushed_constant → Code → Type 0
  Constantly c x = (u : State H) → walk_code (values_in m u) x (stack_in m b u) ≡ returned (Some (constant_word m laws k b c u)) × ((v : Value) → return_by m x v ≡ return_to_sender m v) × (returning m x u ≡ u)

  pub return_constant_row : (c : Pushed_constant) (x : Code) (u : State H) → Constantly c x → RowShows m laws k b (executed_if_any m (return_constant m c)) x u
  unfolding return_constant executed_if_any
  return_constant_row c x u is t o z w e q =
      let p = split _ _ u t z (sym e ∙ q) in
      let r = split _ _ u p.state p.mid p.first in
      let g = constant_got m laws k b c u r.state r.mid r.first in
      subst (λ y. Shows m k b x y u t o) (sym (is u).0)
      (record {
        word = constant_word m laws k b c u;
        is = refl;
        goes = subst (λ s. o ≡ (executed_if_any m (return_by m x (constant_word m laws k b c u))).run s) (g.1 ∙ sym (is u).2)
            (e ∙ executed_any_as _ _ u r.state (then_goes _ _ u r.state r.mid r.first ∙ sym (ap (λ (n : Step H (Option Call)). n.run r.state) ((is u).1 r.mid))) ∙ ap (λ v. (executed_if_any m (return_by m x v)).run r.state) g.0);
      })

  top_returns : (x : Code) (u : State H) (o : Transition (State H) Outcome) (t : State H) (v : Value) (f : Value → Step H (Option Call)) → Frame m laws k b u → ((w : Value) → return_by m x w ≡ f w)
      → returning m x u ≡ lowered m laws k b u → (w : State H) → (pop m).run u ≡ Went v w → o ≡ (executed_if_any m (pop m >>= f)).run u
      → Shows m k b x (on_top (stack_in m b u) (λ y rest. returned y)) u t o
  top_returns x u o t v f fr by low w e is =
      let r = pop_is m u w v e in
      by_top m laws k b u t o x v (λ y rest. returned y) fr r.top (λ l. record {
        word = v;
        is = refl;
        goes = subst (λ s. o ≡ (executed_if_any m (return_by m x v)).run s) (r.is ∙ sym low)
            (is ∙ executed_any_as _ _ u w (then_goes (pop m) f u w v e ∙ sym (ap (λ (n : Step H (Option Call)). n.run w) (by v))));
      })

  pub return_top_row : (u : State H) → RowShows m laws k b (executed_if_any m (return_top_to_sender m)) ReturnTop u
  unfolding return_top_to_sender executed_if_any
  return_top_row u t o z w e q =
      let p = split _ _ u t z (sym e ∙ q) in
      let r = split (pop m) (return_to_sender m) u p.state p.mid p.first in
      top_returns ReturnTop u o t r.mid (return_to_sender m) (frame_of m laws k b u ReturnTop w) (λ v. refl) refl r.state r.first e

  pub return_block_row : (u : State H) → RowShows m laws k b (executed_if_any m (return_top_to_caller m)) ReturnBlock u
  unfolding return_top_to_caller executed_if_any
  return_block_row u t o z w e q =
      let p = split _ _ u t z (sym e ∙ q) in
      let r = split (pop m) (return_to_caller m) u p.state p.mid p.first in
      top_returns ReturnBlock u o t r.mid (return_to_caller m) (frame_of m laws k b u ReturnBlock w) (λ v. refl) refl r.state r.first e
