-- Executing a method, sends, returns and the bytecodes meet no name without an object, as the definitions that they use.
use Rattle.std.proofs.Common.{◌≡◌, ℕ, ◌<◌, length, Option, Some, None, Bool, sym, ap, arith, inl, inr}
use Rattle.std.specs.Prelude.{ℤ, ◌-◌}
use Rattle.st_model.specs.declared.primitive.Primitive.{Primitive}
use Rattle.st_model.specs.declared.primitive.Primitive.TheVariants as named
use Rattle.st_model.specs.PrimitiveTable.{primitive_of}
use Rattle.st_model.specs.declared.bytecode.Operand.{Operand}
use Rattle.st_model.specs.declared.bytecode.Operand.TheVariants.{ReceiverVariable, LiteralConstant}
use Rattle.st_model.specs.declared.bytecode.Constant.{Constant}
use Rattle.st_model.specs.declared.bytecode.Constant.TheVariants as constant
use Rattle.st_model.specs.declared.bytecode.Bytecode.{Bytecode}
use Rattle.st_model.specs.declared.bytecode.Bytecode.TheVariants as code
use Rattle.st_model.specs.Values.{Value, Small, Ref}
use Rattle.st_model.specs.Objects.{Object, place_of, IsLiveObject}
use Rattle.st_model.specs.declared.page.PageObject.{PageObject}
use Rattle.st_model.specs.Outcomes.{Outcome}
use Rattle.st_model.specs.Machine.{State, Transition, Died, Went, Step, roots_of}
use Rattle.st_model.specs.Births.{Births, births, births_with, object_born}
use Rattle.st_model.specs.Table.{Table}
use Rattle.st_model.specs.Show.{Shows, IsKept}
use Rattle.st_model.specs.Methods.{extension_arguments, arguments_by_extension, arguments_by, method_arguments}
use Rattle.st_model.specs.Sends.{Call}
use Rattle.st_model.specs.Executing.{if_done, succeeds, says, asks, respond_by, respond_if_any, respond, answer_field, by_flag, or_activate, respond_by_extension, execute_by, takes, execute_found, drop_selector, spread_array, perform_found, perform, primitive_perform, spreading, perform_fields, primitive_perform_with, perform_by, respond_or_perform, execute, executed, execute_if_any, executed_if_any}
use Rattle.st_model.specs.Returns.{calls, calls_nothing, cannot_return, return_into, return_to_context, return_to, return_to_sender, return_to_caller, must_be_boolean, jump_on}
use Rattle.st_model.specs.Bytecodes.{fetch_receiver_variable, fetch_temporary_variable, fetch_literal_constant, fetch_literal_variable, fetch_operand, store_receiver_variable, store_temporary_variable, store_literal_variable, store_operand, constant_value, or_send, arithmetic_by, arithmetic_send, primitive_send, rows, bytecode, step}
use Rattle.st_model.proofs.Names.{map_all, map_object}
use Rattle.st_model.proofs.BirthLemmas.{borne_before, object_within}
use Rattle.st_simulation.proofs.Started.{lives}
use Rattle.st_simulation.proofs.Present as at
use Rattle.st_model.specs.Cycles.{check_process_switch}
use Rattle.st_model.specs.Saving.{store_process}
use Rattle.st_simulation.proofs.CyclesSure.{check_process_switch-sure, store_process-sure}
use Rattle.st_simulation.proofs.Present.{bare, full, then_unit-sure, die-sure, later_value, later_option, answer_itself-sure, of_page-sure, There, ThereIfAny, CallThere, CallThereIfAny, Later, SureValue, SureCall, SureAnyCall, SureAnswer}
use Rattle.st_simulation.proofs.PresentSteps.{large_arithmetic-sure, shift_large-sure, sures, parts, headers, activate-sure, fetch_context_registers-sure, find-sure, not_understood-sure, send-sure, send_to_super-sure, special_send-sure, end-sure, goes_on-sure, answer_with-sure, arithmetic-sure, equivalence-sure, receiver_class-sure, flush_cache-sure, check_class-sure, primitive_say-sure}
use Rattle.st_simulation.proofs.StorageSure.{storage-sure}
use Rattle.st_simulation.proofs.BlocksSure.{block_copy-sure, value-sure, blocks-sure}
use Rattle.st_simulation.proofs.ProcessesSure.{processes-sure}
use Rattle.st_simulation.proofs.InputSure.{input-sure}

module _ (o : Object) (lives : ℕ → Type 0) where
  pub ruleset primitives_sure = (arithmetic-sure, large_arithmetic-sure, shift_large-sure, equivalence-sure, receiver_class-sure, flush_cache-sure, storage-sure, blocks-sure, processes-sure, input-sure)

  if_done-sure : (n : ℕ) (a : Outcome) (p p' : Step Births Bool) → SureAnswer o lives n p p' → SureAnswer o lives n (if_done a p) (if_done a p')
  unfolding if_done
  if_done-sure n a p p' h = search sures depth 16 fits 4000

  succeeds-sure : (n : ℕ) (p p' : Step Births Outcome) → SureAnswer o lives n p p' → SureAnswer o lives n (succeeds p) (succeeds p')
  unfolding succeeds
  succeeds-sure n p p' h = search sures depth 16 fits 4000

  says-sure : (n : ℕ) → SureAnswer o lives n (says bare) (says (full o))
  unfolding says
  says-sure n = search (parts, if_done-sure, primitive_say-sure) depth 24 fits 4000

  asks-sure : (n : ℕ) (a : Outcome) → SureAnswer o lives n (asks bare a) (asks (full o) a)
  unfolding asks
  asks-sure n a = search (parts, answer_with-sure) depth 24 fits 4000

  respond_by-sure : (n i : ℕ) (p : Primitive) → SureAnswer o lives n (respond_by bare i p) (respond_by (full o) i p)
  unfolding respond_by
  respond_by-sure n i named.Say = says-sure n
  respond_by-sure n i p = search (sures, goes_on-sure, if_done-sure, succeeds-sure, asks-sure, primitives_sure) depth 16 fits 4000

  if_any-sure : (n : ℕ) (f f' : Primitive → Step Births (Option Outcome)) (p : Option Primitive) → ((q : Primitive) → SureAnswer o lives n (f q) (f' q))
      → SureAnswer o lives n (respond_if_any bare f p) (respond_if_any (full o) f' p)
  unfolding respond_if_any
  if_any-sure n f f' None h = answer_itself-sure o lives n _
  if_any-sure n f f' (Some p) h = h p

  respond-sure : (n k i : ℕ) → SureAnswer o lives n (respond bare k i) (respond (full o) k i)
  unfolding respond
  respond-sure n k i = if_any-sure n _ _ (primitive_of k i) (respond_by-sure n i)

  by_flag-sure : (n : ℕ) (c : Call) (v : Value) (flag : ℕ) → CallThere o lives n c → SureAnswer o lives n (by_flag bare c v flag) (by_flag (full o) c v flag)
  unfolding by_flag answer_field
  by_flag-sure n c v flag h = search (parts, goes_on-sure, activate-sure) depth 24 fits 4000

  or_activate-sure : (n : ℕ) (c : Call) (v : Value) (a : Option Outcome) → CallThere o lives n c → SureAnswer o lives n (or_activate bare c v a) (or_activate (full o) c v a)
  unfolding or_activate
  or_activate-sure n c v None h = search (goes_on-sure, activate-sure) depth 24 fits 4000
  or_activate-sure n c v (Some a) h = answer_itself-sure o lives n _

  -- by what responds to a primitive
  module _ (f f' : ℕ → ℕ → Step Births (Option Outcome)) (responds : (n k i : ℕ) → SureAnswer o lives n (f k i) (f' k i)) where
    execute_by-sure : (n : ℕ) (c : Call) → CallThere o lives n c → SureAnswer o lives n (execute_by bare f c) (execute_by (full o) f' c)
    unfolding execute_by respond_by_extension
    execute_by-sure n c h = search (headers, responds, or_activate-sure, by_flag-sure) depth 32 fits 4000

  -- 83 and 84

  extension_arguments-sure : (n : ℕ) (v : Value) → SureAnswer o lives n (extension_arguments v) (extension_arguments v)
  unfolding extension_arguments
  extension_arguments-sure n (Small i) = answer_itself-sure o lives n _
  extension_arguments-sure n (Ref i) = die-sure o lives _ n _

  arguments_by-sure : (n : ℕ) (v : Value) (flag : ℕ) → There o lives n v → SureAnswer o lives n (arguments_by bare v flag) (arguments_by (full o) v flag)
  unfolding arguments_by arguments_by_extension
  arguments_by-sure n v flag h0 = search (headers, extension_arguments-sure) depth 24 fits 4000

  method_arguments-sure : (n : ℕ) (v : Value) → There o lives n v → SureAnswer o lives n (method_arguments bare v) (method_arguments (full o) v)
  unfolding method_arguments
  method_arguments-sure n v h0 = search (headers, arguments_by-sure) depth 24 fits 4000

  takes-sure : (n i : ℕ) (a : Option Value) → ThereIfAny o lives n a → SureAnswer o lives n (takes bare i a) (takes (full o) i a)
  unfolding takes
  takes-sure n i None h0 = answer_itself-sure o lives n _
  takes-sure n i (Some m) h0 = let p : There o lives n m = record { live = h0.live } in search (sures, method_arguments-sure) depth 24 fits 4000

  drop_selector-sure : (n i : ℕ) → SureAnswer o lives n (drop_selector bare i) (drop_selector (full o) i)
  unfolding drop_selector
  drop_selector-sure n i = search parts depth 24 fits 4000

  spread_array-sure : (n : ℕ) (v : Value) (i : ℕ) → There o lives n v → SureAnswer o lives n (spread_array bare v i) (spread_array (full o) v i)
  unfolding spread_array
  spread_array-sure n v i h0 = search parts depth 24 fits 4000

  spreading-sure : (n : ℕ) (v : Value) → There o lives n v → SureAnswer o lives n (spreading bare v) (spreading (full o) v)
  unfolding spreading
  spreading-sure n v h0 = search (parts, check_class-sure) depth 32 fits 4000

  performed-sure : (n : ℕ) (c : Call) → CallThere o lives n c → SureAnswer o lives n (execute_by bare (respond bare) c) (execute_by (full o) (respond (full o)) c)
  performed-sure n c h = execute_by-sure (respond bare) (respond (full o)) respond-sure n c h

  execute_found-sure : (n : ℕ) (c s : Value) (i : ℕ) (a : Option Value) → There o lives n c → There o lives n s → ThereIfAny o lives n a
      → SureAnswer o lives n (execute_found bare c s i a) (execute_found (full o) c s i a)
  unfolding execute_found
  execute_found-sure n c s i None h0 h1 h2 = search (sures, not_understood-sure, performed-sure) depth 24 fits 4000
  execute_found-sure n c s i (Some m) h0 h1 h2 = performed-sure n _ (record { method = record { live = h2.live } })

  -- the stack is arranged so from here on, and later
  record Arranges (n : ℕ) (p p' : Step Births Unit) : Type 0 where
    at : (m : ℕ) → Later o lives n m → SureAnswer o lives m p p'

  later_arranges : (n m : ℕ) (p p' : Step Births Unit) → Later o lives n m → Arranges n p p' → Arranges m p p'
  later_arranges n m p p' l h = record { at = λ k e. h.at k (record { is = omega (arith, l.is, e.is) }) }

  arranged-sure : (n : ℕ) (p p' : Step Births Unit) → Arranges n p p' → SureAnswer o lives n p p'
  arranged-sure n p p' h = h.at n (record { is = omega arith })

  perform_found-sure : (n : ℕ) (e s : Value) (i : ℕ) (p p' : Step Births Unit) (a : Option Value) → There o lives n e → There o lives n s → Arranges n p p' → ThereIfAny o lives n a
      → SureAnswer o lives n (perform_found bare e s i p a) (perform_found (full o) e s i p' a)
  unfolding perform_found
  perform_found-sure n e s i p p' a h1 h2 h3 h4 =
      then_unit-sure o lives _ n p p' _ _ (arranged-sure n p p' h3)
      (λ m l. succeeds-sure m _ _ (execute_found-sure m e s i a (later_value o lives n m e l h1) (later_value o lives n m s l h2) (later_option o lives n m a l h4)))

  perform-sure : (n : ℕ) (r s : Value) (i : ℕ) (p p' : Step Births Unit) → There o lives n r → There o lives n s → Arranges n p p'
      → SureAnswer o lives n (perform bare r s i p) (perform (full o) r s i p')
  unfolding perform
  perform-sure n r s i p p' h1 h2 h3 = search (parts, find-sure, takes-sure, later_arranges, perform_found-sure) depth 32 fits 4000

  selector_dropped : (n i : ℕ) → Arranges n (drop_selector bare i) (drop_selector (full o) i)
  selector_dropped n i = record { at = λ m l. drop_selector-sure m i }

  array_spread : (n : ℕ) (v : Value) (i : ℕ) → There o lives n v → Arranges n (spread_array bare v i) (spread_array (full o) v i)
  array_spread n v i h = record { at = λ m l. spread_array-sure m v i (later_value o lives n m v l h) }

  primitive_perform-sure : (n i : ℕ) → SureAnswer o lives n (primitive_perform bare i) (primitive_perform (full o) i)
  unfolding primitive_perform
  primitive_perform-sure n i = search (parts, selector_dropped, perform-sure) depth 32 fits 4000

  perform_fields-sure : (n : ℕ) (r a b : Value) (i : Option ℕ) → There o lives n r → There o lives n a → There o lives n b
      → SureAnswer o lives n (perform_fields bare r a b i) (perform_fields (full o) r a b i)
  unfolding perform_fields
  perform_fields-sure n r a b None h1 h2 h3 = answer_itself-sure o lives n _
  perform_fields-sure n r a b (Some i) h1 h2 h3 = perform-sure n r a i _ _ h1 h2 (array_spread n b i h3)

  primitive_perform_with-sure : (n : ℕ) → SureAnswer o lives n (primitive_perform_with bare) (primitive_perform_with (full o))
  unfolding primitive_perform_with
  primitive_perform_with-sure n = search (parts, spreading-sure, perform_fields-sure) depth 32 fits 4000

  perform_by-sure : (n i : ℕ) (p : Primitive) → SureAnswer o lives n (perform_by bare i p) (perform_by (full o) i p)
  unfolding perform_by
  perform_by-sure n i named.Perform = primitive_perform-sure n (i - 1)
  perform_by-sure n i named.PerformWith = primitive_perform_with-sure n
  perform_by-sure n i p = respond_by-sure n i _

  respond_or_perform-sure : (n k i : ℕ) → SureAnswer o lives n (respond_or_perform bare k i) (respond_or_perform (full o) k i)
  unfolding respond_or_perform
  respond_or_perform-sure n k i = if_any-sure n _ _ (primitive_of k i) (perform_by-sure n i)

  execute-sure : (n : ℕ) (c : Call) → CallThere o lives n c → SureAnswer o lives n (execute bare c) (execute (full o) c)
  unfolding execute
  execute-sure n c h = execute_by-sure (respond_or_perform bare) (respond_or_perform (full o)) respond_or_perform-sure n c h

  pub executed-sure : (n : ℕ) (m m' : Step Births Call) → SureCall o lives n m m' → SureAnswer o lives n (executed bare m) (executed (full o) m')
  unfolding executed
  executed-sure n m m' h = search (sures, execute-sure) depth 16 fits 4000

  pub execute_if_any-sure : (n : ℕ) (c : Option Call) → CallThereIfAny o lives n c → SureAnswer o lives n (execute_if_any bare c) (execute_if_any (full o) c)
  unfolding execute_if_any
  execute_if_any-sure n None h = end-sure o lives n _
  execute_if_any-sure n (Some c) h = execute-sure n c (record { method = h.method })

  pub executed_if_any-sure : (n : ℕ) (m m' : Step Births (Option Call)) → SureAnyCall o lives n m m' → SureAnswer o lives n (executed_if_any bare m) (executed_if_any (full o) m')
  unfolding executed_if_any
  executed_if_any-sure n m m' h = search (sures, execute_if_any-sure) depth 16 fits 4000

  pub cannot_return-sure : (n : ℕ) (v : Value) → There o lives n v → SureCall o lives n (cannot_return bare v) (cannot_return (full o) v)
  unfolding cannot_return
  cannot_return-sure n v h0 = search (parts, send-sure) depth 24 fits 4000

  pub return_into-sure : (n : ℕ) (c : Value) (v : Value) → There o lives n c → There o lives n v → SureAnswer o lives n (return_into bare c v) (return_into (full o) c v)
  unfolding return_into
  return_into-sure n c v h0 h1 = search (parts, fetch_context_registers-sure) depth 32 fits 4000

  pub return_to-sure : (n : ℕ) (c : Value) (v : Value) → There o lives n c → There o lives n v → SureAnyCall o lives n (return_to bare c v) (return_to (full o) c v)
  unfolding return_to return_to_context calls calls_nothing
  return_to-sure n c v h0 h1 = search (parts, cannot_return-sure, return_into-sure) depth 32 fits 4000

  pub return_to_sender-sure : (n : ℕ) (v : Value) → There o lives n v → SureAnyCall o lives n (return_to_sender bare v) (return_to_sender (full o) v)
  unfolding return_to_sender
  return_to_sender-sure n v h0 = search (parts, return_to-sure) depth 24 fits 4000

  pub return_to_caller-sure : (n : ℕ) (v : Value) → There o lives n v → SureAnyCall o lives n (return_to_caller bare v) (return_to_caller (full o) v)
  unfolding return_to_caller
  return_to_caller-sure n v h0 = search (parts, return_to-sure) depth 24 fits 4000

  pub jump_on-sure : (n : ℕ) (p : PageObject) (q : PageObject) (d : ℤ) → SureAnyCall o lives n (jump_on bare p q d) (jump_on (full o) p q d)
  unfolding jump_on must_be_boolean calls calls_nothing
  jump_on-sure n p q d = search (parts, send-sure) depth 32 fits 4000

  -- rows

  pub fetch_operand-sure : (n : ℕ) (x : Operand) → SureValue o lives n (fetch_operand bare x) (fetch_operand (full o) x)
  unfolding fetch_operand fetch_receiver_variable fetch_temporary_variable fetch_literal_variable fetch_literal_constant
  fetch_operand-sure n (ReceiverVariable i) = search parts depth 24 fits 4000
  fetch_operand-sure n x = search parts depth 24 fits 4000

  pub store_operand-sure : (n : ℕ) (x : Operand) (v : Value) → There o lives n v → SureAnswer o lives n (store_operand bare x v) (store_operand (full o) x v)
  unfolding store_operand store_receiver_variable store_temporary_variable store_literal_variable fetch_literal_constant
  store_operand-sure n (LiteralConstant i) v h = die-sure o lives _ n _
  store_operand-sure n x v h = search parts depth 24 fits 4000

  pub constant_value-sure : (n : ℕ) (c : Constant) → SureValue o lives n (constant_value bare c) (constant_value (full o) c)
  unfolding constant_value
  constant_value-sure n constant.Nil = of_page-sure o lives n _
  constant_value-sure n c = search parts depth 24 fits 4000

  pub ruleset rows_sure = (parts, fetch_operand-sure, store_operand-sure, constant_value-sure, goes_on-sure, executed-sure, executed_if_any-sure, send-sure, send_to_super-sure, special_send-sure, return_to_sender-sure, return_to_caller-sure, jump_on-sure)

  pub or_send-sure : (n : ℕ) (k : ℕ) (p p' : Step Births Bool) → SureAnswer o lives n p p' → SureAnswer o lives n (or_send bare k p) (or_send (full o) k p')
  unfolding or_send
  or_send-sure n k p p' h = search rows_sure depth 24 fits 4000

  pub arithmetic_by-sure : (n : ℕ) (k : ℕ) (v : Value) → SureAnswer o lives n (arithmetic_by bare k v) (arithmetic_by (full o) k v)
  unfolding arithmetic_by
  arithmetic_by-sure n k (Small i) = search (or_send-sure, arithmetic-sure)
  arithmetic_by-sure n k (Ref i) = search rows_sure depth 24 fits 4000

  pub bytecode-sure : (n : ℕ) (b : Bytecode) → SureAnswer o lives n (bytecode bare b) (bytecode (full o) b)
  unfolding bytecode rows arithmetic_send primitive_send fetch_literal_constant
  bytecode-sure n code.Unused = die-sure o lives _ n _
  bytecode-sure n b = search (rows_sure, or_send-sure, arithmetic_by-sure, equivalence-sure, receiver_class-sure, block_copy-sure, value-sure) depth 32 fits 4000

  pub step-sure : (n : ℕ) → SureAnswer o lives n (step bare) (step (full o))
  unfolding step
  step-sure n = search (parts, bytecode-sure) depth 24 fits 4000

-- from births that a table shows

module _ (o : Object) (c : State Table) (s : State Births) (w : Shows c s) where
  abbrev IsThere : ℕ → Type 0
  IsThere k = lives s.memory k × (k < length s.memory)

  kept_there : (k : ℕ) → IsKept s.memory k → IsThere k
  kept_there k h = (inl h, borne_before s.memory k h.0 h.1)

  object_lives : (k : ℕ) (a : Object) → lives s.memory k → object_born s.memory k ≡ Some a → IsLiveObject IsThere a
  object_lives k a (inl h) e = map_object (IsKept s.memory) IsThere kept_there a (w.closed k h.0 a h.1 e)
  object_lives k a (inr l) e = let b = object_within s.memory k a e in absurd (omega arith)

  stands : at.Stands o (lives s.memory) s
  stands = record {
    page = λ q. kept_there _ (place_of q, w.page q);
    objects = object_lives;
    roots = map_all (IsKept s.memory) IsThere kept_there (roots_of s) w.roots;
    to_come = λ k l. inr l;
    kept = λ k p e. inl (p, e);
  }

  same_transition : {A : Type 0} (x y : Transition (State Births) A) → at.DoesSame o (lives s.memory) (at.Any o (lives s.memory)) s x y → y ≡ x
  same_transition (Died a) (Died b) h = ap (λ k. Died k) (sym h)
  same_transition (Died a) (Went b u) h = absurd h
  same_transition (Went a t) (Died b) h = absurd h
  same_transition (Went a t) (Went b u) h = let e = h.0 in let f = h.1 in λ i. Went (e i) (f i)

  missed : {A : Type 0} (m m' : Step Births A) → SureAnswer o (lives s.memory) 0 m m' → m'.run s ≡ m.run s
  missed m m' h = same_transition (m.run s) (m'.run s) (h.go s (omega arith) stands)

  pub misses_nothing : (step (births_with o)).run s ≡ (step births).run s
  unfolding bare full
  misses_nothing = missed (step births) (step (births_with o)) (step-sure o (lives s.memory) 0)

  pub switch_misses_nothing : (check_process_switch (births_with o)).run s ≡ (check_process_switch births).run s
  unfolding bare full
  switch_misses_nothing = missed (check_process_switch births) (check_process_switch (births_with o)) (check_process_switch-sure o (lives s.memory) 0)

  pub store_misses_nothing : (store_process (births_with o)).run s ≡ (store_process births).run s
  unfolding bare full
  store_misses_nothing = missed (store_process births) (store_process (births_with o)) (store_process-sure o (lives s.memory) 0)
