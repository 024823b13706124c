-- Executing a method over births does the same over pointers.
use Rattle.std.proofs.Common.{◌≡◌, ℕ, Bool, Option, Some, None, refl, ap}
use Rattle.std.specs.Prelude.{◌-◌, ◌==◌}
use Rattle.st_model.specs.declared.primitive.Primitive.{Primitive}
use Rattle.st_model.specs.declared.primitive.Primitive.TheVariants as named
use Rattle.st_model.specs.PrimitiveTable.{primitive_of}
use Rattle.st_model.specs.Values.{Value, renamed}
use Rattle.st_model.specs.Machine.{ObjectMemory, Step, answer, ◌>>◌}
use Rattle.st_model.specs.Outcomes.{Outcome, renamed_outcome, IsLiveOutcome}
use Rattle.st_model.specs.Outcomes as outcome
use Rattle.st_model.specs.Steps.{look_at_words}
use Rattle.st_model.specs.Sends.{Call}
use Rattle.st_model.specs.Methods.{flag_of}
use Rattle.st_model.specs.Executing.{goes_on, if_done, succeeds, says, asks, respond_by, respond_if_any, respond, answer_field, by_flag, or_activate, respond_by_extension, execute_by, takes, execute_found, drop_selector, spread_array, perform_found, perform, primitive_perform, spreading, perform_fields, primitive_perform_with, perform_by, respond_or_perform, execute, executed, execute_if_any, executed_if_any}
use Rattle.st_simulation.proofs.StepsSame.{parts_same}
use Rattle.st_simulation.proofs.Same.{Simulation, Same, ValueSame, OptionalSame, CallSame, AnyCallSame, SameAnswer, SameCall, SameAnyCall, SameEnd, renamed_call, answer-same, then-same, then_answer-same, then_unit-same, steps_same}
use Rattle.st_simulation.proofs.LargeSame.{large_arithmetic-same, shift_large-same}
use Rattle.st_simulation.proofs.StorageSame.{check_class-same, say-same, storage-same}
use Rattle.st_simulation.proofs.BlocksSame.{blocks-same}
use Rattle.st_simulation.proofs.ProcessesSame.{processes-same}
use Rattle.st_simulation.proofs.InputSame.{input-same}
use Rattle.st_simulation.proofs.PrimitivesSame.{answer_with-same, arithmetic-same, equivalence-same, receiver_class-same, flush_cache-same}
use Rattle.st_simulation.proofs.ContextsSame.{headers_same, flag_of-same, method_primitive-same, activate-same, temporary_count-same, method_arguments-same}
use Rattle.st_simulation.proofs.LookupSame.{find-same}
use Rattle.st_simulation.proofs.SendsSame.{not_understood-same}

-- how a primitive ends, or none where it failed
abbrev IsLiveAnyEnd : (ℕ → Type 0) → Option Outcome → Type 0
IsLiveAnyEnd live None = Unit {0}
IsLiveAnyEnd live (Some o) = IsLiveOutcome live o

abbrev renamed_any_end : (ℕ → ℕ) → Option Outcome → Option Outcome
renamed_any_end f None = None
renamed_any_end f (Some o) = Some (renamed_outcome f o)

abbrev SameAnyEnd : {H K : Type 0} {M : ObjectMemory H} {N : ObjectMemory K} → Simulation M N → Step H (Option Outcome) → Step K (Option Outcome) → Type 0
SameAnyEnd sim m n = Same sim (IsLiveAnyEnd sim.live) (renamed_any_end sim.name) m n

record EndSame {H K : Type 0} {M : ObjectMemory H} {N : ObjectMemory K} (sim : Simulation M N) (a b : Outcome) : Type 0 where
  live : IsLiveOutcome sim.live a
  is : b ≡ renamed_outcome sim.name a

-- what 83 and 84 ask, and how they arrange the stack; nothing is made
module _ {H K : Type 0} {M : ObjectMemory H} {N : ObjectMemory K} (sim : Simulation M N) where
  takes-same : (n : ℕ) (a b : Option Value) → OptionalSame sim a b → SameAnswer sim (takes M n a) (takes N n b)
  unfolding takes
  takes-same n None b h = rw h.is (search steps_same)
  takes-same n (Some m) b h =
      let k : ValueSame sim m (renamed sim.name m) = record { live = h.live; is = refl } in
      rw h.is (search (steps_same, method_arguments-same) depth 16 fits 4000)

  drop_selector-same : (n : ℕ) → SameAnswer sim (drop_selector M n) (drop_selector N n)
  unfolding drop_selector
  drop_selector-same n = search parts_same depth 24 fits 4000

  spread_array-same : (v w : Value) (n : ℕ) → ValueSame sim v w → SameAnswer sim (spread_array M v n) (spread_array N w n)
  unfolding spread_array
  spread_array-same v w n h = search parts_same depth 24 fits 4000

  spreading-same : (v w : Value) → ValueSame sim v w → SameAnswer sim (spreading M v) (spreading N w)
  unfolding spreading
  spreading-same v w h = search (parts_same, check_class-same) depth 32 fits 4000

module _ {H K : Type 0} {M : ObjectMemory H} {N : ObjectMemory K} (sim : Simulation M N) (makes : sim.makes) where
  pub goes_on-same : (m : Step H Unit) (n : Step K Unit) → SameAnswer sim m n → SameEnd sim (goes_on m) (goes_on n)
  unfolding goes_on
  goes_on-same m n h = search steps_same depth 16 fits 4000

  -- a primitive that is tried

  none-same : SameAnyEnd sim (answer None) (answer None)
  none-same = answer-same sim _ _ _ _ tt refl

  some-same : (a b : Outcome) → EndSame sim a b → SameAnyEnd sim (answer (Some a)) (answer (Some b))
  some-same a b h = answer-same sim _ _ _ _ h.live (ap (λ x. Some x) h.is)

  if_done-same : (a b : Outcome) (m : Step H Bool) (n : Step K Bool) → EndSame sim a b → SameAnswer sim m n → SameAnyEnd sim (if_done a m) (if_done b n)
  unfolding if_done
  if_done-same a b m n h k = search (steps_same, none-same, some-same) depth 16 fits 4000

  went_end : EndSame sim outcome.Went outcome.Went
  went_end = record { live = tt; is = refl }

  said_end : (v w : Value) → ValueSame sim v w → EndSame sim (outcome.Say v) (outcome.Say w)
  said_end v w h = record { live = h.live; is = ap (λ x. outcome.Say x) h.is }

  succeeds-same : (m : Step H Outcome) (n : Step K Outcome) → SameEnd sim m n → SameAnyEnd sim (succeeds m) (succeeds n)
  unfolding succeeds
  succeeds-same m n h = then-same sim _ _ _ _ m n _ _ h (λ a l. some-same a (renamed_outcome sim.name a) (record { live = l; is = refl }))

  says-same : SameAnyEnd sim (says M) (says N)
  unfolding says
  says-same = search (parts_same, if_done-same, said_end, say-same) depth 16 fits 4000

  asks-same : (o : Outcome) → SameEnd sim (answer o) (answer o) → SameEnd sim (asks M o) (asks N o)
  unfolding asks
  asks-same o h = search (parts_same, answer_with-same, h) depth 16 fits 4000

  snapshot-same : SameEnd sim (asks M outcome.Snapshot) (asks N outcome.Snapshot)
  snapshot-same = asks-same _ (answer-same sim _ _ _ _ tt refl)

  quit-same : SameEnd sim (asks M outcome.Quit) (asks N outcome.Quit)
  quit-same = asks-same _ (answer-same sim _ _ _ _ tt refl)

  debugger-same : SameEnd sim (asks M outcome.Debugger) (asks N outcome.Debugger)
  debugger-same = asks-same _ (answer-same sim _ _ _ _ tt refl)

  ruleset primitives_same = (none-same, goes_on-same, if_done-same, went_end, succeeds-same, snapshot-same, quit-same, debugger-same, arithmetic-same, large_arithmetic-same, shift_large-same, equivalence-same, receiver_class-same, flush_cache-same, storage-same, blocks-same, processes-same, input-same)

  respond_by-same : (n : ℕ) (p : Primitive) → SameAnyEnd sim (respond_by M n p) (respond_by N n p)
  unfolding respond_by
  respond_by-same n named.Say = says-same
  respond_by-same n p = search primitives_same depth 16 fits 4000

  if_any-same : (f : Primitive → Step H (Option Outcome)) (g : Primitive → Step K (Option Outcome)) (p : Option Primitive) → ((q : Primitive) → SameAnyEnd sim (f q) (g q))
      → SameAnyEnd sim (respond_if_any M f p) (respond_if_any N g p)
  unfolding respond_if_any
  if_any-same f g None h = none-same
  if_any-same f g (Some p) h = h p

  respond-same : (k n : ℕ) → SameAnyEnd sim (respond M k n) (respond N k n)
  unfolding respond
  respond-same k n = if_any-same _ _ (primitive_of k n) (respond_by-same n)

  by_flag-same : (c : Call) (v w : Value) (flag other : ℕ) → ValueSame sim c.method (renamed sim.name c.method) → ValueSame sim v w → other ≡ flag
      → SameEnd sim (by_flag M c v flag) (by_flag N (renamed_call sim.name c) w other)
  unfolding by_flag answer_field
  by_flag-same c v w flag other h k e = rw (temporary_count-same sim v w k, e) (search (parts_same, goes_on-same, activate-same) depth 24 fits 4000)

  or_activate-same : (c : Call) (v w : Value) (a : Option Outcome) → IsLiveAnyEnd sim.live a → ValueSame sim c.method (renamed sim.name c.method) → ValueSame sim v w
      → SameEnd sim (or_activate M c v a) (or_activate N (renamed_call sim.name c) w (renamed_any_end sim.name a))
  unfolding or_activate
  or_activate-same c v w None l h k = search (goes_on-same, activate-same) depth 16 fits 4000
  or_activate-same c v w (Some a) l h k = answer-same sim _ _ a (renamed_outcome sim.name a) l refl

  -- by what responds to a primitive
  module _ (f : ℕ → ℕ → Step H (Option Outcome)) (g : ℕ → ℕ → Step K (Option Outcome)) (responds : (k n : ℕ) → SameAnyEnd sim (f k n) (g k n)) where
    extension-same : (c : Call) (v w : Value) → ValueSame sim c.method (renamed sim.name c.method) → ValueSame sim v w
        → SameEnd sim (respond_by_extension M f c v) (respond_by_extension N g (renamed_call sim.name c) w)
    unfolding respond_by_extension
    extension-same c v w h k =
        then_answer-same sim _ _ _ _ _ _ (method_primitive-same sim c.method (renamed sim.name c.method) h)
        (λ i. then-same sim _ _ _ _ (f i c.arguments) (g i c.arguments) _ _ (responds i c.arguments) (λ a l. or_activate-same c v w a l h k))

    is_seven-same : (v w : Value) → ValueSame sim v w → (flag_of w == 7) ≡ (flag_of v == 7)
    is_seven-same v w h = ap (λ n. n == 7) (flag_of-same sim v w h)

    execute_by-same : (c d : Call) → CallSame sim c d → SameEnd sim (execute_by M f c) (execute_by N g d)
    unfolding execute_by
    execute_by-same c d h =
        let k : ValueSame sim c.method (renamed sim.name c.method) = record { live = h.live; is = refl } in
        rw h.is (search (headers_same, is_seven-same, extension-same, by_flag-same) depth 16 fits 4000)

  -- 83 and 84

  performed-same : (c d : Call) → CallSame sim c d → SameEnd sim (execute_by M (respond M) c) (execute_by N (respond N) d)
  performed-same c d h = execute_by-same (respond M) (respond N) respond-same c d h

  execute_found-same : (c d s t : Value) (n : ℕ) (a b : Option Value) → ValueSame sim c d → ValueSame sim s t → OptionalSame sim a b
      → SameEnd sim (execute_found M c s n a) (execute_found N d t n b)
  unfolding execute_found
  execute_found-same c d s t n None b h k l = rw l.is (search (steps_same, not_understood-same, performed-same) depth 16 fits 4000)
  execute_found-same c d s t n (Some m) b h k l = rw l.is (performed-same _ _ (record { live = l.live; is = refl }))

  perform_found-same : (c d s t : Value) (n : ℕ) (p : Step H Unit) (q : Step K Unit) (a b : Option Value)
      → ValueSame sim c d → ValueSame sim s t → SameAnswer sim p q → OptionalSame sim a b → SameAnyEnd sim (perform_found M c s n p a) (perform_found N d t n q b)
  unfolding perform_found
  perform_found-same c d s t n p q a b h k j l = then_unit-same sim _ _ p q _ _ j (succeeds-same _ _ (execute_found-same c d s t n a b h k l))

  perform-same : (r r' s t : Value) (n : ℕ) (p : Step H Unit) (q : Step K Unit)
      → ValueSame sim r r' → ValueSame sim s t → SameAnswer sim p q → SameAnyEnd sim (perform M r s n p) (perform N r' t n q)
  unfolding perform
  perform-same r r' s t n p q h k j = search (parts_same, none-same, find-same, takes-same, perform_found-same) depth 24 fits 4000

  primitive_perform-same : (n : ℕ) → SameAnyEnd sim (primitive_perform M n) (primitive_perform N n)
  unfolding primitive_perform
  primitive_perform-same n = search (parts_same, drop_selector-same, perform-same) depth 24 fits 4000

  perform_fields-same : (r r' a a' b b' : Value) (n : Option ℕ) → ValueSame sim r r' → ValueSame sim a a' → ValueSame sim b b'
      → SameAnyEnd sim (perform_fields M r a b n) (perform_fields N r' a' b' n)
  unfolding perform_fields
  perform_fields-same r r' a a' b b' None h k l = none-same
  perform_fields-same r r' a a' b b' (Some n) h k l = search (perform-same, spread_array-same) depth 16 fits 4000

  primitive_perform_with-same : SameAnyEnd sim (primitive_perform_with M) (primitive_perform_with N)
  unfolding primitive_perform_with
  primitive_perform_with-same = search (parts_same, spreading-same, perform_fields-same) depth 24 fits 4000

  perform_by-same : (n : ℕ) (p : Primitive) → SameAnyEnd sim (perform_by M n p) (perform_by N n p)
  unfolding perform_by
  perform_by-same n named.Perform = primitive_perform-same (n - 1)
  perform_by-same n named.PerformWith = primitive_perform_with-same
  perform_by-same n p = respond_by-same n _

  respond_or_perform-same : (k n : ℕ) → SameAnyEnd sim (respond_or_perform M k n) (respond_or_perform N k n)
  unfolding respond_or_perform
  respond_or_perform-same k n = if_any-same _ _ (primitive_of k n) (perform_by-same n)

  pub tried-same : (k n : ℕ) → SameAnyEnd sim (look_at_words M n >> respond_or_perform M k n) (look_at_words N n >> respond_or_perform N k n)
  unfolding look_at_words
  tried-same k n = search (parts_same, respond_or_perform-same) depth 16 fits 4000

  execute-same : (c d : Call) → CallSame sim c d → SameEnd sim (execute M c) (execute N d)
  unfolding execute
  execute-same c d h = execute_by-same (respond_or_perform M) (respond_or_perform N) respond_or_perform-same c d h

  pub executed-same : (m : Step H Call) (n : Step K Call) → SameCall sim m n → SameEnd sim (executed M m) (executed N n)
  unfolding executed
  executed-same m n h = search (steps_same, execute-same) depth 16 fits 4000

  execute_if_any-same : (c d : Option Call) → AnyCallSame sim c d → SameEnd sim (execute_if_any M c) (execute_if_any N d)
  unfolding execute_if_any
  execute_if_any-same None d h = rw h.is (search steps_same)
  execute_if_any-same (Some c) d h = rw h.is (execute-same c (renamed_call sim.name c) (record { live = h.live; is = refl }))

  pub executed_if_any-same : (m : Step H (Option Call)) (n : Step K (Option Call)) → SameAnyCall sim m n → SameEnd sim (executed_if_any M m) (executed_if_any N n)
  unfolding executed_if_any
  executed_if_any-same m n h = search (steps_same, execute_if_any-same) depth 16 fits 4000
