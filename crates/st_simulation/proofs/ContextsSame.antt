-- Each step on headers and contexts over births does the same over pointers.
use Rattle.std.proofs.Common.{◌≡◌, ℕ, ◌-◌, ◌/◌, ◌%◌, Option, None, Bool, true, false, refl, ap, length}
use Rattle.std.specs.Prelude.{◌+◌, ◌==◌, ℤ, pos, negsuc, nat_lt, if◌then◌else◌}
use Rattle.st_model.specs.Values.{Value, Small, Ref}
use Rattle.st_model.specs.Objects.{Object, renamed_object, IsLiveObject}
use Rattle.st_model.specs.Machine.{ObjectMemory}
use Rattle.st_model.specs.Methods.{bits_of, flag_of, temporary_count, literal_count, context_size, from_last, method_header, literal_from_last, primitive_number, method_primitive, extension_arguments, arguments_by_extension, arguments_by, method_arguments}
use Rattle.st_model.specs.Contexts.{home_by, home_of, stack_place, fetch_stack_pointer, context_registers, fetch_context_registers, scheduled_context, fetch_scheduled_registers, store_context_registers, switch, fill_context, new_context, pass_words, activate}
use Rattle.st_simulation.proofs.Same.{Simulation, ValueSame, OptionalSame, SameValue, SameRegisters, SameAnswer, steps_same, length-renamed, none-named, field-named}
use Rattle.st_simulation.proofs.StepsSame.{memory_same, parts_same}

module _ {H K : Type 0} {M : ObjectMemory H} {N : ObjectMemory K} (sim : Simulation M N) where
  -- headers

  bits_of-same : (v w : Value) → ValueSame sim v w → bits_of w ≡ bits_of v
  bits_of-same (Small n) w h = rw h.is refl
  bits_of-same (Ref n) w h = rw h.is refl

  pub flag_of-same : (v w : Value) → ValueSame sim v w → flag_of w ≡ flag_of v
  flag_of-same v w h = ap (λ n. n / 4096) (bits_of-same v w h)

  pub temporary_count-same : (v w : Value) → ValueSame sim v w → temporary_count w ≡ temporary_count v
  temporary_count-same v w h = ap (λ n. n / 128 % 32) (bits_of-same v w h)

  literal_count-same : (v w : Value) → ValueSame sim v w → literal_count w ≡ literal_count v
  literal_count-same v w h = ap (λ n. n % 64) (bits_of-same v w h)

  context_size-same : (v w : Value) → ValueSame sim v w → context_size w ≡ context_size v
  context_size-same v w h = ap (λ n. if n / 64 % 2 == 1 then 38 else 18) (bits_of-same v w h)

  last_if : (b : Bool) (x y : Option Value) → OptionalSame sim x y → OptionalSame sim (if b then x else None) (if b then y else None)
  last_if true x y h = h
  last_if false x y h = none-named _ _

  from_last-same : (o : Object) (k : ℕ) → IsLiveObject sim.live o → OptionalSame sim (from_last o k) (from_last (renamed_object sim.name o) k)
  from_last-same o k h = rw (length-renamed sim.name o.fields) (last_if (nat_lt (k + 1) (length o.fields)) _ _ (field-named _ _ o (length o.fields - (k + 1)) h))

  pub method_header-same : (v w : Value) → ValueSame sim v w → SameValue sim (method_header M v) (method_header N w)
  unfolding method_header
  method_header-same v w h = search memory_same depth 16 fits 4000

  pub literal_from_last-same : (v w : Value) (k : ℕ) → ValueSame sim v w → SameValue sim (literal_from_last M v k) (literal_from_last N w k)
  unfolding literal_from_last
  literal_from_last-same v w k h = search (memory_same, from_last-same) depth 16 fits 4000

  primitive_number-same : (v w : Value) → ValueSame sim v w → SameAnswer sim (primitive_number v) (primitive_number w)
  unfolding primitive_number
  primitive_number-same (Small n) w h = rw h.is (search steps_same)
  primitive_number-same (Ref n) w h = rw h.is (search steps_same)

  pub method_primitive-same : (v w : Value) → ValueSame sim v w → SameAnswer sim (method_primitive M v) (method_primitive N w)
  unfolding method_primitive
  method_primitive-same v w h = search (memory_same, literal_from_last-same, primitive_number-same) depth 16 fits 4000

  extension_arguments-same : (v w : Value) → ValueSame sim v w → SameAnswer sim (extension_arguments v) (extension_arguments w)
  unfolding extension_arguments
  extension_arguments-same (Small n) w h = rw h.is (search steps_same)
  extension_arguments-same (Ref n) w h = rw h.is (search steps_same)

  arguments_by-same : (v w : Value) (flag other : ℕ) → ValueSame sim v w → other ≡ flag → SameAnswer sim (arguments_by M v flag) (arguments_by N w other)
  unfolding arguments_by arguments_by_extension
  arguments_by-same v w flag other h e = rw e (search (memory_same, literal_from_last-same, extension_arguments-same) depth 16 fits 4000)

  pub method_arguments-same : (v w : Value) → ValueSame sim v w → SameAnswer sim (method_arguments M v) (method_arguments N w)
  unfolding method_arguments
  method_arguments-same v w h = search (memory_same, flag_of-same, method_header-same, arguments_by-same) depth 16 fits 4000

  pub ruleset headers_same = (parts_same, flag_of-same, method_header-same, literal_from_last-same, method_primitive-same)

  -- contexts

  home_by-same : (c d v w : Value) → ValueSame sim c d → ValueSame sim v w → SameValue sim (home_by M c v) (home_by N d w)
  unfolding home_by
  home_by-same c d (Small n) w h k = rw k.is (search parts_same depth 16 fits 4000)
  home_by-same c d (Ref n) w h k = rw k.is (search parts_same depth 16 fits 4000)

  pub home_of-same : (c d : Value) → ValueSame sim c d → SameValue sim (home_of M c) (home_of N d)
  unfolding home_of
  home_of-same c d h = search (parts_same, home_by-same) depth 16 fits 4000

  stack_place-same : (c d : Value) (n : ℤ) → ValueSame sim c d → SameAnswer sim (stack_place M c n) (stack_place N d n)
  unfolding stack_place
  stack_place-same c d (pos n) h = search parts_same depth 16 fits 4000
  stack_place-same c d (negsuc n) h = search parts_same depth 16 fits 4000

  fetch_stack_pointer-same : (c d : Value) → ValueSame sim c d → SameAnswer sim (fetch_stack_pointer M c) (fetch_stack_pointer N d)
  unfolding fetch_stack_pointer
  fetch_stack_pointer-same c d h = search (parts_same, stack_place-same) depth 16 fits 4000

  context_registers-same : (c d : Value) → ValueSame sim c d → SameRegisters sim (context_registers M c) (context_registers N d)
  unfolding context_registers
  context_registers-same c d h = search (parts_same, home_of-same, fetch_stack_pointer-same) depth 24 fits 4000

  pub fetch_context_registers-same : (c d : Value) → ValueSame sim c d → SameAnswer sim (fetch_context_registers M c) (fetch_context_registers N d)
  unfolding fetch_context_registers
  fetch_context_registers-same c d h = search (parts_same, context_registers-same) depth 16 fits 4000

  pub fetch_scheduled_registers-same : SameAnswer sim (fetch_scheduled_registers M) (fetch_scheduled_registers N)
  unfolding fetch_scheduled_registers scheduled_context
  fetch_scheduled_registers-same = search (parts_same, fetch_context_registers-same) depth 24 fits 4000

  pub store_context_registers-same : SameAnswer sim (store_context_registers M) (store_context_registers N)
  unfolding store_context_registers
  store_context_registers-same = search parts_same depth 20 fits 4000

  pub switch-same : (c d : Value) → ValueSame sim c d → SameAnswer sim (switch M c) (switch N d)
  unfolding switch
  switch-same c d h = search (steps_same, store_context_registers-same, fetch_context_registers-same) depth 16 fits 4000

  fill_context-same : (c d m n header other : Value) → ValueSame sim c d → ValueSame sim m n → ValueSame sim header other → SameAnswer sim (fill_context M c m header) (fill_context N d n other)
  unfolding fill_context
  fill_context-same c d m n header other h k l = rw (literal_count-same header other l, temporary_count-same header other l) (search parts_same depth 20 fits 4000)

  new_context-same : (m n header other : Value) → sim.makes → ValueSame sim m n → ValueSame sim header other → SameValue sim (new_context M m header) (new_context N n other)
  unfolding new_context
  new_context-same m n header other makes h k = rw (context_size-same header other k) (search (parts_same, fill_context-same) depth 20 fits 4000)

  pass_words-same : (c d : Value) (n : ℕ) → ValueSame sim c d → SameAnswer sim (pass_words M c n) (pass_words N d n)
  unfolding pass_words
  pass_words-same c d n h = search parts_same depth 20 fits 4000

  pub activate-same : (m k header other : Value) (n : ℕ) → sim.makes → ValueSame sim m k → ValueSame sim header other → SameAnswer sim (activate M m header n) (activate N k other n)
  unfolding activate
  activate-same m k header other n makes h l = rw (context_size-same header other l, temporary_count-same header other l) (search (parts_same, new_context-same, pass_words-same, switch-same) depth 24 fits 4000)
