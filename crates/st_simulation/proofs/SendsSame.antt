-- Each step of a send over births does the same over pointers.
use Rattle.std.proofs.Common.{ℕ, Option, Some, None, refl}
use Rattle.std.specs.Prelude.{ℤ, pos, negsuc}
use Rattle.st_model.specs.Values.{Value, renamed}
use Rattle.st_model.specs.Machine.{ObjectMemory}
use Rattle.st_model.specs.Sends.{copy_arguments, argument_array, new_message, replace_by_message, call_not_understood, not_understood, call_found, send_from, send, class_above, send_to_super, argument_count, special_send}
use Rattle.st_simulation.proofs.Same.{Simulation, ValueSame, OptionalSame, SameValue, SameAnswer, SameCall, answer_call-same, steps_same}
use Rattle.st_simulation.proofs.StepsSame.{parts_same}
use Rattle.st_simulation.proofs.ContextsSame.{headers_same}
use Rattle.st_simulation.proofs.LookupSame.{find-same}

module _ {H K : Type 0} {M : ObjectMemory H} {N : ObjectMemory K} (sim : Simulation M N) (makes : sim.makes) where
  argument_array-same : (n : ℕ) → SameValue sim (argument_array M n) (argument_array N n)
  unfolding argument_array copy_arguments
  argument_array-same n = search parts_same depth 24 fits 4000

  new_message-same : (s t a b : Value) → ValueSame sim s t → ValueSame sim a b → SameValue sim (new_message M s a) (new_message N t b)
  unfolding new_message
  new_message-same s t a b h k = search parts_same depth 24 fits 4000

  replace_by_message-same : (s t : Value) (n : ℕ) → ValueSame sim s t → SameAnswer sim (replace_by_message M s n) (replace_by_message N t n)
  unfolding replace_by_message
  replace_by_message-same s t n h = search (parts_same, argument_array-same, new_message-same) depth 20 fits 4000

  call_not_understood-same : (s t : Value) (n : ℕ) (a b : Option Value) → ValueSame sim s t → OptionalSame sim a b → SameCall sim (call_not_understood M s n a) (call_not_understood N t n b)
  unfolding call_not_understood
  call_not_understood-same s t n None b h k = rw k.is (search steps_same)
  call_not_understood-same s t n (Some m) b h k =
      let l : ValueSame sim m (renamed sim.name m) = record { live = k.live; is = refl } in
      rw k.is (search (steps_same, replace_by_message-same) depth 16 fits 4000)

  pub not_understood-same : (c d s t : Value) (n : ℕ) → ValueSame sim c d → ValueSame sim s t → SameCall sim (not_understood M c s n) (not_understood N d t n)
  unfolding not_understood
  not_understood-same c d s t n h k = search (parts_same, find-same, call_not_understood-same) depth 16 fits 4000

  call_found-same : (c d s t : Value) (n : ℕ) (a b : Option Value) → ValueSame sim c d → ValueSame sim s t → OptionalSame sim a b → SameCall sim (call_found M c s n a) (call_found N d t n b)
  unfolding call_found
  call_found-same c d s t n None b h k l = rw l.is (not_understood-same c d s t n h k)
  call_found-same c d s t n (Some m) b h k l = rw l.is (answer_call-same sim m (renamed sim.name m) n (record { live = l.live; is = refl }))

  send_from-same : (c d s t : Value) (n : ℕ) → ValueSame sim c d → ValueSame sim s t → SameCall sim (send_from M c s n) (send_from N d t n)
  unfolding send_from
  send_from-same c d s t n h k = search (parts_same, find-same, call_found-same) depth 16 fits 4000

  pub send-same : (s t : Value) (n : ℕ) → ValueSame sim s t → SameCall sim (send M s n) (send N t n)
  unfolding send
  send-same s t n h = search (parts_same, send_from-same) depth 16 fits 4000

  pub send_to_super-same : (s t : Value) (n : ℕ) → ValueSame sim s t → SameCall sim (send_to_super M s n) (send_to_super N t n)
  unfolding send_to_super class_above
  send_to_super-same s t n h = search (headers_same, send_from-same) depth 24 fits 4000

  argument_count-same : (n : ℤ) → SameAnswer sim (argument_count n) (argument_count n)
  unfolding argument_count
  argument_count-same (pos n) = search steps_same
  argument_count-same (negsuc n) = search steps_same

  pub special_send-same : (k : ℕ) → SameCall sim (special_send M k) (special_send N k)
  unfolding special_send
  special_send-same k = search (parts_same, argument_count-same, send-same) depth 20 fits 4000
