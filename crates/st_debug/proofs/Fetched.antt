-- The byte that comes next, as a memory has it.
use Rattle.std.proofs.Common.{◌≡◌, ℕ, Option, Some, None, Ok, Err, refl, ap, ◌∙◌}
use Rattle.std.specs.Prelude.{Result, ℤ, pos, ◌+ℤ◌, option_map}
use Rattle.std.specs.Result.{result_ok}
use Rattle.st_model.specs.declared.dead.Dead.{Dead}
use Rattle.st_model.specs.Machine.{State, Transition, Died, Went, answer, after, ◌>>=◌, ◌>>◌}
use Rattle.st_model.specs.Table.{Table, bounded_table}
use Rattle.st_model.specs.Steps.{next_byte, byte_at, get_method, get_ip, set_ip}
use Rattle.st_model.specs.inside.Calls.{transition_of, itself}
use Rattle.st_debug.specs.Watched.{At, seen_at, watched}

module _ (s : State Table) where
  abbrev pub at_code : ℕ → At
  at_code code = record { active = s.registers.active; method = s.registers.method; place = s.registers.ip +ℤ pos 1; code = code }

  abbrev rest : ℕ → State Table → Transition (State Table) ℕ
  rest b u = (set_ip (s.registers.ip +ℤ pos 1) >> answer b).run u

  by_result : (r : Result ℕ Dead) → seen_at s (after (transition_of itself r s) rest) ≡ option_map at_code (result_ok r)
  unfolding set_ip answer ◌>>◌ ◌>>=◌ after
  by_result (Ok b) = refl
  by_result (Err k) = refl

  pub fetched : (r : Result ℕ Dead) → (byte_at bounded_table s.registers.method s.registers.ip).run s ≡ transition_of itself r s → watched s ≡ option_map at_code (result_ok r)
  unfolding next_byte get_method get_ip ◌>>=◌ after
  fetched r e = ap (λ o. seen_at s (after o rest)) e ∙ by_result r
