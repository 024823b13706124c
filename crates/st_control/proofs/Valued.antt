-- How blocks are made and valued, by their conditions.
use Rattle.std.proofs.Common.{◌≡◌, ◌≢◌, ◌≤◌, ℕ, Bool, true, false, refl, arith}
use Rattle.std.specs.Prelude.{◌||◌, ◌==◌, ℤ, pos, ◌+ℤ◌, ◌≤ℤ◌, ◌<ℤ◌, int_le}
use Rattle.std.proofs.lemmas.Bool.Decides.{nat_tests}
use Rattle.std.proofs.lemmas.Int.{ints, to_z-of_z}
use Rattle.st_model.specs.declared.dead.Dead.{Dead}
use Rattle.st_model.specs.declared.dead.Dead.TheVariants as dead
use Rattle.st_model.specs.declared.word.Word.{Word}
use Rattle.st_model.specs.Values.{Value, word}
use Rattle.st_model.specs.Machine.{ObjectMemory, Head, State, Transition, Died, Went, answer, after, ◌>>=◌, ◌>>◌}
use Rattle.st_model.specs.Steps.{check, count_fields, get_active, top, under}
use Rattle.st_model.specs.Contexts.{home_of}
use Rattle.st_model.specs.Primitives.{positive_small}
use Rattle.st_model.specs.Blocks.{check_context, home_of_block, new_block, primitive_block_copy, start_of, value_with_words, value_if_any, primitive_value, passing, value_with_fields, value_with_if_any, primitive_value_with}
use Rattle.st_model.specs.Table.{Table}
use Rattle.st_model.proofs.Runs.{check-at_most, run-passed, run-failed, run-tried_went, run-tried_died}
use Rattle.st_frames.specs.declared.registers.Registers.{Registers as Words}
use Rattle.st_frames.specs.inside.Rows.{row_state}
use Rattle.st_frames.specs.inside.Answering.{succeed_by}
use Rattle.st_frames.proofs.Doing.{rows, checks, row-memory, row-ip}
use Rattle.st_frames.proofs.Tries.{primitive-done}
use Rattle.st_control.specs.declared.passing.Passing.{Passing as CodePassing}
use Rattle.st_control.specs.inside.Passed.{first_of, passing_of}
use Rattle.st_model.proofs.IntegerTests.{le_true, le_false}
use Rattle.std.proofs.lemmas.Bool.{or_from, or_left}

pub other : (a b : Bool) → a ≡ false → b ≡ true → (a || b) ≡ true
other true b e f = refl
other false b e f = f

pub ruleset contexts = (rows, run-passed, run-failed, or_left, other, or_from)

-- the place 3 bytes on is at most 16383, or past it

pub place-within : (k : Dead) (i : ℤ) (s : State Table) → i ≤ℤ pos 16380 → (check k (int_le (i +ℤ pos 3) (pos 16383))).run s ≡ Went tt s
place-within k i s l = run-passed k _ s (le_true (i +ℤ pos 3) (pos 16383) (omega (arith, ints, l)))

pub place-past : (k : Dead) (i : ℤ) (s : State Table) → pos 16380 <ℤ i → (check k (int_le (i +ℤ pos 3) (pos 16383))).run s ≡ Died k
place-past k i s l = run-failed k _ s (le_false (i +ℤ pos 3) (pos 16383) (omega (arith, ints, l)))

module _ (m : ObjectMemory Table) (v w home : Value) (k n : ℕ) (t : Table) (a : Head) (r : Words)
    (context : (check_context m v).run (row_state t a r) ≡ Went tt (row_state t a r)) (small : (positive_small w).run (row_state t a r) ≡ Went k (row_state t a r))
    (is : (s : State Table) → s.memory ≡ t → (home_of m v).run s ≡ Went home s) (count : (s : State Table) → s.memory ≡ t → (count_fields m home).run s ≡ Went n s) (large : 6 ≤ n) where
  pub home-within : r.ip ≤ℤ pos 16380 → (home_of_block m v w).run (row_state t a r) ≡ Went home (row_state t a r)
  unfolding home_of_block ◌>>=◌ ◌>>◌ after answer
  home-within l =
      rw (context, small, is (row_state t a r) (row-memory t a r), count (row_state t a r) (row-memory t a r), check-at_most dead.Field 6 n (row_state t a r) large, row-ip t a r, place-within dead.Ip r.ip (row_state t a r) l) refl

  pub home-past : pos 16380 <ℤ r.ip → (home_of_block m v w).run (row_state t a r) ≡ Died dead.Ip
  unfolding home_of_block ◌>>=◌ ◌>>◌ after answer
  home-past l =
      rw (context, small, is (row_state t a r) (row-memory t a r), count (row_state t a r) (row-memory t a r), check-at_most dead.Field 6 n (row_state t a r) large, row-ip t a r, place-past dead.Ip r.ip (row_state t a r) l) refl

-- a block's number of arguments is the one asked for, or another

pub count-same : (k : Dead) (a b : ℕ) (s : State Table) → a ≡ b → (check k (a == b)).run s ≡ Went tt s
count-same k a b s e = run-passed k (a == b) s (grind (arith, nat_tests))

pub count-other : (k : Dead) (a b : ℕ) (s : State Table) → a ≢ b → (check k (a == b)).run s ≡ Died k
count-other k a b s d = run-failed k (a == b) s (grind (arith, nat_tests))

pub ruleset starts = (checks, count-same, count-other)

-- with an integer that is passed on
pub ruleset integers = (rows, to_z-of_z)

-- what is stored changes no register
pub stored-active : (t u : Table) (a : Head) (r : Words) → get_active.run (record (row_state t a r) { memory = u }) ≡ Went (word r.active) (record (row_state t a r) { memory = u })
unfolding get_active row_state
stored-active t u a r = refl

pub ruleset entering = (rows, to_z-of_z, stored-active)

-- primitives whose conditions hold

pub tried-block : (m : ObjectMemory Table) (v w home : Value) (s : State Table) (y : Transition (State Table) Bool) → (under m 1).run s ≡ Went v s → (top m).run s ≡ Went w s
    → (home_of_block m v w).run s ≡ Went home s → (succeed_by m 1 (new_block m home w)).run s ≡ y → (primitive_block_copy m).run s ≡ y
unfolding primitive_block_copy ◌>>=◌ after
tried-block m v w home s y e f h k = rw (e, f) (primitive-done m 1 (home_of_block m v w) (λ home. new_block m home w) s home y h k)

pub tried-value : (m : ObjectMemory Table) (n : ℕ) (v : Word) (p : CodePassing) (s : State Table) (y : Transition (State Table) Bool) → p.block ≡ v → p.count ≡ n → (under m n).run s ≡ Went (word v) s
    → (start_of m (word v) n).run s ≡ Went (first_of p) s → (value_with_words m (word p.block) p.count p.first).run s ≡ y → (primitive_value m n).run s ≡ y
unfolding primitive_value value_if_any ◌>>=◌ after
tried-value m n v p s y b c e h k = rw (e, run-tried_went (start_of m (word v) n) s s p.first h) (rw (b, c) at k)

pub tried-value_with : (m : ObjectMemory Table) (v : Word) (w : Value) (p : CodePassing) (s : State Table) (y : Transition (State Table) Bool) → p.block ≡ v → (under m 1).run s ≡ Went (word v) s → (top m).run s ≡ Went w s
    → (passing m (word v) w).run s ≡ Went (passing_of p) s → (value_with_fields m (word p.block) w (passing_of p)).run s ≡ y → (primitive_value_with m).run s ≡ y
unfolding primitive_value_with value_with_if_any ◌>>=◌ after
tried-value_with m v w p s y b e f h k = rw (e, f, run-tried_went (passing m (word v) w) s s (passing_of p) h) (rw b at k)

-- and such as fail
pub ruleset values = (rows, run-tried_died, run-tried_went)
