-- What a primitive comes to that is tried by its number, and how many changes it makes.
use Rattle.std.proofs.Common.{◌≡◌, ◌≤◌, ℕ, Bool, true, Option, Some, None, Result, Ok, Err, refl, sym, subst, arith}
use Rattle.st_model.specs.declared.dead.Dead.{Dead}
use Rattle.st_model.specs.Values.{Value}
use Rattle.st_model.specs.Outcomes as outcome
use Rattle.st_model.specs.Machine.{ObjectMemory, State, Went, Step, answer, after, ◌>>=◌}
use Rattle.st_model.specs.Steps.{top}
use Rattle.st_model.specs.Storage.{primitive_say}
use Rattle.st_model.specs.Table.{Table}
use Rattle.st_memory.specs.declared.objects.Objects.{Ghosts}
use Rattle.st_frames.specs.declared.registers.Registers.{Registers as Words}
use Rattle.st_frames.specs.declared.ending.RowEnd.{RowEnd}
use Rattle.st_frames.specs.declared.tried.Tried.{Tried}
use Rattle.st_frames.specs.declared.tried.Tried.TheVariants.{Failed, Done, Leaves}
use Rattle.st_frames.specs.inside.Rows.{Takes, with_left, is_done, deed_of_trial, tried_changes, storage_changes, response_changes, execution_changes}
use Rattle.st_frames.proofs.Doing.{rows}
use Rattle.st_model.specs.Executing.{if_done, says}
use Rattle.st_step.specs.inside.Responding.{end_of_trial, outcome_if_any, deed_if_any, number_changes}

-- one that performs nothing makes no more than one that may
pub responds_within : {M : Type 0} (o : Ghosts M) (x : Result (Option RowEnd) Dead) (old new : M) → Takes o (number_changes response_changes x) old new → Takes o (number_changes execution_changes x) old new
responds_within o (Ok None) old new t = t
responds_within o (Ok (Some end)) old new t = record { room = omega (arith, t.room); fixed = t.fixed }
responds_within o (Err cause) old new t = record { room = omega (arith, t.room); fixed = t.fixed }

-- one that its family tried is done, or failed
pub tried_ends : (p : Step Table Bool) (t : Tried) (s u : State Table) (q : Words) (x : Option RowEnd) → p.run s ≡ Went (is_done t) (with_left (deed_of_trial q.left) (Ok t) u) → x ≡ end_of_trial t
    → (if_done outcome.Went p).run s ≡ Went (outcome_if_any q x) (with_left (deed_if_any q) (Ok x) u)
unfolding if_done ◌>>=◌ after answer
tried_ends p Failed s u q x e f = rw (e, f) refl
tried_ends p Done s u q x e f = rw (e, f) refl
tried_ends p Leaves s u q x e f = rw (e, f) refl

pub takes_few : {M : Type 0} (o : Ghosts M) (n : ℕ) (t : Tried) (x : Option RowEnd) (old new : M) → x ≡ end_of_trial t → n ≤ storage_changes → Takes o n old new
    → Takes o (number_changes response_changes (Ok x)) old new
takes_few o n Failed x old new e l k = subst (λ y. Takes o (number_changes response_changes (Ok y)) old new) (sym e) (record { room = omega (arith, k.room); fixed = k.fixed })
takes_few o n Done x old new e l k = subst (λ y. Takes o (number_changes response_changes (Ok y)) old new) (sym e) (record { room = omega (arith, k.room); fixed = k.fixed })
takes_few o n Leaves x old new e l k = subst (λ y. Takes o (number_changes response_changes (Ok y)) old new) (sym e) (record { room = omega (arith, k.room); fixed = k.fixed })

pub takes_tried : {M : Type 0} (o : Ghosts M) (n : ℕ) (t : Tried) (x : Option RowEnd) (old new : M) → x ≡ end_of_trial t → n ≤ response_changes → Takes o (tried_changes n (Ok t)) old new
    → Takes o (number_changes response_changes (Ok x)) old new
takes_tried o n Failed x old new e l k = subst (λ y. Takes o (number_changes response_changes (Ok y)) old new) (sym e) (record { room = omega (arith, k.room); fixed = k.fixed })
takes_tried o n Done x old new e l k = subst (λ y. Takes o (number_changes response_changes (Ok y)) old new) (sym e) (record { room = omega (arith, k.room); fixed = k.fixed })
takes_tried o n Leaves x old new e l k = subst (λ y. Takes o (number_changes response_changes (Ok y)) old new) (sym e) (record { room = omega (arith, k.room); fixed = k.fixed })

-- one that has the receiver's bytes said
pub says_done : (m : ObjectMemory Table) (v : Value) (b : Bool) (s t : State Table) → b ≡ true → (top m).run s ≡ Went v s → (primitive_say m v).run s ≡ Went b t → (says m).run s ≡ Went (Some (outcome.Say v)) t
unfolding says if_done ◌>>=◌ after answer
says_done m v b s t done receiver said = rw (receiver, said, done) refl

-- a primitive that its family tries
pub ruleset trials = (tried_ends, takes_few, takes_tried, rows)
