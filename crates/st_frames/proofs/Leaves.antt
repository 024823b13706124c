-- Calls that leave a deed, where they die.
use Rattle.std.proofs.Common.{◌≡◌, Result, Err}
use Rattle.st_model.specs.declared.dead.Dead.{Dead}
use Rattle.st_model.specs.declared.deed.Deed.{Deed}
use Rattle.st_model.specs.Machine.{State, Died, Step}
use Rattle.st_model.specs.Table.{Table}
use Rattle.st_model.specs.inside.Calls.{Does}
use Rattle.st_memory.specs.declared.objects.Objects.{Ghosts}
use Rattle.st_frames.specs.declared.registers.Registers.{Registers as Words}
use Rattle.st_frames.specs.inside.Rows.{state_of, with_left, RowLeaves}
use Rattle.st_model.specs.Deeds.{with_deed}
use Rattle.st_frames.specs.inside.Answering.{RowFollows}

does_died : {A B : Type 0} (step : Step Table A) (f : B → A) (g : B → Deed) (s t : State Table) (x : Result B Dead) (k : Dead) → x ≡ Err k → step.run s ≡ Died k → Does step f s x (with_left g x t)
does_died step f g s t x k e h = rw e h

pub leaves-died : {M A B : Type 0} (o : Ghosts M) (step : Step Table A) (f : B → A) (g : B → Deed) (m n : M) (r q : Words) (x : Result B Dead) (k : Dead) → x ≡ Err k → q.world.now ≡ r.world.now
    → step.run (state_of o m r) ≡ Died k → RowLeaves o step f g m r x n q
leaves-died o step f g m n r q x k e w h = record { does = does_died step f g (state_of o m r) (state_of o n q) x k e h; world = w }

pub follows-died : {M A B : Type 0} (o : Ghosts M) (d : Deed) (step : Step Table A) (f : B → A) (g : B → Deed) (m n : M) (r q : Words) (x : Result B Dead) (k : Dead) → x ≡ Err k → q.world.now ≡ r.world.now
    → step.run (with_deed d (state_of o m r)) ≡ Died k → RowFollows o d step f g m r x n q
follows-died o d step f g m n r q x k e w h = record { does = does_died step f g (with_deed d (state_of o m r)) (state_of o n q) x k e h; world = w }

pub ruleset left = (leaves-died, follows-died)
