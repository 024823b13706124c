-- A calm world: nothing comes before a bytecode. And when nothing is warned of after it.
use Rattle.std.proofs.Common.{◌≡◌, ℕ, Bool, true, false, Ok, Some, None, refl, ◌∙◌, ap}
use Rattle.std.specs.Prelude.{◌==◌, not, length, if◌then◌else◌}
use Rattle.st_model.specs.declared.deed.Deed.{Deed}
use Rattle.st_model.specs.declared.device.Device.TheVariants.{LowSpace}
use Rattle.st_model.specs.Objects.{nil}
use Rattle.st_model.specs.Outcomes.{Ending}
use Rattle.st_model.specs.Machine.{World, State, Transition, Went}
use Rattle.st_model.specs.Table.{Table, table, bounded_table}
use Rattle.st_model.specs.Events.{is_held, signalled_once}
use Rattle.st_model.specs.Cycles.{free_space, signal_newest, check_process_switch, warned, warned_if_low}
use Rattle.st_model.specs.inside.Foreseen.{foreseen_cycle}
use Rattle.st_machine.proofs.Done.{none_left, signals_made, waits_not, no_signals}
use Rattle.st_model.specs.View.{View, SettlesTo}
use Rattle.st_frames.specs.declared.frame.Frame.{Frame}
use Rattle.st_frames.specs.inside.Shown.{shown, IsReady}
use Rattle.st_frames.proofs.Settled.{settled_same}
use Rattle.st_model.specs.Outcomes as outcome
use Rattle.st_machine.specs.declared.doing.StretchEnd.TheVariants.{Warns}
use Rattle.st_machine.specs.inside.Cycling.{IsCalm, GoesBy, GoesCalmly, Finishes, warns, foreseen_step}
use Rattle.st_machine.proofs.Foreseeing.{from_switch}
use Rattle.std.proofs.lemmas.Bool.{and_parts}

held_not : (b : Bool) → not b ≡ true → b ≡ false
held_not true e = cc
held_not false e = refl

nothing_before : (s : State Table) → IsCalm s.world → (check_process_switch bounded_table).run s ≡ Went tt s
nothing_before s calm =
    let p = and_parts (length s.world.devices.pending == 0) (not (is_held nil s.world.devices.new_process)) calm in
    let none : (signal_newest bounded_table (length s.world.devices.pending)).run s ≡ Went tt s =
    ap (λ (n : ℕ). (signal_newest bounded_table n).run s) (no_signals s.world.devices.pending p.0) ∙ none_left s in
    signals_made s s none ∙ waits_not s (held_not (is_held nil s.world.devices.new_process) p.1)

-- a cycle is one from the bytecode on
pub calm_cycle : (c : State Table) (o : Transition (State Table) Ending) → IsCalm c.world → foreseen_step c ≡ o → foreseen_cycle c ≡ o
calm_cycle c o calm e = from_switch c c o (nothing_before c calm) e

-- nothing is warned of
pub unwarned : (d : State Table) → warns (free_space table d) d.world ≡ false → warned table d ≡ d
unwarned d e =
    let same : warned_if_low nil (free_space table d) d.world ≡ d.world = ap (λ (b : Bool). if b then signalled_once nil LowSpace d.world else d.world) e in
    λ i. record { memory = d.memory; registers = d.registers; world = same i; head = d.head }

-- what comes after a bytecode that was done is done, and what was warned of is told of, or nothing is
pub calmly_finished : (start : State Table) (u k : View) (f : Frame) (w : World) (left : Deed) (b : Bool) → GoesBy (foreseen_step start) outcome.Went (Finishes (shown u f w)) → IsReady u f w
    → SettlesTo u k → warns (free_space table (shown k f w)) w ≡ b → GoesCalmly start left (Ok (if b then Some Warns else None)) (shown k f w)
calmly_finished start u k f w left true goes ready settles e = λ d l. goes d (ap (warned table) (settled_same u k f w ready settles) ∙ l)
calmly_finished start u k f w left false goes ready settles e =
    goes (shown k f w) (ap (warned table) (settled_same u k f w ready settles) ∙ unwarned (shown k f w) e)
