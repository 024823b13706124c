-- What a session says of what it is asked to look at.
use Rattle.std.proofs.Common.{◌≡◌, List, ℕ, [], Bool, true, false, refl, sym, ap, ◌∙◌, arith}
use Rattle.std.specs.Prelude.{Option, Some, None, is_some, unwrap_or, Result, Ok, Err}
use Rattle.st_model.specs.Births.{Births}
use Rattle.st_model.specs.Machine.{State}
use Rattle.st_model.specs.Show.{Shows, show}
use Rattle.st_model.specs.Values.{value}
use Rattle.st_model.specs.View.{View, IsWhole}
use Rattle.st_model.proofs.Showing.{show_is}
use Rattle.st_debug.specs.Stack.{stack_text}
use Rattle.st_debug.specs.Watched.{watched}
use Rattle.st_machine.specs.declared.machine.Machine.{Machine}
use Rattle.st_frames.specs.declared.world.World.{World}
use Rattle.st_host.specs.declared.host.Host.{Ghosts}
use Rattle.st_host.specs.declared.host.SayFault.{SayFault}
use Rattle.st_host.specs.Counts.{HasCause, Rose}
use Rattle.st_host.specs.Runs.{SaysAll}
use Rattle.st_host.specs.inside.Telling.{Says}
use Rattle.st_host.proofs.Telling.{says_begun}
use Rattle.st_frames.specs.declared.frame.Frame.{Frame}
use Rattle.st_frames.specs.inside.Shown.{IsReady, shown}
use Rattle.st_protocol.specs.declared.status.Status.{Status}
use Rattle.st_protocol.specs.declared.status.Status.TheVariants as status
use Rattle.st_session.specs.Browsing.{memory_of}
use Rattle.st_session.specs.inside.Standing.{shown_by}
use Rattle.st_call.specs.inside.Telling.{Tells}
use Rattle.st_call.proofs.Saying.{tells_all, tells_part}
use Rattle.st_session.proofs.Saying.{tells_behind}

-- a memory that is ready is as its machine's state has it
pub memory_is : (v : View) (f : Frame) (w : World) → IsReady v f w → v ≡ memory_of (shown v f w)
memory_is v f w ready = λ i. record {
  objects = v.objects;
  held = record {
    active = sym ready.frame.active i;
    home = sym ready.frame.home i;
    method = sym ready.frame.method i;
    receiver = sym ready.frame.receiver i;
    devices = ready.devices i;
  };
  head = v.head;
}

-- that memory, where its machine shows a state
pub memory_shown : {M : Type 0} (view : M → View) (m : Machine M) (n : M) → n ≡ m.memory → IsReady (view m.memory) m.frame m.world → IsWhole (view m.memory) → (s : State Births) → Shows (shown_by view m) s → view n ≡ memory_of (show s)
memory_shown view m n is ready whole s shows =
    ap view is ∙ (memory_is (view m.memory) m.frame m.world ready ∙ ap memory_of (sym (show_is (shown_by view m) s shows whole.places)))

-- the stack is that of the machine
pub same_stack : {M : Type 0} (view : M → View) {a b : M} {f h : Frame} → a ≡ b → f ≡ h → stack_text (view a).objects (value f.active) ≡ stack_text (view b).objects (value h.active)
same_stack view e s = λ i. stack_text (view (e i)).objects (value (s i).active)

-- and so is what is seen of its next bytecode
pub same_watched : {M : Type 0} (view : M → View) (w : World) {a b : M} {f h : Frame} → a ≡ b → f ≡ h → watched (shown (view a) f w) ≡ watched (shown (view b) h w)
same_watched view w e s = λ i. watched (shown (view (e i)) (s i) w)

module _ {D : Type 0} (host : Ghosts D) where
  failed : (text : List ℕ) (old new : D) → Says host text old new → Rose (host.say_faults old) (host.say_faults new) → Tells host text old new (Err status.SayFault)
  failed text old new says rose = record {
    all = tt;
    says = says;
    fault = refl;
    counts = record { disk = omega (arith, says.disk_count); say = says.part.say; cause = rose };
    served = tt;
  }

module _ {D : Type 0} (host : Ghosts D) (missing : List ℕ) where
  -- what is asked for is there, and was said
  pub there_said : (o : Option (List ℕ)) (old new : D) → is_some o ≡ true → SaysAll host (unwrap_or o []) old new → Says host (unwrap_or o []) old new → Tells host (unwrap_or o missing) old new (Ok tt)
  there_said None old new there all says = cc
  there_said (Some text) old new there all says = tells_all host text old new all says

  -- it is missing, and that was said
  pub missing_said : (o : Option (List ℕ)) (old mid new : D) (result : Result Unit Status) → is_some o ≡ false → SaysAll host (unwrap_or o []) old mid → Says host (unwrap_or o []) old mid → Tells host missing mid new result
      → Tells host (unwrap_or o missing) old new result
  missing_said None old mid new result gone all says end = tells_behind host missing old mid new result all says end
  missing_said (Some text) old mid new result gone all says end = cc

  -- a fault came
  pub fault_said : (o : Option (List ℕ)) (old new : D) (fault : SayFault) → Says host (unwrap_or o []) old new → HasCause {T = Bool} {E = SayFault} (host.say_faults old) (host.say_faults new) (Err fault)
      → Tells host (unwrap_or o missing) old new (Err status.SayFault)
  fault_said None old new fault says cause = tells_part host missing old new fault (says_begun missing says refl) (record { later = cause.later; rose = cause.rose })
  fault_said (Some text) old new fault says cause = tells_part host text old new fault says (record { later = cause.later; rose = cause.rose })

  -- the output failed
  pub unsaid : (o : Option (List ℕ)) (old new : D) → Says host (unwrap_or o []) old new → Rose (host.say_faults old) (host.say_faults new) → Tells host (unwrap_or o missing) old new (Err status.SayFault)
  unsaid None old new says rose = failed host missing old new (says_begun missing says refl) rose
  unsaid (Some text) old new says rose = failed host text old new says rose
