-- The state over the table that a memory, the registers and the world show, and what holds of them at each call.
use Rattle.std.specs.Prelude.{◌≡◌, ◌≤◌, Result, Ok, Err, pos, negsuc, ◌≤ℤ◌}
use Rattle.st_model.specs.declared.dead.Dead.{Dead}
use Rattle.st_model.specs.Values.{value}
use Rattle.st_model.specs.Machine.{Registers, World, State, Step, Went, Died}
use Rattle.st_model.specs.Table.{Table}
use Rattle.st_model.specs.inside.Calls.{Does}
use Rattle.st_model.specs.View.{View, IsKnown}
pub use Rattle.st_frames.specs.Naming.{filled}
use Rattle.st_frames.specs.declared.frame.Frame.{Frame}

abbrev pub registers_of : Frame → Registers
registers_of f = record { active = value f.active; home = value f.home; method = value f.method; receiver = value f.receiver; ip = f.ip; sp = f.sp }

abbrev pub shown : View → Frame → World → State Table
shown v f w = record { memory = v.objects; registers = registers_of f; world = w; head = v.head }

-- in whatever world, the call is this step
abbrev pub FrameDoes : {A B : Type 0} → Step Table A → (B → A) → View → Frame → Result B Dead → View → Frame → Type 0
FrameDoes step g v f result u q = (w : World) → Does step g (shown v f w) result (shown u q w)

-- in whatever world, the call is this step, which leaves memory and registers as they are
abbrev pub FrameReads : {A B : Type 0} → Step Table A → (B → A) → View → Frame → Result B Dead → Type 0
FrameReads step g v f result = FrameDoes step g v f result v f

-- the registers are what is held at their places, and the instruction and stack pointers are in range
pub record IsFrame (v : View) (f : Frame) : Type 0 where
  pub active : value f.active ≡ v.held.active
  pub home : value f.home ≡ v.held.home
  pub method : value f.method ≡ v.held.method
  pub receiver : value f.receiver ≡ v.held.receiver
  pub ip_low : negsuc 16384 ≤ℤ f.ip
  pub ip_high : f.ip ≤ℤ pos 16382
  pub sp_low : 5 ≤ f.sp
  pub sp_high : f.sp ≤ 16388

-- the memory holds at their places the registers, and what the world names
pub record IsReady (v : View) (f : Frame) (w : World) : Type 0 where
  pub frame : IsFrame v f
  pub devices : v.held.devices ≡ filled w.devices

-- after a call the registers are again what is held, and what is held of devices is as before
pub record StaysFrame (old new : View) (f : Frame) : Type 0 where
  pub frame : IsFrame new f
  pub devices : new.held.devices ≡ old.held.devices

-- registers that name nothing but what is there, with the instruction and stack pointers in range
pub record IsFrameOf (t : Table) (f : Frame) : Type 0 where
  pub active : IsKnown t (value f.active)
  pub home : IsKnown t (value f.home)
  pub method : IsKnown t (value f.method)
  pub receiver : IsKnown t (value f.receiver)
  pub ip_low : negsuc 16384 ≤ℤ f.ip
  pub ip_high : f.ip ≤ℤ pos 16382
  pub sp_low : 5 ≤ f.sp
  pub sp_high : f.sp ≤ 16388

-- a memory with these registers
abbrev pub with_registers : View → Registers → World → State Table
with_registers v r w = record { memory = v.objects; registers = r; world = w; head = v.head }

-- from whatever registers, and in whatever world, the step leaves those that were fetched, or dies
abbrev pub FetchesFrame : Step Table (Unit {0}) → View → Result Frame Dead → View → Type 0
FetchesFrame step old (Ok f) new = (r : Registers) (w : World) → step.run (with_registers old r w) ≡ Went tt (shown new f w)
FetchesFrame step old (Err cause) new = (r : Registers) (w : World) → step.run (with_registers old r w) ≡ Died cause
