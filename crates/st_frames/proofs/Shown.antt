-- What a store into the memory shows.
use Rattle.std.proofs.Common.{◌≡◌, ℕ, refl}
use Rattle.std.specs.Prelude.{ℤ}
use Rattle.st_model.specs.Values.{value}
use Rattle.st_model.specs.Machine.{World, Went}
use Rattle.st_model.specs.Steps.{get_active, get_home, get_method, get_receiver, get_ip, get_sp, set_ip, set_sp}
use Rattle.st_model.proofs.Runs.{run-then, run-next, after-went, after-died, run-answer, run-die, run-passed, run-failed}
use Rattle.st_model.specs.Table.{Table}
use Rattle.st_model.specs.View.{View}
use Rattle.st_frames.specs.declared.frame.Frame.{Frame}
use Rattle.st_frames.specs.inside.Shown.{shown, registers_of}

pub shown_stored : (v u : View) (f : Frame) (w : World) (t : Table) → u.objects ≡ t → u.head ≡ v.head → shown u f w ≡ record (shown v f w) { memory = t }
shown_stored v u f w t e a = λ i. record { memory = e i; registers = registers_of f; world = w; head = a i }

module _ (v : View) (f : Frame) (w : World) where
  pub shown-active : get_active.run (shown v f w) ≡ Went (value f.active) (shown v f w)
  unfolding get_active
  shown-active = refl

  pub shown-home : get_home.run (shown v f w) ≡ Went (value f.home) (shown v f w)
  unfolding get_home
  shown-home = refl

  pub shown-method : get_method.run (shown v f w) ≡ Went (value f.method) (shown v f w)
  unfolding get_method
  shown-method = refl

  pub shown-receiver : get_receiver.run (shown v f w) ≡ Went (value f.receiver) (shown v f w)
  unfolding get_receiver
  shown-receiver = refl

  pub shown-ip : get_ip.run (shown v f w) ≡ Went f.ip (shown v f w)
  unfolding get_ip
  shown-ip = refl

  pub shown-sp : get_sp.run (shown v f w) ≡ Went f.sp (shown v f w)
  unfolding get_sp
  shown-sp = refl

  pub shown-set_ip : (n : ℤ) → (set_ip n).run (shown v f w) ≡ Went tt (shown v (record f { ip = n }) w)
  unfolding set_ip
  shown-set_ip n = refl

  pub shown-set_sp : (n : ℕ) → (set_sp n).run (shown v f w) ≡ Went tt (shown v (record f { sp = n }) w)
  unfolding set_sp
  shown-set_sp n = refl

-- what a row is made of, over a memory and its registers
pub ruleset shows = (run-then, run-next, after-went, after-died, run-answer, run-die, run-passed, run-failed, shown-active, shown-home, shown-method, shown-receiver, shown-ip, shown-sp, shown-set_ip, shown-set_sp)
