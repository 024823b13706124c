-- What a frame keeps of a row that was done at once.
use Rattle.std.proofs.Common.{◌≡◌, true, Ok, sym}
use Rattle.st_model.specs.Machine.{Registers}
use Rattle.st_model.specs.View.{View}
use Rattle.st_frames.specs.declared.frame.Frame.{Frame}
use Rattle.st_frames.specs.declared.registers.Registers.{Registers as Words}
use Rattle.st_frames.specs.inside.Rows.{registers_in}
use Rattle.st_frames.specs.inside.Shown.{registers_of, IsFrame}
use Rattle.st_at_once.specs.inside.AtOnce.{NamesSame, kept}

-- it keeps the registers
pub kept_same : (f : Frame) (r : Words) → NamesSame (registers_of f) (registers_in r) → registers_of (kept (Ok true) f r) ≡ registers_in r
kept_same f r n = λ i. record { active = sym n.active i; home = sym n.home i; method = sym n.method i; receiver = sym n.receiver i; ip = r.ip; sp = r.sp }

pub kept_frame : (v : View) (f : Frame) (r : Words) → IsFrame v f → IsFrame v (kept (Ok true) f r)
kept_frame v f r h = record {
  active = h.active;
  home = h.home;
  method = h.method;
  receiver = h.receiver;
  ip_low = r.ip_low;
  ip_high = r.ip_high;
  sp_low = r.sp_low;
  sp_high = r.sp_high;
}

-- the registers of a row that wasn't done, once instruction and stack pointer are put back
pub put_back : (q r : Registers) → NamesSame q r → record r { ip = q.ip; sp = q.sp } ≡ q
put_back q r n = λ i. record { active = n.active i; home = n.home i; method = n.method i; receiver = n.receiver i; ip = q.ip; sp = q.sp }
