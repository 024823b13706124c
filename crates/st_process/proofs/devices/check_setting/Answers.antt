use Rattle.std.proofs.Common.{arith}
use Rattle.st_frames.proofs.Doing.{rows}
use Rattle.st_process.proofs.Settings.{settings}
use Rattle.st_process.proofs.devices.check_setting.Goals as goal

pub returns-in-CursorLink : goal.returns-in-CursorLink
returns-in-CursorLink g c = grind (arith, rows, settings)

pub returns-in_err-bits_or_die-in-SampleInterval : goal.returns-in_err-bits_or_die-in-SampleInterval
returns-in_err-bits_or_die-in-SampleInterval g c = grind (arith, rows, settings)

pub returns-in_ok-bits_or_die-in-SampleInterval : goal.returns-in_ok-bits_or_die-in-SampleInterval
returns-in_ok-bits_or_die-in-SampleInterval g c = grind (arith, rows, settings)
