use Rattle.std.proofs.Common.{take, Ok}
use Rattle.st_host.specs.declared.host.SayFault.{SayFault}
use Rattle.st_model.specs.Text.{numbers_text}
use Rattle.st_call.specs.inside.Saying.{Pushes}
use Rattle.st_call.proofs.lines.push_numbers.Given as goal

-- the numbers so far were added
abbrev pub invariant-loop-n : goal.invariant-loop-n
invariant-loop-n g l = Pushes {E = SayFault} g.H.Host (numbers_text (take l.n-index l.numbers)) l.initial.host l.host l.initial.out l.out (Ok tt)
