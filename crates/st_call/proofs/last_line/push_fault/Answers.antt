use Rattle.std.proofs.Common.{sym, ap}
use Rattle.st_call.proofs.Pushing.{push_as}
use Rattle.st_call.specs.LastLines.{fault_line}
use Rattle.st_call.proofs.last_line.push_fault.Goals as goal

pub returns-in-Short : goal.returns-in-Short
returns-in-Short g c = push_as c.push_line.ensures (ap fault_line (sym c.in-Short.is))

pub returns-in-Lengths : goal.returns-in-Lengths
returns-in-Lengths g c = push_as c.push_line-in-Lengths.ensures (ap fault_line (sym c.in-Lengths.is))

pub returns-in-Capacity : goal.returns-in-Capacity
returns-in-Capacity g c = push_as c.push_line-in-Capacity.ensures (ap fault_line (sym c.in-Capacity.is))

pub returns-in-Size : goal.returns-in-Size
returns-in-Size g c = push_as c.push_line-in-Size.ensures (ap fault_line (sym c.in-Size.is))

pub returns-in-Overlap : goal.returns-in-Overlap
returns-in-Overlap g c = push_as c.push_line-in-Overlap.ensures (ap fault_line (sym c.in-Overlap.is))

pub returns-in-Class : goal.returns-in-Class
returns-in-Class g c = push_as c.push_line-in-Class.ensures (ap fault_line (sym c.in-Class.is))

pub returns-in-Field : goal.returns-in-Field
returns-in-Field g c = push_as c.push_line-in-Field.ensures (ap fault_line (sym c.in-Field.is))

pub returns-in-Method : goal.returns-in-Method
returns-in-Method g c = push_as c.push_line-in-Method.ensures (ap fault_line (sym c.in-Method.is))

pub returns-in-Root : goal.returns-in-Root
returns-in-Root g c = push_as c.push_line-in-Root.ensures (ap fault_line (sym c.in-Root.is))

pub returns-in-Scheduler : goal.returns-in-Scheduler
returns-in-Scheduler g c = push_as c.push_line-in-Scheduler.ensures (ap fault_line (sym c.in-Scheduler.is))
