use Rattle.st_model.specs.Values.{value}
use Rattle.st_model.specs.Steps.{store_bytes}
use Rattle.st_model.specs.Table.{table}
use Rattle.st_install.proofs.Going.{Left}
use Rattle.st_install.proofs.Filled.{bytes_from}
use Rattle.st_install.proofs.filling.store_bytes.Given as goal

-- the bytes from one on are left
abbrev pub invariant-loop-i : goal.invariant-loop-i
invariant-loop-i g l = Left (store_bytes table (value l.o) l.to l.bytes) (bytes_from (value l.o) l.to l.bytes l.i) (g.M.Memory.view l.fn.m) (g.M.Memory.view l.m)
