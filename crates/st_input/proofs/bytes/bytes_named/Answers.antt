use Rattle.std.proofs.Common.{arith}
use Rattle.st_input.proofs.Done.{named_objects}
use Rattle.st_input.proofs.bytes.bytes_named.Goals as goal

pub returns-in-Bytes : goal.returns-in-Bytes
returns-in-Bytes g c = grind (arith, named_objects)

pub returns-in-Pointers : goal.returns-in-Pointers
returns-in-Pointers g c = grind (arith, named_objects)

pub returns-in_err-object : goal.returns-in_err-object
returns-in_err-object g c = grind (arith, named_objects)
