use Rattle.st_emit.proofs.Sizes.{size-bytes, sizes-bytes}
use Rattle.st_emit.proofs.laws.sizes_of_bytes.Goals as goal

pub returns-clause-each : goal.returns-clause-each
returns-clause-each c = size-bytes

pub returns-clause-all : goal.returns-clause-all
returns-clause-all c = sizes-bytes
