-- What a line asks for.
use Rattle.st_chunk.specs.declared.request.Request.{Request}
use Rattle.st_chunk.specs.declared.request.Request.TheVariants.{Run, Trace, Stack, Snapshot, Browse, End, Define, Wrong}

-- lines are said that are held back together, and nothing is kept
abbrev pub IsSaying : Request → Type 0
IsSaying (Run cycles) = ⊥
IsSaying (Trace cycles) = ⊥
IsSaying Stack = ⊥
IsSaying Snapshot = ⊥
IsSaying Browse = ⊥
IsSaying End = ⊥
IsSaying Define = ⊥
IsSaying (Wrong line) = ⊥
IsSaying request = Unit {0}
