use Rattle.std.proofs.Common.{List, replicate}
use Rattle.st_memory.specs.declared.made.Made.{Made}
use Rattle.st_draft.specs.declared.change.Change.{Change}
use Rattle.st_draft.specs.inside.Drafts.{no_made, no_change}
use Rattle.st_draft.proofs.Keeping.{nothing_made}
use Rattle.st_draft.proofs.notes.Notes.new.Goals as goal

-- what stands in the unused cells
abbrev unmade : List Made
unmade = replicate 70 no_made

abbrev unchanged : List Change
unchanged = replicate 70 no_change

pub returns-clause-none : goal.returns-clause-none
returns-clause-none c = λ t. nothing_made t unmade unchanged
