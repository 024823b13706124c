use Rattle.std.proofs.Common.{Ok}
use Rattle.st_draft.proofs.Moved.{names_of}
use Rattle.st_draft.proofs.Sizes.{size_base, size_made, size_names}
use Rattle.st_draft.proofs.draft.DraftObjects.fetch_size.Goals as goal

pub returns-in-Some-clause-size : goal.returns-in-Some-clause-size
returns-in-Some-clause-size g c = size_names (names_of _ _ _ c.args.self.now.there _ _ c.word_before-before.ensures) (Ok c.in-Some.made.size) (size_made _ _ _ _ _ _ c.in-Some.made c.in-Some.ensures.sized c.in-Some.ensures.found)

pub returns-in-None-clause-size : goal.returns-in-None-clause-size
returns-in-None-clause-size g c = size_names (names_of _ _ _ c.args.self.now.there _ _ c.word_before-before.ensures) _ (size_base _ _ _ _ _ _ _ c.in-None.ensures.none c.fetch_size.ensures.size)
