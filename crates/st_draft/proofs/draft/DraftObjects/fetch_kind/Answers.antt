use Rattle.std.proofs.Common.{Ok}
use Rattle.st_draft.proofs.Moved.{names_of}
use Rattle.st_draft.proofs.Sizes.{kind_base, kind_made, kind_names}
use Rattle.st_draft.proofs.draft.DraftObjects.fetch_kind.Goals as goal

pub returns-in-Some : goal.returns-in-Some
returns-in-Some g c = kind_names (names_of _ _ _ c.args.self.now.there _ _ c.word_before-before.ensures) (Ok c.in-Some.made.kind) (kind_made _ _ _ _ _ _ c.in-Some.made c.in-Some.ensures.found)

pub returns-in-None : goal.returns-in-None
returns-in-None g c = kind_names (names_of _ _ _ c.args.self.now.there _ _ c.word_before-before.ensures) _ (kind_base _ _ _ _ _ _ _ c.in-None.ensures.none c.fetch_kind.ensures)
