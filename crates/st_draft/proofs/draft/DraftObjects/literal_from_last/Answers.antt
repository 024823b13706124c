use Rattle.st_draft.proofs.Drafted.{last_base, last_made}
use Rattle.st_draft.proofs.Moved.{names_of, last_names}
use Rattle.st_draft.proofs.draft.DraftObjects.literal_from_last.Goals as goal

pub returns-in-Some : goal.returns-in-Some
returns-in-Some g c = last_names (names_of _ _ _ c.args.self.now.there _ _ c.word_before-before.ensures) c.args.k _ (last_made _ _ _ _ _ _ _ c.in-Some.made _ c.in-Some.ensures.found c.literal.ensures.from_last)

pub returns-in-None : goal.returns-in-None
returns-in-None g c = last_names (names_of _ _ _ c.args.self.now.there _ _ c.word_before-before.ensures) c.args.k _ (last_base _ _ _ _ _ _ _ _ c.in-None.ensures.none c.literal_from_last.ensures)
