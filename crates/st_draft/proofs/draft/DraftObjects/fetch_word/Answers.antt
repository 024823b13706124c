use Rattle.st_draft.proofs.Moved.{names_of}
use Rattle.st_draft.proofs.Units.{word_base, word_made, word_names}
use Rattle.st_draft.proofs.draft.DraftObjects.fetch_word.Goals as goal

pub returns-in-Some : goal.returns-in-Some
returns-in-Some g c = word_names (names_of _ _ _ c.args.self.now.there _ _ c.word_before-before.ensures) c.args.i _ (word_made _ _ _ _ _ _ _ c.in-Some.made _ c.in-Some.ensures.found c.fetch_word.ensures)

pub returns-in-None : goal.returns-in-None
returns-in-None g c = word_names (names_of _ _ _ c.args.self.now.there _ _ c.word_before-before.ensures) c.args.i _ (word_base _ _ _ _ _ _ _ _ c.in-None.ensures.none c.fetch_word-in-None.ensures)
