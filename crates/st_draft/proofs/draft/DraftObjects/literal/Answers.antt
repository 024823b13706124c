use Rattle.st_draft.proofs.Drafted.{literal_base, literal_made}
use Rattle.st_draft.proofs.Moved.{names_of, literal_names}
use Rattle.st_draft.proofs.draft.DraftObjects.literal.Goals as goal

pub returns-in-Some : goal.returns-in-Some
returns-in-Some g c = literal_names (names_of _ _ _ c.args.self.now.there _ _ c.word_before-before.ensures) c.args.i _ (literal_made _ _ _ _ _ _ _ c.in-Some.made _ c.in-Some.ensures.found c.literal.ensures.from_first)

pub returns-in-None : goal.returns-in-None
returns-in-None g c = literal_names (names_of _ _ _ c.args.self.now.there _ _ c.word_before-before.ensures) c.args.i _ (literal_base _ _ _ _ _ _ _ _ c.in-None.ensures.none c.literal-in-None.ensures)
