use Rattle.st_draft.proofs.Moved.{names_of}
use Rattle.st_draft.proofs.Units.{byte_base, byte_made, byte_names}
use Rattle.st_draft.proofs.draft.DraftObjects.fetch_byte.Goals as goal

pub returns-in-Some : goal.returns-in-Some
returns-in-Some g c = byte_names (names_of _ _ _ c.args.self.now.there _ _ c.word_before-before.ensures) c.args.i _ (byte_made _ _ _ _ _ _ _ c.in-Some.made _ c.in-Some.ensures.found c.fetch_byte.ensures)

pub returns-in-None : goal.returns-in-None
returns-in-None g c = byte_names (names_of _ _ _ c.args.self.now.there _ _ c.word_before-before.ensures) c.args.i _ (byte_base _ _ _ _ _ _ _ _ c.in-None.ensures.none c.fetch_byte-in-None.ensures)
