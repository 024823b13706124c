use Rattle.st_draft.proofs.Drafted.{header_base, header_made}
use Rattle.st_draft.proofs.Moved.{names_of, header_names}
use Rattle.st_draft.proofs.draft.DraftObjects.method_header.Goals as goal

pub returns-in-Some : goal.returns-in-Some
returns-in-Some g c = header_names (names_of _ _ _ c.args.self.now.there _ _ c.word_before-before.ensures) _ (header_made _ _ _ _ _ _ c.in-Some.made _ c.in-Some.ensures.found c.method_header.ensures)

pub returns-in-None : goal.returns-in-None
returns-in-None g c = header_names (names_of _ _ _ c.args.self.now.there _ _ c.word_before-before.ensures) _ (header_base _ _ _ _ _ _ _ c.in-None.ensures.none c.method_header-in-None.ensures)
