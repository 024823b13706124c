use Rattle.st_draft.proofs.Drafted.{method_field_base, method_field_made}
use Rattle.st_draft.proofs.Moved.{names_of, method_field_names}
use Rattle.st_draft.proofs.draft.DraftObjects.fetch_method_field.Goals as goal

pub returns-in-Some : goal.returns-in-Some
returns-in-Some g c = method_field_names (names_of _ _ _ c.args.self.now.there _ _ c.word_before-before.ensures) c.args.i _ (method_field_made _ _ _ _ _ _ _ c.in-Some.made _ c.in-Some.ensures.found c.fetch_method_field.ensures)

pub returns-in-None : goal.returns-in-None
returns-in-None g c = method_field_names (names_of _ _ _ c.args.self.now.there _ _ c.word_before-before.ensures) c.args.i _ (method_field_base _ _ _ _ _ _ _ _ c.in-None.ensures.none c.fetch_method_field-in-None.ensures)
