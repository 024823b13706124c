use Rattle.std.proofs.Common.{Ok, ◌/◌, ◌*◌}
use Rattle.st_draft.proofs.Drafted.{class_base, class_made}
use Rattle.st_draft.proofs.Moved.{names_of, class_names}
use Rattle.st_draft.proofs.draft.DraftObjects.fetch_class.Goals as goal

pub returns-in-Some : goal.returns-in-Some
returns-in-Some g c = class_names (names_of _ _ _ c.args.self.now.there _ _ c.word_before-before.ensures) (Ok (record { 0 = c.in-Some.made.class.0 / 2 * 2 })) (class_made _ _ _ _ _ _ c.in-Some.made c.in-Some.ensures.found)

pub returns-in-None : goal.returns-in-None
returns-in-None g c = class_names (names_of _ _ _ c.args.self.now.there _ _ c.word_before-before.ensures) _ (class_base _ _ _ _ _ _ _ c.in-None.ensures.none c.fetch_class.ensures)
