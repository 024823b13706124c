use Rattle.std.proofs.lemmas.Int.{to_z-of_z}
use Rattle.st_draft.proofs.Drafted.{byte_base, byte_made}
use Rattle.st_draft.proofs.Moved.{names_of, byte_names}
use Rattle.st_draft.proofs.draft.DraftObjects.byte_at.Goals as goal

pub returns-in-Some : goal.returns-in-Some
returns-in-Some g c = byte_names (names_of _ _ _ c.args.self.now.there _ _ c.word_before-before.ensures) c.args.ip _ (byte_made _ _ _ _ _ _ _ c.in-Some.made _ c.in-Some.ensures.found (simp (to_z-of_z, c.ranges.ip) at c.byte_at.ensures))

pub returns-in-None : goal.returns-in-None
returns-in-None g c = byte_names (names_of _ _ _ c.args.self.now.there _ _ c.word_before-before.ensures) c.args.ip _ (byte_base _ _ _ _ _ _ _ _ c.in-None.ensures.none (simp (to_z-of_z, c.ranges.ip) at c.byte_at-in-None.ensures))
