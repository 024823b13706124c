use Rattle.std.proofs.Common.{sym, subst}
use Rattle.st_scope.specs.inside.Sought.{NotesShared}
use Rattle.st_scope.proofs.SoughtIn.{shared_noted, none_noted}
use Rattle.st_scope.proofs.sought.note_shared.Goals as goal

pub returns-in_ok-insert-in-Some : goal.returns-in_ok-insert-in-Some
returns-in_ok-insert-in-Some c =
    subst (λ x. NotesShared c.args.text.now x c.args.shared.now.entries c.insert.new.self.entries) (sym c.in-Some.is)
    (shared_noted c.args.shared.now c.insert.new.self c.in_ok-to_vec-in-Some.field-0 c.in-Some.association c.args.text.now (c.in_ok-to_vec-in-Some.ensures.items_if_clones_equal (λ x y h. h)) c.in_ok-insert-in-Some.ensures.updates)

pub returns-in-None : goal.returns-in-None
returns-in-None c = subst (λ x. NotesShared c.args.text.now x c.args.shared.now.entries c.args.shared.now.entries) (sym c.in-None.is) (none_noted c.args.shared.now.entries c.args.text.now)
