use Rattle.std.proofs.Common.{refl, sym, subst}
use Rattle.std.specs.Prelude.{option_map}
use Rattle.st_scope.specs.inside.Findings.{text_of}
use Rattle.st_scope.proofs.SoughtIn.{shared_noted}
use Rattle.st_parts.specs.inside.Kept.{Keeps}
use Rattle.st_parts.proofs.naming.keep_key.Goals as goal

pub returns-in_ok-insert-in-Some : goal.returns-in_ok-insert-in-Some
returns-in_ok-insert-in-Some c =
    subst (λ k. Keeps (option_map text_of k) c.args.v c.args.shared.now.entries c.insert.new.self.entries) (sym c.in-Some.is)
    (shared_noted c.args.shared.now c.insert.new.self c.in-Some.text c.args.v c.in-Some.text.items refl c.in_ok-insert-in-Some.ensures.updates)
