use Rattle.std.proofs.Common.{ap, ◌∙◌}
use Rattle.st_scan.specs.Scans.{signs}
use Rattle.st_scan.specs.inside.Contexts.{context_of}
use Rattle.st_scan.specs.Fronts.{shown, front_of}
use Rattle.st_scan.proofs.Scanning.{within}
use Rattle.st_scan.proofs.scanner.next.Goals as goal

pub returns-clause-within : goal.returns-clause-within
returns-clause-within c =
    within (signs (context_of c.args.context)) c.args.rest.now c.front_of.result c.requires (c.front_of.ensures ∙ ap (λ b. shown (front_of b c.args.rest.now)) c.signs.ensures)
