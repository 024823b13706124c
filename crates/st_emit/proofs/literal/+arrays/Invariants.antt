use Rattle.std.proofs.Common.{◌≡◌, take, map}
use Rattle.st_scan.specs.Views.{content_view}
use Rattle.st_emit.specs.Literals.{literal_of}
use Rattle.st_emit.specs.inside.Views.{literals_view}
use Rattle.st_emit.proofs.literal.+arrays.Given as goal

abbrev pub invariant-members_of-loop-element : goal.invariant-members_of-loop-element
invariant-members_of-loop-element l = literals_view l.members.items ≡ map (λ e. literal_of (content_view e.what)) (take l.element-index l.elements)
