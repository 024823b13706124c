use Rattle.std.proofs.Common.{◌≡◌, ◌++◌, take, drop}
use Rattle.st_scan.specs.Views.{elements_view}
use Rattle.st_emit.specs.inside.Views.{members_view}
use Rattle.st_expression_stack.specs.Choosing.{elements_of}
use Rattle.st_expression_stack.proofs.make.+contents.Given as goal

abbrev pub invariant-elements_of-loop-member : goal.invariant-elements_of-loop-member
invariant-elements_of-loop-member l = elements_view l.elements.items ≡ elements_of (members_view (take l.member-index l.members))
