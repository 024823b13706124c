use Rattle.std.proofs.Common.{◌+◌, ◌*◌}
use Rattle.st_model.specs.Values.{value}
use Rattle.st_parts.specs.Contents.{contents}
use Rattle.st_parts.proofs.Turns.{LeftMembers}
use Rattle.st_parts.proofs.contents.+contents.Given as goal

abbrev pub invariant-members_of-loop-v : goal.invariant-members_of-loop-v
invariant-members_of-loop-v g l = LeftMembers (contents l.deep (g.M.Memory.view l.m).objects) l.vs l.v-index l.list.items

-- A measure is eight times how many Arrays may stand in one another, and more the further out a function stands.

abbrev pub decreases-members_of : goal.decreases-members_of
decreases-members_of g l = 8 * l.deep + 6

abbrev pub decreases-member_of : goal.decreases-member_of
decreases-member_of g l = 8 * l.deep + 5

abbrev pub decreases-contents_of : goal.decreases-contents_of
decreases-contents_of g l = 8 * l.deep + 4

abbrev pub decreases-made_of : goal.decreases-made_of
decreases-made_of g l = 8 * l.deep + 3

abbrev pub decreases-array_of : goal.decreases-array_of
decreases-array_of g l = 8 * l.deep + 2
