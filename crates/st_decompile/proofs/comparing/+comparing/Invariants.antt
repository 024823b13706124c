use Rattle.std.proofs.Common.{◌≡◌, drop}
use Rattle.st_emit.specs.inside.Views.{members_view}
use Rattle.st_decompile.specs.Comparing.{same_members}
use Rattle.st_decompile.proofs.comparing.+comparing.Given as goal

abbrev pub invariant-same_members-loop-x : goal.invariant-same_members-loop-x
invariant-same_members-loop-x l = same_members (members_view (drop l.x-index l.a)) (members_view l.rest) ≡ same_members (members_view l.a) (members_view l.fn.b)
