use Rattle.st_install.proofs.Placing.{LeftLiterals}
use Rattle.st_install.proofs.literals.+arrays.Given as goal

-- all literals are the parts so far, and those that are left
abbrev pub invariant-place_literals-loop-literal : goal.invariant-place_literals-loop-literal
invariant-place_literals-loop-literal g l =
    LeftLiterals l.named.entries l.of (g.M.Memory.view l.m).objects l.literals l.fn.objects.items l.objects.items l.literal-index l.parts.items
