use Rattle.st_install.specs.Symbols.{Symbols}
use Rattle.st_install.specs.inside.Naming.{IsNamed}
use Rattle.st_install.proofs.SymbolsOf.{LeftNames}
use Rattle.st_install.proofs.symbol_plan.+symbols.Given as goal

-- all Symbols are those so far, and those of the literals that are left
abbrev pub invariant-name_literals-loop-literal : goal.invariant-name_literals-loop-literal
invariant-name_literals-loop-literal g l =
    (s : Symbols) → IsNamed l.fn.plan s → LeftNames l.association l.array (g.M.Memory.view l.m).objects l.literals l.plan l.literal-index s
