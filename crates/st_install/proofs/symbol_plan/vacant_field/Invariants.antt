use Rattle.st_install.proofs.SymbolsOf.{LeftFree}
use Rattle.st_install.proofs.symbol_plan.vacant_field.Given as goal

-- no field so far is nil
abbrev pub invariant-loop-i : goal.invariant-loop-i
invariant-loop-i l = LeftFree l.fields l.i
