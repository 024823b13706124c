use Rattle.st_install.proofs.SymbolsOf.{LeftValues}
use Rattle.st_install.proofs.symbol_plan.fields_of.Given as goal

-- all fields are those so far, and those that are left
abbrev pub invariant-loop-i : goal.invariant-loop-i
invariant-loop-i g l = LeftValues l.o (g.M.Memory.view l.m).objects l.count l.i l.fields.items
