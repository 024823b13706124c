use Rattle.st_model.specs.Table.{table}
use Rattle.st_install.specs.Symbols.{is_symbol}
use Rattle.st_scope.proofs.FirstFields.{LeftFields}
use Rattle.st_install.proofs.symbols.symbol_named.Given as goal

-- no field so far is a Symbol of this text
abbrev pub invariant-loop-i : goal.invariant-loop-i
invariant-loop-i g l = LeftFields l.symbols (λ v. is_symbol table v l.text) l.count l.i (g.M.Memory.view l.m).objects
