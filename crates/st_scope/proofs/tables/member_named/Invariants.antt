use Rattle.st_model.specs.Table.{table}
use Rattle.st_scope.specs.Tables.{has_name}
use Rattle.st_scope.proofs.FirstFields.{LeftFields}
use Rattle.st_scope.proofs.tables.member_named.Given as goal

-- no field so far is a member of this name
abbrev pub invariant-loop-i : goal.invariant-loop-i
invariant-loop-i g l = LeftFields l.names (λ v. has_name table v l.text) l.count l.i (g.M.Memory.view l.m).objects
