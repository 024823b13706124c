use Rattle.std.proofs.Common.{◌≡◌, take, drop}
use Rattle.st_scan.specs.Views.{statements_view}
use Rattle.st_decompile.specs.Back.{without_self}
use Rattle.st_decompile.proofs.SelfTurns.{before_others}
use Rattle.st_decompile.proofs.whole.count_without_self.Given as goal

abbrev pub invariant-loop-i : goal.invariant-loop-i
invariant-loop-i l = before_others (take l.i l.statements) (without_self (statements_view (drop l.i l.statements))) ≡ without_self (statements_view l.statements)
