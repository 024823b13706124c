use Rattle.std.proofs.Common.{◌≡◌, drop}
use Rattle.st_browse.specs.Naming.{compared}
use Rattle.st_browse.specs.inside.Entries.{name_of}
use Rattle.st_browse.proofs.comparing.compare.Given as goal

-- the bytes that are left decide
abbrev pub invariant-loop-i : goal.invariant-loop-i
invariant-loop-i g l =
    let t = (g.M.Memory.view l.m).objects in
    compared (drop l.i (name_of t l.a)) (drop l.i (name_of t l.b)) ≡ compared (name_of t l.a) (name_of t l.b)
