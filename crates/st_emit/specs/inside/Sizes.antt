-- How deep the sides of a form are, by which the walks along a tree end.
use Rattle.std.specs.Prelude.{ℕ, ◌<◌}
use denote.Param.Weighed.{most}
use Rattle.st_scan.specs.declared.tree.Statement.{size-Statement}
use Rattle.st_emit.specs.declared.shape.Side.{Side}
use Rattle.st_emit.specs.declared.shape.Side.TheVariants.{Constant, Statements}
use Rattle.st_emit.specs.declared.shape.Shape.{Shape}
use Rattle.st_emit.specs.declared.shape.Shape.TheVariants.{Plain, One, Two}

-- the blocks of a form are less deep than n
abbrev pub IsShapeBelow : ℕ → Shape → Type 0
IsShapeBelow n Plain = Unit {0}
IsShapeBelow n (One side a) = most size-Statement a.now < n
IsShapeBelow n (Two side a b) = (most size-Statement a.now < n) × (most size-Statement b.now < n)

abbrev pub side_size : Side → ℕ
side_size (Constant k) = 0
side_size (Statements ss) = most size-Statement ss.now
