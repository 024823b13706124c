use Rattle.st_changes.proofs.Determined.{one_place, none_wrong}
use Rattle.st_changes.proofs.laws.one_damage.Goals as goal

pub returns-clause-place : goal.returns-clause-place
returns-clause-place c bytes root at other x y = one_place bytes root at other x y

pub returns-clause-none : goal.returns-clause-none
returns-clause-none c bytes root at ds l whole x = none_wrong bytes root at ds l whole x
