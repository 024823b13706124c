-- The causes of a machine's death, by their numbers in a report.
use Rattle.std.specs.Prelude.{ℕ}
use Rattle.st_model.specs.declared.dead.Dead.{Dead}
use Rattle.st_model.specs.declared.dead.Dead.TheVariants.{Field, Kind, Small, NotSmall, Ip, Sp, Code, Unanswered, Idle, Excess, Chain, Places}

abbrev pub dead_number : Dead → ℕ
dead_number Field = 1
dead_number Kind = 2
dead_number Small = 3
dead_number NotSmall = 4
dead_number Ip = 5
dead_number Sp = 6
dead_number Code = 7
dead_number Unanswered = 8
dead_number Idle = 9
dead_number Excess = 10
dead_number Chain = 11
dead_number Places = 12
