-- What a machine ends as where its memory is lent.
use Rattle.std.specs.Borrow.{Lends, Fml, RattleType, MutBor}
use Rattle.st_machine.specs.contracts.machine.Machine.{the_row}
use Rattle.st_machine.specs.declared.machine.Machine.{Machine}

module _ (T : RattleType) (s : MutBor (Machine T.Denot)) where
  abbrev pub with_memory : Machine T.Denot → T.Denot → Machine T.Denot
  with_memory m x = record m { memory = x }

  -- the machine has the memory last left behind r
  abbrev pub lends_memory : MutBor T.Denot → Fml
  lends_memory r = Lends (the_row T) T s r (with_memory s.now)
