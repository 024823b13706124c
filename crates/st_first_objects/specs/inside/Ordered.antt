-- An order that is made, unless there is no room or no memory.
use Rattle.std.specs.Prelude.{◌≡◌, ◌<◌, ◌≤◌, length, Result, Ok, Err}
use Rattle.st_first_objects.specs.declared.unmade.Unmade.{Unmade}
use Rattle.st_first_objects.specs.declared.unmade.Unmade.TheVariants.{NoRoom, OutOfMemory}
use Rattle.st_first_objects.specs.Orders.{Order}
use Rattle.st_first_objects.specs.Plans.{FirstObjects}

-- now it is this one; or it has more things than there are pointers
abbrev pub Becomes : Order → (now : Order) → Result Unit Unmade → Type 0
Becomes whole now (Ok done) = now ≡ whole
Becomes whole now (Err NoRoom) = 32767 < length whole.things
Becomes whole now (Err OutOfMemory) = Unit {0}

abbrev pub IsOrder : Order → Result Order Unmade → Type 0
IsOrder whole (Ok o) = (o ≡ whole) × (length o.things ≤ 32767)
IsOrder whole (Err NoRoom) = 32767 < length whole.things
IsOrder whole (Err OutOfMemory) = Unit {0}

abbrev pub IsPlan : FirstObjects → Result FirstObjects Unmade → Type 0
IsPlan whole (Ok p) = (p ≡ whole) × (length p.order.things ≤ 32767)
IsPlan whole (Err NoRoom) = 32767 < length whole.order.things
IsPlan whole (Err OutOfMemory) = Unit {0}
