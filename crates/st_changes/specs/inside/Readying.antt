-- What is ready to be added to a changes file.
use Rattle.std.specs.Prelude.{ℕ, List, Option}
use Rattle.std.specs.Option.{ForSome, option_map}
use Rattle.st_changes.specs.inside.IndexStates.{IndexState}
use Rattle.st_changes.specs.declared.changes.ReservedEntry.{ReservedEntry}
use Rattle.st_changes.specs.inside.Prepared.{IsReady}

abbrev pub reserved_of : Option ReservedEntry → Option (List ℕ)
reserved_of ready = option_map (λ r. r.entry.items) ready

-- the index has room for what is ready, and that has its selector
abbrev pub IsReadyFor : IndexState → Option ReservedEntry → Type 0
IsReadyFor index ready = ForSome ready (λ r. IsReady index r.entry.items (option_map (λ v. v.items) r.selector))
