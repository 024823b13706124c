-- A call on a roots file is done only under a lock, or if there is no such file.
use Rattle.std.specs.Prelude.{◌≡◌, ◌⊎◌, ◌++◌, ℕ, List, true, IsSome, codes}
use Rattle.st_system_host.specs.declared.guard.Guard.{Guard}
use Rattle.st_system_host.specs.declared.guard.Place.{Place}
use Rattle.st_system_host.specs.declared.guard.Place.TheVariants.{Held, Absent, Unguarded}

abbrev pub IsRootsName : List ℕ → Type 0
IsRootsName name = (stem : List ℕ) × (name ≡ stem ++ codes ".roots")

-- once a file of this name was written or cut, a roots file is locked
abbrev pub Locks : List ℕ → Guard → Type 0
Locks name guard = IsRootsName name → IsSome guard.held

-- once it was read or synced, or its length was asked for, one is locked, or none was there at first
abbrev pub LocksOrLacks : List ℕ → Guard → Type 0
LocksOrLacks name guard = IsRootsName name → IsSome guard.held ⊎ (guard.was_absent ≡ true)

-- what a guard takes a file of this name for
abbrev pub Fits : List ℕ → Guard → Place → Type 0
Fits name guard Held = IsSome guard.held
Fits name guard Absent = guard.was_absent ≡ true
Fits name guard Unguarded = IsRootsName name → ⊥
