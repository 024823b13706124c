use Rattle.std.proofs.Common.{◌≡◌, ◌-◌, ◌≤◌, ◌++◌, true, false, length, drop}
use Rattle.std.specs.Prelude.{All}
use Rattle.st_chunk.specs.Definitions.{IsDefinition, entries}
use Rattle.st_changes.specs.inside.Views.{definitions_of}
use Rattle.st_changes.specs.Lists.{StandsAt}
use Rattle.st_changes.proofs.listing.list.Given as goal

abbrev pub invariant-loop-at : goal.invariant-loop-at
invariant-loop-at l = record {
  within : l.at ≤ length l.bytes;
  so_far : l.bytes ≡ entries (definitions_of l.listed.items) ++ drop l.at l.bytes;
  place : l.at ≡ length (entries (definitions_of l.listed.items));
  good : All IsDefinition (definitions_of l.listed.items);
  stands : l.has_base ≡ true → StandsAt (definitions_of l.listed.items) l.base;
  apart : l.has_base ≡ false → StandsAt (definitions_of l.listed.items) l.base → ⊥;
}

abbrev pub decreases-loop-at : goal.decreases-loop-at
decreases-loop-at l = length l.bytes - l.at
