use Rattle.std.proofs.Common.{[], sym, subst}
use Rattle.std.specs.Prelude.{All}
use Rattle.std.proofs.lemmas.List.{append-nil}
use Rattle.st_chunk.specs.Definitions.{IsDefinition}
use Rattle.st_changes.specs.inside.States.{ChangesState}
use Rattle.st_changes.proofs.loading.load.Goals as goal

pub index-requires : goal.index-requires
index-requires g c =
    record { finds = record { front = c.in_ok-listing.listing.listed; behind = []; is = sym (append-nil c.in_ok-listing.listing.listed); finds = tt } }

pub returns-clause-good : goal.returns-clause-good
returns-clause-good g c = subst (λ (s : ChangesState). All IsDefinition s.listed) (sym c.in_ok-index.ensures) c.in_ok-listing.ensures.good
