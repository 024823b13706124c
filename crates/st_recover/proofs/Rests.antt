-- The first of some definitions, and the others.
use Rattle.std.proofs.Common.{◌≡◌, ◌≤◌, ◌<◌, ◌+◌, ◌-◌, ◌∙◌, ℕ, suc, List, [], ◌∷◌, ◌++◌, length, take, drop, get_or, refl, sym, ap, subst, arith, length-append}
use Rattle.std.specs.Prelude.{All}
use Rattle.std.proofs.Math.ListN.{length-map}
use Rattle.std.proofs.lemmas.List.{drop_more, take_rest, get_or-append-add}
use Rattle.st_chunk.specs.Definitions.{Definition, IsDefinition}
use Rattle.st_changes.specs.declared.definition.Definition as declared
use Rattle.st_changes.specs.inside.Views.{definition_of, definitions_of}
use Rattle.st_recover.specs.declared.replay.Replay.{Replay}
use Rattle.st_protocol.specs.declared.installation.Installation.{Installation}
use Rattle.st_protocol.specs.declared.installation.Installation.TheVariants as installation
use Rattle.st_recover.specs.inside.Replayings.{Notes}

module _ (rest : List declared.Definition) (x : declared.Definition) (there : 1 ≤ length rest) (is : x ≡ get_or rest 0 x) where
  pub rest_is : rest ≡ x ∷ take (length rest - 1) (drop 1 rest)
  rest_is =
      drop_more rest 0 x (omega (arith, there))
      ∙ ap (λ y. y ∷ drop 1 rest) (sym is)
      ∙ ap (λ ys. x ∷ ys) (sym (take_rest rest 1))

  pub rest_definitions : definitions_of rest ≡ definition_of x ∷ definitions_of (take (length rest - 1) (drop 1 rest))
  rest_definitions = ap definitions_of rest_is

  pub rest_length : length (take (length rest - 1) (drop 1 rest)) + 1 ≡ length rest
  rest_length = let e = ap length rest_is in omega (arith, e)

  pub first_good : All IsDefinition (definitions_of rest) → IsDefinition (definition_of x)
  first_good all = subst (All IsDefinition) rest_definitions all 0 (definition_of x) (omega arith)

  pub later_good : All IsDefinition (definitions_of rest) → All IsDefinition (definitions_of (take (length rest - 1) (drop 1 rest)))
  later_good all k d less = subst (All IsDefinition) rest_definitions all (suc k) d (omega (arith, less))

pub rest_none : (rest : List declared.Definition) → length rest < 1 → definitions_of rest ≡ []
rest_none [] less = refl
rest_none (x ∷ rest) less = absurd (omega (arith, less))

-- at most one more is counted
pub counted : (n : ℕ) (came : Installation) (old new : Replay) → Notes n came old new → new.count ≤ old.count + 1
counted n (installation.Accepted selector) old new notes = omega (arith, notes.0)
counted n (installation.Refused cause) old new notes = omega (arith, notes.0)
counted n installation.OutOfMemory old new notes = absurd notes

-- and at most one more is listed
pub listed : (n : ℕ) (came : Installation) (old new : Replay) → Notes n came old new → length new.lost.items ≤ length old.lost.items + 1
listed n (installation.Accepted selector) old new notes = let e = ap length notes.1 in omega (arith, e)
listed n (installation.Refused cause) old new notes = let e = ap length notes.1 in omega (arith, e, length-append old.lost.items (record { number = n; why = cause } ∷ []))
listed n installation.OutOfMemory old new notes = absurd notes

-- FROM A PLACE ON

pub later_all : (front later ds : List Definition) → front ++ later ≡ ds → All IsDefinition ds → All IsDefinition later
later_all front later ds is all k d less = subst IsDefinition (get_or-append-add front later k d)
    (subst (All IsDefinition) (sym is) all (length front + k) d (omega (arith, length-append front later, less)))

pub parted : (front later : List declared.Definition) (ds : List Definition) → definitions_of front ++ definitions_of later ≡ ds → length front + length later ≡ length ds
parted front later ds is =
    let all = ap length is in
    omega (arith, all, length-append (definitions_of front) (definitions_of later), length-map front definition_of, length-map later definition_of)
