-- What of a list of definitions stays where each that a later one supersedes is dropped.
use Rattle.std.specs.Prelude.{◌≡◌, ℕ, zero, suc, Bool, true, false, List, [], ◌∷◌, ◌++◌, length}
use Rattle.st_store.specs.Stored.{Stored}
use Rattle.st_chunk.specs.Definitions.{Definition, entries}
use Rattle.st_changes.specs.Last.{HasSelector, IsOf, IsNowhere}

-- behind this definition there is another one of its class, its side and its selector
pub record IsSuperseded (d : Definition) (behind : List Definition) : Type 0 where
  pub selector : List ℕ
  pub named : HasSelector d.text selector
  pub between : List Definition
  pub later : Definition
  pub after : List Definition
  pub is : behind ≡ between ++ later ∷ after
  pub of : IsOf d.class d.meta selector later

-- behind this definition there is none
abbrev pub IsNewest : Definition → List Definition → Type 0
IsNewest d behind = (selector : List ℕ) → HasSelector d.text selector → IsNowhere behind d.class d.meta selector

abbrev pub Tells : Bool → Definition → List Definition → Type 0
Tells true d behind = IsSuperseded d behind
Tells false d behind = IsNewest d behind

-- Of these definitions, behind which others stand, those stay that none behind them supersedes.
pub data Stays (rest : List Definition) : List Definition → List Definition → Type 0 where
  none : Stays rest [] []
  drops : (d : Definition) (ds ks : List Definition) → IsSuperseded d (ds ++ rest) → Stays rest ds ks → Stays rest (d ∷ ds) ks
  keeps : (d : Definition) (ds ks : List Definition) → IsNewest d (ds ++ rest) → Stays rest ds ks → Stays rest (d ∷ ds) (d ∷ ks)

-- the definitions that are marked, and those behind the marks
abbrev pub kept_by : List Bool → List Definition → List Definition
kept_by [] ds = ds
kept_by (b ∷ bs) [] = []
kept_by (true ∷ bs) (d ∷ ds) = d ∷ kept_by bs ds
kept_by (false ∷ bs) (d ∷ ds) = kept_by bs ds

-- Of a list of definitions those before the base, those behind it, and those of the first that stay.
pub record Condenses (ds : List Definition) (base : ℕ) : Type 0 where
  pub front : List Definition
  pub behind : List Definition
  pub is : ds ≡ front ++ behind
  pub place : base ≡ length (entries front)
  pub kept : List Definition
  pub stays : Stays behind front kept

-- the slot of the same image file and the other changes file
abbrev pub turned : ℕ → ℕ
turned zero = 2
turned (suc zero) = 3
turned (suc (suc slot)) = slot

-- what a store has once it is condensed
abbrev pub condensed : {ds : List Definition} {base : ℕ} → Stored → Condenses ds base → Stored
condensed c z = record {
  root = record { slot = turned c.root.slot; image_length = c.root.image_length; base = length (entries z.kept); length = length (entries (z.kept ++ z.behind)) };
  image = c.image;
  changes = entries (z.kept ++ z.behind);
}
