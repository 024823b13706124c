-- The start of a text, and the image in which it is sought.
use Rattle.std.specs.Prelude.{◌≡◌, ℕ, ◌+◌, true, false, List, [], ◌∷◌, Option, Some, None}
use Rattle.st_model.specs.Machine.{State}
use Rattle.st_model.specs.Births.{Births}
use Rattle.st_model.specs.Show.{show, raised}
use Rattle.st_model.specs.View.{View, empty_view}
use Rattle.st_model.specs.Start.{idle_state}
use Rattle.st_kernel_text.specs.Parts.{Side, Start, Part, header, method, start}
use Rattle.st_kernel_text.specs.Definitions.{definition_by}
use Rattle.st_kernel_text.specs.Texts.{Account, account}
use Rattle.st_first_objects.specs.First.{first_view, has_room}
use Rattle.st_protocol.specs.Installing.{Install, Installed, Refused, Accepted}
use Rattle.st_install.specs.Defining.{installed}
use Rattle.st_kernel.specs.Built.{fault_at, no_side, built}
use Rattle.st_kernel.specs.inside.Found.{IsFound}

-- a start in the chunk of this number, over the births that the chunks before it left
pub record Arrival : Type 0 where
  pub chunk : ℕ
  pub start : Start
  pub births : State Births

abbrev pub arrival_behind : Installed → (State Births → Option Arrival) → Option Arrival
arrival_behind (Refused why) goes_on = None
arrival_behind (Accepted selector after) goes_on = goes_on after

-- the start of these chunks, where no method before it is refused
unfoldable pub arrival_from : Install → (chunk : ℕ) → State Births → Side → List Part → Option Arrival
arrival_from install n s side [] = None
arrival_from install n s side (header named ∷ parts) = arrival_from install (n + 1) s named parts
arrival_from install n s side (method text ∷ parts) =
    arrival_behind (install (definition_by side text) s) (λ t. arrival_from install (n + 1) t side parts)
arrival_from install n s side (start first ∷ parts) = Some (record { chunk = n; start = first; births = s })
arrival_from install n s side (part ∷ parts) = arrival_from install (n + 1) s side parts

abbrev pub arrival : Install → Account → Option Arrival
arrival install a = arrival_from install 1 (raised (idle_state (first_view a))) no_side a.parts

-- the image that births show
abbrev pub image_of : State Births → View
image_of s = record (empty_view (show s).head) { objects = (show s).memory }

-- a start came in the chunk of this number, and isn't found in the image as it is then
abbrev pub IsLost : Option Arrival → (chunk : ℕ) → Type 0
IsLost None n = ⊥
IsLost (Some a) n = (a.chunk ≡ n) × (¬ IsFound (image_of a.births) a.start)

-- of any text whose first objects have room, cause 6 says that the start isn't found
abbrev pub LostStart : Type 0
LostStart = (text : List ℕ) (n : ℕ) → has_room (account text) ≡ true → built installed text ≡ fault_at n 6 → IsLost (arrival installed (account text)) n

-- no method stands before the start, which is the chunk of this number
abbrev pub IsBare : (chunk : ℕ) → List Part → ℕ → Type 0
IsBare n [] k = ⊥
IsBare n (method text ∷ parts) k = ⊥
IsBare n (start first ∷ parts) k = n ≡ k
IsBare n (part ∷ parts) k = IsBare (n + 1) parts k

-- where they have none, that there is no method
abbrev pub BareStart : Type 0
BareStart = (text : List ℕ) (n : ℕ) → has_room (account text) ≡ false → built installed text ≡ fault_at n 6 → IsBare 1 (account text).parts n
