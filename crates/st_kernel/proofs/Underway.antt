-- A text as far as it is followed: what each part does.
use Rattle.std.proofs.Common.{◌≡◌, ◌∙◌, ℕ, ◌+◌, List, ◌∷◌, [], refl, sym, subst}
use Rattle.std.specs.Prelude.{Option, Result}
use Rattle.st_model.specs.Objects.{nil}
use Rattle.st_model.specs.Values.{value_of}
use Rattle.st_model.specs.Machine.{State, empty_world}
use Rattle.st_model.specs.Births.{Births}
use Rattle.st_model.specs.View.{View}
use Rattle.st_model.specs.Show.{Shows}
use Rattle.st_model.specs.Start.{idle_state}
use Rattle.st_frames.specs.inside.Shown.{shown}
use Rattle.st_chunk.specs.Definitions.{Definition}
use Rattle.st_kernel_text.specs.declared.cause.Cause.{Cause}
use Rattle.st_kernel_text.specs.Parts.{Class, Pool, Side, Part, class, pool, global, opening, header, method, closing, start}
use Rattle.st_protocol.specs.Installing.{Install, Installed, Refused, Accepted}
use Rattle.st_protocol.specs.inside.Installations.{InstallsAs}
use Rattle.st_protocol.specs.declared.installation.Installation.{Installation}
use Rattle.st_protocol.specs.declared.installation.Installation.TheVariants as installation
use Rattle.st_kernel_text.specs.Definitions.{definition_by}
use Rattle.st_kernel.specs.Built.{Built, Fault, fault_at, with_installed, unfinished, built_from}
use Rattle.st_kernel.specs.inside.Following.{idle_frame, IsUnderway}

-- it installs nothing, and names no side
abbrev pub IsPlain : Part → Type 0
IsPlain (header named) = ⊥
IsPlain (method text) = ⊥
IsPlain (start s) = ⊥
IsPlain _ = Unit {0}

-- under registers that name nil, in an empty world
pub shown_idle : (v : View) → shown v idle_frame (empty_world nil) ≡ idle_state v
unfolding value_of
shown_idle v = refl

module _ (install : Install) (cause : Option Cause) (whole : Result Built Fault) (n : ℕ) (side : Side) (parts : List Part) (v : View) where
  abbrev Here : List Part → Type 0
  Here ps = IsUnderway install cause whole n side ps v

  abbrev Behind : Side → Type 0
  Behind after = IsUnderway install cause whole (n + 1) after parts v

  -- a part that installs nothing leaves all as it is
  passed : (part : Part) (after : Side) → ((s : State Births) → built_from install cause n s side (part ∷ parts) ≡ built_from install cause (n + 1) s after parts)
      → Here (part ∷ parts) → Behind after
  passed part after same u = record {
    state = u.state;
    shows = u.shows;
    is = sym (same u.state) ∙ u.is;
  }

  pub class_passed : (c : Class) → Here (class c ∷ parts) → Behind side
  unfolding built_from
  class_passed c u = passed (class c) side (λ s. refl) u

  pub pool_passed : (p : Pool) → Here (pool p ∷ parts) → Behind side
  unfolding built_from
  pool_passed p u = passed (pool p) side (λ s. refl) u

  pub global_passed : (name : List ℕ) → Here (global name ∷ parts) → Behind side
  unfolding built_from
  global_passed name u = passed (global name) side (λ s. refl) u

  pub opening_passed : Here (opening ∷ parts) → Behind side
  unfolding built_from
  opening_passed u = passed opening side (λ s. refl) u

  pub closing_passed : Here (closing ∷ parts) → Behind side
  unfolding built_from
  closing_passed u = passed closing side (λ s. refl) u

  pub header_passed : (named : Side) → Here (header named ∷ parts) → Behind named
  unfolding built_from
  header_passed named u = passed (header named) named (λ s. refl) u

  -- nothing is left, and there was no start
  pub not_finished : IsUnderway install cause whole n side [] v → unfinished n cause ≡ whole
  unfolding built_from
  not_finished u = u.is

built_method : (install : Install) (cause : Option Cause) (n : ℕ) (s : State Births) (side : Side) (text : List ℕ) (parts : List Part)
    → built_from install cause n s side (method text ∷ parts) ≡ with_installed n (install (definition_by side text) s) (λ t. built_from install cause (n + 1) t side parts)
unfolding built_from
built_method install cause n s side text parts = refl

-- A method is installed, or refused.
module _ (install : Install) (cause : Option Cause) (whole : Result Built Fault) (n : ℕ) (side : Side) (text : List ℕ) (parts : List Part) (old new : View)
    (came : Installation) (installs : (s : State Births) → Shows (idle_state old) s → InstallsAs (install (definition_by side text) s) came (idle_state new))
    (u : IsUnderway install cause whole n side (method text ∷ parts) old) where
  comes : with_installed n (install (definition_by side text) u.state) (λ t. built_from install cause (n + 1) t side parts) ≡ whole
  comes = sym (built_method install cause n u.state side text parts) ∙ u.is

  accepted_by : (it : Installed) (selector : _) → came ≡ installation.Accepted selector → InstallsAs it came (idle_state new)
      → with_installed n it (λ t. built_from install cause (n + 1) t side parts) ≡ whole
      → IsUnderway install cause whole (n + 1) side parts new
  accepted_by (Refused why) selector e is q = absurd (subst (λ c. InstallsAs (Refused why) c (idle_state new)) e is)
  accepted_by (Accepted name t) selector e is q =
      let now = subst (λ c. InstallsAs (Accepted name t) c (idle_state new)) e is in
      record { state = t; shows = now.1; is = q }

  pub accepted : (selector : _) → came ≡ installation.Accepted selector → IsUnderway install cause whole (n + 1) side parts new
  accepted selector e = accepted_by (install (definition_by side text) u.state) selector e (installs u.state u.shows) comes

  refused_by : (it : Installed) (why : _) → came ≡ installation.Refused why → InstallsAs it came (idle_state new)
      → with_installed n it (λ t. built_from install cause (n + 1) t side parts) ≡ whole → whole ≡ fault_at n 5
  refused_by (Refused other) why e is q = sym q
  refused_by (Accepted name t) why e is q = absurd (subst (λ c. InstallsAs (Accepted name t) c (idle_state new)) e is)

  pub refused : (why : _) → came ≡ installation.Refused why → whole ≡ fault_at n 5
  refused why e = refused_by (install (definition_by side text) u.state) why e (installs u.state u.shows) comes

-- any part of these kinds
pub plain_passed : (install : Install) (cause : Option Cause) (whole : Result Built Fault) (n : ℕ) (side : Side) (parts : List Part) (v : View) (part : Part) → IsPlain part
    → IsUnderway install cause whole n side (part ∷ parts) v → IsUnderway install cause whole (n + 1) side parts v
plain_passed install cause whole n side parts v (class c) plain u = class_passed install cause whole n side parts v c u
plain_passed install cause whole n side parts v (pool p) plain u = pool_passed install cause whole n side parts v p u
plain_passed install cause whole n side parts v (global name) plain u = global_passed install cause whole n side parts v name u
plain_passed install cause whole n side parts v opening plain u = opening_passed install cause whole n side parts v u
plain_passed install cause whole n side parts v (header named) plain u = absurd plain
plain_passed install cause whole n side parts v (method text) plain u = absurd plain
plain_passed install cause whole n side parts v closing plain u = closing_passed install cause whole n side parts v u
plain_passed install cause whole n side parts v (start s) plain u = absurd plain

-- what an installer does of a definition, where nothing is held
pub installs_idle : (install : Install) (lent d : Definition) → lent ≡ d → (came : Installation) (old new : View)
    → ((s : State Births) → Shows (shown old idle_frame (empty_world nil)) s → InstallsAs (install lent s) came (shown new idle_frame (empty_world nil)))
    → (s : State Births) → Shows (idle_state old) s → InstallsAs (install d s) came (idle_state new)
installs_idle install lent d same came old new does s shows =
    subst (λ c. InstallsAs (install d s) came c) (shown_idle new)
    (subst (λ x. InstallsAs (install x s) came (shown new idle_frame (empty_world nil))) same (does s (subst (λ c. Shows c s) (sym (shown_idle old)) shows)))
