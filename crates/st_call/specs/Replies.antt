-- The lines of a session besides those of a run and of a state.
use Rattle.std.specs.Prelude.{ℕ, Bool, List, [], ◌∷◌, ◌++◌, length, codes}
use Rattle.st_model.specs.declared.demand.Demand.{Demand}
use Rattle.st_model.specs.Machine.{State}
use Rattle.st_model.specs.Table.{Table}
use Rattle.st_model.specs.Text.{numbers_text, registers_text, input_text, held_text}
use Rattle.st_chunk.specs.Definitions.{Definition}
use Rattle.st_chunk.specs.Groups.{side_text}
use Rattle.st_protocol.specs.declared.refusal.Refusal.{Refusal}
use Rattle.st_protocol.specs.declared.refusal.Refusal.TheVariants as refusal

-- an event came
abbrev pub ok_text : List ℕ
ok_text = codes "ok\n"

-- or the input was full
abbrev pub full_text : List ℕ
full_text = codes "input full\n"

-- the registers, the input state, and what is held
abbrev pub machine_text : State Table → List ℕ
machine_text s = registers_text s.registers ++ (input_text s.world ++ held_text s.world.devices)

-- the class, its side, and the selector
abbrev pub accepted_line : List ℕ → Bool → List ℕ → List ℕ
accepted_line class meta selector = codes "accepted " ++ (class ++ (side_text meta ++ (codes " " ++ (selector ++ codes "\n"))))

abbrev pub accepted_text : Definition → List ℕ → List ℕ
accepted_text d selector = accepted_line d.class d.meta selector

-- why a definition is refused, without the line's first word
abbrev pub why_text : Refusal → List ℕ
why_text (refusal.Syntax place cause) = codes "syntax" ++ (numbers_text (place ∷ cause ∷ []) ++ codes "\n")
why_text (refusal.Code place cause) = codes "code" ++ (numbers_text (place ∷ cause ∷ []) ++ codes "\n")
why_text refusal.NoClass = codes "install" ++ (numbers_text (1 ∷ []) ++ codes "\n")
why_text refusal.NoGlobals = codes "install" ++ (numbers_text (2 ∷ []) ++ codes "\n")
why_text (refusal.NoRoom demand) = codes "install" ++ (numbers_text (3 ∷ demand.entries ∷ demand.words ∷ []) ++ codes "\n")
why_text refusal.Shape = codes "install" ++ (numbers_text (4 ∷ []) ++ codes "\n")

abbrev pub refused_text : Refusal → List ℕ
refused_text why = codes "refused " ++ why_text why

-- a snapshot was kept, whose image has so many bytes
abbrev pub snapshot_text : ℕ → List ℕ
snapshot_text length = codes "snapshot" ++ (numbers_text (length ∷ []) ++ codes "\n")

-- an image of so many bytes was exported
abbrev pub exported_text : ℕ → List ℕ
exported_text length = codes "exported" ++ (numbers_text (length ∷ []) ++ codes "\n")

-- a clean image of so many objects and words was written
abbrev pub cleaned_text : Demand → List ℕ
cleaned_text d = codes "cleaned" ++ (numbers_text (d.entries ∷ d.words ∷ []) ++ codes "\n")

-- of so many definitions so many are left
abbrev pub condensed_text : ℕ → ℕ → List ℕ
condensed_text before after = codes "condensed" ++ (numbers_text (before ∷ after ∷ []) ++ codes "\n")

-- it is missing
abbrev pub missing_text : List ℕ
missing_text = codes "not found\n"
