-- What a session says first: how many definitions were replayed, and which were lost.
use Rattle.std.specs.Prelude.{ℕ, List, [], ◌∷◌, ◌++◌, length, codes}
use Rattle.std.specs.List.{flat_map}
use Rattle.st_model.specs.Text.{numbers_text}
use Rattle.st_recover.specs.Replays.{Loss}
use Rattle.st_call.specs.Replies.{why_text}

-- how many definitions were replayed, and how many lost
abbrev pub opened_text : ℕ → ℕ → List ℕ
opened_text replayed lost = codes "opened" ++ (numbers_text (replayed ∷ lost ∷ []) ++ codes "\n")

-- a definition that was lost when the store was opened: its number in the changes file, and why
abbrev pub lost_text : Loss → List ℕ
lost_text loss = codes "lost" ++ (numbers_text (loss.number ∷ []) ++ (codes " " ++ why_text loss.why))

-- what is said first: how many definitions were replayed and how many lost, and a line for each lost one
abbrev pub opening_text : ℕ → List Loss → List ℕ
opening_text replayed lost = opened_text replayed (length lost) ++ flat_map lost_text lost
