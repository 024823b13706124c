-- What is said of what is seen of a machine are whole lines, which acknowledge nothing.
use Rattle.std.proofs.Common.{List, [], ◌∷◌, ◌++◌, length, refl}
use Rattle.std.specs.Prelude.{codes}
use Rattle.std.specs.Fmt.{decimal, signed_decimal}
use Rattle.std.specs.List.{flat_map}
use Rattle.st_model.specs.Values.{Value}
use Rattle.st_model.specs.Table.{Table}
use Rattle.st_model.specs.Text.{values_text, numbers_text}
use Rattle.st_debug.specs.Watched.{At, at_text}
use Rattle.st_debug.specs.Stack.{Call, calls, most_calls, frame_line, stack_lines, stack_text}
use Rattle.st_call.specs.Replies.{missing_text}
use Rattle.st_protocol.specs.Acknowledged.{IsLines}
use Rattle.st_protocol.proofs.Lawful.{lines_both}
use Rattle.st_session.proofs.WholeLines.{one_line, no_text, ends, behind, decimal_in_line, signed_in_line, values_in_line, numbers_lines}

pub missing_lines : IsLines 0 missing_text
missing_lines = record { whole = refl; count = refl }

pub at_lines : (a : At) → IsLines 0 (at_text a)
at_lines a =
    let values = values_text (a.active ∷ a.method ∷ []) in
    let place = codes " " ++ signed_decimal a.place in
    let code = codes " " ++ decimal a.code in
    let last = code ++ codes "\n" in
    one_line 0 (at_text a) (behind (codes "at") (values ++ (place ++ last)) refl (behind values (place ++ last) (values_in_line (a.active ∷ a.method ∷ []))
    (behind place last (signed_in_line a.place) (behind code (codes "\n") (decimal_in_line a.code) ends)))) refl

frame_lines : (c : Call) → IsLines 0 (frame_line c)
frame_lines c =
    let values = values_text (c.context ∷ c.method ∷ []) in
    one_line 0 (frame_line c) (behind (codes "frame") (values ++ codes "\n") refl (behind values (codes "\n") (values_in_line (c.context ∷ c.method ∷ [])) ends)) refl

all_frames : (cs : List Call) → IsLines 0 (flat_map frame_line cs)
all_frames [] = no_text
all_frames (c ∷ cs) = lines_both 0 0 (frame_line c) (flat_map frame_line cs) (frame_lines c) (all_frames cs)

frames_said : (cs : List Call) → IsLines 0 (stack_lines cs)
frames_said cs =
    lines_both 0 0 (codes "stack" ++ (numbers_text (length cs ∷ []) ++ codes "\n")) (flat_map frame_line cs) (numbers_lines 0 (codes "stack") (length cs ∷ []) refl refl) (all_frames cs)

pub stack_said : (t : Table) (active : Value) → IsLines 0 (stack_text t active)
stack_said t active = frames_said (calls t most_calls active)
