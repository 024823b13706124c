-- What is written is read back.
use Rattle.std.proofs.Common.{◌≡◌, ℕ, List, length, refl, sym, ap, subst, ◌∙◌}
use Rattle.st_model.specs.declared.head.ImageHead.{ImageHead}
use Rattle.st_model.specs.Machine.{State, Went}
use Rattle.st_model.specs.Table.{Table, table}
use Rattle.st_model.specs.View.{View, IsWhole}
use Rattle.st_model.specs.Contexts.{fetch_scheduled_registers}
use Rattle.st_model.specs.Image.{image_head}
use Rattle.st_model.specs.Start.{idle_state, start, start_view}
use Rattle.st_model.specs.Faults.{IsWellFormed}
use Rattle.st_frames.specs.declared.frame.Frame.{Frame}
use Rattle.st_image.specs.HeadValues.{no_values, head_over}
use Rattle.st_image.specs.inside.Reading.{IsStart}
use Rattle.st_image.specs.inside.Back.{CanStart}
use Rattle.st_image.proofs.Starts.{is_well_formed}
use Rattle.st_writer.specs.Written.{used_below, text_of, image_of}
use Rattle.st_writer.proofs.Placing.{head_back}
use Rattle.st_writer.proofs.Entries.{head_of}
use Rattle.st_writer.proofs.Rows.{clean, objects_back, view_head_back}

pub own_head : (bytes : List ℕ) → head_over no_values bytes ≡ image_head bytes
unfolding head_over
own_head bytes = refl

-- an image's head and bytes, as the proofs of the writer name them
abbrev Holds : (ImageHead → List ℕ → Type 0) → View → Type 0
Holds P v = let n = used_below v.objects (length v.objects) in P (head_of v.objects n v.head) (text_of v.objects n v.head)

of_image : (P : ImageHead → List ℕ → Type 0) (v : View) → Holds P v → P (head_over no_values (image_of v)) (image_of v)
unfolding image_of
of_image P v holds =
    let n = used_below v.objects (length v.objects) in
    let head = own_head (text_of v.objects n v.head) ∙ head_back v.objects n v.head in
    subst (λ (h : ImageHead). P h (text_of v.objects n v.head)) (sym head) holds

starts : (h : ImageHead) (bytes : List ℕ) (v : View) (s : State Table) → (start_view h bytes).objects ≡ v.objects → (start_view h bytes).head ≡ v.head
    → (fetch_scheduled_registers table).run (idle_state v) ≡ Went tt s → start h bytes ≡ Went tt s
unfolding start
starts h bytes v s objects head went =
    ap (fetch_scheduled_registers table).run (λ k. record (idle_state v) { memory = objects k; head = head k }) ∙ went

pub formed : (v : View) → IsWhole v → CanStart v → IsWellFormed (head_over no_values (image_of v)) (image_of v)
formed v whole can =
    let n = used_below v.objects (length v.objects) in
    let h = head_of v.objects n v.head in
    let bytes = text_of v.objects n v.head in
    of_image IsWellFormed v (is_well_formed h bytes can.0 (clean v whole) (starts h bytes v can.0 (objects_back v whole) (view_head_back v whole) can.1))

pub objects_same : (v w : View) (f : Frame) → IsWhole v → IsStart (head_over no_values (image_of v)) (image_of v) w f → w.objects ≡ v.objects
objects_same v w f whole start = start.objects ∙ of_image (λ h bytes. (start_view h bytes).objects ≡ v.objects) v (objects_back v whole)

pub head_same : (v w : View) (f : Frame) → IsWhole v → IsStart (head_over no_values (image_of v)) (image_of v) w f → w.head ≡ v.head
head_same v w f whole start = start.head ∙ of_image (λ h bytes. (start_view h bytes).head ≡ v.head) v (view_head_back v whole)
