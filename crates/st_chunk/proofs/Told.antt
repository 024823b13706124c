-- What a header's end tells.
use Rattle.std.proofs.Common.{◌≡◌, ℕ, sym, ap, ◌∙◌}
use Rattle.st_chunk.specs.declared.cutting.Fed.{Fed}
use Rattle.st_chunk.specs.declared.cutting.Fed.TheVariants as answers
use Rattle.st_chunk.specs.Feeding.{State, fed, answer}
use Rattle.st_chunk.specs.Groups.{header_of}
use Rattle.st_chunk.specs.Reading.{Reading, header_ended, header_told, header_byte}

pub header_chunk : (r : Reading) (here : ℕ) (s : State) (b : ℕ) (t : State) → t ≡ fed s b → answers.Chunk ≡ answer (fed s b).phase
    → header_byte r here s b ≡ header_ended r here b (header_of t.bytes)
header_chunk r here s b t e told =
    ap (λ (f : Fed). header_told r here s b (fed s b) f) (sym told) ∙ ap (λ (x : State). header_ended r here b (header_of x.bytes)) (sym e)
