use Rattle.std.proofs.Common.{◌≡◌, ◌+◌, ◌≤◌, List, ℕ, length, take, get_or, set, ap, ◌∙◌, sym, arith}
use Rattle.std.proofs.lemmas.Bool.{eq-eqb, ne_eqb}
use Rattle.std.proofs.lemmas.List.{length-take-le, length-set}
use Rattle.st_chunk.specs.Texts.{doubled}
use Rattle.st_chunk.proofs.Pieces.{one_byte, two_bytes}
use Rattle.st_chunk.proofs.doubling.double_into.Goals as goal
use Rattle.st_chunk.proofs.doubling.double_into.Goals.{then-byte-eq33, else-byte-eq33}

-- what a turn makes of the buffer
made : (buffer buffer_new piece : List ℕ) (used used_new i : ℕ) → length buffer_new ≡ 512 → used_new ≤ 512 → take used_new buffer_new ≡ doubled (take (i + 1) piece) → used_new ≡ length (doubled (take (i + 1) piece))
made buffer buffer_new piece used used_new i long room is = sym (length-take-le used_new buffer_new (omega arith)) ∙ ap length is

pub loop-byte-preserved : goal.loop-byte-preserved
loop-byte-preserved c =
    let inv = c.loop-byte.invariant in
    let buffer = c.loop-byte.buffer in
    let piece = c.args.piece.now in
    let i = c.loop-byte.byte-index in
    let used = c.loop-byte.used in
    let b = get_or piece i 0 in
    let few : length piece ≤ 256 = omega arith in
    elim c.if-byte-eq33.branch [
      | then-byte-eq33 w ↦
          let full : length buffer ≡ 512 = sym (length-set buffer used b) ∙ sym (length-set (set buffer used b) (used + 1) b) ∙ sym (ap length w.buffer-is) ∙ c.if-byte-eq33.array_long in
          let is : take c.if-byte-eq33.used c.if-byte-eq33.buffer ≡ doubled (take (i + 1) piece) =
          ap (λ (n : ℕ). take n c.if-byte-eq33.buffer) w.used-is
          ∙ ap (λ (b : List ℕ). take (used + 1 + 1) b) w.buffer-is
          ∙ two_bytes buffer piece used i (omega (arith, inv.few)) c.loop-byte-test.true inv.bytes (eq-eqb _ _ w.if-byte-eq33.true) in
          record { bytes = is; few = omega (arith, w.used-is, inv.few); long = made buffer c.if-byte-eq33.buffer piece used c.if-byte-eq33.used i c.if-byte-eq33.array_long (omega (arith, inv.few, w.used-is)) is }
      | else-byte-eq33 w ↦
          let full : length buffer ≡ 512 = sym (length-set buffer used b) ∙ sym (ap length w.buffer-is) ∙ c.if-byte-eq33.array_long in
          let is : take c.if-byte-eq33.used c.if-byte-eq33.buffer ≡ doubled (take (i + 1) piece) =
          ap (λ (n : ℕ). take n c.if-byte-eq33.buffer) w.used-is
          ∙ ap (λ (b : List ℕ). take (used + 1) b) w.buffer-is
          ∙ one_byte buffer piece used i (omega (arith, inv.few)) c.loop-byte-test.true inv.bytes (ne_eqb _ _ w.if-byte-eq33.false) in
          record { bytes = is; few = omega (arith, w.used-is, inv.few); long = made buffer c.if-byte-eq33.buffer piece used c.if-byte-eq33.used i c.if-byte-eq33.array_long (omega (arith, inv.few, w.used-is)) is }
    ]
