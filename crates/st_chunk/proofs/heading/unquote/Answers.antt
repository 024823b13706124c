use Rattle.std.proofs.Common.{◌≡◌, ℕ, ◌+◌, true, List, [], ◌∷◌, ◌++◌, length, drop, get_or, sym, ap, ◌∙◌, arith, append_assoc, length-append, eq-eqb}
use Rattle.std.specs.Prelude.{◌==◌}
use Rattle.st_chunk.specs.Groups.{begins}
use Rattle.st_chunk.proofs.Words.{begins_within}
use Rattle.st_chunk.proofs.Quotes.{quote_pair}
use Rattle.st_chunk.proofs.heading.unquote.Goals as goal

pub loop-at-preserved : goal.loop-at-preserved
loop-at-preserved c =
    let text = c.args.text.now in
    let at = c.loop-at.at in
    let byte = get_or text at 0 in
    let is : (byte == 39) ≡ true = eq-eqb byte 39 c.if-byte-ne39.false in
    let more : begins (λ (b : ℕ). b == 39) (drop (at + 1) text) ≡ true = sym c.if-has_quote.ensures in
    let inside = begins_within (λ (b : ℕ). b == 39) text (at + 1) more in
    let long = ap length c.push-then-has_quote.ensures in
    record {
      done = c.loop-at.invariant.done ++ byte ∷ [];
      held = c.push-then-has_quote.ensures ∙ ap (λ (x : List ℕ). x ++ byte ∷ []) c.loop-at.invariant.held ∙ append_assoc c.args.held.now c.loop-at.invariant.done (byte ∷ []);
      so_far = quote_pair text c.loop-at.invariant.done at c.loop-at-test.true is more c.loop-at.invariant.so_far;
      within = omega arith;
      room = omega (arith, long, length-append c.loop-at.held (byte ∷ []), c.loop-at.invariant.room);
    }
