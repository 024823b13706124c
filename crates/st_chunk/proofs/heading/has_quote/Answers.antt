use Rattle.std.proofs.Common.{◌≡◌, ℕ, false, length, sym, ◌∙◌, arith}
use Rattle.std.specs.Prelude.{◌==◌, nat_lt}
use Rattle.std.proofs.lemmas.Bool.Decides.{nat_tests}
use Rattle.st_chunk.proofs.Words.{begins_at, begins_none}
use Rattle.st_chunk.proofs.heading.has_quote.Goals as goal

pub returns-then-at-text : goal.returns-then-at-text
returns-then-at-text c = sym (begins_at (λ (b : ℕ). b == 39) c.args.text.now c.args.at 0 c.if-at-text.true)

pub returns-else-at-text : goal.returns-else-at-text
returns-else-at-text c =
    let far = c.if-at-text.false in
    let out : nat_lt c.args.at (length c.args.text.now) ≡ false = grind (arith, nat_tests) in
    out ∙ sym (begins_none (λ (b : ℕ). b == 39) c.args.text.now c.args.at far)
