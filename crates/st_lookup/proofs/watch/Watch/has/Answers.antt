use Rattle.std.proofs.Common.{◌≡◌, ◌<◌, ◌/◌, ◌%◌, ℕ, true, false, length, sym, ap, ◌∙◌, subst, arith}
use Rattle.std.specs.Prelude.{slice_index, ◌==◌}
use Rattle.std.specs.Int.{bit_at}
use Rattle.st_lookup.specs.inside.Remembered.{on}
use Rattle.st_lookup.proofs.Bits.{read_any}
use Rattle.st_lookup.proofs.Watching.{off_value, on_value}
use Rattle.st_lookup.proofs.watch.Watch.has.Goals as goal

pub returns-clause-off : goal.returns-clause-off
returns-clause-off c e =
    let ws = c.args.self.now.words.items in
    let k = c.from-k.result in
    let small : k < 32768 = omega (arith, c.from-k.ensures, c.args.o.0) in
    let within : k / 64 < length ws = omega (arith, small, c.args.self.now.size) in
    let w : slice_index ws (k / 64) ≡ c.index.result.now = sym (c.index.ensures ∙ read_any ws (k / 64) _ 0 within) in
    let b : on ws k ≡ false = ap (λ (x : ℕ). bit_at x (k % 64) == 1) w ∙ e in
    off_value ws c.args.o.0 (subst (λ (j : ℕ). on ws j ≡ false) c.from-k.ensures b)

pub returns-clause-on : goal.returns-clause-on
returns-clause-on c e =
    let ws = c.args.self.now.words.items in
    let k = c.from-k.result in
    let small : k < 32768 = omega (arith, c.from-k.ensures) in
    let within : k / 64 < length ws = omega (arith, small, c.args.self.now.size) in
    let w : slice_index ws (k / 64) ≡ c.index.result.now = sym (c.index.ensures ∙ read_any ws (k / 64) _ 0 within) in
    let b : on ws k ≡ true = ap (λ (x : ℕ). bit_at x (k % 64) == 1) w ∙ e in
    on_value ws c.args.o.0 (subst (λ (j : ℕ). on ws j ≡ true) c.from-k.ensures b)
