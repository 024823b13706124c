use Rattle.std.proofs.Common.{◌≡◌, ◌≤◌, ◌+◌, ◌/◌, true, is_some, arith}
use Rattle.std.proofs.lemmas.Grind.{common_steps}
use Rattle.st_plain.specs.inside.Lists.{slot}
use Rattle.st_plain.proofs.Looking.{live_word, dead_word, none_from}
use Rattle.st_plain.proofs.objects.Objects.next_live.Goals as goal

pub returns-then-is_some-clause-found : goal.returns-then-is_some-clause-found
returns-then-is_some-clause-found c =
    let o = c.args.self.now in
    let here : is_some (slot o.entries.items c.loop-k.k) ≡ true = grind (arith, common_steps) in
    (live_word o.pointers.items o.units.items o.entries.items c.loop-k.k here, omega arith)

pub returns-then-is_some-clause-least : goal.returns-then-is_some-clause-least
returns-then-is_some-clause-least c = λ p low high.
    let o = c.args.self.now in
    dead_word o.pointers.items o.units.items o.entries.items c.args.after c.loop-k.k p.0 c.loop-k.invariant low high

pub returns-clause-none : goal.returns-clause-none
returns-clause-none c = λ p low.
    let o = c.args.self.now in
    let past : o.table_end ≤ c.loop-k.k = omega arith in
    dead_word o.pointers.items o.units.items o.entries.items c.args.after (p.0 / 2 + 1) p.0
    (λ j from below. none_from o.entries.items (c.args.after / 2 + 1) c.loop-k.k o.table_end j past c.loop-k.invariant o.laid_out.empty from) low (omega arith)
