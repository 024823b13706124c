use Rattle.std.proofs.Common.{◌≤◌, ◌+◌, ℕ, Result, subst, arith}
use Rattle.st_model.specs.declared.dead.Dead.{Dead}
use Rattle.st_model.specs.Values.{value}
use Rattle.st_model.specs.Table.{table}
use Rattle.st_model.specs.inside.Calls.{Reads, itself}
use Rattle.st_install.specs.Dictionaries.{count_places}
use Rattle.st_install.proofs.Going.{part_goes, remains_next, all_done}
use Rattle.st_install.proofs.Refills.{places_from, places_counted, places_turn, places_end, places_go, refilled}
use Rattle.st_install.proofs.refilling.refill.Goals as goal

pub unwrap-places-requires : goal.unwrap-places-requires
unwrap-places-requires g c = places_counted (value c.args.old) (value c.args.new) (g.M.Memory.view c.args.m.now) c.requires c.count_places.result c.count_places.ensures.counts

pub refill_from-requires-clause-goes : goal.refill_from-requires-clause-goes
refill_from-requires-clause-goes g c =
    let v = g.M.Memory.view c.args.m.now in
    let n = c.unwrap-places.result in
    let counts = subst (λ (r : Result ℕ Dead). Reads (count_places table (value c.args.old)) itself v.objects r) c.unwrap-places.ensures c.count_places.ensures.counts in
    let from = places_from (value c.args.old) (value c.args.new) n in
    let l = c.loop-k-test.true in
    part_goes (from 0) (from c.loop-k.k) v (g.M.Memory.view c.loop-k.m) c.loop-k.invariant _ (from (c.loop-k.k + 1)) (places_turn (value c.args.old) (value c.args.new) n c.loop-k.k l)
    (places_go (value c.args.old) (value c.args.new) v c.requires n counts)

pub loop-k-preserved : goal.loop-k-preserved
loop-k-preserved g c =
    let n = c.unwrap-places.result in
    let from = places_from (value c.args.old) (value c.args.new) n in
    remains_next (from 0) (from c.loop-k.k) (g.M.Memory.view c.args.m.now) (g.M.Memory.view c.loop-k.m) c.loop-k.invariant _ (from (c.loop-k.k + 1)) (g.M.Memory.view c.refill_from.new.m)
    (places_turn (value c.args.old) (value c.args.new) n c.loop-k.k c.loop-k-test.true) c.refill_from.ensures

pub returns : goal.returns
returns g c =
    let v = g.M.Memory.view c.args.m.now in
    let n = c.unwrap-places.result in
    let counts = subst (λ (r : Result ℕ Dead). Reads (count_places table (value c.args.old)) itself v.objects r) c.unwrap-places.ensures c.count_places.ensures.counts in
    let from = places_from (value c.args.old) (value c.args.new) n in
    let l = c.loop-k-test.false in
    let last : n ≤ c.loop-k.k = omega (arith, l) in
    refilled (value c.args.old) (value c.args.new) v c.requires n counts (g.M.Memory.view c.loop-k.m)
    (all_done (from 0) (from c.loop-k.k) v (g.M.Memory.view c.loop-k.m) c.loop-k.invariant (places_end (value c.args.old) (value c.args.new) n c.loop-k.k last))
