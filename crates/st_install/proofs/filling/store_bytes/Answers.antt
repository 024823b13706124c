use Rattle.std.proofs.Common.{◌+◌, ◌≤◌, length, arith}
use Rattle.st_model.specs.Values.{value}
use Rattle.st_model.specs.Table.{table}
use Rattle.st_model.specs.Steps.{store_bytes}
use Rattle.st_install.proofs.Going.{all_left, left_same, left_goes, left_next, left_done}
use Rattle.st_install.proofs.Filled.{bytes_from, bytes_begin, bytes_turn, bytes_end}
use Rattle.st_install.proofs.filling.store_bytes.Goals as goal

pub loop-i-init : goal.loop-i-init
loop-i-init g c =
    let v = g.M.Memory.view c.args.m.now in
    let whole = store_bytes table (value c.args.o) c.args.to c.args.bytes.now in
    left_same whole whole v v (all_left whole v) (bytes_from (value c.args.o) c.args.to c.args.bytes.now 0) (bytes_begin (value c.args.o) c.args.to c.args.bytes.now)

pub store_byte-requires : goal.store_byte-requires
store_byte-requires g c =
    let from = bytes_from (value c.args.o) c.args.to c.args.bytes.now in
    left_goes (store_bytes table (value c.args.o) c.args.to c.args.bytes.now) (from c.loop-i.i) (g.M.Memory.view c.args.m.now) (g.M.Memory.view c.loop-i.m) c.loop-i.invariant _ (from (c.loop-i.i + 1))
    (bytes_turn (value c.args.o) c.args.to c.args.bytes.now c.loop-i.i 0 (let l = c.loop-i-test.true in omega (arith, l))) c.requires.goes

pub loop-i-preserved : goal.loop-i-preserved
loop-i-preserved g c =
    let from = bytes_from (value c.args.o) c.args.to c.args.bytes.now in
    left_next (store_bytes table (value c.args.o) c.args.to c.args.bytes.now) (from c.loop-i.i) (g.M.Memory.view c.args.m.now) (g.M.Memory.view c.loop-i.m) c.loop-i.invariant _ (from (c.loop-i.i + 1)) (g.M.Memory.view c.store_byte.new.m)
    (bytes_turn (value c.args.o) c.args.to c.args.bytes.now c.loop-i.i 0 (let l = c.loop-i-test.true in omega (arith, l))) c.store_byte.ensures.becomes c.store_byte.ensures.fields

pub returns-clause-becomes : goal.returns-clause-becomes
returns-clause-becomes g c =
    let l = c.loop-i-test.false in
    let last : length c.args.bytes.now ≤ c.loop-i.i = omega (arith, l) in
    left_done (store_bytes table (value c.args.o) c.args.to c.args.bytes.now) (bytes_from (value c.args.o) c.args.to c.args.bytes.now c.loop-i.i) (g.M.Memory.view c.args.m.now) (g.M.Memory.view c.loop-i.m) c.loop-i.invariant
    (bytes_end (value c.args.o) c.args.to c.args.bytes.now c.loop-i.i last)
