use Rattle.std.proofs.Common.{◌≡◌, ◌+◌, ◌/◌, ap, cond, arith, [], ◌∷◌}
use Rattle.std.specs.Prelude.{◌==◌, Some, None}
use Rattle.st_model.specs.Values.{value}
use Rattle.st_model.specs.Machine.{table_root}
use Rattle.st_counted.specs.inside.Counts.{number_at}
use Rattle.st_counted.specs.inside.Contents.{counts_of}
use Rattle.st_counted.specs.inside.References.{times}
use Rattle.st_counted.specs.inside.Counted.{counted_view, numbers_of}
use Rattle.st_counted.proofs.Linked.{test_other}
use Rattle.st_counted.proofs.Tallying.{known_counted, entered_tally, tally_same}
use Rattle.st_counted.proofs.Finishing.{raised_tally}
use Rattle.st_counted.proofs.contents.Contents.raise_table.Goals as goal

pub add-requires-clause-counted : goal.add-requires-clause-counted
add-requires-clause-counted c small =
    let m = c.args.self.now in
    let t = (counted_view m).objects in
    let is = ap (λ b. cond b None (Some (value c.args.o))) (test_other c.args.o.0 0 c.if-o-ne0.true) in
    known_counted t _ (numbers_of m) c.args.o.0 (entered_tally t (numbers_of m) c.requires.entered) (λ s. c.requires.known (value c.args.o) is) small

pub add-requires-clause-room : goal.add-requires-clause-room
add-requires-clause-room c = c.requires.room (c.args.o.0 / 2)

pub returns-then-o-ne0-clause-adds : goal.returns-then-o-ne0-clause-adds
returns-then-o-ne0-clause-adds c =
    let m = c.args.self.now in
    let t = (counted_view m).objects in
    let x = value c.args.o in
    let is = ap (λ b. cond b None (Some x)) (test_other c.args.o.0 0 c.if-o-ne0.true) in
    let cs1 = counts_of c.add.new.counts in
    tally_same t _ (λ j. times j (table_root (cond (c.args.o.0 == 0) None (Some x))) + number_at (numbers_of m) j) cs1 (raised_tally t (numbers_of m) cs1 x 1 c.requires.entered (λ s. c.requires.known x is) c.add.ensures)
    (λ j. let a : times j (table_root (cond (c.args.o.0 == 0) None (Some x))) ≡ times j (x ∷ []) = ap (λ y. times j (table_root y)) is in omega (arith, a))

pub returns-else-o-ne0-clause-adds : goal.returns-else-o-ne0-clause-adds
returns-else-o-ne0-clause-adds c =
    let m = c.args.self.now in
    let t = (counted_view m).objects in
    let x = value c.args.o in
    let is = ap (λ n. cond (n == 0) None (Some x)) c.if-o-ne0.false in
    tally_same t (number_at (numbers_of m)) (λ j. times j (table_root (cond (c.args.o.0 == 0) None (Some x))) + number_at (numbers_of m) j) (numbers_of m) (entered_tally t (numbers_of m) c.requires.entered)
    (λ j. let a : times j (table_root (cond (c.args.o.0 == 0) None (Some x))) ≡ 0 = ap (λ y. times j (table_root y)) is in omega (arith, a))
