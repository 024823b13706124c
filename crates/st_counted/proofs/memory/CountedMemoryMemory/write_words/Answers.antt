use Rattle.std.proofs.Common.{get_or, arith}
use Rattle.st_model.specs.Values.{value}
use Rattle.st_model.specs.View.{object_of}
use Rattle.st_counted.specs.inside.Counted.{counted_view}
use Rattle.st_counted.proofs.Stretches.{written_is}
use Rattle.st_counted.proofs.Kept.{kept_run}
use Rattle.st_counted.proofs.Units.{word_fits}
use Rattle.st_counted.proofs.memory.CountedMemoryMemory.write_words.Goals as goal

pub invariant_of-self : goal.invariant_of-self
invariant_of-self c =
    let o = object_of (counted_view c.args.self.now.contents).objects (value c.args.o) in
    let e = c.write_words.ensures in
    kept_run c.args.self.now c.write_words.new.self c.args.o c.args.at c.args.words.now c.requires.live
    (λ j. word_fits o (get_or c.args.words.now j 0) c.requires.kind (let small = (c.type_inv.words j).fits in omega (arith, small))) e.objects e.room e.links

pub returns-clause-objects : goal.returns-clause-objects
returns-clause-objects c = written_is (counted_view c.args.self.now.contents).objects _ c.args.o c.args.at c.args.words.now c.requires.live c.write_words.ensures.objects
