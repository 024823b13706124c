use Rattle.std.proofs.Common.{◌≡◌, ℕ, ◌+◌, ◌<◌, refl, ap, take, map, arith}
use Rattle.std.specs.Prelude.{slice_index_or}
use Rattle.std.proofs.lemmas.Grind.{common_steps}
use Rattle.std.proofs.lemmas.List.{length-take-le, length-map}
use Rattle.std.proofs.lemmas.Option.{slice_get-get_or}
use Rattle.st_model.specs.Values.{value}
use Rattle.st_counted.specs.inside.Counts.{number_at}
use Rattle.st_counted.specs.inside.Contents.{counts_of}
use Rattle.st_counted.specs.declared.contents.Contents.{Contents}
use Rattle.st_counted.specs.inside.References.{times, raised_by}
use Rattle.st_counted.specs.inside.Counted.{counted_view, numbers_of}
use Rattle.st_counted.proofs.Tallying.{known_counted, tally_most}
use Rattle.st_counted.proofs.Rooting.{times_few}
use Rattle.st_counted.proofs.Finishing.{times_words, adds_none, adds_more}
use Rattle.st_counted.proofs.contents.Contents.raise_all.Goals as goal

pub add-requires-clause-counted : goal.add-requires-clause-counted
add-requires-clause-counted c small =
    let words = c.args.words.now in
    known_counted (counted_view c.args.self.now).objects _ (numbers_of c.loop-o.self) _ c.loop-o.invariant.adds (c.requires.known c.loop-o.o-index _ (slice_get-get_or words c.loop-o.o-index _ (omega arith))) small

pub add-requires-clause-room : goal.add-requires-clause-room
add-requires-clause-room c =
    let words = c.args.words.now in
    let at = c.loop-o.o-index in
    let all : (j : ℕ) → number_at (numbers_of c.loop-o.self) j + 1 < 4294967296 = λ j.
    let a = tally_most (counted_view c.args.self.now).objects (λ k. times k (map value (take at words)) + number_at (numbers_of c.args.self.now) k) (numbers_of c.loop-o.self) j c.loop-o.invariant.adds in
    let b = times_few j (map value (take at words)) in
    let d = length-map (take at words) value in
    let e = length-take-le at words (omega arith) in
    let f = c.requires.room j in omega (arith, a, b, d, e, f) in
    all _

pub loop-o-init : goal.loop-o-init
loop-o-init c = record { adds = adds_none (counted_view c.args.self.now).objects (numbers_of c.args.self.now) c.requires.entered; rest = refl }

pub loop-o-preserved : goal.loop-o-preserved
loop-o-preserved c =
    let m = c.args.self.now in
    let words = c.args.words.now in
    let at = c.loop-o.o-index in
    let i = c.loop-o.invariant in
    let x = slice_index_or words at (record { 0 = 2 }) in
    let raised : counts_of c.add.new.counts ≡ raised_by (numbers_of c.loop-o.self) (value x) 1 = grind (arith, common_steps, c.add.ensures) in
    record {
      adds = adds_more (counted_view m).objects (numbers_of m) (numbers_of c.loop-o.self) (counts_of c.add.new.counts) (map value (take at words)) (map value (take (at + 1) words)) (value x) c.requires.entered i.adds
          (c.requires.known at x (slice_get-get_or words at (record { 0 = 2 }) (omega arith))) raised (λ j. times_words j words at (record { 0 = 2 }) (omega arith));
      rest = ap (λ (l : Contents). record l { counts = c.add.new.counts }) i.rest;
    }
