use Rattle.std.proofs.Common.{◌≡◌, ◌<◌, length, sym, subst, ap, ◌∙◌, arith}
use Rattle.st_model.specs.Values.{value}
use Rattle.st_model.specs.Objects.{is_words}
use Rattle.st_model.specs.View.{object_of}
use Rattle.st_clean.specs.Filling.{PutsPart}
use Rattle.st_clean.proofs.Places.{puts_itself, among, part_live, part_is, puts_unit}
use Rattle.st_clean.proofs.Sizes.{words_size}
use Rattle.st_clean.proofs.filling.copy_words.Goals as goal

pub loop-i-init : goal.loop-i-init
loop-i-init g c = puts_itself (g.L.Loader.loaded c.args.loader.now) (value c.args.o) c.args.fields 0 (object_of (g.M.Memory.view c.args.m.now).objects (value c.args.o)) c.requires.placed

pub word-requires-clause-range : goal.word-requires-clause-range
word-requires-clause-range g c =
    let o = object_of (g.M.Memory.view c.args.m.now).objects (value c.args.o) in
    let s = words_size o c.requires.kind in
    let u = c.requires.units in
    omega (arith, s, u)

pub set_word-requires-clause-live : goal.set_word-requires-clause-live
set_word-requires-clause-live g c =
    let o = object_of (g.M.Memory.view c.args.m.now).objects (value c.args.o) in
    let a = among (g.L.Loader.loaded c.args.loader.now) (g.L.Loader.loaded c.loop-i.loader) (value c.args.o) o c.requires.placed.place c.requires.placed.is c.requires.placed.inside c.args.fields c.loop-i.i c.loop-i.invariant in
    part_live (g.L.Loader.loaded c.loop-i.loader) (value c.args.o) c.args.fields c.loop-i.i o a

pub set_word-requires-clause-kind : goal.set_word-requires-clause-kind
set_word-requires-clause-kind g c =
    let o = object_of (g.M.Memory.view c.args.m.now).objects (value c.args.o) in
    let a = among (g.L.Loader.loaded c.args.loader.now) (g.L.Loader.loaded c.loop-i.loader) (value c.args.o) o c.requires.placed.place c.requires.placed.is c.requires.placed.inside c.args.fields c.loop-i.i c.loop-i.invariant in
    ap (λ p. is_words p.kind) (part_is (g.L.Loader.loaded c.loop-i.loader) (value c.args.o) c.args.fields c.loop-i.i o a) ∙ (ap is_words a.is_part.kind ∙ c.requires.kind)

pub set_word-requires-clause-range : goal.set_word-requires-clause-range
set_word-requires-clause-range g c =
    let o = object_of (g.M.Memory.view c.args.m.now).objects (value c.args.o) in
    let a = among (g.L.Loader.loaded c.args.loader.now) (g.L.Loader.loaded c.loop-i.loader) (value c.args.o) o c.requires.placed.place c.requires.placed.is c.requires.placed.inside c.args.fields c.loop-i.i c.loop-i.invariant in
    let l : c.loop-i.i < length a.part.units = let m = a.is_part.many_units in let n = c.requires.units in omega (arith, m, n) in
    subst (λ p. c.loop-i.i < length p.units) (sym (part_is (g.L.Loader.loaded c.loop-i.loader) (value c.args.o) c.args.fields c.loop-i.i o a)) l

pub loop-i-preserved : goal.loop-i-preserved
loop-i-preserved g c =
    let o = object_of (g.M.Memory.view c.args.m.now).objects (value c.args.o) in
    puts_unit (g.L.Loader.loaded c.args.loader.now) (g.L.Loader.loaded c.loop-i.loader) (value c.args.o) o c.requires.placed.place c.requires.placed.is c.requires.placed.inside (g.L.Loader.loaded c.set_word.new.self) c.set_word.ensures.held c.set_word.ensures.head
    c.args.fields c.loop-i.i c.word.result c.loop-i.invariant c.word.ensures c.set_word.ensures.objects

pub returns : goal.returns
returns g c =
    let o = object_of (g.M.Memory.view c.args.m.now).objects (value c.args.o) in
    let e : c.loop-i.i ≡ c.args.units = omega arith in
    subst (λ n. PutsPart (g.L.Loader.loaded c.args.loader.now) (g.L.Loader.loaded c.loop-i.loader) (value c.args.o) c.args.fields n o) e c.loop-i.invariant
