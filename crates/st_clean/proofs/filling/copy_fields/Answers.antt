use Rattle.std.proofs.Common.{◌≡◌, ◌<◌, length, sym, subst, arith}
use Rattle.st_model.specs.Values.{value}
use Rattle.st_model.specs.Formed.{IsHeader}
use Rattle.st_model.specs.View.{object_of}
use Rattle.st_clean.specs.Filling.{PutsPart}
use Rattle.st_clean.proofs.Places.{puts_itself, among, part_live, part_is, header_part, puts_field}
use Rattle.st_clean.proofs.filling.copy_fields.Goals as goal

pub loop-i-init : goal.loop-i-init
loop-i-init g c = puts_itself (g.L.Loader.loaded c.args.loader.now) (value c.args.o) 0 0 (object_of (g.M.Memory.view c.args.m.now).objects (value c.args.o)) c.requires.placed

pub set_pointer-requires-clause-live : goal.set_pointer-requires-clause-live
set_pointer-requires-clause-live g c =
    let o = object_of (g.M.Memory.view c.args.m.now).objects (value c.args.o) in
    let a = among (g.L.Loader.loaded c.args.loader.now) (g.L.Loader.loaded c.loop-i.loader) (value c.args.o) o c.requires.placed.place c.requires.placed.is c.requires.placed.inside c.loop-i.i 0 c.loop-i.invariant in
    part_live (g.L.Loader.loaded c.loop-i.loader) (value c.args.o) c.loop-i.i 0 o a

pub set_pointer-requires-clause-range : goal.set_pointer-requires-clause-range
set_pointer-requires-clause-range g c =
    let o = object_of (g.M.Memory.view c.args.m.now).objects (value c.args.o) in
    let a = among (g.L.Loader.loaded c.args.loader.now) (g.L.Loader.loaded c.loop-i.loader) (value c.args.o) o c.requires.placed.place c.requires.placed.is c.requires.placed.inside c.loop-i.i 0 c.loop-i.invariant in
    let l : c.loop-i.i < length a.part.fields = let m = a.is_part.many_fields in let n = c.requires.fields in omega (arith, m, n) in
    subst (λ p. c.loop-i.i < length p.fields) (sym (part_is (g.L.Loader.loaded c.loop-i.loader) (value c.args.o) c.loop-i.i 0 o a)) l

pub set_pointer-requires-clause-header : goal.set_pointer-requires-clause-header
set_pointer-requires-clause-header g c =
    let o = object_of (g.M.Memory.view c.args.m.now).objects (value c.args.o) in
    let a = among (g.L.Loader.loaded c.args.loader.now) (g.L.Loader.loaded c.loop-i.loader) (value c.args.o) o c.requires.placed.place c.requires.placed.is c.requires.placed.inside c.loop-i.i 0 c.loop-i.invariant in
    subst (λ p. IsHeader p c.loop-i.i (value c.pointer.result)) (sym (part_is (g.L.Loader.loaded c.loop-i.loader) (value c.args.o) c.loop-i.i 0 o a))
    (header_part c.loop-i.i 0 c.loop-i.i o a.part (value c.pointer.result) a.is_part c.pointer.ensures.header)

pub loop-i-preserved : goal.loop-i-preserved
loop-i-preserved g c =
    let o = object_of (g.M.Memory.view c.args.m.now).objects (value c.args.o) in
    puts_field (g.L.Loader.loaded c.args.loader.now) (g.L.Loader.loaded c.loop-i.loader) (value c.args.o) o c.requires.placed.place c.requires.placed.is c.requires.placed.inside (g.L.Loader.loaded c.set_pointer.new.self) c.set_pointer.ensures.held c.set_pointer.ensures.head
    c.loop-i.i (value c.pointer.result) c.loop-i.invariant c.pointer.ensures.field c.set_pointer.ensures.objects

pub returns : goal.returns
returns g c =
    let o = object_of (g.M.Memory.view c.args.m.now).objects (value c.args.o) in
    let e : c.loop-i.i ≡ c.args.fields = omega arith in
    subst (λ n. PutsPart (g.L.Loader.loaded c.args.loader.now) (g.L.Loader.loaded c.loop-i.loader) (value c.args.o) n 0 o) e c.loop-i.invariant
