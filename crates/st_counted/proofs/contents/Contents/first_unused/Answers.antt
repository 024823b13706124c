use Rattle.std.proofs.Common.{◌≡◌, ◌/◌, true, sym, subst, arith}
use Rattle.st_counted.specs.inside.Counts.{is_unused}
use Rattle.st_counted.specs.inside.Counted.{numbers_of}
use Rattle.st_counted.proofs.ZeroList.{first_passes, none_passes}
use Rattle.st_counted.proofs.contents.Contents.first_unused.Goals as goal

pub returns-then-first-lt2-clause-none : goal.returns-then-first-lt2-clause-none
returns-then-first-lt2-clause-none c = λ k.
    let m = c.args.self.now in
    let low = c.if-first-lt2.true in
    none_passes m.objects.store (m.counts.first.0 / 2) (is_unused (numbers_of m)) k c.requires.listed.list (omega (arith, low))

pub returns-else-first-lt2-clause-found : goal.returns-else-first-lt2-clause-found
returns-else-first-lt2-clause-found c =
    let m = c.args.self.now in
    let some = c.if-first-lt2.false in
    let is = c.from.ensures in
    subst (λ k. is_unused (numbers_of m) k ≡ true) (sym is) (first_passes m.objects.store (m.counts.first.0 / 2) (is_unused (numbers_of m)) c.requires.listed.list (omega (arith, some)))
