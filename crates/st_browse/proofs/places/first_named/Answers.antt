use Rattle.std.proofs.Common.{◌∙◌, sym, ap}
use Rattle.st_browse.specs.Naming.{first_named}
use Rattle.st_browse.specs.inside.Entries.{count_of, name_at, names_in, named_if}
use Rattle.st_browse.proofs.Seeking.{not_here, in_count}
use Rattle.st_browse.proofs.places.first_named.Goals as goal

pub loop-i-preserved : goal.loop-i-preserved
loop-i-preserved g c =
    let t = (g.M.Memory.view c.args.m.now).objects in
    not_here c.args.text.now (name_at t c.args.names) (count_of c.args.names) c.loop-i.i (first_named c.args.text.now (names_in t c.args.names))
    (in_count c.count_of-i-end.ensures c.loop-i-test.true) (ap (named_if t) (sym c.in_default.is) ∙ c.named_so.ensures.named) c.loop-i.invariant
