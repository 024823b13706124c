use Rattle.std.proofs.Common.{refl}
use Rattle.st_model.specs.Values.{value}
use Rattle.st_model.proofs.Exchanging.{whole_exchanged}
use Rattle.st_plain.specs.inside.Plain.{plain_view}
use Rattle.st_plain.proofs.Filled.{kept}
use Rattle.st_plain.proofs.memory.PlainMemoryMemory.swap.Goals as goal

pub invariant_of-self : goal.invariant_of-self
invariant_of-self c =
    let m = c.args.self.now in
    let now = c.exchange.new.self in
    let e = c.exchange.ensures in
    kept m now (whole_exchanged (plain_view m.contents) (plain_view (record m.contents { objects = now })) (value c.args.a) (value c.args.b) m.whole c.requires.first c.requires.second e.objects refl refl) e.extent
