use Rattle.std.proofs.Common.{refl}
use Rattle.st_model.specs.Values.{value}
use Rattle.st_model.proofs.WholeLemmas.{whole_held}
use Rattle.st_plain.specs.inside.Plain.{plain_view}
use Rattle.st_plain.proofs.memory.PlainMemoryMemory.hold.Goals as goal

pub invariant_of-self : goal.invariant_of-self
invariant_of-self c =
    let m = c.args.self.now in
    let v = plain_view m.contents in
    let w = plain_view (record m.contents { roots = c.hold.new.self }) in
    record { whole = whole_held v w c.args.place (value c.args.o) m.whole c.requires.known refl c.hold.ensures refl; long = record { objects = m.long.objects; spare = m.long.spare } }
