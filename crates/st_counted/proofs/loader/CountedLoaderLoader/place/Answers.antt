use Rattle.std.proofs.Common.{◌/◌, refl, arith}
use Rattle.st_counted.specs.inside.Counted.{counted_view}
use Rattle.st_counted.proofs.Kept.{filled}
use Rattle.st_counted.proofs.Units.{loading_fresh}
use Rattle.st_counted.proofs.loader.CountedLoaderLoader.place.Goals as goal

pub invariant_of-self : goal.invariant_of-self
invariant_of-self c =
    let l = c.args.self.now in
    let now = c.place.new.self in
    let r = c.requires in
    filled l now
    (loading_fresh (counted_view l.contents) (counted_view (record l.contents { objects = now })) c.args.at.0 (c.args.class.0 / 2) c.args.kind c.args.size c.args.literals l.loading r.even r.borne (omega arith) r.free r.makeable r.entries r.words c.place.ensures.objects refl refl)
    c.place.ensures.room
