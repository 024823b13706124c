use Rattle.std.proofs.Common.{◌/◌, ◌<◌, length, refl, ap, ◌∙◌, arith}
use Rattle.st_model.specs.Objects.{words_of}
use Rattle.st_model.specs.Formed.{fresh}
use Rattle.st_model.specs.Table.{total_used}
use Rattle.st_model.specs.Values.{value}
use Rattle.st_model.proofs.FormedLemmas.{fresh_parts}
use Rattle.st_model.proofs.Pointers.{value_of-even}
use Rattle.st_model.proofs.LoadingLemmas.{total_used-with_object}
use Rattle.st_counted.proofs.Units.{loading_fresh}
use Rattle.st_plain.specs.inside.ListsPlain.{objects_of, extent_of}
use Rattle.st_plain.specs.inside.Plain.{plain_view}
use Rattle.st_plain.proofs.Fresh.{pointer_within}
use Rattle.st_plain.proofs.Room.{room_less}
use Rattle.st_plain.proofs.loader.PlainLoaderLoader.place.Goals as goal

pub invariant_of-self : goal.invariant_of-self
invariant_of-self c =
    let l = c.args.self.now in
    let now = c.place.new.self in
    let v = plain_view l.contents in
    let e = c.place.ensures in
    let r = c.requires in
    let class = c.args.class.0 / 2 in
    let o = fresh class c.args.kind c.args.size c.args.literals in
    let small : c.args.at.0 < 65536 = omega arith in
    record {
      loading = loading_fresh v (plain_view (record l.contents { objects = now })) c.args.at.0 class c.args.kind c.args.size c.args.literals l.loading r.even r.borne small r.free r.makeable r.entries r.words e.objects refl refl;
      room = room_less (extent_of l.contents.objects) (extent_of now) (total_used words_of v.objects) (total_used words_of (objects_of now)) l.contents.head.capacity.words (length o.fields) (length o.units) (words_of o) l.room e.extent
          (ap (total_used words_of) e.objects ∙ total_used-with_object v.objects (value c.args.at) (c.args.at.0 / 2) o (value_of-even c.args.at.0 r.even) (pointer_within l.contents.objects c.args.at.0 small) r.free)
          (fresh_parts class c.args.kind c.args.size c.args.literals);
      spare = l.spare;
    }
