use Rattle.std.proofs.Common.{◌/◌}
use Rattle.st_model.specs.Values.{value}
use Rattle.st_model.specs.View.{object_of}
use Rattle.st_clean.proofs.Places.{among, again}
use Rattle.st_clean.proofs.Pointers.{half_live, inside_live}
use Rattle.st_clean.proofs.filling.copy_object.Goals as goal

pub copy_fields-requires-clause-placed : goal.copy_fields-requires-clause-placed
copy_fields-requires-clause-placed g c =
    let v = g.M.Memory.view c.args.m.now in
    let x = value c.args.o in
    let old = g.L.Loader.loaded c.args.loader.now in
    among old (g.L.Loader.loaded c.place_copy.new.loader) x (object_of v.objects x) (c.args.o.0 / 2) (half_live v.objects c.args.o c.requires.live)
    (inside_live v old (g.met.M.Memory.whole c.args.m.now) c.args.o c.requires.live c.requires.room.places) 0 0 c.place_copy.ensures

pub copy_units-requires-clause-placed : goal.copy_units-requires-clause-placed
copy_units-requires-clause-placed g c =
    let v = g.M.Memory.view c.args.m.now in
    let x = value c.args.o in
    let o = object_of v.objects x in
    let k = c.args.o.0 / 2 in
    let is = half_live v.objects c.args.o c.requires.live in
    let old = g.L.Loader.loaded c.args.loader.now in
    let a = among old (g.L.Loader.loaded c.place_copy.new.loader) x o k is
    (inside_live v old (g.met.M.Memory.whole c.args.m.now) c.args.o c.requires.live c.requires.room.places) 0 0 c.place_copy.ensures in
    among (g.L.Loader.loaded c.place_copy.new.loader) (g.L.Loader.loaded c.copy_fields.new.loader) x o a.place a.is a.inside c.count_fields-fields.result 0 c.copy_fields.ensures

pub returns : goal.returns
returns g c =
    let v = g.M.Memory.view c.args.m.now in
    let x = value c.args.o in
    let o = object_of v.objects x in
    let is = half_live v.objects c.args.o c.requires.live in
    let old = g.L.Loader.loaded c.args.loader.now in
    again old (g.L.Loader.loaded c.place_copy.new.loader) (g.L.Loader.loaded c.copy_fields.new.loader) (g.L.Loader.loaded c.copy_units.new.loader) x (c.args.o.0 / 2) is o c.count_fields-fields.result c.count_units-units.result
    c.count_fields-fields.ensures c.count_units-units.ensures c.place_copy.ensures c.copy_fields.ensures c.copy_units.ensures
