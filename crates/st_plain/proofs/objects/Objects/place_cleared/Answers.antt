use Rattle.std.proofs.Common.{◌≡◌, ◌/◌, set, ap, ◌∙◌, take, drop, replicate, arith}
use Rattle.std.specs.Prelude.{Some}
use Rattle.std.proofs.lemmas.Grind.{common_steps}
use Rattle.st_counted.specs.inside.Words.{nil_word}
use Rattle.st_plain.specs.inside.Lists.{slot, cleared}
use Rattle.st_plain.specs.inside.ListsPlain.{Extent, objects_of}
use Rattle.st_plain.proofs.Placing.{cleared_object, set_object}
use Rattle.st_plain.proofs.Slots.{free_slot}
use Rattle.st_plain.proofs.objects.Objects.place_cleared.Goals as goal

pub add-requires-clause-free : goal.add-requires-clause-free
add-requires-clause-free c =
    let o = c.args.self.now in
    let half : c.from.result ≡ c.args.at.0 / 2 = grind (arith, common_steps) in
    ap (λ es. slot es c.from.result) c.clear_free.ensures.entries ∙ ap (slot o.entries.items) half ∙ free_slot o.pointers.items o.units.items o.entries.items c.args.at.0 c.requires.even c.requires.free

pub returns-clause-objects : goal.returns-clause-objects
returns-clause-objects c =
    let o = c.args.self.now in
    let n = c.clear_free.new.self in
    let half : c.from.result ≡ c.args.at.0 / 2 = grind (arith, common_steps) in
    let field = ap (λ (e : Extent). e.next_field) c.clear_free.ensures.extent in
    let unit = ap (λ (e : Extent). e.next_unit) c.clear_free.ensures.extent in
    let fields : take c.args.fields (drop n.next_field n.pointers.items) ≡ replicate c.args.fields nil_word = ap (λ a. take c.args.fields (drop a n.pointers.items)) field ∙ c.clear_free.ensures.fields in
    let units : take c.args.units (drop n.next_unit n.units.items) ≡ replicate c.args.units 0 = ap (λ a. take c.args.units (drop a n.units.items)) unit ∙ c.clear_free.ensures.units in
    c.add.ensures.objects
    ∙ ap (λ b. set (objects_of n) c.from.result (Some b)) (cleared_object n.pointers.items n.units.items c.args.class c.args.kind n.next_field c.args.fields n.next_unit c.args.units fields units)
    ∙ ap (λ t. set t c.from.result (Some (cleared (c.args.class.0 / 2) c.args.kind c.args.fields c.args.units))) c.clear_free.ensures.objects
    ∙ ap (λ k. set (objects_of o) k (Some (cleared (c.args.class.0 / 2) c.args.kind c.args.fields c.args.units))) half
    ∙ set_object (objects_of o) c.args.at.0 (cleared (c.args.class.0 / 2) c.args.kind c.args.fields c.args.units) c.requires.even
