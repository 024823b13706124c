use Rattle.std.proofs.Common.{◌∙◌, refl}
use Rattle.st_model.specs.Values.{value}
use Rattle.st_model.specs.Objects.{size_of}
use Rattle.st_model.specs.Formed.{fresh}
use Rattle.st_model.specs.View.{object_of}
use Rattle.st_model.proofs.WholeLemmas.{formed_live}
use Rattle.st_clean.proofs.Parts.{part_makeable, fresh_part, part_words}
use Rattle.st_clean.proofs.Pointers.{borne_live, class_half}
use Rattle.st_clean.proofs.filling.place_copy.Goals as goal
use Rattle.st_model.proofs.Making.{live_even}

pub place-requires-clause-even : goal.place-requires-clause-even
place-requires-clause-even g c = live_even (g.M.Memory.view c.args.m.now).objects (value c.args.o) c.requires.live

pub place-requires-clause-borne : goal.place-requires-clause-borne
place-requires-clause-borne g c = borne_live (g.M.Memory.view c.args.m.now) (g.met.M.Memory.whole c.args.m.now) c.args.o c.requires.live

pub place-requires-clause-makeable : goal.place-requires-clause-makeable
place-requires-clause-makeable g c =
    let v = g.M.Memory.view c.args.m.now in
    let o = object_of v.objects (value c.args.o) in
    let class = class_half c.class_of.result o.class c.class_of.ensures.class in
    let n = c.count_literals-literals.result in
    let f = c.requires.fields in
    let made = part_makeable o n (formed_live v (g.met.M.Memory.whole c.args.m.now) (value c.args.o) c.requires.live) (λ m. c.count_literals-literals.ensures.method m ∙ f) c.count_literals-literals.ensures.other in
    rw (class, c.kind.ensures.kind, c.size.ensures.size) made

pub place-requires-clause-words : goal.place-requires-clause-words
place-requires-clause-words g c =
    let v = g.M.Memory.view c.args.m.now in
    let o = object_of v.objects (value c.args.o) in
    let class = class_half c.class_of.result o.class c.class_of.ensures.class in
    let n = c.count_literals-literals.result in
    let f = c.requires.fields in
    let part = fresh_part o n (formed_live v (g.met.M.Memory.whole c.args.m.now) (value c.args.o) c.requires.live) (λ m. c.count_literals-literals.ensures.method m ∙ f) in
    let w = part_words 0 0 o (fresh o.class o.kind (size_of o) n) part in
    let room = c.requires.room.words in
    rw (class, c.kind.ensures.kind, c.size.ensures.size) (rw w room)

pub returns : goal.returns
returns g c =
    let v = g.M.Memory.view c.args.m.now in
    let o = object_of v.objects (value c.args.o) in
    let class = class_half c.class_of.result o.class c.class_of.ensures.class in
    let n = c.count_literals-literals.result in
    let f = c.requires.fields in
    let part = fresh_part o n (formed_live v (g.met.M.Memory.whole c.args.m.now) (value c.args.o) c.requires.live) (λ m. c.count_literals-literals.ensures.method m ∙ f) in
    record {
      part = fresh o.class o.kind (size_of o) n;
      is_part = part;
      puts = record {
        objects = c.place.ensures.objects ∙ rw (class, c.kind.ensures.kind, c.size.ensures.size) refl;
        held = c.place.ensures.held;
        head = c.place.ensures.head;
      };
    }
