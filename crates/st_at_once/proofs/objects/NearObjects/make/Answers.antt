use Rattle.std.proofs.Common.{◌≡◌, true, sym, ap, ◌∙◌, arith}
use Rattle.std.specs.Prelude.{◌/◌}
use Rattle.st_model.specs.Values.{word, value, is_small}
use Rattle.st_model.specs.View.{is_live}
use Rattle.st_model.specs.Formed.{fresh}
use Rattle.st_memory.specs.inside.Making.{making_changes}
use Rattle.st_at_once.proofs.Rooms.{made_of_small, made_of_none, made_of_class, makeable, words_made, room_fits, room_made}
use Rattle.st_at_once.proofs.objects.NearObjects.make.Goals as goal

pub returns-then-is_small-clause-makes : goal.returns-then-is_small-clause-makes
returns-then-is_small-clause-makes g c = λ s e a. made_of_small c.args.kind c.args.size c.args.literals (word c.args.class) s (sym c.is_small.ensures ∙ c.if-is_small.true)

pub returns-in-None-clause-makes : goal.returns-in-None-clause-makes
returns-in-None-clause-makes g c = λ s e a.
    made_of_none c.args.kind c.args.size c.args.literals (g.M.Memory.view c.args.self.now.memory.now).objects (word c.args.class) s e (sym c.is_small.ensures ∙ c.if-is_small.false) c.in-None.ensures.gone

pub make_object-requires : goal.make_object-requires
make_object-requires g c =
    let v = g.M.Memory.view c.args.self.now.memory.now in
    let w = c.in-Some.object.0 in
    let live : is_live v.objects (value c.in-Some.object) ≡ true = c.in-Some.ensures.known (ap is_small c.in-Some.ensures.same ∙ sym c.is_small.ensures ∙ c.if-is_small.false) in
    let can = makeable c.args.kind c.args.size c.args.literals v.objects (word c.args.class) w c.in-Some.ensures.same live c.requires.makeable in
    record {
      class = live;
      makeable = can;
      room = room_fits v (fresh (w / 2) c.args.kind c.args.size c.args.literals) (making_changes c.args.kind c.args.size) (omega arith) (words_made (w / 2) c.args.kind c.args.size c.args.literals can) c.requires.room;
    }

pub returns-in-Some-clause-makes : goal.returns-in-Some-clause-makes
returns-in-Some-clause-makes g c = λ s e a.
    let v = g.M.Memory.view c.args.self.now.memory.now in
    let live : is_live v.objects (value c.in-Some.object) ≡ true = c.in-Some.ensures.known (ap is_small c.in-Some.ensures.same ∙ sym c.is_small.ensures ∙ c.if-is_small.false) in
    made_of_class c.args.kind c.args.size c.args.literals v.objects (word c.args.class) c.in-Some.object.0 c.in-Some.ensures.same live s e
    (g.M.Memory.view c.make_object.new.self.memory.now).objects (word c.from.result) (c.from.ensures ∙ c.make_object.ensures.pointer) c.make_object.ensures.objects

pub returns-in-Some-clause-room : goal.returns-in-Some-clause-room
returns-in-Some-clause-room g c =
    let v = g.M.Memory.view c.args.self.now.memory.now in
    let w = c.in-Some.object.0 in
    let live : is_live v.objects (value c.in-Some.object) ≡ true = c.in-Some.ensures.known (ap is_small c.in-Some.ensures.same ∙ sym c.is_small.ensures ∙ c.if-is_small.false) in
    let can = makeable c.args.kind c.args.size c.args.literals v.objects (word c.args.class) w c.in-Some.ensures.same live c.requires.makeable in
    room_made v (fresh (w / 2) c.args.kind c.args.size c.args.literals) (making_changes c.args.kind c.args.size) (omega arith) (words_made (w / 2) c.args.kind c.args.size c.args.literals can)
    (g.M.Memory.view c.make_object.new.self.memory.now) c.make_object.ensures.objects c.make_object.ensures.head
