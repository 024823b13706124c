use Rattle.std.proofs.Common.{rules, ◌≡◌, true, sym, ◌∙◌, subst}
use Rattle.st_model.specs.Values.{Value, word}
use Rattle.st_model.specs.View.{is_live}
use Rattle.st_model.specs.Formed.{IsMakeable}
use Rattle.st_memory.proofs.Bodies.{live_small}
use Rattle.st_memory.proofs.Fresh.{made_of}
use Rattle.st_memory.proofs.Wide.{new_died, made_here, full_here, half_same, fits_made}
use Rattle.st_memory.proofs.live.AnyObjects.make.Goals as goal

pub returns-in_err-object-clause-makes : goal.returns-in_err-object-clause-makes
returns-in_err-object-clause-makes g c = λ s e a. search (rules, new_died c.args.kind c.args.size c.args.literals (word c.args.class) s c.in_err-object.field-0.0 (c.in_err-object.ensures.object s e))

pub words-requires : goal.words-requires
words-requires g c =
    let t = (g.M.Memory.view c.args.self.now).objects in
    let live = subst (λ (x : Value). is_live t x ≡ true) c.in_ok-object.ensures.same c.in_ok-object.ensures.live in
    made_of c.args.class c.args.kind c.args.size c.args.literals (live_small t (word c.args.class) live) c.requires.makeable

pub make-requires-clause-makeable : goal.make-requires-clause-makeable
make-requires-clause-makeable g c =
    let t = (g.M.Memory.view c.args.self.now).objects in
    let live = subst (λ (x : Value). is_live t x ≡ true) c.in_ok-object.ensures.same c.in_ok-object.ensures.live in
    let half = half_same t c.in_ok-object.object.0 c.args.class.0 c.in_ok-object.ensures.same c.in_ok-object.ensures.live in
    subst (λ n. IsMakeable n c.args.kind c.args.size c.args.literals) (sym half)
    (made_of c.args.class c.args.kind c.args.size c.args.literals (live_small t (word c.args.class) live) c.requires.makeable)

pub returns-then-room-clause-makes : goal.returns-then-room-clause-makes
returns-then-room-clause-makes g c =
    let v = g.M.Memory.view c.args.self.now in
    λ s e a.
    made_here c.args.kind c.args.size c.args.literals v (word c.args.class) c.in_ok-object.object.0 s e a c.in_ok-object.ensures.same c.in_ok-object.ensures.live
    (g.M.Memory.view c.make.new.self).objects (word c.from.result)
    (fits_made v c.in_ok-object.object.0 c.args.class.0 c.args.kind c.args.size c.args.literals c.words.result c.in_ok-object.ensures.same c.in_ok-object.ensures.live c.words.ensures.words ∙ sym c.room.ensures ∙ c.if-room.true)
    (c.from.ensures ∙ c.make.ensures.pointer) c.make.ensures.objects

pub returns-else-room-clause-makes : goal.returns-else-room-clause-makes
returns-else-room-clause-makes g c =
    let v = g.M.Memory.view c.args.self.now in
    λ s e a.
    full_here c.args.kind c.args.size c.args.literals v (word c.args.class) c.in_ok-object.object.0 s e a c.in_ok-object.ensures.same c.in_ok-object.ensures.live
    (fits_made v c.in_ok-object.object.0 c.args.class.0 c.args.kind c.args.size c.args.literals c.words.result c.in_ok-object.ensures.same c.in_ok-object.ensures.live c.words.ensures.words ∙ sym c.room.ensures ∙ c.if-room.false)
