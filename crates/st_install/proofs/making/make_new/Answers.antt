use Rattle.std.proofs.Common.{◌/◌, sym, subst}
use Rattle.st_model.specs.Values.{value}
use Rattle.st_model.specs.Formed.{IsMakeable}
use Rattle.st_install.specs.Installing.{size_by}
use Rattle.st_install.specs.inside.Readies.{object_of as planned_of}
use Rattle.st_install.proofs.Makings.{placed_by, class_there, makeable, room_for, makes, new_becomes}
use Rattle.st_install.proofs.making.make_new.Goals as goal
use Rattle.st_memory.proofs.Wide.{named_word}

pub make-requires-clause-class : goal.make-requires-clause-class
make-requires-clause-class g c = class_there (planned_of c.args.object.now) (g.M.Memory.view c.args.m.now) c.requires.goes

pub make-requires-clause-makeable : goal.make-requires-clause-makeable
make-requires-clause-makeable g c =
    let o = c.args.object.now in
    let v = g.M.Memory.view c.args.m.now in
    let named = named_word v.objects o.class.0 (class_there (planned_of o) v c.requires.goes) in
    subst (λ n. IsMakeable (o.class.0 / 2) o.kind n c.literals_of_new-literals.result) (sym c.size_of_new-size.ensures)
    (subst (λ n. IsMakeable (o.class.0 / 2) o.kind (size_by o.kind (planned_of o)) n) (sym c.literals_of_new-literals.ensures) (makeable (o.class.0 / 2) (planned_of o) named c.requires.plannable))

pub returns-clause-becomes : goal.returns-clause-becomes
returns-clause-becomes g c =
    let o = c.args.object.now in
    let v = g.M.Memory.view c.args.m.now in
    new_becomes o c.make.result v (g.M.Memory.view c.make.new.self) (class_there (planned_of o) v c.requires.goes) (room_for (planned_of o) c.requires.plannable v (o.class.0 / 2) c.requires.room)
    c.make.ensures.pointer (placed_by (g.M.Memory.view c.args.m.now).objects (g.M.Memory.view c.make.new.self).objects (o.class.0 / 2) o.kind _ _ _ _ c.make.ensures.objects c.size_of_new-size.ensures c.literals_of_new-literals.ensures) c.make.ensures.held c.make.ensures.head

pub returns-clause-makes : goal.returns-clause-makes
returns-clause-makes g c =
    let o = c.args.object.now in
    makes (planned_of o) c.requires.plannable (g.M.Memory.view c.args.m.now) (o.class.0 / 2) (value c.make.result) (g.M.Memory.view c.make.new.self) c.make.ensures.pointer (placed_by (g.M.Memory.view c.args.m.now).objects (g.M.Memory.view c.make.new.self).objects (o.class.0 / 2) o.kind _ _ _ _ c.make.ensures.objects c.size_of_new-size.ensures c.literals_of_new-literals.ensures) c.make.ensures.head
