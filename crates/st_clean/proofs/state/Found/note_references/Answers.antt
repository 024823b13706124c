use Rattle.std.proofs.Common.{[], ◌∷◌, subst}
use Rattle.st_model.specs.Values.{value, Ref}
use Rattle.st_model.specs.View.{object_of}
use Rattle.st_clean.specs.inside.Found.{Notes}
use Rattle.st_clean.proofs.Steps.{notes_join}
use Rattle.st_clean.proofs.state.Found.note_references.Goals as goal

pub returns : goal.returns
returns g c =
    let o = object_of (g.M.Memory.view c.args.m.now).objects (value c.args.o) in
    let class = subst (λ v. Notes (v ∷ []) c.args.self.now c.note.new.self) c.class_of.ensures.class c.in_ok-note.ensures in
    notes_join (Ref o.class ∷ []) o.fields c.args.self.now c.note.new.self c.note_fields.new.self class c.in_ok-note_fields.ensures
