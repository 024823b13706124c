use Rattle.std.proofs.Common.{inl, inr}
use Rattle.st_draft.specs.inside.Drafts.{with_made}
use Rattle.st_draft.proofs.Replaying.{from_value, from_field, from_source, from_before}
use Rattle.st_draft.proofs.draft.Draft.origin.Goals as goal
use Rattle.st_draft.proofs.draft.Draft.origin.Goals.{else-object-o-via-then-object-o+else-place-at, else-object-o-via-else-object-o, else-target-o-via-then-target-o+then-to-at+else-at-to, else-target-o-via-then-target-o+else-to-at, else-target-o-via-else-target-o}

pub returns-then-place-at : goal.returns-then-place-at
returns-then-place-at g c =
    let d = c.args.self.now in
    from_value (with_made (g.M.Memory.view d.base.now).objects d.notes.made d.notes.made_count) d.notes.changes c.args.k c.args.o c.args.at c.requires.has c.in-Field.object c.in-Field.place c.in-Field.value c.in-Field.is c.if-object-o.true c.if-place-at.true

pub returns-in-Some : goal.returns-in-Some
returns-in-Some g c =
    let d = c.args.self.now in
    from_source (with_made (g.M.Memory.view d.base.now).objects d.notes.made d.notes.made_count) d.notes.changes c.args.k c.args.o c.args.at c.requires.has c.in-Fields.source c.in-Fields.target c.in-Fields.n c.in-Fields.from c.in-Fields.to c.in-Fields.is c.in-Some.place c.if-target-o.true c.if-to-at.true c.if-at-to.true c.in-Some.ensures.found

pub returns-else-object-o : goal.returns-else-object-o
returns-else-object-o g c =
    let d = c.args.self.now in
    elim c.else-object-o.branch [
      | else-object-o-via-then-object-o+else-place-at w ↦ from_field (with_made (g.M.Memory.view d.base.now).objects d.notes.made d.notes.made_count) d.notes.changes c.args.k c.args.o c.args.at c.requires.has c.in-Field.object c.in-Field.place c.in-Field.value c.in-Field.is (inr w.if-place-at.false)
      | else-object-o-via-else-object-o w ↦ from_field (with_made (g.M.Memory.view d.base.now).objects d.notes.made d.notes.made_count) d.notes.changes c.args.k c.args.o c.args.at c.requires.has c.in-Field.object c.in-Field.place c.in-Field.value c.in-Field.is (inl w.if-object-o.false)
    ]

pub returns-in_default : goal.returns-in_default
returns-in_default g c =
    let d = c.args.self.now in
    from_before (with_made (g.M.Memory.view d.base.now).objects d.notes.made d.notes.made_count) d.notes.changes c.args.k c.args.o c.args.at c.requires.has c.in-Fields.source c.in-Fields.target c.in-Fields.n c.in-Fields.from c.in-Fields.to c.in-Fields.is (inr (inr (inr c.in_default.ensures.none)))

pub returns-else-target-o : goal.returns-else-target-o
returns-else-target-o g c =
    let d = c.args.self.now in
    elim c.else-target-o.branch [
      | else-target-o-via-then-target-o+then-to-at+else-at-to w ↦ from_before (with_made (g.M.Memory.view d.base.now).objects d.notes.made d.notes.made_count) d.notes.changes c.args.k c.args.o c.args.at c.requires.has c.in-Fields.source c.in-Fields.target c.in-Fields.n c.in-Fields.from c.in-Fields.to c.in-Fields.is (inr (inr (inl w.if-at-to.false)))
      | else-target-o-via-then-target-o+else-to-at w ↦ from_before (with_made (g.M.Memory.view d.base.now).objects d.notes.made d.notes.made_count) d.notes.changes c.args.k c.args.o c.args.at c.requires.has c.in-Fields.source c.in-Fields.target c.in-Fields.n c.in-Fields.from c.in-Fields.to c.in-Fields.is (inr (inl w.if-to-at.false))
      | else-target-o-via-else-target-o w ↦ from_before (with_made (g.M.Memory.view d.base.now).objects d.notes.made d.notes.made_count) d.notes.changes c.args.k c.args.o c.args.at c.requires.has c.in-Fields.source c.in-Fields.target c.in-Fields.n c.in-Fields.from c.in-Fields.to c.in-Fields.is (inl w.if-target-o.false)
    ]
