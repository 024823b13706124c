use Rattle.std.proofs.Common.{◌≡◌, sym, ap, ◌∙◌}
use Rattle.std.specs.Prelude.{Some}
use Rattle.st_model.specs.Values.{word}
use Rattle.st_draft.proofs.Drafted.{made_if, base_if, made_field, base_field, ok_of, ok_same, nil_is}
use Rattle.st_draft.proofs.draft.Draft.first_value.Goals as goal

pub returns-then-is_some : goal.returns-then-is_some
returns-then-is_some g c =
    let d = c.args.self.now in
    let m = made_if (g.M.Memory.view d.base.now).objects d.notes.made d.notes.made_count d.notes.changes d.notes.count (word c.args.o) c.find_made.result (sym c.is_some.ensures ∙ c.if-is_some.true) c.find_made.ensures.found in
    made_field (g.M.Memory.view d.base.now).objects d.notes.made d.notes.made_count d.notes.changes d.notes.count (word c.args.o) m.0 c.args.at m.1 c.requires ∙ ap (λ x. Some x) (sym nil_is)

pub unwrap-requires : goal.unwrap-requires
unwrap-requires g c =
    let d = c.args.self.now in
    let same = base_if (g.M.Memory.view d.base.now).objects d.notes.made d.notes.made_count d.notes.changes d.notes.count (word c.args.o) c.find_made.result (sym c.is_some.ensures ∙ c.if-is_some.false) c.find_made.ensures.none in
    let x = base_field (g.M.Memory.view d.base.now).objects d.notes.made d.notes.made_count d.notes.changes d.notes.count (word c.args.o) c.args.at c.fetch_field.result same c.requires c.fetch_field.ensures in
    ok_of c.fetch_field.result x.0 x.1

pub returns : goal.returns
returns g c =
    let d = c.args.self.now in
    let same = base_if (g.M.Memory.view d.base.now).objects d.notes.made d.notes.made_count d.notes.changes d.notes.count (word c.args.o) c.find_made.result (sym c.is_some.ensures ∙ c.if-is_some.false) c.find_made.ensures.none in
    let x = base_field (g.M.Memory.view d.base.now).objects d.notes.made d.notes.made_count d.notes.changes d.notes.count (word c.args.o) c.args.at c.fetch_field.result same c.requires c.fetch_field.ensures in
    let is : x.0 ≡ c.unwrap.result = ok_same c.fetch_field.result x.0 c.unwrap.result x.1 c.unwrap.ensures in
    x.2 ∙ ap (λ y. Some (word y)) is
