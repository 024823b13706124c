use Rattle.std.proofs.Common.{◌≡◌, sym, ap, ◌∙◌, subst, rules}
use Rattle.std.specs.Prelude.{is_some}
use Rattle.st_emit.specs.inside.NamePlaces.{NotesFirst, text_noted}
use Rattle.st_emit.proofs.Noting.{is_none_of, some_copied}
use Rattle.st_emit.proofs.NamePlaces.{noted_text, notes_first, notes_again}
use Rattle.st_emit.proofs.declared_names.note.Goals as goal

pub returns-in_ok-insert : goal.returns-in_ok-insert
returns-in_ok-insert c =
    let old = c.args.places.now.entries in
    let key = c.in_ok-to_vec.field-0 in
    let same : key.items ≡ c.args.text.now = search rules in
    let none = is_none_of _ (ap is_some (sym (c.get.ensures.value ∙ noted_text old c.args.text.now)) ∙ some_copied c.get.result ∙ c.if-is_none.ensures) in
    subst (λ t. NotesFirst t c.args.place old c.insert.new.self.entries) same
    (notes_first c.args.places.now c.insert.new.self key c.args.place c.in_ok-insert.ensures.updates (ap (text_noted old) same ∙ none))

pub returns-else-is_none : goal.returns-else-is_none
returns-else-is_none c =
    let old = c.args.places.now.entries in
    notes_again old c.args.text.now c.args.place (ap is_some (sym (c.get.ensures.value ∙ noted_text old c.args.text.now)) ∙ some_copied c.get.result ∙ c.if-is_none.ensures)
