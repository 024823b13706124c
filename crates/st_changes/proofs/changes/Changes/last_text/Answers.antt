use Rattle.std.proofs.Common.{List, sym, ap, ◌∙◌, subst}
use Rattle.st_chunk.specs.Definitions.{Definition}
use Rattle.st_changes.specs.declared.definition.Definition as declared
use Rattle.st_changes.specs.Last.{IsLast, IsLastText}
use Rattle.st_changes.proofs.Texts.{last_within, last_text_is}
use Rattle.st_changes.proofs.changes.Changes.last_text.Goals as goal

pub bounds-listed-number : goal.bounds-listed-number
bounds-listed-number c =
    let last = subst (λ (ds : List Definition). IsLast ds c.args.class.now c.args.meta c.args.selector.now c.in_ok-number.number) (sym c.definitions-listed.ensures) c.in_ok-number.ensures in
    last_within c.definitions-listed.result.now c.in_ok-number.number c.args.class.now c.args.meta c.args.selector.now last

pub returns : goal.returns
returns c =
    let last = subst (λ (ds : List Definition). IsLast ds c.args.class.now c.args.meta c.args.selector.now c.in_ok-number.number) (sym c.definitions-listed.ensures) c.in_ok-number.ensures in
    subst (λ (ds : List Definition). IsLastText ds c.args.class.now c.args.meta c.args.selector.now c.deref.result.now) c.definitions-listed.ensures
    (last_text_is c.definitions-listed.result.now c.in_ok-number.number c.args.class.now c.args.meta c.args.selector.now last c.index-listed-number.result c.deref.result.now c.index-listed-number.is (c.deref.ensures.value ∙ ap (λ (x : declared.Definition). x.text.items) (sym c.index-listed-number.is)))
