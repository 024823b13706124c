use Rattle.std.proofs.Common.{List, sym, ap, ◌∙◌, subst}
use Rattle.st_chunk.specs.Definitions.{Definition}
use Rattle.st_changes.specs.inside.Views.{definitions_of}
use Rattle.st_changes.specs.inside.States.{ChangesState}
use Rattle.st_changes.specs.Last.{IsLast, IsLastSpan}
use Rattle.st_changes.proofs.Texts.{last_within}
use Rattle.st_changes.proofs.changes.Changes.last.Goals as goal

pub text_span-requires-clause-within : goal.text_span-requires-clause-within
text_span-requires-clause-within c =
    let is = ap definitions_of c.deref.ensures.value ∙ ap (λ (s : ChangesState). s.listed) c.self.view_is in
    let last = subst (λ (ds : List Definition). IsLast ds c.args.class.now c.args.meta c.args.selector.now c.in_ok-number.number) (sym is) c.in_ok-number.ensures in
    last_within c.deref.result.now c.in_ok-number.number c.args.class.now c.args.meta c.args.selector.now last

pub returns : goal.returns
returns c =
    let is = ap definitions_of c.deref.ensures.value ∙ ap (λ (s : ChangesState). s.listed) c.self.view_is in
    let last = subst (λ (ds : List Definition). IsLast ds c.args.class.now c.args.meta c.args.selector.now c.in_ok-number.number) (sym is) c.in_ok-number.ensures in
    subst (λ (ds : List Definition). IsLastSpan ds c.args.class.now c.args.meta c.args.selector.now c.text_span.result) is
    (c.text_span.ensures c.args.class.now c.args.meta c.args.selector.now last)
