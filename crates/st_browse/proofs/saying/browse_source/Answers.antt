use Rattle.std.proofs.Common.{List, ℕ, sym, ap, subst}
use Rattle.std.specs.Prelude.{Option, option_map}
use Rattle.st_chunk.specs.Asks.{Side, Source, side_of}
use Rattle.st_browse.specs.declared.saying.SourceFault.{SourceFault}
use Rattle.st_browse.specs.inside.Answering.{Answers}
use Rattle.st_browse.specs.inside.MadeTexts.{IsShown}
use Rattle.st_browse.specs.Asked.{reply}
use Rattle.st_browse.proofs.Texts.{shown_kept, shown_made}
use Rattle.st_browse.proofs.saying.browse_source.Goals as goal

pub returns-in-Some-clause-answers : goal.returns-in-Some-clause-answers
returns-in-Some-clause-answers g c = λ text shown.
    let v = g.M.Memory.view c.args.m.now in
    let ds = c.args.changes.now.listed in
    let side = side_of c.lend-side.result in
    let selector = c.args.selector.now in
    let lent = subst (λ (s : Side). IsShown v ds s selector text) (sym c.lend-side.ensures) shown in
    let same = shown_kept v ds side selector (option_map (λ t. t.now) c.last_text.result) _ c.last_text.ensures (ap (option_map (λ t. t.now)) c.in-Some.is) text lent in
    let said = subst (λ (t : Option (List ℕ)). Answers {E = SourceFault} g.H.Host (reply v t (Source side selector)) c.args.host.now c.say_text.new.host c.say_text.result) (sym same) c.say_text.ensures.answers in
    subst (λ (s : Side). Answers {E = SourceFault} g.H.Host (reply v text (Source s selector)) c.args.host.now c.say_text.new.host c.say_text.result) c.lend-side.ensures said

pub returns-in-None-clause-answers : goal.returns-in-None-clause-answers
returns-in-None-clause-answers g c = λ text shown.
    let v = g.M.Memory.view c.args.m.now in
    let ds = c.args.changes.now.listed in
    let side = side_of c.lend-side.result in
    let selector = c.args.selector.now in
    let lent = subst (λ (s : Side). IsShown v ds s selector text) (sym c.lend-side.ensures) shown in
    let made = shown_made v ds side selector (option_map (λ t. t.now) c.last_text.result) c.last_text.ensures (ap (option_map (λ t. t.now)) c.in-None.is) text lent in
    subst (λ (s : Side). Answers {E = SourceFault} g.H.Host (reply v text (Source s selector)) c.args.host.now c.say_made.new.host c.say_made.result) c.lend-side.ensures (c.say_made.ensures.answers text made)
