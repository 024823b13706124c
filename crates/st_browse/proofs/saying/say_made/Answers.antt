use Rattle.std.proofs.Common.{List, ℕ, Some, sym, subst, ap, ◌∙◌}
use Rattle.std.specs.Prelude.{Option, option_map}
use Rattle.st_chunk.specs.Asks.{Source, side_of}
use Rattle.st_browse.specs.declared.saying.SourceFault.{SourceFault}
use Rattle.st_browse.specs.declared.saying.SourceFault.TheVariants as fault
use Rattle.st_browse.specs.inside.Answering.{Answers}
use Rattle.st_browse.specs.Asked.{reply}
use Rattle.st_browse.specs.Decompiling.{method_place}
use Rattle.st_scope.specs.inside.Findings.{text_of}
use Rattle.st_browse.proofs.Making.{one_made}
use Rattle.st_browse.proofs.Texts.{unsaid}
use Rattle.st_browse.proofs.saying.say_made.Goals as goal

pub returns-in-Ok-Some-clause-answers : goal.returns-in-Ok-Some-clause-answers
returns-in-Ok-Some-clause-answers g c = λ text made.
    let v = g.M.Memory.view c.args.m.now in
    let side = side_of c.args.side in
    let selector = c.args.selector.now in
    let found = ap (option_map text_of) c.in-Ok-Some.field-0-is ∙ ap (λ (t : List ℕ). Some t) (sym c.deref.ensures.value) in
    let same = one_made v (method_place v side selector) text (option_map text_of c.in-Ok-Some.field-0) made c.in-Ok-Some.ensures ∙ found in
    subst (λ (t : Option (List ℕ)). Answers {E = SourceFault} g.H.Host (reply v t (Source side selector)) c.args.host.now c.say_text.new.host c.say_text.result) (sym same) c.say_text.ensures.answers

pub returns-in-Ok-None-clause-answers : goal.returns-in-Ok-None-clause-answers
returns-in-Ok-None-clause-answers g c = λ text made.
    let v = g.M.Memory.view c.args.m.now in
    let side = side_of c.args.side in
    let selector = c.args.selector.now in
    let same = one_made v (method_place v side selector) text (option_map text_of c.in-Ok-None.field-0) made c.in-Ok-None.ensures ∙ ap (option_map text_of) c.in-Ok-None.field-0-is in
    subst (λ (t : Option (List ℕ)). Answers {E = SourceFault} g.H.Host (reply v t (Source side selector)) c.args.host.now c.say_text-in-Ok-None.new.host c.say_text-in-Ok-None.result) (sym same) c.say_text-in-Ok-None.ensures.answers

pub returns-in-Err-clause-answers : goal.returns-in-Err-clause-answers
returns-in-Err-clause-answers g c = λ text made.
    unsaid g.H.Host (reply (g.M.Memory.view c.args.m.now) text (Source (side_of c.args.side) c.args.selector.now)) c.args.host.now fault.OutOfMemory (g.met.H.Host.only_now c.args.host.now)
