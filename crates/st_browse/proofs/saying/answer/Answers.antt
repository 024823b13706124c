use Rattle.std.proofs.Common.{List, [], ℕ, refl, sym, ap, subst, ◌∙◌, append-nil}
use Rattle.std.specs.Prelude.{Option, Ok, true, false, option_map, unwrap_or}
use Rattle.st_host.specs.declared.host.SayFault.{SayFault}
use Rattle.st_host.specs.inside.Telling.{Says}
use Rattle.st_host.proofs.Telling.{says_none}
use Rattle.st_chunk.specs.Asks.{ask_of}
use Rattle.st_browse.specs.inside.Answering.{Answers}
use Rattle.st_browse.specs.Asked.{reply}
use Rattle.st_browse.specs.inside.Founds.{sought_text}
use Rattle.st_browse.proofs.Texts.{failed}
use Rattle.st_browse.proofs.saying.answer.Goals as goal

pub returns-in_err-say_sought-in-Some-clause-answers : goal.returns-in_err-say_sought-in-Some-clause-answers
returns-in_err-say_sought-in-Some-clause-answers g c =
    let v = g.M.Memory.view c.args.m.now in
    let text = option_map (λ t. t.now) c.args.text in
    let answer = sym c.seek.ensures.sought ∙ ap (option_map (sought_text v.objects)) c.in-Some.is in
    failed g.H.Host (reply v text (ask_of c.args.ask)) c.args.host.now c.say_sought.new.host _ c.from_residual.ensures.0
    (subst (λ (r : Option (List ℕ)). Says g.H.Host (unwrap_or r []) c.args.host.now c.say_sought.new.host) (sym answer) c.in_err-say_sought-in-Some.ensures.says)

pub returns-in_ok-say_sought-in-Some-clause-answers : goal.returns-in_ok-say_sought-in-Some-clause-answers
returns-in_ok-say_sought-in-Some-clause-answers g c =
    let v = g.M.Memory.view c.args.m.now in
    let answer = sym c.seek.ensures.sought ∙ ap (option_map (sought_text v.objects)) c.in-Some.is in
    subst (λ (r : Option (List ℕ)). Answers {E = SayFault} g.H.Host r c.args.host.now c.say_sought.new.host (Ok true)) (sym answer) (record { there = refl; all = c.in_ok-say_sought-in-Some.ensures.all; says = c.in_ok-say_sought-in-Some.ensures.says })

pub returns-in-None-clause-answers : goal.returns-in-None-clause-answers
returns-in-None-clause-answers g c =
    let v = g.M.Memory.view c.args.m.now in
    let host = g.H.Host in
    let now = c.args.host.now in
    let answer = sym c.seek.ensures.sought ∙ ap (option_map (sought_text v.objects)) c.in-None.is in
    subst (λ (r : Option (List ℕ)). Answers {E = SayFault} host r now now (Ok false)) (sym answer)
    (record { there = refl; all = record { is = λ told. sym (append-nil (host.said now)) }; says = says_none (g.met.H.Host.only_now now) })
