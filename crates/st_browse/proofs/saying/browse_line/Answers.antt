use Rattle.std.proofs.Common.{List, ℕ, sym, subst}
use Rattle.std.specs.Prelude.{Option, option_map}
use Rattle.st_host.specs.declared.host.SayFault.{SayFault}
use Rattle.st_chunk.specs.Asks.{ask_of}
use Rattle.st_browse.specs.inside.Answering.{Answers}
use Rattle.st_browse.proofs.Texts.{one_reply}
use Rattle.st_browse.proofs.saying.browse_line.Goals as goal

pub returns-clause-answers : goal.returns-clause-answers
returns-clause-answers g c text is =
    let v = g.M.Memory.view c.args.m.now in
    let same = one_reply v c.args.changes.now.listed (ask_of c.args.ask) text (option_map (λ t. t.now) c.text_for.result) is c.text_for.ensures in
    subst (λ (r : Option (List ℕ)). Answers {E = SayFault} g.H.Host r c.args.host.now c.answer.new.host c.answer.result) (sym same) c.answer.ensures.answers
