use Rattle.std.proofs.Common.{sym, subst}
use Rattle.st_chunk.specs.Asks.{ask_of}
use Rattle.st_chunk.specs.inside.ScriptDefinitions.{definition_of}
use Rattle.st_install.specs.Defining.{installed}
use Rattle.st_session.specs.Answers.{answer}
use Rattle.st_session.specs.Keeping.{in_a_store}
use Rattle.st_session.proofs.Lines.{asked_line, asked_look, asked_definition}
use Rattle.st_session.proofs.Points.{GoesAs}
use Rattle.st_session.proofs.Served.{served_as}
use Rattle.st_session.proofs.serving.answer_request.Goals as goal

pub returns-in-Browse : goal.returns-in-Browse
returns-in-Browse g c =
    let place = c.args.reader.now.place in
    let called = c.answer_named in
    served_as called.ensures (λ none. none) (λ p at. rw c.in-Browse.is (subst (λ x. GoesAs g.M.Memory.view g.H.Host c.args.kept.now.archive.name called.new.kept.machine called.new.kept.archive c.args.host.now called.new.host p.kept (answer in_a_store installed p x) called.result)
    (sym (asked_look place (ask_of c.ask.result) (c.requires.browsed c.in-Browse.is) c.ask.ensures)) (called.ensures.follows p at)))

pub returns-in-Define : goal.returns-in-Define
returns-in-Define g c =
    let place = c.args.reader.now.place in
    let d = definition_of c.definition.result in
    let called = c.define in
    served_as called.ensures (λ none. none) (λ p at. rw c.in-Define.is (subst (λ x. GoesAs g.M.Memory.view g.H.Host c.args.kept.now.archive.name called.new.kept.machine called.new.kept.archive c.args.host.now called.new.host p.kept (answer in_a_store installed p x) called.result)
    (sym (asked_definition place d (c.requires.defined c.in-Define.is) c.definition.ensures.is)) (called.ensures.follows p at)))

pub returns-in_default : goal.returns-in_default
returns-in_default g c =
    let place = c.args.reader.now.place in
    let called = c.answer_living in
    served_as called.ensures (λ none. absurd none) (λ p at. subst (λ x. GoesAs g.M.Memory.view g.H.Host c.args.kept.now.archive.name called.new.kept.machine called.new.kept.archive c.args.host.now called.new.host p.kept (answer in_a_store installed p x) called.result)
    (sym (asked_line place c.args.request c.in_default.not-Browse c.in_default.not-Define)) (called.ensures.follows p at))
