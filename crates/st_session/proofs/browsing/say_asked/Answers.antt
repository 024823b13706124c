use Rattle.std.proofs.Common.{sym, ◌∙◌}
use Rattle.st_chunk.specs.Asks.{ask_of}
use Rattle.st_browse.specs.Asked.{reply}
use Rattle.st_call.specs.Replies.{missing_text}
use Rattle.st_session.specs.Sources.{last_text, text_for}
use Rattle.st_session.proofs.Looking.{there_said, missing_said, fault_said}
use Rattle.st_session.proofs.Sources.{text_is}
use Rattle.st_session.proofs.browsing.say_asked.Goals as goal

pub returns-in-Ok-true : goal.returns-in-Ok-true
returns-in-Ok-true g c =
    let ds = c.args.changes.now.listed in
    let ask = ask_of c.args.ask in
    let said = c.in-Ok-true.ensures.answers (text_for (last_text ds) ask) (text_is ds ask) in
    there_said g.H.Host missing_text (reply (g.M.Memory.view c.args.m.now) (text_for (last_text ds) ask) ask) _ _ (sym said.there ∙ c.in-Ok-true.field-0-test) said.all said.says

pub returns-in-Ok-false : goal.returns-in-Ok-false
returns-in-Ok-false g c =
    let ds = c.args.changes.now.listed in
    let ask = ask_of c.args.ask in
    let said = c.in-Ok-false.ensures.answers (text_for (last_text ds) ask) (text_is ds ask) in
    missing_said g.H.Host missing_text (reply (g.M.Memory.view c.args.m.now) (text_for (last_text ds) ask) ask) _ _ _ c.say_reply.result (sym said.there ∙ c.in-Ok-false.field-0-test) said.all said.says c.say_reply.ensures

pub returns-in-Err : goal.returns-in-Err
returns-in-Err g c =
    let ds = c.args.changes.now.listed in
    let ask = ask_of c.args.ask in
    let said = c.in-Err.ensures.answers (text_for (last_text ds) ask) (text_is ds ask) in
    fault_said g.H.Host missing_text (reply (g.M.Memory.view c.args.m.now) (text_for (last_text ds) ask) ask) _ _ _ said.says c.in-Err.ensures.cause
