use Rattle.st_browse.proofs.saying.say_text.Goals as goal

pub returns-in-Ok-clause-answers : goal.returns-in-Ok-clause-answers
returns-in-Ok-clause-answers g c =
    let said = c.in-Ok.ensures.answers in
    record { there = said.there; all = said.all; says = said.says }

pub returns-in-Err-clause-answers : goal.returns-in-Err-clause-answers
returns-in-Err-clause-answers g c =
    let said = c.in-Err.ensures.answers in
    record { there = said.there; all = said.all; says = said.says }
