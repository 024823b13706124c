use Rattle.st_meaning.proofs.Specials.{some_there, none_there}
use Rattle.st_meaning.proofs.code.selector_in.Goals as goal

pub returns-in-Some : goal.returns-in-Some
returns-in-Some c = some_there c.args.sends.now c.args.place c.in-Some.field-0.now c.in-Some.ensures.lookup.3.0 c.in-Some.ensures.lookup.1

pub returns-in-None : goal.returns-in-None
returns-in-None c = none_there c.args.sends.now c.args.place c.in-None.ensures.lookup.3
