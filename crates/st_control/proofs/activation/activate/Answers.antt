use Rattle.std.proofs.Common.{arith}
use Rattle.st_frames.proofs.Doing.{checks}
use Rattle.st_model.specs.Contexts.{activate}
use Rattle.st_control.proofs.activation.activate.Goals as goal

pub returns-in_err-look_at_words-clause-does : goal.returns-in_err-look_at_words-clause-does
unfolding activate
returns-in_err-look_at_words-clause-does g c = grind (arith, checks)

pub returns-then-size-called-clause-does : goal.returns-then-size-called-clause-does
unfolding activate
returns-then-size-called-clause-does g c = grind (arith, checks)

pub returns-then-size-temporaries-clause-does : goal.returns-then-size-temporaries-clause-does
unfolding activate
returns-then-size-temporaries-clause-does g c = grind (arith, checks)

pub returns-in_err-context-clause-does : goal.returns-in_err-context-clause-does
unfolding activate
returns-in_err-context-clause-does g c = grind (arith, checks)

pub returns-in_err-pass_words-clause-does : goal.returns-in_err-pass_words-clause-does
unfolding activate
returns-in_err-pass_words-clause-does g c = grind (arith, checks)

pub returns-clause-does : goal.returns-clause-does
unfolding activate
returns-clause-does g c = grind (arith, checks)
