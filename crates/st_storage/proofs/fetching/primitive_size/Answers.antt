use Rattle.std.proofs.Common.{arith}
use Rattle.std.specs.Prelude.{FitsSigned}
use Rattle.std.specs.Int.{w32}
use Rattle.std.proofs.lemmas.Int.{ints, to_z-of_z}
use Rattle.st_storage.proofs.ElementTries.{tried-size}
use Rattle.st_frames.proofs.Tries.{effects}
use Rattle.st_model.specs.Storage.{primitive_size}
use Rattle.st_storage.proofs.fetching.primitive_size.Goals as goal

pub returns-in-Ok-clause-does : goal.returns-in-Ok-clause-does
returns-in-Ok-clause-does g c =
    let low = c.in-Ok.ensures.low in
    let high = c.in-Ok.ensures.high in
    let fits : FitsSigned w32 c.in-Ok.n = omega (arith, ints, low, high) in
    record {
      does = tried-size _ _ _ _ _ _ (to_z-of_z w32 c.in-Ok.n fits) c.in_ok-receiver.ensures.does c.in-Ok.ensures.does c.answer_integer.ensures.does.does;
      world = c.answer_integer.ensures.does.world;
    }

pub returns-in_err-receiver-clause-does : goal.returns-in_err-receiver-clause-does
unfolding primitive_size
returns-in_err-receiver-clause-does g c = grind (arith, effects)

pub returns-in-Err-clause-does : goal.returns-in-Err-clause-does
unfolding primitive_size
returns-in-Err-clause-does g c = grind (arith, effects)
