use Rattle.std.proofs.Common.{rules, ◌≡◌, Err, arith}
use Rattle.st_control.proofs.Valued.{tried-value, values}
use Rattle.st_model.specs.Blocks.{primitive_value, value_if_any}
use Rattle.st_control.proofs.values.primitive_value.Goals as goal

pub returns-in_err-value_with_words-in-Ok-clause-does : goal.returns-in_err-value_with_words-in-Ok-clause-does
returns-in_err-value_with_words-in-Ok-clause-does g c =
    let e : c.from_residual-in_err-value_with_words-in-Ok.result ≡ Err c.in_err-value_with_words-in-Ok.field-0.0 = search rules in
    rw e (record {
      does = tried-value _ _ _ c.in-Ok.passing _ _ c.in-Ok.ensures.block c.in-Ok.ensures.count c.in_ok-block.ensures.does c.in-Ok.ensures.does c.in_err-value_with_words-in-Ok.ensures.does.does;
      world = c.in_err-value_with_words-in-Ok.ensures.does.world;
    })

pub returns-in_err-block-clause-does : goal.returns-in_err-block-clause-does
unfolding primitive_value value_if_any
returns-in_err-block-clause-does g c = grind (arith, values)

pub returns-in-Err-clause-does : goal.returns-in-Err-clause-does
unfolding primitive_value value_if_any
returns-in-Err-clause-does g c = grind (arith, values)
