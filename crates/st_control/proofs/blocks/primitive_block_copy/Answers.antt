use Rattle.std.proofs.Common.{rules, ◌≡◌, Err, arith}
use Rattle.st_control.proofs.Valued.{tried-block}
use Rattle.st_frames.proofs.Tries.{effects}
use Rattle.st_model.specs.Blocks.{primitive_block_copy}
use Rattle.st_control.proofs.blocks.primitive_block_copy.Goals as goal

pub returns-in_err-answer_block-in-Ok-clause-does : goal.returns-in_err-answer_block-in-Ok-clause-does
returns-in_err-answer_block-in-Ok-clause-does g c =
    let e : c.from_residual-in_err-answer_block-in-Ok.result ≡ Err c.in_err-answer_block-in-Ok.field-0.0 = search rules in
    rw e (record {
      does = tried-block _ _ _ _ _ _ c.in_ok-context.ensures.does c.in_ok-count.ensures.does c.in-Ok.ensures.does c.in_err-answer_block-in-Ok.ensures.does.does;
      world = c.in_err-answer_block-in-Ok.ensures.does.world;
    })

pub returns-in_ok-answer_block-in-Ok-clause-does : goal.returns-in_ok-answer_block-in-Ok-clause-does
returns-in_ok-answer_block-in-Ok-clause-does g c = record {
  does = tried-block _ _ _ _ _ _ c.in_ok-context.ensures.does c.in_ok-count.ensures.does c.in-Ok.ensures.does c.in_ok-answer_block-in-Ok.ensures.does.does;
  world = c.in_ok-answer_block-in-Ok.ensures.does.world;
}

pub returns-in_err-context-clause-does : goal.returns-in_err-context-clause-does
unfolding primitive_block_copy
returns-in_err-context-clause-does g c = grind (arith, effects)

pub returns-in_err-count-clause-does : goal.returns-in_err-count-clause-does
unfolding primitive_block_copy
returns-in_err-count-clause-does g c = grind (arith, effects)

pub returns-in-Err-clause-does : goal.returns-in-Err-clause-does
unfolding primitive_block_copy
returns-in-Err-clause-does g c = grind (arith, effects)
