use Rattle.std.proofs.Common.{rules, refl, arith}
use Rattle.st_frames.proofs.Leaves.{leaves-died}
use Rattle.st_storage.proofs.PutTries.{put-by}
use Rattle.st_storage.proofs.ElementTries.{tried-string_at_put, died-string_at_put}
use Rattle.st_frames.proofs.Tries.{effects}
use Rattle.st_model.specs.Storage.{primitive_string_at_put}
use Rattle.st_storage.proofs.putting.primitive_string_at_put.Goals as goal

pub returns-in_err-put-clause-does : goal.returns-in_err-put-clause-does
returns-in_err-put-clause-does g c = leaves-died _ _ _ _ _ _ _ _ _ _ (search rules) refl (died-string_at_put _ _ _ c.in_err-put.ensures.does)

pub returns-in-Ok-clause-does : goal.returns-in-Ok-clause-does
returns-in-Ok-clause-does g c = put-by _ _ _ _ _ _ _ _ (λ y k. tried-string_at_put _ _ _ _ _ _ y c.in_ok-put.ensures.object c.in_ok-put.ensures.index c.in_ok-put.ensures.value c.in-Ok.ensures.does k) (rw (c.in-Ok.ensures.of.object, c.in-Ok.ensures.of.value) at c.answer_stored.ensures.does)

pub returns-in-Err-clause-does : goal.returns-in-Err-clause-does
unfolding primitive_string_at_put
returns-in-Err-clause-does g c = grind (arith, effects)
