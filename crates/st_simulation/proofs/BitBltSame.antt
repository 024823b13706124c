-- 96, which copies bits, does over births the same as over pointers: what is read of a BitBlt and its Forms, and what is stored.
use Rattle.std.proofs.Common.{◌≡◌, Bool, true, false}
use Rattle.st_model.specs.Values.{Value}
use Rattle.st_model.specs.Machine.{ObjectMemory}
use Rattle.st_model.specs.BitBlt.{fetch_words, fetch_positive, read_form, read_unless, read_form_if_any, fetch_form, fetch_destination, fetch_halftone, fetch_rule, fetch_axis, read_copy, store_painted, paint_and_answer, primitive_copy_bits}
use Rattle.st_simulation.proofs.Same.{Simulation, ValueSame, SameAnswer, steps_same}
use Rattle.st_simulation.proofs.StepsSame.{parts_same}
use Rattle.st_simulation.proofs.PrimitivesSame.{positive_small-same, primitive-same}

module _ {H K : Type 0} {M : ObjectMemory H} {N : ObjectMemory K} (sim : Simulation M N) where
  read_form-same : (v w : Value) → ValueSame sim v w → SameAnswer sim (read_form M v) (read_form N w)
  unfolding read_form fetch_words fetch_positive
  read_form-same v w h = search (parts_same, positive_small-same) depth 32 fits 4000

  read_unless-same : (v w : Value) (b c : Bool) → ValueSame sim v w → c ≡ b → SameAnswer sim (read_unless M v b) (read_unless N w c)
  unfolding read_unless
  read_unless-same v w true c h e = rw e (search steps_same)
  read_unless-same v w false c h e = rw e (search (steps_same, read_form-same) depth 24 fits 4000)

  read_copy-same : (v w : Value) → ValueSame sim v w → SameAnswer sim (read_copy M v) (read_copy N w)
  unfolding read_copy fetch_destination fetch_form read_form_if_any fetch_halftone fetch_rule fetch_positive fetch_axis
  read_copy-same v w h = search (parts_same, positive_small-same, read_form-same, read_unless-same) depth 60 fits 9000

module _ {H K : Type 0} {M : ObjectMemory H} {N : ObjectMemory K} (sim : Simulation M N) (makes : sim.makes) where
  pub copy_bits-same : SameAnswer sim (primitive_copy_bits M) (primitive_copy_bits N)
  unfolding primitive_copy_bits paint_and_answer store_painted
  copy_bits-same = search (parts_same, primitive-same, read_copy-same) depth 32 fits 4000
