use Rattle.st_expression_stack.proofs.Kept.{keeps_one}
use Rattle.st_expression_stack.proofs.own.keep.Goals as goal

pub returns : goal.returns
returns c = keeps_one c.args.taken.now.keys c.insert.new.self.keys c.in_ok-to_vec.field-0 c.args.text.now (c.in_ok-to_vec.ensures.items_if_clones_equal (λ x y h. h)) c.in_ok-insert.ensures.keys
