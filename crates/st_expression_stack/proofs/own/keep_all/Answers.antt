use Rattle.std.proofs.Common.{ℕ, List, [], ◌∷◌, ap, ◌∙◌, subst, arith}
use Rattle.std.specs.Global.{Vec}
use Rattle.st_expression_stack.specs.inside.Called.{Keeps}
use Rattle.st_expression_stack.proofs.Kept.{kept_turn, kept_end}
use Rattle.st_expression_stack.proofs.own.keep_all.Goals as goal

pub loop-text-preserved : goal.loop-text-preserved
loop-text-preserved c =
    kept_turn c.args.texts.now c.args.taken.now.keys c.loop-text.text-index c.text-item.result c.loop-text-test.true c.loop-text.taken.keys c.keep.new.taken.keys c.loop-text.invariant
    (subst (λ (s : List ℕ). Keeps (s ∷ []) c.loop-text.taken.keys c.keep.new.taken.keys) (c.deref.ensures.value ∙ ap (λ (v : Vec ℕ). v.items) c.text-item.is) c.in_ok-keep.ensures)

pub returns : goal.returns
returns c = kept_end c.args.texts.now c.args.taken.now.keys c.loop-text.text-index c.loop-text.taken.keys (omega arith) c.loop-text.invariant
