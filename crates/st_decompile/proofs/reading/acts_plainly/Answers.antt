use Rattle.std.proofs.Common.{◌≡◌, ap, ◌∙◌, sym}
use Rattle.st_expression_stack.specs.inside.Stacks.{acted_if}
use Rattle.st_decompile.proofs.reading.acts_plainly.Goals as goal

pub returns-then-acted : goal.returns-then-acted
returns-then-acted c = λ depth next rest. ap (λ ok. acted_if ok c.plain_act.new.items.items) (sym c.if-acted.true) ∙ c.in_ok-acted.ensures depth next rest

pub returns-else-acted : goal.returns-else-acted
returns-else-acted c = λ depth next rest. ap (λ ok. acted_if ok c.plain_act.new.items.items) (sym c.if-acted.false) ∙ c.in_ok-acted.ensures depth next rest
