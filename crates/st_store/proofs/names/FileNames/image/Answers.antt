use Rattle.std.proofs.Common.{sym, ◌∙◌}
use Rattle.st_store.proofs.Others.{image_even, image_odd}
use Rattle.st_store.proofs.names.FileNames.image.Goals as goal

pub returns-then-slot-eq0 : goal.returns-then-slot-eq0
returns-then-slot-eq0 c = c.as_str.ensures.value ∙ c.args.self.now.image_a_is ∙ sym (image_even _ c.args.slot c.if-slot-eq0.true)

pub returns-else-slot-eq0 : goal.returns-else-slot-eq0
returns-else-slot-eq0 c = c.as_str-else-slot-eq0.ensures.value ∙ c.args.self.now.image_b_is ∙ sym (image_odd _ c.args.slot c.if-slot-eq0.false)
