use Rattle.std.proofs.Common.{◌≡◌, [], ◌∷◌, ◌++◌, ap, ◌∙◌}
use Rattle.st_expression_stack.specs.declared.item.Item.TheVariants as kept
use Rattle.st_expression_stack.proofs.SentItems.{cascade_more, cascade_none}
use Rattle.st_expression_stack.proofs.sending.cascaded.Goals as goal

pub returns-in_ok-push-in-Cascade-3 : goal.returns-in_ok-push-in-Cascade-3
returns-in_ok-push-in-Cascade-3 c =
    let ms = c.push.new.self in
    let r = c.in_ok-receiver-in-Cascade.receiver in
    let one : ms.items ≡ c.in-Cascade.earlier.items ++ c.args.message.message ∷ [] = c.in_ok-push-in-Cascade.ensures.items in
    let two : c.push-in-Cascade-2.new.self.items ≡ (c.args.items.now.items ++ kept.Cascade r ms ∷ []) ++ kept.Answered ∷ [] =
    c.in_ok-push-in-Cascade-3.ensures.items ∙ ap (λ xs. xs ++ kept.Answered ∷ []) c.in_ok-push-in-Cascade-2.ensures.items in
    cascade_more c.args.lookup c.args.message c.args.items.now.items c.push-in-Cascade-2.new.self.items c.args.below c.in-Cascade.receiver r c.in-Cascade.earlier ms c.in-Cascade.is
    c.in_ok-receiver-in-Cascade.ensures one two

pub returns-in_default : goal.returns-in_default
returns-in_default c = cascade_none c.args.lookup c.args.message c.args.items.now.items c.args.below c.in_default.not-Cascade
