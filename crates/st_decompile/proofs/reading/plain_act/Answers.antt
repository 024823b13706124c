use Rattle.std.proofs.Common.{◌≡◌, ◌==◌, ◌∷◌, false, sym, ap, ◌∙◌, subst}
use Rattle.std.proofs.lemmas.Result.{IfOk-weaker}
use Rattle.st_expression_stack.specs.Items.{leaf, piece, goes_on}
use Rattle.st_expression_stack.specs.inside.Stacks.{stack_view}
use Rattle.st_decompile.specs.inside.Read.{act_by, IsPlain}
use Rattle.st_decompile.proofs.ActRows.{row_push, row_pop, row_special}
use Rattle.st_decompile.proofs.reading.plain_act.Goals as goal

pub returns-in-Push : goal.returns-in-Push
returns-in-Push c =
    IfOk-weaker c.pushes.result _ _
    (λ ok is depth next rest. is ∙ sym (ap (λ s. act_by c.args.reading depth s c.args.at next rest (stack_view c.args.items.now.items)) c.in-Push.is ∙ row_push c.args.reading depth c.args.at next rest (stack_view c.args.items.now.items) c.in-Push.place))
    c.pushes.ensures

pub returns-in-PushConstant : goal.returns-in-PushConstant
returns-in-PushConstant c =
    IfOk-weaker c.pushes_constant.result _ _
    (λ ok is depth next rest. is ∙ sym (ap (λ s. act_by c.args.reading depth s c.args.at next rest (stack_view c.args.items.now.items)) c.in-PushConstant.is))
    c.pushes_constant.ensures

pub returns-in-PushNumber : goal.returns-in-PushNumber
returns-in-PushNumber c =
    IfOk-weaker c.put.result _ _
    (λ ok is depth next rest. is ∙ ap (λ p. goes_on (piece p ∷ stack_view c.args.items.now.items)) (c.leaf.ensures ∙ ap (λ e. leaf e c.args.at) c.small_tree.ensures) ∙ sym (ap (λ s. act_by c.args.reading depth s c.args.at next rest (stack_view c.args.items.now.items)) c.in-PushNumber.is))
    c.put.ensures

pub returns-in-Store : goal.returns-in-Store
returns-in-Store c =
    IfOk-weaker c.stored_into.result _ _
    (λ ok is depth next rest. is ∙ sym (ap (λ s. act_by c.args.reading depth s c.args.at next rest (stack_view c.args.items.now.items)) c.in-Store.is))
    c.stored_into.ensures

pub returns-in-Duplicate : goal.returns-in-Duplicate
returns-in-Duplicate c =
    IfOk-weaker c.doubled.result _ _
    (λ ok is depth next rest. is ∙ sym (ap (λ s. act_by c.args.reading depth s c.args.at next rest (stack_view c.args.items.now.items)) c.in-Duplicate.is))
    c.doubled.ensures

pub returns-in-Send : goal.returns-in-Send
returns-in-Send c =
    IfOk-weaker c.sends_at.result _ _
    (λ ok is depth next rest. is ∙ sym (ap (λ s. act_by c.args.reading depth s c.args.at next rest (stack_view c.args.items.now.items)) c.in-Send.is))
    c.sends_at.ensures

pub returns-in-SendSuper : goal.returns-in-SendSuper
returns-in-SendSuper c =
    IfOk-weaker c.sends_at-in-SendSuper.result _ _
    (λ ok is depth next rest. is ∙ sym (ap (λ s. act_by c.args.reading depth s c.args.at next rest (stack_view c.args.items.now.items)) c.in-SendSuper.is))
    c.sends_at-in-SendSuper.ensures

pub returns-in-SendSpecial : goal.returns-in-SendSpecial
returns-in-SendSpecial c =
    let plain = subst IsPlain c.in-SendSpecial.is c.requires in
    IfOk-weaker c.sends_special.result _ _
    (λ ok is depth next rest. is ∙ sym (ap (λ s. act_by c.args.reading depth s c.args.at next rest (stack_view c.args.items.now.items)) c.in-SendSpecial.is ∙ row_special c.args.reading depth c.args.at next rest (stack_view c.args.items.now.items) c.in-SendSpecial.code plain))
    c.sends_special.ensures

pub returns-in-ReturnConstant : goal.returns-in-ReturnConstant
returns-in-ReturnConstant c =
    IfOk-weaker c.returns_constant.result _ _
    (λ ok is depth next rest. is ∙ sym (ap (λ s. act_by c.args.reading depth s c.args.at next rest (stack_view c.args.items.now.items)) c.in-ReturnConstant.is))
    c.returns_constant.ensures

pub returns-in-ReturnTop : goal.returns-in-ReturnTop
returns-in-ReturnTop c =
    IfOk-weaker c.returns_top.result _ _
    (λ ok is depth next rest. is ∙ sym (ap (λ s. act_by c.args.reading depth s c.args.at next rest (stack_view c.args.items.now.items)) c.in-ReturnTop.is))
    c.returns_top.ensures

pub returns-in-Jump : goal.returns-in-Jump
returns-in-Jump c =
    IfOk-weaker c.put-in-Jump.result _ _
    (λ ok is depth next rest. is ∙ sym (ap (λ s. act_by c.args.reading depth s c.args.at next rest (stack_view c.args.items.now.items)) c.in-Jump.is))
    c.put-in-Jump.ensures

pub returns-in-JumpPast : goal.returns-in-JumpPast
returns-in-JumpPast c =
    IfOk-weaker c.put-in-JumpPast.result _ _
    (λ ok is depth next rest. is ∙ sym (ap (λ s. act_by c.args.reading depth s c.args.at next rest (stack_view c.args.items.now.items)) c.in-JumpPast.is))
    c.put-in-JumpPast.ensures

pub returns-in-JumpBack : goal.returns-in-JumpBack
returns-in-JumpBack c =
    IfOk-weaker c.put-in-JumpBack.result _ _
    (λ ok is depth next rest. is ∙ sym (ap (λ s. act_by c.args.reading depth s c.args.at next rest (stack_view c.args.items.now.items)) c.in-JumpBack.is))
    c.put-in-JumpBack.ensures

pub returns-in_ok-popped_into-in-PopStore : goal.returns-in_ok-popped_into-in-PopStore
returns-in_ok-popped_into-in-PopStore c = λ depth next rest.
    c.in_ok-popped_into-in-PopStore.ensures
    ∙ sym (ap (λ s. act_by c.args.reading depth s c.args.at next rest (stack_view c.args.items.now.items)) c.in-PopStore.is ∙ row_pop c.args.reading depth c.args.at next rest (stack_view c.args.items.now.items) c.in-PopStore.place)

pub returns-in_ok-popped-in-Pop : goal.returns-in_ok-popped-in-Pop
returns-in_ok-popped-in-Pop c = λ depth next rest.
    ap goes_on c.in_ok-popped-in-Pop.ensures ∙ sym (ap (λ s. act_by c.args.reading depth s c.args.at next rest (stack_view c.args.items.now.items)) c.in-Pop.is)

pub returns-in-ReturnBlock : goal.returns-in-ReturnBlock
returns-in-ReturnBlock c = λ depth next rest. sym (ap (λ s. act_by c.args.reading depth s c.args.at next rest (stack_view c.args.items.now.items)) c.in-ReturnBlock.is)

pub returns-in-JumpIf : goal.returns-in-JumpIf
returns-in-JumpIf c = λ depth next rest. absurd (subst IsPlain c.in-JumpIf.is c.requires)
