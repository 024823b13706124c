use Rattle.std.proofs.Common.{◌+◌, length, sym, ap, ◌∙◌, subst}
use Rattle.st_expression_stack.specs.inside.Called.{is_kept, AreFirst}
use Rattle.st_expression_stack.specs.Names.{numbered, first_free}
use Rattle.st_expression_stack.proofs.NameTurns.{own_next}
use Rattle.st_expression_stack.proofs.Kept.{first_none, first_more, one_longer}
use Rattle.st_expression_stack.proofs.own.first_names.Goals as goal

pub loop-i-init : goal.loop-i-init
loop-i-init c = record {
  number = c.in_ok-number.ensures;
  many = ap length c.new-texts.ensures.items;
  first = first_none c.args.taken.now c.new-texts.result.items c.new-texts.ensures.items;
}

pub loop-i-preserved : goal.loop-i-preserved
loop-i-preserved c =
    let t = c.args.taken.now in
    let f = is_kept t.names.keys in
    record {
      number = c.in_ok-number-2.ensures ∙ ap (first_free f t.count) (c.in_ok-next.ensures ∙ ap (λ n. n + 1) c.loop-i.invariant.number) ∙ sym (own_next f t.count c.loop-i.i);
      many = ap length c.in_ok-push.ensures.items ∙ one_longer c.loop-i.texts.items c.in_ok-numbered.field-0 c.loop-i.i c.loop-i.invariant.many;
      first = subst (AreFirst t) (sym c.in_ok-push.ensures.items)
          (first_more t c.loop-i.texts.items c.in_ok-numbered.field-0 c.loop-i.i c.loop-i.invariant.many c.loop-i.invariant.first (c.in_ok-numbered.ensures ∙ ap numbered c.loop-i.invariant.number));
    }

pub returns : goal.returns
returns c = c.loop-i.invariant.first
