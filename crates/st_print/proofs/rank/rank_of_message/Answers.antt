use Rattle.std.proofs.Common.{◌≡◌, true, false, length, refl, sym, ap, ◌∙◌, arith}
use Rattle.st_print.specs.Printed.{is_word}
use Rattle.st_print.proofs.Ranks.{message_rank}
use Rattle.st_print.proofs.rank.rank_of_message.Goals as goal

pub returns-then-is_word : goal.returns-then-is_word
returns-then-is_word c =
    let m = c.args.message.now in
    let e : is_word m.selector.items ≡ true = sym (ap is_word c.deref.ensures.value) ∙ sym c.is_word.ensures ∙ c.if-is_word.true in
    sym (message_rank m.selector.items m.arguments.items (omega (arith, c.in-len1-up.len_at_least, ap length c.as_slice.ensures.value)) ∙ rw e refl)

pub returns-else-is_word : goal.returns-else-is_word
returns-else-is_word c =
    let m = c.args.message.now in
    let e : is_word m.selector.items ≡ false = sym (ap is_word c.deref.ensures.value) ∙ sym c.is_word.ensures ∙ c.if-is_word.false in
    sym (message_rank m.selector.items m.arguments.items (omega (arith, c.in-len1-up.len_at_least, ap length c.as_slice.ensures.value)) ∙ rw e refl)
