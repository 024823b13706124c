use Rattle.std.proofs.Common.{length, sym, ap, arith}
use Rattle.st_print.proofs.Ranks.{keyword_receiver}
use Rattle.st_print.proofs.rank.receiver_rank.Goals as goal

pub returns-in-len1-up-as_slice : goal.returns-in-len1-up-as_slice
returns-in-len1-up-as_slice c = sym (keyword_receiver c.args.messages.now c.first-item.result c.in-len1-up.len_at_least c.first-item.is (omega (arith, c.in-len1-up-as_slice.len_at_least, ap length c.as_slice.ensures.value)))
