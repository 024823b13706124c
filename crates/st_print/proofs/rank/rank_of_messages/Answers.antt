use Rattle.std.proofs.Common.{sym}
use Rattle.st_print.proofs.Ranks.{cascade_rank}
use Rattle.st_print.proofs.rank.rank_of_messages.Goals as goal

pub returns-in-len2-up : goal.returns-in-len2-up
returns-in-len2-up c = sym (cascade_rank c.args.messages.now c.in-len2-up.len_at_least)
