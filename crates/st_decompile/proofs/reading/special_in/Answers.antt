use Rattle.std.proofs.Common.{sym, ◌∙◌}
use Rattle.st_decompile.proofs.ReadTurns.{special_got}
use Rattle.st_decompile.proofs.reading.special_in.Goals as goal

pub returns : goal.returns
returns c = c.selector_of.ensures ∙ sym (special_got c.args.table.now c.args.place c.get.result c.get.ensures.lookup)
