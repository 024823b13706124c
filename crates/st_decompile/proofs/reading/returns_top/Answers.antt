use Rattle.std.proofs.Common.{true, sym, ap, ◌∙◌}
use Rattle.st_expression_stack.specs.Items.{goes_on}
use Rattle.st_expression_stack.specs.inside.Stacks.{piece_view}
use Rattle.st_decompile.specs.inside.Read.{returns_top_by}
use Rattle.st_decompile.proofs.ReadTurns.{piece_put, popped_none, popped_some}
use Rattle.st_decompile.proofs.reading.returns_top.Goals as goal

pub returns-in_default : goal.returns-in_default
returns-in_default c = popped_none c.args.items.now.items c.pop_piece.new.items.items _ _ c.in_default.is c.in_ok-value.ensures

pub returns : goal.returns
returns c =
    ap goes_on (piece_put c.pop_piece.new.items.items c.push.new.self.items c.returned.result (record (piece_view c.in-Some.value) { returns = true }) c.in_ok-push.ensures.items c.returned.ensures)
    ∙ sym (ap returns_top_by (popped_some c.args.items.now.items c.pop_piece.new.items.items _ c.in-Some.value c.in-Some.is c.in_ok-value.ensures))
