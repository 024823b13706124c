use Rattle.std.proofs.Common.{sym, ap, ◌∙◌}
use Rattle.st_emit.specs.inside.Views.{literal_view}
use Rattle.st_resolved.specs.Instructions.{on_some}
use Rattle.st_decompile.specs.Reading.{symbol_of}
use Rattle.st_expression_stack.proofs.Got.{got_as}
use Rattle.st_decompile.proofs.reading.selector_at.Goals as goal

pub returns : goal.returns
returns c = c.symbol_in.ensures ∙ ap (λ o. on_some o symbol_of) (sym (got_as c.args.literals.now c.args.place literal_view c.get.result c.get.ensures.lookup))
