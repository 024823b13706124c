use Rattle.std.proofs.Common.{sym, subst, arith}
use Rattle.std.proofs.lemmas.Grind.{common_steps}
use Rattle.st_clean.specs.inside.Found.{Notes}
use Rattle.st_clean.proofs.Steps.{notes_none}
use Rattle.st_clean.proofs.Tables.{no_table, a_table}
use Rattle.st_clean.proofs.state.Found.note_table.Goals as goal

pub returns-then-o-eq0 : goal.returns-then-o-eq0
returns-then-o-eq0 c = subst (λ vs. Notes vs c.args.self.now c.args.self.now) (sym (no_table c.args.o.0 (omega arith))) (notes_none c.args.self.now)

pub returns : goal.returns
returns c = subst (λ vs. Notes vs c.args.self.now c.note.new.self) (sym (a_table c.args.o.0 (grind (arith, common_steps)))) c.in_ok-note.ensures
