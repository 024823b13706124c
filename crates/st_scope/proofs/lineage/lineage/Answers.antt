use Rattle.std.proofs.Common.{sym, subst}
use Rattle.st_model.specs.Values.{value}
use Rattle.st_model.specs.Table.{table}
use Rattle.st_scope.specs.Classes.{lineage}
use Rattle.st_scope.specs.inside.Findings.{Finds}
use Rattle.st_scope.specs.inside.Lineages.{lineage_of}
use Rattle.st_scope.proofs.lineage.lineage.Goals as goal

pub returns-then-meta : goal.returns-then-meta
unfolding lineage
returns-then-meta g c = subst (λ meta. Finds (lineage table (value c.args.class) meta) lineage_of (g.M.Memory.view c.args.m.now).objects c.metaclass_lineage.result) (sym c.if-meta.true) c.metaclass_lineage.ensures

pub returns-else-meta : goal.returns-else-meta
unfolding lineage
returns-else-meta g c = subst (λ meta. Finds (lineage table (value c.args.class) meta) lineage_of (g.M.Memory.view c.args.m.now).objects c.instance_lineage.result) (sym c.if-meta.false) c.instance_lineage.ensures
