use Rattle.std.proofs.Common.{sym, ◌∙◌}
use Rattle.st_scope.proofs.SoughtIn.{sought_there, sought_again, sought_now, ok_then, some_live}
use Rattle.st_scope.proofs.sought.seek.Goals as goal

pub returns-then-contains : goal.returns-then-contains
returns-then-contains g c = λ texts h.
    sought_again (g.M.Memory.view c.args.m.now).objects c.args.tables.now texts c.args.text.now c.args.search.now
    (sym (sought_there c.args.search.now.names.keys c.args.text.now) ∙ (sym c.contains.ensures ∙ c.if-contains.true)) h

pub returns : goal.returns
returns g c =
    ok_then c.note_sought.result _ _ (λ sought. λ texts h.
    sought_now (g.M.Memory.view c.args.m.now).objects c.args.tables.now texts c.args.text.now c.args.search.now _ c.association_in-association.result c.association_in-association.ensures.association
    (some_live (g.M.Memory.view c.args.m.now).objects c.association_in-association.result c.association_in-association.ensures.live) (record { shared = c.in_ok-note_shared.ensures; sought = sought }) h) c.note_sought.ensures
