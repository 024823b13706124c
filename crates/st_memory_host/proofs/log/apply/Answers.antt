use Rattle.st_memory_host.proofs.Windows.{write_window, tore_window, cut_window}
use Rattle.st_memory_host.proofs.log.apply.Goals as goal

pub returns-in-Wrote-clause-window : goal.returns-in-Wrote-clause-window
returns-in-Wrote-clause-window c = λ file window.
    write_window c.args.kind c.in-Wrote.end c.saturating_sub.result c.args.at c.args.bytes.now file c.args.into.now c.overlay-in-Wrote.new.into
    c.in-Wrote.is c.saturating_sub.ensures c.overlay-in-Wrote.auto.into c.overlay-in-Wrote.ensures window

pub returns-in-Cut-clause-window : goal.returns-in-Cut-clause-window
returns-in-Cut-clause-window c = λ file window.
    cut_window c.args.kind c.in-Cut.len c.args.at c.args.bytes.now file c.args.into.now c.clear-in-Cut.new.into
    c.in-Cut.is c.clear-in-Cut.auto.into c.clear-in-Cut.ensures window

pub returns-in-Tore-clause-window : goal.returns-in-Tore-clause-window
returns-in-Tore-clause-window c = λ file window.
    tore_window c.args.kind c.in-Tore.end c.in-Tore.done c.saturating_sub-place.result c.args.at c.min.result c.args.bytes.now file c.args.into.now c.overlay-in-Tore.new.into
    c.in-Tore.is c.saturating_sub-place.ensures c.min.ensures c.overlay-in-Tore.auto.into c.overlay-in-Tore.ensures window
