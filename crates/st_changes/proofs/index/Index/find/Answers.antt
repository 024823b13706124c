use Rattle.std.proofs.Common.{None, Some, ap, sym, ◌∙◌}
use Rattle.std.specs.HashMap.{spare}
use Rattle.st_changes.specs.inside.IndexStates.{IndexState, found}
use Rattle.st_changes.proofs.Names.{looked}
use Rattle.st_changes.proofs.index.Index.find.Goals as goal

pub returns-in_err-selector : goal.returns-in_err-selector
returns-in_err-selector c =
    let x : IndexState = record { names = c.self.inside.names.keys; last = c.self.inside.last.entries; room = spare c.self.inside.last } in
    c.from_residual-in_err-selector.ensures
    ∙ sym (looked x c.args.class.now c.args.meta c.args.selector.now (Some c.in_ok-class.class) None (sym c.in_ok-class.ensures.index) (sym c.in_err-selector.ensures.index))
    ∙ ap (λ (y : IndexState). found y c.args.class.now c.args.meta c.args.selector.now) c.self.view_is

pub returns : goal.returns
returns c =
    let x : IndexState = record { names = c.self.inside.names.keys; last = c.self.inside.last.entries; room = spare c.self.inside.last } in
    c.copied.ensures
    ∙ c.get.ensures.value
    ∙ sym (looked x c.args.class.now c.args.meta c.args.selector.now (Some c.in_ok-class.class) (Some c.in_ok-selector.selector) (sym c.in_ok-class.ensures.index) (sym c.in_ok-selector.ensures.index))
    ∙ ap (λ (y : IndexState). found y c.args.class.now c.args.meta c.args.selector.now) c.self.view_is
