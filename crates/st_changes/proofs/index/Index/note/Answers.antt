use Rattle.std.proofs.Common.{is_some, ap, sym, ◌∙◌, true≢false}
use Rattle.std.specs.Prelude.{bytes_eq}
use Rattle.std.specs.HashMap.{spare}
use Rattle.std.specs.List.{list_any}
use Rattle.st_changes.specs.inside.IndexStates.{IndexState, found, updated}
use Rattle.st_changes.proofs.Names.{noted, bounded}
use Rattle.st_changes.proofs.index.Index.note.Goals as goal
use Rattle.st_changes.proofs.index.Index.note.Goals.{in_default-via-in-Some+in_default, in_default-via-in_default}

pub unreachable-requires : goal.unreachable-requires
unreachable-requires c =
    elim c.in_default.branch [
      | in_default-via-in-Some+in_default w ↦
          let has = ap (λ (y : IndexState). list_any (λ k. bytes_eq c.args.selector.now k.items) y.names) c.self.view_is in
          true≢false (sym c.requires.selector ∙ sym has ∙ sym c.get_index_of-2.ensures.found ∙ ap is_some w.in_default.is-1)
      | in_default-via-in_default w ↦
          let has = ap (λ (y : IndexState). list_any (λ k. bytes_eq c.args.class.now k.items) y.names) c.self.view_is in
          true≢false (sym c.requires.class ∙ sym has ∙ sym c.get_index_of.ensures.found ∙ ap is_some w.in_default.is-0)
    ]

pub invariant_of-self : goal.invariant_of-self
invariant_of-self c =
    let both = c.in-Some-Some in
    bounded c.self.inside.names.keys c.self.inside.last.entries c.insert.new.self.entries 0 0 c.args.class.now c.args.meta c.args.selector.now c.args.number both.class both.selector
    (sym both.ensures.index) (sym both.ensures'.index) c.in-Ok.ensures.updates.0 both.ensures.within both.ensures'.within c.self.invariant

pub returns : goal.returns
returns c d m s =
    let both = c.in-Some-Some in
    let inside = c.self.inside in
    noted inside.names.keys inside.last.entries c.insert.new.self.entries (spare inside.last) (spare c.insert.new.self) c.args.class.now c.args.meta c.args.selector.now c.args.number both.class both.selector
    (sym both.ensures.index) (sym both.ensures'.index) c.in-Ok.ensures.updates.0 d m s
    ∙ (λ t. updated (found (c.self.view_is t)) c.args.class.now c.args.meta c.args.selector.now c.args.number d m s)
