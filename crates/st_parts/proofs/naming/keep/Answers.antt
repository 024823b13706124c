use Rattle.std.proofs.Common.{true, false, sym, ap, subst, ◌∙◌}
use Rattle.std.specs.Prelude.{option_map}
use Rattle.st_model.specs.Values.{value}
use Rattle.st_emit.specs.inside.NameViews.{names_view}
use Rattle.st_scope.specs.inside.Findings.{text_of}
use Rattle.st_parts.specs.Keys.{key_in}
use Rattle.st_parts.proofs.KeysIn.{keeps_named, keeps_other}
use Rattle.st_parts.proofs.naming.keep.Goals as goal

pub returns-then-named : goal.returns-then-named
returns-then-named g c =
    keeps_named (names_view c.args.names.now) (key_in (g.M.Memory.view c.args.m.now).objects (value c.args.v)) (option_map text_of c.in_ok-key.key) c.args.v c.args.shared.now.entries _ c.keep_key.result
    (sym c.in_ok-named.ensures ∙ c.if-named.true) c.in_ok-key.ensures c.keep_key.ensures

pub returns-else-named : goal.returns-else-named
returns-else-named g c =
    keeps_other (names_view c.args.names.now) (key_in (g.M.Memory.view c.args.m.now).objects (value c.args.v)) (option_map text_of c.in_ok-key.key) c.args.v c.args.shared.now.entries
    (sym c.in_ok-named.ensures ∙ c.if-named.false) c.in_ok-key.ensures
