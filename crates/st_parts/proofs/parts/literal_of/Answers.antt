use Rattle.std.proofs.Common.{sym, ap, ◌∙◌}
use Rattle.std.specs.Prelude.{option_map}
use Rattle.std.proofs.lemmas.Result.{IfOk-weaker}
use Rattle.st_model.specs.Values.{value}
use Rattle.st_emit.specs.inside.NameViews.{names_view}
use Rattle.st_emit.specs.inside.Views.{literal_view}
use Rattle.st_scope.specs.inside.Findings.{text_of}
use Rattle.st_parts.proofs.ReadSingly.{read_named, read_contents}
use Rattle.st_parts.proofs.parts.literal_of.Goals as goal

pub returns-then-named : goal.returns-then-named
returns-then-named g c =
    read_named (names_view c.args.names.now) (g.M.Memory.view c.args.m.now).objects c.args.v (option_map text_of c.in_ok-key.key) c.in_ok-key.ensures (sym c.in_ok-named.ensures ∙ c.if-named.true)

pub returns : goal.returns
returns g c =
    IfOk-weaker c.contents_of.result _ _
    (λ l is. read_contents (names_view c.args.names.now) (g.M.Memory.view c.args.m.now).objects c.args.v (option_map text_of c.in_ok-key.key) c.in_ok-key.ensures (sym c.in_ok-named.ensures ∙ c.if-named.false) (option_map literal_view l) is)
    c.contents_of.ensures
