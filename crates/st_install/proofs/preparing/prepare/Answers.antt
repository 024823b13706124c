use Rattle.std.proofs.Common.{rules, ◌≡◌, ◌∙◌, Ok, Err, sym, subst}
use Rattle.st_model.specs.Values.{value}
use Rattle.st_scan.specs.Views.{method_view}
use Rattle.st_emit.specs.inside.NameViews.{names_view}
use Rattle.st_code.specs.inside.MethodDrafts.{parts_view}
use Rattle.st_chunk.specs.inside.ScriptDefinitions.{definition_of}
use Rattle.st_install.specs.inside.Unprepareds.{by_install, by_syntax, by_code}
use Rattle.st_install.specs.inside.Prepareds.{PreparesAs}
use Rattle.st_grammar.proofs.Syntaxes.{only}
use Rattle.st_install.proofs.Exits.{class_refuses, syntax_refuses, names_refuse, code_refuses, code_seen, ready_refuses}
use Rattle.st_install.proofs.preparing.prepare.Goals as goal

pub returns-in_err-class : goal.returns-in_err-class
returns-in_err-class g c =
    let v = g.M.Memory.view c.args.m.now in
    let d = definition_of c.args.definition.now in
    let e : c.from_residual.result ≡ Err (by_install c.in_err-class.field-0.0) = search rules in
    subst (PreparesAs v d) (sym e) (class_refuses v d c.in_err-class.field-0.0 c.in_err-class.ensures.class)

pub returns-in_err-tree : goal.returns-in_err-tree
returns-in_err-tree g c =
    let v = g.M.Memory.view c.args.m.now in
    let d = definition_of c.args.definition.now in
    let e : c.from_residual-in_err-tree.result ≡ Err (by_syntax c.in_err-tree.field-0.0) = search rules in
    subst (PreparesAs v d) (sym e) (syntax_refuses v d (value c.in_ok-class.class) c.in_ok-class.ensures.class c.in_err-tree.field-0.0 c.in_err-tree.ensures.fault)

pub returns-in_err-seen : goal.returns-in_err-seen
returns-in_err-seen g c =
    let v = g.M.Memory.view c.args.m.now in
    let d = definition_of c.args.definition.now in
    let e : c.from_residual-in_err-seen.result ≡ Err (by_install c.in_err-seen.field-0.0) = search rules in
    subst (PreparesAs v d) (sym e) (names_refuse v d (value c.in_ok-class.class) c.in_ok-class.ensures.class (method_view c.in_ok-tree.tree) c.in_ok-tree.ensures.tree c.in_err-seen.field-0.0 c.in_err-seen.ensures)

pub returns-in_err-parts : goal.returns-in_err-parts
returns-in_err-parts g c =
    let v = g.M.Memory.view c.args.m.now in
    let d = definition_of c.args.definition.now in
    let e : c.from_residual-in_err-parts.result ≡ Err (by_code c.in_err-parts.field-0.0) = search rules in
    subst (PreparesAs v d) (sym e) (code_refuses v d (value c.in_ok-class.class) c.in_ok-class.ensures.class (method_view c.in_ok-tree.tree) c.in_ok-tree.ensures.tree c.in_ok-seen.ensures.listed c.in_ok-seen.ensures.reads (names_view c.in_ok-seen.seen) c.in_ok-seen.ensures.alike c.in_err-parts.field-0.0 c.in_err-parts.ensures.fault)

pub returns-in_err-ready : goal.returns-in_err-ready
returns-in_err-ready g c =
    let v = g.M.Memory.view c.args.m.now in
    let d = definition_of c.args.definition.now in
    let e : c.from_residual-in_err-ready.result ≡ Err (by_install c.in_err-ready.field-0.0) = search rules in
    subst (PreparesAs v d) (sym e) (ready_refuses v d (value c.in_ok-class.class) c.in_ok-class.ensures.class (method_view c.in_ok-tree.tree) c.in_ok-tree.ensures.tree c.in_ok-seen.ensures.listed c.in_ok-seen.ensures.reads (names_view c.in_ok-seen.seen) c.in_ok-seen.ensures.alike (parts_view c.in_ok-parts.parts) c.in_ok-parts.ensures.parts c.in_err-ready.field-0.0 c.in_err-ready.ensures.plan)

pub returns : goal.returns
returns g c =
    let v = g.M.Memory.view c.args.m.now in
    let d = definition_of c.args.definition.now in
    let w = value c.in_ok-class.class in
    let tree = method_view c.in_ok-tree.tree in
    let reads = sym (only d.text (Ok tree) c.in_ok-tree.ensures.tree) in
    let seen = c.in_ok-seen.ensures in
    let parts = parts_view c.in_ok-parts.parts in
    let coded = code_seen tree seen.listed (names_view c.in_ok-seen.seen) seen.alike (Ok parts) c.in_ok-parts.ensures.parts in
    record {
      class = w;
      tree = tree;
      seen = seen.listed;
      parts = parts;
      found = c.in_ok-class.ensures.class;
      reads = reads;
      sees = seen.reads;
      coded = coded;
      ready = c.in_ok-ready.ensures.plan;
      selector = c.in_ok-selector.ensures.items_if_clones_equal (λ x y h. h) ∙ c.deref.ensures.value;
      room = c.in_ok-ready.ensures.room;
      bodies = c.in_ok-ready.ensures.bodies;
    }
