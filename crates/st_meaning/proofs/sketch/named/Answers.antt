use Rattle.std.proofs.Common.{◌≡◌, Option, Some, None, refl, ap}
use Rattle.st_scan.specs.Views.{name_view}
use Rattle.st_emit.specs.declared.instruction.Constant.{Constant as Name}
use Rattle.st_emit.specs.Names.{constant_named}
use Rattle.st_emit.specs.Nodes.{constant}
use Rattle.st_emit.specs.Resolving.{constant_or, place_of_name, name_node}
use Rattle.st_emit.specs.inside.Around.{context}
use Rattle.st_meaning.specs.declared.deed.Value.{Value}
use Rattle.st_meaning.specs.declared.arena.Start.TheVariants.{Known}
use Rattle.st_meaning.specs.inside.Runs.{gives}
use Rattle.st_meaning.specs.inside.Meant.{IsStart}
use Rattle.st_meaning.proofs.Sketching.{builds_given, named_built}
use Rattle.st_meaning.proofs.sketch.named.Goals as goal

pub returns-in-Some : goal.returns-in-Some
returns-in-Some c =
    let k = c.in-Some.constant in
    let e : constant_named c.args.name.now.text.items ≡ Some k = cc in
    let place = place_of_name (context c.args.around) (name_view c.args.name.now) in
    builds_given (name_node (context c.args.around) (name_view c.args.name.now)) (IsStart (Known c.constant_value.result)) c.args.sketch.now (constant k)
    (ap (λ (o : Option Name). constant_or o place) e) (λ ms n. ap (λ (v : Value). gives v) c.constant_value.ensures)

pub returns-in_ok-place-in-None : goal.returns-in_ok-place-in-None
returns-in_ok-place-in-None c =
    let none : constant_named c.args.name.now.text.items ≡ None = cc in
    named_built c.args.around c.args.name.now c.in_ok-place-in-None.place c.variable_of.result c.args.sketch.now (record c.args.sketch.now { draft = c.place_of_name.new.draft }) none c.requires c.in_ok-place-in-None.ensures refl c.variable_of.ensures
