use Rattle.std.proofs.Common.{ap, sym, subst, ◌∙◌}
use Rattle.std.specs.Prelude.{Option, option_map}
use Rattle.std.proofs.lemmas.Result.{IfOk-weaker}
use Rattle.st_emit.specs.declared.names.Names.{Names}
use Rattle.st_scope.specs.inside.Findings.{text_of}
use Rattle.st_chunk.specs.Asks.{side_of}
use Rattle.st_parts.specs.inside.Places.{place_of}
use Rattle.st_browse.specs.Decompiling.{method_place}
use Rattle.st_browse.specs.inside.Placing.{place_if, AreNamesIf}
use Rattle.st_browse.proofs.Making.{is_made}
use Rattle.st_browse.proofs.decompiling.decompiled.Goals as goal

pub returns-in-Some-2 : goal.returns-in-Some-2
returns-in-Some-2 g c =
    let v = g.M.Memory.view c.args.m.now in
    let at = place_of c.in-Some.of in
    let place = method_place v (side_of c.args.side) c.args.selector.now in
    let there = sym (ap place_if c.in-Some.is) ∙ c.find_compiled.ensures.place in
    let names = subst (λ (n : Option Names). AreNamesIf v at n) c.in-Some-2.is c.in_ok-names.ensures in
    IfOk-weaker c.text_under.result _ _ (λ text. is_made v at place c.in-Some-2.names (option_map text_of text) there names) c.text_under.ensures
