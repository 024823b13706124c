use Rattle.std.proofs.Common.{◌≡◌, rules, Option, Ok, Err, subst}
use Rattle.st_model.specs.declared.word.Word.{Word}
use Rattle.st_model.specs.Values.{word}
use Rattle.st_model.specs.Lookup.{find}
use Rattle.st_model.specs.Table.{bounded_table}
use Rattle.st_model.specs.inside.Calls.{Reads}
use Rattle.st_lookup.specs.inside.Places.{found_word}
use Rattle.st_lookup.proofs.Pointers.{dies, finds_none, finds, finds_live}
use Rattle.st_lookup.proofs.finding.find.Goals as goal

pub returns-in_err-method-clause-finds : goal.returns-in_err-method-clause-finds
returns-in_err-method-clause-finds g c =
    let e : c.from_residual.result ≡ Err c.in_err-method.field-0.0 = search rules in
    rw e (dies (g.M.Memory.view c.args.m.now).objects c.args.class c.args.selector c.from.result c.from-2.result c.from.ensures c.from-2.ensures c.in_err-method.field-0.0 c.in_err-method.ensures)

pub returns-in-Some-clause-finds : goal.returns-in-Some-clause-finds
returns-in-Some-clause-finds g c =
    finds (g.M.Memory.view c.args.m.now).objects c.args.class c.args.selector c.from.result c.from-2.result c.from.ensures c.from-2.ensures c.in-Some.method
    (subst (λ (x : Option Word). Reads (find bounded_table (word c.from.result) (word c.from-2.result)) found_word (g.M.Memory.view c.args.m.now).objects (Ok x)) c.in-Some.is c.in_ok-method.ensures)
    c.live_value.result c.live_value.ensures.same c.live_value.ensures.gone

pub returns-in-Some-clause-known : goal.returns-in-Some-clause-known
returns-in-Some-clause-known g c =
    finds_live (g.M.Memory.view c.args.m.now).objects c.args.class c.args.selector c.from.result c.from-2.result c.from.ensures c.from-2.ensures c.in-Some.method
    (subst (λ (x : Option Word). Reads (find bounded_table (word c.from.result) (word c.from-2.result)) found_word (g.M.Memory.view c.args.m.now).objects (Ok x)) c.in-Some.is c.in_ok-method.ensures)
    c.live_value.result c.live_value.ensures.same

pub returns-in-None-clause-finds : goal.returns-in-None-clause-finds
returns-in-None-clause-finds g c =
    finds_none (g.M.Memory.view c.args.m.now).objects c.args.class c.args.selector c.from.result c.from-2.result c.from.ensures c.from-2.ensures
    (subst (λ (x : Option Word). Reads (find bounded_table (word c.from.result) (word c.from-2.result)) found_word (g.M.Memory.view c.args.m.now).objects (Ok x)) c.in-None.is c.in_ok-method.ensures)
