use Rattle.std.proofs.Common.{sym, subst}
use Rattle.st_model.specs.Values.{value}
use Rattle.st_model.specs.Machine.{Step}
use Rattle.st_model.specs.Table.{Table}
use Rattle.st_install.specs.inside.Carried.{Goes, Becomes}
use Rattle.st_scope.specs.inside.Meanings.{values}
use Rattle.st_install.proofs.Filled.{fills_pointers, fills_bytes, fills_method}
use Rattle.st_install.proofs.filling.fill.Goals as goal

pub store_fields-requires-clause-goes : goal.store_fields-requires-clause-goes
store_fields-requires-clause-goes g c = subst (λ (x : Step Table Unit). Goes x (g.M.Memory.view c.args.m.now)) (fills_pointers (value c.args.o) (values c.args.made.now) c.args.planned.now _ c.deref.ensures.value c.in-Pointers.is) c.requires.goes

pub store_bytes-requires-clause-goes : goal.store_bytes-requires-clause-goes
store_bytes-requires-clause-goes g c = subst (λ (x : Step Table Unit). Goes x (g.M.Memory.view c.args.m.now)) (fills_bytes (value c.args.o) (values c.args.made.now) c.args.planned.now _ c.deref-in-Bytes.ensures.value c.in-Bytes.is) c.requires.goes

pub fill_method-requires-clause-goes : goal.fill_method-requires-clause-goes
fill_method-requires-clause-goes g c = subst (λ (x : Step Table Unit). Goes x (g.M.Memory.view c.args.m.now)) (fills_method (value c.args.o) (values c.args.made.now) c.args.planned.now _ _ c.deref-in-Method.ensures.value c.deref-in-Method-2.ensures.value c.in-Method.is) c.requires.goes

pub returns-in-Pointers-clause-becomes : goal.returns-in-Pointers-clause-becomes
returns-in-Pointers-clause-becomes g c =
    subst (λ (x : Step Table Unit). Becomes x (g.M.Memory.view c.args.m.now) tt (g.M.Memory.view c.store_fields.new.m)) (sym (fills_pointers (value c.args.o) (values c.args.made.now) c.args.planned.now _ c.deref.ensures.value c.in-Pointers.is)) c.store_fields.ensures.becomes

pub returns-in-Bytes-clause-becomes : goal.returns-in-Bytes-clause-becomes
returns-in-Bytes-clause-becomes g c =
    subst (λ (x : Step Table Unit). Becomes x (g.M.Memory.view c.args.m.now) tt (g.M.Memory.view c.store_bytes.new.m)) (sym (fills_bytes (value c.args.o) (values c.args.made.now) c.args.planned.now _ c.deref-in-Bytes.ensures.value c.in-Bytes.is)) c.store_bytes.ensures.becomes

pub returns-in-Method-clause-becomes : goal.returns-in-Method-clause-becomes
returns-in-Method-clause-becomes g c =
    subst (λ (x : Step Table Unit). Becomes x (g.M.Memory.view c.args.m.now) tt (g.M.Memory.view c.fill_method.new.m)) (sym (fills_method (value c.args.o) (values c.args.made.now) c.args.planned.now _ _ c.deref-in-Method.ensures.value c.deref-in-Method-2.ensures.value c.in-Method.is)) c.fill_method.ensures.becomes
