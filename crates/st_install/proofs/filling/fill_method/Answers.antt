use Rattle.st_model.specs.Values.{value}
use Rattle.st_scope.specs.inside.Meanings.{values}
use Rattle.st_install.proofs.Filled.{method_goes, method_bytes_go, method_filled}
use Rattle.st_install.proofs.filling.fill_method.Goals as goal

pub store_method_fields-requires-clause-goes : goal.store_method_fields-requires-clause-goes
store_method_fields-requires-clause-goes g c =
    method_goes (value c.args.o) (values c.args.made.now) c.args.parts.now c.args.bytes.now (g.M.Memory.view c.args.m.now) c.requires.goes

pub store_bytes-requires-clause-goes : goal.store_bytes-requires-clause-goes
store_bytes-requires-clause-goes g c =
    method_bytes_go (value c.args.o) (values c.args.made.now) c.args.parts.now c.args.bytes.now (g.M.Memory.view c.args.m.now) c.requires.goes (g.M.Memory.view c.store_method_fields.new.m) c.store_method_fields.ensures.becomes

pub returns-clause-becomes : goal.returns-clause-becomes
returns-clause-becomes g c =
    method_filled (value c.args.o) (values c.args.made.now) c.args.parts.now c.args.bytes.now (g.M.Memory.view c.args.m.now) c.requires.goes (g.M.Memory.view c.store_method_fields.new.m) c.store_method_fields.ensures.becomes
    (g.M.Memory.view c.store_bytes.new.m) c.store_bytes.ensures.becomes
