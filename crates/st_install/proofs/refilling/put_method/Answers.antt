use Rattle.st_model.specs.Values.{value}
use Rattle.st_install.proofs.Refills.{put_first, put_second, put_both}
use Rattle.st_install.proofs.refilling.put_method.Goals as goal

pub store_field-requires : goal.store_field-requires
store_field-requires g c =
    put_first (value c.args.dictionary) (value c.args.methods) c.args.k (value c.args.selector) (value c.args.method) (g.M.Memory.view c.args.m.now) c.requires.goes

pub store_field-requires-2 : goal.store_field-requires-2
store_field-requires-2 g c =
    put_second (value c.args.dictionary) (value c.args.methods) c.args.k (value c.args.selector) (value c.args.method) (g.M.Memory.view c.args.m.now) c.requires.goes
    (g.M.Memory.view c.store_field.new.m) c.store_field.ensures.becomes

pub returns : goal.returns
returns g c =
    put_both (value c.args.dictionary) (value c.args.methods) c.args.k (value c.args.selector) (value c.args.method) (g.M.Memory.view c.args.m.now) c.requires.goes
    (g.M.Memory.view c.store_field.new.m) c.store_field.ensures.becomes (g.M.Memory.view c.store_field-2.new.m) c.store_field-2.ensures.becomes
