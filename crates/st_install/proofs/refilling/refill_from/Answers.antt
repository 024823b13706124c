use Rattle.st_model.specs.Values.{value}
use Rattle.st_install.proofs.Refills.{selector_there, carry_goes, place_carried, place_empty}
use Rattle.st_install.proofs.refilling.refill_from.Goals as goal

pub field-selector-requires : goal.field-selector-requires
field-selector-requires g c = selector_there (value c.args.old) (value c.args.new) c.args.k (g.M.Memory.view c.args.m.now) c.requires.goes

pub carry-requires : goal.carry-requires
carry-requires g c =
    carry_goes (value c.args.old) (value c.args.new) c.args.k (g.M.Memory.view c.args.m.now) c.requires.goes c.field-selector.result c.field-selector.ensures c.if-selector.true

pub returns-then-selector : goal.returns-then-selector
returns-then-selector g c =
    place_carried (value c.args.old) (value c.args.new) c.args.k (g.M.Memory.view c.args.m.now) c.requires.goes c.field-selector.result c.field-selector.ensures c.if-selector.true (g.M.Memory.view c.carry.new.m) c.carry.ensures

pub returns-else-selector : goal.returns-else-selector
returns-else-selector g c =
    place_empty (value c.args.old) (value c.args.new) c.args.k (g.M.Memory.view c.args.m.now) c.requires.goes c.field-selector.result c.field-selector.ensures c.if-selector.false
