use Rattle.st_model.specs.Table.{entry}
use Rattle.std.proofs.Common.{◌≡◌, [], take, drop, ap, ◌∙◌, arith}
use Rattle.std.specs.Prelude.{Some, None}
use Rattle.std.proofs.lemmas.Grind.{common_steps}
use Rattle.st_plain.specs.inside.Lists.{slot}
use Rattle.st_plain.proofs.Closed.{copied_here, copied_others, copied_none}
use Rattle.st_plain.proofs.objects.Objects.copy_from.Goals as goal

pub returns-in-Some-clause-here : goal.returns-in-Some-clause-here
returns-in-Some-clause-here c =
    let o = c.copy_free.new.self in
    let other = c.args.other.now in
    let e = c.in-Some.e in
    let there : slot other.entries.items c.args.k ≡ Some e = grind (arith, common_steps) in
    let fields : take e.fields (drop o.next_field o.pointers.items) ≡ take e.fields (drop e.fields_at other.pointers.items) = grind (arith, common_steps) in
    let units : take e.units (drop o.next_unit o.units.items) ≡ take e.units (drop e.units_at other.units.items) = grind (arith, common_steps) in
    copied_here o c.add.new.self other c.args.k o.next_field o.next_unit e o.pointers.items o.units.items c.requires.within there c.add.ensures.objects fields units

pub returns-in-Some-clause-others : goal.returns-in-Some-clause-others
returns-in-Some-clause-others c = λ j d.
    copied_others c.copy_free.new.self c.add.new.self c.args.other.now c.args.k 0 0 c.in-Some.e [] [] _ c.add.ensures.objects j d ∙ ap (λ t. entry t j) c.copy_free.ensures.objects

pub returns-in_default-clause-here : goal.returns-in_default-clause-here
returns-in_default-clause-here c =
    let other = c.args.other.now in
    let none : slot other.entries.items c.args.k ≡ None = grind (arith, common_steps) in
    copied_none c.args.self.now other c.args.k c.requires.free none
