use Rattle.std.proofs.Common.{◌≡◌, ◌/◌, ◌<◌, length, ap, sym, ◌∙◌, subst, arith}
use Rattle.std.proofs.lemmas.Grind.{common_steps}
use Rattle.st_model.specs.declared.kind.Kind.{Kind}
use Rattle.st_model.specs.declared.kind.Kind.TheVariants.{Method}
use Rattle.st_model.specs.Objects.{Object}
use Rattle.st_model.specs.Values.{Small, value_of}
use Rattle.st_model.specs.Formed.{fresh}
use Rattle.st_model.specs.View.{is_live, object_of, with_object, with_stored}
use Rattle.st_model.proofs.Pointers.{value_of-odd}
use Rattle.st_plain.specs.inside.Lists.{cleared}
use Rattle.st_plain.specs.inside.ListsPlain.{objects_of}
use Rattle.st_plain.proofs.Fresh.{pointer_within, live_placed, object_of-placed, stored_placed, method_is, header_place, fresh_method}
use Rattle.st_plain.proofs.objects.Objects.place.Goals as goal

pub set_field-requires-clause-live : goal.set_field-requires-clause-live
set_field-requires-clause-live c =
    let o = c.args.self.now in
    let w = c.args.at.0 in
    let within = pointer_within o w (omega arith) in
    ap (λ t. is_live t (value_of w)) c.place_cleared.ensures.objects ∙ live_placed (objects_of o) w _ c.requires.even within

pub set_field-requires-clause-range : goal.set_field-requires-clause-range
set_field-requires-clause-range c =
    let o = c.args.self.now in
    let w = c.args.at.0 in
    let class = c.args.class.0 / 2 in
    let fields = c.fields_of-fields.result in
    let units = c.units_of-units.result in
    let within = pointer_within o w (omega arith) in
    let method : c.args.kind ≡ Method = method_is c.args.kind (grind (arith, common_steps)) in
    let f : fields ≡ length (fresh class Method c.args.size c.args.literals).fields = subst (λ (k : Kind). fields ≡ length (fresh class k c.args.size c.args.literals).fields) method c.fields_of-fields.ensures in
    let is : object_of (objects_of c.place_cleared.new.self) (value_of w) ≡ cleared class c.args.kind fields units =
    ap (λ t. object_of t (value_of w)) c.place_cleared.ensures.objects ∙ object_of-placed (objects_of o) w _ c.requires.even within in
    subst (λ (b : Object). 0 < length b.fields) (sym (is ∙ ap (λ k. cleared class k fields units) method)) (header_place class c.args.size c.args.literals fields units f)

pub returns-then-is_method-clause-objects : goal.returns-then-is_method-clause-objects
returns-then-is_method-clause-objects c =
    let o = c.args.self.now in
    let w = c.args.at.0 in
    let class = c.args.class.0 / 2 in
    let fields = c.fields_of-fields.result in
    let units = c.units_of-units.result in
    let size = c.args.size in
    let literals = c.args.literals in
    let within = pointer_within o w (omega arith) in
    let method : c.args.kind ≡ Method = method_is c.args.kind (grind (arith, common_steps)) in
    let f : fields ≡ length (fresh class Method size literals).fields = subst (λ (k : Kind). fields ≡ length (fresh class k size literals).fields) method c.fields_of-fields.ensures in
    let u : units ≡ length (fresh class Method size literals).units = subst (λ (k : Kind). units ≡ length (fresh class k size literals).units) method c.units_of-units.ensures in
    let placed : objects_of c.place_cleared.new.self ≡ with_object (objects_of o) (value_of w) (cleared class Method fields units) =
    c.place_cleared.ensures.objects ∙ ap (λ k. with_object (objects_of o) (value_of w) (cleared class k fields units)) method in
    c.set_field.ensures.objects
    ∙ ap (λ x. with_stored (objects_of c.place_cleared.new.self) (value_of w) 0 x) (value_of-odd literals)
    ∙ ap (λ t. with_stored t (value_of w) 0 (Small literals)) placed
    ∙ stored_placed (objects_of o) w (cleared class Method fields units) c.requires.even within 0 (Small literals)
    ∙ ap (with_object (objects_of o) (value_of w)) (fresh_method class size literals fields units f u)
    ∙ ap (λ k. with_object (objects_of o) (value_of w) (fresh class k size literals)) (sym method)
