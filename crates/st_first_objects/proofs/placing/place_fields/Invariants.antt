use Rattle.std.proofs.Common.{◌/◌, []}
use Rattle.std.specs.Prelude.{map}
use Rattle.st_model.specs.declared.kind.Kind.TheVariants as kind
use Rattle.st_model.specs.Objects.{nil}
use Rattle.st_first_objects.specs.Pointers.{value_in}
use Rattle.st_first_objects.specs.inside.Placing.{Puts, filled}
use Rattle.st_first_objects.specs.inside.Views.{fields_of}
use Rattle.st_first_objects.proofs.placing.place_fields.Given as goal

abbrev pub invariant-loop-i : goal.invariant-loop-i
invariant-loop-i g l = Puts (g.L.Loader.loaded l.fn.loader) (g.L.Loader.loaded l.loader) (l.at.0 / 2)
    (record { class = l.fn.class.0 / 2; kind = kind.Pointers; fields = filled nil (map (value_in l.plan.order.things) (fields_of l.fields)) l.i; units = [] })
