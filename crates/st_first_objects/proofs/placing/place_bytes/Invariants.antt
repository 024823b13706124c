use Rattle.std.proofs.Common.{◌/◌, []}
use Rattle.st_model.specs.declared.kind.Kind.TheVariants as kind
use Rattle.st_first_objects.specs.inside.Placing.{Puts, filled}
use Rattle.st_first_objects.proofs.placing.place_bytes.Given as goal

abbrev pub invariant-loop-i : goal.invariant-loop-i
invariant-loop-i g l = Puts (g.L.Loader.loaded l.fn.loader) (g.L.Loader.loaded l.loader) (l.at.0 / 2)
    (record { class = l.fn.class.0 / 2; kind = kind.Bytes; fields = []; units = filled 0 l.bytes l.i })
