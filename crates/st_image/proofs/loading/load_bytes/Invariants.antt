use Rattle.st_model.specs.Start.{unit_in}
use Rattle.st_image.specs.inside.Loads.{Puts, filled_in, with_units}
use Rattle.st_image.proofs.loading.load_bytes.Given as goal

abbrev pub invariant-loop-i : goal.invariant-loop-i
invariant-loop-i g l = Puts (g.L.Loader.loaded l.fn.loader) (g.L.Loader.loaded l.loader) l.k
    (with_units (filled_in l.image.head l.image.bytes.now l.k) (unit_in l.image.head l.image.bytes.now l.k) l.i)
