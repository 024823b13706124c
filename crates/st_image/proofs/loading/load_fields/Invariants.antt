use Rattle.st_model.specs.Start.{field_in}
use Rattle.st_image.specs.inside.Loads.{Puts, fresh_in, with_fields}
use Rattle.st_image.proofs.loading.load_fields.Given as goal

abbrev pub invariant-loop-i : goal.invariant-loop-i
invariant-loop-i g l = Puts (g.L.Loader.loaded l.fn.loader) (g.L.Loader.loaded l.loader) l.k
    (with_fields (fresh_in l.image.head l.image.bytes.now l.k) (field_in l.image.head l.image.bytes.now l.k) l.i)
