use Rattle.std.proofs.Common.{◌≡◌}
use Rattle.st_image.specs.inside.Loads.{loaded_below}
use Rattle.st_image.proofs.loading.load_all.Given as goal

abbrev pub invariant-loop-k : goal.invariant-loop-k
invariant-loop-k g l = record {
  objects : (g.L.Loader.loaded l.loader).objects ≡ loaded_below l.image.head l.image.bytes.now (g.L.Loader.loaded l.fn.loader).objects l.k;
  held : (g.L.Loader.loaded l.loader).held ≡ (g.L.Loader.loaded l.fn.loader).held;
  head : (g.L.Loader.loaded l.loader).head ≡ (g.L.Loader.loaded l.fn.loader).head;
}
