use Rattle.st_first_objects.proofs.placing.place_content.Goals as goal
use Rattle.st_model.proofs.Entries.{free_at}

pub place-requires-clause-free : goal.place-requires-clause-free
place-requires-clause-free g c = free_at (g.L.Loader.loaded c.args.loader.now) _ _ c.requires.can.1.here c.requires.can.1.free
