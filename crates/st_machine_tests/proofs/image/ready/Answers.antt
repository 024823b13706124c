use Rattle.st_machine_tests.proofs.Ready.{ready_new}
use Rattle.st_machine_tests.proofs.image.ready.Goals as goal

pub returns : goal.returns
returns g c = ready_new _ _ _ c.in_ok-loaded.ensures.frame c.in_ok-loaded.ensures.quiet c.in_ok-world.ensures
