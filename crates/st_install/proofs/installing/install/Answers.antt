use Rattle.st_install.proofs.installing.install.Goals as goal

pub returns : goal.returns
returns g c = record { between = g.M.Memory.view c.make_and_store.new.m; becomes = c.make_and_store.ensures; settles = c.settle.ensures.settles }
