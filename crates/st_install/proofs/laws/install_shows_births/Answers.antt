-- The laws are lemmas.
use Rattle.st_install.proofs.SameCalls.{class_shows, names_show, ready_shows}
use Rattle.st_install.proofs.SameInstalls.{install_shows, install_settles}
use Rattle.st_install.proofs.laws.install_shows_births.Goals as goal

pub returns : goal.returns
returns z = record { class = class_shows; names = names_show; ready = ready_shows; install = install_shows; settles = install_settles }
