use Rattle.std.proofs.Common.{refl}
use Rattle.st_host.specs.Stops.{comes}
use Rattle.st_host.proofs.Joining.{alike_once}
use Rattle.st_host.proofs.Rising.{held_unless}
use Rattle.st_host.proofs.Touching.{touches_once, syncs_narrow}
use Rattle.st_host.proofs.writes.sync_file.Goals as goal

pub returns-clause-syncs : goal.returns-clause-syncs
returns-clause-syncs g c =
    let w = c.sync.ensures in
    record { run = touches_once g.H.Host c.args.name.now _ _ _ _ (λ file. refl) (g.met.H.Host.only_now c.args.host.now) w.others w.quiet (λ told d can. comes d (w.stops told d can) refl) w.time w.cause w.say_count }

pub returns-clause-narrows : goal.returns-clause-narrows
returns-clause-narrows g c =
    let w = c.sync.ensures in
    syncs_narrow g.H.Host c.args.name.now _ _ (returns-clause-syncs g c)
    (λ calm. alike_once g.H.Host c.args.name.now _ _ (held_unless _ _ _ w.cause w.alike calm) (λ told. (w.others told).files))
