use Rattle.st_host.proofs.Touching.{touches_once, torn_same}
use Rattle.st_host.proofs.writes.write_bytes.Goals as goal

pub returns-clause-writes : goal.returns-clause-writes
returns-clause-writes g c =
    let w = c.write_at.ensures in
    record { run = touches_once g.H.Host c.args.name.now _ _ _ _ (torn_same _ _ _ _) (g.met.H.Host.only_now c.args.host.now) w.others w.quiet w.stops w.time w.cause w.say_count }
