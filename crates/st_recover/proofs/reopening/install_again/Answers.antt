use Rattle.std.proofs.Common.{length, sym, subst, arith}
use Rattle.std.proofs.Math.ListN.{length-map}
use Rattle.st_changes.specs.inside.Views.{definition_of, definitions_of}
use Rattle.st_changes.specs.Last.{FindsEach}
use Rattle.st_changes.proofs.Superseding.{many_bytes}
use Rattle.st_install.specs.Defining.{installed}
use Rattle.st_recover.proofs.Replaying.{again}
use Rattle.st_recover.proofs.Rests.{later_all, parted}
use Rattle.st_recover.proofs.reopening.install_again.Goals as goal

pub overflow_cast-before : goal.overflow_cast-before
overflow_cast-before g c =
    omega (arith, parted c.split.result.0.now c.split.result.1.now c.args.changes.listed c.split.ensures.all, many_bytes c.args.changes.listed, c.requires.limit)

pub replay_all-requires-clause-good : goal.replay_all-requires-clause-good
replay_all-requires-clause-good g c = later_all (definitions_of c.split.result.0.now) (definitions_of c.split.result.1.now) c.args.changes.listed c.split.ensures.all c.requires.good

pub replay_all-requires-clause-numbers : goal.replay_all-requires-clause-numbers
replay_all-requires-clause-numbers g c =
    omega (arith, parted c.split.result.0.now c.split.result.1.now c.args.changes.listed c.split.ensures.all, many_bytes c.args.changes.listed, c.requires.limit)

pub index-requires : goal.index-requires
index-requires g c = record {
  finds = record {
    front = definitions_of c.split.result.0.now;
    behind = definitions_of c.split.result.1.now;
    is = sym c.split.ensures.all;
    finds = subst (FindsEach (definitions_of c.split.result.1.now)) (sym c.deref.ensures.value) c.in_ok-replay.ensures.finds;
  };
}

pub returns-clause-replays : goal.returns-clause-replays
returns-clause-replays g c =
    let front = c.split.result.0.now in
    again installed c.args.changes.listed (definitions_of front) (definitions_of c.split.result.1.now) (length front) (g.M.Memory.view c.args.m.now) (g.M.Memory.view c.replay_all.new.m) c.args.base c.in_ok-replay.replay
    c.split.ensures.all (length-map front definition_of) c.split.ensures.before c.in_ok-replay.ensures.replays
