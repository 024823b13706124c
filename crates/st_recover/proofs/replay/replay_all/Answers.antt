use Rattle.std.proofs.Common.{◌+◌, ◌-◌, length, take, drop, refl, sym, ap, subst, arith}
use Rattle.st_frames.specs.inside.Shown.{shown}
use Rattle.st_chunk.specs.Definitions.{IsDefinition}
use Rattle.st_changes.specs.inside.Views.{definition_of, definitions_of}
use Rattle.st_install.specs.Defining.{installed}
use Rattle.st_recover.specs.Replays.{replay}
use Rattle.st_recover.proofs.Rests.{rest_definitions, rest_length, first_good, later_good, rest_none, counted, listed}
use Rattle.st_recover.proofs.Replaying.{IsUnderway, underway_none, underway_more, underway_all}
use Rattle.st_recover.proofs.Selectors.{found_none, found_more, found_all}
use Rattle.st_recover.proofs.replay.replay_all.Goals as goal

pub install_one-requires : goal.install_one-requires
install_one-requires g c =
    record { good = first_good c.loop-rest.rest.now c.definition-item.result c.in-len1-up.len_at_least c.definition-item.is c.loop-rest.invariant.good }

pub loop-rest-preserved : goal.loop-rest-preserved
loop-rest-preserved g c =
    let rest = c.loop-rest.rest.now in
    let x = c.definition-item.result in
    let there = c.in-len1-up.len_at_least in
    let is = c.definition-item.is in
    let inv = c.loop-rest.invariant in
    let old = g.M.Memory.view c.loop-rest.m in
    let new = g.M.Memory.view c.install_one.new.m in
    let did = c.in_ok-attempt.ensures in
    let came = c.in_ok-attempt.attempt.installation in
    record {
      good = later_good rest x there is inv.good;
      numbers = omega (arith, rest_length rest x there is, inv.numbers);
      count = omega (arith, counted (c.loop-rest.number + 1) came c.loop-rest.replay c.note.new.replay c.in_ok-note.ensures, inv.count);
      few = omega (arith, listed (c.loop-rest.number + 1) came c.loop-rest.replay c.note.new.replay c.in_ok-note.ensures, inv.few);
      found = found_more (definitions_of c.args.definitions.now) (definitions_of rest) (definitions_of (take (length rest - 1) (drop 1 rest))) (definition_of x) c.loop-rest.selectors.items c.push.new.self.items
          c.in_ok-attempt.attempt.selector (rest_definitions rest x there is) c.in_ok-push.ensures.items did.finds inv.found;
      ready = λ f w ready. c.install_one.ensures.ready f w (inv.ready f w ready);
      replays = λ f w s ready shows.
          let at = inv.ready f w ready in
          underway_more installed (replay installed s c.args.before (definitions_of c.args.definitions.now)) c.loop-rest.replay c.note.new.replay c.loop-rest.number
          (definition_of x) (definitions_of (take (length rest - 1) (drop 1 rest))) old new (shown old f w) (shown new f w) came
          (λ same. ap (λ v. shown v f w) same)
          (λ t shown_t. did.installs f w t at shown_t)
          did.refused
          c.in_ok-note.ensures
          (subst (λ ds. IsUnderway installed (replay installed s c.args.before (definitions_of c.args.definitions.now)) c.loop-rest.replay c.loop-rest.number ds (shown old f w))
          (rest_definitions rest x there is) (inv.replays f w s ready shows));
    }

pub loop-rest-init : goal.loop-rest-init
loop-rest-init g c = record {
  good = c.requires.good;
  numbers = c.requires.numbers;
  count = omega arith;
  few = let none = ap length c.new.ensures.items in omega (arith, none);
  found = found_none (definitions_of c.args.definitions.now) c.new-selectors.result.items c.new-selectors.ensures.items;
  ready = λ f w ready. ready;
  replays = λ f w s ready shows.
      underway_none installed s (record { count = 0; lost = c.new.result }) c.args.before (definitions_of c.args.definitions.now) (shown (g.M.Memory.view c.args.m.now) f w) refl c.new.ensures.items shows;
}

pub returns-clause-replays : goal.returns-clause-replays
returns-clause-replays g c = λ f w s ready shows.
    let whole = replay installed s c.args.before (definitions_of c.args.definitions.now) in
    let now = shown (g.M.Memory.view c.loop-rest.m) f w in
    underway_all installed whole c.loop-rest.replay c.loop-rest.number now
    (subst (λ ds. IsUnderway installed whole c.loop-rest.replay c.loop-rest.number ds now) (rest_none c.loop-rest.rest.now c.in_default.len_below) (c.loop-rest.invariant.replays f w s ready shows))

pub returns-clause-few : goal.returns-clause-few
returns-clause-few g c = let few = c.loop-rest.invariant.few in let most = c.loop-rest.invariant.numbers in omega (arith, few, most)

pub returns-clause-finds : goal.returns-clause-finds
returns-clause-finds g c =
    found_all (definitions_of c.args.definitions.now) (definitions_of c.loop-rest.rest.now) c.loop-rest.selectors.items (rest_none c.loop-rest.rest.now c.in_default.len_below) c.loop-rest.invariant.found
