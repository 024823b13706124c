use Rattle.st_model.specs.Values.{value}
use Rattle.st_frames.specs.inside.Shown.{shown}
use Rattle.st_step.proofs.Said.{said_is, none_said}
use Rattle.st_step.proofs.stepping.say_top.Goals as goal

pub unreachable-requires : goal.unreachable-requires
unreachable-requires g c =
    let top = c.requires.top in
    none_said (shown (g.M.Memory.view c.args.m.now) c.args.f.now top.0) _ top.1 (c.in_default.ensures.under top.0) top.2

pub returns : goal.returns
returns g c w x e = said_is (shown (g.M.Memory.view c.args.m.now) c.args.f.now w) (value c.in-Ok.said) x (c.in-Ok.ensures.under w) e
