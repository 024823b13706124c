use Rattle.st_decompile.proofs.Regioned.{passed_end, passed_long, passed_short, passed_none}
use Rattle.st_decompile.proofs.region.passed.Goals as goal

pub returns-in_default : goal.returns-in_default
returns-in_default c = passed_end c.args.steps.now c.in_default.ensures

pub returns-in-JumpPast : goal.returns-in-JumpPast
returns-in-JumpPast c = passed_long c.args.steps.now c.in-Some.first c.in-Some.rest c.in-Some.ensures c.in-JumpPast.distance c.requires c.in-JumpPast.is

pub returns-in-Jump : goal.returns-in-Jump
returns-in-Jump c = passed_short c.args.steps.now c.in-Some.first c.in-Some.rest c.in-Some.ensures c.in-Jump.distance c.requires c.in-Jump.is

pub returns-in_default-step : goal.returns-in_default-step
returns-in_default-step c = passed_none c.args.steps.now c.in-Some.first c.in-Some.rest c.in-Some.ensures c.in_default-step.not-JumpPast c.in_default-step.not-Jump
