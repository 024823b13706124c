use Rattle.std.proofs.Common.{◌<◌, length, ◌∙◌, arith}
use Rattle.std.proofs.lemmas.List.{take-set-le}
use Rattle.st_plain.proofs.Filling.{run_filled}
use Rattle.st_plain.proofs.runs.fill_run.Goals as goal

pub loop-i-preserved : goal.loop-i-preserved
loop-i-preserved g c =
    let i = c.loop-i.i in
    let within : i < length c.loop-i.list = omega arith in
    record {
      before = take-set-le c.args.at c.loop-i.list i c.args.v (omega arith) ∙ c.loop-i.invariant.before;
      run = run_filled c.loop-i.list c.args.at i c.args.v (omega arith) within c.loop-i.invariant.run;
    }
