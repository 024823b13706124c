use Rattle.std.proofs.Common.{arith}
use Rattle.st_bitblt.proofs.span.clipped.Goals as goal

pub returns : goal.returns
returns c = record {
  takes = λ k h. record {
    low = omega arith;
    high = omega arith;
    clip_low = omega arith;
    clip_high = omega arith;
    within = omega arith;
    from = omega arith;
    source = omega arith;
  };
  all = λ d s t. (omega arith, omega arith);
  to_fits = omega arith;
  from_fits = omega arith;
  count_fits = omega arith;
}
