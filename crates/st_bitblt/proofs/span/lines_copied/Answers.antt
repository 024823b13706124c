use Rattle.std.proofs.Common.{◌<◌}
use Rattle.std.specs.Prelude.{IfSome, Some}
use Rattle.st_bitblt.proofs.Clipping.{span_of, span_alone}
use Rattle.st_bitblt.proofs.span.lines_copied.Goals as goal

pub returns-in-Some : goal.returns-in-Some
returns-in-Some c =
    let small : IfSome (Some c.in-Some.source_lines) (λ n. n < 16384) = rw c.in-Some.is at c.requires.source in
    rw c.in-Some.is (span_of c.args.d c.args.lines c.clipped.result c.in-Some.source_lines small (rw (c.saturating_sub-count.ensures, c.saturating_sub-clip_count.ensures) at c.clipped.ensures))

pub returns-in-None : goal.returns-in-None
returns-in-None c =
    rw c.in-None.is (span_alone c.args.d c.args.lines c.clipped-in-None.result c.requires.lines c.requires.direction.to (rw (c.saturating_sub-count.ensures, c.saturating_sub-clip_count.ensures) at c.clipped-in-None.ensures))
