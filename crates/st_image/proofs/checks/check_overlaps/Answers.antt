use Rattle.std.proofs.Common.{Some, None}
use Rattle.st_image.specs.inside.Spans.{IsFirstShared}
use Rattle.st_image.proofs.Overlaps.{AreSpans, spans_within, overlap_clean, overlap_first}
use Rattle.st_image.proofs.checks.check_overlaps.Goals as goal

pub first_shared-requires-clause-within : goal.first_shared-requires-clause-within
first_shared-requires-clause-within c =
    let are : AreSpans c.args.image.now.head c.args.image.now.bytes.now c.deref.result.now = rw c.deref.ensures.value (record { length = c.in_ok-spans.ensures.length; each = c.in_ok-spans.ensures.spans }) in
    spans_within c.args.image.now.head c.args.image.now.bytes.now c.deref.result.now are c.requires

pub returns-in-None : goal.returns-in-None
returns-in-None c =
    let are : AreSpans c.args.image.now.head c.args.image.now.bytes.now c.deref.result.now = rw c.deref.ensures.value (record { length = c.in_ok-spans.ensures.length; each = c.in_ok-spans.ensures.spans }) in
    let found : IsFirstShared c.deref.result.now None = rw c.in-None.is at c.in_ok-first_shared.ensures in
    overlap_clean c.args.image.now.head c.args.image.now.bytes.now c.deref.result.now are found

pub returns : goal.returns
returns c =
    let are : AreSpans c.args.image.now.head c.args.image.now.bytes.now c.deref.result.now = rw c.deref.ensures.value (record { length = c.in_ok-spans.ensures.length; each = c.in_ok-spans.ensures.spans }) in
    let found : IsFirstShared c.deref.result.now (Some (c.in-Some.j, c.in-Some.k)) = rw c.in-Some.is at c.in_ok-first_shared.ensures in
    overlap_first c.args.image.now.head c.args.image.now.bytes.now c.deref.result.now (c.in-Some.j, c.in-Some.k) are found
