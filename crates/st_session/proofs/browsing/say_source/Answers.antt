use Rattle.std.proofs.Common.{Err, inl, sym, subst, ◌∙◌}
use Rattle.st_chunk.specs.Asks.{Source, side_of}
use Rattle.st_browse.specs.declared.saying.SourceFault.{SourceFault}
use Rattle.st_browse.specs.inside.SourceFaults.{IsCaused}
use Rattle.st_browse.specs.Asked.{reply}
use Rattle.st_call.specs.Replies.{missing_text}
use Rattle.st_session.specs.Sources.{shown_text}
use Rattle.st_session.proofs.Looking.{there_said, missing_said, unsaid}
use Rattle.st_session.proofs.Sources.{shown_of}
use Rattle.st_session.proofs.browsing.say_source.Goals as goal

pub returns-in-Ok-true : goal.returns-in-Ok-true
returns-in-Ok-true g c =
    let v = g.M.Memory.view c.args.m.now in
    let text = shown_text v c.args.changes.now.listed (side_of c.args.side) c.args.selector.now in
    let said = shown_of g.H.Host v c.args.changes.now.listed (record { class = c.in-Ok.class.items; meta = c.args.side.meta }) (side_of c.args.side) c.args.selector.now _ _ _
    (λ i. record { class = c.in-Ok.ensures.items_if_clones_equal (λ x y h. h) i; meta = c.args.side.meta }) c.in-Ok-true.ensures.answers in
    inl (there_said g.H.Host missing_text (reply v text (Source (side_of c.args.side) c.args.selector.now)) _ _ (sym said.there ∙ c.in-Ok-true.field-0-test) said.all said.says)

pub returns-in-Ok-false : goal.returns-in-Ok-false
returns-in-Ok-false g c =
    let v = g.M.Memory.view c.args.m.now in
    let text = shown_text v c.args.changes.now.listed (side_of c.args.side) c.args.selector.now in
    let said = shown_of g.H.Host v c.args.changes.now.listed (record { class = c.in-Ok.class.items; meta = c.args.side.meta }) (side_of c.args.side) c.args.selector.now _ _ _
    (λ i. record { class = c.in-Ok.ensures.items_if_clones_equal (λ x y h. h) i; meta = c.args.side.meta }) c.in-Ok-false.ensures.answers in
    inl (missing_said g.H.Host missing_text (reply v text (Source (side_of c.args.side) c.args.selector.now)) _ _ _ c.say_reply.result (sym said.there ∙ c.in-Ok-false.field-0-test) said.all said.says c.say_reply.ensures)

pub returns-in-Err-Disk : goal.returns-in-Err-Disk
returns-in-Err-Disk g c = absurd (subst (λ (e : SourceFault). IsCaused (g.H.Host.say_faults c.args.host.now) (g.H.Host.say_faults c.browse_source.new.host) (Err e)) c.in-Err-Disk.field-0-is c.in-Err-Disk.ensures.cause.caused)

pub returns-in-Err-Say : goal.returns-in-Err-Say
returns-in-Err-Say g c =
    let v = g.M.Memory.view c.args.m.now in
    let text = shown_text v c.args.changes.now.listed (side_of c.args.side) c.args.selector.now in
    let said = shown_of g.H.Host v c.args.changes.now.listed (record { class = c.in-Ok.class.items; meta = c.args.side.meta }) (side_of c.args.side) c.args.selector.now _ _ _
    (λ i. record { class = c.in-Ok.ensures.items_if_clones_equal (λ x y h. h) i; meta = c.args.side.meta }) c.in-Err-Say.ensures.answers in
    inl (unsaid g.H.Host missing_text (reply v text (Source (side_of c.args.side) c.args.selector.now)) _ _ said.says (subst (λ (e : SourceFault). IsCaused (g.H.Host.say_faults c.args.host.now) (g.H.Host.say_faults c.browse_source.new.host) (Err e)) c.in-Err-Say.field-0-is c.in-Err-Say.ensures.cause.caused))
