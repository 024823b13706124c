use Rattle.std.proofs.Common.{IsTrue, Err, refl, ap}
use Rattle.std.proofs.lemmas.List.Elements.{All-nil}
use Rattle.st_chunk.specs.Definitions.{IsDefinition}
use Rattle.st_store.specs.Stored.{StoreState}
use Rattle.st_recover.proofs.Images.{image_readable}
use Rattle.st_session.specs.Makings.{contents_in, commit_of}
use Rattle.st_session.proofs.Made.{tried, kept_rests, done_ends, unsaid_ends, failed_ends}
use Rattle.st_session.proofs.making.make.Goals as goal

pub returns-in-Ok-say_made-clause-ends : goal.returns-in-Ok-say_made-clause-ends
returns-in-Ok-say_made-clause-ends g c =
    let v = g.M.Memory.view c.args.m.now in
    let new = c.in-Ok.ensures in
    let rest = λ (told : IsTrue g.H.Host.is_told). kept_rests g.H.Host c.create.new.host c.args.store.now (commit_of (contents_in v)) 0 c.in-Ok._store (ap (λ (s : StoreState). s.name) new.store) (image_readable v (g.met.M.Memory.whole c.args.m.now) c.requires.starts) (All-nil IsDefinition) (new.kept told) in
    done_ends g.H.Host c.args.origin (contents_in v) c.args.store.now c.args.host.now c.create.new.host (tried g.H.Host c.args.store.now (commit_of (contents_in v)) c.args.host.now c.create.new.host new.moments new.left new.quiet new.spares new.say_count new.cause.later) new.none rest new.files c.say_made.new.host c.say_made.ensures.says c.in-Ok-say_made.ensures.all

pub returns-in-Ok-clause-ends : goal.returns-in-Ok-clause-ends
returns-in-Ok-clause-ends g c =
    let v = g.M.Memory.view c.args.m.now in
    let new = c.in-Ok.ensures in
    let rest = λ (told : IsTrue g.H.Host.is_told). kept_rests g.H.Host c.create.new.host c.args.store.now (commit_of (contents_in v)) 0 c.in-Ok._store (ap (λ (s : StoreState). s.name) new.store) (image_readable v (g.met.M.Memory.whole c.args.m.now) c.requires.starts) (All-nil IsDefinition) (new.kept told) in
    unsaid_ends g.H.Host c.args.origin (contents_in v) c.args.store.now c.args.host.now c.create.new.host (tried g.H.Host c.args.store.now (commit_of (contents_in v)) c.args.host.now c.create.new.host new.moments new.left new.quiet new.spares new.say_count new.cause.later) new.none rest new.files c.say_made.new.host c.say_made.ensures.says (c.in-Err-say_made.ensures.cause.rose refl)

pub returns-clause-ends : goal.returns-clause-ends
returns-clause-ends g c =
    let v = g.M.Memory.view c.args.m.now in
    let new = c.in-Err.ensures in
    let line = c.report_status.ensures in
    failed_ends g.H.Host c.args.origin (contents_in v) c.args.store.now c.args.host.now c.create.new.host (tried g.H.Host c.args.store.now (commit_of (contents_in v)) c.args.host.now c.create.new.host new.moments new.left new.quiet new.spares new.say_count new.cause.later) c.in-Err.fault new.kind new.refused new.broken c.store_status-status.result c.report_status.new.host c.store_status-status.ensures (λ same. new.cause.rose (ap Err same)) new.writes_nothing line.line line.reads line.alike line.disk
