use Rattle.std.proofs.Common.{List, IsTrue, inl, inr, sym, subst}
use Rattle.st_host.specs.Counts.{Rose}
use Rattle.st_host.specs.Runs.{IsAtRest}
use Rattle.st_store.specs.Names.{IsNoFileOf}
use Rattle.st_store.specs.Stored.{IsChosen}
use Rattle.st_protocol.specs.Courses.{deeds_of, commits_of}
use Rattle.st_install.specs.Defining.{installed}
use Rattle.st_recover.specs.Commits.{Commit, OpensAs, stored_of}
use Rattle.st_recover.specs.Openings.{Reopens}
use Rattle.st_recover.specs.inside.Replayings.{losses_of}
use Rattle.st_recover.proofs.Determined.{same_commit}
use Rattle.st_session.specs.Opening.{session_so_far_over, session_of_over}
use Rattle.st_session.specs.Sessions.{asked_in}
use Rattle.st_session.specs.StoreSessions.{course_over, commits_over, IsOfSession, KeepsPromise}
use Rattle.st_session.proofs.Commanded.{one_opening, refused_promise, followed_promise, refused_so, refused_cause, refused_complete, spares_line, spares_then, cause_between, calm_between, open_at, ends_at, end_at, spares_told, kind_served, kind_refused, settled_from}
use Rattle.st_session.proofs.command.session.Goals as goal

pub returns-in-Ok-clause-ends : goal.returns-in-Ok-clause-ends
returns-in-Ok-clause-ends g c =
    let host = g.H.Host in
    let name = c.args.store.now in
    let o = c.in-Ok.opened in
    let view = g.L.Done.Memory.view in
    let opened = c.in-Ok.ensures in
    let served = c.serve-status.ensures in
    let line = c.report_status.ensures in
    let e = c.serve-status.result in
    let old = c.args.host.now in
    let mid = c.reopen.new.host in
    let closed = c.serve-status.new.host in
    let new = c.report_status.new.host in
    let script = g.S.Source.remaining c.args.script.now in
    let left = g.S.Source.remaining c.serve-status.new.script in
    let reads = Rose (g.S.Source.read_faults c.args.script.now) (g.S.Source.read_faults c.serve-status.new.script) in
    let is = λ (told : IsTrue host.is_told). open_at view host installed name old mid o (opened.opened told).0 (opened.opened told).1 in
    let ends = λ (told : IsTrue host.is_told) (read : IsTrue g.S.Source.is_told).
    let at = (opened.opened told).1 in
    ends_at host (opened.opened told).0 script left mid closed e o.store.name name o.replayed (losses_of o.lost.items) at.replayed opened.named at.count at.lost (served.ends read (opened.opened told).0 at.replayed.state (is told)) in
    record {
      over = λ told read. let at = (opened.opened told).1 in inr (record {
        commit = (opened.opened told).0;
        opens = at.opens;
        replayed = at.replayed;
        reopens = at.reopens;
        opened = mid;
        opening = opened.only;
        meanwhile = opened.moments told;
        settled = λ ready. settled_from host name (opened.opened told).0 o.store.chosen o.store.root.slot old mid (λ f s left. g.met.H.Host.only_now mid f s told left) (λ n. g.met.H.Host.read_counts mid n told) at.opens
            (subst (λ n. IsChosen host mid n o.store.chosen (stored_of o.store.root.slot (opened.opened told).0)) opened.named at.kept.is) (opened.settles told ready);
        closed = closed;
        counts = served.counts;
        ends = ends told read;
        line = line.line;
        behind = line.reads;
      });
      promise = λ told read k rest r reopens.
          let at = (opened.opened told).1 in
          let one = same_commit name (opened.opened told).0 k (host.files old) at.opens (rest.opens_as (host.files old) (λ n. g.met.H.Host.read_counts old n told)) in
          let two = one_opening installed k at.replayed r (subst (λ (x : Commit). Reopens installed x at.replayed) one at.reopens) reopens in
          subst (λ (l : List Commit). KeepsPromise host name l old new e) (λ i. commits_over (one i) (two i) script)
          (followed_promise host name (opened.opened told).0 (course_over (opened.opened told).0 at.replayed script) (session_so_far_over at.replayed.count at.replayed.lost at.replayed.state (opened.opened told).0) (session_of_over at.replayed.count at.replayed.lost at.replayed.state (opened.opened told).0) (asked_in script) script left e old mid closed new
          (subst (λ (x : Commit). IsAtRest host (OpensAs name) x old) (sym one) rest) (λ n. g.met.H.Host.read_counts old n told) (g.met.H.Host.counts_now closed) (opened.moments told) (opened.only.quiet told) told (ends told read) line.reads);
      complete = λ told read whole calm.
          let at = (opened.opened told).1 in
          let one = same_commit name (opened.opened told).0 whole.commit (host.files old) at.opens whole.opens in
          let two = one_opening installed whole.commit at.replayed whole.replayed (subst (λ (x : Commit). Reopens installed x at.replayed) one at.reopens) whole.reopens in
          served.complete read (opened.opened told).0 at.replayed.state (is told) (end_at (opened.opened told).0 whole.commit at.replayed whole.replayed o.replayed (losses_of o.lost.items) script one two at.count at.lost whole.ends)
          (calm_between host reads old mid closed new opened.only.disk opened.only.say served.counts.say line.reads.say line.disk calm);
      kind = kind_served (IsTrue host.is_told) name (host.files old) e served.kind;
      spares = λ read. spares_told host (IsNoFileOf name) old new (λ told. spares_line host name _ old closed new (spares_then host name old mid closed opened.spares (ends told read).spares) line.alike line.reads);
    }

pub returns-in-Ok-clause-cause : goal.returns-in-Ok-clause-cause
returns-in-Ok-clause-cause g c =
    let opened = c.in-Ok.ensures in
    let served = c.serve-status.ensures in
    let line = c.report_status.ensures in
    cause_between g.H.Host (Rose (g.S.Source.read_faults c.args.script.now) (g.S.Source.read_faults c.serve-status.new.script)) c.args.host.now c.reopen.new.host c.serve-status.new.host c.report_status.new.host c.serve-status.result opened.only.disk opened.only.say served.counts.say line.reads.say line.disk served.cause

pub returns-in-Err-clause-ends : goal.returns-in-Err-clause-ends
returns-in-Err-clause-ends g c =
    let name = c.args.store.now in
    let opened = c.in-Err.ensures in
    let line = c.refuse_opening.ensures in
    let refused = λ (told : IsTrue g.H.Host.is_told). refused_so g.H.Host name c.in-Err.fault c.refuse_opening.result c.args.host.now c.reopen.new.host c.refuse_opening.new.host line.status
    (opened.refused told) opened.only (opened.moments told) (opened.leaves told) (opened.rests told) opened.synced (opened.settles told) opened.spares told line.line line.reads line.alike in
    record {
      over = λ told read. inl (refused told);
      promise = λ told read k rest r reopens.
          refused_promise g.H.Host name k (commits_of (deeds_of (course_over k r (g.S.Source.remaining c.args.script.now)))) c.refuse_opening.result c.args.host.now c.reopen.new.host c.refuse_opening.new.host rest (λ n. g.met.H.Host.read_counts c.args.host.now n told) (opened.moments told) (opened.leaves told) (opened.only.quiet told) told line.reads;
      complete = λ told read whole calm. refused_complete name (g.H.Host.files c.args.host.now) whole.commit whole.opens g.H.Host c.args.host.now c.reopen.new.host c.refuse_opening.new.host whole.replayed c.in-Err.fault c.refuse_opening.result line.status whole.reopens opened.kind (opened.refused told) opened.cause line.disk calm.disk;
      kind = subst (IsOfSession (IsTrue g.H.Host.is_told) name (g.H.Host.files c.args.host.now)) (sym line.status) (kind_refused (IsTrue g.H.Host.is_told) name (g.H.Host.files c.args.host.now) c.in-Err.fault opened.kind opened.refused);
      spares = λ read. spares_line g.H.Host name _ c.args.host.now c.reopen.new.host c.refuse_opening.new.host opened.spares line.alike line.reads;
    }

pub returns-in-Err-clause-cause : goal.returns-in-Err-clause-cause
returns-in-Err-clause-cause g c =
    refused_cause g.H.Host (Rose (g.S.Source.read_faults c.args.script.now) (g.S.Source.read_faults c.args.script.now)) c.args.host.now c.reopen.new.host c.refuse_opening.new.host c.in-Err.fault c.refuse_opening.result c.refuse_opening.ensures.status c.in-Err.ensures.kind c.in-Err.ensures.cause c.refuse_opening.ensures.disk
