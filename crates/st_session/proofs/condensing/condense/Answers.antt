use Rattle.std.proofs.Common.{ℕ, List, IsTrue, inl, inr, refl, sym, subst, arith}
use Rattle.st_host.proofs.Touching.{spares_join}
use Rattle.st_store.specs.Names.{IsNoFileOf}
use Rattle.st_store.specs.Stored.{IsChosen}
use Rattle.st_protocol.specs.declared.status.Status.{Status}
use Rattle.st_protocol.specs.Statuses.{StatusHasCause}
use Rattle.st_recover.specs.Commits.{stored_of}
use Rattle.st_recover.proofs.Determined.{same_commit}
use Rattle.st_call.specs.LastLines.{last_line, SaysLastLine}
use Rattle.st_host.specs.Runs.{ReadsAndSays, Spares}
use Rattle.st_session.specs.Ends.{status_in}
use Rattle.st_session.specs.Exports.{IsOfExport}
use Rattle.st_session.specs.Condensings.{DoesCondense, CondenseEnds}
use Rattle.st_session.proofs.Commanded.{refused_so, refused_cause, refused_complete, settled_from}
use Rattle.st_session.proofs.Condensed.{condense_has, condensing_since, condensing_whole, opening_so, refused_whole_moments}
use Rattle.st_session.proofs.Exported.{cause_done, done_or_full, kind_in, kind_unopened, names_said}
use Rattle.st_session.proofs.condensing.condense.Goals as goal

pub returns-in-Ok-clause-cause : goal.returns-in-Ok-clause-cause
returns-in-Ok-clause-cause g c =
    cause_done g.H.Host c.args.store.now _ c.args.host.now c.reopen.new.host c.condense_store.new.host c.report_status.new.host c.condense_store.result c.status_of-status.result c.status_of-status.ensures c.in-Ok.ensures.only c.condense_store.ensures.counts c.report_status.ensures.reads c.report_status.ensures.disk

pub returns-in-Ok-clause-ends : goal.returns-in-Ok-clause-ends
returns-in-Ok-clause-ends g c =
    let host = g.H.Host in
    let store = c.args.store.now in
    let o = c.in-Ok.opened in
    let opened = c.in-Ok.ensures in
    let did = c.condense_store.ensures in
    let line = c.report_status.ensures in
    let r = c.condense_store.result in
    let old = c.args.host.now in
    let mid = c.reopen.new.host in
    let closed = c.condense_store.new.host in
    let new = c.report_status.new.host in
    let is = c.status_of-status.ensures in
    let said = subst (λ (x : Status). SaysLastLine host x closed new) is line.line in
    let reads = subst (λ (x : Status). ReadsAndSays host (last_line x) closed new) is line.reads in
    let cause = subst (StatusHasCause host ⊥ old new) is (returns-in-Ok-clause-cause g c) in
    let does : (told : IsTrue host.is_told) → DoesCondense host store (opened.opened told).0 mid closed r = λ told.
    let at = (opened.opened told).1 in
    subst (λ n. DoesCondense host n (opened.opened told).0 mid closed r) opened.named (did.does (opened.opened told).0 told (record { listed_is = at.listed; kept = at.kept; readable = at.opens.readable })) in
    let since = λ (told : IsTrue host.is_told).
    condensing_since host store (opened.opened told).0 (status_in r) old mid closed new told (opened.only.quiet told) (does told).moments
    (λ f can. g.met.H.Host.counts_now closed (host.moment mid) f (host.said closed) told (does told).moments.later (can, refl)) reads in
    subst (λ (x : Status). CondenseEnds host store old new x) (sym is) (record {
      over = λ told. let at = (opened.opened told).1 in inr (record {
        commit = (opened.opened told).0;
        opens = at.opens;
        opened = mid;
        meanwhile = opening_so host store (opened.opened told).0 old mid at.opens (opened.moments told);
        settled = λ ready. settled_from host store (opened.opened told).0 o.store.chosen o.store.root.slot old mid (λ f s left. g.met.H.Host.only_now mid f s told left) (λ n. g.met.H.Host.read_counts mid n told) at.opens
            (subst (λ n. IsChosen host mid n o.store.chosen (stored_of o.store.root.slot (opened.opened told).0)) opened.named at.kept.is) (opened.settles told ready);
        moments = since told;
        has = condense_has host store (opened.opened told).0 r old mid closed new told did.kind (does told).has (opened.only.quiet told) (omega (arith, opened.only.say, did.counts.say)) reads said;
      });
      whole = λ told k rest.
          let at = (opened.opened told).1 in
          let here : (n : List ℕ) → host.may_leave old n (host.files old n) = λ n. g.met.H.Host.read_counts old n told in
          let same = same_commit store (opened.opened told).0 k (host.files old) at.opens (rest.opens_as (host.files old) here) in
          condensing_whole host store (opened.opened told).0 k (status_in r) old mid new same rest here (opened.moments told) (since told);
      complete = λ told k q whole calm. done_or_full host old new r did.kind cause calm;
      kind = kind_in (IsTrue host.is_told) store (host.files old) r did.kind;
      spares = names_said host store store (IsNoFileOf store) _ old closed new
          (spares_join host (IsNoFileOf store) old mid closed opened.spares (subst (λ n. Spares host (IsNoFileOf n) mid closed) opened.named did.spares))
          line.alike line.reads;
    })

pub returns-in-Err-clause-ends : goal.returns-in-Err-clause-ends
returns-in-Err-clause-ends g c =
    let store = c.args.store.now in
    let opened = c.in-Err.ensures in
    let line = c.refuse_opening.ensures in
    let old = c.args.host.now in
    let new = c.refuse_opening.new.host in
    let refused = λ (told : IsTrue g.H.Host.is_told). refused_so g.H.Host store c.in-Err.fault c.refuse_opening.result c.args.host.now c.reopen.new.host c.refuse_opening.new.host line.status
    (opened.refused told) opened.only (opened.moments told) (opened.leaves told) (opened.rests told) opened.synced (opened.settles told) opened.spares told line.line line.reads line.alike in
    record {
      over = λ told. inl (refused told);
      whole = λ told k rest. refused_whole_moments g.H.Host store k c.refuse_opening.result old new rest (λ n. g.met.H.Host.read_counts old n told) (refused told).moments;
      complete = λ told k q whole calm. refused_complete store (g.H.Host.files c.args.host.now) k whole.opens g.H.Host c.args.host.now c.reopen.new.host c.refuse_opening.new.host q c.in-Err.fault c.refuse_opening.result line.status whole.reopens opened.kind (opened.refused told) opened.cause line.disk calm.disk;
      kind = subst (IsOfExport (IsTrue g.H.Host.is_told) store (g.H.Host.files old)) (sym line.status) (kind_unopened (IsTrue g.H.Host.is_told) store (g.H.Host.files old) c.in-Err.fault opened.kind opened.refused);
      spares = names_said g.H.Host store store (IsNoFileOf store) _ old c.reopen.new.host new opened.spares line.alike line.reads;
    }

pub returns-in-Err-clause-cause : goal.returns-in-Err-clause-cause
returns-in-Err-clause-cause g c =
    refused_cause g.H.Host ⊥ c.args.host.now c.reopen.new.host c.refuse_opening.new.host c.in-Err.fault c.refuse_opening.result c.refuse_opening.ensures.status c.in-Err.ensures.kind c.in-Err.ensures.cause c.refuse_opening.ensures.disk
