use Rattle.std.proofs.Common.{◌≢◌, IsTrue, inl, inr, sym, subst, arith}
use Rattle.st_host.proofs.Touching.{spares_join, spares_fewer}
use Rattle.st_store.specs.Names.{IsNoFileOf}
use Rattle.st_store.specs.Stored.{IsChosen}
use Rattle.st_recover.specs.Commits.{stored_of}
use Rattle.st_protocol.specs.declared.status.Status.{Status}
use Rattle.st_protocol.specs.Statuses.{StatusHasCause}
use Rattle.st_call.specs.LastLines.{SaysLastLine}
use Rattle.st_session.specs.Exports.{ExportsState, IsOfExport, ExportEnds}
use Rattle.st_session.proofs.Commanded.{refused_so, refused_cause, refused_complete, settled_from}
use Rattle.st_session.proofs.Exported.{cause_done, done_or_full, kind_in, kind_unopened, export_has, exported_meanwhile, exported_rests, exported_settled, exported_stays, refused_stays, names_said}
use Rattle.st_session.proofs.exporting.export.Goals as goal

pub returns-in-Ok-clause-cause : goal.returns-in-Ok-clause-cause
returns-in-Ok-clause-cause g c =
    cause_done g.H.Host c.args.store.now _ c.args.host.now c.reopen.new.host c.export_loaded.new.host c.report_status.new.host c.export_loaded.result c.status_of-status.result c.status_of-status.ensures c.in-Ok.ensures.only c.export_loaded.ensures.counts c.report_status.ensures.reads c.report_status.ensures.disk

pub returns-in-Ok-clause-ends : goal.returns-in-Ok-clause-ends
returns-in-Ok-clause-ends g c =
    let host = g.H.Host in
    let store = c.args.store.now in
    let image = c.args.image.now in
    let o = c.in-Ok.opened in
    let opened = c.in-Ok.ensures in
    let did = c.export_loaded.ensures in
    let line = c.report_status.ensures in
    let r = c.export_loaded.result in
    let old = c.args.host.now in
    let mid = c.reopen.new.host in
    let closed = c.export_loaded.new.host in
    let new = c.report_status.new.host in
    let is = c.status_of-status.ensures in
    let said = subst (λ (x : Status). SaysLastLine host x closed new) is line.line in
    let cause = subst (StatusHasCause host ⊥ old new) is (returns-in-Ok-clause-cause g c) in
    subst (λ (x : Status). ExportEnds host c.args.extent store image old new x) (sym is) (record {
      over = λ told. let at = (opened.opened told).1 in let d = (opened.opened told).0 in inr (record {
        commit = d;
        replayed = at.replayed;
        opened = record { opens = at.opens; reopens = at.reopens };
        has = export_has host store image (ExportsState c.args.extent at.replayed.state) r old mid closed new told did.kind (did.has at.replayed.state at.shows told)
            (λ apart. opened.spares.files told image apart) (opened.only.quiet told) (omega (arith, opened.only.say, did.counts.say)) line.alike said;
        meanwhile = λ apart. exported_meanwhile host store image d o.store o.store.root.slot _ old mid closed new apart at.opens opened.named at.kept told did.others line.reads (opened.moments told);
        rests = λ apart. exported_rests host store image d o.store o.store.root.slot _ old mid closed new apart at.opens opened.named at.kept told did.others line.reads;
        settled = λ apart ready. exported_settled host store image d o.store o.store.root.slot _ old mid closed new apart at.opens opened.named at.kept told did.others line.reads
            (settled_from host store d o.store.chosen o.store.root.slot old mid (λ f s left. g.met.H.Host.only_now mid f s told left) (λ n. g.met.H.Host.read_counts mid n told) at.opens
            (subst (λ n. IsChosen host mid n o.store.chosen (stored_of o.store.root.slot d)) opened.named at.kept.is) (opened.settles told ready));
      });
      stays = λ told apart k rest.
          let at = (opened.opened told).1 in
          exported_stays host store image k (opened.opened told).0 o.store o.store.root.slot _ old mid closed new apart rest (λ n. g.met.H.Host.read_counts old n told) at.opens opened.named at.kept told (opened.moments told) did.others line.reads;
      complete = λ told k q whole calm. done_or_full host old new r did.kind cause calm;
      kind = kind_in (IsTrue host.is_told) store (host.files old) r did.kind;
      spares = names_said host store image _ _ old closed new
          (spares_join host _ old mid closed (spares_fewer host (IsNoFileOf store) (λ n. IsNoFileOf store n × (n ≢ image)) old mid (λ n is. is.0) opened.spares)
          (spares_fewer host (λ n. n ≢ image) (λ n. IsNoFileOf store n × (n ≢ image)) mid closed (λ n is. is.1) did.others.spares))
          line.alike line.reads;
    })

pub returns-in-Err-clause-ends : goal.returns-in-Err-clause-ends
returns-in-Err-clause-ends g c =
    let store = c.args.store.now in
    let opened = c.in-Err.ensures in
    let line = c.refuse_opening.ensures in
    let old = c.args.host.now in
    let new = c.refuse_opening.new.host in
    let refused = λ (told : IsTrue g.H.Host.is_told). refused_so g.H.Host store c.in-Err.fault c.refuse_opening.result c.args.host.now c.reopen.new.host c.refuse_opening.new.host line.status
    (opened.refused told) opened.only (opened.moments told) (opened.leaves told) (opened.rests told) opened.synced (opened.settles told) opened.spares told line.line line.reads line.alike in
    record {
      over = λ told. inl (refused told);
      stays = λ told apart k rest. refused_stays g.H.Host store c.args.image.now k _ old c.reopen.new.host new rest (λ n. g.met.H.Host.read_counts old n told) (opened.moments told) (opened.leaves told) told line.reads;
      complete = λ told k q whole calm. refused_complete store (g.H.Host.files c.args.host.now) k whole.opens g.H.Host c.args.host.now c.reopen.new.host c.refuse_opening.new.host q c.in-Err.fault c.refuse_opening.result line.status whole.reopens opened.kind (opened.refused told) opened.cause line.disk calm.disk;
      kind = subst (IsOfExport (IsTrue g.H.Host.is_told) store (g.H.Host.files old)) (sym line.status) (kind_unopened (IsTrue g.H.Host.is_told) store (g.H.Host.files old) c.in-Err.fault opened.kind opened.refused);
      spares = names_said g.H.Host store c.args.image.now _ _ old c.reopen.new.host new (spares_fewer g.H.Host (IsNoFileOf store) (λ n. IsNoFileOf store n × (n ≢ c.args.image.now)) old c.reopen.new.host (λ n is. is.0) opened.spares) line.alike line.reads;
    }

pub returns-in-Err-clause-cause : goal.returns-in-Err-clause-cause
returns-in-Err-clause-cause g c =
    refused_cause g.H.Host ⊥ c.args.host.now c.reopen.new.host c.refuse_opening.new.host c.in-Err.fault c.refuse_opening.result c.refuse_opening.ensures.status c.in-Err.ensures.kind c.in-Err.ensures.cause c.refuse_opening.ensures.disk
