use Rattle.std.proofs.Common.{◌≡◌, ℕ, List, length, refl, sym, subst}
use Rattle.std.proofs.lemmas.Result.{err_from_is_err_and}
use Rattle.st_host.specs.Files.{Files}
use Rattle.st_model.specs.Objects.{nil}
use Rattle.st_model.specs.Machine.{empty_world}
use Rattle.st_store.specs.Stored.{IsOpening, stored_in}
use Rattle.st_store.specs.declared.root.Root.{Root}
use Rattle.st_store.proofs.Opening.{as_before}
use Rattle.st_chunk.specs.Definitions.{entries}
use Rattle.st_changes.specs.inside.States.{ChangesState}
use Rattle.st_changes.specs.Lists.{Lists}
use Rattle.st_install.specs.Defining.{installed}
use Rattle.st_recover.specs.inside.Archives.{IsListOf}
use Rattle.st_recover.specs.inside.Replayings.{ReplaysFrom}
use Rattle.st_recover.proofs.Fetching.{left_now}
use Rattle.st_recover.proofs.Restoring.{ready_empty, quiet_empty, commit_at, reopened}
use Rattle.st_recover.proofs.reopening.reopen.Goals as goal

pub returns-in_err-loaded : goal.returns-in_err-loaded
returns-in_err-loaded g c =
    let H = g.H.Host in
    let a = c.args.host.now in
    let d = c.fetch.new.host in
    let fetch = c.fetch.ensures in
    let P : Files → List ℕ → Type 0 = λ f s. (s ≡ H.said a) × IsOpening H a c.args.name.now f in
    let failed = c.in_err-loaded.ensures in
    let p = err_from_is_err_and c.from_residual.result c.from_residual.ensures.1 in
    rw (p.1, p.2) (record {
      opened = tt;
      named = tt;
      frame = tt;
      quiet = tt;
      refused = failed.refused;
      kind = failed.kind;
      writes_nothing = failed.writes_nothing;
      synced = failed.synced;
      rests = failed.rests;
      moments = fetch.moments;
      leaves = λ told f can. (left_now H P a d (λ f s le here. g.met.H.Host.counts_now d (H.moment a) f s told le here) (fetch.moments told) f (H.said d) (can, refl)).1;
      as_before = λ told firmly. as_before H c.args.name.now a d (λ n. g.met.H.Host.read_counts a n told) firmly (fetch.moments told);
      settles = fetch.settles;
      only = fetch.only;
      spares = fetch.spares;
      cause = failed.cause;
    })

pub returns-in_err-replay : goal.returns-in_err-replay
returns-in_err-replay g c =
    let H = g.H.Host in
    let a = c.args.host.now in
    let d = c.fetch.new.host in
    let fetch = c.fetch.ensures in
    let P : Files → List ℕ → Type 0 = λ f s. (s ≡ H.said a) × IsOpening H a c.args.name.now f in
    let p = err_from_is_err_and c.from_residual-in_err-replay.result c.from_residual-in_err-replay.ensures.1 in
    rw (p.1, p.2) (record {
      opened = tt;
      named = tt;
      frame = tt;
      quiet = tt;
      refused = λ told. tt;
      kind = tt;
      writes_nothing = λ roots. absurd roots;
      synced = λ roots. absurd roots;
      rests = λ told named. absurd named;
      moments = fetch.moments;
      leaves = λ told f can. (left_now H P a d (λ f s le here. g.met.H.Host.counts_now d (H.moment a) f s told le here) (fetch.moments told) f (H.said d) (can, refl)).1;
      as_before = λ told firmly. as_before H c.args.name.now a d (λ n. g.met.H.Host.read_counts a n told) firmly (fetch.moments told);
      settles = fetch.settles;
      only = fetch.only;
      spares = fetch.spares;
      cause = tt;
    })

pub invariant_of-result : goal.invariant_of-result
invariant_of-result g c =
    let p = c.in_ok-loaded.field-0 in
    record { list_of = subst (IsListOf p.store) (sym c.in_ok-replay.ensures.indexed) p.list_of; few = c.in_ok-replay.ensures.few }

pub returns : goal.returns
returns g c =
    let H = g.H.Host in
    let a = c.args.host.now in
    let d = c.fetch.new.host in
    let fetch = c.fetch.ensures in
    let P : Files → List ℕ → Type 0 = λ f s. (s ≡ H.said a) × IsOpening H a c.args.name.now f in
    let view = g.L.Done.Memory.view in
    let name = c.args.name.now in
    let fetched = c.in_ok-loaded.ensures in
    let p = c.in_ok-loaded.field-0 in
    let answered = c.in_ok-replay.replay in
    let changes = c.in_ok-replay.changes in
    let was = view p.loaded.memory in
    let now = view c.install_again.new.m in
    let ready = c.install_again.ensures.ready p.loaded.frame (empty_world nil) (ready_empty was p.loaded.frame fetched.frame fetched.quiet) in
    let same : p.changes ≡ changes = sym c.in_ok-replay.ensures.indexed in
    let at : ReplaysFrom installed p.changes.listed p.store.root.base was now answered =
    subst (λ (r : Root). ReplaysFrom installed p.changes.listed r.base was now answered) c.root-base.ensures c.in_ok-replay.ensures.replays in
    let from : ReplaysFrom installed changes.listed p.store.root.base was now answered =
    subst (λ (x : ChangesState). ReplaysFrom installed x.listed p.store.root.base was now answered) same at in
    let whole : p.store.root.length ≡ length (entries changes.listed) = subst (λ (x : ChangesState). p.store.root.length ≡ length (entries x.listed)) same p.list_of.of_store.whole in
    record {
      opened = λ told. (
        commit_at (stored_in name (H.files a) p.store.root).image changes.listed from.before,
        reopened H installed view name a d _ was (fetched.fetched told).opens (fetched.fetched told).kept (fetched.fetched told).readable (fetched.fetched told).start
            (subst (λ (x : ChangesState). Lists (stored_in name (H.files a) p.store.root).changes p.store.root.base x.listed) same (fetched.fetched told).lists) whole fetched.quiet from,
      );
      named = fetched.named;
      frame = ready.frame;
      quiet = quiet_empty now p.loaded.frame ready;
      refused = tt;
      kind = tt;
      writes_nothing = tt;
      synced = tt;
      rests = tt;
      moments = fetch.moments;
      leaves = λ told f can. (left_now H P a d (λ f s le here. g.met.H.Host.counts_now d (H.moment a) f s told le here) (fetch.moments told) f (H.said d) (can, refl)).1;
      as_before = λ told firmly. as_before H c.args.name.now a d (λ n. g.met.H.Host.read_counts a n told) firmly (fetch.moments told);
      settles = fetch.settles;
      only = fetch.only;
      spares = fetch.spares;
      cause = tt;
    }
