use Rattle.std.proofs.Common.{◌≡◌, inr, ℕ, List, IsTrue, sym, subst, arith}
use Rattle.std.proofs.lemmas.Result.{err_from_is_err_and}
use Rattle.st_host.specs.Files.{Files}
use Rattle.st_host.proofs.Joining.{reads_narrow, narrows_join}
use Rattle.st_model.specs.Image.{image_head}
use Rattle.st_image.specs.inside.Reading.{IsStart}
use Rattle.st_store.specs.Stored.{IsOpening, stored_in}
use Rattle.st_changes.specs.Lists.{Lists}
use Rattle.st_recover.specs.Openings.{IsReadable, by_store}
use Rattle.st_recover.proofs.Refusing.{store_refuses, store_kind, no_disk, roots_refuse, store_unnamed, store_cause, cause_behind, image_kind, image_no_roots, image_refuses, changes_kind, changes_no_roots, changes_refuse}
use Rattle.st_recover.proofs.Fetching.{image_is, changes_are, kept_on, left_reading, rests_as_read, but_reading, spares_image, spares_changes}
use Rattle.st_store.proofs.Settling.{settled_more, settled_maybe}
use Rattle.st_recover.proofs.reopening.fetch.Goals as goal

pub returns-in_err-store : goal.returns-in_err-store
returns-in_err-store g c =
    let H = g.H.Host in
    let a = c.args.host.now in
    let b = c.open_store.new.host in
    let name = c.args.name.now in
    let opened = c.open_store.ensures in
    let fault = c.in_err-store.field-0.0 in
    let failed = c.in_err-store.ensures in
    let p = err_from_is_err_and c.from_residual.result c.from_residual.ensures.1 in
    rw (p.1, p.2) (record {
      named = tt;
      frame = tt;
      quiet = tt;
      fetched = tt;
      refused = λ told. store_refuses name (H.files a) fault (failed.refused told);
      kind = store_kind fault failed.kind;
      writes_nothing = λ roots. failed.writes_nothing (no_disk fault roots);
      synced = λ roots. failed.synced (roots_refuse fault roots);
      rests = λ told named. absurd (store_unnamed fault failed.kind named);
      moments = opened.moments;
      settles = failed.settles;
      only = opened.only;
      spares = opened.spares;
      cause = store_cause H a b fault failed.cause;
    })

pub returns-in_err-loaded : goal.returns-in_err-loaded
returns-in_err-loaded g c =
    let H = g.H.Host in
    let a = c.args.host.now in
    let b = c.open_store.new.host in
    let name = c.args.name.now in
    let opened = c.open_store.ensures in
    let m = c.read_image.new.host in
    let store = c.in_ok-store.store in
    let x = stored_in name (H.files a) store.root in
    let kept = c.in_ok-store.ensures.kept in
    let at = λ (told : IsTrue H.is_told). image_is H store x b told (kept told) (λ n. g.met.H.Host.read_counts b n told) in
    let P : Files → List ℕ → Type 0 = λ f s. (s ≡ H.said a) × IsOpening H a name f in
    let seen = λ (told : IsTrue H.is_told). left_reading H P a b (λ f s le here. g.met.H.Host.counts_now b (H.moment a) f s told le here) in
    let spared = spares_image H name store.name store.root.slot a b m c.in_ok-store.ensures.named opened.spares c.read_image.ensures.only in
    let fault = c.in_err-loaded.field-0.0 in
    let failed = c.in_err-loaded.ensures in
    let p = err_from_is_err_and c.from_residual-in_err-loaded.result c.from_residual-in_err-loaded.ensures.1 in
    rw (p.1, p.2) (record {
      named = tt;
      frame = tt;
      quiet = tt;
      fetched = tt;
      refused = λ told. image_refuses name (H.files a) store (c.in_ok-store.ensures.opens told) _ (at told) fault (failed.refused told);
      kind = image_kind fault failed.kind;
      writes_nothing = λ roots. absurd (image_no_roots fault failed.kind roots);
      synced = λ roots. absurd (image_no_roots fault failed.kind roots);
      rests = λ told named y opens. rests_as_read H name store x a m y told c.in_ok-store.ensures.named (c.in_ok-store.ensures.opens told) opens (kept_on H store x b m told (reads_narrow H b m c.read_image.ensures.reads) (kept told));
      moments = λ told. seen told m told (opened.moments told) (reads_narrow H b m c.read_image.ensures.reads);
      settles = λ told ready. inr (settled_maybe H name a m (settled_more H name a b told m (c.in_ok-store.ensures.settled told ready) (reads_narrow H b m c.read_image.ensures.reads)));
      only = but_reading H name a b m opened.only (reads_narrow H b m c.read_image.ensures.reads);
      spares = spared;
      cause = cause_behind H a b m fault opened.only.disk failed.cause;
    })

pub returns-in_err-changes : goal.returns-in_err-changes
returns-in_err-changes g c =
    let H = g.H.Host in
    let a = c.args.host.now in
    let b = c.open_store.new.host in
    let name = c.args.name.now in
    let opened = c.open_store.ensures in
    let m = c.read_image.new.host in
    let store = c.in_ok-store.store in
    let x = stored_in name (H.files a) store.root in
    let kept = c.in_ok-store.ensures.kept in
    let at = λ (told : IsTrue H.is_told). image_is H store x b told (kept told) (λ n. g.met.H.Host.read_counts b n told) in
    let P : Files → List ℕ → Type 0 = λ f s. (s ≡ H.said a) × IsOpening H a name f in
    let seen = λ (told : IsTrue H.is_told). left_reading H P a b (λ f s le here. g.met.H.Host.counts_now b (H.moment a) f s told le here) in
    let spared = spares_image H name store.name store.root.slot a b m c.in_ok-store.ensures.named opened.spares c.read_image.ensures.only in
    let d = c.read_listing.new.host in
    let narrows = narrows_join H b m d (reads_narrow H b m c.read_image.ensures.reads) (reads_narrow H m d c.read_listing.ensures.reads) in
    let readable = λ (told : IsTrue H.is_told). subst IsReadable (at told) (c.in_ok-loaded.ensures.readable told) in
    let bytes = λ (told : IsTrue H.is_told). changes_are H store x b told (kept told) (λ n. g.met.H.Host.read_counts b n told) m c.in_ok-loaded.ensures.alike in
    let fault = c.in_err-changes.field-0.0 in
    let failed = c.in_err-changes.ensures in
    let p = err_from_is_err_and c.from_residual-in_err-changes.result c.from_residual-in_err-changes.ensures.1 in
    rw (p.1, p.2) (record {
      named = tt;
      frame = tt;
      quiet = tt;
      fetched = tt;
      refused = λ told. changes_refuse name (H.files a) x _ (c.in_ok-store.ensures.opens told) (readable told) (bytes told) fault (failed.refused told);
      kind = changes_kind fault failed.kind;
      writes_nothing = λ roots. absurd (changes_no_roots fault failed.kind roots);
      synced = λ roots. absurd (changes_no_roots fault failed.kind roots);
      rests = λ told named y opens. rests_as_read H name store x a d y told c.in_ok-store.ensures.named (c.in_ok-store.ensures.opens told) opens (kept_on H store x b d told narrows (kept told));
      moments = λ told. seen told d told (opened.moments told) narrows;
      settles = λ told ready. inr (settled_maybe H name a d (settled_more H name a b told d (c.in_ok-store.ensures.settled told ready) narrows));
      only = but_reading H name a b d opened.only narrows;
      spares = spares_changes H name store.name store.root.slot a m d c.in_ok-store.ensures.named spared c.read_listing.ensures.only;
      cause = cause_behind H a m d (by_store fault) (omega (arith, opened.only.disk, c.read_image.ensures.reads.disk)) (store_cause H m d fault failed.cause);
    })

pub invariant_of-result : goal.invariant_of-result
invariant_of-result g c =
    let load = c.in_ok-changes.ensures in
    record {
      list_of = record {
        of_store = record { named = sym load.named; file = load.second; whole = load.whole };
        sound = c.in_ok-store.ensures.sound;
        good = load.good;
        stands = load.stands;
      };
    }

pub returns : goal.returns
returns g c =
    let H = g.H.Host in
    let a = c.args.host.now in
    let b = c.open_store.new.host in
    let name = c.args.name.now in
    let opened = c.open_store.ensures in
    let m = c.read_image.new.host in
    let store = c.in_ok-store.store in
    let x = stored_in name (H.files a) store.root in
    let kept = c.in_ok-store.ensures.kept in
    let at = λ (told : IsTrue H.is_told). image_is H store x b told (kept told) (λ n. g.met.H.Host.read_counts b n told) in
    let P : Files → List ℕ → Type 0 = λ f s. (s ≡ H.said a) × IsOpening H a name f in
    let seen = λ (told : IsTrue H.is_told). left_reading H P a b (λ f s le here. g.met.H.Host.counts_now b (H.moment a) f s told le here) in
    let spared = spares_image H name store.name store.root.slot a b m c.in_ok-store.ensures.named opened.spares c.read_image.ensures.only in
    let d = c.read_listing.new.host in
    let narrows = narrows_join H b m d (reads_narrow H b m c.read_image.ensures.reads) (reads_narrow H m d c.read_listing.ensures.reads) in
    let readable = λ (told : IsTrue H.is_told). subst IsReadable (at told) (c.in_ok-loaded.ensures.readable told) in
    let bytes = λ (told : IsTrue H.is_told). changes_are H store x b told (kept told) (λ n. g.met.H.Host.read_counts b n told) m c.in_ok-loaded.ensures.alike in
    let load = c.in_ok-changes.ensures in
    record {
      named = c.in_ok-store.ensures.named;
      frame = c.in_ok-loaded.ensures.frame;
      quiet = c.in_ok-loaded.ensures.quiet;
      fetched = λ told. record {
        opens = c.in_ok-store.ensures.opens told;
        kept = kept_on H store x b d told narrows (kept told);
        readable = readable told;
        start = subst (λ i. IsStart (image_head i) i (g.L.Done.Memory.view c.in_ok-loaded.loaded.memory) c.in_ok-loaded.loaded.frame) (at told) (c.in_ok-loaded.ensures.start told);
        lists = subst (λ y. Lists y store.root.base c.in_ok-changes.changes.listed) (bytes told) (load.listed told);
      };
      refused = tt;
      kind = tt;
      writes_nothing = tt;
      synced = tt;
      rests = tt;
      moments = λ told. seen told d told (opened.moments told) narrows;
      settles = λ told ready. inr (settled_maybe H name a d (settled_more H name a b told d (c.in_ok-store.ensures.settled told ready) narrows));
      only = but_reading H name a b d opened.only narrows;
      spares = spares_changes H name store.name store.root.slot a m d c.in_ok-store.ensures.named spared c.read_listing.ensures.only;
      cause = tt;
    }
