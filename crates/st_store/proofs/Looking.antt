-- What a run of a few calls keeps, so that a longer one is proved by one more call.
use Rattle.std.proofs.Common.{◌≢◌, ℕ, List}
use Rattle.st_host.specs.Runs.{OnlyReads, Narrows, ChangesOneFile, Spares, Syncs, IsSynced}
use Rattle.st_host.specs.declared.host.Host.{Ghosts}
use Rattle.st_host.proofs.Joining.{reads_narrow, narrows_join}
use Rattle.st_host.proofs.Touching.{sync_changes, write_changes, cut_changes, changes_join, changes_spare, spares_join, both_begun, both_join, both_more}
use Rattle.st_store.specs.Faults.{SyncsFirst}
use Rattle.st_store.proofs.Settling.{first_more}

-- a run of writes and cuts
pub ruleset steps = (write_changes, cut_changes, changes_join, both_begun, both_join, both_more)

module _ {D : Type 0} (host : Ghosts D) where
  module _ (file : List ℕ) where
    -- A run that synced a file, and behind that read it.
    pub record LooksAt (old new : D) : Type 0 where
      pub narrows : Narrows host old new
      pub only : ChangesOneFile host file old new
      pub first : SyncsFirst host file old new

    pub looks_at : (a b d : D) → Narrows host a b → Syncs host file a b → IsSynced host file b → OnlyReads host b d → ChangesOneFile host file b d → LooksAt a d
    looks_at a b d narrows syncs synced reads changes =
        let behind = reads_narrow host b d reads in
        record {
          narrows = narrows_join host a b d narrows behind;
          only = changes_join host file a b d (sync_changes host file a b syncs) changes;
          first = record { synced = b; first = syncs; is = synced; behind = behind };
        }

    -- and read it once more
    pub looks_on : (a b d : D) → LooksAt a b → OnlyReads host b d → ChangesOneFile host file b d → LooksAt a d
    looks_on a b d run reads changes =
        let behind = reads_narrow host b d reads in
        record {
          narrows = narrows_join host a b d run.narrows behind;
          only = changes_join host file a b d run.only changes;
          first = first_more host file a b d run.first behind;
        }

  module _ (image changes : List ℕ) where
    -- A run that only reads and syncs, and leaves all but these two files alone.
    pub record LooksAtBoth (old new : D) : Type 0 where
      pub narrows : Narrows host old new
      pub spares : Spares host (λ n. (n ≢ image) × (n ≢ changes)) old new

    pub syncs_both : (a b d : D) → Narrows host a b → Syncs host image a b → Narrows host b d → Syncs host changes b d → LooksAtBoth a d
    syncs_both a b d narrows one still two =
        let names = λ (n : List ℕ). (n ≢ image) × (n ≢ changes) in
        record {
          narrows = narrows_join host a b d narrows still;
          spares = spares_join host names a b d (changes_spare host image names a b (λ n other. other.0) (sync_changes host image a b one))
              (changes_spare host changes names b d (λ n other. other.1) (sync_changes host changes b d two));
        }

    -- and read one of them
    pub both_read : (file : List ℕ) (a b d : D) → ((n : List ℕ) → (n ≢ image) × (n ≢ changes) → n ≢ file) → LooksAtBoth a b → OnlyReads host b d → ChangesOneFile host file b d → LooksAtBoth a d
    both_read file a b d other run reads touched =
        let names = λ (n : List ℕ). (n ≢ image) × (n ≢ changes) in
        record {
          narrows = narrows_join host a b d run.narrows (reads_narrow host b d reads);
          spares = spares_join host names a b d run.spares (changes_spare host file names b d other touched);
        }
