-- What a fault of the disk leaves of a store.
use Rattle.std.proofs.Common.{◌≡◌, inl, inr, ⊎_elim, ℕ, List, Option, IsTrue, refl, sym, subst, arith}
use Rattle.std.specs.Prelude.{◌⊎◌, Some, None, Result, Ok, Err, OnErr}
use Rattle.st_host.specs.Files.{Files, bytes_of}
use Rattle.st_host.specs.Stops.{Here}
use Rattle.st_host.specs.Runs.{Narrows, Syncs, IsAtRest, Makes}
use Rattle.st_host.specs.declared.host.Host.{Ghosts}
use Rattle.st_host.proofs.Joining.{weaker, moments_join, narrows_join}
use Rattle.st_host.proofs.Touching.{touches_none}
use Rattle.st_store.specs.Names.{roots_file}
use Rattle.st_store.specs.Roots.{HasLetters, Chooses}
use Rattle.st_store.specs.Stored.{Stored, Opens, IsChosen, IsReady}
use Rattle.st_store.specs.Founding.{IsNoStore, OpensMaybe}
use Rattle.st_store.specs.Faults.{SyncsFirst, OpensSince, HasSettled, Settles}
use Rattle.st_store.proofs.Turning.{came, opens_as, rests}
use Rattle.st_store.proofs.Determined.{one_stored}
use Rattle.st_store.proofs.Clearing.{letters_or_none}

-- a fact is a clause on an error
pub when_err : {R E : Type 0} (result : Result R E) (P : Type 0) → P → OnErr result P
when_err (Ok x) P holds = tt
when_err (Err e) P holds = holds

module _ {D : Type 0} (host : Ghosts D) where
  -- what could only be the one or the one is it
  pub kept_rest : {C R E : Type 0} (opens : C → Files → Type 0) (c : C) (old new : D) (result : Result R E) → Makes host opens c c old new result → IsAtRest host opens c new
  kept_rest opens c old new result run = record { opens_as = λ f can. ⊎_elim (λ o. o) (λ o. o) (run.either f can) }

  -- no call
  pub syncs_none : (file : List ℕ) (a : D) → (IsTrue host.is_told → (f : Files) (s : List ℕ) → host.left_since a (host.moment a) f s → Here (host.may_leave a) (host.said a) f s) → Syncs host file a a
  syncs_none file a only_now = record { run = touches_none host file (λ x y. x ≡ y) a (λ x. refl) (λ f s told left. only_now told f s left) }

  -- reads and syncs behind it
  pub first_more : (file : List ℕ) (a m d : D) → SyncsFirst host file a m → Narrows host m d → SyncsFirst host file a d
  first_more file a m d sync more = record { synced = sync.synced; first = sync.first; is = sync.is; behind = narrows_join host sync.synced m d sync.behind more }

  -- a store is a store or none
  pub settled_maybe : (name : List ℕ) (a m : D) → HasSettled host (Opens name) name a m → HasSettled host {C = Option Stored} (OpensMaybe name) name a m
  settled_maybe name a m at =
      let since = at.1 in
      (Some at.0, record { synced = since.synced; first = since.first; moments = since.moments; rest = record { opens_as = λ f can. since.rest.opens_as f can } })

  module _ (name : List ℕ) (a m : D) (told : IsTrue host.is_told) where
    -- The roots file that was synced has the letters, and each root that could be chosen names what is firm.
    settled : IsReady host a name → ((h : D) → host.may_leave h (roots_file name) (host.files h (roots_file name))) → (sync : SyncsFirst host (roots_file name) a m)
        → HasLetters (bytes_of (host.files sync.synced (roots_file name))) → HasSettled host (Opens name) name a m
    settled ready reads sync letters =
        let roots = roots_file name in
        let s = sync.synced in
        let could = came (host.may_leave a roots) (λ x y. x ≡ y) (host.may_leave a roots) (host.files s roots) (λ d was same. subst (host.may_leave a roots) same was)
        (sync.first.run.own told (host.files s roots) (reads s)) in
        let at = ready (host.files s roots) could letters in
        let c = at.1 in
        let opens : (f : Files) → ((n : List ℕ) → host.may_leave s n (f n)) → Opens name c f = λ f can.
        opens_as host name a c f at.0 at.3 (λ n other. (sync.first.run.others told).fewer n (f n) other (can n))
        (subst (λ (x : Option (List ℕ)). Chooses at.0 c.root x) (sym (sync.is.is told (f roots) (can roots))) at.2) in (
          c,
          record {
            synced = s;
            first = sync.first;
            moments = weaker host s m (λ f t. Opens name c f) (Here (host.may_leave s) (host.said s)) (sync.behind.moments told) (λ f t here. opens f here.0);
            rest = record { opens_as = λ f can. opens f (λ n. sync.behind.fewer told n (f n) (can n)) };
          },
        )

    -- it hasn't
    none_settled : (sync : SyncsFirst host (roots_file name) a m) → IsNoStore (host.files sync.synced (roots_file name)) → HasSettled host {C = Option Stored} (OpensMaybe name) name a m
    none_settled sync none =
        let s = sync.synced in
        let is : (f : Files) → ((n : List ℕ) → host.may_leave s n (f n)) → IsNoStore (f (roots_file name)) =
        λ f can. subst IsNoStore (sym (sync.is.is told (f (roots_file name)) (can (roots_file name)))) none in (
          None,
          record {
            synced = s;
            first = sync.first;
            moments = weaker host s m (λ f t. IsNoStore (f (roots_file name))) (Here (host.may_leave s) (host.said s)) (sync.behind.moments told) (λ f t here. is f here.0);
            rest = record { opens_as = λ f can. is f (λ n. sync.behind.fewer told n (f n) (can n)) };
          },
        )

    -- the other root and the gate are written
    settled_on : {R E : Type 0} (c : Stored) (k : ℕ) (x : Stored) (d : D) (result : Result R E) → ((n : List ℕ) → host.may_leave m n (host.files m n)) → OpensSince host (Opens name) name c a m → IsChosen host m name k x
        → Makes host (Opens name) x x m d result → OpensSince host (Opens name) name c a d
    settled_on c k x d result reads since chosen makes =
        let same : x ≡ c = one_stored name x c (host.files m) (rests host name m k x (host.files m) chosen reads) (since.rest.opens_as (host.files m) reads) in
        record {
          synced = since.synced;
          first = since.first;
          moments = moments_join host since.synced m d (λ f s. Opens name c f) (λ f s. (s ≡ host.said m) × (Opens name x f ⊎ Opens name x f)) since.moments makes.moments
              (λ f s so. subst (λ (y : Stored). Opens name y f) same (⊎_elim (λ o. o) (λ o. o) so.1));
          rest = record { opens_as = λ f can. subst (λ (y : Stored). Opens name y f) same (⊎_elim (λ o. o) (λ o. o) (makes.either f can)) };
        }

    -- while the roots file is looked at
    pub settles_looked : IsReady host a name → ((h : D) → host.may_leave h (roots_file name) (host.files h (roots_file name)))
        → Syncs host (roots_file name) a m ⊎ SyncsFirst host (roots_file name) a m → Settles host name a m
    settles_looked ready reads (inl begun) = inl begun
    settles_looked ready reads (inr sync) = inr (⊎_elim
        (λ letters. settled_maybe name a m (settled ready reads sync letters))
        (λ none. none_settled sync none)
        (letters_or_none (host.files sync.synced (roots_file name)) 8 (omega arith)))

    pub settles_on : {R E : Type 0} (k : ℕ) (x : Stored) (d : D) (result : Result R E) → IsReady host a name → ((h : D) (n : List ℕ) → host.may_leave h n (host.files h n))
        → SyncsFirst host (roots_file name) a m → IsChosen host m name k x → Makes host (Opens name) x x m d result → HasSettled host (Opens name) name a d
    settles_on k x d result ready reads sync chosen makes =
        let roots = roots_file name in
        let read = host.files m roots in
        let letters = subst (λ (y : Option (List ℕ)). HasLetters (bytes_of y)) (sync.is.is told read (sync.behind.fewer told roots read (reads m roots))) (chosen.roots read (reads m roots)).whole.letters in
        let at = settled ready (λ h. reads h roots) sync letters in
        (at.0, settled_on at.0 k x d result (reads m) at.1 chosen makes)

    -- reads and syncs behind it
    pub settled_more : (d : D) → HasSettled host (Opens name) name a m → Narrows host m d → HasSettled host (Opens name) name a d
    settled_more d at more =
        let since = at.1 in (
          at.0,
          record {
            synced = since.synced;
            first = since.first;
            moments = moments_join host since.synced m d (λ f s. Opens name at.0 f) (Here (host.may_leave m) (host.said m)) since.moments (more.moments told) (λ f s here. since.rest.opens_as f here.0);
            rest = record { opens_as = λ f can. since.rest.opens_as f (λ n. more.fewer told n (f n) (can n)) };
          },
        )

-- the same where the code has the name
pub settles_as : {D R E : Type 0} (host : Ghosts D) (n name : List ℕ) (a m : D) (told : IsTrue host.is_told) (k : ℕ) (x : Stored) (d : D) (result : Result R E) → n ≡ name → IsReady host a name
    → ((h : D) (j : List ℕ) → host.may_leave h j (host.files h j)) → SyncsFirst host (roots_file n) a m → IsChosen host m n k x → Makes host (Opens n) x x m d result → HasSettled host (Opens name) name a d
settles_as host n name a m told k x d result same ready reads first chosen makes = subst (λ (y : List ℕ). HasSettled host (Opens y) y a d) same
    (settles_on host n a m told k x d result (subst (λ (y : List ℕ). IsReady host a y) (sym same) ready) reads first chosen makes)
