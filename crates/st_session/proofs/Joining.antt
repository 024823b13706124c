-- How one call joins the next.
use Rattle.std.proofs.Common.{◌≡◌, ◌⊎◌, ◌≤◌, inl, inr, ⊎_elim, ℕ, List, length, IsTrue, refl, sym, subst}
use Rattle.st_host.specs.Files.{Files, bytes_of}
use Rattle.st_host.specs.Runs.{IsAtRest}
use Rattle.st_host.specs.Stops.{Here}
use Rattle.st_host.specs.declared.host.Host.{Ghosts}
use Rattle.st_store.specs.Founding.{IsNoStore}
use Rattle.st_store.specs.Names.{roots_file}
use Rattle.st_store.specs.Roots.{HasLetters}
use Rattle.st_model.specs.Image.{image_head}
use Rattle.st_image.proofs.Begun.{begun}
use Rattle.st_install.specs.Defining.{installed}
use Rattle.st_recover.specs.Commits.{Commit, OpensAs}
use Rattle.st_recover.specs.Condensed.{IsCondensed}
use Rattle.st_recover.specs.Replays.{replay}
use Rattle.st_protocol.specs.declared.status.Status.{Status}
use Rattle.st_session.specs.declared.making.Origin.{Origin}
use Rattle.st_session.specs.Condensings.{IsWhole}
use Rattle.st_session.specs.Makings.{Contents, commit_of, IsBeingMade}
use Rattle.st_session.specs.inside.Joining.{BeginsWith, MayBegin, RestJoins, ReadyJoins, FailedJoins, MadeJoins, SessionJoins, FollowedJoins, RefusedJoins, ExportJoins, CondenseJoins, MakingJoins, BegunJoins}
use Rattle.st_session.proofs.Commanded.{opens_still}
use Rattle.st_session.proofs.Readied.{rest_ready, made_ready}

-- what some files open as can be begun with, where the store rests as it
rest_begins : {E : Type 0} (after : Ghosts E) (name : List ℕ) (c : Commit) (f : Files) (h : E) → OpensAs name c f → IsAtRest after (OpensAs name) c h → MayBegin after name c h
rest_begins after name c f h opens rest =
    let b = begun (image_head c.image) c.image opens.readable.formed in
    record {
      rest = rest;
      replayed = replay installed b.0 (length c.before) c.definitions;
      reopens = record { readable = opens.readable; births = b.0; begins = b.1; replays = refl };
    }

-- a host that begins with files rests as what they open as
opened_begins : {E : Type 0} (after : Ghosts E) (name : List ℕ) (c : Commit) (f : Files) (h : E) → OpensAs name c f → BeginsWith after h f → MayBegin after name c h
opened_begins after name c f h opens begins =
    rest_begins after name c f h opens (record { opens_as = λ x can. subst (λ (y : Files). OpensAs name c y) (λ i m. sym (begins m (x m) (can m)) i) opens })

-- what is read now may be left by a stop
pub rest_joins : {D : Type 0} (host : Ghosts D) → ((h : D) (n : List ℕ) → IsTrue host.is_told → host.may_leave h n (host.files h n)) → RestJoins host
rest_joins host reads name c h told rest = rest_begins host name c (host.files h) h (rest.opens_as (host.files h) (λ n. reads h n told)) rest

pub ready_joins : {D : Type 0} (host : Ghosts D) → ((h : D) (n : List ℕ) → IsTrue host.is_told → host.may_leave h n (host.files h n)) → ReadyJoins host
ready_joins host reads name c h told rest = rest_ready host h name c (λ n. reads h n told) rest

pub failed_joins : {D : Type 0} (host : Ghosts D) → FailedJoins host
failed_joins host name c h gate x can letters =
    let fewer = gate.behind.fewer in
    let at = gate.fails.ready x (fewer (roots_file name) x can) letters in
    let firm = at.3 in
    (at.0, at.1, at.2, record { sound = firm.sound; image = λ y may. firm.image y (fewer _ y may); changes = λ y may. firm.changes y (fewer _ y may) })

pub made_joins : {D : Type 0} (host : Ghosts D) → ((h : D) (n : List ℕ) → IsTrue host.is_told → host.may_leave h n (host.files h n))
    → ((h : D) (t : ℕ) (f : Files) (s : List ℕ) → IsTrue host.is_told → t ≤ host.moment h → Here (host.may_leave h) (host.said h) f s → host.left_since h t f s)
    → (origin : Origin) (right : Contents → Type 0) (wrong : Status → Type 0) → ((c d : Contents) → right c → right d → c ≡ d) → MadeJoins host origin right wrong
made_joins host reads counts origin right wrong one name old new told none moments = made_ready host new name commit_of right one (λ n. reads new n told)
    (λ f can letters. by f letters (moments.each f (host.said new) (counts new (host.moment old) f (host.said new) told moments.later (can, refl))).files)
  where
    by : (f : Files) → HasLetters (bytes_of (f (roots_file name))) → ((n : List ℕ) → host.may_leave old n (f n)) ⊎ IsBeingMade host origin right wrong name old f
        → (c : Contents) × right c × OpensAs name (commit_of c) f
    by f letters (inl could) = absurd (none (f (roots_file name)) (could (roots_file name)) letters)
    by f letters (inr made) = (made.0, made.1, ⊎_elim (λ no. absurd (no letters)) (λ opens. opens) made.3)

module _ {D E : Type 0} (host : Ghosts D) (after : Ghosts E) where
  pub session_joins : SessionJoins host after
  session_joins name commits old new status promise f s left h begins =
      let p = promise.moments.each f s left in
      (p, opened_begins after name p.commit f h p.opens_as begins)

  pub followed_joins : FollowedJoins host after
  followed_joins name script left old new status told at f s left_files h begins =
      let p = (at.ends.moments told).each f s left_files in
      (p, opened_begins after name p.commit f h p.opens_as begins)

  pub refused_joins : ((h : D) (n : List ℕ) → IsTrue host.is_told → host.may_leave h n (host.files h n)) → RefusedJoins host after
  refused_joins reads name c old new status told rest at f s left h begins =
      opened_begins after name c f h (opens_still host name old c rest (λ n. reads old n told) f (at.moments.each f s left).1) begins

  pub export_joins : ExportJoins host after
  export_joins name c old new stays f s left h begins = opened_begins after name c f h (stays.moments.each f s left) begins

  pub condense_joins : CondenseJoins host after
  condense_joins name c old new status moments f s left h begins = by (moments.each f s left)
    where
      by : IsWhole host name c old status f s → (d : Commit) × (IsCondensed c d ⊎ (d ≡ c)) × MayBegin after name d h
      by (inl is) = (is.commit, inl is.condenses, opened_begins after name is.commit f h is.opens_as begins)
      by (inr was) = (c, inr refl, opened_begins after name c f h was.0 begins)

  pub making_joins : (origin : Origin) (right : Contents → Type 0) (wrong : Status → Type 0) → MakingJoins host after origin right wrong
  making_joins origin right wrong name c old new moments is f s left said h begins =
      opened_begins after name (commit_of c) f h ((moments.each f s left).said c is said) begins

  pub begun_joins : (origin : Origin) (right : Contents → Type 0) (wrong : Status → Type 0) → BegunJoins host after origin right wrong
  begun_joins origin right wrong name old new moments f s left h begins = by (moments.each f s left).files
    where
      by : ((n : List ℕ) → host.may_leave old n (f n)) ⊎ IsBeingMade host origin right wrong name old f
          → ((n : List ℕ) → host.may_leave old n (f n)) ⊎ (IsNoStore (f (roots_file name)) ⊎ ((c : Contents) × right c × MayBegin after name (commit_of c) h))
      by (inl could) = inl could
      by (inr made) = inr (⊎_elim (λ none. inl none) (λ opens. inr (made.0, made.1, opened_begins after name (commit_of made.0) f h opens begins)) made.3)
