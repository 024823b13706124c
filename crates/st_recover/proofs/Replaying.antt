-- A replay as far as it is done: what is left gives, behind what is answered so far, what the whole gives.
use Rattle.std.proofs.Common.{◌≡◌, ◌≤◌, ◌+◌, ◌∙◌, ℕ, suc, List, [], ◌∷◌, ◌++◌, length, take, drop, refl, sym, ap, subst, append_assoc, arith, length-append}
use Rattle.std.proofs.lemmas.List.{append-nil, map-append, take_at, drop_at}
use Rattle.st_model.specs.Machine.{State, World}
use Rattle.st_model.specs.Births.{Births}
use Rattle.st_model.specs.Table.{Table}
use Rattle.st_model.specs.Show.{Shows}
use Rattle.st_model.specs.View.{View}
use Rattle.st_frames.specs.declared.frame.Frame.{Frame}
use Rattle.st_frames.specs.inside.Shown.{IsReady, shown}
use Rattle.st_chunk.specs.Definitions.{Definition, entries}
use Rattle.st_protocol.specs.Installing.{Install, Installed, Refused, Accepted}
use Rattle.st_protocol.specs.inside.Installations.{InstallsAs, Unchanged}
use Rattle.st_protocol.specs.declared.installation.Installation.{Installation}
use Rattle.st_protocol.specs.declared.installation.Installation.TheVariants as installation
use Rattle.st_protocol.specs.declared.refusal.Refusal.{Refusal}
use Rattle.st_recover.specs.declared.opened.Lost.{Lost}
use Rattle.st_recover.specs.declared.replay.Replay.{Replay}
use Rattle.st_recover.specs.Replays.{Loss, Replayed, replay, replay_one}
use Rattle.st_recover.specs.inside.Replayings.{loss_of, losses_of, ReplaysAs, ReplaysFrom, Notes}

-- what is answered so far, and then this
abbrev pub behind : Replay → Replayed → Replayed
behind so_far r = record { state = r.state; count = so_far.count + r.count; lost = losses_of so_far.lost.items ++ r.lost }

pub record IsUnderway (install : Install) (whole : Replayed) (so_far : Replay) (n : ℕ) (rest : List Definition) (c : State Table) : Type 0 where
  pub state : State Births
  pub shows : Shows c state
  pub is : behind so_far (replay install state n rest) ≡ whole

replay_none : (install : Install) (s : State Births) (n : ℕ) → replay install s n [] ≡ record { state = s; count = 0; lost = [] }
unfolding replay
replay_none install s n = refl

replay_more : (install : Install) (s : State Births) (n : ℕ) (d : Definition) (ds : List Definition)
    → replay install s n (d ∷ ds) ≡ replay_one (suc n) s (install d s) (λ t. replay install t (suc n) ds)
unfolding replay
replay_more install s n d ds = refl

abbrev lost_of : ℕ → Refusal → Lost
lost_of n why = record { number = n; why = why }

abbrev loss : ℕ → Refusal → Loss
loss n why = record { number = n; why = why }

abbrev answer : State Births → ℕ → List Loss → Replayed
answer s n ls = record { state = s; count = n; lost = ls }

same_replayed : (s : State Births) (a b : ℕ) (l m : List Loss) → a ≡ b → l ≡ m → answer s a l ≡ answer s b m
same_replayed s a b l m e f = rw (e, f) refl

-- nothing is answered yet
pub underway_none : (install : Install) (s : State Births) (none : Replay) (n : ℕ) (ds : List Definition) (c : State Table) → none.count ≡ 0 → none.lost.items ≡ []
    → Shows c s → IsUnderway install (replay install s n ds) none n ds c
underway_none install s none n ds c zero empty shows =
    let r = replay install s n ds in
    record {
      state = s;
      shows = shows;
      is = same_replayed r.state (none.count + r.count) r.count (losses_of none.lost.items ++ r.lost) r.lost (omega (arith, zero)) (ap (λ ls. losses_of ls ++ r.lost) empty);
    }

-- all is answered
pub underway_all : (install : Install) (whole : Replayed) (answered : Replay) (n : ℕ) (c : State Table) → IsUnderway install whole answered n [] c → ReplaysAs whole answered c
underway_all install whole answered n c u =
    let e : behind answered (record { state = u.state; count = 0; lost = [] }) ≡ whole = ap (behind answered) (sym (replay_none install u.state n)) ∙ u.is in
    record {
      shows = subst (λ (r : Replayed). Shows c r.state) e u.shows;
      count = let counts : answered.count + 0 ≡ whole.count = ap (λ (r : Replayed). r.count) e in omega (arith, counts);
      lost = sym (append-nil (losses_of answered.lost.items)) ∙ ap (λ (r : Replayed). r.lost) e;
    }

module _ (install : Install) (whole : Replayed) (so_far after : Replay) (n : ℕ) (d : Definition) (ds : List Definition) (old new : View) (c now : State Table) where
  -- one definition more
  pub underway_more : (came : Installation) → (old ≡ new → c ≡ now) → ((s : State Births) → Shows c s → InstallsAs (install d s) came now) → Unchanged came old new
      → Notes (n + 1) came so_far after → IsUnderway install whole so_far n (d ∷ ds) c → IsUnderway install whole after (n + 1) ds now
  underway_more came same installs unchanged notes u =
      subst (λ k. IsUnderway install whole after k ds now) (sym next) (by_installed (install d u.state) came (installs u.state u.shows) unchanged notes (ap (behind so_far) (sym (replay_more install u.state n d ds)) ∙ u.is))
    where
      next : n + 1 ≡ suc n
      next = omega arith

      by_installed : (it : Installed) (came : Installation) → InstallsAs it came now → Unchanged came old new → Notes (n + 1) came so_far after
          → behind so_far (replay_one (suc n) u.state it (λ t. replay install t (suc n) ds)) ≡ whole → IsUnderway install whole after (suc n) ds now
      by_installed (Refused why) (installation.Accepted selector) it_is unchanged notes e = absurd it_is
      by_installed (Refused why) (installation.Refused cause) it_is unchanged notes e = record {
        state = u.state;
        shows = subst (λ (x : State Table). Shows x u.state) (same (sym unchanged)) u.shows;
        is = let r = replay install u.state (suc n) ds in
            same_replayed r.state (after.count + r.count) (so_far.count + r.count) (losses_of after.lost.items ++ r.lost) (losses_of so_far.lost.items ++ loss (suc n) why ∷ r.lost)
            (omega (arith, notes.0))
            (ap (λ ls. losses_of ls ++ r.lost) notes.1
            ∙ ap (λ ls. ls ++ r.lost) (map-append loss_of so_far.lost.items (lost_of (n + 1) cause ∷ []))
            ∙ append_assoc (losses_of so_far.lost.items) (loss (n + 1) cause ∷ []) r.lost
            ∙ ap (λ k. losses_of so_far.lost.items ++ loss k cause ∷ r.lost) next
            ∙ ap (λ w. losses_of so_far.lost.items ++ loss (suc n) w ∷ r.lost) it_is)
            ∙ e;
      }
      by_installed (Refused why) installation.OutOfMemory it_is unchanged notes e = absurd notes
      by_installed (Accepted name t) (installation.Accepted selector) it_is unchanged notes e = record {
        state = t;
        shows = it_is.1;
        is = let r = replay install t (suc n) ds in
            same_replayed r.state (after.count + r.count) (so_far.count + suc r.count) (losses_of after.lost.items ++ r.lost) (losses_of so_far.lost.items ++ r.lost)
            (omega (arith, notes.0))
            (ap (λ ls. losses_of ls ++ r.lost) notes.1)
            ∙ e;
      }
      by_installed (Accepted name t) (installation.Refused cause) it_is unchanged notes e = absurd it_is
      by_installed (Accepted name t) installation.OutOfMemory it_is unchanged notes e = absurd notes

-- what is replayed are the definitions from a place on
pub again : (install : Install) (listed front later : List Definition) (n : ℕ) (old new : View) (place : ℕ) (answered : Replay) → front ++ later ≡ listed → length front ≡ n
    → place ≡ length (entries front)
    → ((f : Frame) (w : World) (s : State Births) → IsReady old f w → Shows (shown old f w) s → ReplaysAs (replay install s n later) answered (shown new f w))
    → ReplaysFrom install listed place old new answered
again install listed front later n old new place answered all many is replays = record {
  before = n;
  within = omega (arith, ap length all, length-append front later, many);
  is = is ∙ ap (λ (ds : List Definition). length (entries ds)) (sym (ap (take n) (sym all) ∙ take_at front later n many));
  replays = λ f w s ready shows.
      subst (λ (ds : List Definition). ReplaysAs (replay install s n ds) answered (shown new f w)) (sym (ap (drop n) (sym all) ∙ drop_at front later n many)) (replays f w s ready shows);
}
