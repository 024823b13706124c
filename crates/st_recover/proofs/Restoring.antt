-- What is opened is one commit.
use Rattle.std.proofs.Common.{◌≡◌, ◌∙◌, ℕ, List, ◌++◌, length, take, drop, refl, sym, ap, subst, arith, length-take}
use Rattle.std.specs.Prelude.{All}
use Rattle.std.proofs.lemmas.List.{take-append-drop}
use Rattle.st_host.specs.Files.{bytes_of}
use Rattle.st_host.specs.declared.host.Host.{Ghosts}
use Rattle.st_model.specs.Objects.{nil}
use Rattle.st_model.specs.Machine.{empty_world}
use Rattle.st_model.specs.Image.{image_head}
use Rattle.st_model.specs.View.{View, no_devices}
use Rattle.st_frames.specs.inside.Shown.{IsFrame, IsReady, filled}
use Rattle.st_frames.specs.declared.frame.Frame.{Frame}
use Rattle.st_image.specs.inside.Reading.{IsStart}
use Rattle.st_chunk.specs.Definitions.{Definition, IsDefinition, entries}
use Rattle.st_store.specs.Names.{image_file}
use Rattle.st_store.specs.Stored.{Stored, Opens, IsKept, stored_in}
use Rattle.st_changes.specs.Lists.{Lists}
use Rattle.st_protocol.specs.Installing.{Install}
use Rattle.st_recover.specs.Commits.{Commit, stored_of}
use Rattle.st_recover.specs.Replays.{replay}
use Rattle.st_recover.specs.inside.Replayings.{ReplaysFrom}
use Rattle.st_recover.specs.Openings.{IsReadable}
use Rattle.st_recover.specs.inside.Reopened.{IsReopenedAs}
use Rattle.st_recover.specs.declared.opened.Opened.{Opened}

-- a memory that holds nothing but the registers is ready with an empty world
pub filled_empty : filled (empty_world nil).devices ≡ no_devices
unfolding no_devices
filled_empty = refl

pub ready_empty : (v : View) (f : Frame) → IsFrame v f → v.held.devices ≡ no_devices → IsReady v f (empty_world nil)
ready_empty v f frame quiet = record { frame = frame; devices = quiet ∙ sym filled_empty }

pub quiet_empty : (v : View) (f : Frame) → IsReady v f (empty_world nil) → v.held.devices ≡ no_devices
quiet_empty v f ready = ready.devices ∙ filled_empty

-- an image, and definitions of which so many stand before the base
abbrev pub commit_at : List ℕ → List Definition → ℕ → Commit
commit_at image listed n = record { image = image; before = take n listed; definitions = drop n listed }

abbrev stored_with : ℕ → ℕ → ℕ → ℕ → List ℕ → List ℕ → Stored
stored_with slot image_length base length image changes =
    record { root = record { slot = slot; image_length = image_length; base = base; length = length }; image = image; changes = changes }

pub stored_is : (x : Stored) (listed : List Definition) (n : ℕ) → length x.image ≡ x.root.image_length → x.root.base ≡ length (entries (take n listed))
    → x.root.length ≡ length (entries listed) → x.changes ≡ entries listed → stored_of x.root.slot (commit_at x.image listed n) ≡ x
stored_is x listed n long base whole is =
    let all = take-append-drop n listed in
    ap (λ k. stored_with x.root.slot k (length (entries (take n listed))) (length (entries (take n listed ++ drop n listed))) x.image (entries (take n listed ++ drop n listed))) long
    ∙ ap (λ k. stored_with x.root.slot x.root.image_length k (length (entries (take n listed ++ drop n listed))) x.image (entries (take n listed ++ drop n listed))) (sym base)
    ∙ ap (λ (ds : List Definition). stored_with x.root.slot x.root.image_length x.root.base (length (entries ds)) x.image (entries ds)) all
    ∙ ap (λ k. stored_with x.root.slot x.root.image_length x.root.base k x.image (entries listed)) (sym whole)
    ∙ ap (λ b. stored_with x.root.slot x.root.image_length x.root.base x.root.length x.image b) (sym is)

module _ {D M : Type 0} (host : Ghosts D) (install : Install) (view : M → View) (name : List ℕ) (a d : D) (o : Opened M) (was : View) where
  abbrev held : Stored
  held = stored_in name (host.files a) o.store.root

  pub reopened : Opens name held (host.files a) → IsKept host d o.store held → IsReadable held.image → IsStart (image_head held.image) held.image was o.loaded.frame
      → Lists held.changes o.store.root.base o.changes.listed → o.store.root.length ≡ length (entries o.changes.listed) → was.held.devices ≡ no_devices
      → (from : ReplaysFrom install o.changes.listed o.store.root.base was (view o.loaded.memory) (record { count = o.replayed; lost = o.lost }))
      → IsReopenedAs host install view name a d o (commit_at held.image o.changes.listed from.before)
  reopened opens kept readable start lists whole quiet from =
      let n = from.before in
      let listed = o.changes.listed in
      let slot = o.store.root.slot in
      let long : length held.image ≡ o.store.root.image_length = omega (arith, length-take o.store.root.image_length (bytes_of (host.files a (image_file name slot))), opens.image.long) in
      let same : stored_of slot (commit_at held.image listed n) ≡ held = stored_is held listed n long from.is whole lists.is in
      let all : take n listed ++ drop n listed ≡ listed = take-append-drop n listed in
      let at : length (take n listed) ≡ n = omega (arith, length-take n listed, from.within) in
      let replays = from.replays o.loaded.frame (empty_world nil) start.births (ready_empty was o.loaded.frame start.frame quiet) start.shows in
      record {
        opens = record {
          slot = slot;
          opens = subst (λ (s : Stored). Opens name s (host.files a)) (sym same) opens;
          readable = readable;
          good = subst (All IsDefinition) (sym all) lists.good;
        };
        listed = sym all;
        root = ap (λ (s : Stored). s.root) (sym same);
        kept = subst (λ (s : Stored). IsKept host d o.store s) (sym same) kept;
        replayed = replay install start.births n (drop n listed);
        reopens = record {
          readable = readable;
          births = start.births;
          begins = start.begins;
          replays = ap (λ k. replay install start.births k (drop n listed)) (sym at);
        };
        shows = replays.shows;
        count = replays.count;
        lost = replays.lost;
      }
