-- A store that is held is held while bytes are said.
use Rattle.std.proofs.Common.{ℕ, List, IsTrue}
use Rattle.std.specs.Prelude.{Option}
use Rattle.st_host.specs.Runs.{IsAtRest}
use Rattle.st_host.specs.inside.Telling.{Says}
use Rattle.st_host.specs.declared.host.Host.{Ghosts}
use Rattle.st_store.specs.Names.{roots_file, changes_file, image_file}
use Rattle.st_store.specs.Stored.{Stored, StoreState, IsKept}
use Rattle.st_store.proofs.Turning.{rests}
use Rattle.st_recover.specs.inside.Archives.{ArchiveState, Holds, store_of}
use Rattle.st_recover.specs.Commits.{Commit, OpensAs, stored_of}

module _ {D : Type 0} (host : Ghosts D) where
  -- where a stop leaves no more, the store is kept
  still_kept : (old new : D) → ((n : List ℕ) (c : Option (List ℕ)) → host.may_leave new n c → host.may_leave old n c) → (st : StoreState) (s : Stored) → IsKept host old st s → IsKept host new st s
  still_kept old new fewer st s h = record {
    root = h.root;
    is = record {
      which = h.is.which;
      roots = λ c can. h.is.roots c (fewer (roots_file st.name) c can);
      firm = record {
        sound = h.is.firm.sound;
        image = λ c can. h.is.firm.image c (fewer (image_file st.name s.root.slot) c can);
        changes = λ c can. h.is.firm.changes c (fewer (changes_file st.name s.root.slot) c can);
      };
    };
  }

  pub holds_said : {old new : D} {text : List ℕ} (a : ArchiveState) (c : Commit) → Says host text old new → Holds host old a c → Holds host new a c
  holds_said {old = old} {new = new} a c says h = record {
    chosen = h.chosen;
    slot = h.slot;
    store = h.store;
    listed = h.listed;
    good = h.good;
    kept = λ told. still_kept old new (says.part.stops told).fewer (store_of a.name h.chosen h.slot c) (stored_of h.slot c) (h.kept told);
    readable = h.readable;
  }

  -- each state that a stop may leave opens as what is held
  pub holds_rest : {now : D} (a : ArchiveState) (c : Commit) → Holds host now a c → IsTrue host.is_told → IsAtRest host (OpensAs a.name) c now
  holds_rest {now = now} a c h told = record { opens_as = λ f can. record { slot = h.slot; opens = rests host a.name now h.chosen (stored_of h.slot c) f (h.kept told).is can; readable = h.readable; good = h.good } }
