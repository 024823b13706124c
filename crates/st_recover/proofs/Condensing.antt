-- What a commit opens as once its changes are condensed.
use Rattle.std.proofs.Common.{◌≡◌, Bool, ℕ, suc, List, [], ◌∷◌, ◌++◌, length, refl, sym, ap, ◌∙◌, subst}
use Rattle.std.specs.Prelude.{All, Result}
use Rattle.std.proofs.lemmas.List.Elements.{All-nil, All-append}
use Rattle.st_host.specs.Runs.{Makes}
use Rattle.st_host.specs.declared.host.Host.{Ghosts}
use Rattle.st_store.specs.Stored.{Opens}
use Rattle.st_model.specs.Births.{Births, births}
use Rattle.st_model.specs.Machine.{State, Went}
use Rattle.st_model.specs.Image.{image_head}
use Rattle.st_model.specs.Start.{begin}
use Rattle.st_chunk.specs.Definitions.{Definition, IsDefinition, entries}
use Rattle.st_protocol.specs.Installing.{Install, Installed, Refused, Accepted}
use Rattle.st_changes.specs.Condensing.{Stays, Condenses, condensed, turned}
use Rattle.st_changes.specs.Condensing as stays
use Rattle.st_changes.specs.Last.{IsNowhere, IsLastText}
use Rattle.st_changes.proofs.KeptLast.{condensed_alike, all_tail, all_cons, all_head}
use Rattle.st_changes.proofs.Superseding.{stays_one}
use Rattle.st_recover.specs.Commits.{Commit, OpensAs, all_of, stored_of}
use Rattle.st_recover.specs.Condensed.{IsCondensed, ReplaysAlike}
use Rattle.st_recover.specs.Images.{IsReadable}
use Rattle.st_recover.specs.Openings.{Reopens}
use Rattle.st_recover.specs.Replays.{Replayed, replay, replay_one}
use Rattle.st_recover.proofs.Commits.{IsOpenable, makes_commit}
use Rattle.st_recover.proofs.Determined.{one_cut}

-- definitions that stand behind others in their changes file come to the same
pub renumbered : (install : Install) (ds : List Definition) (s : State Births) (n m : ℕ) → ReplaysAlike (replay install s n ds) (replay install s m ds)
unfolding replay
renumbered install [] s n m = record { state = refl; count = refl; lost = refl }
renumbered install (d ∷ ds) s n m = one (install d s) (λ t. renumbered install ds t (suc n) (suc m))
  where
    one : (i : Installed) → ((t : State Births) → ReplaysAlike (replay install t (suc n) ds) (replay install t (suc m) ds))
        → ReplaysAlike (replay_one (suc n) s i (λ t. replay install t (suc n) ds)) (replay_one (suc m) s i (λ t. replay install t (suc m) ds))
    one (Refused why) more = let r = more s in record { state = r.state; count = r.count; lost = ap (λ ws. why ∷ ws) r.lost }
    one (Accepted selector t) more = let r = more t in record { state = r.state; count = ap (λ k. suc k) r.count; lost = r.lost }

module _ (c d : Commit) (is : IsCondensed c d) where
  -- as a list that is condensed
  abbrev pub condenses : Condenses (all_of c) (length (entries c.before))
  condenses = record { front = c.before; behind = c.definitions; is = refl; place = refl; kept = d.before; stays = is.stays }

  all_is : d.before ++ c.definitions ≡ all_of d
  all_is = ap (λ (ds : List Definition). d.before ++ ds) (sym is.definitions)

  pub same_last : (class : List ℕ) (meta : Bool) (selector text : List ℕ) → IsLastText (all_of c) class meta selector text → IsLastText (all_of d) class meta selector text
  same_last class meta selector text last =
      subst (λ (ds : List Definition). IsLastText ds class meta selector text) all_is ((condensed_alike (all_of c) (length (entries c.before)) condenses).last class meta selector text last)

  pub same_nowhere : (class : List ℕ) (meta : Bool) (selector : List ℕ) → IsNowhere (all_of c) class meta selector → IsNowhere (all_of d) class meta selector
  same_nowhere class meta selector none =
      subst (λ (ds : List Definition). IsNowhere ds class meta selector) all_is ((condensed_alike (all_of c) (length (entries c.before)) condenses).nowhere class meta selector none)

  -- it opens as the same
  pub reopens_alike : (install : Install) (r : Replayed) → Reopens install c r → (q : Replayed) × Reopens install d q × ReplaysAlike r q
  reopens_alike install r opens =
      let q = replay install opens.births (length d.before) d.definitions in
      let again : ReplaysAlike (replay install opens.births (length c.before) c.definitions) (replay install opens.births (length d.before) c.definitions) = renumbered install c.definitions opens.births (length c.before) (length d.before) in (
        q,
        record {
          readable = subst IsReadable (sym is.image) opens.readable;
          births = opens.births;
          begins = subst (λ (i : List ℕ). begin (image_head i) i ≡ Went tt opens.births) (sym is.image) opens.begins;
          replays = refl;
        },
        subst (λ (x : Replayed). ReplaysAlike x q) (sym opens.replays)
            (subst (λ (ds : List Definition). ReplaysAlike (replay install opens.births (length c.before) c.definitions) (replay install opens.births (length d.before) ds)) (sym is.definitions) again),
      )

-- there is one such commit
pub one_condensed : (c d e : Commit) → IsCondensed c d → IsCondensed c e → d ≡ e
one_condensed c d e one two =
    let before = stays_one c.definitions c.before d.before e.before one.stays two.stays in
    λ i. record { image = (one.image ∙ sym two.image) i; before = before i; definitions = (one.definitions ∙ sym two.definitions) i }

-- what stays are definitions
stay_good : (rest ds ks : List Definition) → Stays rest ds ks → All IsDefinition ds → All IsDefinition ks
stay_good rest _ _ stays.none good = good
stay_good rest _ _ (stays.drops d ds ks s k) good = stay_good rest ds ks k (all_tail IsDefinition d ds good)
stay_good rest _ _ (stays.keeps d ds ks s k) good = all_cons IsDefinition d ks (all_head IsDefinition d ds good) (stay_good rest ds ks k (all_tail IsDefinition d ds good))

all_first : (xs ys : List Definition) → All IsDefinition (xs ++ ys) → All IsDefinition xs
all_first [] ys good = All-nil IsDefinition
all_first (x ∷ xs) ys good = all_cons IsDefinition x xs (all_head IsDefinition x (xs ++ ys) good) (all_first xs ys (all_tail IsDefinition x (xs ++ ys) good))

all_second : (xs ys : List Definition) → All IsDefinition (xs ++ ys) → All IsDefinition ys
all_second [] ys good = good
all_second (x ∷ xs) ys good = all_second xs ys (all_tail IsDefinition x (xs ++ ys) good)

-- so it can be opened
pub condensed_openable : (c d : Commit) → IsCondensed c d → IsOpenable c → IsOpenable d
condensed_openable c d is able = record {
  readable = subst IsReadable (sym is.image) able.readable;
  good = All-append IsDefinition d.before d.definitions (stay_good c.definitions c.before d.before is.stays (all_first c.before c.definitions able.good))
      (subst (λ (ds : List Definition). All IsDefinition ds) (sym is.definitions) (all_second c.before c.definitions able.good));
}

-- WHAT THE CODE CONDENSES

module _ (c : Commit) (listed : List Definition) (base : ℕ) (is : listed ≡ all_of c) (place : base ≡ length (entries c.before)) (z : Condenses listed base) where
  abbrev pub condensed_commit : Commit
  condensed_commit = record { image = c.image; before = z.kept; definitions = z.behind }

  parts : (z.front ≡ c.before) × (z.behind ≡ c.definitions)
  parts = one_cut z.front c.before z.behind c.definitions (sym z.is ∙ is) (sym z.place ∙ place)

  pub is_condensed : IsCondensed c condensed_commit
  is_condensed = record {
    image = refl;
    stays = subst (λ (xs : List Definition). Stays xs c.before z.kept) parts.1 (subst (λ (xs : List Definition). Stays z.behind xs z.kept) parts.0 z.stays);
    definitions = parts.1;
  }

  pub makes_condensed : {D R E : Type 0} (host : Ghosts D) (name : List ℕ) (slot : ℕ) (a b : D) (result : Result R E) → IsOpenable c
      → Makes host (Opens name) (stored_of slot c) (condensed (stored_of slot c) z) a b result → Makes host (OpensAs name) c condensed_commit a b result
  makes_condensed host name slot a b result able makes =
      makes_commit name host slot (turned slot) c condensed_commit a b result able (condensed_openable c condensed_commit is_condensed able) makes
