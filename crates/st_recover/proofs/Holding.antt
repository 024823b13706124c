-- What an archive holds goes on as its store and its list do.
use Rattle.std.proofs.Common.{◌≡◌, inl, ℕ, ◌-◌, Bool, List, [], ◌∷◌, ◌++◌, length, Option, IsTrue, sym, subst, ap, ◌∙◌, arith, length-append}
use Rattle.std.specs.Prelude.{All, Some, Result, IsErr, unwrap_or, nat_lt}
use Rattle.std.specs.Option.{ForSome}
use Rattle.std.proofs.lemmas.List.{append-nil}
use Rattle.st_host.specs.Runs.{WritesAbove, IsSynced, Makes}
use Rattle.st_host.specs.declared.host.Host.{Ghosts}
use Rattle.st_host.proofs.Joining.{makes_then, makes_failed}
use Rattle.st_chunk.specs.Definitions.{Definition, IsDefinition, entry, entries}
use Rattle.st_store.specs.Names.{image_file}
use Rattle.st_store.specs.Stored.{StoreState, Stored, Opens, IsFirm, IsKept}
use Rattle.st_store.specs.Faults.{RestsUnlessGate}
use Rattle.st_store.specs.declared.root.Root.{Root}
use Rattle.st_store.proofs.Settling.{kept_rest}
use Rattle.st_changes.specs.inside.States.{grown, next_store}
use Rattle.st_changes.proofs.ListTexts.{entries_more, all_more}
use Rattle.st_recover.specs.inside.Archives.{ArchiveState, IsStoreOf, store_of, Holds}
use Rattle.st_recover.specs.Images.{IsReadable}
use Rattle.st_recover.specs.Commits.{Commit, OpensAs, all_of, accepted, imaged, root_of, stored_of, other_image}
use Rattle.st_recover.proofs.Commits.{all_accepted, grown_accepted, next_accepted, root_imaged, makes_commit, held_openable, broken_commit}
use Rattle.st_recover.proofs.Beside.{same_pair, still_kept, written_makes, image_firm}

pub some_same : {x y : StoreState} → Some x ≡ Some y → x ≡ y
some_same {x = x} e = ap (λ (o : Option StoreState). unwrap_or o x) e

-- what is so of its store, as the code takes it
pub for_store : (store : Option StoreState) (st : StoreState) (P : StoreState → Type 0) → store ≡ Some st → P st → ForSome store P
for_store store st P there holds x is = subst P (some_same (sym there ∙ is)) holds

-- one entry more
pub store_grown : (name same : List ℕ) (second still : Bool) (ds es : List Definition) (d : Definition) (st next : StoreState) → IsStoreOf name second ds st → next ≡ next_store st (entry d) → same ≡ name → still ≡ second → es ≡ ds ++ d ∷ [] → IsStoreOf same still es next
store_grown name same second still ds es d st next was is named file listed =
    let long = ap (λ (s : StoreState). s.root.length) is in
    let more = ap (λ (fs : List Definition). length (entries fs)) listed in
    let last = ap length (entries_more ds d) ∙ length-append (entries ds) (entry d) in
    record { named = ap (λ (s : StoreState). s.name) is ∙ was.named ∙ sym named; file = file ∙ was.file ∙ sym (ap (λ (s : StoreState). nat_lt 1 s.root.slot) is); whole = omega (arith, long, more, last, was.whole) }

-- another image
pub store_imaged : (name : List ℕ) (second : Bool) (ds : List Definition) (st next : StoreState) → IsStoreOf name second ds st → next.name ≡ st.name → next.root.slot ≡ other_image st.root.slot
    → next.root.length ≡ st.root.length → IsStoreOf name second ds next
store_imaged name second ds st next was same slot long =
    record { named = same ∙ was.named; file = was.file ∙ sym (ap (λ n. nat_lt 1 n) slot ∙ same_pair st.root.slot); whole = long ∙ was.whole }

-- an archive holds a commit, and this is its store
module _ {D : Type 0} (host : Ghosts D) (a : D) (old : ArchiveState) (st : StoreState) (c : Commit) (holds : Holds host a old c) (there : old.store ≡ Some st) where
  store_is : st ≡ store_of old.name holds.chosen holds.slot c
  store_is = some_same (sym there ∙ holds.store)

  pub named : st.name ≡ old.name
  named = ap (λ (s : StoreState). s.name) store_is

  pub kept : IsTrue host.is_told → IsKept host a st (stored_of holds.slot c)
  kept told = subst (λ (s : StoreState). IsKept host a s (stored_of holds.slot c)) (sym store_is) (holds.kept told)

  -- ONE DEFINITION MORE

  all_good : (d : Definition) → IsDefinition d → All IsDefinition (all_of (accepted c d))
  all_good d good = subst (λ (ds : List Definition). All IsDefinition ds) (sym (all_accepted c d)) (all_more (all_of c) d holds.good good)

  pub accept_makes : {R E : Type 0} (d : Definition) (h : D) (result : Result R E) → IsDefinition d
      → ((x : Stored) → IsTrue host.is_told → IsKept host a st x → Makes host (Opens st.name) x (grown x (entry d)) a h result)
      → IsTrue host.is_told → Makes host (OpensAs old.name) c (accepted c d) a h result
  accept_makes {R = R} {E = E} d h result good makes told =
      let slot = holds.slot in
      makes_commit old.name host slot slot c (accepted c d) a h result (held_openable host a old c holds)
      (record { readable = holds.readable; good = all_good d good })
      (subst (λ (x : Stored). Makes {R = R} {E = E} host (Opens old.name) (stored_of slot c) x a h result) (grown_accepted slot c d)
      (subst (λ (n : List ℕ). Makes {R = R} {E = E} host (Opens n) (stored_of slot c) (grown (stored_of slot c) (entry d)) a h result) named
      (makes (stored_of slot c) told (kept told))))

  pub accept_broken : (h : D) → ((x : Stored) → IsTrue host.is_told → IsKept host a st x → RestsUnlessGate host (Opens st.name) st.name x h) → IsTrue host.is_told → RestsUnlessGate host (OpensAs old.name) old.name c h
  accept_broken h broken told = broken_commit host old.name st.name holds.slot c h (held_openable host a old c holds) named (broken (stored_of holds.slot c) told (kept told))

  pub accept_holds : (d : Definition) (h : D) (new : ArchiveState) (next : StoreState) → IsDefinition d → new.name ≡ old.name → new.store ≡ Some next → new.listed ≡ old.listed ++ d ∷ []
      → next ≡ next_store st (entry d) → ((x : Stored) → IsTrue host.is_told → IsKept host a st x → IsKept host h next (grown x (entry d))) → Holds host h new (accepted c d)
  accept_holds d h new next good same store listed is keeps =
      let slot = holds.slot in
      let next_is : next ≡ store_of new.name (1 - holds.chosen) slot (accepted c d) =
      is ∙ ap (λ (s : StoreState). next_store s (entry d)) store_is ∙ next_accepted old.name holds.chosen slot c d ∙ ap (λ (n : List ℕ). store_of n (1 - holds.chosen) slot (accepted c d)) (sym same) in
      record {
        chosen = 1 - holds.chosen;
        slot = slot;
        store = store ∙ ap Some next_is;
        listed = listed ∙ ap (λ (ds : List Definition). ds ++ d ∷ []) holds.listed ∙ sym (all_accepted c d);
        good = all_good d good;
        kept = λ told. subst (λ (s : StoreState). IsKept host h s (stored_of slot (accepted c d))) next_is
            (subst (λ (x : Stored). IsKept host h next x) (grown_accepted slot c d) (keeps (stored_of slot c) told (kept told)));
        readable = holds.readable;
      }

  -- A SNAPSHOT

  -- the root that is committed, and the file that the image is written to, which can be read
  module _ (b : D) (image file : List ℕ) (readable : IsReadable image) (root : Root) (at : ℕ) (at_is : at ≡ other_image st.root.slot) (file_is : file ≡ image_file st.name at)
      (writes : WritesAbove host 0 file a b) where
    slot_is : st.root.slot ≡ holds.slot
    slot_is = ap (λ (s : StoreState). s.root.slot) store_is

    file_at : file ≡ image_file st.name (other_image holds.slot)
    file_at = file_is ∙ ap (image_file st.name) (at_is ∙ ap other_image slot_is)

    writing : {R E : Type 0} (result : Result R E) → IsTrue host.is_told → Makes host (Opens st.name) (stored_of holds.slot c) (stored_of holds.slot c) a b result
    writing result told = written_makes host st holds.slot c a b told (kept told) file file_at writes result

    still_good : All IsDefinition (all_of (imaged c image))
    still_good = subst (λ (ds : List Definition). All IsDefinition ds) (sym (append-nil (all_of c))) holds.good

    as_commits : {R E : Type 0} (h : D) (result : Result R E) → Makes host (Opens st.name) (stored_of holds.slot c) (stored_of (other_image holds.slot) (imaged c image)) a h result
        → Makes host (OpensAs old.name) c (imaged c image) a h result
    as_commits {R = R} {E = E} h result makes = makes_commit old.name host holds.slot (other_image holds.slot) c (imaged c image) a h result (held_openable host a old c holds)
        (record { readable = readable; good = still_good })
        (subst (λ (n : List ℕ). Makes {R = R} {E = E} host (Opens n) (stored_of holds.slot c) (stored_of (other_image holds.slot) (imaged c image)) a h result) named makes)

    -- the image wasn't written
    pub unwritten_makes : {R S E : Type 0} (first : Result R E) (result : Result S E) → IsErr result → IsTrue host.is_told → Makes host (OpensAs old.name) c (imaged c image) a b result
    unwritten_makes first result err told = as_commits b result
        (makes_failed host (Opens st.name) (stored_of holds.slot c) (stored_of (other_image holds.slot) (imaged c image)) a b b first result err (writing first told))

    pub unwritten_broken : {R E : Type 0} (first : Result R E) → IsTrue host.is_told → RestsUnlessGate host (OpensAs old.name) old.name c b
    unwritten_broken first told = broken_commit host old.name st.name holds.slot c b (held_openable host a old c holds) named
        (inl (kept_rest host (Opens st.name) (stored_of holds.slot c) a b first (writing first told)))

    -- it was, and then the root is committed
    module _ (reads : IsTrue host.is_told → host.files b file ≡ Some image) (synced : IsSynced host file b) (root_at : root.slot ≡ at) (long : root.image_length ≡ length image)
        (base : root.base ≡ st.root.length) (end : root.length ≡ st.root.length) where
      root_is : root_of (other_image holds.slot) (imaged c image) ≡ root
      root_is =
          let n : st.root.length ≡ length (entries (all_of c)) = ap (λ (s : StoreState). s.root.length) store_is in
          root_imaged holds.slot c image root.slot root.image_length root.base root.length (root_at ∙ at_is ∙ ap other_image slot_is) long (base ∙ n) (end ∙ n)

      firm : IsTrue host.is_told → IsFirm host b st.name (stored_of (other_image holds.slot) (imaged c image))
      firm told = image_firm host st holds.slot c a b told (kept told) file file_at writes image (reads told) synced

      pub snapshot_makes : {R S T E : Type 0} (e : D) (first : Result R E) (second : Result S E) (result : Result T E)
          → ((x y : Stored) → IsTrue host.is_told → IsKept host b st x → IsFirm host b st.name y → y.root ≡ root → Makes host (Opens st.name) x y b e second)
          → ((x y : Stored) → Makes host (Opens st.name) x y b e second → Makes host (Opens st.name) x y b e result)
          → IsTrue host.is_told → Makes host (OpensAs old.name) c (imaged c image) a e result
      snapshot_makes e first second result makes onward told =
          let x = stored_of holds.slot c in
          let y = stored_of (other_image holds.slot) (imaged c image) in
          as_commits e result (makes_then host (Opens st.name) x y a b e first result (writing first told)
          (onward x y (makes x y told (still_kept host st holds.slot c a b told (kept told) file file_at writes) (firm told) root_is)))

      pub snapshot_broken : (e : D) → ((x y : Stored) → IsTrue host.is_told → IsKept host b st x → IsFirm host b st.name y → y.root ≡ root → RestsUnlessGate host (Opens st.name) st.name x e)
          → IsTrue host.is_told → RestsUnlessGate host (OpensAs old.name) old.name c e
      snapshot_broken e broken told =
          let x = stored_of holds.slot c in
          let y = stored_of (other_image holds.slot) (imaged c image) in
          broken_commit host old.name st.name holds.slot c e (held_openable host a old c holds) named
          (broken x y told (still_kept host st holds.slot c a b told (kept told) file file_at writes) (firm told) root_is)

      pub snapshot_holds : (e : D) (new : ArchiveState) (next : StoreState) → new.name ≡ old.name → new.store ≡ Some next → new.listed ≡ old.listed
          → next ≡ record { name = st.name; chosen = 1 - st.chosen; root = root }
          → ((x y : Stored) → IsTrue host.is_told → IsKept host b st x → IsFirm host b st.name y → y.root ≡ root → IsKept host e next y)
          → Holds host e new (imaged c image)
      snapshot_holds e new next same store listed is keeps =
          let all : all_of (imaged c image) ≡ all_of c = append-nil (all_of c) in
          let next_is : next ≡ store_of new.name (1 - holds.chosen) (other_image holds.slot) (imaged c image) =
          is ∙ (λ i. record { name = (named ∙ sym same) i; chosen = 1 - (store_is i).chosen; root = sym root_is i }) in
          record {
            chosen = 1 - holds.chosen;
            slot = other_image holds.slot;
            store = store ∙ ap Some next_is;
            listed = listed ∙ holds.listed ∙ sym all;
            good = still_good;
            kept = λ told. subst (λ (s : StoreState). IsKept host e s (stored_of (other_image holds.slot) (imaged c image))) next_is
                (keeps (stored_of holds.slot c) (stored_of (other_image holds.slot) (imaged c image)) told
                (still_kept host st holds.slot c a b told (kept told) file file_at writes) (firm told) root_is);
            readable = readable;
          }
