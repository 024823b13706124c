-- What a stop leaves while a store's changes are condensed.
use Rattle.std.proofs.Common.{◌≡◌, ◌≢◌, inl, inr, ℕ, zero, suc, ◌-◌, ◌≤◌, List, [], ◌∷◌, ◌++◌, length, take, drop, Option, Some, IsTrue, refl, sym, subst, ap, ◌∙◌, arith, length-append, length-drop}
use Rattle.std.specs.Prelude.{◌⊎◌, Result, IsErr}
use Rattle.std.proofs.lemmas.List.{take_all, map-append, take-append-drop}
use Rattle.st_host.specs.Files.{Files}
use Rattle.st_host.specs.Runs.{ChangesOneFile, WritesAbove, IsSynced, IsAtRest, Makes}
use Rattle.st_host.specs.declared.host.Host.{Ghosts}
use Rattle.st_host.proofs.Joining.{on_err}
use Rattle.st_host.proofs.Touching.{above_changes}
use Rattle.st_store.specs.Names.{changes_file, image_file}
use Rattle.st_store.specs.Stored.{StoreState, Stored, Begins, Opens, IsFirm, IsKept}
use Rattle.st_store.specs.declared.root.Root.{Root}
use Rattle.st_store.proofs.Beside.{beside_kept, beside_makes}
use Rattle.st_store.proofs.Others.{changes_roots, image_changes, changes_apart}
use Rattle.st_chunk.specs.Definitions.{Definition, entry, entries}
use Rattle.st_changes.specs.declared.definition.Definition as declared
use Rattle.st_changes.specs.inside.Views.{definition_of, definitions_of}
use Rattle.st_changes.specs.Condensing.{Stays, Condenses, condensed, turned}
use Rattle.st_changes.specs.Condensing as stays
use Rattle.st_changes.proofs.Lasts.{entry_parts}
use Rattle.st_changes.proofs.ListTexts.{entries_append}
use Rattle.st_changes.proofs.Superseding.{stays_one, many_bytes}

-- THE OTHER FILE

pub turned_apart : (name : List ℕ) (slot : ℕ) → slot ≤ 3 → changes_file name (turned slot) ≢ changes_file name slot
turned_apart name zero l e = changes_apart name 0 (omega arith) e
turned_apart name (suc zero) l e = changes_apart name 1 (omega arith) e
turned_apart name (suc (suc zero)) l e = changes_apart name 0 (omega arith) (sym e)
turned_apart name (suc (suc (suc zero))) l e = changes_apart name 1 (omega arith) (sym e)
turned_apart name (suc (suc (suc (suc n)))) l e = absurd (omega (arith, l))

pub turned_image : (name : List ℕ) (slot : ℕ) → image_file name (turned slot) ≡ image_file name slot
turned_image name zero = refl
turned_image name (suc zero) = refl
turned_image name (suc (suc n)) = refl

pub turned_low : (slot : ℕ) → slot ≤ 3 → turned slot ≤ 3
turned_low zero l = omega arith
turned_low (suc zero) l = omega arith
turned_low (suc (suc n)) l = omega (arith, l)

-- ONE WAY TO CONDENSE

no_less : (x : Definition) (us : List Definition) → length (entries (x ∷ us)) ≢ 0
no_less x us e = let p = entry_parts x in let a = length-append (entry x) (entries us) in absurd (omega (arith, e, p, a))

same_front : (fs us bs vs : List Definition) → fs ++ bs ≡ us ++ vs → length (entries fs) ≡ length (entries us) → fs ≡ us
same_front [] [] bs vs e l = refl
same_front [] (u ∷ us) bs vs e l = absurd (no_less u us (sym l))
same_front (f ∷ fs) [] bs vs e l = absurd (no_less f fs l)
same_front (f ∷ fs) (u ∷ us) bs vs e l =
    let h : f ≡ u = ap (λ zs. head_or f zs) e in
    let t : fs ++ bs ≡ us ++ vs = ap (λ zs. drop 1 zs) e in
    let a = length-append (entry f) (entries fs) in
    let b = length-append (entry u) (entries us) in
    let m = ap (λ x. length (entry x)) h in
    let r = same_front fs us bs vs t (omega (arith, l, a, b, m)) in
    λ i. h i ∷ r i
  where
    head_or : Definition → List Definition → Definition
    head_or x [] = x
    head_or x (y ∷ ys) = y

same_back : (fs us bs vs : List Definition) → fs ++ bs ≡ us ++ vs → fs ≡ us → bs ≡ vs
same_back fs us bs vs e same = cancel fs bs vs (e ∙ ap (λ xs. xs ++ vs) (sym same))
  where
    cancel : (fs bs vs : List Definition) → fs ++ bs ≡ fs ++ vs → bs ≡ vs
    cancel [] bs vs e = e
    cancel (f ∷ fs) bs vs e = cancel fs bs vs (ap (λ zs. drop 1 zs) e)

-- what stays, and all that is written
module _ (ds fs bs ks : List Definition) (base : ℕ) (is : ds ≡ fs ++ bs) (place : base ≡ length (entries fs)) (s : Stays bs fs ks) (z : Condenses ds base) where
  fronts : fs ≡ z.front
  fronts = same_front fs z.front bs z.behind (sym is ∙ z.is) (sym place ∙ z.place)

  backs : bs ≡ z.behind
  backs = same_back fs z.front bs z.behind (sym is ∙ z.is) fronts

  pub kept_is : ks ≡ z.kept
  kept_is = stays_one z.behind z.front ks z.kept (subst (λ x. Stays x z.front ks) backs (subst (λ x. Stays bs x ks) fronts s)) z.stays

  pub all_are : ks ++ bs ≡ z.kept ++ z.behind
  all_are = λ i. kept_is i ++ backs i

pub condenses_by : (ds fs bs ks : List Definition) (base : ℕ) → ds ≡ fs ++ bs → base ≡ length (entries fs) → Stays bs fs ks → Condenses ds base
condenses_by ds fs bs ks base is place s = record { front = fs; behind = bs; is = is; place = place; kept = ks; stays = s }

-- no more definitions are written than there were
pub fewer_stay : (ds fs bs ks : List Definition) → ds ≡ fs ++ bs → length (entries ks) ≤ length (entries fs) → length (ks ++ bs) ≤ length (entries ds)
fewer_stay ds fs bs ks is short =
    let a = length-append ks bs in
    let b = many_bytes ks in
    let c = many_bytes bs in
    let d = ap (λ x. length (entries x)) is ∙ (ap length (entries_append fs bs) ∙ length-append (entries fs) (entries bs)) in
    omega (arith, a, b, c, d, short)

stays_short : (rest front kept : List Definition) → Stays rest front kept → length (entries kept) ≤ length (entries front)
stays_short rest _ _ stays.none = omega arith
stays_short rest _ _ (stays.drops d ds ks s k) = let l = stays_short rest ds ks k in let a = length-append (entry d) (entries ds) in omega (arith, l, a)
stays_short rest _ _ (stays.keeps d ds ks s k) = let l = stays_short rest ds ks k in let a = length-append (entry d) (entries ds) in let b = length-append (entry d) (entries ks) in omega (arith, l, a, b)

-- WHILE ANOTHER FILE IS WRITTEN

module _ {D : Type 0} (host : Ghosts D) (st : StoreState) (c : Stored) (a b : D) (told : IsTrue host.is_told) (kept : IsKept host a st c)
    (file : List ℕ) (is : file ≡ changes_file st.name (turned st.root.slot)) (writes : WritesAbove host 0 file a b) where
  abbrev other : List ℕ
  other = changes_file st.name (turned c.root.slot)

  is_other : file ≡ other
  is_other = is ∙ ap (λ (r : Root). changes_file st.name (turned r.slot)) (sym kept.root)

  run : ChangesOneFile host other a b
  run = subst (λ (n : List ℕ). ChangesOneFile host n a b) is_other (above_changes host file 0 a b writes)

  pub still_kept : IsKept host b st c
  still_kept = record {
    root = kept.root;
    is = beside_kept host st.name st.chosen c a b told kept.is other (changes_roots st.name (turned c.root.slot)) (turned_apart st.name c.root.slot kept.is.firm.sound.slot)
        (λ e. image_changes st.name c.root.slot (turned c.root.slot) (sym e)) run;
  }

  pub written_makes : {R E : Type 0} (result : Result R E) → Makes host (Opens st.name) c c a b result
  written_makes result = beside_makes host st.name st.chosen c a b told kept.is other (changes_roots st.name (turned c.root.slot)) (turned_apart st.name c.root.slot kept.is.firm.sound.slot)
      (λ e. image_changes st.name c.root.slot (turned c.root.slot) (sym e)) run result

  -- and once it is synced, the store with it is firm
  pub condensed_firm : (ds : List Definition) (base : ℕ) (z : Condenses ds base) → st.root.length ≡ length (entries ds) → (text : List ℕ) → text ≡ entries (z.kept ++ z.behind)
      → host.files b file ≡ Some text → IsSynced host file b → IsFirm host b st.name (condensed c z)
  condensed_firm ds base z place text same reads synced =
      let sound = kept.is.firm.sound in
      let p = ap length (entries_append z.kept z.behind) ∙ length-append (entries z.kept) (entries z.behind) in
      let q = ap (λ x. length (entries x)) z.is ∙ (ap length (entries_append z.front z.behind) ∙ length-append (entries z.front) (entries z.behind)) in
      let r = stays_short z.behind z.front z.kept z.stays in
      let l = ap (λ (x : Root). x.length) kept.root in
      let limit = sound.limit in
      let all = entries (z.kept ++ z.behind) in
      record {
        sound = record { slot = turned_low c.root.slot sound.slot; base = omega (arith, p); limit = omega (arith, p, q, r, l, limit, place) };
        image = λ x can. still_kept.is.firm.image x (subst (λ (n : List ℕ). host.may_leave b n x) (turned_image st.name c.root.slot) can);
        changes = λ x can. subst (λ (y : Option (List ℕ)). Begins (length all) all y)
            (sym (synced.is told x (subst (λ (n : List ℕ). host.may_leave b n x) (sym is_other) can) ∙ (reads ∙ ap (λ (t : List ℕ). Some t) same)))
            (record { long = omega arith; is = take_all (length all) all (omega arith) });
      }

  pub condensed_root : (ds : List Definition) (base : ℕ) (z : Condenses ds base) (root : Root) → root.slot ≡ turned st.root.slot → root.image_length ≡ st.root.image_length
      → root.base ≡ length (entries z.kept) → root.length ≡ length (entries (z.kept ++ z.behind)) → (condensed c z).root ≡ root
  condensed_root ds base z root slot image first all = λ i. record {
    slot = (ap (λ (r : Root). turned r.slot) kept.root ∙ sym slot) i;
    image_length = (ap (λ (r : Root). r.image_length) kept.root ∙ sym image) i;
    base = (sym first) i;
    length = (sym all) i;
  }

-- THE LISTS OF THE CODE

pub rest_taken : {X : Type 0} (n : ℕ) (xs : List X) → take (length xs - n) (drop n xs) ≡ drop n xs
rest_taken n xs = take_all (length xs - n) (drop n xs) (let l = length-drop n xs in omega (arith, l))

pub parts_are : (L : List declared.Definition) (n : ℕ) → definitions_of L ≡ definitions_of (take n L) ++ definitions_of (drop n L)
parts_are L n = ap definitions_of (sym (take-append-drop n L)) ∙ map-append definition_of (take n L) (drop n L)

pub taken_of : (L : List declared.Definition) (n : ℕ) → take n (definitions_of L) ≡ definitions_of (take n L)
taken_of [] zero = refl
taken_of [] (suc n) = refl
taken_of (d ∷ L) zero = refl
taken_of (d ∷ L) (suc n) = ap (λ ds. definition_of d ∷ ds) (taken_of L n)

-- what a run that failed made, by another result that failed
pub makes_err : {C D R S E F : Type 0} (host : Ghosts D) (opens : C → Files → Type 0) (x y : C) (old new : D) (first : Result R E) (second : Result S F)
    → IsErr second → Makes host opens x y old new first → Makes host opens x y old new second
makes_err host opens x y old new first second err makes = record { rest = on_err second _ err; either = makes.either; quiet = makes.quiet; moments = makes.moments }

-- what makes nothing else is at rest behind it
pub makes_rest : {C D R E : Type 0} (host : Ghosts D) (opens : C → Files → Type 0) (x : C) (old new : D) (result : Result R E) → Makes host opens x x old new result → IsAtRest host opens x new
makes_rest host opens x old new result makes = record { opens_as = λ f can. same (makes.either f can) }
  where
    same : {A : Type 0} → A ⊎ A → A
    same (inl y) = y
    same (inr y) = y
