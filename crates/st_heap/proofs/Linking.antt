-- The links of entries, where entries change.
use Rattle.std.proofs.Common.{◌≡◌, ◌≢◌, ℕ, zero, suc, ◌<◌, Bool, true, false, List, [], ◌∷◌, Option, Some, None, length, get_or, set, is_some, refl, sym, ap, ◌∙◌, subst, arith, length-set}
use Rattle.std.specs.Prelude.{◌==◌}
use Rattle.std.specs.Option.{option_map}
use Rattle.std.proofs.lemmas.List.{get_or-set_same, get_or-set_other}
use Rattle.st_model.specs.declared.oop.Oop.{Oop}
use Rattle.st_table.specs.declared.entry.Entry.{Entry}
use Rattle.st_table.specs.inside.Entries.{place, with_next, with_before}
use Rattle.st_heap.specs.declared.block.Block.{Block}
use Rattle.st_heap.specs.inside.Blocks.{moved_entry, IsTied}
use Rattle.st_heap.specs.declared.store.BlockStore.{BlockStore}
use Rattle.st_heap.specs.inside.Heaps.{words_of, blocks_of}
use Rattle.st_heap.specs.inside.Places.{place_in}
use Rattle.st_heap.specs.inside.Stored.{stored_at, stored_all, slot, used_of, AreTied}
use Rattle.st_heap.specs.inside.Stores.{stored_of}
use Rattle.st_heap.specs.inside.Links.{next_in, before_in}
use Rattle.st_heap.proofs.Tying.{tied_entry, tied_of, are_tied}

pub next_moved : (x : Option Entry) (at : ℕ) → next_in (moved_entry x at) ≡ next_in x
next_moved None at = refl
next_moved (Some e) at = refl

pub before_moved : (x : Option Entry) (at : ℕ) → before_in (moved_entry x at) ≡ before_in x
before_moved None at = refl
before_moved (Some e) at = refl

same_place : (a b : ℕ) → (a == b) ≡ true → a ≡ b
same_place a b h = grind arith

other_place : (a b : ℕ) → (a == b) ≡ false → a ≢ b
other_place a b h e = grind arith

-- where the entries at two places are set twice, what is read of each entry stands if it is that of the last ones
pub set_twice : (read : Option Entry → ℕ) (es : List (Option Entry)) (a b : ℕ) (u v x y : Option Entry) → a < length es → b < length es → read x ≡ read (get_or es a None) → read y ≡ read (get_or es b None)
    → (j : ℕ) → read (get_or (set (set (set (set es a u) b v) a x) b y) j None) ≡ read (get_or es j None)
set_twice read es a b u v x y ina inb first second j = by_second (j == b) refl
  where
    one : List (Option Entry)
    one = set (set es a u) b v

    by_first : (t : Bool) → (j == a) ≡ t → j ≢ b → read (get_or (set one a x) j None) ≡ read (get_or es j None)
    by_first true q ne = ap (λ k. read (get_or (set one a x) k None)) (same_place j a q) ∙ ap read (get_or-set_same one a x None (rw (length-set, length-set) ina)) ∙ first ∙ ap (λ k. read (get_or es k None)) (sym (same_place j a q))
    by_first false q ne = ap read (get_or-set_other one a j x None (other_place j a q) ∙ get_or-set_other (set es a u) b j v None ne ∙ get_or-set_other es a j u None (other_place j a q))

    by_second : (t : Bool) → (j == b) ≡ t → read (get_or (set (set one a x) b y) j None) ≡ read (get_or es j None)
    by_second true q = ap (λ k. read (get_or (set (set one a x) b y) k None)) (same_place j b q) ∙ ap read (get_or-set_same (set one a x) b y None (rw (length-set, length-set, length-set) inb)) ∙ second ∙ ap (λ k. read (get_or es k None)) (sym (same_place j b q))
    by_second false q = ap read (get_or-set_other (set one a x) b j y None (other_place j b q)) ∙ by_first (j == a) refl (other_place j b q)

-- what an entry becomes that has other links, and keeps its place, its kind and its mark
pub record Relinks (with : Option Entry → Option Entry) : Type 0 where
  pub next : Entry → Oop
  pub before : Entry → Oop
  pub none : with None ≡ None
  pub some : (e : Entry) → with (Some e) ≡ Some (record { at = e.at; kind = e.kind; odd = e.odd; next = next e; before = before e })

pub next_relinks : (o : Oop) → Relinks (λ x. with_next x o)
next_relinks o = record { next = λ e. o; before = λ e. e.before; none = refl; some = λ e. refl }

pub before_relinks : (o : Oop) → Relinks (λ x. with_before x o)
before_relinks o = record { next = λ e. e.next; before = λ e. o; none = refl; some = λ e. refl }

pub next_here : (x : Option Entry) (o : Oop) → is_some x ≡ true → next_in (with_next x o) ≡ place o
next_here None o h = cc
next_here (Some e) o h = refl

pub before_here : (x : Option Entry) (o : Oop) → is_some x ≡ true → before_in (with_before x o) ≡ place o
before_here None o h = cc
before_here (Some e) o h = refl

pub before_beside : (x : Option Entry) (o : Oop) → before_in (with_next x o) ≡ before_in x
before_beside None o = refl
before_beside (Some e) o = refl

pub next_beside : (x : Option Entry) (o : Oop) → next_in (with_before x o) ≡ next_in x
next_beside None o = refl
next_beside (Some e) o = refl

-- what is read of entries stands where one is set of which it is read alike
set_alike : {A : Type 0} (read : Option Entry → A) (es : List (Option Entry)) (k : ℕ) (x : Option Entry) → read x ≡ read (get_or es k None) → (j : ℕ) → read (get_or (set es k x) j None) ≡ read (get_or es j None)
set_alike read [] k x same j = refl
set_alike read (y ∷ es) zero x same zero = same
set_alike read (y ∷ es) zero x same (suc j) = refl
set_alike read (y ∷ es) (suc k) x same zero = refl
set_alike read (y ∷ es) (suc k) x same (suc j) = set_alike read es k x same j

-- what is stored at a place has an entry there
pub stored_entered : (ws : List ℕ) (bs : List Block) (es : List (Option Entry)) (k : ℕ) → is_some (slot (stored_all ws bs es) k) ≡ true → is_some (get_or es k None) ≡ true
stored_entered ws bs [] k h = cc
stored_entered ws bs (None ∷ es) zero h = cc
stored_entered ws bs (Some e ∷ es) zero h = refl
stored_entered ws bs (x ∷ es) (suc k) h = stored_entered ws bs es k h

pub entered_inside : (es : List (Option Entry)) (k : ℕ) → is_some (get_or es k None) ≡ true → k < length es
entered_inside [] k h = cc
entered_inside (x ∷ es) zero h = omega arith
entered_inside (x ∷ es) (suc k) h = let s = entered_inside es k h in omega (arith, s)

-- what a store says of itself with other entries
pub record StaysWith (s : BlockStore) (es : List (Option Entry)) : Type 0 where
  pub tied : AreTied es (blocks_of s.heap)
  pub places : length es ≡ 32768
  pub counted : s.used ≡ used_of (stored_all (words_of s.heap) (blocks_of s.heap) es)

-- a store in which the entry at a place has other links
module _ (with : Option Entry → Option Entry) (relinks : Relinks with) (s : BlockStore) (k : ℕ) (es : List (Option Entry)) (is : es ≡ set s.table k (with (get_or s.table k None))) (there : is_some (slot (stored_of s) k) ≡ true) where
  pub has_entry : is_some (get_or s.table k None) ≡ true
  has_entry = stored_entered (words_of s.heap) (blocks_of s.heap) s.table k there

  pub relinked_stored : stored_all (words_of s.heap) (blocks_of s.heap) es ≡ stored_of s
  relinked_stored = ap (λ l. stored_all (words_of s.heap) (blocks_of s.heap) l) is ∙ by_list s.table k
    where
      same : (x : Option Entry) → option_map (stored_at (words_of s.heap) (blocks_of s.heap)) (with x) ≡ option_map (stored_at (words_of s.heap) (blocks_of s.heap)) x
      same None = ap (option_map (stored_at (words_of s.heap) (blocks_of s.heap))) relinks.none
      same (Some e) = ap (option_map (stored_at (words_of s.heap) (blocks_of s.heap))) (relinks.some e)

      by_list : (l : List (Option Entry)) (n : ℕ) → stored_all (words_of s.heap) (blocks_of s.heap) (set l n (with (get_or l n None))) ≡ stored_all (words_of s.heap) (blocks_of s.heap) l
      by_list [] n = refl
      by_list (x ∷ l) zero = ap (λ y. y ∷ stored_all (words_of s.heap) (blocks_of s.heap) l) (same x)
      by_list (x ∷ l) (suc n) = ap (λ r. option_map (stored_at (words_of s.heap) (blocks_of s.heap)) x ∷ r) (by_list l n)

  pub relinked_stays : StaysWith s es
  relinked_stays = record {
    tied = are_tied es (blocks_of s.heap) (subst (λ (l : List (Option Entry)). IsTied l (blocks_of s.heap)) (sym is) (by_entry (get_or s.table k None) refl has_entry));
    places = ap (λ (l : List (Option Entry)). length l) is ∙ length-set s.table k (with (get_or s.table k None)) ∙ s.places;
    counted = s.counted ∙ sym (ap used_of relinked_stored);
  }
    where
      by_entry : (x : Option Entry) → get_or s.table k None ≡ x → is_some x ≡ true → IsTied (set s.table k (with x)) (blocks_of s.heap)
      by_entry None at h = cc
      by_entry (Some e) at h = subst (λ (y : Option Entry). IsTied (set s.table k y) (blocks_of s.heap)) (sym (relinks.some e)) (tied_entry s.table (blocks_of s.heap) k e _ (tied_of s.table (blocks_of s.heap) s.tied) at refl)

  pub relinked_here : (read : Option Entry → ℕ) → read (get_or es k None) ≡ read (with (get_or s.table k None))
  relinked_here read = ap (λ (l : List (Option Entry)). read (get_or l k None)) is ∙ ap read (get_or-set_same s.table k (with (get_or s.table k None)) None (entered_inside s.table k has_entry))

  pub relinked_other : (read : Option Entry → ℕ) (j : ℕ) → j ≢ k → read (get_or es j None) ≡ read (get_or s.table j None)
  relinked_other read j ne = ap (λ (l : List (Option Entry)). read (get_or l j None)) is ∙ ap read (get_or-set_other s.table k j (with (get_or s.table k None)) None ne)

  pub relinked_beside : {A : Type 0} (read : Option Entry → A) → ((x : Option Entry) → read (with x) ≡ read x) → (j : ℕ) → read (get_or es j None) ≡ read (get_or s.table j None)
  relinked_beside read same j = ap (λ (l : List (Option Entry)). read (get_or l j None)) is ∙ set_alike read s.table k (with (get_or s.table k None)) (same (get_or s.table k None)) j

  pub relinked_places : (j : ℕ) → place_in (get_or es j None) ≡ place_in (get_or s.table j None)
  relinked_places = relinked_beside place_in same
    where
      same : (x : Option Entry) → place_in (with x) ≡ place_in x
      same None = ap place_in relinks.none
      same (Some e) = ap place_in (relinks.some e)
