-- An index of names, and what is found by it.
use Rattle.std.proofs.Common.{◌≡◌, ℕ, zero, suc, ◌+◌, ◌≤◌, ◌<◌, Bool, true, false, ◌||◌, List, [], ◌∷◌, ◌++◌, length, take, get_or, map, Option, Some, None, is_some, refl, sym, ap, ◌∙◌, cond, arith}
use Rattle.std.specs.Prelude.{nat_lt, bytes_eq, option_map, if◌then◌else◌}
use Rattle.std.specs.Global.{Vec}
use Rattle.std.specs.declared.cmp.Ordering.{Ordering}
use Rattle.std.specs.Ordering.{is_eq, nat_cmp}
use Rattle.std.specs.BTreeMap.{BTreeMap, UpdatesBy}
use Rattle.std.specs.Map.{lookup}
use Rattle.std.specs.List.{position_from}
use Rattle.std.specs.Cmp.Lexicographic.{slice_cmp, bytes_decides}
use Rattle.std.proofs.lemmas.List.{take_more}
use Rattle.std.proofs.lemmas.Map.Text.{is_eq-slice_cmp}
use Rattle.std.proofs.lemmas.Bool.Decides.{nat_tests}
use Rattle.st_scan.specs.declared.tree.Name.{Name}
use Rattle.st_scan.specs.Views.{name_view, names_view}
use Rattle.st_emit.specs.Names.{or_else, temporary, own_variable, declared_as, numbered, is_among}
use Rattle.st_emit.specs.inside.NamePlaces.{name_place, text_noted, IsNameIndex, NotesFirst}
use Rattle.st_emit.proofs.Noting.{at_put, first_put, first_kept}
use Rattle.st_emit.proofs.Places.{place_from, place_more}

-- NOTING

pub same_text : (a b : List ℕ) → bytes_eq a b ≡ true → a ≡ b
same_text a b h = (bytes_decides a b).0 h

abbrev by_items : Vec ℕ → Vec ℕ → Ordering
by_items x y = slice_cmp nat_cmp x.items y.items

pub decides : (a b : Vec ℕ) → is_eq (by_items a b) ≡ bytes_eq a.items b.items
decides a b = is_eq-slice_cmp a.items b.items

pub noted_text : (entries : List (Vec ℕ × ℕ)) (text : List ℕ) → lookup (λ q. is_eq (slice_cmp nat_cmp text q.items)) entries ≡ text_noted entries text
noted_text entries text = λ t. lookup (λ q. is_eq-slice_cmp text q.items t) entries

-- a place was noted of a text of which none was noted
pub notes_first : (m n : BTreeMap (Vec ℕ) ℕ) (k : Vec ℕ) (place : ℕ) → UpdatesBy by_items (by_items k) m n (Some place) → text_noted m.entries k.items ≡ None → NotesFirst k.items place m.entries n.entries
notes_first m n k place updates none t =
    at_put (λ q. q.items) bytes_eq same_text by_items decides m n k (Some place) updates t
    ∙ first_put (λ q. q.items) bytes_eq same_text by_items decides m.entries k.items place t none

-- a place was noted before
pub notes_again : (entries : List (Vec ℕ × ℕ)) (text : List ℕ) (place : ℕ) → is_some (text_noted entries text) ≡ true → NotesFirst text place entries entries
notes_again entries text place some t = first_kept (λ q. q.items) bytes_eq same_text by_items decides entries text place t some

-- one name more is noted
pub index_more : (names : List Name) (i : ℕ) (n : Name) (old new : List (Vec ℕ × ℕ)) → i < length names → n ≡ get_or names i n → length (take i names) ≡ i
    → IsNameIndex (take i names) old → NotesFirst n.text.items i old new → IsNameIndex (take (i + 1) names) new
index_more names i n old new lt e long before first t =
    first t
    ∙ (λ k. or_else (before t k) (if bytes_eq n.text.items t then Some (sym long k) else None))
    ∙ sym (place_more (λ x. bytes_eq x.text.items t) n (take i names))
    ∙ ap (λ ns. name_place ns t) (ap (λ x. take i names ++ x ∷ []) e ∙ sym (take_more names i n lt))

-- FINDING

module _ (text : List ℕ) where
  abbrev from : ℕ → List Name → Option ℕ
  from k names = position_from (λ n. bytes_eq n.text.items text) k names

  -- a name is found as the variable of its place
  declared_from : (assignable : Bool) (first k : ℕ) (names : List Name)
      → own_variable (declared_as (numbered assignable (first + k) (map name_view names)) text) ≡ option_map (λ i. temporary (first + i) assignable) (from k names)
  declared_from assignable first k [] = refl
  declared_from assignable first k (x ∷ xs) =
      by (bytes_eq x.text.items text)
      ((let e : first + k + 1 ≡ first + (k + 1) = omega arith in ap (λ (j : ℕ). own_variable (declared_as (numbered assignable j (map name_view xs)) text)) e) ∙ declared_from assignable first (k + 1) xs)
    where
      by : (b : Bool) → own_variable (declared_as (numbered assignable (first + k + 1) (map name_view xs)) text) ≡ option_map (λ i. temporary (first + i) assignable) (from (k + 1) xs)
          → own_variable (cond b (Some (record { text = x.text.items; number = first + k; assignable = assignable })) (declared_as (numbered assignable (first + k + 1) (map name_view xs)) text))
          ≡ option_map (λ i. temporary (first + i) assignable) (cond b (Some k) (from (k + 1) xs))
      by true h = refl
      by false h = h

  pub declared_place : (assignable : Bool) (first : ℕ) (names : List Name)
      → own_variable (declared_as (numbered assignable first (map name_view names)) text) ≡ option_map (λ i. temporary (first + i) assignable) (name_place names text)
  declared_place assignable first names =
      (let e : first ≡ first + 0 = omega arith in ap (λ (j : ℕ). own_variable (declared_as (numbered assignable j (map name_view names)) text)) e)
      ∙ declared_from assignable first 0 names
      ∙ ap (option_map (λ i. temporary (first + i) assignable)) (sym (place_from (λ n. bytes_eq n.text.items text) names))

  -- a place below a bound
  abbrev pub is_below : ℕ → Option ℕ → Bool
  is_below n None = false
  is_below n (Some i) = nat_lt i n

  not_below : (n k : ℕ) → n ≤ k → (names : List Name) → false ≡ is_below n (from k names)
  not_below n k le [] = refl
  not_below n k le (x ∷ xs) = by (bytes_eq x.text.items text) (not_below n (k + 1) (omega arith) xs)
    where
      by : (b : Bool) → false ≡ is_below n (from (k + 1) xs) → false ≡ is_below n (cond b (Some k) (from (k + 1) xs))
      by true h = grind (arith, nat_tests)
      by false h = h

  among_from : (count k : ℕ) (names : List Name) → is_among (names_view (take count names)) text ≡ is_below (k + count) (from k names)
  among_from zero k names = not_below (k + 0) k (omega arith) names
  among_from (suc count) k [] = refl
  among_from (suc count) k (x ∷ xs) =
      by (bytes_eq x.text.items text) (among_from count (k + 1) xs ∙ (let e : k + 1 + count ≡ k + suc count = omega arith in ap (λ (j : ℕ). is_below j (from (k + 1) xs)) e))
    where
      by : (b : Bool) → is_among (names_view (take count xs)) text ≡ is_below (k + suc count) (from (k + 1) xs)
          → (b || is_among (names_view (take count xs)) text) ≡ is_below (k + suc count) (cond b (Some k) (from (k + 1) xs))
      by true h = grind (arith, nat_tests)
      by false h = h

  -- a name among the first ones
  pub among_first : (count : ℕ) (names : List Name) → is_among (names_view (take count names)) text ≡ is_below count (name_place names text)
  among_first count names =
      among_from count 0 names ∙ (let e : 0 + count ≡ count = omega arith in ap (λ (j : ℕ). is_below j (from 0 names)) e) ∙ ap (is_below count) (sym (place_from (λ n. bytes_eq n.text.items text) names))

  some_from : (k : ℕ) (names : List Name) → is_some (from k names) ≡ is_among (names_view names) text
  some_from k [] = refl
  some_from k (x ∷ xs) = by (bytes_eq x.text.items text) (some_from (k + 1) xs)
    where
      by : (b : Bool) → is_some (from (k + 1) xs) ≡ is_among (names_view xs) text → is_some (cond b (Some k) (from (k + 1) xs)) ≡ (b || is_among (names_view xs) text)
      by true h = refl
      by false h = h

  -- a name that has a place is one of them
  pub some_place : (names : List Name) → is_some (name_place names text) ≡ is_among (names_view names) text
  some_place names = ap is_some (place_from (λ n. bytes_eq n.text.items text) names) ∙ some_from 0 names
