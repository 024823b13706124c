-- Names that are declared in one frame after the other.
use Rattle.std.proofs.Common.{◌≡◌, ℕ, ◌+◌, Bool, true, false, ◌||◌, List, [], ◌∷◌, ◌++◌, Option, Some, None, refl, sym, ap, ◌∙◌, cond, find, map, ◌<◌, length, get_or, drop, append-nil, append_assoc}
use Rattle.std.specs.Prelude.{option_map}
use Rattle.std.proofs.lemmas.List.{at_drop_more}
use Rattle.st_emit.specs.declared.names.Variable.{Variable as Kept}
use Rattle.std.specs.Prelude.{is_some, bytes_eq}
use Rattle.st_scan.specs.declared.tree.Name.{Name}
use Rattle.st_scan.specs.Views.{name_view, names_view}
use Rattle.st_emit.specs.declared.declared_names.DeclaredNames.{DeclaredNames}
use Rattle.st_emit.specs.inside.NameViews.{frame_view, scope_view, variable_view, IsVariable}
use Rattle.st_emit.specs.Names.{Declared, Scope, declared_as, own_variable, or_else, numbered, is_among}

find_append : (p : Declared → Bool) (xs ys : List Declared) → find p (xs ++ ys) ≡ or_else (find p xs) (find p ys)
find_append p [] ys = refl
find_append p (x ∷ xs) ys = by_test (p x) (find_append p xs ys)
  where
    by_test : (b : Bool) → find p (xs ++ ys) ≡ or_else (find p xs) (find p ys) → (cond b (Some x) (find p (xs ++ ys))) ≡ or_else (cond b (Some x) (find p xs)) (find p ys)
    by_test true h = refl
    by_test false h = h

own_or : (a b : Option Declared) → own_variable (or_else a b) ≡ or_else (own_variable a) (own_variable b)
own_or None b = refl
own_or (Some a) b = refl

-- in no frame, or in one
among_frame : (assignable : Bool) (n : ℕ) (names : List Name) (text : List ℕ) → is_some (declared_as (numbered assignable n (map name_view names)) text) ≡ is_among (map name_view names) text
among_frame assignable n [] text = refl
among_frame assignable n (x ∷ xs) text = by_test (bytes_eq x.text.items text) (among_frame assignable (n + 1) xs text)
  where
    rest : Option Declared
    rest = declared_as (numbered assignable (n + 1) (map name_view xs)) text

    by_test : (b : Bool) → is_some rest ≡ is_among (map name_view xs) text → is_some (cond b (Some (record { text = x.text.items; number = n; assignable = assignable })) rest) ≡ (b || is_among (map name_view xs) text)
    by_test true h = refl
    by_test false h = h

is_some_or : (a b : Option Declared) → is_some (or_else a b) ≡ (is_some a || is_some b)
is_some_or None b = refl
is_some_or (Some a) b = refl

is_declared_in : (f : DeclaredNames) (fs : List DeclaredNames) (text : List ℕ) → is_some (declared_as (scope_view (f ∷ fs)) text) ≡ (is_among (names_view f.names.now) text || is_some (declared_as (scope_view fs) text))
is_declared_in f fs text =
    ap is_some (find_append (λ d. bytes_eq d.text text) (frame_view f) (scope_view fs)) ∙ is_some_or (declared_as (frame_view f) text) (declared_as (scope_view fs) text)
    ∙ ap (λ b. b || is_some (declared_as (scope_view fs) text)) (among_frame f.assignable f.first f.names.now text)

-- found in the first frame, or in the others
found_in : (a b : Scope) (text : List ℕ) → own_variable (declared_as (a ++ b) text) ≡ or_else (own_variable (declared_as a text)) (own_variable (declared_as b text))
found_in a b text = ap own_variable (find_append (λ d. bytes_eq d.text text) a b) ∙ own_or (declared_as a text) (declared_as b text)

-- one frame more is looked through
pub found_turn : (fs : List DeclaredNames) (i : ℕ) (f : DeclaredNames) (text : List ℕ) (found : Option Kept) → i < length fs → f ≡ get_or fs i f → IsVariable (own_variable (declared_as (frame_view f) text)) found
    → own_variable (declared_as (scope_view (drop i fs)) text) ≡ or_else (option_map variable_view found) (own_variable (declared_as (scope_view (drop (i + 1) fs)) text))
found_turn fs i f text found lt e h =
    at_drop_more (λ s. own_variable (declared_as (scope_view s) text)) fs i f lt
    ∙ ap (λ x. own_variable (declared_as (scope_view (x ∷ drop (i + 1) fs)) text)) (sym e)
    ∙ found_in (frame_view f) (scope_view (drop (i + 1) fs)) text
    ∙ ap (λ v. or_else v (own_variable (declared_as (scope_view (drop (i + 1) fs)) text))) (sym h)

pub declared_turn : (fs : List DeclaredNames) (i : ℕ) (f : DeclaredNames) (text : List ℕ) (among : Bool) → i < length fs → f ≡ get_or fs i f → among ≡ is_among (names_view f.names.now) text
    → is_some (declared_as (scope_view (drop i fs)) text) ≡ (among || is_some (declared_as (scope_view (drop (i + 1) fs)) text))
declared_turn fs i f text among lt e h =
    at_drop_more (λ s. is_some (declared_as (scope_view s) text)) fs i f lt
    ∙ ap (λ x. is_some (declared_as (scope_view (x ∷ drop (i + 1) fs)) text)) (sym e)
    ∙ is_declared_in f (drop (i + 1) fs) text
    ∙ ap (λ b. b || is_some (declared_as (scope_view (drop (i + 1) fs)) text)) (sym h)

-- one frame more
pub scope_view_push : (fs : List DeclaredNames) (f : DeclaredNames) → scope_view (fs ++ f ∷ []) ≡ scope_view fs ++ frame_view f
scope_view_push [] f = append-nil (frame_view f)
scope_view_push (g ∷ gs) f = ap (λ s. frame_view g ++ s) (scope_view_push gs f) ∙ sym (append_assoc (frame_view g) (scope_view gs) (frame_view f))
