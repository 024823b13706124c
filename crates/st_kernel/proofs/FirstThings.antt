-- The first objects: nothing but the root page refers to the scheduler's association, and nothing but that to the scheduler.
use denote.Enum.Bare.{sameb, same_true}
use Rattle.std.proofs.Common.{◌≡◌, ℕ, zero, suc, ◌+◌, ◌<◌, Bool, true, false, List, [], ◌∷◌, ◌++◌, length, Some, refl, sym, ap, subst, ◌∙◌, arith}
use Rattle.std.specs.Prelude.{slice_get, get_or, map, filter, replicate, not, ◌&&◌, ◌||◌, codes, if◌then◌else◌}
use Rattle.std.specs.List.{AllByRecursion, position, position_or_len, list_any}
use Rattle.std.proofs.lemmas.Bool.{lt-ltb}
use Rattle.std.proofs.lemmas.List.Quantifiers.{position-Some}
use Rattle.std.proofs.lemmas.Option.{slice_get-get_or}
use Rattle.st_kernel_text.specs.declared.shape.Shape.{Shape}
use Rattle.st_kernel_text.specs.declared.shape.Shape.TheVariants as shape
use Rattle.st_kernel_text.specs.Texts.{Account}
use Rattle.st_first_objects.specs.contracts.thing.What.{the_type}
use Rattle.st_first_objects.specs.declared.thing.What.{What}
use Rattle.st_first_objects.specs.declared.thing.What.TheVariants as what
use Rattle.st_first_objects.specs.Things.{Thing, only, named, within, is, same, class as class_thing}
use Rattle.st_first_objects.specs.Classes.{is_nil}
use Rattle.st_first_objects.specs.Orders.{Order, put, is_made, with_symbol, want, want_all, empty, page, characters, want_parts, selectors, selector_symbols, lists, first_things, order, numbered_from}
use Rattle.st_first_objects.specs.Plans.{FirstObjects, declared}
use Rattle.st_first_objects.specs.Contents.{Field, Empty, Number, To, Body, Fields, Bytes, NoWords, all_of, members, instance, superclass, meta_superclass, is_shared_of, padded, selector_fields, content_of}
use Rattle.st_first_objects.proofs.Counts.{further, all_begins}
use Rattle.st_first_objects.proofs.Complete.{got_before, page_begins}

-- ORDINARY THINGS: neither the association nor the scheduler

abbrev pub is_ordinary : What → Bool
is_ordinary w = not (sameb the_type w what.SchedulerAssociation) && not (sameb the_type w what.Scheduler)

abbrev pub IsOrdinary : Thing → Type 0
IsOrdinary t = is_ordinary t.what ≡ true

abbrev pub ToOrdinary : Field → Type 0
ToOrdinary Empty = Unit {0}
ToOrdinary (Number n) = Unit {0}
ToOrdinary (To t) = IsOrdinary t

abbrev pub OfOrdinary : Body → Type 0
OfOrdinary (Fields fs) = AllByRecursion ToOrdinary fs
OfOrdinary (Bytes bs) = Unit {0}
OfOrdinary NoWords = Unit {0}

both_true : (a b : Bool) → (a && b) ≡ true → a ≡ true
both_true true b e = refl
both_true false b e = cc

alike : (a b : What) → sameb the_type a b ≡ true → is_ordinary b ≡ true → is_ordinary a ≡ true
alike a b e h = subst (λ w. is_ordinary w ≡ true) (sym (same_true the_type tt a b e)) h

pub same_ordinary : (a b : Thing) → same a b ≡ true → IsOrdinary a → IsOrdinary b
same_ordinary a b e h = subst (λ w. is_ordinary w ≡ true) (same_true the_type tt a.what b.what (both_true _ _ e)) h

-- LISTS

all_to : (ts : List Thing) → AllByRecursion IsOrdinary ts → AllByRecursion ToOrdinary (all_of ts)
all_to [] h = tt
all_to (t ∷ ts) h = (h.0, all_to ts h.1)

filtered : (holds : Thing → Bool) → ((t : Thing) → holds t ≡ true → IsOrdinary t) → (ts : List Thing) → AllByRecursion IsOrdinary (filter holds ts)
filtered holds f [] = tt
filtered holds f (t ∷ ts) = by_test (filtered holds f ts) (holds t) refl
  where
    by_test : AllByRecursion IsOrdinary (filter holds ts) → (b : Bool) → holds t ≡ b → AllByRecursion IsOrdinary (if b then t ∷ filter holds ts else filter holds ts)
    by_test later true e = (f t e, later)
    by_test later false e = later

members_to : (p : FirstObjects) (holds : Thing → Bool) → ((t : Thing) → holds t ≡ true → IsOrdinary t) → AllByRecursion ToOrdinary (members p holds)
members_to p holds f = all_to (filter holds p.order.things) (filtered holds f p.order.things)

numbered_ordinary : (w : What) (from count : ℕ) → is_ordinary w ≡ true → AllByRecursion IsOrdinary (numbered_from w from count)
unfolding numbered_from
numbered_ordinary w from zero h = tt
numbered_ordinary w from (suc count) h = (h, numbered_ordinary w (suc from) count h)

characters_to : AllByRecursion ToOrdinary (all_of characters)
unfolding characters
characters_to = all_to (numbered_from what.Character 0 256) (numbered_ordinary what.Character 0 256 refl)

lists_to : AllByRecursion ToOrdinary (all_of lists)
unfolding lists
lists_to = all_to (numbered_from what.List 0 8) (numbered_ordinary what.List 0 8 refl)

selectors_to : (ss : List (List ℕ × ℕ)) → AllByRecursion ToOrdinary (selector_fields ss)
selectors_to [] = tt
selectors_to (s ∷ ss) = (refl, (tt, selectors_to ss))

padded_to : (places : ℕ) (fs : List Field) → AllByRecursion ToOrdinary fs → AllByRecursion ToOrdinary (padded places fs)
padded_to zero fs h = tt
padded_to (suc places) [] h = (tt, padded_to places [] tt)
padded_to (suc places) (f ∷ fs) h = (h.0, padded_to places fs h.1)

empties_to : (n : ℕ) → AllByRecursion ToOrdinary (replicate n Empty)
empties_to zero = tt
empties_to (suc n) = (tt, empties_to n)

variables_to : (number : ℕ) (names : List (List ℕ)) → AllByRecursion IsOrdinary (map (within what.Variable number) names)
variables_to number [] = tt
variables_to number (name ∷ names) = (refl, variables_to number names)

instance_to : (name : List ℕ) (s : Shape) (n : ℕ) → OfOrdinary (instance name s n).body
instance_to name shape.Fixed n = empties_to n
instance_to name shape.Indexed n = empties_to n
instance_to name shape.Words n = tt
instance_to name shape.Bytes n = tt

instance_class : (name : List ℕ) (s : Shape) (n : ℕ) → IsOrdinary (instance name s n).class
instance_class name shape.Fixed n = refl
instance_class name shape.Indexed n = refl
instance_class name shape.Words n = refl
instance_class name shape.Bytes n = refl

superclass_to : (above : List ℕ) → ToOrdinary (superclass above)
superclass_to above = by_test (is_nil above)
  where
    by_test : (b : Bool) → ToOrdinary (if b then Empty else To (class_thing above))
    by_test true = tt
    by_test false = refl

meta_to : (above : List ℕ) → ToOrdinary (meta_superclass above)
meta_to above = by_test (is_nil above)
  where
    by_test : (b : Bool) → ToOrdinary (To (if b then class_thing (codes "Class") else named what.Metaclass above))
    by_test true = refl
    by_test false = refl

eight_to : AllByRecursion ToOrdinary (replicate 8 Empty)
eight_to = empties_to 8

-- CONTENTS

pub content_to : (p : FirstObjects) (w : What) (name : List ℕ) (number : ℕ) → is_ordinary w ≡ true → OfOrdinary (content_of p w name number).body
content_to p what.Nil name number h = instance_to (codes "UndefinedObject") _ _
content_to p what.False name number h = instance_to (codes "False") _ _
content_to p what.True name number h = instance_to (codes "True") _ _
content_to p what.SchedulerAssociation name number h = cc
content_to p what.Selectors name number h = selectors_to selectors
content_to p what.Characters name number h = characters_to
content_to p what.Character name number h = (tt, tt)
content_to p what.Symbols name number h = (tt, (refl, tt))
content_to p what.SymbolTable name number h = padded_to number _ (members_to p (is what.Symbol) (λ t e. alike t.what what.Symbol e refl))
content_to p what.Globals name number h = members_to p (is what.Global) (λ t e. alike t.what what.Global e refl)
content_to p what.Class name number h = (superclass_to (declared p name).above, (refl, (tt, (tt, (refl, (tt, (refl, (refl, (tt, tt)))))))))
content_to p what.Metaclass name number h = (meta_to (declared p name).above, (refl, (tt, (tt, (tt, (tt, (refl, tt)))))))
content_to p what.Dictionary name number h = (tt, (refl, eight_to))
content_to p what.Methods name number h = eight_to
content_to p what.MetaDictionary name number h = (tt, (refl, eight_to))
content_to p what.MetaMethods name number h = eight_to
content_to p what.Symbol name number h = tt
content_to p what.Names name number h = all_to _ (variables_to (declared p name).number (declared p name).variables)
content_to p what.Variable name number h = tt
content_to p what.Pool name number h = members_to p (is_shared_of p name) (λ t e. alike t.what what.Shared (both_true _ _ e) refl)
content_to p what.Shared name number h = (refl, (tt, tt))
content_to p what.Global name number h = (refl, (refl, tt))
content_to p what.Scheduler name number h = cc
content_to p what.Lists name number h = lists_to
content_to p what.List name number h = (tt, (tt, tt))

pub class_ordinary : (p : FirstObjects) (w : What) (name : List ℕ) (number : ℕ) → IsOrdinary (content_of p w name number).class
class_ordinary p what.Nil name number = instance_class (codes "UndefinedObject") (declared p (codes "UndefinedObject")).shape (declared p (codes "UndefinedObject")).fields
class_ordinary p what.False name number = instance_class (codes "False") (declared p (codes "False")).shape (declared p (codes "False")).fields
class_ordinary p what.True name number = instance_class (codes "True") (declared p (codes "True")).shape (declared p (codes "True")).fields
class_ordinary p what.SchedulerAssociation name number = refl
class_ordinary p what.Selectors name number = refl
class_ordinary p what.Characters name number = refl
class_ordinary p what.Character name number = refl
class_ordinary p what.Symbols name number = refl
class_ordinary p what.SymbolTable name number = refl
class_ordinary p what.Globals name number = refl
class_ordinary p what.Class name number = refl
class_ordinary p what.Metaclass name number = refl
class_ordinary p what.Dictionary name number = refl
class_ordinary p what.Methods name number = refl
class_ordinary p what.MetaDictionary name number = refl
class_ordinary p what.MetaMethods name number = refl
class_ordinary p what.Symbol name number = refl
class_ordinary p what.Names name number = refl
class_ordinary p what.Variable name number = refl
class_ordinary p what.Pool name number = refl
class_ordinary p what.Shared name number = refl
class_ordinary p what.Global name number = refl
class_ordinary p what.Scheduler name number = refl
class_ordinary p what.Lists name number = refl
class_ordinary p what.List name number = refl

-- THE ORDER

-- the root page comes first
pub paged : (text : Account) (i : ℕ) (x : Thing) → slice_get (want_all empty page).things i ≡ Some x → slice_get (order text).things i ≡ Some x
paged text i x e = let b = page_begins text in ap (λ ts. slice_get ts i) b.is ∙ got_before (want_all empty page).things b.rest i x e

found_in : (t : Thing) (xs ys : List Thing) → list_any (same t) xs ≡ true → list_any (same t) (xs ++ ys) ≡ true
found_in t [] ys e = cc
found_in t (x ∷ xs) ys e = by_test (found_in t xs ys) (same t x) e
  where
    by_test : (list_any (same t) xs ≡ true → list_any (same t) (xs ++ ys) ≡ true) → (b : Bool) → (b || list_any (same t) xs) ≡ true → (b || list_any (same t) (xs ++ ys)) ≡ true
    by_test later true f = refl
    by_test later false f = later f

found_last : (t : Thing) (xs : List Thing) → same t t ≡ true → list_any (same t) (xs ++ t ∷ []) ≡ true
found_last t [] e = rw e refl
found_last t (x ∷ xs) e = by_test (found_last t xs e) (same t x)
  where
    by_test : list_any (same t) (xs ++ t ∷ []) ≡ true → (b : Bool) → (b || list_any (same t) (xs ++ t ∷ [])) ≡ true
    by_test later true = refl
    by_test later false = later

put_made : (o : Order) (t : Thing) → same t t ≡ true → is_made (put o t) t ≡ true
put_made o t e = by_test (is_made o t) refl
  where
    by_test : (b : Bool) → is_made o t ≡ b → is_made (if b then o else record { things = o.things ++ t ∷ []; symbols = o.symbols; places = o.places }) t ≡ true
    by_test true f = f
    by_test false f = found_last t o.things e

want_made : (o : Order) → is_made (want o (only what.Scheduler)) (only what.Scheduler) ≡ true
unfolding want
want_made o = by_test (not (is_made o (only what.Scheduler)))
  where
    by_test : (b : Bool) → is_made (if b && false then with_symbol (put o (only what.Scheduler)) else put o (only what.Scheduler)) (only what.Scheduler) ≡ true
    by_test true = put_made o (only what.Scheduler) refl
    by_test false = put_made o (only what.Scheduler) refl

-- the scheduler is made
pub scheduler_made : (text : Account) → list_any (same (only what.Scheduler)) (order text).things ≡ true
scheduler_made text =
    let d = want_parts text.names (first_things empty) 0 text.parts in
    let a = want_all d (selector_symbols selectors) in
    let b = want a (only what.Scheduler) in
    let e = want b (only what.Lists) in
    let h = further b e (want_all e lists) (all_begins b (only what.Lists ∷ [])) (all_begins e lists) in
    ap (list_any (same (only what.Scheduler))) h.is ∙ found_in (only what.Scheduler) b.things h.rest (want_made a)

-- so it has a position
first_place : (t : Thing) (xs : List Thing) → list_any (same t) xs ≡ true → position_or_len (same t) xs < length xs
first_place t [] e = cc
first_place t (x ∷ xs) e = by_test (first_place t xs) (same t x) e
  where
    by_test : (list_any (same t) xs ≡ true → position_or_len (same t) xs < length xs) → (b : Bool) → (b || list_any (same t) xs) ≡ true
        → (if not b then 1 + position_or_len (same t) xs else 0) < suc (length xs)
    by_test later true f = omega arith
    by_test later false f = let l = later f in omega (arith, l)

pub position_of : (t : Thing) (xs : List Thing) → list_any (same t) xs ≡ true → position (same t) xs ≡ Some (position_or_len (same t) xs)
position_of t xs e = let l = lt-ltb (position_or_len (same t) xs) (length xs) (first_place t xs e) in rw l refl

-- the thing at a position is the same
pub at_position : (t : Thing) (xs : List Thing) (i : ℕ) → position (same t) xs ≡ Some i → (y : Thing) × (slice_get xs i ≡ Some y) × (same t y ≡ true)
at_position t xs i e = let h = position-Some (same t) xs i t e in (get_or xs i t, slice_get-get_or xs i t h.0, h.1)

-- what is the same as the scheduler is one
pub is_scheduler : (y : Thing) → same (only what.Scheduler) y ≡ true → y.what ≡ what.Scheduler
is_scheduler y e = sym (same_true the_type tt what.Scheduler y.what (both_true _ _ e))

pub not_ordinary : (y : Thing) → same (only what.Scheduler) y ≡ true → IsOrdinary y → ⊥
not_ordinary y e h = let q : is_ordinary what.Scheduler ≡ true = subst (λ w. is_ordinary w ≡ true) (is_scheduler y e) h in cc
