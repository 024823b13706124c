-- The births of the first objects have a scheduler, to which nothing leads but the root page.
use Rattle.std.proofs.Common.{◌≡◌, ◌≢◌, ℕ, zero, suc, ◌+◌, ◌<◌, ◌≤◌, Bool, true, List, [], ◌∷◌, ◌++◌, length, Option, Some, None, is_some, refl, sym, ap, subst, ◌∙◌, arith, ◌⊎◌, inl, inr, drop}
use Rattle.std.specs.Prelude.{slice_get, slice_set, get_or, map, codes, replicate, nat_le, ◌&&◌, pos}
use Rattle.std.specs.List.{AllByRecursion, position, position_or_len}
use Rattle.std.proofs.lemmas.Bool.{cases_eq, and_parts}
use Rattle.std.proofs.lemmas.Option.{slice_get-get_or}
use Rattle.st_model.specs.Limits.{most_words}
use Rattle.st_model.specs.declared.page.PageObject.{PageObject}
use Rattle.st_model.specs.declared.page.PageObject.TheVariants.{NilObject, FalseObject, TrueObject, SchedulerAssociation, SmallIntegerClass, StringClass, ArrayClass, MethodContextClass, BlockContextClass, PointClass, LargeClass, MessageClass, MethodClass, CharacterClass, NotUnderstood, CannotReturn, Selectors, Characters, MustBeBoolean, SymbolClass}
use Rattle.st_model.specs.Values.{Value, Small, Ref, renamed, renamed_all, IsLive, AllLive}
use Rattle.st_model.specs.Objects.{Object, place_of, is_pointers, words_of, renamed_object, IsLiveObject}
use Rattle.st_model.specs.Machine.{State, Head, Registers, table_root, empty_world}
use Rattle.st_model.specs.Births.{Births, object_born, borne, bearer}
use Rattle.st_model.specs.Table.{Table, entry}
use Rattle.st_model.specs.Show.{pointer_of, renamed_option, IsKept, Shows, IsClosed, rank, raised}
use Rattle.st_model.specs.View.{View, IsComplete, empty_view, with_object}
use Rattle.st_model.specs.Start.{idle_state}
use Rattle.st_model.proofs.BirthLemmas.{pointer_of-borne, borne_before, object_there}
use Rattle.st_model.proofs.Raised.{raised_shown}
use Rattle.st_frames.proofs.Closed.{closed_idle}
use Rattle.st_simulation.proofs.Same.{IsLiveOption, length-renamed}
use Rattle.st_kernel_text.specs.Texts.{Account}
use Rattle.st_first_objects.specs.declared.thing.What.{What}
use Rattle.st_first_objects.specs.declared.thing.What.TheVariants as what
use Rattle.st_first_objects.specs.Things.{Thing, only, same, class as class_thing, symbol}
use Rattle.st_first_objects.specs.Orders.{want, want_all, empty, page}
use Rattle.st_first_objects.specs.Plans.{FirstObjects, plan}
use Rattle.st_first_objects.specs.Contents.{Field, Empty, Number, To, Body, Fields, Bytes, NoWords, content_of, content}
use Rattle.st_first_objects.specs.Pointers.{place, place_at, place_in, value_in, object, object_by, object_in}
use Rattle.st_first_objects.specs.First.{head_in, first_view, fit_beside, has_room}
use Rattle.st_first_objects.specs.inside.Placing.{Underway, IsBegun}
use Rattle.st_first_objects.proofs.Complete.{first_methods, first_many, complete, made}
use Rattle.st_first_objects.proofs.Lists.{drop_got}
use Rattle.st_first_objects.proofs.Places.{same_turn, place_within}
use Rattle.st_first_objects.proofs.Underway.{begins, goes_on}
use Rattle.st_kernel.proofs.Keeping.{IsIn, IsOther, Leads}
use Rattle.st_kernel.proofs.KeepingInstalls.{Fixed}
use Rattle.st_kernel.proofs.Guarded.{Holds}
use Rattle.st_kernel.proofs.Lost.{IsScheduled}
use Rattle.st_kernel.proofs.FirstThings.{is_ordinary, IsOrdinary, ToOrdinary, OfOrdinary, same_ordinary, content_to, class_ordinary, paged, scheduler_made, position_of, at_position, not_ordinary, is_scheduler}
use Rattle.st_resolved.proofs.Fitting.{at_most}
use Rattle.st_model.proofs.Entries.{entry-set_same, entry-set_other}

-- EACH THING'S OBJECT AT ITS PLACE

pub record IsAt (p : FirstObjects) (k : ℕ) (o : Object) : Type 0 where
  pub turn : ℕ
  pub thing : Thing
  pub at_place : k ≡ place turn
  pub is_thing : slice_get p.order.things turn ≡ Some thing
  pub is_object : o ≡ object p thing

abbrev pub AreAt : FirstObjects → Table → Type 0
AreAt p t = (k : ℕ) (o : Object) → entry t k ≡ Some o → IsAt p k o

module _ (p : FirstObjects) (begun : View) (is : IsBegun p begun) where
  abbrev Done : Type 0
  Done = (v : View) × (used : ℕ) × Underway p begun v used (length p.order.things) × AreAt p v.objects

  abbrev puts : View → ℕ → Object → View
  puts v k o = record v { objects = with_object v.objects (Ref k) o }

  at_more : (v : View) (used i : ℕ) (u : Underway p begun v used i) (x : Thing) → slice_get p.order.things i ≡ Some x → i < 32767 → AreAt p v.objects → AreAt p (puts v (place i) (object p x)).objects
  unfolding with_object
  at_more v used i u x got few at k o e = by_place (cases_eq k (place i))
    where
      by_place : ((k ≡ place i) ⊎ (k ≢ place i)) → IsAt p k o
      by_place (inl q) =
          let w = (place_within i few).1 in
          let l = u.places in
          let r : Some (object p x) ≡ Some o = sym (entry-set_same v.objects (place i) (Some (object p x)) (omega (arith, w, l))) ∙ (ap (entry (slice_set v.objects (place i) (Some (object p x)))) (sym q) ∙ e) in
          let same_object : o ≡ object p x = cc in
          record { turn = i; thing = x; at_place = q; is_thing = got; is_object = same_object }
      by_place (inr d) = at k o (sym (entry-set_other v.objects (place i) k (Some (object p x)) d) ∙ e)

  module _ (room : fit_beside p 0 p.order.things ≡ true) where
    place_all : (left i used : ℕ) (v : View) → i + left ≡ length p.order.things → Underway p begun v used i → AreAt p v.objects → Done
    place_all zero i used v l u at = let e : i ≡ length p.order.things = omega (arith, l) in (v, used, subst (Underway p begun v used) e u, at)
    place_all (suc left) i used v l u at =
        let x = get_or p.order.things i (only what.Nil) in
        let got : slice_get p.order.things i ≡ Some x = slice_get-get_or p.order.things i (only what.Nil) (omega (arith, l)) in
        let few = is.few in
        let f : fit_beside p used (x ∷ drop (i + 1) p.order.things) ≡ true = sym (u.fits ∙ ap (fit_beside p used) (drop_got p.order.things i x got)) ∙ room in
        let a = and_parts (nat_le (words_of (object p x)) 65535) _ f in
        let b = and_parts (nat_le (used + words_of (object p x)) most_words) _ a.1 in
        let next = goes_on p begun v used i is u x got (puts v (place i) (object p x)) (used + words_of (object p x)) (record { objects = refl; held = refl; head = refl }) refl (at_most _ _ a.0) (at_most _ _ b.0) in
        place_all left (i + 1) (used + words_of (object p x)) (puts v (place i) (object p x)) (omega (arith, l)) next (at_more v used i u x got (omega (arith, l, few)) at)

    none_there : (n k : ℕ) (o : Object) → entry (replicate n None) k ≢ Some o
    none_there zero k o e = cc
    none_there (suc n) zero o e = cc
    none_there (suc n) (suc k) o e = none_there n k o e

    all_placed : Done
    all_placed = place_all (length p.order.things) 0 0 begun (omega arith) (begins p begun is) (λ k o e. absurd (none_there 32768 k o (ap (λ t. entry t k) (sym is.objects) ∙ e)))

-- what is known of the first objects
pub record Placed (text : Account) : Type 0 where
  pub complete : IsComplete (first_view text)
  pub at : AreAt (plan text) (first_view text).objects
  pub places : length (first_view text).objects ≡ 32768
  pub live : (j : ℕ) → j < length (plan text).order.things → is_some (entry (first_view text).objects (place j)) ≡ true
  pub head : (first_view text).head ≡ head_in (plan text).order.things

pub placed : (text : Account) → has_room text ≡ true → Placed text
unfolding empty_view
placed text room =
    let p = plan text in
    let r = and_parts (nat_le (length p.order.things) 32767) _ room in
    let begun = empty_view (head_in p.order.things) in
    let is : IsBegun p begun = record { objects = refl; entries = refl; words = refl; few = at_most _ _ r.0; methods = first_methods text } in
    let d = all_placed p begun is r.1 in
    let u = d.2 in
    let e : d.0 ≡ first_view text = made p begun d.0 d.1 u (first_many text) refl in
    let first : (IsComplete d.0 × AreAt p d.0.objects) × ((length d.0.objects ≡ 32768) × ((j : ℕ) → j < length p.order.things → is_some (entry d.0.objects (place j)) ≡ true)) × (d.0.head ≡ head_in p.order.things) =
    ((complete p begun d.0 d.1 u (first_many text) refl, d.3), (u.places, u.live), u.head) in
    let w = subst (λ (v : View). (IsComplete v × AreAt p v.objects) × ((length v.objects ≡ 32768) × ((j : ℕ) → j < length p.order.things → is_some (entry v.objects (place j)) ≡ true)) × (v.head ≡ head_in p.order.things)) e first in
    record { complete = w.0.0; at = w.0.1; places = w.1.0; live = w.1.1; head = w.2 }

-- THE BIRTHS

head_same : (a b : Value) (xs ys : List Value) → a ∷ xs ≡ b ∷ ys → a ≡ b
head_same a b xs ys q = cc

tail_same : (a b : Value) (xs ys : List Value) → a ∷ xs ≡ b ∷ ys → xs ≡ ys
tail_same a b xs ys q = cc

-- the place of an ordinary thing
record IsOrdinaryPlace (p : FirstObjects) (k : ℕ) : Type 0 where
  turn : ℕ
  thing : Thing
  at_place : k ≡ place turn
  is_thing : slice_get p.order.things turn ≡ Some thing
  ordinary : IsOrdinary thing

-- a kept birth that bears one
abbrev Among : FirstObjects → Births → ℕ → Type 0
Among p h n = (k : ℕ) × (borne h n ≡ Some k) × IsOrdinaryPlace p k

nil_paged : slice_get (want_all empty page).things 0 ≡ Some (only what.Nil)
unfolding want page
nil_paged = refl

association_paged : slice_get (want_all empty page).things 3 ≡ Some (only what.SchedulerAssociation)
unfolding want page
association_paged = refl

place_0 : 1 ≡ place 0
unfolding place
place_0 = refl

place_3 : 4 ≡ place 3
unfolding place
place_3 = refl

module _ (text : Account) (first : Placed text) where
  abbrev p : FirstObjects
  p = plan text

  abbrev things : List Thing
  things = p.order.things

  ordinary_place : (t : Thing) → IsOrdinary t → IsOrdinaryPlace p (place_in things t)
  unfolding place_in
  ordinary_place t h = by_position (position (same t) things) refl
    where
      by_position : (o : Option ℕ) → position (same t) things ≡ o → IsOrdinaryPlace p (place_at o)
      by_position None e = record { turn = 0; thing = only what.Nil; at_place = place_0; is_thing = paged text 0 (only what.Nil) nil_paged; ordinary = refl }
      by_position (Some i) e =
          let a = at_position t things i e in
          record { turn = i; thing = a.0; at_place = refl; is_thing = a.1; ordinary = same_ordinary t a.0 a.2 h }

  abbrev c : State Table
  c = idle_state (first_view text)

  abbrev s : State Births
  s = raised c

  abbrev h : Births
  h = s.memory

  closed : IsClosed c
  closed = closed_idle (first_view text) first.complete

  shows : Shows c s
  shows = raised_shown c closed

  abbrev f : ℕ → ℕ
  f = pointer_of h

  -- what is kept and has an ordinary place
  kept_among : (n : ℕ) → IsKept h n → IsOrdinaryPlace p (f n) → Among p h n
  kept_among n k o = let q = pointer_of-borne h n k.0 k.1 in (k.0, k.1, subst (IsOrdinaryPlace p) q o)

  fields_among : (vs : List Value) (fs : List Field) → AllByRecursion ToOrdinary fs → AllLive (IsKept h) vs → renamed_all f vs ≡ map (value_in things) fs → AllLive (Among p h) vs
  fields_among [] fs t l e = tt
  fields_among (v ∷ vs) [] t l e = cc
  fields_among (Small n ∷ vs) (g ∷ fs) t l e = (tt, fields_among vs fs t.1 l.1 (tail_same _ _ _ _ e))
  fields_among (Ref n ∷ vs) (g ∷ fs) t l e = (kept_among n l.0 (by_field g t.0 (head_same _ _ _ _ e)), fields_among vs fs t.1 l.1 (tail_same _ _ _ _ e))
    where
      by_field : (g : Field) → ToOrdinary g → Ref (f n) ≡ value_in things g → IsOrdinaryPlace p (f n)
      by_field Empty u q = let r : 1 ≡ f n = cc in subst (IsOrdinaryPlace p) r (record { turn = 0; thing = only what.Nil; at_place = place_0; is_thing = paged text 0 (only what.Nil) nil_paged; ordinary = refl })
      by_field (Number m) u q = cc
      by_field (To x) u q = let r : place_in things x ≡ f n = cc in subst (IsOrdinaryPlace p) r (ordinary_place x u)

  object_among : (o : Object) (x : Thing) → IsOrdinary x → IsLiveObject (IsKept h) o → renamed_object f o ≡ object p x → IsIn (Among p h) o
  unfolding object
  object_among o x t l e = by_body (content p x).body (content_to p x.what x.name x.number t) e
    where
      by_body : (b : Body) → OfOrdinary b → renamed_object f o ≡ object_by things (place_in things (content p x).class) b → IsIn (Among p h) o
      by_body (Fields fs) u q = record {
        class = kept_among o.class l.class (subst (IsOrdinaryPlace p) (sym (ap (λ (y : Object). y.class) q)) (ordinary_place (content p x).class (class_ordinary p x.what x.name x.number)));
        fields = λ r. fields_among o.fields fs u l.fields (ap (λ (y : Object). y.fields) q);
      }
      by_body (Bytes bs) u q = record {
        class = kept_among o.class l.class (subst (IsOrdinaryPlace p) (sym (ap (λ (y : Object). y.class) q)) (ordinary_place (content p x).class (class_ordinary p x.what x.name x.number)));
        fields = λ r. let w = ap (λ (y : Object). is_pointers y.kind) q in absurd (cc);
      }
      by_body NoWords u q = record {
        class = kept_among o.class l.class (subst (IsOrdinaryPlace p) (sym (ap (λ (y : Object). y.class) q)) (ordinary_place (content p x).class (class_ordinary p x.what x.name x.number)));
        fields = λ r. let w = ap (λ (y : Object). is_pointers y.kind) q in absurd (cc);
      }

  -- a thing by its turn
  one_thing : (i j : ℕ) (x y : Thing) → place i ≡ place j → slice_get things i ≡ Some x → slice_get things j ≡ Some y → x ≡ y
  one_thing i j x y e g k = let q = same_turn i j e in let r : Some x ≡ Some y = sym g ∙ (ap (slice_get things) q ∙ k) in cc

  birth_among : (n : ℕ) (o : Object) → Among p h n → object_born h n ≡ Some o → IsIn (Among p h) o
  birth_among n o m e =
      let k = m.0 in
      let b = m.1 in
      let w = m.2 in
      let shown = shows.objects n k o b e in
      let a = first.at k (renamed_object f o) shown in
      let same_thing = one_thing a.turn w.turn a.thing w.thing (sym a.at_place ∙ w.at_place) a.is_thing w.is_thing in
      object_among o a.thing (subst IsOrdinary (sym same_thing) w.ordinary) (shows.closed n k o b e) a.is_object

  page_place : (q : PageObject) → IsOther q → IsOrdinaryPlace p (place_of q)
  unfolding want page place
  page_place NilObject o = record { turn = 0; thing = only what.Nil; at_place = refl; is_thing = paged text 0 _ refl; ordinary = refl }
  page_place FalseObject o = record { turn = 1; thing = only what.False; at_place = refl; is_thing = paged text 1 _ refl; ordinary = refl }
  page_place TrueObject o = record { turn = 2; thing = only what.True; at_place = refl; is_thing = paged text 2 _ refl; ordinary = refl }
  page_place SchedulerAssociation o = absurd o
  page_place SmallIntegerClass o = record { turn = 4; thing = class_thing (codes "SmallInteger"); at_place = refl; is_thing = paged text 4 _ refl; ordinary = refl }
  page_place StringClass o = record { turn = 5; thing = class_thing (codes "String"); at_place = refl; is_thing = paged text 5 _ refl; ordinary = refl }
  page_place ArrayClass o = record { turn = 6; thing = class_thing (codes "Array"); at_place = refl; is_thing = paged text 6 _ refl; ordinary = refl }
  page_place MethodContextClass o = record { turn = 7; thing = class_thing (codes "MethodContext"); at_place = refl; is_thing = paged text 7 _ refl; ordinary = refl }
  page_place BlockContextClass o = record { turn = 8; thing = class_thing (codes "BlockContext"); at_place = refl; is_thing = paged text 8 _ refl; ordinary = refl }
  page_place PointClass o = record { turn = 9; thing = class_thing (codes "Point"); at_place = refl; is_thing = paged text 9 _ refl; ordinary = refl }
  page_place LargeClass o = record { turn = 10; thing = class_thing (codes "LargePositiveInteger"); at_place = refl; is_thing = paged text 10 _ refl; ordinary = refl }
  page_place MessageClass o = record { turn = 11; thing = class_thing (codes "Message"); at_place = refl; is_thing = paged text 11 _ refl; ordinary = refl }
  page_place MethodClass o = record { turn = 12; thing = class_thing (codes "CompiledMethod"); at_place = refl; is_thing = paged text 12 _ refl; ordinary = refl }
  page_place CharacterClass o = record { turn = 13; thing = class_thing (codes "Character"); at_place = refl; is_thing = paged text 13 _ refl; ordinary = refl }
  page_place NotUnderstood o = record { turn = 14; thing = symbol (codes "doesNotUnderstand:"); at_place = refl; is_thing = paged text 14 _ refl; ordinary = refl }
  page_place CannotReturn o = record { turn = 15; thing = symbol (codes "cannotReturn:"); at_place = refl; is_thing = paged text 15 _ refl; ordinary = refl }
  page_place Selectors o = record { turn = 16; thing = only what.Selectors; at_place = refl; is_thing = paged text 16 _ refl; ordinary = refl }
  page_place Characters o = record { turn = 17; thing = only what.Characters; at_place = refl; is_thing = paged text 17 _ refl; ordinary = refl }
  page_place MustBeBoolean o = record { turn = 18; thing = symbol (codes "mustBeBoolean"); at_place = refl; is_thing = paged text 18 _ refl; ordinary = refl }
  page_place SymbolClass o = record { turn = 19; thing = class_thing (codes "Symbol"); at_place = refl; is_thing = paged text 19 _ refl; ordinary = refl }

  first_leads : Leads (Among p h) h
  first_leads = record { objects = λ n o k e. birth_among n o k e; page = λ q o. (place_of q, shows.page q, page_place q o) }

  -- THE ASSOCIATION

  abbrev one : ℕ
  one = bearer h 4

  one_borne : borne h one ≡ Some 4
  one_borne = shows.page SchedulerAssociation

  one_there : (o : Object) × object_born h one ≡ Some o
  one_there = object_there h one (borne_before h one 4 one_borne)

  abbrev A : Object
  A = one_there.0

  one_is : renamed_object f A ≡ object p (only what.SchedulerAssociation)
  one_is =
      let a = first.at 4 (renamed_object f A) (shows.objects one 4 A one_borne one_there.1) in
      a.is_object ∙ ap (object p) (one_thing a.turn 3 a.thing (only what.SchedulerAssociation) (sym a.at_place ∙ place_3) a.is_thing (paged text 3 _ association_paged))

  abbrev pS : ℕ
  pS = place_in things (only what.Scheduler)

  one_fields : renamed_all f A.fields ≡ Ref 1 ∷ Ref pS ∷ []
  unfolding object
  one_fields = ap (λ (y : Object). y.fields) one_is

  one_pointers : is_pointers A.kind ≡ true
  unfolding object
  one_pointers = ap (λ (y : Object). is_pointers y.kind) one_is

  record HasTwo (vs : List Value) (k : ℕ) : Type 0 where
    key : Value
    name : ℕ
    fields : vs ≡ key ∷ Ref name ∷ []
    named : f name ≡ k

  has_two : (vs : List Value) (a : Value) (k : ℕ) → renamed_all f vs ≡ a ∷ Ref k ∷ [] → HasTwo vs k
  has_two [] a k e = cc
  has_two (v ∷ []) a k e = cc
  has_two (v ∷ Small n ∷ vs) a k e = cc
  has_two (v ∷ Ref n ∷ []) a k e = record { key = v; name = n; fields = refl; named = cc }
  has_two (v ∷ Ref n ∷ w ∷ vs) a k e = cc

  two : HasTwo A.fields pS
  two = has_two A.fields (Ref 1) pS one_fields

  -- THE SCHEDULER

  abbrev other : ℕ
  other = two.name

  second_kept : (vs : List Value) → vs ≡ two.key ∷ Ref other ∷ [] → AllLive (IsKept h) vs → IsKept h other
  second_kept vs e l = (subst (AllLive (IsKept h)) e l).1.0

  other_kept : IsKept h other
  other_kept = second_kept A.fields two.fields (shows.closed one 4 A one_borne one_there.1).fields

  other_borne : borne h other ≡ Some pS
  other_borne = other_kept.1 ∙ ap (λ k. Some k) (sym (pointer_of-borne h other other_kept.0 other_kept.1) ∙ two.named)

  abbrev turn : ℕ
  turn = position_or_len (same (only what.Scheduler)) things

  turn_is : position (same (only what.Scheduler)) things ≡ Some turn
  turn_is = position_of (only what.Scheduler) things (scheduler_made text)

  pS_is : pS ≡ place turn
  unfolding place_in
  pS_is = ap place_at turn_is

  abbrev y : Thing
  y = (at_position (only what.Scheduler) things turn turn_is).0

  y_there : slice_get things turn ≡ Some y
  y_there = (at_position (only what.Scheduler) things turn turn_is).1

  y_same : same (only what.Scheduler) y ≡ true
  y_same = (at_position (only what.Scheduler) things turn turn_is).2

  other_there : (o : Object) × object_born h other ≡ Some o
  other_there = object_there h other (borne_before h other pS other_borne)

  abbrev B : Object
  B = other_there.0

  other_is : renamed_object f B ≡ object p y
  other_is =
      let a = first.at pS (renamed_object f B) (shows.objects other pS B other_borne other_there.1) in
      a.is_object ∙ ap (object p) (one_thing a.turn turn a.thing y (sym a.at_place ∙ pS_is) a.is_thing y_there)

  scheduler_form : (w : What) (name : List ℕ) (number : ℕ) → w ≡ what.Scheduler
      → (is_pointers (object_in things (content_of p w name number)).kind ≡ true) × (length (object_in things (content_of p w name number)).fields ≡ 2)
  scheduler_form w name number e =
      subst (λ x. (is_pointers (object_in things (content_of p x name number)).kind ≡ true) × (length (object_in things (content_of p x name number)).fields ≡ 2)) (sym e) (refl, refl)

  y_form : (is_pointers (object p y).kind ≡ true) × (length (object p y).fields ≡ 2)
  unfolding object
  y_form = scheduler_form y.what y.name y.number (is_scheduler y y_same)

  other_pointers : is_pointers B.kind ≡ true
  other_pointers = ap (λ (x : Object). is_pointers x.kind) other_is ∙ y_form.0

  other_long : length B.fields ≡ 2
  other_long = sym (length-renamed f B.fields) ∙ (ap (λ (x : Object). length x.fields) other_is ∙ y_form.1)

  -- nothing ordinary is one of them

  same_some : (k j : ℕ) → Some k ≡ Some j → k ≡ j
  same_some k j e = cc

  not_one : (n : ℕ) → Among p h n → n ≢ one
  not_one n m e =
      let k = m.0 in
      let b = m.1 in
      let w = m.2 in
      let q : k ≡ 4 = same_some k 4 (sym b ∙ (ap (borne h) e ∙ one_borne)) in
      let r = one_thing w.turn 3 w.thing (only what.SchedulerAssociation) (sym w.at_place ∙ (q ∙ place_3)) w.is_thing (paged text 3 _ association_paged) in
      let o : is_ordinary what.SchedulerAssociation ≡ true = subst IsOrdinary r w.ordinary in
      cc

  not_other : (n : ℕ) → Among p h n → n ≢ other
  not_other n m e =
      let k = m.0 in
      let b = m.1 in
      let w = m.2 in
      let q : k ≡ pS = same_some k pS (sym b ∙ (ap (borne h) e ∙ other_borne)) in
      let r = one_thing w.turn turn w.thing y (sym w.at_place ∙ (q ∙ pS_is)) w.is_thing y_there in
      not_ordinary y y_same (subst IsOrdinary r w.ordinary)

  two_births : one ≢ other
  two_births e =
      let q : 4 ≡ pS = same_some 4 pS (sym one_borne ∙ (ap (borne h) e ∙ other_borne)) in
      let r = one_thing 3 turn (only what.SchedulerAssociation) y (sym place_3 ∙ (q ∙ pS_is)) (paged text 3 _ association_paged) y_there in
      let o : same (only what.Scheduler) (only what.SchedulerAssociation) ≡ true = ap (same (only what.Scheduler)) r ∙ y_same in
      cc

  -- THE ROOTS

  heads_live : (a b : Option Value) (x w : Value) (rest : List Value) → a ≡ Some x → b ≡ Some w → AllLive (IsKept h) ((table_root a ++ table_root b) ++ rest) → IsLive (IsKept h) x × IsLive (IsKept h) w
  heads_live None b x w rest e g l = cc
  heads_live (Some v) None x w rest e g l = cc
  heads_live (Some v) (Some u) x w rest e g l = let q : v ≡ x = cc in let r : u ≡ w = cc in (subst (IsLive (IsKept h)) q l.0, subst (IsLive (IsKept h)) r l.1.0)

  abbrev born_as : ℕ → ℕ
  born_as = rank c.memory

  globals_are : s.head.globals ≡ Some (Ref (born_as (place_in things (only what.Globals))))
  unfolding raised
  globals_are = ap (λ (a : Head). renamed_option born_as a.globals) first.head

  symbols_are : s.head.symbols ≡ Some (Ref (born_as (place_in things (only what.Symbols))))
  unfolding raised
  symbols_are = ap (λ (a : Head). renamed_option born_as a.symbols) first.head

  roots_live : IsKept h (born_as (place_in things (only what.Globals))) × IsKept h (born_as (place_in things (only what.Symbols)))
  roots_live = heads_live s.head.globals s.head.symbols _ _ _ globals_are symbols_are shows.roots.1.1.1.1

  named_back : (a b : Option Value) (k m : ℕ) → a ≡ Some (Ref k) → b ≡ Some (Ref m) → a ≡ renamed_option f b → k ≡ f m
  named_back a b k m e g q = let r : Some (Ref k) ≡ Some (Ref (f m)) = sym e ∙ (q ∙ ap (renamed_option f) g) in cc

  root_among : (t : Thing) → IsOrdinary t → (x : Option Value) → x ≡ Some (Ref (born_as (place_in things t))) → IsKept h (born_as (place_in things t)) → place_in things t ≡ f (born_as (place_in things t))
      → IsLiveOption (Among p h) x
  root_among t o x e k q =
      subst (IsLiveOption (Among p h)) (sym e) (kept_among (born_as (place_in things t)) k (subst (IsOrdinaryPlace p) q (ordinary_place t o)))

  globals_among : IsLiveOption (Among p h) s.head.globals
  globals_among =
      root_among (only what.Globals) refl s.head.globals globals_are roots_live.0
      (named_back c.head.globals s.head.globals _ _ (ap (λ (a : Head). a.globals) first.head) globals_are (ap (λ (a : Head). a.globals) shows.head))

  symbols_among : IsLiveOption (Among p h) s.head.symbols
  symbols_among =
      root_among (only what.Symbols) refl s.head.symbols symbols_are roots_live.1
      (named_back c.head.symbols s.head.symbols _ _ (ap (λ (a : Head). a.symbols) first.head) symbols_are (ap (λ (a : Head). a.symbols) shows.head))

  active_is : s.registers.active ≡ Ref (born_as 1)
  unfolding raised
  active_is = refl

  nil_kept : IsKept h (born_as 1)
  nil_kept = subst (IsLive (IsKept h)) active_is shows.roots.0

  nil_named : 1 ≡ f (born_as 1)
  nil_named = let r : Ref 1 ≡ Ref (f (born_as 1)) = ap (λ (x : Registers). x.active) shows.registers ∙ ap (renamed f) active_is in cc

  nil_is : born_as 1 ≡ bearer h 1
  nil_is =
      let q = sym (pointer_of-borne h (born_as 1) nil_kept.0 nil_kept.1) ∙ sym nil_named in
      shows.distinct (born_as 1) (bearer h 1) 1 (nil_kept.1 ∙ ap (λ k. Some k) q) (shows.page NilObject)

  -- ALL

  pub fixed : Fixed
  fixed = record {
    one = one;
    other = other;
    one_object = A;
    other_object = B;
    page = λ q. bearer h (place_of q);
    registers = s.registers;
    world = s.world;
    head = s.head;
  }

  pub first_scheduled : IsScheduled fixed
  unfolding fixed raised
  first_scheduled = record {
    association = refl;
    association_pointers = one_pointers;
    key = two.key;
    fields = two.fields;
    other_pointers = other_pointers;
    enough = (let l = other_long in omega (arith, l));
    apart = two_births;
    registers = ap (λ n. record { active = Ref n; home = Ref n; method = Ref n; receiver = Ref n; ip = pos 0; sp = 5 }) nil_is;
    world = ap (λ n. empty_world (Ref n)) nil_is;
  }

  pub first_holds : Holds fixed s
  unfolding fixed
  first_holds = record {
    among = Among p h;
    guarded = record {
      leads = first_leads;
      is_one = one_there.1;
      is_other = other_there.1;
      page = λ q. refl;
      below = λ q. borne_before h (bearer h (place_of q)) (place_of q) (shows.page q);
      long = omega arith;
      registers = refl;
      world = refl;
      head = refl;
    };
    within = λ n a. borne_before h n a.0 a.1;
    apart = λ n a. (not_one n a, not_other n a);
    globals = globals_among;
    symbols = symbols_among;
    table = c;
    runs = record { shows = shows; sound = record { places = first.places; closed = closed }; entries = (let e = ap (λ (a : Head). a.entries) first.head in omega (arith, e)) };
  }
