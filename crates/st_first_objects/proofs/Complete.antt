-- The first objects are complete.
use Rattle.std.proofs.Common.{◌≡◌, ℕ, zero, suc, ◌*◌, ◌<◌, ◌≤◌, true, false, [], ◌∷◌, ◌++◌, List, length, Option, Some, None, is_some, refl, sym, subst, ap, ◌∙◌, arith}
use Rattle.std.specs.Prelude.{slice_get, map, codes}
use Rattle.std.specs.List.{position}
use Rattle.std.proofs.Math.Seq.{drop-length}
use Rattle.std.proofs.lemmas.Bool.{ne_eqb, both_ways}
use Rattle.std.proofs.lemmas.List.Quantifiers.{position-Some}
use Rattle.st_kernel_text.specs.Texts.{Account}
use Rattle.st_model.specs.Limits.{most_words}
use Rattle.st_model.specs.Values.{Value, Ref, value_of, AllLive}
use Rattle.st_model.specs.declared.oop.Oop.{Oop}
use Rattle.st_model.specs.declared.page.PageObject.{PageObject}
use Rattle.st_model.specs.declared.page.PageObject.TheVariants.{NilObject, FalseObject, TrueObject, SchedulerAssociation, SmallIntegerClass, StringClass, ArrayClass, MethodContextClass, BlockContextClass, PointClass, LargeClass, MessageClass, MethodClass, CharacterClass, NotUnderstood, CannotReturn, Selectors, Characters, MustBeBoolean, SymbolClass}
use Rattle.st_model.specs.Objects.{Object, place_of, IsLiveObject}
use Rattle.st_model.specs.Machine.{Head}
use Rattle.st_model.specs.Table.{entry}
use Rattle.st_model.specs.Show.{IsUsed}
use Rattle.st_model.specs.View.{View, IsComplete, is_live, empty_view, table_of, head_of}
use Rattle.st_first_objects.specs.declared.thing.What.TheVariants as what
use Rattle.st_first_objects.specs.Things.{Thing, same, only, class}
use Rattle.st_first_objects.specs.Orders.{want, want_all, empty, page, characters, tables, want_parts, last_things, order}
use Rattle.st_first_objects.specs.Plans.{FirstObjects}
use Rattle.st_first_objects.specs.Contents.{Field, Empty, Number, To, Body, Fields, Bytes, NoWords, content}
use Rattle.st_first_objects.specs.Pointers.{place, place_at, place_in, value_in, object, object_by}
use Rattle.st_first_objects.specs.First.{with_things, head_in, view_of}
use Rattle.st_first_objects.specs.inside.Placing.{Underway}
use Rattle.st_first_objects.proofs.Counts.{Begins, further, all_begins, parts_begin, last_begin, fewer}
use Rattle.st_first_objects.proofs.Places.{place_within}

-- THE PAGE COMES FIRST

pub page_begins : (text : Account) → Begins (want_all empty page) (order text)
page_begins text =
    let a = want_all empty page in
    let b = want_all a characters in
    let c = want_all b tables in
    let d = want_parts text.names c 0 text.parts in
    further a d (last_things d) (further a c d (further a b c (all_begins a characters) (all_begins b tables)) (parts_begin text.names c 0 text.parts)) (last_begin d)

pub got_before : (xs ys : List Thing) (i : ℕ) (x : Thing) → slice_get xs i ≡ Some x → slice_get (xs ++ ys) i ≡ Some x
got_before [] ys i x e = cc
got_before (y ∷ xs) ys zero x e = e
got_before (y ∷ xs) ys (suc i) x e = got_before xs ys i x e

methods_paged : slice_get (want_all empty page).things 12 ≡ Some (class (codes "CompiledMethod"))
unfolding want page
methods_paged = refl

twenty_paged : length (want_all empty page).things ≡ 20
unfolding want page
twenty_paged = refl

pub first_methods : (text : Account) → slice_get (order text).things 12 ≡ Some (class (codes "CompiledMethod"))
first_methods text =
    let b = page_begins text in
    ap (λ ts. slice_get ts 12) b.is ∙ got_before (want_all empty page).things b.rest 12 _ methods_paged

pub first_many : (text : Account) → 20 ≤ length (order text).things
first_many text = let l = fewer (want_all empty page) (order text) (page_begins text) in let e = twenty_paged in omega arith

-- THE HEAD

pub in_place : (ts : List Thing) (t : Thing) → length ts ≤ 32767 → 0 < place_in ts t
unfolding place_in
in_place ts t few = by (position (same t) ts) (λ i e. (position-Some (same t) ts i t e).0)
  where
    by : (o : Option ℕ) → ((i : ℕ) → o ≡ Some i → i < length ts) → 0 < place_at o
    by None below = omega arith
    by (Some i) below = let l = below i refl in (place_within i (omega arith)).0

pub table_is : (w k : ℕ) → value_of w ≡ Ref k → 0 < w → table_of w ≡ Some (Ref k)
table_is w k e more = let f = ne_eqb w 0 (λ z. absurd (omega arith)) in rw (f, e) refl

pub begun_is : (ts : List Thing) (g s : Oop) (x y : Thing) → length ts ≤ 32767
    → value_of g.0 ≡ Ref (place_in ts x) → g.0 ≡ 2 * place_in ts x → x ≡ only what.Globals
    → value_of s.0 ≡ Ref (place_in ts y) → s.0 ≡ 2 * place_in ts y → y ≡ only what.Symbols
    → empty_view (head_of (record { entries = 32767; words = most_words }) g s) ≡ empty_view (head_in ts)
begun_is ts g s x y few gv gh gx sv sh sy =
    let gp = in_place ts x few in
    let sp = in_place ts y few in
    let globals = table_is g.0 (place_in ts x) gv (omega arith) ∙ ap (λ t. Some (Ref (place_in ts t))) gx in
    let symbols = table_is s.0 (place_in ts y) sv (omega arith) ∙ ap (λ t. Some (Ref (place_in ts t))) sy in
    ap empty_view (λ i. record { entries = 32767; words = most_words; globals = globals i; symbols = symbols i })

pub empty_head : (h : Head) → (empty_view h).head ≡ h
unfolding empty_view
empty_head h = refl

-- WHAT IS THERE

used_by : (o : Option Object) → is_some o ≡ true → (a : Object) × (o ≡ Some a)
used_by (Some a) e = (a, refl)
used_by None e = absurd (both_ways false refl e)

module _ (p : FirstObjects) (begun v : View) (used : ℕ) (u : Underway p begun v used (length p.order.things)) (many : 20 ≤ length p.order.things) where
  place_0 : place 0 ≡ 1
  unfolding place
  place_0 = refl

  used_place : (t : Thing) → is_some (entry v.objects (place_in p.order.things t)) ≡ true
  unfolding place_in
  used_place t = by (position (same t) p.order.things) (λ i e. (position-Some (same t) p.order.things i t e).0)
    where
      by : (o : Option ℕ) → ((i : ℕ) → o ≡ Some i → i < length p.order.things) → is_some (entry v.objects (place_at o)) ≡ true
      by None below = subst (λ k. is_some (entry v.objects k) ≡ true) place_0 (u.live 0 (omega arith))
      by (Some i) below = u.live i (below i refl)

  used_nil : is_some (entry v.objects 1) ≡ true
  used_nil = subst (λ k. is_some (entry v.objects k) ≡ true) place_0 (u.live 0 (omega arith))

  is_used : (t : Thing) → IsUsed v.objects (place_in p.order.things t)
  is_used t = used_by (entry v.objects (place_in p.order.things t)) (used_place t)

  live_fields : (fs : List Field) → AllLive (IsUsed v.objects) (map (value_in p.order.things) fs)
  live_fields [] = tt
  live_fields (Empty ∷ fs) = (used_by (entry v.objects 1) used_nil, live_fields fs)
  live_fields (Number n ∷ fs) = (tt, live_fields fs)
  live_fields (To t ∷ fs) = (is_used t, live_fields fs)

  live_object : (x : Thing) → IsLiveObject (IsUsed v.objects) (object p x)
  unfolding object
  live_object x = by (content p x).body
    where
      by : (b : Body) → IsLiveObject (IsUsed v.objects) (object_by p.order.things (place_in p.order.things (content p x).class) b)
      by (Fields fs) = record { class = is_used (content p x).class; fields = live_fields fs }
      by (Bytes bs) = record { class = is_used (content p x).class; fields = tt }
      by NoWords = record { class = is_used (content p x).class; fields = tt }

  page_live : (q : PageObject) → is_some (entry v.objects (place_of q)) ≡ true
  unfolding place
  page_live NilObject = u.live 0 (omega arith)
  page_live FalseObject = u.live 1 (omega arith)
  page_live TrueObject = u.live 2 (omega arith)
  page_live SchedulerAssociation = u.live 3 (omega arith)
  page_live SmallIntegerClass = u.live 4 (omega arith)
  page_live StringClass = u.live 5 (omega arith)
  page_live ArrayClass = u.live 6 (omega arith)
  page_live MethodContextClass = u.live 7 (omega arith)
  page_live BlockContextClass = u.live 8 (omega arith)
  page_live PointClass = u.live 9 (omega arith)
  page_live LargeClass = u.live 10 (omega arith)
  page_live MessageClass = u.live 11 (omega arith)
  page_live MethodClass = u.live 12 (omega arith)
  page_live CharacterClass = u.live 13 (omega arith)
  page_live NotUnderstood = u.live 14 (omega arith)
  page_live CannotReturn = u.live 15 (omega arith)
  page_live Selectors = u.live 16 (omega arith)
  page_live Characters = u.live 17 (omega arith)
  page_live MustBeBoolean = u.live 18 (omega arith)
  page_live SymbolClass = u.live 19 (omega arith)

  named_live : (t : Thing) (x : Value) → Some (Ref (place_in p.order.things t)) ≡ Some x → is_live v.objects x ≡ true
  unfolding is_live
  named_live t x e = let same_value : Ref (place_in p.order.things t) ≡ x = cc in subst (λ y. is_live v.objects y ≡ true) same_value (used_place t)

  pub complete : begun.head ≡ head_in p.order.things → IsComplete v
  unfolding is_live
  complete head = record {
    objects = (λ k o e. let found = u.objects k o e in subst (IsLiveObject (IsUsed v.objects)) (sym found.1) (live_object found.0));
    page = page_live;
    globals = (λ x e. named_live (only what.Globals) x (sym (ap (λ (h : Head). h.globals) (u.head ∙ head)) ∙ e));
    symbols = (λ x e. named_live (only what.Symbols) x (sym (ap (λ (h : Head). h.symbols) (u.head ∙ head)) ∙ e));
  }

  same_view : (w : View) → v.objects ≡ w.objects → v.held ≡ w.held → v.head ≡ w.head → v ≡ w
  same_view w a b c = λ i. record { objects = a i; held = b i; head = c i }

  pub made : begun ≡ empty_view (head_in p.order.things) → v ≡ view_of p
  unfolding view_of empty_view
  made e = same_view (view_of p)
      (sym (u.rest ∙ ap (λ xs. with_things p (length p.order.things) xs v.objects) (drop-length p.order.things)) ∙ ap (λ (b : View). with_things p 0 p.order.things b.objects) e)
      (u.held ∙ ap (λ (b : View). b.held) e)
      (u.head ∙ ap (λ (b : View). b.head) e)
