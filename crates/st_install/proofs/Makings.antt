-- The objects of an installation are made, one after the other.
use Rattle.std.proofs.Common.{◌≡◌, ℕ, suc, zero, ◌<◌, ◌≤◌, ◌+◌, ◌-◌, ◌*◌, ◌/◌, List, [], ◌∷◌, ◌++◌, length, take, drop, Bool, true, false, Option, Some, None, refl, sym, ap, ◌∙◌, subst, arith, is_some, length-set}
use Rattle.std.specs.Prelude.{◌==◌, slice_get, slice_index_or, slice_set, nat_le, ◌&&◌, unwrap_or}
use Rattle.std.specs.List.{AllByRecursion}
use Rattle.std.proofs.lemmas.Bool.Decides.{nat_tests}
use Rattle.std.proofs.lemmas.List.{append_assoc, append-nil, map-append, length-replicate}
use Rattle.st_model.specs.declared.kind.Kind.{Kind}
use Rattle.st_model.specs.declared.kind.Kind.TheVariants as kind
use Rattle.st_model.specs.declared.oop.Oop.{Oop}
use Rattle.st_model.specs.declared.page.PageObject.TheVariants.{MethodClass}
use Rattle.st_model.specs.Values.{Value, Small, Ref, value}
use Rattle.st_model.specs.Objects.{Object, nil, is_words, is_method, place_of, words_of, one}
use Rattle.st_model.specs.Formed.{fresh, IsMakeable, literals_of}
use Rattle.st_model.specs.Machine.{has_room, State, Transition, Died, Went, Step, after, answer, die, ◌>>=◌}
use Rattle.st_model.specs.Steps.{make, make_named, made}
use Rattle.st_model.specs.Table.{Table, bounded_table, entry, placed, first_free, total_used}
use Rattle.st_model.specs.View.{View, is_live, object_of, nothing, fits, demand_of}
use Rattle.st_model.proofs.TableLemmas.{first_free-none, placed-first, placed-other}
use Rattle.st_model.proofs.Making.{total_used-placed, live_placed, live_new}
use Rattle.st_memory.proofs.Fresh.{words_pointers, words_bytes, words_method}
use Rattle.st_install.specs.declared.plan.NewObject.{NewObject as CodeObject}
use Rattle.st_install.specs.Plans.{PlannedValue, There, Made, NewObject, words_of_new, words_of_all, demand_of_all}
use Rattle.st_install.specs.inside.Carried.{HasGone, Goes, Becomes, Makes, IsPlannable, IsShaped, AreShaped}
use Rattle.st_install.specs.inside.Goes.{HasHeader}
use Rattle.st_install.specs.Installing.{size_by, literals_by, make_new, make_all}
use Rattle.st_scope.specs.inside.Meanings.{values}
use Rattle.st_install.specs.inside.Readies.{objects_of}
use Rattle.st_install.specs.inside.Readies.{object_of as planned_of}
use Rattle.st_install.proofs.Going.{gone_first, same_state, state_of}
use Rattle.st_install.proofs.Filled.{drop_next, drop_past}
use Rattle.st_memory.proofs.Wide.{named_word}
use Rattle.st_scope.proofs.Lineages.{behind_none}

-- ONE OBJECT

-- the size and the literals of what was placed, by other names
pub placed_by : (t u : Table) (c : ℕ) (k : Kind) (n m l j : ℕ) → u ≡ placed t (fresh c k n l) → n ≡ m → l ≡ j → u ≡ placed t (fresh c k m j)
placed_by t u c k n m l j e a b = e ∙ (λ i. placed t (fresh c k (a i) (b i)))

made_there : (o : Object) (s : State Table) (a b : Bool) → HasGone (made bounded_table o s a b) → a ≡ true
unfolding made
made_there o s true b h = refl
made_there o s false b h = absurd h

class_in : (x : Value) (k : Kind) (n l : ℕ) (s : State Table) → HasGone ((make bounded_table x k n l).run s) → is_live s.memory x ≡ true
unfolding make make_named die is_live
class_in (Small c) k n l s h = absurd h
class_in (Ref c) k n l s h = made_there _ s (is_some (entry s.memory c)) _ h

-- the class of what is made is there
pub class_there : (o : NewObject) (v : View) → Goes (make_new bounded_table o) v → is_live v.objects o.class ≡ true
unfolding make_new
class_there o v h = class_in o.class o.kind (size_by o.kind o) (literals_by o.kind o) (state_of v) (h.gone (state_of v) refl refl)

few_literals : (v : Value) → literals_of v ≤ 63
few_literals (Small n) = grind arith
few_literals (Ref n) = grind arith

headed_most : (ps : List PlannedValue) → HasHeader ps → (1 ≤ length ps) × (length ps ≤ 64)
headed_most [] h = absurd h
headed_most (Made k ∷ ps) h = absurd h
headed_most (There x ∷ ps) h = let f = few_literals x in let e = h.1 in (omega arith, omega (arith, f, e))

-- an object without literals
without_literals : (c : ℕ) (k : Kind) (n : ℕ) → is_method k ≡ false → is_method k ≡ (c == place_of MethodClass) → words_of (fresh c k n 0) ≤ 65535 → IsMakeable c k n 0
without_literals c k n w m b = record {
  kind = m;
  body = b;
  few = omega arith;
  none = λ e. refl;
  header = λ e. cc;
}

makeable_by : (c : ℕ) (k : Kind) (o : NewObject) → is_words k ≡ false → is_method k ≡ (c == place_of MethodClass) → (is_method k ≡ true → HasHeader o.fields) → words_of_new o ≤ 65535
    → IsMakeable c k (size_by k o) (literals_by k o)
makeable_by c kind.Pointers o w m h b = without_literals c kind.Pointers (length o.fields) refl m (rw (words_pointers c (length o.fields) 0) (omega (arith, b)))
makeable_by c kind.Words o w m h b = cc
makeable_by c kind.Bytes o w m h b = without_literals c kind.Bytes (length o.bytes) refl m (rw (words_bytes c (length o.bytes) 0) (omega (arith, b)))
makeable_by c kind.Method o w m h b =
    let f = headed_most o.fields (h refl) in
    let low = f.0 in
    let high = f.1 in
    let fit : 2 * (length o.fields - 1) + 2 ≤ 2 * length o.fields + length o.bytes = omega (arith, low) in
    record {
      kind = m;
      body = rw (words_method c (2 * length o.fields + length o.bytes) (length o.fields - 1) fit) (omega (arith, b));
      few = omega (arith, high);
      none = λ e. cc;
      header = λ e. fit;
    }

pub makeable : (c : ℕ) (o : NewObject) → o.class ≡ Ref c → IsPlannable o → IsMakeable c o.kind (size_by o.kind o) (literals_by o.kind o)
makeable c o e p = makeable_by c o.kind o p.of_kind.kind (p.of_kind.method c e) p.of_kind.header p.body

words_by : (c : ℕ) (k : Kind) (o : NewObject) → is_words k ≡ false → (is_method k ≡ true → HasHeader o.fields) → words_of (fresh c k (size_by k o) (literals_by k o)) ≤ words_of_new o
words_by c kind.Pointers o w h = rw (words_pointers c (length o.fields) 0) (omega arith)
words_by c kind.Words o w h = cc
words_by c kind.Bytes o w h = rw (words_bytes c (length o.bytes) 0) (omega arith)
words_by c kind.Method o w h =
    let f = headed_most o.fields (h refl) in
    let low = f.0 in
    let fit : 2 * (length o.fields - 1) + 2 ≤ 2 * length o.fields + length o.bytes = omega (arith, low) in
    rw (words_method c (2 * length o.fields + length o.bytes) (length o.fields - 1) fit) (omega (arith, low))

-- so many entries and words fit
pub fits_if : (v : View) (e n : ℕ) → total_used one v.objects + e ≤ v.head.entries → total_used words_of v.objects + n ≤ v.head.words → fits v (record { entries = e; words = n }) ≡ true
fits_if v e n a b =
    let p : nat_le (total_used one v.objects + e) v.head.entries ≡ true = grind (arith, nat_tests) in
    let q : nat_le (total_used words_of v.objects + n) v.head.words ≡ true = grind (arith, nat_tests) in
    rw (p, q) refl

fits_entries : (v : View) (e n : ℕ) → fits v (record { entries = e; words = n }) ≡ true → (total_used one v.objects + e ≤ v.head.entries) × (total_used words_of v.objects + n ≤ v.head.words)
fits_entries v e n h = split (nat_le (total_used one v.objects + e) v.head.entries) (nat_le (total_used words_of v.objects + n) v.head.words) refl refl h
  where
    split : (a b : Bool) → nat_le (total_used one v.objects + e) v.head.entries ≡ a → nat_le (total_used words_of v.objects + n) v.head.words ≡ b → (a && b) ≡ true
        → (total_used one v.objects + e ≤ v.head.entries) × (total_used words_of v.objects + n ≤ v.head.words)
    split true true p q h = (grind (arith, nat_tests), grind (arith, nat_tests))
    split true false p q h = cc
    split false b p q h = cc

module _ (o : NewObject) (p : IsPlannable o) (v : View) (c : ℕ) where
  abbrev pub new_object : Object
  new_object = fresh c o.kind (size_by o.kind o) (literals_by o.kind o)

  pub room_for : fits v (demand_of_all (o ∷ [])) ≡ true → fits v (demand_of (fresh c o.kind (size_by o.kind o) (literals_by o.kind o))) ≡ true
  room_for h =
      let f = fits_entries v (length (o ∷ [])) (words_of_all (o ∷ [])) h in
      let a = f.0 in
      let b = f.1 in
      let w = words_by c o.kind o p.of_kind.kind p.of_kind.header in
      fits_if v 1 (words_of new_object) (omega (arith, a)) (omega (arith, b, w))

  module _ (x : Value) (w : View) (pointer : x ≡ Ref (first_free v.objects)) (objects : w.objects ≡ placed v.objects (fresh c o.kind (size_by o.kind o) (literals_by o.kind o))) (head : w.head ≡ v.head) where
    room_rest : (os : List NewObject) → fits v (demand_of_all (o ∷ os)) ≡ true → fits w (demand_of_all os) ≡ true
    room_rest os h =
        let f = fits_entries v (length (o ∷ os)) (words_of_all (o ∷ os)) h in
        let a = f.0 in
        let b = f.1 in
        let n = words_by c o.kind o p.of_kind.kind p.of_kind.header in
        let e = ap (λ (t : Table). total_used one t) objects ∙ total_used-placed one v.objects new_object in
        let g = ap (λ (t : Table). total_used words_of t) objects ∙ total_used-placed words_of v.objects new_object in
        let he = ap (λ a. a.entries) head in
        let hw = ap (λ a. a.words) head in
        fits_if w (length os) (words_of_all os) (omega (arith, a, e, he)) (omega (arith, b, g, n, hw))

    found_new : object_of (placed v.objects new_object) (Ref (first_free v.objects)) ≡ new_object
    unfolding object_of
    found_new = ap (λ e. unwrap_or e nothing) (placed-first v.objects new_object)

    length_method : (k : Kind) → is_method k ≡ true → HasHeader o.fields → length (fresh c k (size_by k o) (literals_by k o)).fields ≡ length o.fields
    length_method kind.Pointers e h = cc
    length_method kind.Words e h = cc
    length_method kind.Bytes e h = cc
    length_method kind.Method e h = let f = headed_most o.fields h in let low = f.0 in let r = length-replicate (length o.fields - 1) nil in omega (arith, low, r)

    shaped_new : IsShaped w.objects x o
    shaped_new m =
        ap (λ (t : Table). length (object_of t x).fields) objects
        ∙ (ap (λ (y : Value). length (object_of (placed v.objects new_object) y).fields) pointer
        ∙ (ap (λ (a : Object). length a.fields) found_new ∙ length_method o.kind m (p.of_kind.header m)))

    live_there : is_live w.objects x ≡ true
    live_there = subst (λ (t : Table). is_live t x ≡ true) (sym objects) (subst (λ (y : Value). is_live (placed v.objects new_object) y ≡ true) (sym pointer) (live_new v.objects new_object))

    stays_same : (y : Value) → is_live v.objects y ≡ true → object_of (placed v.objects new_object) y ≡ object_of v.objects y
    unfolding is_live object_of
    stays_same (Small n) e = refl
    stays_same (Ref n) e = ap (λ a. unwrap_or a nothing) (placed-other v.objects n new_object (λ q. taken (entry v.objects n) e (ap (entry v.objects) q ∙ first_free-none v.objects)))
      where
        taken : (a : Option Object) → is_some a ≡ true → a ≡ None → ⊥
        taken None e q = cc
        taken (Some b) e q = cc

    pub makes : Makes v o x w
    makes = record {
      live = live_there;
      shaped = shaped_new;
      stays = λ y e. (subst (λ (t : Table). is_live t y ≡ true) (sym objects) (live_placed v.objects new_object y e), ap (λ (t : Table). object_of t y) objects ∙ stays_same y e);
      room = room_rest;
    }

made_runs : (o : Object) (s : State Table) (a b : Bool) → a ≡ true → b ≡ true → made bounded_table o s a b ≡ Went (Ref (first_free s.memory)) (record s { memory = placed s.memory o })
unfolding made
made_runs o s true true e f = refl
made_runs o s true false e f = cc
made_runs o s false b e f = cc

new_runs : (c : ℕ) (k : Kind) (n l : ℕ) (s : State Table) → is_live s.memory (Ref c) ≡ true → has_room bounded_table s.head s.memory (fresh c k n l) ≡ true
    → (make bounded_table (Ref c) k n l).run s ≡ Went (Ref (first_free s.memory)) (record s { memory = placed s.memory (fresh c k n l) })
unfolding make make_named is_live
new_runs c k n l s live room = made_runs (fresh c k n l) s (is_some (entry s.memory c)) (has_room bounded_table s.head s.memory (fresh c k n l)) live room

-- it is made as the definition says
module _ (o : CodeObject) (x : Oop) (v w : View) where
  abbrev shape_of : Object
  shape_of = fresh (o.class.0 / 2) o.kind (size_by o.kind (planned_of o)) (literals_by o.kind (planned_of o))

  pub new_becomes : is_live v.objects (value o.class) ≡ true → fits v (demand_of (fresh (o.class.0 / 2) o.kind (size_by o.kind (planned_of o)) (literals_by o.kind (planned_of o)))) ≡ true
      → value x ≡ Ref (first_free v.objects) → w.objects ≡ placed v.objects (fresh (o.class.0 / 2) o.kind (size_by o.kind (planned_of o)) (literals_by o.kind (planned_of o))) → w.held ≡ v.held → w.head ≡ v.head
      → Becomes (make_new bounded_table (planned_of o)) v (value x) w
  unfolding make_new
  new_becomes live room pointer objects held head = record {
    run = λ s e a.
        let named = named_word v.objects o.class.0 live in
        let there = subst (λ (t : Table). is_live t (Ref (o.class.0 / 2)) ≡ true) (sym e) (subst (λ (y : Value). is_live v.objects y ≡ true) named live) in
        let fit : has_room bounded_table s.head s.memory shape_of ≡ true = (λ i. has_room bounded_table (a i) (e i) shape_of) ∙ room in
        ap (λ (y : Value). (make bounded_table y o.kind (size_by o.kind (planned_of o)) (literals_by o.kind (planned_of o))).run s) named
        ∙ (new_runs (o.class.0 / 2) o.kind (size_by o.kind (planned_of o)) (literals_by o.kind (planned_of o)) s there fit
        ∙ ((λ i. Went (Ref (first_free (e i))) (record s { memory = placed (e i) shape_of }))
        ∙ (λ i. Went (sym pointer i) (record s { memory = sym objects i }))));
    held = held;
    head = head;
  }

-- ONE AFTER THE OTHER

-- objects that were made, and what comes behind them
abbrev pub behind : List Value → Transition (State Table) (List Value) → Transition (State Table) (List Value)
behind passed x = after x (λ vs s. Went (passed ++ vs) s)

-- those before one are made, and each is there as it was planned; the others have room
pub record LeftMakes (os : List CodeObject) (i : ℕ) (ms : List Oop) (v w : View) : Type 0 where
  pub each : length ms ≡ length os
  pub run : (s : State Table) → s.memory ≡ v.objects → s.head ≡ v.head
      → (make_all bounded_table (objects_of os)).run s ≡ behind (values (take i ms)) ((make_all bounded_table (objects_of (drop i os))).run (record s { memory = w.objects }))
  pub held : w.held ≡ v.held
  pub head : w.head ≡ v.head
  pub live : AllByRecursion (λ x. is_live w.objects x ≡ true) (values (take i ms))
  pub shaped : AreShaped w.objects (values (take i ms)) (objects_of os)
  pub room : fits w (demand_of_all (objects_of (drop i os))) ≡ true

pub none_made : (os : List CodeObject) (ms : List Oop) (v : View) → length ms ≡ length os → fits v (demand_of_all (objects_of os)) ≡ true → LeftMakes os 0 ms v v
none_made os ms v each room = record {
  each = each;
  run = λ s e a. ap (λ (z : State Table). (make_all bounded_table (objects_of os)).run z) (sym (same_state s v.objects e)) ∙ behind_none _;
  held = refl;
  head = refl;
  live = tt;
  shaped = tt;
  room = room;
}

abbrev rest_then : List CodeObject → Value → Step Table (List Value)
rest_then os x = make_all bounded_table (objects_of os) >>= (λ vs. answer (x ∷ vs))

one_more : (o : CodeObject) (os : List CodeObject) → make_all bounded_table (objects_of (o ∷ os)) ≡ (make_new bounded_table (planned_of o) >>= rest_then os)
unfolding make_all
one_more o os = refl

behind_gone : (passed : List Value) (x : Transition (State Table) (List Value)) → HasGone (behind passed x) → HasGone x
unfolding after
behind_gone passed (Died k) d = d
behind_gone passed (Went vs s) d = tt

behind_more : (passed : List Value) (x : Value) (t : Transition (State Table) (List Value)) → behind passed (after t (λ vs s. (answer (x ∷ vs)).run s)) ≡ behind (passed ++ x ∷ []) t
unfolding after answer
behind_more passed x (Died k) = refl
behind_more passed x (Went vs s) = ap (λ xs. Went xs s) (sym (append_assoc passed (x ∷ []) vs))

take_set : (ms : List Oop) (i : ℕ) (x : Oop) → i < length ms → take (i + 1) (slice_set ms i x) ≡ take i ms ++ x ∷ []
take_set [] i x l = absurd (omega (arith, l))
take_set (m ∷ ms) zero x l = refl
take_set (m ∷ ms) (suc i) x l = let q : suc i + 1 ≡ suc (i + 1) = omega arith in rw q (ap (λ xs. m ∷ xs) (take_set ms i x (omega (arith, l))))

module _ (os : List CodeObject) (i : ℕ) (ms : List Oop) (v w : View) (h : LeftMakes os i ms v w) (o : CodeObject) (l : i < length os) (is : o ≡ slice_index_or os i o) where
  next_is : drop i os ≡ o ∷ drop (i + 1) os
  next_is = drop_next os i o l ∙ ap (λ (a : CodeObject). a ∷ drop (i + 1) os) (sym is)

  turn : make_all bounded_table (objects_of (drop i os)) ≡ (make_new bounded_table (planned_of o) >>= rest_then (drop (i + 1) os))
  turn = ap (λ (ns : List CodeObject). make_all bounded_table (objects_of ns)) next_is ∙ one_more o (drop (i + 1) os)

  pub new_room : fits w (demand_of_all (objects_of (o ∷ drop (i + 1) os))) ≡ true
  new_room = subst (λ (ns : List CodeObject). fits w (demand_of_all (objects_of ns)) ≡ true) next_is h.room

  pub one_room : fits w (demand_of_all (planned_of o ∷ [])) ≡ true
  one_room =
      let f = fits_entries w (length (objects_of (o ∷ drop (i + 1) os))) (words_of_all (objects_of (o ∷ drop (i + 1) os))) new_room in
      let a = f.0 in
      let b = f.1 in
      fits_if w 1 (words_of_all (planned_of o ∷ [])) (omega (arith, a)) (omega (arith, b))

  first_gone : (s : State Table) → HasGone ((make_new bounded_table (planned_of o) >>= rest_then (drop (i + 1) os)).run s) → HasGone ((make_new bounded_table (planned_of o)).run s)
  unfolding ◌>>=◌
  first_gone s d = gone_first ((make_new bounded_table (planned_of o)).run s) _ d

  pub new_goes : Goes (make_all bounded_table (objects_of os)) v → Goes (make_new bounded_table (planned_of o)) w
  new_goes g = record {
    gone = λ s e b.
        let z = record s { memory = v.objects } in
        let q = b ∙ h.head in
        let r = behind_gone _ _ (subst (λ (x : Transition (State Table) (List Value)). HasGone x) (h.run z refl q) (g.gone z refl q)) in
        let t = subst (λ (m : Step Table (List Value)). HasGone (m.run (record s { memory = w.objects }))) turn r in
        subst (λ (y : State Table). HasGone ((make_new bounded_table (planned_of o)).run y)) (same_state s w.objects e) (first_gone (record s { memory = w.objects }) t);
  }

  module _ (x : Oop) (u : View) (b : Becomes (make_new bounded_table (planned_of o)) w (value x) u) (m : Makes w (planned_of o) (value x) u) where
    within : i < length ms
    within = let e = h.each in omega (arith, l, e)

    next_run : (s : State Table) → s.memory ≡ v.objects → s.head ≡ v.head
        → (make_all bounded_table (objects_of os)).run s ≡ behind (values (take i ms) ++ value x ∷ []) ((make_all bounded_table (objects_of (drop (i + 1) os))).run (record s { memory = u.objects }))
    unfolding ◌>>=◌ after
    next_run s e a =
        let y = record s { memory = w.objects } in
        h.run s e a
        ∙ (ap (λ (n : Step Table (List Value)). behind (values (take i ms)) (n.run y)) turn
        ∙ (ap (λ (r : Transition (State Table) Value). behind (values (take i ms)) (after r (λ c z. (rest_then (drop (i + 1) os) c).run z))) (b.run y refl (a ∙ sym h.head))
        ∙ behind_more (values (take i ms)) (value x) ((make_all bounded_table (objects_of (drop (i + 1) os))).run (record s { memory = u.objects }))))

    taken_is : values (take i ms) ++ value x ∷ [] ≡ values (take (i + 1) (slice_set ms i x))
    taken_is = sym (map-append value (take i ms) (x ∷ [])) ∙ ap values (sym (take_set ms i x within))

    still_live : (xs : List Value) → AllByRecursion (λ y. is_live w.objects y ≡ true) xs → AllByRecursion (λ y. is_live u.objects y ≡ true) (xs ++ value x ∷ [])
    still_live [] a = (m.live, tt)
    still_live (y ∷ ys) a = ((m.stays y a.0).0, still_live ys a.1)

    still_shaped : (xs : List Value) (ns : List NewObject) (k : ℕ) → length xs ≡ k → AllByRecursion (λ y. is_live w.objects y ≡ true) xs → AreShaped w.objects xs ns → ((n : NewObject) → slice_get ns k ≡ Some n → n ≡ planned_of o)
        → AreShaped u.objects (xs ++ value x ∷ []) ns
    still_shaped [] [] k e a s f = tt
    still_shaped [] (n ∷ ns) zero e a s f = (subst (λ (q : NewObject). IsShaped u.objects (value x) q) (sym (f n refl)) m.shaped, tt)
    still_shaped [] (n ∷ ns) (suc k) e a s f = absurd (omega (arith, e))
    still_shaped (y ∷ ys) [] k e a s f = tt
    still_shaped (y ∷ ys) (n ∷ ns) zero e a s f = absurd (omega (arith, e))
    still_shaped (y ∷ ys) (n ∷ ns) (suc k) e a s f =
        ((λ me. ap (λ (q : Object). length q.fields) (m.stays y a.0).1 ∙ s.0 me), still_shaped ys ns k (omega (arith, e)) a.1 s.1 f)

    planned_at : (ns : List CodeObject) (j : ℕ) (n : NewObject) (d : CodeObject) → slice_get (objects_of ns) j ≡ Some n → n ≡ planned_of (slice_index_or ns j d)
    planned_at [] j n d e = cc
    planned_at (a ∷ ns) zero n d e = let q : planned_of a ≡ n = cc in sym q
    planned_at (a ∷ ns) (suc j) n d e = planned_at ns j n d e

    length_taken : (xs : List Oop) (j : ℕ) → j ≤ length xs → length (values (take j xs)) ≡ j
    length_taken xs zero e = refl
    length_taken [] (suc j) e = absurd (omega (arith, e))
    length_taken (y ∷ ys) (suc j) e = ap suc (length_taken ys j (omega (arith, e)))

    pub one_made : LeftMakes os (i + 1) (slice_set ms i x) v u
    one_made = record {
      each = length-set ms i x ∙ h.each;
      run = λ s e a. next_run s e a ∙ ap (λ xs. behind xs ((make_all bounded_table (objects_of (drop (i + 1) os))).run (record s { memory = u.objects }))) taken_is;
      held = b.held ∙ h.held;
      head = b.head ∙ h.head;
      live = subst (λ xs. AllByRecursion (λ y. is_live u.objects y ≡ true) xs) taken_is (still_live (values (take i ms)) h.live);
      shaped = subst (λ xs. AreShaped u.objects xs (objects_of os)) taken_is
          (still_shaped (values (take i ms)) (objects_of os) i (length_taken ms i (let w = within in omega (arith, w))) h.live h.shaped (λ n e. planned_at os i n o e ∙ ap planned_of (sym is)));
      room = m.room (objects_of (drop (i + 1) os)) new_room;
    }

module _ (os : List CodeObject) (i : ℕ) (ms : List Oop) (v w : View) (h : LeftMakes os i ms v w) (l : length os ≤ i) where
  take_all : (xs : List Oop) (j : ℕ) → length xs ≤ j → take j xs ≡ xs
  take_all [] zero e = refl
  take_all [] (suc j) e = refl
  take_all (y ∷ ys) zero e = absurd (omega (arith, e))
  take_all (y ∷ ys) (suc j) e = ap (λ zs. y ∷ zs) (take_all ys j (omega (arith, e)))

  all_taken : take i ms ≡ ms
  all_taken = take_all ms i (let e = h.each in omega (arith, l, e))

  none_left : (s : State Table) → (make_all bounded_table (objects_of (drop i os))).run s ≡ Went [] s
  unfolding make_all answer
  none_left s = ap (λ (ns : List CodeObject). (make_all bounded_table (objects_of ns)).run s) (drop_past os i l)

  pub made_all : Becomes (make_all bounded_table (objects_of os)) v (values ms) w
  unfolding after
  made_all = record {
    run = λ s e a.
        h.run s e a
        ∙ (ap (behind (values (take i ms))) (none_left (record s { memory = w.objects }))
        ∙ (λ j. Went ((append-nil (values (take i ms)) ∙ ap values all_taken) j) (record s { memory = w.objects })));
    held = h.held;
    head = h.head;
  }

  pub all_shaped : AreShaped w.objects (values ms) (objects_of os)
  all_shaped = subst (λ (xs : List Oop). AreShaped w.objects (values xs) (objects_of os)) all_taken h.shaped
