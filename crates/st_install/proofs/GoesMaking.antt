-- The objects of a plan are made, where there is room for all of them.
use Rattle.std.proofs.Common.{◌≡◌, ℕ, ◌+◌, ◌*◌, ◌/◌, ◌<◌, ◌≤◌, zero, suc, List, [], ◌∷◌, length, Option, Some, None, Bool, true, false, refl, sym, ap, ◌∙◌, subst, arith, is_some}
use Rattle.std.proofs.lemmas.List.{length-replicate}
use Rattle.std.specs.Prelude.{◌==◌, ◌-◌, slice_get, nat_le}
use Rattle.std.proofs.lemmas.Bool.Decides.{nat_tests}
use Rattle.st_model.specs.declared.kind.Kind.{Kind}
use Rattle.st_model.specs.declared.kind.Kind.TheVariants as kind
use Rattle.st_model.specs.Values.{Value, Small, Ref}
use Rattle.st_model.specs.declared.page.PageObject.TheVariants.{MethodClass}
use Rattle.st_model.specs.Objects.{Object, nil, one, words_of, place_of, is_method}
use Rattle.st_model.specs.Formed.{fresh_with}
use Rattle.st_model.specs.Machine.{Head, State, Went, has_room, answer, ◌>>=◌}
use Rattle.st_model.specs.Steps.{made, make_named, make}
use Rattle.st_model.specs.Table.{Table, entry, placed, first_free, bounded_table, total_used}
use Rattle.st_model.proofs.TableLemmas.{placed-first, placed-other, first_free-none}
use Rattle.st_simulation.proofs.Bounded.{total-placed}
use Rattle.st_install.specs.inside.Goes.{HasHeader}
use Rattle.st_install.specs.Plans.{PlannedValue, NewObject, words_of_new, words_of_all}
use Rattle.st_install.specs.Installing.{size_by, literals_by, make_new, make_all}
use Rattle.st_install.proofs.Goes.{object_at, Goes, over, then_goes, answer_goes}

-- BLANK OBJECTS

abbrev pub name_in : Value → ℕ
name_in (Small n) = n
name_in (Ref n) = n

-- the object as it is made
abbrev pub blank_by : Kind → NewObject → Object
blank_by k o = fresh_with nil (name_in o.class) k (size_by k o) (literals_by k o)

abbrev pub blank : NewObject → Object
blank o = blank_by o.kind o

-- what each kind has
abbrev pub IsShaped : Kind → NewObject → Type 0
IsShaped kind.Pointers o = o.bytes ≡ []
IsShaped kind.Words o = ⊥
IsShaped kind.Bytes o = o.fields ≡ []
IsShaped kind.Method o = HasHeader o.fields

pub blank_kind : (k : Kind) (o : NewObject) → (blank_by k o).kind ≡ k
blank_kind kind.Pointers o = refl
blank_kind kind.Words o = refl
blank_kind kind.Bytes o = refl
blank_kind kind.Method o = refl

has_one : (ps : List PlannedValue) → HasHeader ps → 0 < length ps
has_one [] h = absurd h
has_one (p ∷ ps) h = omega arith

pub blank_fields : (k : Kind) (o : NewObject) → IsShaped k o → length (blank_by k o).fields ≡ length o.fields
blank_fields kind.Pointers o h = length-replicate (length o.fields) nil
blank_fields kind.Words o h = absurd h
blank_fields kind.Bytes o h = rw h refl
blank_fields kind.Method o h = let e = length-replicate (length o.fields - 1) nil in let l = has_one o.fields h in omega (arith, e, l)

pub blank_units : (k : Kind) (o : NewObject) → IsShaped k o → length (blank_by k o).units ≡ length o.bytes
blank_units kind.Pointers o h = rw h refl
blank_units kind.Words o h = absurd h
blank_units kind.Bytes o h = length-replicate (length o.bytes) 0
blank_units kind.Method o h =
    let e = length-replicate {A = ℕ} (2 * length o.fields + length o.bytes - 2 * (length o.fields - 1 + 1)) 0 in
    let l = has_one o.fields h in omega (arith, e, l)

words_by : (a b c d : ℕ) → a ≡ b → c ≡ d → 2 + a + (c + 1) / 2 ≡ 2 + b + (d + 1) / 2
words_by a b c d e f = rw (e, f) refl

blank_words : (k : Kind) (o : NewObject) → IsShaped k o → words_of (blank_by k o) ≡ words_of_new o
blank_words kind.Pointers o h = words_by (length (blank_by kind.Pointers o).fields) _ _ _ (blank_fields kind.Pointers o h) (blank_units kind.Pointers o h)
blank_words kind.Words o h = absurd h
blank_words kind.Bytes o h = words_by (length (blank_by kind.Bytes o).fields) _ _ _ (blank_fields kind.Bytes o h) (blank_units kind.Bytes o h)
blank_words kind.Method o h = words_by (length (blank_by kind.Method o).fields) _ _ _ (blank_fields kind.Method o h) (blank_units kind.Method o h)

-- MAKING

-- so many objects and words have room
pub record HasRoom (head : Head) (t : Table) (n w : ℕ) : Type 0 where
  pub entries : total_used one t + n ≤ head.entries
  pub words : total_used words_of t + w ≤ head.words

room_for : (head : Head) (t : Table) (o : Object) (n w : ℕ) → HasRoom head t (suc n) (words_of o + w) → has_room bounded_table head t o ≡ true
room_for head t o n w h =
    let e = h.entries in
    let f = h.words in
    let a : nat_le (total_used one t + 1) head.entries ≡ true = grind (arith, nat_tests) in
    let b : nat_le (total_used words_of t + words_of o) head.words ≡ true = grind (arith, nat_tests) in
    rw (a, b) refl

room_left : (head : Head) (t : Table) (o : Object) (n w : ℕ) → HasRoom head t (suc n) (words_of o + w) → HasRoom head (placed t o) n w
room_left head t o n w h = record {
  entries = let e = h.entries in let f = total-placed one t o in omega (arith, e, f);
  words = let e = h.words in let f = total-placed words_of t o in omega (arith, e, f);
}

made_it : (o : Object) (s : State Table) (a b : Bool) → a ≡ true → b ≡ true → made bounded_table o s a b ≡ Went (Ref (first_free s.memory)) (record s { memory = placed s.memory o })
unfolding made
made_it o s false b e f = cc
made_it o s true false e f = cc
made_it o s true true e f = refl

make_it : (class : Value) (k : Kind) (size literals : ℕ) (s : State Table) (t : Table) → is_some (object_at t class) ≡ true
    → has_room bounded_table s.head t (fresh_with nil (name_in class) k size literals) ≡ true
    → (make bounded_table class k size literals).run (over s t) ≡ Went (Ref (first_free t)) (over s (placed t (fresh_with nil (name_in class) k size literals)))
unfolding make make_named
make_it (Small n) k size literals s t e f = cc
make_it (Ref n) k size literals s t e f = made_it (fresh_with nil n k size literals) (over s t) _ _ e f

pub record MadeOne (t : Table) (o : NewObject) (v : Value) (u : Table) : Type 0 where
  pub value : v ≡ Ref (first_free t)
  pub next : u ≡ placed t (blank o)

make_one : (head : Head) (t : Table) (o : NewObject) (n w : ℕ) → is_some (object_at t o.class) ≡ true → IsShaped o.kind o → HasRoom head t (suc n) (words_of_new o + w)
    → Goes head (make_new bounded_table o) t (λ v u. MadeOne t o v u)
unfolding make_new
make_one head t o n w e h room = record {
  value = Ref (first_free t);
  next = placed t (blank o);
  goes = λ s f. make_it o.class o.kind (size_by o.kind o) (literals_by o.kind o) s t e
      (subst (λ (a : Head). has_room bounded_table a t (blank o) ≡ true) (sym f) (room_for head t (blank o) n w (subst (λ m. HasRoom head t (suc n) (m + w)) (sym (blank_words o.kind o h)) room)));
  leaves = record { value = refl; next = refl };
}

-- all of them are there, each under its own name, and what was there stands
pub record Makes (t : Table) (os : List NewObject) (vs : List Value) (u : Table) : Type 0 where
  pub length : length vs ≡ length os
  pub stands : (v : Value) (o : Object) → object_at t v ≡ Some o → object_at u v ≡ Some o
  pub fresh : (i : ℕ) (v : Value) → slice_get vs i ≡ Some v → object_at t v ≡ None
  pub apart : (i j : ℕ) (v : Value) → slice_get vs i ≡ Some v → slice_get vs j ≡ Some v → i ≡ j
  pub objects : (i : ℕ) (v : Value) (o : NewObject) → slice_get vs i ≡ Some v → slice_get os i ≡ Some o → object_at u v ≡ Some (blank o)

-- a class that is there; of CompiledMethod the Methods alone are instances
pub record IsClassFor (t : Table) (k : Kind) (class : Value) : Type 0 where
  pub there : is_some (object_at t class) ≡ true
  pub kind : (n : ℕ) → class ≡ Ref n → is_method k ≡ (n == place_of MethodClass)

-- what all of them ask of the table
abbrev pub CanMake : Table → List NewObject → Type 0
CanMake t [] = Unit {0}
CanMake t (o ∷ os) = IsClassFor t o.kind o.class × IsShaped o.kind o × CanMake t os

pub placed_stands : (t : Table) (o : Object) (v : Value) (a : Object) → object_at t v ≡ Some a → object_at (placed t o) v ≡ Some a
placed_stands t o (Small n) a e = cc
placed_stands t o (Ref n) a e = placed-other t n o (λ q. let f : entry t n ≡ None = ap (entry t) q ∙ first_free-none t in cc) ∙ e

some_stands : (a b : Option Object) → ((o : Object) → a ≡ Some o → b ≡ Some o) → is_some a ≡ true → is_some b ≡ true
some_stands None b h e = cc
some_stands (Some o) b h e = rw (h o refl) refl

none_before : (a b : Option Object) → ((o : Object) → a ≡ Some o → b ≡ Some o) → b ≡ None → a ≡ None
none_before None b h e = refl
none_before (Some o) b h e = let f = h o refl in cc

still : (t : Table) (o : Object) (os : List NewObject) → CanMake t os → CanMake (placed t o) os
still t o [] h = tt
still t o (p ∷ os) h = (record { there = some_stands (object_at t p.class) (object_at (placed t o) p.class) (λ a. placed_stands t o p.class a) h.0.there; kind = h.0.kind }, h.1, still t o os h.2)

none_made : (t : Table) → Makes t [] [] t
none_made t = record { length = refl; stands = λ v o e. e; fresh = λ i v e. cc; apart = λ i j v e. cc; objects = λ i v o e. cc }

module _ (t : Table) (o : NewObject) (os : List NewObject) (vs : List Value) (u : Table) (h : Makes (placed t (blank o)) os vs u) where
  its_name : object_at (placed t (blank o)) (Ref (first_free t)) ≡ Some (blank o)
  its_name = placed-first t (blank o)

  fresh_more : (i : ℕ) (v : Value) → slice_get (Ref (first_free t) ∷ vs) i ≡ Some v → object_at t v ≡ None
  fresh_more zero v e = let q : Ref (first_free t) ≡ v = cc in subst (λ x. object_at t x ≡ None) q (first_free-none t)
  fresh_more (suc i) v e = none_before (object_at t v) (object_at (placed t (blank o)) v) (λ a. placed_stands t (blank o) v a) (h.fresh i v e)

  no_object : None ≡ Some (blank o) → ⊥
  no_object r = cc

  not_later : (j : ℕ) (v : Value) → Ref (first_free t) ≡ v → slice_get vs j ≡ Some v → ⊥
  not_later j v q e = no_object (sym (h.fresh j v e) ∙ subst (λ x. object_at (placed t (blank o)) x ≡ Some (blank o)) q its_name)

  apart_more : (i j : ℕ) (v : Value) → slice_get (Ref (first_free t) ∷ vs) i ≡ Some v → slice_get (Ref (first_free t) ∷ vs) j ≡ Some v → i ≡ j
  apart_more zero zero v e f = refl
  apart_more zero (suc j) v e f = let q : Ref (first_free t) ≡ v = cc in absurd (not_later j v q f)
  apart_more (suc i) zero v e f = let q : Ref (first_free t) ≡ v = cc in absurd (not_later i v q e)
  apart_more (suc i) (suc j) v e f = ap (λ n. suc n) (h.apart i j v e f)

  objects_more : (i : ℕ) (v : Value) (p : NewObject) → slice_get (Ref (first_free t) ∷ vs) i ≡ Some v → slice_get (o ∷ os) i ≡ Some p → object_at u v ≡ Some (blank p)
  objects_more zero v p e f =
      let q : Ref (first_free t) ≡ v = cc in
      let r : o ≡ p = cc in
      let g = h.stands (Ref (first_free t)) (blank o) its_name in
      subst (λ y. object_at u v ≡ Some (blank y)) r (subst (λ x. object_at u x ≡ Some (blank o)) q g)
  objects_more (suc i) v p e f = h.objects i v p e f

  one_more : Makes t (o ∷ os) (Ref (first_free t) ∷ vs) u
  one_more = record {
    length = ap (λ n. suc n) h.length;
    stands = λ v a e. h.stands v a (placed_stands t (blank o) v a e);
    fresh = fresh_more;
    apart = apart_more;
    objects = objects_more;
  }

after_one : (head : Head) (t : Table) (o : NewObject) (os : List NewObject) (v : Value) (u : Table) → MadeOne t o v u
    → Goes head (make_all bounded_table os) (placed t (blank o)) (λ vs w. Makes (placed t (blank o)) os vs w)
    → Goes head (make_all bounded_table os >>= (λ vs. answer (v ∷ vs))) u (λ vs w. Makes t (o ∷ os) vs w)
after_one head t o os v u m g =
    then_goes head u (λ vs w. Makes (placed t (blank o)) os vs w) _ (make_all bounded_table os) _
    (subst (λ x. Goes head (make_all bounded_table os) x (λ vs w. Makes (placed t (blank o)) os vs w)) (sym m.next) g)
    (λ vs w n. answer_goes head w _ (v ∷ vs) (subst (λ x. Makes t (o ∷ os) (x ∷ vs) w) (sym m.value) (one_more t o os vs w n)))

room_more : (head : Head) (t : Table) (o : NewObject) (n w : ℕ) → IsShaped o.kind o → HasRoom head t (suc n) (words_of_new o + w) → HasRoom head (placed t (blank o)) n w
room_more head t o n w h room = room_left head t (blank o) n w (subst (λ m. HasRoom head t (suc n) (m + w)) (sym (blank_words o.kind o h)) room)

pub make_all_goes : (head : Head) (t : Table) (os : List NewObject) → CanMake t os → HasRoom head t (length os) (words_of_all os)
    → Goes head (make_all bounded_table os) t (λ vs u. Makes t os vs u)
unfolding make_all
make_all_goes head t [] h room = answer_goes head t _ [] (none_made t)
make_all_goes head t (o ∷ os) h room =
    then_goes head t (λ v u. MadeOne t o v u) _ (make_new bounded_table o) _ (make_one head t o (length os) (words_of_all os) h.0.there h.1 room)
    (λ v u m. after_one head t o os v u m
    (make_all_goes head (placed t (blank o)) os (still t (blank o) os h.2) (room_more head t o (length os) (words_of_all os) h.1 room)))
