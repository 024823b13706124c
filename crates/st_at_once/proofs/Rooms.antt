-- Room in a memory: for which objects it is enough, what takes of it, and that a memory with room does as a table does.
use Rattle.std.proofs.Common.{◌≡◌, ◌≤◌, ◌+◌, ◌*◌, ◌/◌, ℕ, suc, Bool, true, false, [], ◌∷◌, Option, Some, None, refl, sym, ap, ◌∙◌, subst, is_some, arith}
use Rattle.std.specs.Prelude.{◌-◌, ◌&&◌, nat_le, min, if◌then◌else◌}
use Rattle.std.proofs.lemmas.Bool.Decides.{nat_tests}
use Rattle.st_model.specs.declared.dead.Dead.TheVariants as dead
use Rattle.st_model.specs.declared.kind.Kind.{Kind}
use Rattle.st_model.specs.declared.kind.Kind.TheVariants as kind
use Rattle.st_model.specs.Values.{Value, Small, Ref, value_of, is_small}
use Rattle.st_model.specs.Objects.{Object, one, words_of}
use Rattle.st_model.specs.Formed.{IsMakeable, fresh}
use Rattle.st_model.specs.Machine.{State, Head, Died, Went, die, is_there, used, next_of, first_instance}
use Rattle.st_model.specs.Steps.{made, make_named, make, object_at, next_instance, get_free}
use Rattle.st_model.specs.Table.{Table, table, bounded_table, entry, first_free, placed, settled_table, total_used}
use Rattle.st_model.specs.View.{View, SettlesTo, is_live, fits, demand_of}
use Rattle.st_memory.specs.inside.Making.{CanMake, making_changes}
use Rattle.st_memory.proofs.Fresh.{words_pointers, words_words, words_bytes, words_method}
use Rattle.st_memory.proofs.Wide.{named_word}
use Rattle.st_simulation.proofs.Bounded.{total-placed}
use Rattle.st_at_once.specs.inside.Room.{room_of}
use Rattle.st_at_once.proofs.Uses.{exchange-bounded}

-- as much room as before

pub room_as : (v u : View) → used table u.objects ≡ used table v.objects → u.head ≡ v.head → room_of u ≡ room_of v
unfolding room_of
room_as v u e h = λ i. min ((h i).entries - (e i).entries) (((h i).words - (e i).words) / 2050)

pub same_room : (v u : View) → used table u.objects ≡ used table v.objects → u.head ≡ v.head → room_of v ≤ room_of u + 1
same_room v u e h =
    let q : room_of u ≡ room_of v = room_as v u e h in
    omega (arith, q)

-- new objects

most : (b w : ℕ) → w ≡ b + 2 → w ≤ 2050 * (1 + b / 2048)
most b w e = omega (arith, e)

-- an object takes no more than what is counted for it
pub words_made : (c : ℕ) (k : Kind) (n l : ℕ) → IsMakeable c k n l → words_of (fresh c k n l) ≤ 2050 * making_changes k n
words_made c kind.Pointers n l m = most n _ (words_pointers c n l)
words_made c kind.Words n l m = most n _ (words_words c n l)
words_made c kind.Bytes n l m = most ((n + 1) / 2) _ (words_bytes c n l)
words_made c kind.Method n l m = most ((n + 1) / 2) _ (words_method c n l (m.header refl))

fits_if : (a b c d e x n : ℕ) → 1 ≤ n → e ≤ n → x ≤ 2050 * n → n ≤ min (b - a) ((d - c) / 2050) → (nat_le (a + e) b && nat_le (c + x) d) ≡ true
fits_if a b c d e x n some less few l =
    let p : a + e ≤ b = omega arith in
    let q : c + x ≤ d = omega arith in
    grind (arith, nat_tests, p, q)

room_left : (a b c d x n : ℕ) → 1 ≤ n → x ≤ 2050 * n → min (b - a) ((d - c) / 2050) ≤ min (b - (a + 1)) ((d - (c + x)) / 2050) + n
room_left a b c d x n some few = omega arith

same_truth : (p q : Bool) → (p ≡ true → q ≡ true) → (q ≡ true → p ≡ true) → p ≡ q
same_truth true q f g = sym (f refl)
same_truth false true f g = g refl
same_truth false false f g = refl

enough : (a b c d n : ℕ) → (nat_le (a + n) b && nat_le (c + 2050 * n) d) ≡ true → nat_le n (min (b - a) ((d - c) / 2050)) ≡ true
enough a b c d n h =
    let p : a + n ≤ b = grind (arith, nat_tests, h) in
    let q : c + 2050 * n ≤ d = grind (arith, nat_tests, h) in
    let r : n ≤ min (b - a) ((d - c) / 2050) = omega arith in
    grind (arith, nat_tests, r)

at_least : (n k : ℕ) → nat_le n k ≡ true → n ≤ k
at_least n k h = grind (arith, nat_tests, h)

-- room for n entries and 2,050 words for each is room for n changes
pub room_asked : (v : View) (n : ℕ) → 1 ≤ n → fits v (record { entries = n; words = 2050 * n }) ≡ nat_le n (room_of v)
unfolding room_of
room_asked v n some =
    let a = total_used one v.objects in
    let c = total_used words_of v.objects in
    same_truth _ _ (enough a v.head.entries c v.head.words n)
    (λ h. fits_if a v.head.entries c v.head.words n (2050 * n) n some (omega arith) (omega arith) (at_least n _ h))

-- what settles leaves as much room, or more

kept_uses : (weight : Object → ℕ) (b : Bool) (e : Option Object) (t u : Table) → total_used weight t ≤ total_used weight u → total_used weight ((if b then e else None) ∷ t) ≤ total_used weight (e ∷ u)
kept_uses weight true None t u h = h
kept_uses weight false None t u h = h
kept_uses weight true (Some o) t u h = omega (arith, h)
kept_uses weight false (Some o) t u h = omega (arith, h)

settled_uses : (weight : Object → ℕ) (t : Table) (keep : ℕ → Bool) → total_used weight (settled_table t keep) ≤ total_used weight t
settled_uses weight [] keep = omega arith
settled_uses weight (e ∷ t) keep = kept_uses weight (keep 0) e (settled_table t (λ k. keep (suc k))) t (settled_uses weight t (λ k. keep (suc k)))

more_room : (a b c d e f : ℕ) → e ≤ a → f ≤ c → min (b - a) ((d - c) / 2050) ≤ min (b - e) ((d - f) / 2050)
more_room a b c d e f less few = omega arith

pub room_settled : (v u : View) → SettlesTo v u → room_of v ≤ room_of u
unfolding room_of
room_settled v u s =
    let entries : total_used one u.objects ≤ total_used one v.objects = subst (λ (t : Table). total_used one t ≤ total_used one v.objects) (sym s.objects) (settled_uses one v.objects s.set) in
    let words : total_used words_of u.objects ≤ total_used words_of v.objects = subst (λ (t : Table). total_used words_of t ≤ total_used words_of v.objects) (sym s.objects) (settled_uses words_of v.objects s.set) in
    subst (λ (h : Head). room_of v ≤ min (h.entries - total_used one u.objects) ((h.words - total_used words_of u.objects) / 2050)) (sym s.head)
    (more_room (total_used one v.objects) v.head.entries (total_used words_of v.objects) v.head.words (total_used one u.objects) (total_used words_of u.objects) entries words)

module _ (v : View) (o : Object) (n : ℕ) (some : 1 ≤ n) (few : words_of o ≤ 2050 * n) where
  pub room_fits : n ≤ room_of v → fits v (demand_of o) ≡ true
  unfolding room_of
  room_fits l = fits_if (total_used one v.objects) v.head.entries (total_used words_of v.objects) v.head.words 1 (words_of o) n some some few l

  pub room_made : (u : View) → u.objects ≡ placed v.objects o → u.head ≡ v.head → room_of v ≤ room_of u + n
  unfolding room_of
  room_made u e h =
      let a : total_used one u.objects ≡ total_used one v.objects + 1 = ap (total_used one) e ∙ total-placed one v.objects o in
      let b : total_used words_of u.objects ≡ total_used words_of v.objects + words_of o = ap (total_used words_of) e ∙ total-placed words_of v.objects o in
      let q : room_of u ≡ min (v.head.entries - (total_used one v.objects + 1)) ((v.head.words - (total_used words_of v.objects + words_of o)) / 2050)
      = λ i. min ((h i).entries - a i) (((h i).words - b i) / 2050) in
      subst (λ z. room_of v ≤ z + n) (sym q) (room_left (total_used one v.objects) v.head.entries (total_used words_of v.objects) v.head.words (words_of o) n some few)

-- the table makes an object of each class that is there

module _ (k : Kind) (n l : ℕ) where
  pub made_of_small : (v : Value) (s : State Table) → is_small v ≡ true → (make table v k n l).run s ≡ Died dead.Small
  unfolding make die
  made_of_small (Small c) s e = refl
  made_of_small (Ref c) s e = cc

  made_if : (c : ℕ) (s : State Table) (b : Bool) → b ≡ false → made table (fresh c k n l) s b true ≡ Died dead.Kind
  unfolding made
  made_if c s false e = refl
  made_if c s true e = cc

  pub made_of_none : (t : Table) (v : Value) (s : State Table) → s.memory ≡ t → is_small v ≡ false → is_there table t v ≡ false → (make table v k n l).run s ≡ Died dead.Kind
  unfolding make make_named
  made_of_none t (Small c) s is e gone = cc
  made_of_none t (Ref c) s is e gone = made_if c s (is_there table s.memory (Ref c)) (ap (λ u. is_there table u (Ref c)) is ∙ gone)

  made_there : (c : ℕ) (s : State Table) (b : Bool) → b ≡ true
      → made table (fresh c k n l) s b true ≡ Went (Ref (first_free s.memory)) (record s { memory = placed s.memory (fresh c k n l) })
  unfolding made
  made_there c s true e = refl
  made_there c s false e = cc

  makes : (c : ℕ) (s : State Table) → is_live s.memory (Ref c) ≡ true
      → (make table (Ref c) k n l).run s ≡ Went (Ref (first_free s.memory)) (record s { memory = placed s.memory (fresh c k n l) })
  unfolding make make_named is_live
  makes c s e = made_there c s (is_some (entry s.memory c)) e

  -- the class is named by x, and by the pointer w
  module _ (t : Table) (x : Value) (w : ℕ) (same : value_of w ≡ x) (live : is_live t (value_of w) ≡ true) where
    class_is : x ≡ Ref (w / 2)
    class_is = sym same ∙ named_word t w live

    pub makeable : CanMake x k n l → IsMakeable (w / 2) k n l
    makeable can = subst (λ y. CanMake y k n l) class_is can

    pub made_of_class : (s : State Table) → s.memory ≡ t → (u : Table) (y : Value) → y ≡ Ref (first_free t) → u ≡ placed t (fresh (w / 2) k n l)
        → (make table x k n l).run s ≡ Went y (record s { memory = u })
    made_of_class s is u y e f =
        let there : is_live s.memory (Ref (w / 2)) ≡ true = ap (λ z. is_live z (Ref (w / 2))) is ∙ ap (is_live t) (sym (named_word t w live)) ∙ live in
        rw (class_is, e, f)
        (subst (λ z. (make table (Ref (w / 2)) k n l).run s ≡ Went (Ref (first_free z)) (record s { memory = placed z (fresh (w / 2) k n l) })) is (makes (w / 2) s there))

-- what is read of a bounded table is what is read of a table

pub next_read : (v : Value) (n : ℕ) → next_instance bounded_table v n ≡ next_instance table v n
unfolding next_instance next_of first_instance
next_read (Small c) n = refl
next_read (Ref c) n = refl

pub at_read : (n : ℕ) → object_at bounded_table n ≡ object_at table n
unfolding object_at
at_read n = refl

pub free_read : get_free bounded_table ≡ get_free table
unfolding get_free
free_read = refl

pub ruleset reads = (free_read, exchange-bounded)
