-- A bounded table makes what a table makes, where there is room for all of it; and what makes nothing is the same in both.
use Rattle.std.proofs.Common.{◌≡◌, ℕ, ◌+◌, ◌<◌, ◌≤◌, List, [], ◌∷◌, Bool, true, false, refl, sym, ap, subst, arith, length}
use Rattle.std.specs.Prelude.{◌-◌, ◌*◌, nat_le}
use Rattle.std.proofs.lemmas.Bool.Decides.{nat_tests}
use Rattle.std.proofs.lemmas.List.{length-replicate}
use Rattle.st_model.specs.declared.kind.Kind.{Kind}
use Rattle.st_model.specs.declared.kind.Kind.TheVariants as kind
use Rattle.st_model.specs.declared.page.PageObject.TheVariants.{NilObject}
use Rattle.st_model.specs.Values.{Value, Small, Ref}
use Rattle.st_model.specs.Objects.{Object, is_words, is_method, one, words_of}
use Rattle.st_model.specs.Formed.{fresh_with}
use Rattle.st_model.specs.Machine.{Head, State, Transition, Died, Went, Step, is_there, has_room, die, after, ◌>>=◌}
use Rattle.st_model.specs.Steps.{of_page, new_of, made, make_named, make}
use Rattle.st_model.specs.Table.{Table, table, bounded_table, placed, total_used}
use Rattle.st_model.specs.inside.Calls.{itself}
use Rattle.st_model.proofs.Names.{AnyName, any_value, any_values}
use Rattle.st_simulation.proofs.Same.{TransitionSame, Anything, strict, strict_states}
use Rattle.st_simulation.proofs.Bounded.{same_name, value-itself, values-itself, total-placed, bounded_simulation, bounded_start}
use Rattle.st_simulation.proofs.Between.{both_same}
use Rattle.st_install.specs.Plans.{PlannedValue, There, Made, NewObject, FieldStore, Plan, words_of_new, words_of_all}
use Rattle.st_install.specs.Installing.{size_by, literals_by, make_new, make_all, fill_and_store, install}
use Rattle.st_install.specs.inside.SamePlans.{renamed_part, renamed_parts, renamed_objects, renamed_stores, renamed_plan, IsLivePart, AllLiveParts, AllLiveObjects, AllLiveStores, IsLivePlan}
use Rattle.st_install.proofs.SameParts.{IsFormedNew, AllFormed}
use Rattle.st_install.proofs.SameFilling.{fill_and_store-same}
use Rattle.std.proofs.lemmas.Bool.{and_from}

-- THE WORDS OF A NEW OBJECT are no more than planned

new_words : (k : Kind) (o : NewObject) (c : ℕ) (v : Value) → is_words k ≡ false → (is_method k ≡ true → 0 < length o.fields)
    → words_of (fresh_with v c k (size_by k o) (literals_by k o)) ≤ words_of_new o
new_words kind.Pointers o c v e h = let n = length-replicate (length o.fields) v in omega (arith, n)
new_words kind.Words o c v e h = cc
new_words kind.Bytes o c v e h = let n = length-replicate {A = ℕ} (length o.bytes) 0 in omega (arith, n)
new_words kind.Method o c v e h =
    let l = h refl in
    let m = length-replicate (length o.fields - 1) v in
    let n = length-replicate {A = ℕ} (2 * length o.fields + length o.bytes - 2 * (length o.fields - 1 + 1)) 0 in
    omega (arith, l, m, n)

-- THE ROOM

-- these objects have room beside those of the table
pub record Fits (t : Table) (a : Head) (os : List NewObject) : Type 0 where
  pub entries : total_used one t + length os ≤ a.entries
  pub words : total_used words_of t + words_of_all os ≤ a.words

room_for : (t : Table) (a : Head) (o : NewObject) (os : List NewObject) (x : Object) → Fits t a (o ∷ os) → words_of x ≤ words_of_new o → has_room bounded_table a t x ≡ true
room_for t a o os x f l =
    let e = f.entries in
    let w = f.words in
    let p : nat_le (total_used one t + 1) a.entries ≡ true = grind (arith, nat_tests) in
    let q : nat_le (total_used words_of t + words_of x) a.words ≡ true = grind (arith, nat_tests) in
    and_from _ _ p q

fits_after : (t : Table) (a : Head) (o : NewObject) (os : List NewObject) (x : Object) → Fits t a (o ∷ os) → words_of x ≤ words_of_new o → Fits (placed t x) a os
fits_after t a o os x f l =
    let e = f.entries in
    let w = f.words in
    let p = total-placed one t x in
    let q = total-placed words_of t x in
    record { entries = omega (arith, p, e); words = omega (arith, q, w, l) }

-- WHAT IS MADE

module _ (c : State Table) (k : Kind) (size literals : ℕ) where
  abbrev new : ℕ → Object
  new class = new_of bounded_table c.memory class k size literals

  made_same : (x : Object) (there : Bool) → made bounded_table x c there true ≡ made table x c there true
  unfolding made
  made_same x true = refl
  made_same x false = refl

  make_bounded : (v : Value) → ((class : ℕ) → has_room bounded_table c.head c.memory (new class) ≡ true) → (make bounded_table v k size literals).run c ≡ (make table v k size literals).run c
  unfolding make make_named die
  make_bounded (Small n) f = refl
  make_bounded (Ref n) f = rw (f n) (made_same (new n) (is_there table c.memory (Ref n)))

  made_leaves : (x : Object) (there : Bool) (v : Value) (d : State Table) → made table x c there true ≡ Went v d → (d.head ≡ c.head) × (d.memory ≡ placed c.memory x)
  unfolding made
  made_leaves x true v d e = let q : record c { memory = placed c.memory x } ≡ d = cc in (ap (λ (y : State Table). y.head) (sym q), ap (λ (y : State Table). y.memory) (sym q))
  made_leaves x false v d e = cc

  make_leaves : (u v : Value) (d : State Table) → (make table u k size literals).run c ≡ Went v d → (class : ℕ) × (d.head ≡ c.head) × (d.memory ≡ placed c.memory (new class))
  unfolding make make_named die
  make_leaves (Small n) v d e = cc
  make_leaves (Ref n) v d e = let r = made_leaves (new n) (is_there table c.memory (Ref n)) v d e in (n, r.0, r.1)

module _ {H A B : Type 0} where
  after_equal : (x y : Transition (State H) A) (f g : A → Step H B) → x ≡ y → ((a : A) (t : State H) → y ≡ Went a t → (f a).run t ≡ (g a).run t)
      → after x (λ a t. (f a).run t) ≡ after y (λ a t. (g a).run t)
  unfolding after
  after_equal x (Died k) f g e h = rw e refl
  after_equal x (Went a t) f g e h = rw e (h a t refl)

  then_equal : (m n : Step H A) (f g : A → Step H B) (c : State H) → m.run c ≡ n.run c → ((a : A) (t : State H) → n.run c ≡ Went a t → (f a).run t ≡ (g a).run t) → (m >>= f).run c ≡ (n >>= g).run c
  unfolding ◌>>=◌
  then_equal m n f g c e h = after_equal (m.run c) (n.run c) f g e h

new_fits : (o : NewObject) (c : State Table) (class : ℕ) → IsFormedNew o → words_of (new_of bounded_table c.memory class o.kind (size_by o.kind o) (literals_by o.kind o)) ≤ words_of_new o
new_fits o c class f = new_words o.kind o class _ f.kind f.header

make_new-bounded : (o : NewObject) (os : List NewObject) (c : State Table) → Fits c.memory c.head (o ∷ os) → IsFormedNew o → (make_new bounded_table o).run c ≡ (make_new table o).run c
unfolding make_new
make_new-bounded o os c f h =
    make_bounded c o.kind (size_by o.kind o) (literals_by o.kind o) o.class (λ class. room_for c.memory c.head o os (new_of bounded_table c.memory class o.kind (size_by o.kind o) (literals_by o.kind o)) f (new_fits o c class h))

make_new-leaves : (o : NewObject) (os : List NewObject) (c d : State Table) (v : Value) → Fits c.memory c.head (o ∷ os) → IsFormedNew o → (make_new table o).run c ≡ Went v d → Fits d.memory d.head os
unfolding make_new
make_new-leaves o os c d v f h e =
    let r = make_leaves c o.kind (size_by o.kind o) (literals_by o.kind o) o.class v d e in
    let g = fits_after c.memory c.head o os _ f (new_fits o c r.0 h) in
    rw (r.1, r.2) g

pub make_all-bounded : (os : List NewObject) (c : State Table) → Fits c.memory c.head os → AllFormed os → (make_all bounded_table os).run c ≡ (make_all table os).run c
unfolding make_all
make_all-bounded [] c f h = refl
make_all-bounded (o ∷ os) c f h =
    then_equal _ _ _ _ c (make_new-bounded o os c f h.0)
    (λ v d e. then_equal _ _ _ _ d (make_all-bounded os d (make_new-leaves o os c d v f h.0 e) h.1) (λ vs t q. refl))

-- WHAT MAKES NOTHING

part_itself : (p : PlannedValue) → renamed_part same_name p ≡ p
part_itself (There v) = ap (λ x. There x) (value-itself v)
part_itself (Made k) = refl

parts_itself : (ps : List PlannedValue) → renamed_parts same_name ps ≡ ps
parts_itself [] = refl
parts_itself (p ∷ ps) = let a = part_itself p in let b = parts_itself ps in λ i. a i ∷ b i

objects_itself : (os : List NewObject) → renamed_objects same_name os ≡ os
objects_itself [] = refl
objects_itself (o ∷ os) =
    let c = value-itself o.class in
    let f = parts_itself o.fields in
    let b = objects_itself os in
    λ i. record { class = c i; kind = o.kind; fields = f i; bytes = o.bytes } ∷ b i

stores_itself : (ss : List FieldStore) → renamed_stores same_name ss ≡ ss
stores_itself [] = refl
stores_itself (s ∷ ss) =
    let o = part_itself s.object in
    let x = part_itself s.value in
    let b = stores_itself ss in
    λ i. record { object = o i; field = s.field; value = x i } ∷ b i

pub plan_itself : (p : Plan) → renamed_plan same_name p ≡ p
plan_itself p =
    let o = objects_itself p.objects in
    let s = stores_itself p.symbol_stores in
    let x = part_itself p.selector in
    let y = part_itself p.method in
    let c = value-itself p.class in
    let d = value-itself p.dictionary in
    λ i. record { objects = o i; symbol_stores = s i; selector = x i; method = y i; class = c i; dictionary = d i; grown = p.grown }

any_part : (p : PlannedValue) → IsLivePart AnyName p
any_part (There v) = any_value v
any_part (Made k) = tt

any_parts : (ps : List PlannedValue) → AllLiveParts AnyName ps
any_parts [] = tt
any_parts (p ∷ ps) = (any_part p, any_parts ps)

any_objects : (os : List NewObject) → AllLiveObjects AnyName os
any_objects [] = tt
any_objects (o ∷ os) = (record { class = any_value o.class; fields = any_parts o.fields }, any_objects os)

any_stores : (ss : List FieldStore) → AllLiveStores AnyName ss
any_stores [] = tt
any_stores (s ∷ ss) = (record { object = any_part s.object; value = any_part s.value }, any_stores ss)

pub any_plan : (p : Plan) → IsLivePlan AnyName p
any_plan p = record {
  objects = any_objects p.objects;
  symbol_stores = any_stores p.symbol_stores;
  selector = any_part p.selector;
  method = any_part p.method;
  class = any_value p.class;
  dictionary = any_value p.dictionary;
}

fill_bounded : (nil : Value) (vs : List Value) (p : Plan) (c : State Table) → (fill_and_store bounded_table nil vs p).run c ≡ (fill_and_store table nil vs p).run c
fill_bounded nil vs p c =
    let sim = strict (bounded_simulation c.head) in
    let same = fill_and_store-same sim nil nil vs vs p (record { live = any_value nil; is = sym (value-itself nil) }) (record { live = any_values vs; is = sym (values-itself vs) }) (any_plan p) in
    let go = same.go c c (strict_states (bounded_simulation c.head) c c (bounded_start c)) in
    both_same c.head ((fill_and_store table nil vs p).run c) ((fill_and_store bounded_table nil vs p).run c)
    (subst (λ q. TransitionSame (strict (bounded_simulation c.head)) Anything itself ((fill_and_store table nil vs p).run c) ((fill_and_store bounded_table nil vs q).run c)) (plan_itself p) go)

-- AN INSTALLATION

page_leaves : (c t : State Table) (v : Value) → (of_page table NilObject).run c ≡ Went v t → t ≡ c
unfolding of_page
page_leaves c t v e = cc

page_bounded : (c : State Table) → (of_page bounded_table NilObject).run c ≡ (of_page table NilObject).run c
unfolding of_page
page_bounded c = refl

-- where its objects have room, it is the same in a bounded table
pub install_bounded : (p : Plan) (c : State Table) → Fits c.memory c.head p.objects → AllFormed p.objects → (install bounded_table p).run c ≡ (install table p).run c
unfolding install
install_bounded p c f h =
    then_equal _ _ _ _ c (page_bounded c)
    (λ nil t e. then_equal _ _ _ _ t (make_all-bounded p.objects t (subst (λ (s : State Table). Fits s.memory s.head p.objects) (sym (page_leaves c t nil e)) f) h)
    (λ vs u q. fill_bounded nil vs p u))
