-- What rows do with the objects of a memory.
use Rattle.std.proofs.Common.{◌≡◌, ◌<◌, ◌≤◌, ◌+◌, ℕ, Bool, true, false, Option, Some, None, refl, sym, ap, ◌∙◌, subst, length, is_some, arith}
use Rattle.std.proofs.lemmas.Bool.Decides.{nat_tests}
use Rattle.std.proofs.lemmas.Grind.{common_steps}
use Rattle.std.specs.Prelude.{if◌then◌else◌, ◌/◌, ◌%◌, ◌==◌, ℤ}
use Rattle.st_model.specs.Values.{Value, Small, Ref, value_of, is_small}
use Rattle.st_model.specs.Machine.{State, Went, Died, answer, die, ◌>>=◌, is_there, has_room}
use Rattle.st_model.specs.declared.dead.Dead.{Dead}
use Rattle.st_model.specs.declared.dead.Dead.TheVariants as dead
use Rattle.st_model.specs.declared.kind.Kind.{Kind}
use Rattle.st_model.specs.declared.page.PageObject.{PageObject}
use Rattle.st_model.specs.Objects.{Object, is_pointers, words_of, nil}
use Rattle.st_model.specs.Formed.{fresh}
use Rattle.st_model.specs.Steps.{object, object_named, found, stored_at, store_at, set_field, made, make_named, make, fetch_field, count_fields, class_of, literal, fetch_method_field, byte_at, store_field, transfer, fetch_word, fetch_byte, of_page}
use Rattle.st_model.specs.Methods.{method_header, literal_from_last}
use Rattle.st_model.specs.Table.{Table, table, bounded_table, entry, first_free, placed}
use Rattle.st_model.specs.Lookup.{half_word, pointer_if}
use Rattle.st_model.specs.View.{View, IsWhole, Lacks, SmallInteger, Gone, OtherKind, TooFew, is_live, object_of, fits, demand_of}
use Rattle.st_model.proofs.Tabular.{fetch_field-as, count_fields-as, class_of-as, literal-as, fetch_method_field-as, byte_at-as, method_header-as, literal_from_last-as, store_field-as, transfer-as, fetch_word-as, fetch_byte-as, of_page-as}
use Rattle.st_model.proofs.TableLemmas.{entry_past}
use Rattle.st_model.proofs.Words.{value_of-nil}
use Rattle.st_memory.specs.inside.Tabular.{bounded_tabular}

far_if : (t : Table) (b : Bool) (n : ℕ) → length t ≤ n → is_live t (if b then Small n else Ref n) ≡ false
unfolding is_live
far_if t true n l = refl
far_if t false n l = rw (entry_past t n l) refl

-- no memory has an object under a word beyond 16 bits
pub far : (v : View) → IsWhole v → (w : ℕ) → 65535 < w → is_live v.objects (value_of w) ≡ false
unfolding value_of
far v whole w l = far_if v.objects (w % 2 == 1) (w / 2) (rw whole.places (grind (arith, common_steps)))

-- a SmallInteger of 16 bits or an object is there, and nothing else

there_if : (t : Table) (b : Bool) (n : ℕ) → n < 32768 → is_small (if b then Small n else Ref n) ≡ true → is_there table t (if b then Small n else Ref n) ≡ true
there_if t true n l e = grind (arith, nat_tests)
there_if t false n l e = cc

pub there_small : (t : Table) (w : ℕ) → w < 65536 → is_small (value_of w) ≡ true → is_there table t (value_of w) ≡ true
unfolding value_of
there_small t w l e = there_if t (w % 2 == 1) (w / 2) (grind (arith, common_steps)) e

pub there_live : (t : Table) (v : Value) → is_live t v ≡ true → is_there table t v ≡ true
unfolding is_live
there_live t (Small n) e = cc
there_live t (Ref n) e = e

pub gone_dead : (t : Table) (v : Value) → is_small v ≡ false → is_live t v ≡ false → is_there table t v ≡ false
unfolding is_live
gone_dead t (Small n) small e = cc
gone_dead t (Ref n) small e = e

gone_if : (t : Table) (b : Bool) (n : ℕ) → 32768 ≤ n → length t ≤ n → is_there table t (if b then Small n else Ref n) ≡ false
gone_if t true n l far = grind (arith, nat_tests)
gone_if t false n l far = rw (entry_past t n far) refl

pub gone_far : (v : View) → IsWhole v → (w : ℕ) → 65535 < w → is_there table v.objects (value_of w) ≡ false
unfolding value_of
gone_far v whole w l = gone_if v.objects (w % 2 == 1) (w / 2) (grind (arith, common_steps)) (rw whole.places (grind (arith, common_steps)))

pub ruleset there = (there_small, there_live, gone_dead, gone_far)

pub fetch_field-bounded : (v : Value) (i : ℕ) → fetch_field bounded_table v i ≡ fetch_field table v i
fetch_field-bounded v i = fetch_field-as bounded_tabular v i

pub count_fields-bounded : (v : Value) → count_fields bounded_table v ≡ count_fields table v
count_fields-bounded v = count_fields-as bounded_tabular v

pub class_of-bounded : (v : Value) → class_of bounded_table v ≡ class_of table v
class_of-bounded v = class_of-as bounded_tabular v

pub literal-bounded : (v : Value) (i : ℕ) → literal bounded_table v i ≡ literal table v i
literal-bounded v i = literal-as bounded_tabular v i

pub byte_at-bounded : (v : Value) (ip : ℤ) → byte_at bounded_table v ip ≡ byte_at table v ip
byte_at-bounded v ip = byte_at-as bounded_tabular v ip

pub method_header-bounded : (v : Value) → method_header bounded_table v ≡ method_header table v
method_header-bounded v = method_header-as bounded_tabular v

pub literal_from_last-bounded : (v : Value) (k : ℕ) → literal_from_last bounded_table v k ≡ literal_from_last table v k
literal_from_last-bounded v k = literal_from_last-as bounded_tabular v k

pub store_field-bounded : (v : Value) (i : ℕ) (x : Value) → store_field bounded_table v i x ≡ store_field table v i x
store_field-bounded v i x = store_field-as bounded_tabular v i x

pub transfer-bounded : (n : ℕ) (source : Value) (from : ℕ) (target : Value) (to : ℕ) → transfer bounded_table n source from target to ≡ transfer table n source from target to
transfer-bounded n source from target to = transfer-as bounded_tabular n source from target to

pub fetch_word-bounded : (v : Value) (i : ℕ) → fetch_word bounded_table v i ≡ fetch_word table v i
fetch_word-bounded v i = fetch_word-as bounded_tabular v i

pub fetch_byte-bounded : (v : Value) (i : ℕ) → fetch_byte bounded_table v i ≡ fetch_byte table v i
fetch_byte-bounded v i = fetch_byte-as bounded_tabular v i

pub of_page-bounded : (q : PageObject) → of_page bounded_table q ≡ of_page table q
of_page-bounded q = of_page-as bounded_tabular q

pub fetch_method_field-bounded : (v : Value) (i : ℕ) → fetch_method_field bounded_table v i ≡ fetch_method_field table v i
fetch_method_field-bounded v i = fetch_method_field-as bounded_tabular v i

-- a bounded memory does as the table does, but where it makes objects
pub ruleset bounded = (fetch_method_field-bounded, fetch_field-bounded, count_fields-bounded, class_of-bounded, literal-bounded, byte_at-bounded, method_header-bounded, literal_from_last-bounded, store_field-bounded, transfer-bounded, fetch_word-bounded, fetch_byte-bounded, of_page-bounded)

-- why an object lacks fields

pub lacks_small : (t : Table) (v : Value) (from n : ℕ) → is_small v ≡ true → Lacks t v from n dead.Small
lacks_small t v from n e = SmallInteger e

pub lacks_gone : (t : Table) (v : Value) (from n : ℕ) → is_small v ≡ false → is_live t v ≡ false → Lacks t v from n dead.Kind
lacks_gone t v from n small e = Gone small e

pub lacks_kind : (t : Table) (v x : Value) (from n : ℕ) → x ≡ v → is_live t x ≡ true → is_pointers (object_of t x).kind ≡ false → Lacks t v from n dead.Kind
lacks_kind t v x from n e live kind = subst (λ (y : Value). Lacks t y from n dead.Kind) e (OtherKind live kind)

pub lacks_few : (t : Table) (v x : Value) (from n : ℕ) → x ≡ v → is_live t x ≡ true → is_pointers (object_of t x).kind ≡ true → length (object_of t x).fields < from + n → Lacks t v from n dead.Field
lacks_few t v x from n e live kind l = subst (λ (y : Value). Lacks t y from n dead.Field) e (TooFew live kind l)

pub ruleset lacks = (lacks_small, lacks_gone, lacks_kind, lacks_few)

-- half of a word

half_if : (b : Bool) (n : ℕ) (s : State Table) → is_small (if b then Small n else Ref n) ≡ true → (half_word bounded_table (if b then Small n else Ref n)).run s ≡ Went n s
unfolding half_word answer
half_if true n s e = refl
half_if false n s e = cc

pub half_small : (w : ℕ) (s : State Table) → is_small (value_of w) ≡ true → (half_word bounded_table (value_of w)).run s ≡ Went (w / 2) s
unfolding value_of
half_small w s e = half_if (w % 2 == 1) (w / 2) s e

half_some : (n : ℕ) (s : State Table) (a : Option Object) → is_some a ≡ true → pointer_if bounded_table s.memory n a ≡ n
half_some n s None e = cc
half_some n s (Some o) e = refl

live_if : (b : Bool) (n : ℕ) (s : State Table) → is_live s.memory (if b then Small n else Ref n) ≡ true → (half_word bounded_table (if b then Small n else Ref n)).run s ≡ Went n s
unfolding half_word is_live
live_if true n s e = cc
live_if false n s e = ap (λ k. Went k s) (half_some n s (entry s.memory n) e)

pub half_live : (w : ℕ) (s : State Table) → is_live s.memory (value_of w) ≡ true → (half_word bounded_table (value_of w)).run s ≡ Went (w / 2) s
unfolding value_of
half_live w s e = live_if (w % 2 == 1) (w / 2) s e

half_none : (n : ℕ) (s : State Table) (a : Option Object) → is_some a ≡ false → pointer_if bounded_table s.memory n a ≡ 0
half_none n s None e = refl
half_none n s (Some o) e = cc

pub half_gone : (v : Value) (s : State Table) → is_small v ≡ false → is_live s.memory v ≡ false → (half_word bounded_table v).run s ≡ Went 0 s
unfolding half_word is_live
half_gone (Small n) s small e = cc
half_gone (Ref n) s small e = ap (λ k. Went k s) (half_none n s (entry s.memory n) e)

pub ruleset halves = (half_small, half_live, half_gone)

-- classes

pub class_of_small : (v : Value) (s : State Table) → is_small v ≡ true → (class_of table v).run s ≡ Went (value_of 12) s
unfolding class_of of_page value_of
class_of_small (Small n) s e = refl
class_of_small (Ref n) s e = cc

pub class_of_object : (v : Value) → is_small v ≡ false → class_of table v ≡ (object table v >>= (λ o. answer (Ref o.class)))
unfolding class_of object
class_of_object (Small n) e = cc
class_of_object (Ref n) e = refl

pub ruleset classes = (class_of_small, class_of_object)

-- new objects

room_is : (v : View) (o : Object) → has_room bounded_table v.head v.objects o ≡ fits v (demand_of o)
room_is v o = refl

pub small_not_live : (t : Table) (v : Value) → is_small v ≡ true → is_live t v ≡ false
unfolding is_live
small_not_live t (Small n) e = refl
small_not_live t (Ref n) e = cc

named_if : (t : Table) (b : Bool) (n : ℕ) → is_live t (if b then Small n else Ref n) ≡ true → (if b then Small n else Ref n) ≡ Ref n
unfolding is_live
named_if t true n e = cc
named_if t false n e = refl

pub named_word : (t : Table) (w : ℕ) → is_live t (value_of w) ≡ true → value_of w ≡ Ref (w / 2)
unfolding value_of
named_word t w e = named_if t (w % 2 == 1) (w / 2) e

store_gone : (n i : ℕ) (x : Value) (s : State Table) (a : Option Object) → stored_at table n i x s a false ≡ Died dead.Kind
unfolding stored_at
store_gone n i x s None = refl
store_gone n i x s (Some o) = refl

-- what isn't there isn't stored
pub run_set_gone : (v : Value) (i : ℕ) (x : Value) (s : State Table) → is_live s.memory v ≡ true → is_there table s.memory x ≡ false → (set_field table v i x).run s ≡ Died dead.Kind
unfolding set_field store_at is_live
run_set_gone (Small n) i x s e k = cc
run_set_gone (Ref n) i x s e k = rw k (store_gone n i x s (entry s.memory n))

-- a new object's class is there, and there is room for it, or not

module _ (k : Kind) (n l : ℕ) where
  new_gone : (class : ℕ) (s : State Table) (a : Option Object) (d : Dead) → (found a).run s ≡ Died d → (b : Bool) → made bounded_table (fresh class k n l) s (is_some a) b ≡ Died d
  unfolding found made answer die
  new_gone class s None d e b = let q : dead.Kind ≡ d = cc in ap (λ c. Died c) q
  new_gone class s (Some o) d e b = cc

  pub new_died : (v : Value) (s : State Table) (d : Dead) → (object table v).run s ≡ Died d → (make bounded_table v k n l).run s ≡ Died d
  unfolding make make_named object object_named die
  new_died (Small c) s d e = let q : dead.Small ≡ d = cc in ap (λ c. Died c) q
  new_died (Ref c) s d e = new_gone c s (entry s.memory c) d e (has_room bounded_table s.head s.memory (fresh c k n l))

  new_there : (class : ℕ) (s : State Table) (a b : Bool) → a ≡ true → b ≡ true
      → made bounded_table (fresh class k n l) s a b ≡ Went (Ref (first_free s.memory)) (record s { memory = placed s.memory (fresh class k n l) })
  unfolding made
  new_there class s a b e f = rw (e, f) refl

  new_made : (c : ℕ) (s : State Table) → is_live s.memory (Ref c) ≡ true → has_room bounded_table s.head s.memory (fresh c k n l) ≡ true
      → (make bounded_table (Ref c) k n l).run s ≡ Went (Ref (first_free s.memory)) (record s { memory = placed s.memory (fresh c k n l) })
  unfolding make make_named is_live
  new_made c s e f = new_there c s (is_some (entry s.memory c)) (has_room bounded_table s.head s.memory (fresh c k n l)) e f

  new_not : (class : ℕ) (s : State Table) (a b : Bool) → a ≡ true → b ≡ false → made bounded_table (fresh class k n l) s a b ≡ Went nil s
  unfolding made
  new_not class s a b e f = rw (e, f) refl

  new_full : (c : ℕ) (s : State Table) → is_live s.memory (Ref c) ≡ true → has_room bounded_table s.head s.memory (fresh c k n l) ≡ false
      → (make bounded_table (Ref c) k n l).run s ≡ Went nil s
  unfolding make make_named is_live
  new_full c s e f = new_not c s (is_some (entry s.memory c)) (has_room bounded_table s.head s.memory (fresh c k n l)) e f

  room_here : (v : View) (s : State Table) (c : ℕ) (b : Bool) → s.memory ≡ v.objects → s.head ≡ v.head → fits v (demand_of (fresh c k n l)) ≡ b
      → has_room bounded_table s.head s.memory (fresh c k n l) ≡ b
  room_here v s c b is head room = rw (is, head) room

  -- the class is named by x, and by the pointer w
  module _ (v : View) (x : Value) (w : ℕ) (s : State Table) (is : s.memory ≡ v.objects) (head : s.head ≡ v.head) (same : value_of w ≡ x) (live : is_live v.objects (value_of w) ≡ true) where
    named_here : x ≡ Ref (w / 2)
    named_here = sym same ∙ named_word v.objects w live

    live_here : is_live s.memory (Ref (w / 2)) ≡ true
    live_here = subst (λ (t : Table). is_live t (Ref (w / 2)) ≡ true) (sym is) (subst (λ (y : Value). is_live v.objects y ≡ true) (named_word v.objects w live) live)

    pub made_here : (t : Table) (y : Value) → fits v (demand_of (fresh (w / 2) k n l)) ≡ true → y ≡ Ref (first_free v.objects) → t ≡ placed v.objects (fresh (w / 2) k n l)
        → (make bounded_table x k n l).run s ≡ Went y (record s { memory = t })
    made_here t y room e f = rw (named_here, e, f)
        (subst (λ (u : Table). (make bounded_table (Ref (w / 2)) k n l).run s ≡ Went (Ref (first_free u)) (record s { memory = placed u (fresh (w / 2) k n l) })) is
        (new_made (w / 2) s live_here (room_here v s (w / 2) true is head room)))

    pub full_here : fits v (demand_of (fresh (w / 2) k n l)) ≡ false → (make bounded_table x k n l).run s ≡ Went (value_of 2) (record s { memory = v.objects })
    full_here room = rw named_here
        (new_full (w / 2) s live_here (room_here v s (w / 2) false is head room) ∙ (λ i. Went (sym value_of-nil i) (record s { memory = is i })))

-- two words of one object have one half
pub half_same : (t : Table) (w x : ℕ) → value_of w ≡ value_of x → is_live t (value_of w) ≡ true → w / 2 ≡ x / 2
half_same t w x e live =
    let a = named_word t w live in
    let b = named_word t x (subst (λ (y : Value). is_live t y ≡ true) e live) in
    let q = sym a ∙ e ∙ b in
    cc

-- an object of a class fits as one of that word of its class does
pub fits_made : (v : View) (w x : ℕ) (k : Kind) (n l words : ℕ) → value_of w ≡ value_of x → is_live v.objects (value_of w) ≡ true → words ≡ words_of (fresh (x / 2) k n l)
    → fits v (demand_of (fresh (w / 2) k n l)) ≡ fits v (record { entries = 1; words = words })
fits_made v w x k n l words e live size = ap (λ i. fits v (record { entries = 1; words = i })) (ap (λ i. words_of (fresh i k n l)) (half_same v.objects w x e live) ∙ sym size)
