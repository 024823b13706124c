-- What is ready is installed.
use Rattle.std.proofs.Common.{◌≡◌, ℕ, ◌<◌, zero, suc, List, [], ◌∷◌, length, Option, Some, None, Bool, true, false, Ok, refl, ap, ◌∙◌, subst, arith, is_some}
use Rattle.std.specs.Prelude.{pos, ◌/◌, ◌%◌, ◌==◌, slice_get, unwrap_or, if◌then◌else◌}
use Rattle.std.proofs.lemmas.Bool.Decides.{nat_tests}
use Rattle.std.specs.List.{AllByRecursion}
use Rattle.st_model.specs.declared.kind.Kind.{Kind}
use Rattle.st_model.specs.declared.kind.Kind.TheVariants as kind
use Rattle.st_model.specs.Values.{Value, Small, Ref, value_of, is_small, IsLive, AllLive}
use Rattle.st_model.specs.declared.page.PageObject.TheVariants.{MethodClass}
use Rattle.st_model.specs.Objects.{Object, size_of, place_of, is_method, is_words}
use Rattle.st_model.specs.Formed.{IsWord}
use Rattle.st_model.specs.Machine.{State, is_there, empty_world}
use Rattle.st_model.specs.Table.{Table, entry, bounded_table}
use Rattle.st_model.specs.Show.{IsUsed}
use Rattle.st_model.specs.View.{View, IsWhole, is_live, object_of, nothing}
use Rattle.st_model.specs.inside.Calls.{Changes, itself}
use Rattle.st_code.specs.Methods.{PartsView}
use Rattle.st_install.specs.Plans.{NewObject, Plan, words_of_all}
use Rattle.st_install.proofs.GoesMaking.{IsShaped, CanMake, HasRoom}
use Rattle.st_install.specs.Installing.{install}
use Rattle.st_install.specs.inside.Goes.{IsHeaded, HasHeader, IsOfKind, IsReadyFor, Stays, Installs, ReadyInstalls, ReadyObjects}
use Rattle.st_install.proofs.Goes.{object_at, IsLike, IsKept, Goes, over}
use Rattle.st_install.proofs.GoesInstalling.{install_goes}
use Rattle.st_install.proofs.GoesReading.{IsSoundTable}
use Rattle.st_install.proofs.GoesPlanning.{HasDictionary, IsReadyPlan, ready_gives}
use Rattle.st_install.proofs.GoesNames.{names_give}

-- WHOLE MEMORIES

used_some : (x : Option Object) → (a : Object) × x ≡ Some a → is_some x ≡ true
used_some x h = rw h.1 refl

value_there : (t : Table) (v : Value) → IsLive (IsUsed t) v → IsWord v → is_there bounded_table t v ≡ true
value_there t (Small n) h w = grind (arith, nat_tests)
value_there t (Ref n) h w = used_some (entry t n) h

live_at : (t : Table) (xs : List Value) (i : ℕ) (x : Value) → AllLive (IsUsed t) xs → slice_get xs i ≡ Some x → IsLive (IsUsed t) x
live_at t [] i x h e = cc
live_at t (y ∷ xs) zero x h e = let q : y ≡ x = cc in subst (λ z. IsLive (IsUsed t) z) q h.0
live_at t (y ∷ xs) (suc i) x h e = live_at t xs i x h.1 e

module _ (v : View) (whole : IsWhole v) where
  class_there : (x : Value) (o : Object) → object_at v.objects x ≡ Some o → is_some (entry v.objects o.class) ≡ true
  class_there (Small n) o e = cc
  class_there (Ref n) o e = used_some (entry v.objects o.class) (whole.complete.objects n o e).class

  methods_alone : (x : Value) (o : Object) → object_at v.objects x ≡ Some o → is_method o.kind ≡ (o.class == place_of MethodClass)
  methods_alone (Small n) o e = cc
  methods_alone (Ref n) o e = (whole.formed n o e).method

  values_there : (x : Value) (o : Object) → object_at v.objects x ≡ Some o → (i : ℕ) (y : Value) → slice_get o.fields i ≡ Some y → is_there bounded_table v.objects y ≡ true
  values_there (Small n) o e i y f = cc
  values_there (Ref n) o e i y f = value_there v.objects y (live_at v.objects o.fields i y (whole.complete.objects n o e).fields f) ((whole.formed n o e).values i y f)

  pub sound_table : IsSoundTable v.objects
  unfolding is_live
  sound_table = record { page = whole.complete.page; class = class_there; methods = methods_alone; values = values_there }

-- HEADERS

small_word : (w : ℕ) (b : Bool) (t : Table) → is_small (if b then Small (w / 2) else Ref (w / 2)) ≡ true → w < 65536 → is_there bounded_table t (if b then Small (w / 2) else Ref (w / 2)) ≡ true
small_word w true t e l = let k : w / 2 < 32768 = omega (arith, l) in grind (arith, nat_tests)
small_word w false t e l = cc

pub header_there : (t : Table) (parts : PartsView) → IsHeaded parts → is_there bounded_table t (value_of parts.header) ≡ true
unfolding value_of
header_there t parts h = small_word parts.header (parts.header % 2 == 1) t h.small h.word

-- WHAT STAYS

object_of_live : (t : Table) (x : Value) → is_live t x ≡ true → object_at t x ≡ Some (object_of t x)
unfolding is_live object_of
object_of_live t (Small n) e = cc
object_of_live t (Ref n) e = by_entry (entry t n) e
  where
    by_entry : (a : Option Object) → is_some a ≡ true → a ≡ Some (unwrap_or a nothing)
    by_entry None f = cc
    by_entry (Some o) f = refl

live_object : (t : Table) (x : Value) (o : Object) → object_at t x ≡ Some o → (is_live t x ≡ true) × (object_of t x ≡ o)
unfolding is_live object_of
live_object t (Small n) o e = cc
live_object t (Ref n) o e = (rw e refl, rw e refl)

same_size : (o p : Object) → IsLike o p → size_of p ≡ size_of o
same_size o p h = rw (h.kind, h.fields, h.units) refl

stays_kept : (t u : Table) (x : Value) → IsKept t u → is_live t x ≡ true → Stays t u x
stays_kept t u x k e =
    let a = k.at x (object_of t x) (object_of_live t x e) in
    let b = live_object u x a.object a.is in
    record { live = b.0; kind = ap (λ o. o.kind) b.1 ∙ a.like.kind; size = ap size_of b.1 ∙ same_size (object_of t x) a.object a.like }

-- THE LAW

-- a state to read the objects in
abbrev pub idle : View → State Table
idle v = record {
  memory = v.objects;
  registers = record { active = Ref 1; home = Ref 1; method = Ref 1; receiver = Ref 1; ip = pos 0; sp = 0 };
  world = empty_world (Ref 1);
  head = v.head;
}

module _ (v : View) (p : Plan) (whole : IsWhole v) (h : IsReadyFor v p) where
  pub dictionary : HasDictionary v.objects h.class
  dictionary = ((names_give (idle v) (sound_table v whole) v.head h.class h.meta h.tree).gives (Ok h.seen) (idle v) (h.named (idle v) refl)).1

  pub plan : IsReadyPlan (idle v) (sound_table v whole) h.class dictionary h.parts h.headed (header_there v.objects h.parts h.headed) v.head p
  plan = ((ready_gives (idle v) (sound_table v whole) h.class dictionary h.parts h.headed (header_there v.objects h.parts h.headed) v.head h.name h.meta).gives (Ok p) (idle v) (h.ready (idle v) refl)).1

  goes : Goes v.head (install bounded_table p) v.objects (λ a u. IsKept v.objects u)
  goes = install_goes v.head v.objects p plan.plan plan.room

  over_same : (s : State Table) → s.memory ≡ v.objects → s ≡ over s v.objects
  over_same s e = ap (λ t. over s t) e

  changes : Changes (install bounded_table p) itself v.objects v.head (Ok tt) goes.next
  changes s e f = ap (λ x. (install bounded_table p).run x) (over_same s e) ∙ goes.goes s f

  installs : Installs v p
  installs = record { after = goes.next; goes = changes; stays = λ x e. stays_kept v.objects goes.next x goes.leaves e }

pub ready_installs : ReadyInstalls
ready_installs v p whole h = installs v p whole h

no_words : (k : Kind) (o : NewObject) → IsShaped k o → is_words k ≡ false
no_words kind.Pointers o h = refl
no_words kind.Words o h = absurd h
no_words kind.Bytes o h = refl
no_words kind.Method o h = refl

with_header : (k : Kind) (o : NewObject) → IsShaped k o → is_method k ≡ true → HasHeader o.fields
with_header kind.Pointers o h e = cc
with_header kind.Words o h e = absurd h
with_header kind.Bytes o h e = cc
with_header kind.Method o h e = h

all_of_kind : (t : Table) (os : List NewObject) → CanMake t os → AllByRecursion IsOfKind os
all_of_kind t [] h = tt
all_of_kind t (o ∷ os) h = (record { kind = no_words o.kind o h.1; method = h.0.kind; header = with_header o.kind o h.1 }, all_of_kind t os h.2)

pub ready_objects : ReadyObjects
ready_objects v p whole h = let r = plan v p whole h in all_of_kind v.objects p.objects r.plan.made

-- its objects have room
pub plan_room : (v : View) (p : Plan) → IsWhole v → IsReadyFor v p → HasRoom v.head v.objects (length p.objects) (words_of_all p.objects)
plan_room v p whole h = (plan v p whole h).room
