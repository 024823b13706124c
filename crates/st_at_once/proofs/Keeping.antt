-- What is known stays known while each object keeps its kind and its sizes, as it does whatever a row does but exchange.
use Rattle.std.proofs.Common.{◌≡◌, ℕ, ◌+◌, ◌*◌, true, length, length-set, is_some, Result, Ok, Err, refl, sym, ap, ◌∙◌, subst, arith, inl, inr}
use Rattle.std.specs.Prelude.{Option, Some, None, unwrap_or, ⊤, IfErr, if◌then◌else◌, pos, ◌≤ℤ◌}
use Rattle.std.proofs.lemmas.Bool.{cases_eq}
use Rattle.st_model.specs.declared.dead.Dead.{Dead}
use Rattle.st_model.specs.Values.{Value, Small, Ref, word}
use Rattle.st_model.specs.Objects.{Object, is_pointers, is_method, size_of, with_field}
use Rattle.st_model.specs.Machine.{State, Went, Step}
use Rattle.st_model.specs.Table.{Table, entry, changed, first_free, placed}
use Rattle.st_model.specs.inside.Calls.{Changes, itself}
use Rattle.st_model.specs.View.{View, is_live, object_of, with_stored, nothing}
use Rattle.st_model.proofs.TableLemmas.{changed-some, changed-other, first_free-none, placed-other}
use Rattle.st_memory.proofs.Looking.{some_state}
use Rattle.st_at_once.specs.declared.known.Fields.{Fields}
use Rattle.st_at_once.specs.declared.known.Code.{Code}
use Rattle.st_at_once.specs.declared.known.NearPlaces.{NearPlaces}
use Rattle.st_at_once.specs.declared.known.TheConstants.NearPlaces.{NONE}
use Rattle.st_at_once.specs.inside.Known.{HasFields, KnowsFields, HasCode, KnowsCode, IsNear}

-- the second object has the kind and the sizes of the first
pub record IsSized (o p : Object) : Type 0 where
  pub kind : p.kind ≡ o.kind
  pub fields : length p.fields ≡ length o.fields
  pub units : length p.units ≡ length o.units

abbrev Kept : Option Object → Option Object → Type 0
Kept None f = ⊤
Kept (Some o) None = ⊥
Kept (Some o) (Some p) = IsSized o p

-- each object of the first table is in the second, of the same kind and sizes
abbrev pub KeepsSizes : Table → Table → Type 0
KeepsSizes t u = (n : ℕ) → Kept (entry t n) (entry u n)

same_kept : (e : Option Object) → Kept e e
same_kept None = tt
same_kept (Some o) = record { kind = refl; fields = refl; units = refl }

then_kept : (e f g : Option Object) → Kept e f → Kept f g → Kept e g
then_kept None f g a b = tt
then_kept (Some o) None g a b = absurd a
then_kept (Some o) (Some p) None a b = absurd b
then_kept (Some o) (Some p) (Some q) a b = record { kind = b.kind ∙ a.kind; fields = b.fields ∙ a.fields; units = b.units ∙ a.units }

pub keeps_same : (t u : Table) → u ≡ t → KeepsSizes t u
keeps_same t u e = λ n. subst (λ (x : Table). Kept (entry t n) (entry x n)) (sym e) (same_kept (entry t n))

pub keeps_then : (t u w : Table) → KeepsSizes t u → KeepsSizes u w → KeepsSizes t w
keeps_then t u w a b = λ n. then_kept (entry t n) (entry u n) (entry w n) (a n) (b n)

-- what is known of a table

live_kept : (e f : Option Object) → Kept e f → is_some e ≡ true → is_some f ≡ true
live_kept None f k e = cc
live_kept (Some o) None k e = absurd k
live_kept (Some o) (Some p) k e = refl

sized_kept : (e f : Option Object) → Kept e f → is_some e ≡ true → IsSized (unwrap_or e nothing) (unwrap_or f nothing)
sized_kept None f k e = cc
sized_kept (Some o) None k e = absurd k
sized_kept (Some o) (Some p) k e = k

module _ (t u : Table) (keeps : KeepsSizes t u) where
  still_live : (v : Value) → is_live t v ≡ true → is_live u v ≡ true
  unfolding is_live
  still_live (Small n) e = cc
  still_live (Ref n) e = live_kept (entry t n) (entry u n) (keeps n) e

  still_sized : (v : Value) → is_live t v ≡ true → IsSized (object_of t v) (object_of u v)
  unfolding is_live object_of
  still_sized (Small n) e = cc
  still_sized (Ref n) e = sized_kept (entry t n) (entry u n) (keeps n) e

  fields_kept : (held : Value) (f : Fields) → HasFields t held f → HasFields u held f
  fields_kept held f h =
      let s = still_sized (word f.object) h.live in
      record { short = h.short; same = h.same; live = still_live (word f.object) h.live; kind = ap is_pointers s.kind ∙ h.kind; number = s.fields ∙ h.number; few = h.few }

  size_kept : (o p : Object) → IsSized o p → size_of p ≡ size_of o
  size_kept o p s = λ i. if is_pointers (s.kind i) then s.fields i else 2 * s.fields i + s.units i

  code_kept : (held : Value) (c : Code) → HasCode t held c → HasCode u held c
  code_kept held c h =
      let s = still_sized (word c.method) h.live in
      record {
        short = h.short;
        same = h.same;
        live = still_live (word c.method) h.live;
        kind = ap is_method s.kind ∙ h.kind;
        literals = s.fields ∙ h.literals;
        few = h.few;
        first = h.first;
        limit = h.limit;
        size = subst (λ n. c.end ≤ℤ pos n) (sym (size_kept (object_of t (word c.method)) (object_of u (word c.method)) s)) h.size;
      }

pub near_kept : (v w : View) (k : NearPlaces) → KeepsSizes v.objects w.objects → w.held ≡ v.held → IsNear v k → IsNear w k
near_kept v w k keeps held near = record {
  active = λ l. subst (λ x. HasFields w.objects x.active k.active) (sym held) (fields_kept v.objects w.objects keeps v.held.active k.active (near.active l));
  home = λ l. subst (λ x. HasFields w.objects x.home k.home) (sym held) (fields_kept v.objects w.objects keeps v.held.home k.home (near.home l));
  code = record {
    literals = λ l. subst (λ x. HasCode w.objects x.method k.code) (sym held) (code_kept v.objects w.objects keeps v.held.method k.code (near.code.literals l));
    bytes = λ l. subst (λ x. HasCode w.objects x.method k.code) (sym held) (code_kept v.objects w.objects keeps v.held.method k.code (near.code.bytes l));
  };
  made = λ l. fields_kept v.objects w.objects keeps (word k.made.object) k.made (near.made l);
}

-- what changes a table

pub keeps_changed : (t : Table) (n : ℕ) (o p : Object) → entry t n ≡ Some o → IsSized o p → KeepsSizes t (changed t n p)
keeps_changed t n o p e s = λ m. elim (cases_eq m n) [
  | inl q ↦ subst (λ k. Kept (entry t k) (entry (changed t n p) k)) (sym q)
      (subst (λ x. Kept x (entry (changed t n p) n)) (sym e) (subst (λ x. Kept (Some o) x) (sym (changed-some t n p o e)) s))
  | inr d ↦ subst (λ x. Kept (entry t m) x) (sym (changed-other t n m p d)) (same_kept (entry t m))
]

keeps_placed : (t : Table) (o : Object) → KeepsSizes t (placed t o)
keeps_placed t o = λ m. elim (cases_eq m (first_free t)) [
  | inl q ↦ subst (λ k. Kept (entry t k) (entry (placed t o) k)) (sym q) (subst (λ x. Kept x (entry (placed t o) (first_free t))) (sym (first_free-none t)) tt)
  | inr d ↦ subst (λ x. Kept (entry t m) x) (sym (placed-other t m o d)) (same_kept (entry t m))
]

pub stored_sized : (o : Object) (i : ℕ) (x : Value) → IsSized o (with_field o i x)
stored_sized o i x = record { kind = refl; fields = length-set o.fields i x; units = refl }

keeps_stored_at : (t : Table) (n i : ℕ) (x : Value) (e : Option Object) → entry t n ≡ e → KeepsSizes t (changed t n (with_field (unwrap_or e nothing) i x))
keeps_stored_at t n i x None e = λ m. elim (cases_eq m n) [
  | inl q ↦ subst (λ k. Kept (entry t k) (entry (changed t n (with_field nothing i x)) k)) (sym q) (subst (λ y. Kept y (entry (changed t n (with_field nothing i x)) n)) (sym e) tt)
  | inr d ↦ subst (λ y. Kept (entry t m) y) (sym (changed-other t n m (with_field nothing i x) d)) (same_kept (entry t m))
]
keeps_stored_at t n i x (Some o) e = keeps_changed t n o (with_field o i x) e (stored_sized o i x)

pub keeps_stored : (t : Table) (v : Value) (i : ℕ) (x : Value) → KeepsSizes t (with_stored t v i x)
unfolding with_stored object_of
keeps_stored t (Small n) i x = keeps_same t t refl
keeps_stored t (Ref n) i x = keeps_stored_at t n i x (entry t n) refl

-- wherever it goes, it leaves each object its kind and sizes
abbrev pub KeepsBy : {A : Type 0} → Step Table A → Type 0
KeepsBy {A} m = (s t : State Table) (a : A) → m.run s ≡ Went a t → KeepsSizes s.memory t.memory

-- a call that may die, and then leaves the objects as they were
pub near_unless : (m : Step Table Unit) (r : Result Unit Dead) (v w : View) (k : NearPlaces) → KeepsBy m → Changes m itself v.objects v.head r w.objects → IfErr r (λ e. w.objects ≡ v.objects)
    → w.held ≡ v.held → IsNear v k → IsNear w k
near_unless m (Ok b) v w k keeps changes dead held near =
    let s : State Table = record (some_state v.objects) { head = v.head } in
    near_kept v w k (keeps s _ _ (changes s refl refl)) held near
near_unless m (Err d) v w k keeps changes dead held near = near_kept v w k (keeps_same v.objects w.objects dead) held near

-- a new object
pub near_placed : (v w : View) (k : NearPlaces) (o : Object) → w.objects ≡ placed v.objects o → w.held ≡ v.held → IsNear v k → IsNear w k
near_placed v w k o e held near = near_kept v w k (subst (λ t. KeepsSizes v.objects t) (sym e) (keeps_placed v.objects o)) held near

pub near_stored : (v w : View) (k : NearPlaces) (o : Value) (i : ℕ) (x : Value) → w.objects ≡ with_stored v.objects o i x → w.held ≡ v.held → IsNear v k → IsNear w k
near_stored v w k o i x e held near =
    near_kept v w k (subst (λ t. KeepsSizes v.objects t) (sym e) (keeps_stored v.objects o i x)) held near

-- where nothing is known
pub near_nothing : (v : View) → IsNear v NONE
near_nothing v = record {
  active = λ l. absurd (omega (arith, l));
  home = λ l. absurd (omega (arith, l));
  code = record { literals = λ l. absurd (omega (arith, l)); bytes = λ l. absurd (omega (arith, l)) };
  made = λ l. absurd (omega (arith, l));
}

-- what is known of an object is so of what bears its word

pub fields_named : (t : Table) (held : Value) (f : Fields) → KnowsFields t held f → KnowsFields t (word f.object) f
fields_named t held f k = λ l. let h = k l in record { short = h.short; same = refl; live = h.live; kind = h.kind; number = h.number; few = h.few }

-- what is known of a method is so of what bears its word

code_of : (t : Table) (held other : Value) (c : Code) → word c.method ≡ other → HasCode t held c → HasCode t other c
code_of t held other c e h = record { short = h.short; same = e; live = h.live; kind = h.kind; literals = h.literals; few = h.few; first = h.first; limit = h.limit; size = h.size }

pub code_renamed : (t : Table) (held other : Value) (c : Code) → word c.method ≡ other → KnowsCode t held c → KnowsCode t other c
code_renamed t held other c e k = record { literals = λ l. code_of t held other c e (k.literals l); bytes = λ l. code_of t held other c e (k.bytes l) }
