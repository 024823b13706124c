-- What stores or exchanges objects leaves as much used.
use Rattle.std.proofs.Common.{◌≡◌, ℕ, Bool, true, false, Option, Some, None, Result, Ok, Err, is_some, refl, sym, ap, ◌∙◌, subst}
use Rattle.std.specs.Prelude.{unwrap_or, IfErr}
use Rattle.st_model.specs.declared.dead.Dead.{Dead}
use Rattle.st_model.specs.declared.dead.Dead.TheVariants as dead
use Rattle.st_model.specs.Values.{Value, Small, Ref}
use Rattle.st_model.specs.Objects.{Object, one, words_of, with_field}
use Rattle.st_model.specs.Machine.{State, Head, Step, Transition, Went, die, used}
use Rattle.st_model.specs.Steps.{exchanged_there, exchange_named, exchange}
use Rattle.st_model.specs.Table.{Table, table, bounded_table, entry, changed, exchanged_objects}
use Rattle.st_model.specs.View.{is_live, object_of, with_stored, nothing}
use Rattle.st_model.specs.inside.Calls.{Changes, itself}
use Rattle.st_model.proofs.Tabular.{exchange-as}
use Rattle.st_memory.specs.inside.Tabular.{bounded_tabular}
use Rattle.st_memory.proofs.Looking.{some_state}
use Rattle.st_model.proofs.WholeLemmas.{total_used-changed}
use Rattle.st_model.proofs.FormedLemmas.{words_of-with_field}
use Rattle.st_model.proofs.Exchanging.{exchanged_is, total_used-exchanged}

-- where it goes on, as much is used as before
abbrev pub Keeps : {A : Type 0} → Step Table A → Type 0
Keeps {A} m = (s t : State Table) (a : A) → m.run s ≡ Went a t → used table t.memory ≡ used table s.memory

went_to : {A : Type 0} (a b : A) (s t : State Table) → (let x : Transition (State Table) A = Went a s in x ≡ Went b t) → used table t.memory ≡ used table s.memory
went_to a b s t e = let q : s ≡ t = cc in ap (λ (u : State Table). used table u.memory) (sym q)

keeps_die : {A : Type 0} (k : Dead) → Keeps (die {A = A} k)
unfolding die
keeps_die k s t a e = cc

-- exchanges

exchanged_uses : (t : Table) (a b : ℕ) (x y : Option Object) → entry t a ≡ x → entry t b ≡ y → used table (exchanged_objects t a b x y) ≡ used table t
exchanged_uses t a b (Some o) (Some p) e f =
    ap (used table) (sym (exchanged_is t a b o p e f)) ∙ (λ j. record { entries = total_used-exchanged t a b o p e f one j; words = total_used-exchanged t a b o p e f words_of j })
exchanged_uses t a b (Some o) None e f = refl
exchanged_uses t a b None y e f = refl

there_uses : (a b : ℕ) (s t : State Table) (u : Unit) (x : Bool) → exchanged_there table a b s x ≡ Went u t → used table t.memory ≡ used table s.memory
unfolding exchanged_there
there_uses a b s t u true e =
    went_to tt u (record s { memory = table.exchange s.memory a b }) t e ∙ exchanged_uses s.memory a b (entry s.memory a) (entry s.memory b) refl refl
there_uses a b s t u false e = cc

keeps_exchange : (v w : Value) → Keeps (exchange table v w)
unfolding exchange exchange_named
keeps_exchange (Small a) w s t u e = keeps_die dead.Small s t u e
keeps_exchange (Ref a) (Small b) s t u e = keeps_die dead.Small s t u e
keeps_exchange (Ref a) (Ref b) s t u e = there_uses a b s t u _ e

-- so it is over a bounded table

pub exchange-bounded : (v w : Value) → exchange bounded_table v w ≡ exchange table v w
exchange-bounded v w = exchange-as bounded_tabular v w

pub exchange_keeps : (v w : Value) → Keeps (exchange bounded_table v w)
exchange_keeps v w = subst (λ (m : Step Table Unit). Keeps m) (sym (exchange-bounded v w)) (keeps_exchange v w)

-- what is stored in an object that is there

with_stored_uses : (t : Table) (n i : ℕ) (x : Value) (e : Option Object) → entry t n ≡ e → is_some e ≡ true → used table (changed t n (with_field (unwrap_or e nothing) i x)) ≡ used table t
with_stored_uses t n i x None is live = cc
with_stored_uses t n i x (Some o) is live =
    λ j. record { entries = total_used-changed one t n o (with_field o i x) is refl j; words = total_used-changed words_of t n o (with_field o i x) is (words_of-with_field o i x) j }

pub stored_used : (t : Table) (v : Value) (i : ℕ) (x : Value) → is_live t v ≡ true → used table (with_stored t v i x) ≡ used table t
unfolding with_stored object_of is_live
stored_used t (Small n) i x live = refl
stored_used t (Ref n) i x live = with_stored_uses t n i x (entry t n) refl live

-- what a call changes that may die, and then leaves the objects as they were

pub if_err : {A : Type 0} (x : Result A Dead) (P Q : Type 0) → (P → Q) → IfErr x (λ e. P) → IfErr x (λ e. Q)
if_err (Ok a) P Q f h = tt
if_err (Err k) P Q f h = f h

pub used_unless : (m : Step Table Unit) → Keeps m → (r : Result Unit Dead) (t u : Table) (a : Head) → Changes m itself t a r u → IfErr r (λ e. u ≡ t) → used table u ≡ used table t
used_unless m keeps (Ok x) t u a changes dead =
    let s : State Table = record (some_state t) { head = a } in
    keeps s (record s { memory = u }) x (changes s refl refl)
used_unless m keeps (Err k) t u a changes dead = ap (used table) dead
