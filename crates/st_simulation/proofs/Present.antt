-- A step over births that some table shows meets no name without an object. Whatever object stood for such a name, each
-- step would do the same: what it works on was born before it.
use Rattle.std.proofs.Common.{◌≡◌, ◌≢◌, ℕ, ◌<◌, ◌≤◌, List, [], ◌∷◌, zero, suc, length, Option, Some, None, Bool, true, false, refl, sym, ◌∙◌, ap, subst, arith, is_some, inl, inr, ◌⊎◌}
use Rattle.std.specs.Prelude.{◌-◌, ◌&&◌, if◌then◌else◌, slice_get, ℤ, pos, negsuc}
use Rattle.st_model.specs.declared.dead.Dead.{Dead}
use Rattle.st_model.specs.declared.kind.Kind.{Kind}
use Rattle.st_model.specs.Values.{Value, Small, Ref, small_integer, IsLive, AllLive}
use Rattle.st_model.specs.Objects.{Object, place_of, IsLiveObject, with_field, with_units}
use Rattle.st_model.specs.declared.page.PageObject.{PageObject}
use Rattle.st_model.specs.declared.page.PageObject.TheVariants.{NilObject}
use Rattle.st_model.specs.Sends.{Call}
use Rattle.st_model.specs.Machine.{ObjectMemory, Registers, State, Transition, Died, Went, Step, is_there, all_there, names_instance, first_instance, next_of, head_roots, roots_of, answer, die, after, ◌>>=◌, ◌>>◌, or_left, tried}
use Rattle.st_model.specs.declared.device.Device.{Device}
use Rattle.st_model.specs.Surroundings.{Change, Hold, AddSignal, TakeSignal, SetDue, SetLow, MoveMouse, TakeWord, named_by}
use Rattle.st_model.specs.Births.{Birth, Births, births, births_with, or_object, object_born, replaced, is_borne, bearer, borne, born, least_free}
use Rattle.st_model.specs.Steps.{exchanged_there, exchange_named, exchange, fit_units, units_set, set_units_at, set_units, get_device, newest_signal, count_signals, oldest_word, get_mouse_x, get_mouse_y, get_second_clock, get_millisecond_clock, world_changed, change_world, get_free, named_or_not, object_at, next_instance, get_active, get_home, get_method, get_receiver, get_ip, get_sp, set_ip, set_sp, found, object_named, object, stored_at, store_at, set_field, new_of, made, make_named, make, are_there, registers_set, set_registers, of_page}
use Rattle.st_model.specs.Lookup.{pointer_if, half_word}
use Rattle.st_simulation.proofs.Same.{stored_is_live}
use Rattle.st_simulation.proofs.StepsSame.{fresh_live}
use Rattle.st_simulation.proofs.Surrounding.{held_live, changed_live}
use Rattle.st_model.proofs.Names.{map_live, map_all, map_object, device_part, with_devices}
use Rattle.st_model.proofs.BirthLemmas.{object_there, replaced-born, replaced-other, length-replaced, bearer-replaced, object_within, length-born, born-last, born-other, bearer-born, borne-replaced, borne-other, borne_before, borne-bearer}

unfoldable pub bare : ObjectMemory Births
bare = births

unfoldable pub full : Object → ObjectMemory Births
full o = births_with o

-- the births that live when the step begins, and all that are born in it
module _ (o : Object) (lives : ℕ → Type 0) where
  abbrev pub IsPresent : ℕ → ℕ → Type 0
  IsPresent n k = lives k × (k < n)

  more : (n m : ℕ) → n ≤ m → (k : ℕ) → IsPresent n k → IsPresent m k
  more n m l k p = (p.0, omega (arith, l, p.1))

  pub record Stands (s : State Births) : Type 0 where
    pub page : (q : PageObject) → IsPresent (length s.memory) (bearer s.memory (place_of q))
    pub objects : (k : ℕ) (a : Object) → lives k → object_born s.memory k ≡ Some a → IsLiveObject (IsPresent (length s.memory)) a
    pub roots : AllLive (IsPresent (length s.memory)) (roots_of s)
    pub to_come : (k : ℕ) → length s.memory ≤ k → lives k
    pub kept : (k p : ℕ) → borne s.memory k ≡ Some p → lives k

  -- n births are there, of which these are, or are what is named; and later there are as many or more
  pub record There (n : ℕ) (v : Value) : Type 0 where
    pub live : IsLive (IsPresent n) v

  pub record AllThere (n : ℕ) (vs : List Value) : Type 0 where
    pub live : AllLive (IsPresent n) vs

  abbrev pub IsLiveIfAny : ℕ → Option Value → Type 0
  IsLiveIfAny n None = Unit {0}
  IsLiveIfAny n (Some v) = IsLive (IsPresent n) v

  pub record ThereIfAny (n : ℕ) (v : Option Value) : Type 0 where
    pub live : IsLiveIfAny n v

  pub record ObjectThere (n : ℕ) (a : Object) : Type 0 where
    pub live : IsLiveObject (IsPresent n) a

  pub record RegistersThere (n : ℕ) (r : Registers) : Type 0 where
    pub active : IsLive (IsPresent n) r.active
    pub home : IsLive (IsPresent n) r.home
    pub method : IsLive (IsPresent n) r.method
    pub receiver : IsLive (IsPresent n) r.receiver

  pub record CallThere (n : ℕ) (c : Call) : Type 0 where
    pub method : There n c.method

  abbrev pub IsLiveCallIfAny : ℕ → Option Call → Type 0
  IsLiveCallIfAny n None = Unit {0}
  IsLiveCallIfAny n (Some c) = There n c.method

  pub record CallThereIfAny (n : ℕ) (c : Option Call) : Type 0 where
    pub method : IsLiveCallIfAny n c

  abbrev pub Any : {A : Type 0} → ℕ → A → Type 0
  Any n a = Unit {0}

  pub record Later (n m : ℕ) : Type 0 where
    pub is : n ≤ m

  -- both do the same from where a state stands, and leave one that stands
  abbrev pub DoesSame : {A : Type 0} → (ℕ → A → Type 0) → State Births → Transition (State Births) A → Transition (State Births) A → Type 0
  DoesSame P s (Died a) (Died b) = a ≡ b
  DoesSame P s (Died a) (Went b u) = ⊥
  DoesSame P s (Went a t) (Died b) = ⊥
  DoesSame P s (Went a t) (Went b u) = (b ≡ a) × (u ≡ t) × (length s.memory ≤ length t.memory) × Stands t × P (length t.memory) a

  pub record Sure {A : Type 0} (n : ℕ) (P : ℕ → A → Type 0) (m m' : Step Births A) : Type 0 where
    pub go : (s : State Births) → n ≤ length s.memory → Stands s → DoesSame P s (m.run s) (m'.run s)

  abbrev pub SureValue : ℕ → Step Births Value → Step Births Value → Type 0
  SureValue n m m' = Sure n There m m'

  abbrev pub SureValues : ℕ → Step Births (List Value) → Step Births (List Value) → Type 0
  SureValues n m m' = Sure n AllThere m m'

  abbrev pub SureOption : ℕ → Step Births (Option Value) → Step Births (Option Value) → Type 0
  SureOption n m m' = Sure n ThereIfAny m m'

  abbrev pub SureObject : ℕ → Step Births Object → Step Births Object → Type 0
  SureObject n m m' = Sure n ObjectThere m m'

  abbrev pub SureRegisters : ℕ → Step Births Registers → Step Births Registers → Type 0
  SureRegisters n m m' = Sure n RegistersThere m m'

  abbrev pub SureCall : ℕ → Step Births Call → Step Births Call → Type 0
  SureCall n m m' = Sure n CallThere m m'

  abbrev pub SureAnyCall : ℕ → Step Births (Option Call) → Step Births (Option Call) → Type 0
  SureAnyCall n m m' = Sure n CallThereIfAny m m'

  abbrev pub SureAnswer : {A : Type 0} → ℕ → Step Births A → Step Births A → Type 0
  SureAnswer n m m' = Sure n Any m m'

  module _ {A B : Type 0} (P : ℕ → A → Type 0) (Q : ℕ → B → Type 0) (f f' : A → Step Births B) where
    then_does : (n : ℕ) (s : State Births) (x y : Transition (State Births) A) → n ≤ length s.memory → DoesSame P s x y → ((m : ℕ) → Later n m → (a : A) → P m a → Sure m Q (f a) (f' a))
        → DoesSame Q s (after x (λ a t. (f a).run t)) (after y (λ a t. (f' a).run t))
    unfolding after
    then_does n s (Died a) (Died b) l h k = h
    then_does n s (Died a) (Went b u) l h k = absurd h
    then_does n s (Went a t) (Died b) l h k = absurd h
    then_does n s (Went a t) (Went b u) l h k =
        let g = (k (length t.memory) (record { is = omega (arith, l, h.2) }) a h.4).go t (omega arith) h.3 in
        rw (h.0, h.1) (longer ((f a).run t) ((f' a).run t) h.2 g)
      where
        longer : (p q : Transition (State Births) B) → length s.memory ≤ length t.memory → DoesSame Q t p q → DoesSame Q s p q
        longer (Died a) (Died b) l g = g
        longer (Died a) (Went b u) l g = g
        longer (Went a v) (Died b) l g = g
        longer (Went a v) (Went b u) l g = (g.0, g.1, omega (arith, l, g.2), g.3, g.4)

    then-sure : (n : ℕ) (m m' : Step Births A) → Sure n P m m' → ((k : ℕ) → Later n k → (a : A) → P k a → Sure k Q (f a) (f' a)) → Sure n Q (m >>= f) (m' >>= f')
    unfolding ◌>>=◌
    then-sure n m m' h k = record { go = λ s l st. then_does n s (m.run s) (m'.run s) l (h.go s l st) k }

  module _ {B : Type 0} (Q : ℕ → B → Type 0) (n : ℕ) where
    pub then_value-sure : (m m' : Step Births Value) (f f' : Value → Step Births B) → SureValue n m m' → ((k : ℕ) → Later n k → (a : Value) → There k a → Sure k Q (f a) (f' a)) → Sure n Q (m >>= f) (m' >>= f')
    then_value-sure m m' f f' h k = then-sure _ Q f f' n m m' h k

    pub then_values-sure : (m m' : Step Births (List Value)) (f f' : List Value → Step Births B) → SureValues n m m' → ((k : ℕ) → Later n k → (a : List Value) → AllThere k a → Sure k Q (f a) (f' a)) → Sure n Q (m >>= f) (m' >>= f')
    then_values-sure m m' f f' h k = then-sure _ Q f f' n m m' h k

    pub then_option-sure : (m m' : Step Births (Option Value)) (f f' : Option Value → Step Births B) → SureOption n m m' → ((k : ℕ) → Later n k → (a : Option Value) → ThereIfAny k a → Sure k Q (f a) (f' a)) → Sure n Q (m >>= f) (m' >>= f')
    then_option-sure m m' f f' h k = then-sure _ Q f f' n m m' h k

    pub then_object-sure : (m m' : Step Births Object) (f f' : Object → Step Births B) → SureObject n m m' → ((k : ℕ) → Later n k → (a : Object) → ObjectThere k a → Sure k Q (f a) (f' a)) → Sure n Q (m >>= f) (m' >>= f')
    then_object-sure m m' f f' h k = then-sure _ Q f f' n m m' h k

    pub then_registers-sure : (m m' : Step Births Registers) (f f' : Registers → Step Births B) → SureRegisters n m m' → ((k : ℕ) → Later n k → (a : Registers) → RegistersThere k a → Sure k Q (f a) (f' a)) → Sure n Q (m >>= f) (m' >>= f')
    then_registers-sure m m' f f' h k = then-sure _ Q f f' n m m' h k

    pub then_call-sure : (m m' : Step Births Call) (f f' : Call → Step Births B) → SureCall n m m' → ((k : ℕ) → Later n k → (a : Call) → CallThere k a → Sure k Q (f a) (f' a)) → Sure n Q (m >>= f) (m' >>= f')
    then_call-sure m m' f f' h k = then-sure _ Q f f' n m m' h k

    pub then_any_call-sure : (m m' : Step Births (Option Call)) (f f' : Option Call → Step Births B) → SureAnyCall n m m' → ((k : ℕ) → Later n k → (a : Option Call) → CallThereIfAny k a → Sure k Q (f a) (f' a)) → Sure n Q (m >>= f) (m' >>= f')
    then_any_call-sure m m' f f' h k = then-sure _ Q f f' n m m' h k

    pub then_answer-sure : {A : Type 0} (m m' : Step Births A) (f f' : A → Step Births B) → SureAnswer n m m' → ((k : ℕ) → Later n k → (a : A) → Sure k Q (f a) (f' a)) → Sure n Q (m >>= f) (m' >>= f')
    then_answer-sure m m' f f' h k = then-sure _ Q f f' n m m' h (λ j l a p. k j l a)

    pub then_unit-sure : (m m' : Step Births Unit) (f f' : Step Births B) → SureAnswer n m m' → ((k : ℕ) → Later n k → Sure k Q f f') → Sure n Q (m >> f) (m' >> f')
    unfolding ◌>>◌
    then_unit-sure m m' f f' h k = then-sure _ Q (λ a. f) (λ a. f') n m m' h (λ j l a p. k j l)

    pub if-sure : (b : Bool) (m m' k k' : Step Births B) → Sure n Q m m' → Sure n Q k k' → Sure n Q (if b then m else k) (if b then m' else k')
    if-sure true m m' k k' h g = h
    if-sure false m m' k k' h g = g

    pub die-sure : (cause : Dead) → Sure n Q (die cause) (die cause)
    unfolding die
    die-sure cause = record { go = λ s l st. refl }

  -- what is there stays there

  pub later_value : (n m : ℕ) (v : Value) → Later n m → There n v → There m v
  later_value n m v l h = record { live = map_live _ _ (more n m l.is) v h.live }

  pub later_values : (n m : ℕ) (vs : List Value) → Later n m → AllThere n vs → AllThere m vs
  later_values n m vs l h = record { live = map_all _ _ (more n m l.is) vs h.live }

  live_if_any : (n m : ℕ) (v : Option Value) → n ≤ m → IsLiveIfAny n v → IsLiveIfAny m v
  live_if_any n m None l h = tt
  live_if_any n m (Some v) l h = map_live _ _ (more n m l) v h

  pub later_option : (n m : ℕ) (v : Option Value) → Later n m → ThereIfAny n v → ThereIfAny m v
  later_option n m v l h = record { live = live_if_any n m v l.is h.live }

  pub later_object : (n m : ℕ) (a : Object) → Later n m → ObjectThere n a → ObjectThere m a
  later_object n m a l h = record { live = map_object _ _ (more n m l.is) a h.live }

  pub later_call : (n m : ℕ) (c : Call) → Later n m → CallThere n c → CallThere m c
  later_call n m c l h = record { method = later_value n m c.method l h.method }

  pub small_there : (n i : ℕ) → There n (Small i)
  small_there n i = record { live = tt }

  pub small_integer_there : (n : ℕ) (i : ℤ) → There n (small_integer i)
  small_integer_there n (pos i) = record { live = tt }
  small_integer_there n (negsuc i) = record { live = tt }

  pub class_there : (n : ℕ) (a : Object) → ObjectThere n a → There n (Ref a.class)
  class_there n a h = record { live = h.live.class }

  get_there : (n : ℕ) (vs : List Value) (i : ℕ) → AllLive (IsPresent n) vs → IsLiveIfAny n (slice_get vs i)
  get_there n [] i h = tt
  get_there n (v ∷ vs) zero h = h.0
  get_there n (v ∷ vs) (suc i) h = get_there n vs i h.1

  pub field_there : (n : ℕ) (a : Object) (i : ℕ) → ObjectThere n a → ThereIfAny n (slice_get a.fields i)
  field_there n a i h = record { live = get_there n a.fields i h.live.fields }

  pub none_there : (n : ℕ) → ThereIfAny n None
  none_there n = record { live = tt }

  pub some_there : (n : ℕ) (v : Value) → There n v → ThereIfAny n (Some v)
  some_there n v h = record { live = h.live }

  pub no_values_there : (n : ℕ) → AllThere n []
  no_values_there n = record { live = tt }

  pub values_there : (n : ℕ) (v : Value) (vs : List Value) → There n v → AllThere n vs → AllThere n (v ∷ vs)
  values_there n v vs h k = record { live = (h.live, k.live) }

  pub registers_there : (n : ℕ) (a h m r : Value) (ip : ℤ) (sp : ℕ) → There n a → There n h → There n m → There n r
      → RegistersThere n (record { active = a; home = h; method = m; receiver = r; ip = ip; sp = sp })
  registers_there n a h m r ip sp x y z w = record { active = x.live; home = y.live; method = z.live; receiver = w.live }

  pub method_there : (n : ℕ) (c : Call) → CallThere n c → There n c.method
  method_there n c h = h.method

  -- answers

  answer-sure : {A : Type 0} (n : ℕ) (P : ℕ → A → Type 0) (a : A) → ((m : ℕ) → n ≤ m → P m a) → Sure n P (answer a) (answer a)
  unfolding answer
  answer-sure n P a h = record { go = λ s l st. (refl, refl, omega arith, st, h (length s.memory) l) }

  pub answer_value-sure : (n : ℕ) (v : Value) → There n v → SureValue n (answer v) (answer v)
  answer_value-sure n v h = answer-sure n _ v (λ m l. later_value n m v (record { is = l }) h)

  pub answer_values-sure : (n : ℕ) (v : List Value) → AllThere n v → SureValues n (answer v) (answer v)
  answer_values-sure n v h = answer-sure n _ v (λ m l. later_values n m v (record { is = l }) h)

  pub answer_option-sure : (n : ℕ) (v : Option Value) → ThereIfAny n v → SureOption n (answer v) (answer v)
  answer_option-sure n v h = answer-sure n _ v (λ m l. later_option n m v (record { is = l }) h)

  pub answer_registers-sure : (n : ℕ) (r : Registers) → RegistersThere n r → SureRegisters n (answer r) (answer r)
  answer_registers-sure n r h = answer-sure n _ r (λ m l. record {
    active = map_live _ _ (more n m l) r.active h.active;
    home = map_live _ _ (more n m l) r.home h.home;
    method = map_live _ _ (more n m l) r.method h.method;
    receiver = map_live _ _ (more n m l) r.receiver h.receiver;
  })

  pub answer_call-sure : (n : ℕ) (v : Value) (i : ℕ) → There n v → SureCall n (answer (record { method = v; arguments = i })) (answer (record { method = v; arguments = i }))
  answer_call-sure n v i h = answer-sure n _ _ (λ m l. record { method = later_value n m v (record { is = l }) h })

  pub answer_some_call-sure : (n : ℕ) (c : Call) → CallThere n c → SureAnyCall n (answer (Some c)) (answer (Some c))
  answer_some_call-sure n c h = answer-sure n _ _ (λ m l. record { method = later_value n m c.method (record { is = l }) h.method })

  pub answer_no_call-sure : (n : ℕ) → SureAnyCall n (answer None) (answer None)
  answer_no_call-sure n = answer-sure n _ _ (λ m l. record { method = tt })

  pub answer_itself-sure : {A : Type 0} (n : ℕ) (a : A) → SureAnswer n (answer a) (answer a)
  answer_itself-sure n a = answer-sure n _ a (λ m l. tt)

  -- registers

  pub get_active-sure : (n : ℕ) → SureValue n get_active get_active
  unfolding get_active
  get_active-sure n = record { go = λ s l st. (refl, refl, omega arith, st, record { live = st.roots.0 }) }

  pub get_home-sure : (n : ℕ) → SureValue n get_home get_home
  unfolding get_home
  get_home-sure n = record { go = λ s l st. (refl, refl, omega arith, st, record { live = st.roots.1.0 }) }

  pub get_method-sure : (n : ℕ) → SureValue n get_method get_method
  unfolding get_method
  get_method-sure n = record { go = λ s l st. (refl, refl, omega arith, st, record { live = st.roots.1.1.0 }) }

  pub get_receiver-sure : (n : ℕ) → SureValue n get_receiver get_receiver
  unfolding get_receiver
  get_receiver-sure n = record { go = λ s l st. (refl, refl, omega arith, st, record { live = st.roots.1.1.1.0 }) }

  pub get_ip-sure : (n : ℕ) → SureAnswer n get_ip get_ip
  unfolding get_ip
  get_ip-sure n = record { go = λ s l st. (refl, refl, omega arith, st, tt) }

  pub get_sp-sure : (n : ℕ) → SureAnswer n get_sp get_sp
  unfolding get_sp
  get_sp-sure n = record { go = λ s l st. (refl, refl, omega arith, st, tt) }

  pub set_ip-sure : (n : ℕ) (i : ℤ) → SureAnswer n (set_ip i) (set_ip i)
  unfolding set_ip
  set_ip-sure n i = record { go = λ s l st. (refl, refl, omega arith, record { page = st.page; objects = st.objects; roots = st.roots; to_come = st.to_come; kept = st.kept }, tt) }

  pub set_sp-sure : (n i : ℕ) → SureAnswer n (set_sp i) (set_sp i)
  unfolding set_sp
  set_sp-sure n i = record { go = λ s l st. (refl, refl, omega arith, record { page = st.page; objects = st.objects; roots = st.roots; to_come = st.to_come; kept = st.kept }, tt) }

  pub of_page-sure : (n : ℕ) (q : PageObject) → SureValue n (of_page bare q) (of_page (full o) q)
  unfolding of_page bare full
  of_page-sure n q = record { go = λ s l st. (refl, refl, omega arith, st, record { live = st.page q }) }

  -- objects

  found_same : (s : State Births) (x : Option Object) (a : Object) → x ≡ Some a → Stands s → IsLiveObject (IsPresent (length s.memory)) a → DoesSame ObjectThere s ((found x).run s) ((found (or_object o x)).run s)
  unfolding found answer
  found_same s None a e st h = cc
  found_same s (Some b) a e st h = let q : a ≡ b = cc in (refl, refl, omega arith, st, record { live = subst (IsLiveObject (IsPresent (length s.memory))) q h })

  here : (h : Births) (n k : ℕ) → n ≤ length h → IsPresent n k → (a : Object) × object_born h k ≡ Some a
  here h n k l p = object_there h k (omega (arith, l, p.1))

  pub object_named-sure : (n k : ℕ) → There n (Ref k) → SureObject n (object_named bare k) (object_named (full o) k)
  unfolding object_named bare full
  object_named-sure n k h = record { go = λ s l st. let a = here s.memory n k l h.live in found_same s (object_born s.memory k) a.0 a.1 st (st.objects k a.0 h.live.0 a.1) }

  pub object-sure : (n : ℕ) (v : Value) → There n v → SureObject n (object bare v) (object (full o) v)
  unfolding object
  object-sure n (Small i) h = die-sure _ n _
  object-sure n (Ref k) h = object_named-sure n k h

  some_full : (x : Option Object) → is_some (or_object o x) ≡ true
  some_full None = refl
  some_full (Some a) = refl

  there_same : (h : Births) (n : ℕ) (v : Value) → n ≤ length h → IsLive (IsPresent n) v → is_there births h v ≡ is_there (births_with o) h v
  there_same h n (Small i) l p = refl
  there_same h n (Ref k) l p = let a = here h n k l p in ap is_some a.1 ∙ sym (some_full (object_born h k))

  standing_replaced : (s : State Births) (k : ℕ) (a p : Object) → Stands s → object_born s.memory k ≡ Some a → IsLiveObject (IsPresent (length s.memory)) p → Stands (record s { memory = replaced s.memory k p })
  standing_replaced s k a p st e h =
      let q = length-replaced s.memory k p in
      let up : (j : ℕ) → IsPresent (length s.memory) j → IsPresent (length (replaced s.memory k p)) j = λ j x. (x.0, omega (arith, q, x.1)) in
      record {
        page = λ i. rw (bearer-replaced s.memory k (place_of i) p) (up (bearer s.memory (place_of i)) (st.page i));
        objects = λ j b l f. elim (number_cases j k) [
          | inl i ↦
              let g : Some p ≡ Some b = sym (replaced-born s.memory k p (object_within s.memory k a e)) ∙ subst (λ x. object_born (replaced s.memory k p) x ≡ Some b) i f in
              let r : p ≡ b = cc in
              subst (λ x. IsLiveObject (IsPresent (length (replaced s.memory k p))) x) r (map_object _ _ up p h)
          | inr d ↦ map_object _ _ up b (st.objects j b l (sym (replaced-other s.memory k j p d) ∙ f))
        ];
        roots = map_all _ _ up (roots_of s) st.roots;
        to_come = λ j l. st.to_come j (omega (arith, q, l));
        kept = λ j i f. st.kept j i (sym (borne-replaced s.memory k j p) ∙ f);
      }
    where
      number_cases : (m n : ℕ) → (m ≡ n) ⊎ (m ≢ n)
      number_cases m n = grind arith

  stored_same : (s : State Births) (k i : ℕ) (x : Value) (y : Option Object) (a : Object) (b : Bool) → object_born s.memory k ≡ y → y ≡ Some a → lives k → Stands s → IsLive (IsPresent (length s.memory)) x
      → DoesSame Any s (stored_at births k i x s y b) (stored_at (births_with o) k i x s (or_object o y) b)
  unfolding stored_at
  stored_same s k i x None a b f e l st h = cc
  stored_same s k i x (Some c) a false f e l st h = refl
  stored_same s k i x (Some c) a true f e l st h =
      (refl, refl, omega (arith, length-replaced s.memory k (with_field c i x)), standing_replaced s k c (with_field c i x) st f (stored_is_live _ c i x (st.objects k c l f) h), tt)

  pub set_field-sure : (n : ℕ) (v : Value) (i : ℕ) (x : Value) → There n v → There n x → SureAnswer n (set_field bare v i x) (set_field (full o) v i x)
  unfolding set_field store_at bare full
  set_field-sure n (Small k) i x h g = die-sure _ n _
  set_field-sure n (Ref k) i x h g = record {
    go = λ s l st.
        let a = here s.memory n k l h.live in
        let y = map_live _ _ (more n (length s.memory) l) x g.live in
        rw (← there_same s.memory n x l g.live) (stored_same s k i x (object_born s.memory k) a.0 (is_there births s.memory x) refl a.1 h.live.0 st y);
  }

  standing_born : (s : State Births) (b : Birth) → Stands s → IsLiveObject (IsPresent (length s.memory)) b.object → Stands (record s { memory = born s.memory b })
  standing_born s b st h =
      let q = length-born s.memory b in
      let up : (j : ℕ) → IsPresent (length s.memory) j → IsPresent (length (born s.memory b)) j = λ j x. (x.0, omega (arith, q, x.1)) in
      record {
        page = λ i. rw (bearer-born s.memory b (place_of i) (st.page i).1) (up (bearer s.memory (place_of i)) (st.page i));
        objects = λ j a l f. elim (number_cases j (length s.memory)) [
          | inl i ↦
              let g : Some b.object ≡ Some a = sym (born-last s.memory b) ∙ subst (λ x. object_born (born s.memory b) x ≡ Some a) i f in
              let r : b.object ≡ a = cc in
              subst (λ x. IsLiveObject (IsPresent (length (born s.memory b))) x) r (map_object _ _ up b.object h)
          | inr d ↦ map_object _ _ up a (st.objects j a l (sym (born-other s.memory b j d) ∙ f))
        ];
        roots = map_all _ _ up (roots_of s) st.roots;
        to_come = λ j l. st.to_come j (omega (arith, q, l));
        kept = λ j i f. elim (number_cases j (length s.memory)) [
          | inl e ↦ st.to_come j (omega (arith, e))
          | inr d ↦ st.kept j i (sym (borne-other s.memory b j d) ∙ f)
        ];
      }
    where
      number_cases : (m n : ℕ) → (m ≡ n) ⊎ (m ≢ n)
      number_cases m n = grind arith

  made_same : (s : State Births) (a : Object) (b c : Bool) → b ≡ true → c ≡ b → Stands s → IsLiveObject (IsPresent (length s.memory)) a
      → DoesSame There s (made births a s b true) (made (births_with o) a s c true)
  unfolding made
  made_same s a false c e f st h = cc
  made_same s a true c e f st h =
      let q = length-born s.memory (record { object = a; pointer = least_free s.memory; kept = true }) in
      rw f (
        refl,
        refl,
        omega (arith, q),
        standing_born s (record { object = a; pointer = least_free s.memory; kept = true }) st h,
        record { live = (st.to_come (length s.memory) (omega arith), omega (arith, q)) },
      )

  pub make-sure : (n : ℕ) (v : Value) (k : Kind) (size literals : ℕ) → There n v → SureValue n (make bare v k size literals) (make (full o) v k size literals)
  unfolding make make_named bare full
  make-sure n (Small i) k size literals h = die-sure _ n _
  make-sure n (Ref c) k size literals h = record {
    go = λ s l st.
        let a = here s.memory n c l h.live in
        let p = more n (length s.memory) l c h.live in
        let e : is_there births s.memory (Ref c) ≡ true = ap is_some a.1 in
        made_same s (new_of births s.memory c k size literals) (is_there births s.memory (Ref c)) (is_there (births_with o) s.memory (Ref c)) e (sym (there_same s.memory n (Ref c) l h.live)) st
        (fresh_live (IsPresent (length s.memory)) (Ref (births.named s.memory NilObject)) c k size literals (st.page NilObject) p);
  }

  registers_same : (r : Registers) (s : State Births) (b : Bool) → Stands s → RegistersThere (length s.memory) r → DoesSame Any s (registers_set r s b) (registers_set r s b)
  unfolding registers_set
  registers_same r s false st h = refl
  registers_same r s true st h = (
    refl,
    refl,
    omega arith,
    record { page = st.page; objects = st.objects; roots = (h.active, (h.home, (h.method, (h.receiver, st.roots.1.1.1.1)))); to_come = st.to_come; kept = st.kept },
    tt,
  )

  pub set_registers-sure : (n : ℕ) (r : Registers) → RegistersThere n r → SureAnswer n (set_registers bare r) (set_registers (full o) r)
  unfolding set_registers bare full
  set_registers-sure n r h = record {
    go = λ s l st.
        let up = more n (length s.memory) l in
        let there = λ (v : Value) (p : IsLive (IsPresent n) v). there_same s.memory n v l p in
        rw (← there r.active h.active, ← there r.home h.home, ← there r.method h.method, ← there r.receiver h.receiver)
        (registers_same r s (are_there births s.memory r) st (record { active = map_live _ _ up r.active h.active; home = map_live _ _ up r.home h.home; method = map_live _ _ up r.method h.method; receiver = map_live _ _ up r.receiver h.receiver }));
  }

  pointers_same : (h : Births) (k : ℕ) (x : Option Object) (a : Object) → x ≡ Some a → pointer_if (births_with o) h k (or_object o x) ≡ pointer_if births h k x
  pointers_same h k None a e = cc
  pointers_same h k (Some b) a e = refl

  pub half_word-sure : (n : ℕ) (v : Value) → There n v → SureAnswer n (half_word bare v) (half_word (full o) v)
  unfolding half_word bare full
  half_word-sure n (Small i) h = answer_itself-sure n i
  half_word-sure n (Ref k) h = record { go = λ s l st. let a = here s.memory n k l h.live in (pointers_same s.memory k (object_born s.memory k) a.0 a.1, refl, omega arith, st, tt) }

  -- an exchange

  standing_exchanged : (s : State Births) (a b : ℕ) (x y : Object) → object_born s.memory a ≡ Some x → object_born s.memory b ≡ Some y → lives a → lives b → Stands s
      → Stands (record s { memory = replaced (replaced s.memory a y) b x })
  standing_exchanged s a b x y e f l k st =
      let q = length-replaced s.memory a y in
      let t : State Births = record s { memory = replaced s.memory a y } in
      let first = standing_replaced s a x y st e (st.objects b y k f) in
      let there = object_there t.memory b (omega (arith, q, object_within s.memory b y f)) in
      standing_replaced t b there.0 x first there.1 (map_object (IsPresent (length s.memory)) (IsPresent (length t.memory)) (λ j p. (p.0, omega (arith, q, p.1))) x (st.objects a x l e))

  exchanged_same : (s : State Births) (a b : ℕ) (x y : Object) (c d : Bool) → object_born s.memory a ≡ Some x → object_born s.memory b ≡ Some y → lives a → lives b → Stands s → c ≡ true → d ≡ true
      → DoesSame Any s (exchanged_there births a b s c) (exchanged_there (births_with o) a b s d)
  unfolding exchanged_there
  exchanged_same s a b x y false d e f l k st g h = cc
  exchanged_same s a b x y true false e f l k st g h = cc
  exchanged_same s a b x y true true e f l k st g h =
      rw (e, f) (refl, refl, omega (arith, length-replaced s.memory a y, length-replaced (replaced s.memory a y) b x), standing_exchanged s a b x y e f l k st, tt)

  both_true : (c d : Bool) → c ≡ true → d ≡ true → (c && d) ≡ true
  both_true true d e f = f
  both_true false d e f = cc

  pub exchange-sure : (n : ℕ) (v w : Value) → There n v → There n w → SureAnswer n (exchange bare v w) (exchange (full o) v w)
  unfolding exchange exchange_named bare full
  exchange-sure n (Small a) w h k = die-sure _ n _
  exchange-sure n (Ref a) (Small b) h k = die-sure _ n _
  exchange-sure n (Ref a) (Ref b) h k = record {
    go = λ s l st.
        let x = here s.memory n a l h.live in
        let y = here s.memory n b l k.live in
        exchanged_same s a b x.0 y.0 _ _ x.1 y.1 h.live.0 k.live.0 st (both_true _ _ (ap is_some x.1) (ap is_some y.1)) (both_true _ _ (some_full (object_born s.memory a)) (some_full (object_born s.memory b)));
  }

  -- words and bytes

  units_same : (s : State Births) (k : ℕ) (us : List ℕ) (y : Option Object) (a : Object) (b : Bool) → object_born s.memory k ≡ y → y ≡ Some a → lives k → Stands s
      → DoesSame Any s (units_set births k us s y b) (units_set (births_with o) k us s (or_object o y) b)
  unfolding units_set
  units_same s k us None a b f e l st = cc
  units_same s k us (Some c) a false f e l st = refl
  units_same s k us (Some c) a true f e l st =
      let h = st.objects k c l f in
      (refl, refl, omega (arith, length-replaced s.memory k (with_units c us)), standing_replaced s k c (with_units c us) st f (record { class = h.class; fields = h.fields }), tt)

  fits_same : (us : List ℕ) (x : Option Object) (a : Object) → x ≡ Some a → fit_units us (or_object o x) ≡ fit_units us x
  fits_same us None a e = cc
  fits_same us (Some b) a e = refl

  pub set_units-sure : (n : ℕ) (v : Value) (us : List ℕ) → There n v → SureAnswer n (set_units bare v us) (set_units (full o) v us)
  unfolding set_units set_units_at bare full
  set_units-sure n (Small k) us h = die-sure _ n _
  set_units-sure n (Ref k) us h = record {
    go = λ s l st.
        let a = here s.memory n k l h.live in
        rw (fits_same us (object_born s.memory k) a.0 a.1) (units_same s k us (object_born s.memory k) a.0 _ refl a.1 h.live.0 st);
  }

  -- the world

  newest_there : (n : ℕ) (vs : List Value) (i : ℕ) → AllLive (IsPresent n) vs → ThereIfAny n (slice_get vs i)
  newest_there n [] i h = record { live = tt }
  newest_there n (v ∷ vs) zero h = record { live = h.0 }
  newest_there n (v ∷ vs) (suc i) h = newest_there n vs i h.1

  pub record ChangeThere (n : ℕ) (c : Change) : Type 0 where
    pub live : AllLive (IsPresent n) (named_by c)

  pub hold_there : (n : ℕ) (d : Device) (v : Value) → There n v → ChangeThere n (Hold d v)
  hold_there n d v h = record { live = (h.live, tt) }

  pub add_signal_there : (n : ℕ) (v : Value) → There n v → ChangeThere n (AddSignal v)
  add_signal_there n v h = record { live = (h.live, tt) }

  pub take_signal_there : (n : ℕ) → ChangeThere n TakeSignal
  take_signal_there n = record { live = tt }

  pub set_due_there : (n t : ℕ) → ChangeThere n (SetDue t)
  set_due_there n t = record { live = tt }

  pub set_low_there : (n a b : ℕ) → ChangeThere n (SetLow a b)
  set_low_there n a b = record { live = tt }

  pub move_mouse_there : (n x y : ℕ) → ChangeThere n (MoveMouse x y)
  move_mouse_there n x y = record { live = tt }

  pub take_word_there : (n : ℕ) → ChangeThere n TakeWord
  take_word_there n = record { live = tt }

  pub get_device-sure : (n : ℕ) (d : Device) → SureValue n (get_device d) (get_device d)
  unfolding get_device
  get_device-sure n d = record { go = λ s l st. (refl, refl, omega arith, st, record { live = held_live _ d s.world.devices (device_part _ (head_roots s.head) _ st.roots.1.1.1.1) }) }

  pub newest_signal-sure : (n : ℕ) → SureOption n newest_signal newest_signal
  unfolding newest_signal
  newest_signal-sure n = record {
    go = λ s l st. (refl, refl, omega arith, st, newest_there (length s.memory) s.world.devices.pending (length s.world.devices.pending - 1) (device_part _ (head_roots s.head) _ st.roots.1.1.1.1).1.1.1.1.1.1);
  }

  pub oldest_word-sure : (n : ℕ) → SureAnswer n oldest_word oldest_word
  unfolding oldest_word
  oldest_word-sure n = record { go = λ s l st. (refl, refl, omega arith, st, tt) }

  pub count_signals-sure : (n : ℕ) → SureAnswer n count_signals count_signals
  unfolding count_signals
  count_signals-sure n = record { go = λ s l st. (refl, refl, omega arith, st, tt) }

  pub get_mouse_x-sure : (n : ℕ) → SureAnswer n get_mouse_x get_mouse_x
  unfolding get_mouse_x
  get_mouse_x-sure n = record { go = λ s l st. (refl, refl, omega arith, st, tt) }

  pub get_mouse_y-sure : (n : ℕ) → SureAnswer n get_mouse_y get_mouse_y
  unfolding get_mouse_y
  get_mouse_y-sure n = record { go = λ s l st. (refl, refl, omega arith, st, tt) }

  pub get_second_clock-sure : (n : ℕ) → SureAnswer n get_second_clock get_second_clock
  unfolding get_second_clock
  get_second_clock-sure n = record { go = λ s l st. (refl, refl, omega arith, st, tt) }

  pub get_millisecond_clock-sure : (n : ℕ) → SureAnswer n get_millisecond_clock get_millisecond_clock
  unfolding get_millisecond_clock
  get_millisecond_clock-sure n = record { go = λ s l st. (refl, refl, omega arith, st, tt) }

  all_same : (h : Births) (n : ℕ) (vs : List Value) → n ≤ length h → AllLive (IsPresent n) vs → all_there births h vs ≡ all_there (births_with o) h vs
  all_same h n [] l p = refl
  all_same h n (v ∷ vs) l p = let a = there_same h n v l p.0 in let b = all_same h n vs l p.1 in λ i. a i && b i

  changed_same : (c : Change) (s : State Births) (b : Bool) → Stands s → AllLive (IsPresent (length s.memory)) (named_by c) → DoesSame Any s (world_changed c s b) (world_changed c s b)
  unfolding world_changed
  changed_same c s false st h = refl
  changed_same c s true st h =
      let r = st.roots in
      let k = changed_live _ c s.world h (device_part _ (head_roots s.head) _ r.1.1.1.1) in
      (refl, refl, omega arith, record { page = st.page; objects = st.objects; roots = (r.0, (r.1.0, (r.1.1.0, (r.1.1.1.0, with_devices _ (head_roots s.head) _ _ r.1.1.1.1 k)))); to_come = st.to_come; kept = st.kept }, tt)

  pub change_world-sure : (n : ℕ) (c : Change) → ChangeThere n c → SureAnswer n (change_world bare c) (change_world (full o) c)
  unfolding change_world bare full
  change_world-sure n c h = record {
    go = λ s l st.
        rw (← all_same s.memory n (named_by c) l h.live) (changed_same c s _ st (map_all _ _ (more n (length s.memory) l) (named_by c) h.live));
  }

  pub get_free-sure : (n : ℕ) → SureAnswer n (get_free bare) (get_free (full o))
  unfolding get_free bare full
  get_free-sure n = record { go = λ s l st. (refl, refl, omega arith, st, tt) }

  -- pointers

  named_there : (s : State Births) (x : Option ℕ) → ((n : ℕ) → x ≡ Some n → IsPresent (length s.memory) n) → ThereIfAny (length s.memory) (named_or_not x)
  unfolding named_or_not
  named_there s None f = record { live = tt }
  named_there s (Some n) f = record { live = f n refl }

  borne_present : (s : State Births) (k : ℕ) (b : Bool) (n : ℕ) → Stands s → is_borne s.memory k ≡ b → (if b then Some (bearer s.memory k) else None) ≡ Some n → IsPresent (length s.memory) n
  borne_present s k true n st e f =
      let q : bearer s.memory k ≡ n = cc in
      let b = borne-bearer s.memory k e in
      rw (← q) (st.kept (bearer s.memory k) k b, borne_before s.memory (bearer s.memory k) k b)
  borne_present s k false n st e f = cc

  pub object_at-sure : (n k : ℕ) → SureOption n (object_at bare k) (object_at (full o) k)
  unfolding object_at bare full
  object_at-sure n k = record { go = λ s l st. (refl, refl, omega arith, st, named_there s (births.borne_by s.memory k) (λ j e. borne_present s k _ j st refl e)) }

  instance_same : (s : State Births) (c : ℕ) (x : Option ℕ) → ((n : ℕ) → x ≡ Some n → IsPresent (length s.memory) n) → names_instance (births_with o) s.memory c x ≡ names_instance births s.memory c x
  instance_same s c None f = refl
  instance_same s c (Some n) f = let a = object_there s.memory n (f n refl).1 in rw a.1 refl

  first_same : (s : State Births) (c k left : ℕ) → Stands s → first_instance (births_with o) s.memory c k left ≡ first_instance births s.memory c k left
  unfolding first_instance
  first_same s c k zero st = refl
  first_same s c k (suc left) st =
      let e = instance_same s c (births.borne_by s.memory k) (λ j f. borne_present s k _ j st refl f) in
      let g = first_same s c (suc k) left st in
      λ i. if e i then births.borne_by s.memory k else g i

  first_present : (s : State Births) (c k left n : ℕ) → Stands s → first_instance births s.memory c k left ≡ Some n → IsPresent (length s.memory) n
  unfolding first_instance
  first_present s c k zero n st e = cc
  first_present s c k (suc left) n st e = by_case (names_instance births s.memory c (births.borne_by s.memory k)) e (λ f. first_present s c (suc k) left n st f)
    where
      by_case : (b : Bool) → (if b then births.borne_by s.memory k else first_instance births s.memory c (suc k) left) ≡ Some n
          → (first_instance births s.memory c (suc k) left ≡ Some n → IsPresent (length s.memory) n) → IsPresent (length s.memory) n
      by_case true f g = borne_present s k _ n st refl f
      by_case false f g = g f

  pub next_instance-sure : (n : ℕ) (v : Value) (after : ℕ) → SureOption n (next_instance bare v after) (next_instance (full o) v after)
  unfolding next_instance next_of bare full
  next_instance-sure n (Small i) after = answer_option-sure n None (none_there n)
  next_instance-sure n (Ref c) after = record {
    go = λ s l st.
        (ap named_or_not (first_same s c (suc after) (32767 - after) st), refl, omega arith, st, named_there s _ (λ j e. first_present s c (suc after) (32767 - after) j st e));
  }

  -- a step that is only tried

  module _ {A : Type 0} (P : ℕ → A → Type 0) (Q : ℕ → Option A → Type 0) (none : (n : ℕ) → Q n None) (some : (n : ℕ) (a : A) → P n a → Q n (Some a)) where
    left_same : (s : State Births) (x y : Transition (State Births) A) → Stands s → DoesSame P s x y → DoesSame Q s (or_left s x) (or_left s y)
    left_same s (Died a) (Died b) st h = (refl, refl, omega arith, st, none (length s.memory))
    left_same s (Died a) (Went b u) st h = absurd h
    left_same s (Went a t) (Died b) st h = absurd h
    left_same s (Went a t) (Went b u) st h = (ap (λ x. Some x) h.0, h.1, h.2, h.3, some (length t.memory) a h.4)

    tried-sure : (n : ℕ) (m m' : Step Births A) → Sure n P m m' → Sure n Q (tried m) (tried m')
    unfolding tried
    tried-sure n m m' h = record { go = λ s l st. left_same s (m.run s) (m'.run s) st (h.go s l st) }

  pub tried_value-sure : (n : ℕ) (m m' : Step Births Value) → SureValue n m m' → SureOption n (tried m) (tried m')
  tried_value-sure n m m' h = tried-sure _ _ none_there some_there n m m' h

  pub tried_itself-sure : {A : Type 0} (n : ℕ) (m m' : Step Births A) → SureAnswer n m m' → SureAnswer n (tried m) (tried m')
  tried_itself-sure n m m' h = tried-sure _ _ (λ k. tt) (λ k a p. tt) n m m' h
