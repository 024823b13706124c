-- Each step on registers, fields, the stack and methods over births does the same over pointers.
use Rattle.std.proofs.Common.{◌≡◌, ℕ, List, [], ◌∷◌, zero, suc, Option, Some, None, Bool, true, false, refl, ap, ◌∙◌, arith, length, ◌⊎◌, inl, inr}
use Rattle.std.proofs.Math.ListN.{length-set}
use Rattle.std.specs.Prelude.{◌+◌, ◌-◌, ◌*◌, ◌&&◌, ◌==◌, if◌then◌else◌, replicate, slice_get, ℤ}
use Rattle.st_model.specs.declared.dead.Dead.{Dead}
use Rattle.st_model.specs.declared.kind.Kind.{Kind}
use Rattle.st_model.specs.declared.kind.Kind.TheVariants as kind
use Rattle.st_model.specs.Values.{Value, Small, Ref, renamed, renamed_all, IsLive, AllLive}
use Rattle.st_model.specs.Objects.{Object, renamed_object, IsLiveObject, words_of, size_of, with_field, with_units}
use Rattle.st_model.specs.declared.page.PageObject.{PageObject}
use Rattle.st_model.specs.declared.page.PageObject.TheVariants.{NilObject}
use Rattle.st_model.specs.Machine.{ObjectMemory, Registers, State, is_there, all_there, is_of_class, names_instance, first_instance, next_of, has_room, less, capacity_of, head_roots, roots_of, answer, die}
use Rattle.st_model.specs.declared.device.Device.{Device}
use Rattle.st_model.specs.Surroundings.{Change, held_by, newest_of, changed_world, named_by, renamed_change}
use Rattle.st_model.specs.Formed.{fresh_with}
use Rattle.st_model.specs.Show.{renamed_registers, renamed_option}
use Rattle.std.specs.Option.{option_map}
use Rattle.std.proofs.lemmas.Bool.Decides.{nat_tests}
use Rattle.st_model.specs.Steps.{get_active, get_home, get_method, get_receiver, get_ip, get_sp, set_ip, set_sp, found, object_named, object, stored_at, store_at, set_field, exchanged_there, exchange_named, exchange, fit_units, units_set, set_units_at, set_units, get_device, newest_signal, count_signals, oldest_word, count_words, get_mouse_x, get_mouse_y, get_second_clock, get_millisecond_clock, world_changed, change_world, get_free, named_or_not, object_at, next_instance, fetch_kind, fetch_size, fetch_bytes, store_bytes, fetch_word, store_word, fetch_byte, store_byte, made, make_named, make, registers_set, set_registers, new_of, are_there, of_page, new_object, class_of, or_die, check, fetch_field, store_field, integer_or_die, fetch_integer, count_fields, fetch_fields, store_fields, transfer, put, push, under, look_at_words, drop_words, top, pop, literal, fetch_method_field, store_method_field, byte_at, next_byte, jump}
use Rattle.st_model.specs.inside.Calls.{itself}
use Rattle.st_simulation.proofs.Same.{length-renamed, then_object-same, answer_itself-same, OptionSame, Simulation, StateSame, TransitionSame, StaysOver, Anything, IsLiveOption, IsLiveRegisters, ValueSame, ValuesSame, OptionalSame, RegistersSame, ChangeSame, SameValue, SameValues, SameOption, SameObject, SameAnswer, is_there-renamed, all_there-renamed, value_there, values_there, some_object, same_value-same, steps_same, then_unit-same, over_value, over_values, get_is_live, over_object, with_field-renamed, stored_is_live}
use Rattle.st_model.proofs.Names.{map_all, device_part, with_devices}
use Rattle.st_simulation.proofs.Surrounding.{held_live, held-renamed, newest-renamed, changed_live, changed-renamed, named-renamed}
use Rattle.std.proofs.lemmas.Bool.{and_parts}

live_replicate : (live : ℕ → Type 0) (v : Value) (n : ℕ) → IsLive live v → AllLive live (replicate n v)
live_replicate live v zero h = tt
live_replicate live v (suc n) h = (h, live_replicate live v n h)

pub fresh_live : (live : ℕ → Type 0) (v : Value) (c : ℕ) (k : Kind) (size literals : ℕ) → IsLive live v → live c → IsLiveObject live (fresh_with v c k size literals)
fresh_live live v c kind.Pointers size literals h l = record { class = l; fields = live_replicate live v size h }
fresh_live live v c kind.Words size literals h l = record { class = l; fields = tt }
fresh_live live v c kind.Bytes size literals h l = record { class = l; fields = tt }
fresh_live live v c kind.Method size literals h l = record { class = l; fields = (tt, live_replicate live v literals h) }

module _ {H K : Type 0} {M : ObjectMemory H} {N : ObjectMemory K} (sim : Simulation M N) where
  pub get_active-same : SameValue sim get_active get_active
  unfolding get_active
  get_active-same = record { go = λ s t st. inr (st.roots.0, ap (λ r. r.active) st.registers, st); stay = λ s o. (over_value sim s.memory o s.registers.active, o) }

  pub get_home-same : SameValue sim get_home get_home
  unfolding get_home
  get_home-same = record { go = λ s t st. inr (st.roots.1.0, ap (λ r. r.home) st.registers, st); stay = λ s o. (over_value sim s.memory o s.registers.home, o) }

  pub get_method-same : SameValue sim get_method get_method
  unfolding get_method
  get_method-same = record { go = λ s t st. inr (st.roots.1.1.0, ap (λ r. r.method) st.registers, st); stay = λ s o. (over_value sim s.memory o s.registers.method, o) }

  pub get_receiver-same : SameValue sim get_receiver get_receiver
  unfolding get_receiver
  get_receiver-same = record { go = λ s t st. inr (st.roots.1.1.1.0, ap (λ r. r.receiver) st.registers, st); stay = λ s o. (over_value sim s.memory o s.registers.receiver, o) }

  pub get_ip-same : SameAnswer sim get_ip get_ip
  unfolding get_ip
  get_ip-same = record { go = λ s t st. inr (tt, ap (λ r. r.ip) st.registers, st); stay = λ s o. (tt, o) }

  pub get_sp-same : SameAnswer sim get_sp get_sp
  unfolding get_sp
  get_sp-same = record { go = λ s t st. inr (tt, ap (λ r. r.sp) st.registers, st); stay = λ s o. (tt, o) }

  pub set_sp-same : (n : ℕ) → SameAnswer sim (set_sp n) (set_sp n)
  unfolding set_sp
  set_sp-same n = record {
    go = λ s t st. inr (tt, refl, record { memory = st.memory; limits = st.limits; there = st.there; roots = st.roots; registers = ap (λ (r : Registers). record r { sp = n }) st.registers; world = st.world; head = st.head });
    stay = λ s o. (tt, o);
  }

  pub set_ip-same : (n : ℤ) → SameAnswer sim (set_ip n) (set_ip n)
  unfolding set_ip
  set_ip-same n = record {
    go = λ s t st. inr (tt, refl, record { memory = st.memory; limits = st.limits; there = st.there; roots = st.roots; registers = ap (λ (r : Registers). record r { ip = n }) st.registers; world = st.world; head = st.head });
    stay = λ s o. (tt, o);
  }

  pub found-same : (a b : Option Object) → OptionSame sim.live sim.name a b
      → SameObject sim (found a) (found b)
  unfolding found
  found-same None b h = rw h (search steps_same)
  found-same (Some a) b h = rw h.1 (search steps_same)

  found_over : (a : Option Object) (s : State H) → sim.beyond.over s.memory → StaysOver sim (IsLiveObject sim.live) ((found a).run s)
  unfolding found answer die
  found_over None s o = tt
  found_over (Some a) s o = (over_object sim s.memory o a, o)

  pub object_named-same : (n : ℕ) → sim.live n
      → SameObject sim (object_named M n) (object_named N (sim.name n))
  unfolding object_named
  object_named-same n h = record {
    go = λ s t st.
        (found-same (M.read s.memory n) (N.read t.memory (sim.name n)) (sim.read s.memory t.memory n st.memory h)).go s t st;
    stay = λ s o. found_over (M.read s.memory n) s o;
  }

  pub object-same : (v w : Value) → ValueSame sim v w → SameObject sim (object M v) (object N w)
  unfolding object
  object-same (Small n) w h = rw h.is (search steps_same)
  object-same (Ref n) w h = rw h.is (object_named-same n h.live)

  words-with_field : (o : Object) (i : ℕ) (x : Value) → words_of (with_field o i x) ≡ words_of o
  words-with_field o i x = rw (length-set o.fields i x) refl

  -- an object that refers to what lives and is there takes the place of another
  replaced-same : (s : State H) (t : State K) (n : ℕ) (o p : Object) → StateSame sim s t → sim.live n → M.read s.memory n ≡ Some o → IsLiveObject sim.live p → IsLiveObject (sim.there s.memory) p
      → StateSame sim (record s { memory = M.replace s.memory n p }) (record t { memory = N.replace t.memory (sim.name n) (renamed_object sim.name p) })
  replaced-same s t n o p st l e h k = record {
    memory = sim.replace s.memory t.memory n o p st.memory l e h k;
    limits = st.limits;
    there = map_all _ _ (λ m x. sim.there_replace s.memory n m o p e x) (roots_of s) st.there;
    roots = st.roots;
    registers = st.registers;
    world = st.world;
    head = st.head;
  }

  stored-same : (n i : ℕ) (x : Value) (s : State H) (t : State K) (a b : Option Object) (c : Bool) → sim.live n → IsLive sim.live x → StateSame sim s t
      → M.read s.memory n ≡ a → is_there M s.memory x ≡ c → OptionSame sim.live sim.name a b
      → TransitionSame sim Anything itself (stored_at M n i x s a c) (stored_at N (sim.name n) i (renamed sim.name x) t b c)
  unfolding stored_at
  stored-same n i x s t None b c l k st e f h = rw h (inl refl)
  stored-same n i x s t (Some o) b false l k st e f h = rw h.1 (inl refl)
  stored-same n i x s t (Some o) b true l k st e f h = rw (h.1, with_field-renamed sim.name o i x) (inr (
    tt,
    refl,
    replaced-same s t n o (with_field o i x) st l e (stored_is_live sim.live o i x h.0 k)
        (stored_is_live (sim.there s.memory) o i x (sim.read_there s.memory t.memory n o st.memory e).1 (value_there sim s.memory t.memory x st.memory f)),
  ))

  stored_over : (n i : ℕ) (x : Value) (s : State H) (a : Option Object) (c : Bool) → M.read s.memory n ≡ a → sim.beyond.over s.memory → StaysOver sim Anything (stored_at M n i x s a c)
  unfolding stored_at
  stored_over n i x s None c e o = tt
  stored_over n i x s (Some a) false e o = tt
  stored_over n i x s (Some a) true e o = (tt, sim.beyond.over_replace s.memory n a (with_field a i x) o e (words-with_field a i x))

  store_at-same : (n i : ℕ) (x : Value) → sim.live n → IsLive sim.live x → SameAnswer sim (store_at M n i x) (store_at N (sim.name n) i (renamed sim.name x))
  unfolding store_at
  store_at-same n i x l k = record {
    go = λ s t st.
        rw (is_there-renamed sim s.memory t.memory x st.memory k)
        (stored-same n i x s t (M.read s.memory n) (N.read t.memory (sim.name n)) (is_there M s.memory x) l k st refl refl (sim.read s.memory t.memory n st.memory l));
    stay = λ s o. stored_over n i x s (M.read s.memory n) (is_there M s.memory x) refl o;
  }

  pub set_field-same : (v w : Value) (i : ℕ) (x y : Value) → ValueSame sim v w → ValueSame sim x y → SameAnswer sim (set_field M v i x) (set_field N w i y)
  unfolding set_field
  set_field-same (Small n) w i x y h l = rw h.is (search steps_same)
  set_field-same (Ref n) w i x y h l = rw (h.is, l.is) (store_at-same n i x h.live l.live)

  replicate-renamed : (v : Value) (n : ℕ) → replicate n (renamed sim.name v) ≡ renamed_all sim.name (replicate n v)
  replicate-renamed v zero = refl
  replicate-renamed v (suc n) = ap (λ ws. renamed sim.name v ∷ ws) (replicate-renamed v n)

  -- an exchange

  exchanged-same : (a b : ℕ) (s : State H) (t : State K) (o p : Object) → sim.live a → sim.live b → StateSame sim s t → M.read s.memory a ≡ Some o → M.read s.memory b ≡ Some p
      → StateSame sim (record s { memory = M.exchange s.memory a b }) (record t { memory = N.exchange t.memory (sim.name a) (sim.name b) })
  exchanged-same a b s t o p l k st e f = record {
    memory = sim.exchange s.memory t.memory a b o p st.memory l k e f;
    limits = st.limits;
    there = map_all _ _ (λ m x. sim.there_exchange s.memory a b m o p e f x) (roots_of s) st.there;
    roots = st.roots;
    registers = st.registers;
    world = st.world;
    head = st.head;
  }

  exchanged_there-same : (a b : ℕ) (s : State H) (t : State K) (x : Bool) → sim.live a → sim.live b → StateSame sim s t → (is_there M s.memory (Ref a) && is_there M s.memory (Ref b)) ≡ x
      → TransitionSame sim Anything itself (exchanged_there M a b s x) (exchanged_there N (sim.name a) (sim.name b) t x)
  unfolding exchanged_there
  exchanged_there-same a b s t false l k st e = inl refl
  exchanged_there-same a b s t true l k st e =
      let h = and_parts (is_there M s.memory (Ref a)) (is_there M s.memory (Ref b)) e in
      let o = some_object (M.read s.memory a) h.0 in
      let p = some_object (M.read s.memory b) h.1 in
      inr (tt, refl, exchanged-same a b s t o.0 p.0 l k st o.1 p.1)

  exchanged_over : (a b : ℕ) (s : State H) (x : Bool) → (is_there M s.memory (Ref a) && is_there M s.memory (Ref b)) ≡ x → sim.beyond.over s.memory → StaysOver sim Anything (exchanged_there M a b s x)
  unfolding exchanged_there
  exchanged_over a b s false e v = tt
  exchanged_over a b s true e v =
      let h = and_parts (is_there M s.memory (Ref a)) (is_there M s.memory (Ref b)) e in
      let o = some_object (M.read s.memory a) h.0 in
      let p = some_object (M.read s.memory b) h.1 in
      (tt, sim.beyond.over_exchange s.memory a b o.0 p.0 v o.1 p.1)

  exchange_named-same : (a b : ℕ) → sim.live a → sim.live b → SameAnswer sim (exchange_named M a b) (exchange_named N (sim.name a) (sim.name b))
  unfolding exchange_named
  exchange_named-same a b l k = record {
    go = λ s t st.
        rw (is_there-renamed sim s.memory t.memory (Ref a) st.memory l, is_there-renamed sim s.memory t.memory (Ref b) st.memory k)
        (exchanged_there-same a b s t _ l k st refl);
    stay = λ s o. exchanged_over a b s _ refl o;
  }

  pub exchange-same : (v w x y : Value) → ValueSame sim v w → ValueSame sim x y → SameAnswer sim (exchange M v x) (exchange N w y)
  unfolding exchange
  exchange-same (Small a) w x y h k = rw h.is (search steps_same)
  exchange-same (Ref a) w (Small b) y h k = rw (h.is, k.is) (search steps_same)
  exchange-same (Ref a) w (Ref b) y h k = rw (h.is, k.is) (exchange_named-same a b h.live k.live)

  -- words and bytes

  fit_units-same : (us : List ℕ) (a b : Option Object) → OptionSame sim.live sim.name a b → fit_units us b ≡ fit_units us a
  fit_units-same us None b h = rw h refl
  fit_units-same us (Some o) b h = rw h.1 refl

  units_set-same : (n : ℕ) (us : List ℕ) (s : State H) (t : State K) (a b : Option Object) (fit : Bool) → sim.live n → StateSame sim s t → M.read s.memory n ≡ a → OptionSame sim.live sim.name a b
      → TransitionSame sim Anything itself (units_set M n us s a fit) (units_set N (sim.name n) us t b fit)
  unfolding units_set
  units_set-same n us s t None b fit l st e h = rw h (inl refl)
  units_set-same n us s t (Some o) b false l st e h = rw h.1 (inl refl)
  units_set-same n us s t (Some o) b true l st e h =
      let k = (sim.read_there s.memory t.memory n o st.memory e).1 in
      rw h.1 (inr (tt, refl, replaced-same s t n o (with_units o us) st l e (record { class = h.0.class; fields = h.0.fields }) (record { class = k.class; fields = k.fields })))

  words-with_units : (o : Object) (us : List ℕ) → (length us == length o.units) ≡ true → words_of (with_units o us) ≡ words_of o
  words-with_units o us f = let e : length us ≡ length o.units = grind (arith, nat_tests) in rw e refl

  units_over : (n : ℕ) (us : List ℕ) (s : State H) (a : Option Object) (fit : Bool) → M.read s.memory n ≡ a → fit_units us a ≡ fit → sim.beyond.over s.memory → StaysOver sim Anything (units_set M n us s a fit)
  unfolding units_set
  units_over n us s None fit e f v = tt
  units_over n us s (Some o) false e f v = tt
  units_over n us s (Some o) true e f v = (tt, sim.beyond.over_replace s.memory n o (with_units o us) v e (words-with_units o us f))

  pub set_units-same : (v w : Value) (us : List ℕ) → ValueSame sim v w → SameAnswer sim (set_units M v us) (set_units N w us)
  unfolding set_units set_units_at
  set_units-same (Small n) w us h = rw h.is (search steps_same)
  set_units-same (Ref n) w us h = rw h.is (record {
    go = λ s t st.
        let r = sim.read s.memory t.memory n st.memory h.live in
        rw (fit_units-same us (M.read s.memory n) (N.read t.memory (sim.name n)) r)
        (units_set-same n us s t (M.read s.memory n) (N.read t.memory (sim.name n)) (fit_units us (M.read s.memory n)) h.live st refl r);
    stay = λ s o. units_over n us s (M.read s.memory n) _ refl refl o;
  })

  -- a new object

  fresh-renamed : (v : Value) (c : ℕ) (k : Kind) (size literals : ℕ)
      → fresh_with (renamed sim.name v) (sim.name c) k size literals ≡ renamed_object sim.name (fresh_with v c k size literals)
  fresh-renamed v c kind.Pointers size literals = λ i. record { class = sim.name c; kind = kind.Pointers; fields = replicate-renamed v size i; units = [] }
  fresh-renamed v c kind.Words size literals = refl
  fresh-renamed v c kind.Bytes size literals = refl
  fresh-renamed v c kind.Method size literals = λ i. record { class = sim.name c; kind = kind.Method; fields = Small literals ∷ replicate-renamed v literals i; units = replicate (size - 2 * (literals + 1)) 0 }

  new_of-renamed : (h : H) (k : K) (c : ℕ) (kind : Kind) (size literals : ℕ) → sim.heaps h k
      → new_of N k (sim.name c) kind size literals ≡ renamed_object sim.name (new_of M h c kind size literals)
  new_of-renamed h k c kind size literals s =
      ap (λ n. fresh_with (Ref n) (sim.name c) kind size literals) (sim.named h k NilObject s) ∙ fresh-renamed (Ref (M.named h NilObject)) c kind size literals

  module _ (c : ℕ) (kind : Kind) (size literals : ℕ) where
    nil : (s : State H) (t : State K) → StateSame sim s t → sim.live (M.named s.memory NilObject) × sim.there s.memory (M.named s.memory NilObject)
    nil s t st = sim.named_live s.memory t.memory NilObject st.memory

    made-same : (s : State H) (t : State K) (there room room' : Bool) → sim.live c → StateSame sim s t → is_there M s.memory (Ref c) ≡ there
        → has_room M s.head s.memory (new_of M s.memory c kind size literals) ≡ room → (room' ≡ room) ⊎ ((room ≡ true) × sim.beyond.over (M.append s.memory (new_of M s.memory c kind size literals)))
        → TransitionSame sim (IsLive sim.live) (renamed sim.name) (made M (new_of M s.memory c kind size literals) s there room)
        (made N (renamed_object sim.name (new_of M s.memory c kind size literals)) t there room')
    unfolding made
    made-same s t false room room' l st e g r = inl refl
    made-same s t true true true l st e g r = inr (
      sim.next_live s.memory t.memory st.memory,
      ap Ref (sim.next s.memory t.memory st.memory),
      record {
        memory = sim.append s.memory t.memory s.head (new_of M s.memory c kind size literals) st.memory st.limits g (fresh_live sim.live _ c kind size literals (nil s t st).0 l)
            (fresh_live (sim.there s.memory) _ c kind size literals (nil s t st).1 (value_there sim s.memory t.memory (Ref c) st.memory e));
        limits = st.limits;
        there = map_all _ _ (λ m x. sim.there_append s.memory m (new_of M s.memory c kind size literals) x) (roots_of s) st.there;
        roots = st.roots;
        registers = st.registers;
        world = st.world;
        head = st.head;
      },
    )
    made-same s t true true false l st e g (inl r) = absurd (cc)
    made-same s t true true false l st e g (inr r) = inl (sim.next_live s.memory t.memory st.memory, r.1)
    made-same s t true false true l st e g (inl r) = absurd (cc)
    made-same s t true false true l st e g (inr r) = let q = r.0 in absurd (cc)
    made-same s t true false false l st e g r = inr ((nil s t st).0, ap Ref (sim.named s.memory t.memory NilObject st.memory), st)

    made_over : (s : State H) (there room : Bool) → sim.beyond.over s.memory → StaysOver sim (IsLive sim.live) (made M (new_of M s.memory c kind size literals) s there room)
    unfolding made
    made_over s false room o = tt
    made_over s true true o = (sim.beyond.over_live s.memory (M.next s.memory) o, sim.beyond.over_append s.memory (new_of M s.memory c kind size literals) o)
    made_over s true false o = (sim.beyond.over_live s.memory (M.named s.memory NilObject) o, o)

    make_named-same : sim.makes → sim.live c → SameValue sim (make_named M c kind size literals) (make_named N (sim.name c) kind size literals)
    unfolding make_named
    make_named-same m l = record {
      go = λ s t st.
          let o = new_of M s.memory c kind size literals in
          rw (new_of-renamed s.memory t.memory c kind size literals st.memory, is_there-renamed sim s.memory t.memory (Ref c) st.memory l)
          (made-same s t (is_there M s.memory (Ref c)) (has_room M s.head s.memory o) (has_room N t.head t.memory (renamed_object sim.name o)) l st refl refl
          (sim.rooms s.memory t.memory s.head t.head o m st.memory st.limits st.head));
      stay = λ s o. made_over s (is_there M s.memory (Ref c)) (has_room M s.head s.memory (new_of M s.memory c kind size literals)) o;
    }

  pub make-same : (v w : Value) (kind : Kind) (size literals : ℕ) → sim.makes → ValueSame sim v w → SameValue sim (make M v kind size literals) (make N w kind size literals)
  unfolding make
  make-same (Small n) w kind size literals m h = rw h.is (search steps_same)
  make-same (Ref n) w kind size literals m h = rw h.is (make_named-same n kind size literals m h.live)

  -- registers and the world

  four_there : (s : State H) (t : State K) (r : Registers) → StateSame sim s t → IsLiveRegisters sim.live r → are_there N t.memory (renamed_registers sim.name r) ≡ are_there M s.memory r
  four_there s t r st l =
      let a = is_there-renamed sim s.memory t.memory r.active st.memory l.0 in
      let b = is_there-renamed sim s.memory t.memory r.home st.memory l.1 in
      let c = is_there-renamed sim s.memory t.memory r.method st.memory l.2 in
      let d = is_there-renamed sim s.memory t.memory r.receiver st.memory l.3 in
      rw (a, b, c, d) refl

  set_there : (s : State H) (t : State K) (r : Registers) → StateSame sim s t → are_there M s.memory r ≡ true → AllLive (sim.there s.memory) (roots_of (record s { registers = r }))
  set_there s t r st e =
      let a = and_parts (is_there M s.memory r.active) (is_there M s.memory r.home && (is_there M s.memory r.method && is_there M s.memory r.receiver)) e in
      let b = and_parts (is_there M s.memory r.home) (is_there M s.memory r.method && is_there M s.memory r.receiver) a.1 in
      let c = and_parts (is_there M s.memory r.method) (is_there M s.memory r.receiver) b.1 in
      let known : (v : Value) → is_there M s.memory v ≡ true → IsLive (sim.there s.memory) v = λ v f. value_there sim s.memory t.memory v st.memory f in
      (known r.active a.0, (known r.home b.0, (known r.method c.0, (known r.receiver c.1, st.there.1.1.1.1))))

  registers_set-same : (r : Registers) (s : State H) (t : State K) (there : Bool) → IsLiveRegisters sim.live r → StateSame sim s t → are_there M s.memory r ≡ there
      → TransitionSame sim Anything itself (registers_set r s there) (registers_set (renamed_registers sim.name r) t there)
  unfolding registers_set
  registers_set-same r s t false h st e = inl refl
  registers_set-same r s t true h st e = inr (
    tt,
    refl,
    record {
      memory = st.memory;
      limits = st.limits;
      there = set_there s t r st e;
      roots = (h.0, (h.1, (h.2, (h.3, st.roots.1.1.1.1))));
      registers = refl;
      world = st.world;
      head = st.head;
    },
  )

  registers_set_over : (r : Registers) (s : State H) (there : Bool) → sim.beyond.over s.memory → StaysOver sim Anything (registers_set r s there)
  unfolding registers_set
  registers_set_over r s false o = tt
  registers_set_over r s true o = (tt, o)

  set_registers_one-same : (r : Registers) → IsLiveRegisters sim.live r → SameAnswer sim (set_registers M r) (set_registers N (renamed_registers sim.name r))
  unfolding set_registers
  set_registers_one-same r h = record {
    go = λ s t st. rw (four_there s t r st h) (registers_set-same r s t (are_there M s.memory r) h st refl);
    stay = λ s o. registers_set_over r s (are_there M s.memory r) o;
  }

  pub set_registers-same : (r q : Registers) → RegistersSame sim r q → SameAnswer sim (set_registers M r) (set_registers N q)
  set_registers-same r q h = rw h.is (set_registers_one-same r h.live)

  -- the world

  pub get_device-same : (d : Device) → SameValue sim (get_device d) (get_device d)
  unfolding get_device
  get_device-same d = record {
    go = λ s t st. inr (
      held_live sim.live d s.world.devices (device_part _ (head_roots s.head) _ st.roots.1.1.1.1),
      ap (λ w. held_by w.devices d) st.world ∙ held-renamed sim.name d s.world.devices,
      st,
    );
    stay = λ s o. (over_value sim s.memory o (held_by s.world.devices d), o);
  }

  pub newest_signal-same : SameOption sim newest_signal newest_signal
  unfolding newest_signal
  newest_signal-same = record {
    go = λ s t st. inr (
      get_is_live sim.live s.world.devices.pending (length s.world.devices.pending - 1) (device_part _ (head_roots s.head) _ st.roots.1.1.1.1).1.1.1.1.1.1,
      ap (λ w. newest_of w.devices.pending) st.world ∙ newest-renamed sim s.world.devices.pending,
      st,
    );
    stay = λ s o. (get_is_live sim.live s.world.devices.pending (length s.world.devices.pending - 1) (over_values sim s.memory o s.world.devices.pending), o);
  }

  pub count_signals-same : SameAnswer sim count_signals count_signals
  unfolding count_signals
  count_signals-same = record {
    go = λ s t st. inr (tt, ap (λ w. length w.devices.pending) st.world ∙ length-renamed sim.name s.world.devices.pending, st);
    stay = λ s o. (tt, o);
  }

  pub oldest_word-same : SameAnswer sim oldest_word oldest_word
  unfolding oldest_word
  oldest_word-same = record { go = λ s t st. inr (tt, ap (λ w. slice_get w.waiting 0) st.world, st); stay = λ s o. (tt, o) }

  pub count_words-same : SameAnswer sim count_words count_words
  unfolding count_words
  count_words-same = record { go = λ s t st. inr (tt, ap (λ w. length w.waiting) st.world, st); stay = λ s o. (tt, o) }

  pub get_mouse_x-same : SameAnswer sim get_mouse_x get_mouse_x
  unfolding get_mouse_x
  get_mouse_x-same = record { go = λ s t st. inr (tt, ap (λ w. w.mouse_x) st.world, st); stay = λ s o. (tt, o) }

  pub get_mouse_y-same : SameAnswer sim get_mouse_y get_mouse_y
  unfolding get_mouse_y
  get_mouse_y-same = record { go = λ s t st. inr (tt, ap (λ w. w.mouse_y) st.world, st); stay = λ s o. (tt, o) }

  pub get_second_clock-same : SameAnswer sim get_second_clock get_second_clock
  unfolding get_second_clock
  get_second_clock-same = record { go = λ s t st. inr (tt, ap (λ w. w.second_clock) st.world, st); stay = λ s o. (tt, o) }

  pub get_millisecond_clock-same : SameAnswer sim get_millisecond_clock get_millisecond_clock
  unfolding get_millisecond_clock
  get_millisecond_clock-same = record { go = λ s t st. inr (tt, ap (λ w. w.millisecond_clock) st.world, st); stay = λ s o. (tt, o) }

  changed_same : (c : Change) (s : State H) (t : State K) (b : Bool) → AllLive sim.live (named_by c) → StateSame sim s t → all_there M s.memory (named_by c) ≡ b
      → TransitionSame sim Anything itself (world_changed c s b) (world_changed (renamed_change sim.name c) t b)
  unfolding world_changed
  changed_same c s t false h st e = inl refl
  changed_same c s t true h st e =
      let r = st.roots in
      let k = st.there in
      let there = values_there sim s.memory t.memory (named_by c) st.memory e in
      let known = changed_live (sim.there s.memory) c s.world there (device_part _ (head_roots s.head) _ k.1.1.1.1) in
      let live = changed_live sim.live c s.world h (device_part _ (head_roots s.head) _ r.1.1.1.1) in
      inr (
        tt,
        refl,
        record {
          memory = st.memory;
          limits = st.limits;
          there = (k.0, (k.1.0, (k.1.1.0, (k.1.1.1.0, with_devices _ (head_roots s.head) _ _ k.1.1.1.1 known))));
          roots = (r.0, (r.1.0, (r.1.1.0, (r.1.1.1.0, with_devices _ (head_roots s.head) _ _ r.1.1.1.1 live))));
          registers = st.registers;
          world = ap (changed_world (renamed_change sim.name c)) st.world ∙ changed-renamed sim.name c s.world;
          head = st.head;
        },
      )

  changed_over : (c : Change) (s : State H) (b : Bool) → sim.beyond.over s.memory → StaysOver sim Anything (world_changed c s b)
  unfolding world_changed
  changed_over c s false o = tt
  changed_over c s true o = (tt, o)

  change_world_one-same : (c : Change) → AllLive sim.live (named_by c) → SameAnswer sim (change_world M c) (change_world N (renamed_change sim.name c))
  unfolding change_world
  change_world_one-same c h = record {
    go = λ s t st. rw (named-renamed sim.name c, all_there-renamed sim s.memory t.memory (named_by c) st.memory h) (changed_same c s t _ h st refl);
    stay = λ s o. changed_over c s _ o;
  }

  pub change_world-same : (c d : Change) → ChangeSame sim c d → SameAnswer sim (change_world M c) (change_world N d)
  change_world-same c d h = rw h.is (change_world_one-same c h.live)

  pub get_free-same : SameAnswer sim (get_free M) (get_free N)
  unfolding get_free
  get_free-same = record {
    go = λ s t st. let u = sim.used s.memory t.memory st.memory in inr (tt, λ i. less (capacity_of (st.head i)) (u i), st);
    stay = λ s o. (tt, o);
  }

  -- pointers

  named_or_not-same : (a b : Option ℕ) → ((n : ℕ) → a ≡ Some n → sim.live n) → b ≡ option_map sim.name a → IsLiveOption sim.live (named_or_not a) × (named_or_not b ≡ renamed_option sim.name (named_or_not a))
  unfolding named_or_not
  named_or_not-same None b h e = rw e (tt, refl)
  named_or_not-same (Some n) b h e = rw e (h n refl, refl)

  named_or_not_over : (a : Option ℕ) (s : State H) → sim.beyond.over s.memory → IsLiveOption sim.live (named_or_not a)
  unfolding named_or_not
  named_or_not_over None s o = tt
  named_or_not_over (Some n) s o = sim.beyond.over_live s.memory n o

  pub object_at-same : (k : ℕ) → SameOption sim (object_at M k) (object_at N k)
  unfolding object_at
  object_at-same k = record {
    go = λ s t st. let n = named_or_not-same (M.borne_by s.memory k) (N.borne_by t.memory k) (λ n e. sim.borne_live s.memory t.memory k n st.memory e) (sim.borne_by s.memory t.memory k st.memory) in
        inr (n.0, n.1, st);
    stay = λ s o. (named_or_not_over _ s o, o);
  }

  module _ (c : ℕ) (l : sim.live c) (h : H) (k : K) (hs : sim.heaps h k) where
    of_class-same : (a b : Option Object) → OptionSame sim.live sim.name a b → is_of_class (sim.name c) b ≡ is_of_class c a
    of_class-same None b s = rw s refl
    of_class-same (Some o) b s = rw s.1 (same_value-same sim (Ref o.class) _ (Ref c) _ (record { live = s.0.class; is = refl }) (record { live = l; is = refl }))

    names_instance-same : (a b : Option ℕ) → ((n : ℕ) → a ≡ Some n → sim.live n) → b ≡ option_map sim.name a → names_instance N k (sim.name c) b ≡ names_instance M h c a
    names_instance-same None b f e = rw e refl
    names_instance-same (Some n) b f e = rw e (of_class-same (M.read h n) (N.read k (sim.name n)) (sim.read h k n hs (f n refl)))

    if_named : (x y : Bool) (a a' b b' : Option ℕ) → y ≡ x → a' ≡ option_map sim.name a → b' ≡ option_map sim.name b → (if y then a' else b') ≡ option_map sim.name (if x then a else b)
    if_named true y a a' b b' e f g = rw e f
    if_named false y a a' b b' e f g = rw e g

    if_live : (x : Bool) (a b : Option ℕ) → ((n : ℕ) → a ≡ Some n → sim.live n) → ((n : ℕ) → b ≡ Some n → sim.live n) → (n : ℕ) → (if x then a else b) ≡ Some n → sim.live n
    if_live true a b f g = f
    if_live false a b f g = g

    first_instance_live : (p left n : ℕ) → first_instance M h c p left ≡ Some n → sim.live n
    unfolding first_instance
    first_instance_live p zero n e = cc
    first_instance_live p (suc left) n e =
        if_live (names_instance M h c (M.borne_by h p)) (M.borne_by h p) (first_instance M h c (suc p) left) (λ m f. sim.borne_live h k p m hs f) (λ m f. first_instance_live (suc p) left m f) n e

    first_instance-same : (p left : ℕ) → first_instance N k (sim.name c) p left ≡ option_map sim.name (first_instance M h c p left)
    unfolding first_instance
    first_instance-same p zero = refl
    first_instance-same p (suc left) =
        if_named _ _ _ _ _ _ (names_instance-same (M.borne_by h p) (N.borne_by k p) (λ n e. sim.borne_live h k p n hs e) (sim.borne_by h k p hs)) (sim.borne_by h k p hs) (first_instance-same (suc p) left)

  pub next_instance-same : (v w : Value) (after : ℕ) → ValueSame sim v w → SameOption sim (next_instance M v after) (next_instance N w after)
  unfolding next_instance next_of
  next_instance-same (Small n) w after h = rw h.is (search steps_same)
  next_instance-same (Ref c) w after h = rw h.is (record {
    go = λ s t st.
        let n = named_or_not-same (next_of M s.memory c after) (next_of N t.memory (sim.name c) after) (λ n e. first_instance_live c h.live s.memory t.memory st.memory _ _ n e) (first_instance-same c h.live s.memory t.memory st.memory _ _) in
        inr (n.0, n.1, st);
    stay = λ s o. (named_or_not_over _ s o, o);
  })

  pub of_page-same : (p : PageObject) → SameValue sim (of_page M p) (of_page N p)
  unfolding of_page
  of_page-same p = record {
    go = λ s t st. inr ((sim.named_live s.memory t.memory p st.memory).0, ap Ref (sim.named s.memory t.memory p st.memory), st);
    stay = λ s o. (sim.beyond.over_live s.memory (M.named s.memory p) o, o);
  }

  pub check-same : (cause : Dead) (b c : Bool) → c ≡ b → SameAnswer sim (check cause b) (check cause c)
  unfolding check
  check-same cause true c e = rw e (search steps_same)
  check-same cause false c e = rw e (search steps_same)

  pub value_or_die-same : (cause : Dead) (x y : Option Value) → OptionalSame sim x y → SameValue sim (or_die cause x) (or_die cause y)
  unfolding or_die
  value_or_die-same cause None y h = rw h.is (search steps_same)
  value_or_die-same cause (Some v) y h = let k : ValueSame sim v (renamed sim.name v) = record { live = h.live; is = refl } in rw h.is (search steps_same)

  pub itself_or_die-same : {A : Type 0} (cause : Dead) (x y : Option A) → y ≡ x → SameAnswer sim (or_die cause x) (or_die cause y)
  unfolding or_die
  itself_or_die-same cause None y e = rw e (search steps_same)
  itself_or_die-same cause (Some a) y e = rw e (search steps_same)

  pub integer_or_die-same : (v w : Value) → ValueSame sim v w → SameAnswer sim (integer_or_die v) (integer_or_die w)
  unfolding integer_or_die
  integer_or_die-same (Small n) w h = rw h.is (search steps_same)
  integer_or_die-same (Ref n) w h = rw h.is (search steps_same)

  pub ruleset memory_same = (steps_same, get_active-same, get_home-same, get_method-same, get_receiver-same, get_ip-same, get_sp-same, set_ip-same, set_sp-same, object-same, set_field-same, set_units-same, exchange-same, make-same, set_registers-same, get_device-same, newest_signal-same, count_signals-same, oldest_word-same, count_words-same, get_mouse_x-same, get_mouse_y-same, get_second_clock-same, get_millisecond_clock-same, change_world-same, get_free-same, object_at-same, next_instance-same, of_page-same, check-same, value_or_die-same, itself_or_die-same, integer_or_die-same)

  -- fields

  pub fetch_field-same : (v w : Value) (i : ℕ) → ValueSame sim v w → SameValue sim (fetch_field M v i) (fetch_field N w i)
  unfolding fetch_field
  fetch_field-same v w i h = search memory_same depth 16 fits 4000

  pub store_field-same : (v w : Value) (i : ℕ) (x y : Value) → ValueSame sim v w → ValueSame sim x y → SameAnswer sim (store_field M v i x) (store_field N w i y)
  unfolding store_field
  store_field-same v w i x y h k = search memory_same depth 20 fits 4000

  pub count_fields-same : (v w : Value) → ValueSame sim v w → SameAnswer sim (count_fields M v) (count_fields N w)
  unfolding count_fields
  count_fields-same v w h = search memory_same depth 20 fits 4000

  pub new_object-same : (v w : Value) (n : ℕ) → sim.makes → ValueSame sim v w → SameValue sim (new_object M v n) (new_object N w n)
  unfolding new_object
  new_object-same v w n m h = make-same v w kind.Pointers n 0 m h

  pub class_of-same : (v w : Value) → ValueSame sim v w → SameValue sim (class_of M v) (class_of N w)
  unfolding class_of
  class_of-same (Small n) w h = rw h.is (search memory_same)
  class_of-same (Ref n) w h = let l : sim.live n = h.live in rw h.is (search (memory_same, object_named-same) depth 16 fits 4000)

  pub ruleset fields_same = (memory_same, fetch_field-same, store_field-same, count_fields-same, new_object-same, class_of-same)

  pub fetch_integer-same : (v w : Value) (i : ℕ) → ValueSame sim v w → SameAnswer sim (fetch_integer M v i) (fetch_integer N w i)
  unfolding fetch_integer
  fetch_integer-same v w i h = search fields_same depth 16 fits 4000

  fetch_fields-same : (v w : Value) (from n : ℕ) → ValueSame sim v w → SameValues sim (fetch_fields M v from n) (fetch_fields N w from n)
  unfolding fetch_fields
  fetch_fields-same v w from zero h = search fields_same depth 16 fits 4000
  fetch_fields-same v w from (suc n) h = search (fields_same, fetch_fields-same v w (suc from) n) depth 16 fits 4000

  store_fields_one-same : (v w : Value) (to : ℕ) (xs : List Value) → ValueSame sim v w → AllLive sim.live xs → SameAnswer sim (store_fields M v to xs) (store_fields N w to (renamed_all sim.name xs))
  unfolding store_fields
  store_fields_one-same v w to [] h k = search fields_same depth 16 fits 4000
  store_fields_one-same v w to (x ∷ xs) h k =
      let l : ValueSame sim x (renamed sim.name x) = record { live = k.0; is = refl } in
      then_unit-same sim _ _ _ _ _ _ (store_field-same v w to x _ h l) (store_fields_one-same v w (suc to) xs h k.1)

  store_fields-same : (v w : Value) (to : ℕ) (xs ys : List Value) → ValueSame sim v w → ValuesSame sim xs ys → SameAnswer sim (store_fields M v to xs) (store_fields N w to ys)
  store_fields-same v w to xs ys h k = rw k.is (store_fields_one-same v w to xs h k.live)

  pub transfer-same : (n : ℕ) (v w : Value) (from : ℕ) (x y : Value) (to : ℕ) → ValueSame sim v w → ValueSame sim x y → SameAnswer sim (transfer M n v from x to) (transfer N n w from y to)
  unfolding transfer
  transfer-same n v w from x y to h k = search (fields_same, fetch_fields-same, store_fields-same) depth 16 fits 4000

  pub fetch_word-same : (v w : Value) (i : ℕ) → ValueSame sim v w → SameAnswer sim (fetch_word M v i) (fetch_word N w i)
  unfolding fetch_word
  fetch_word-same v w i h = search fields_same depth 16 fits 4000

  pub store_word-same : (v w : Value) (i x : ℕ) → ValueSame sim v w → SameAnswer sim (store_word M v i x) (store_word N w i x)
  unfolding store_word
  store_word-same v w i x h = search fields_same depth 16 fits 4000

  pub fetch_byte-same : (v w : Value) (i : ℕ) → ValueSame sim v w → SameAnswer sim (fetch_byte M v i) (fetch_byte N w i)
  unfolding fetch_byte
  fetch_byte-same v w i h = search fields_same depth 16 fits 4000

  pub store_byte-same : (v w : Value) (i x : ℕ) → ValueSame sim v w → SameAnswer sim (store_byte M v i x) (store_byte N w i x)
  unfolding store_byte
  store_byte-same v w i x h = search fields_same depth 16 fits 4000

  pub fetch_kind-same : (v w : Value) → ValueSame sim v w → SameAnswer sim (fetch_kind M v) (fetch_kind N w)
  unfolding fetch_kind
  fetch_kind-same v w h = search fields_same depth 16 fits 4000

  size-renamed : (o : Object) → size_of (renamed_object sim.name o) ≡ size_of o
  size-renamed o = rw (length-renamed sim.name o.fields) refl

  pub fetch_size-same : (v w : Value) → ValueSame sim v w → SameAnswer sim (fetch_size M v) (fetch_size N w)
  unfolding fetch_size
  fetch_size-same v w h = then_object-same sim _ _ _ _ _ _ (object-same v w h) (λ o l. rw (size-renamed o) (answer_itself-same sim _))

  pub fetch_bytes-same : (v w : Value) (from n : ℕ) → ValueSame sim v w → SameAnswer sim (fetch_bytes M v from n) (fetch_bytes N w from n)
  unfolding fetch_bytes
  fetch_bytes-same v w from zero h = search fields_same depth 16 fits 4000
  fetch_bytes-same v w from (suc n) h = search (fields_same, fetch_byte-same, fetch_bytes-same v w (suc from) n) depth 16 fits 4000

  pub store_bytes-same : (v w : Value) (to : ℕ) (bs : List ℕ) → ValueSame sim v w → SameAnswer sim (store_bytes M v to bs) (store_bytes N w to bs)
  unfolding store_bytes
  store_bytes-same v w to [] h = search fields_same depth 16 fits 4000
  store_bytes-same v w to (b ∷ bs) h = search (fields_same, store_byte-same, store_bytes-same v w (suc to) bs) depth 16 fits 4000

  -- the stack

  put-same : (c d : Value) (at : ℕ) (x y : Value) → ValueSame sim c d → ValueSame sim x y → SameAnswer sim (put M c at x) (put N d at y)
  unfolding put
  put-same c d at x y h k = search fields_same depth 20 fits 4000

  pub push-same : (v w : Value) → ValueSame sim v w → SameAnswer sim (push M v) (push N w)
  unfolding push
  push-same v w h = search (fields_same, put-same) depth 20 fits 4000

  pub top-same : SameValue sim (top M) (top N)
  unfolding top
  top-same = search fields_same depth 16 fits 4000

  pub under-same : (k : ℕ) → SameValue sim (under M k) (under N k)
  unfolding under
  under-same k = search fields_same depth 16 fits 4000

  pub look_at_words-same : (n : ℕ) → SameAnswer sim (look_at_words M n) (look_at_words N n)
  unfolding look_at_words
  look_at_words-same n = search (fields_same, under-same, top-same) depth 16 fits 4000

  pub drop_words-same : (n : ℕ) → SameAnswer sim (drop_words n) (drop_words n)
  unfolding drop_words
  drop_words-same n = search fields_same depth 16 fits 4000

  pub pop-same : SameValue sim (pop M) (pop N)
  unfolding pop
  pop-same = search (fields_same, top-same) depth 16 fits 4000

  -- methods

  pub literal-same : (v w : Value) (i : ℕ) → ValueSame sim v w → SameValue sim (literal M v i) (literal N w i)
  unfolding literal
  literal-same v w i h = search fields_same depth 16 fits 4000

  pub fetch_method_field-same : (v w : Value) (i : ℕ) → ValueSame sim v w → SameValue sim (fetch_method_field M v i) (fetch_method_field N w i)
  unfolding fetch_method_field
  fetch_method_field-same v w i h = search fields_same depth 16 fits 4000

  pub store_method_field-same : (v w : Value) (i : ℕ) (x y : Value) → ValueSame sim v w → ValueSame sim x y → SameAnswer sim (store_method_field M v i x) (store_method_field N w i y)
  unfolding store_method_field
  store_method_field-same v w i x y h k = search fields_same depth 20 fits 4000

  byte_at-same : (v w : Value) (ip : ℤ) → ValueSame sim v w → SameAnswer sim (byte_at M v ip) (byte_at N w ip)
  unfolding byte_at
  byte_at-same v w ip h = search fields_same depth 16 fits 4000

  pub next_byte-same : SameAnswer sim (next_byte M) (next_byte N)
  unfolding next_byte
  next_byte-same = search (fields_same, byte_at-same) depth 24 fits 4000

  pub jump-same : (d : ℤ) → SameAnswer sim (jump d) (jump d)
  unfolding jump
  jump-same d = search fields_same depth 16 fits 4000

  pub ruleset parts_same = (fields_same, fetch_integer-same, transfer-same, fetch_word-same, store_word-same, fetch_byte-same, store_byte-same, fetch_kind-same, fetch_size-same, fetch_bytes-same, store_bytes-same, push-same, under-same, look_at_words-same, drop_words-same, top-same, pop-same, literal-same, fetch_method_field-same, store_method_field-same, next_byte-same, jump-same)
