-- The stores of an installation, one after the other.
use Rattle.std.proofs.Common.{◌≡◌, ◌≢◌, ℕ, ◌<◌, ◌≤◌, ◌+◌, List, ◌∷◌, length, drop, Bool, true, false, Option, Some, None, Result, Ok, refl, sym, ap, ◌∙◌, arith, ◌⊎◌, inl, inr}
use Rattle.std.specs.Prelude.{◌==◌, ◌/◌, ◌%◌, if◌then◌else◌, slice_index_or, get_or, IsOk, IsSome}
use Rattle.std.proofs.lemmas.Bool.Decides.{nat_tests}
use Rattle.std.proofs.lemmas.Grind.{common_steps}
use Rattle.st_model.specs.declared.dead.Dead.{Dead}
use Rattle.st_model.specs.declared.oop.Oop.{Oop}
use Rattle.st_model.specs.Values.{Value, Small, Ref, value, value_of, is_small}
use Rattle.st_model.specs.Objects.{nil}
use Rattle.st_model.specs.Machine.{Step, answer, die, ◌>>=◌, ◌>>◌}
use Rattle.st_model.specs.Steps.{fetch_field, store_field}
use Rattle.st_model.specs.Table.{Table, table}
use Rattle.st_model.specs.inside.Calls.{Reads}
use Rattle.st_model.specs.View.{View}
use Rattle.st_model.proofs.Runs.{run-then, after-went}
use Rattle.st_model.proofs.Words.{is_small-value_of}
use Rattle.st_install.specs.declared.places.DictionaryPlace.{DictionaryPlace}
use Rattle.st_install.specs.declared.plan.SymbolStore.{SymbolStore}
use Rattle.st_install.specs.Plans.{Plan}
use Rattle.st_install.specs.inside.Carried.{Goes, Becomes}
use Rattle.st_install.specs.Dictionaries.{Ending, Holds, Vacant, Nowhere, seek, place_of_selector, put_method, refill, raised_tally}
use Rattle.st_install.specs.inside.Endings.{ending_of}
use Rattle.st_install.specs.Installing.{part_value, store_all, target, Placing, find_place, adopt, add_at, store_planned}
use Rattle.st_install.specs.inside.Placings.{placing_of}
use Rattle.st_install.specs.inside.Readies.{part_of, stores_of}
use Rattle.st_install.proofs.Going.{goes-first, goes-after, goes-read, goes-then, becomes-after, becomes-then, becomes-answer, state_of}
use Rattle.st_install.proofs.Filled.{drop_next, drop_past}
use Rattle.st_install.proofs.Refills.{read_ok}

-- THE SYMBOL TABLE

module _ (vs : List Value) (ss : List SymbolStore) where
  abbrev pub stores_from : ℕ → Step Table Unit
  stores_from i = store_all table nil vs (stores_of (drop i ss))

  abbrev pub one_store : SymbolStore → Step Table Unit
  one_store s = store_field table (part_value nil vs (part_of s.object)) s.field (part_value nil vs (part_of s.value))

  first_store : (s : SymbolStore) (rest : List SymbolStore) → store_all table nil vs (stores_of (s ∷ rest)) ≡ (one_store s >> store_all table nil vs (stores_of rest))
  unfolding store_all
  first_store s rest = refl

  pub stores_turn : (i : ℕ) (d : SymbolStore) → i < length ss → stores_from i ≡ (one_store (slice_index_or ss i d) >> stores_from (i + 1))
  stores_turn i d l = ap (λ (rs : List SymbolStore). store_all table nil vs (stores_of rs)) (drop_next ss i d l) ∙ first_store (slice_index_or ss i d) (drop (i + 1) ss)

  pub stores_end : (i : ℕ) → length ss ≤ i → stores_from i ≡ answer tt
  unfolding store_all
  stores_end i l = ap (λ (rs : List SymbolStore). store_all table nil vs (stores_of rs)) (drop_past ss i l)

-- THE DICTIONARY

module _ (vs : List Value) (old : Value) (v : View) where
  pub target_old : Becomes (target table nil vs old None) v old v
  unfolding target
  target_old = becomes-answer old v

  module _ (k : ℕ) where
    abbrev new_one : Value
    new_one = get_or vs k nil

    pub target_refills : Goes (target table nil vs old (Some k)) v → Goes (refill table old (get_or vs k nil)) v
    unfolding target
    target_refills h = goes-first (refill table old new_one) (λ a. answer new_one) v (goes-then (refill table old new_one) (answer new_one) v h)

    pub target_new : (w : View) → Becomes (refill table old (get_or vs k nil)) v tt w → Becomes (target table nil vs old (Some k)) v (get_or vs k nil) w
    unfolding target
    target_new w b =
        becomes-then (refill table old new_one) (answer new_one) v new_one w
        (becomes-after (refill table old new_one) (λ a. answer new_one) v new_one w tt w b (becomes-answer new_one w))

-- THE PLACE

module _ (d s : Oop) (v : View) (h : Goes (find_place table (value d) (value s)) v) where
  abbrev placed_at : Value → Value → Ending → Step Table Placing
  placed_at ms y end = answer (record { dictionary = value d; methods = ms; tally = y; end = end })

  abbrev tally_then : Value → Value → Step Table Placing
  tally_then ms y = place_of_selector table (value d) (value s) >>= placed_at ms y

  abbrev methods_then : Value → Step Table Placing
  methods_then ms = fetch_field table (value d) 0 >>= tally_then ms

  begun : Goes (fetch_field table (value d) 1 >>= methods_then) v
  unfolding find_place
  begun = h

  pub methods_go : Goes (fetch_field table (value d) 1) v
  methods_go = goes-first (fetch_field table (value d) 1) methods_then v begun

  module _ (ms : Oop) (e : Reads (fetch_field table (value d) 1) value v.objects (Ok ms)) where
    after_methods : Goes (methods_then (value ms)) v
    after_methods = goes-read (fetch_field table (value d) 1) methods_then v begun value ms e

    pub tally_goes : Goes (fetch_field table (value d) 0) v
    tally_goes = goes-first (fetch_field table (value d) 0) (tally_then (value ms)) v after_methods

    module _ (y : Oop) (f : Reads (fetch_field table (value d) 0) value v.objects (Ok y)) where
      after_tally : Goes (tally_then (value ms) (value y)) v
      after_tally = goes-read (fetch_field table (value d) 0) (tally_then (value ms)) v after_methods value y f

      sought : (r : Result (Option DictionaryPlace) Dead) → Reads (seek table (value d) (value s) (value s)) ending_of v.objects r → Reads (place_of_selector table (value d) (value s)) ending_of v.objects r
      unfolding place_of_selector
      sought r q = q

      pub place_goes : (r : Result (Option DictionaryPlace) Dead) → Reads (seek table (value d) (value s) (value s)) ending_of v.objects r → IsOk r
      place_goes r q = read_ok (place_of_selector table (value d) (value s)) ending_of v r (goes-first (place_of_selector table (value d) (value s)) (placed_at (value ms) (value y)) v after_tally) (sought r q)

      pub place_read : (p : Option DictionaryPlace) → Reads (seek table (value d) (value s) (value s)) ending_of v.objects (Ok p)
          → Reads (find_place table (value d) (value s)) placing_of v.objects (Ok (record { dictionary = d; methods = ms; tally = y; place = p }))
      unfolding find_place answer
      place_read p q z a = simp (run-then, after-went, e z a, f z a, sought (Ok p) q z a) refl

-- THE METHOD

module _ (p : Placing) (s meth : Value) (v : View) where
  pub add_nowhere : Goes (add_at table p s meth Nowhere) v → ⊥
  unfolding add_at die
  add_nowhere h = h.gone (state_of v) refl refl

  pub add_somewhere : (q : Option DictionaryPlace) → Goes (add_at table p s meth (ending_of q)) v → IsSome q
  add_somewhere None h = absurd (add_nowhere h)
  add_somewhere (Some q) h = refl

  pub replaces : (k : ℕ) → add_at table p s meth (Holds k) ≡ store_field table p.methods k meth
  unfolding add_at
  replaces k = refl

  module _ (k : ℕ) where
    abbrev put_first : Step Table Unit
    put_first = put_method table p.dictionary p.methods k s meth

    abbrev tally_next : Step Table Unit
    tally_next = store_field table p.dictionary 0 (raised_tally p.tally)

    pub adds_method : Goes (add_at table p s meth (Vacant k)) v → Goes (put_method table p.dictionary p.methods k s meth) v
    unfolding add_at
    adds_method h = goes-first put_first (λ a. tally_next) v (goes-then put_first tally_next v h)

    pub adds_tally : Goes (add_at table p s meth (Vacant k)) v → (w : View) → Becomes (put_method table p.dictionary p.methods k s meth) v tt w → Goes (store_field table p.dictionary 0 (raised_tally p.tally)) w
    unfolding add_at
    adds_tally h w b = goes-after put_first (λ a. tally_next) v (goes-then put_first tally_next v h) tt w b

    pub added : (w u : View) → Becomes (put_method table p.dictionary p.methods k s meth) v tt w → Becomes (store_field table p.dictionary 0 (raised_tally p.tally)) w tt u → Becomes (add_at table p s meth (Vacant k)) v tt u
    unfolding add_at
    added w u b c = becomes-then put_first tally_next v tt u (becomes-after put_first (λ a. tally_next) v tt u tt w b c)

-- TALLIES

raised_if : (w : ℕ) (b : Bool) → (w % 2 == 1) ≡ b → b ≡ true → w ≢ 32767
    → (if (w + 2) % 65536 % 2 == 1 then Small ((w + 2) % 65536 / 2) else Ref ((w + 2) % 65536 / 2)) ≡ raised_tally (if b then Small (w / 2) else Ref (w / 2))
raised_if w true e t n =
    let odd : w % 2 ≡ 1 = grind (arith, nat_tests) in
    let a : ((w + 2) % 65536 % 2 == 1) ≡ true = grind (arith, nat_tests) in
    let b : (w / 2 == 16383) ≡ false = grind (arith, nat_tests) in
    let c : (w + 2) % 65536 / 2 ≡ (w / 2 + 1) % 32768 = grind (arith, common_steps) in
    rw (a, b, c) refl
raised_if w false e t n = cc

pub raised : (w : ℕ) → is_small (value_of w) ≡ true → w ≢ 32767 → value_of ((w + 2) % 65536) ≡ raised_tally (value_of w)
unfolding value_of
raised w e n = raised_if w (w % 2 == 1) refl (sym (is_small-value_of w) ∙ e) n

stays_if : (w : ℕ) (b : Bool) → (b ≡ false) ⊎ (w ≡ 32767) → (if b then Small (w / 2) else Ref (w / 2)) ≡ raised_tally (if b then Small (w / 2) else Ref (w / 2))
stays_if w false h = refl
stays_if w true (inl e) = cc
stays_if w true (inr e) = let b : (w / 2 == 16383) ≡ true = grind (arith, nat_tests) in rw b refl

pub stays_other : (w : ℕ) → is_small (value_of w) ≡ false → value_of w ≡ raised_tally (value_of w)
unfolding value_of
stays_other w e = stays_if w (w % 2 == 1) (inl (sym (is_small-value_of w) ∙ e))

pub stays_most : (w : ℕ) → w ≡ 32767 → value_of w ≡ raised_tally (value_of w)
unfolding value_of
stays_most w e = stays_if w (w % 2 == 1) (inr e)

-- ALL STORES

module _ (class dictionary : Value) (v : View) where
  pub adopts_none : Becomes (adopt table class dictionary None) v tt v
  unfolding adopt
  adopts_none = becomes-answer tt v

  pub adopts : (k : ℕ) → adopt table class dictionary (Some k) ≡ store_field table class 1 dictionary
  unfolding adopt
  adopts k = refl

module _ (vs : List Value) (p : Plan) (placing : Placing) (v : View) (h : Goes (store_planned table nil vs p placing) v) where
  abbrev symbols_stored : Step Table Unit
  symbols_stored = store_all table nil vs p.symbol_stores

  abbrev adopted : Step Table Unit
  adopted = adopt table p.class placing.dictionary p.grown

  abbrev method_added : Step Table Unit
  method_added = add_at table placing (part_value nil vs p.selector) (part_value nil vs p.method) placing.end

  abbrev then_added : Step Table Unit
  then_added = adopted >> method_added

  planned : Goes (symbols_stored >>= (λ a. then_added)) v
  unfolding store_planned
  planned = goes-then symbols_stored then_added v h

  pub planned_first : Goes (store_all table nil vs p.symbol_stores) v
  planned_first = goes-first symbols_stored (λ a. then_added) v planned

  module _ (w : View) (b : Becomes (store_all table nil vs p.symbol_stores) v tt w) where
    rest : Goes (adopted >>= (λ a. method_added)) w
    rest = goes-then adopted method_added w (goes-after symbols_stored (λ a. then_added) v planned tt w b)

    pub planned_second : Goes (adopt table p.class placing.dictionary p.grown) w
    planned_second = goes-first adopted (λ a. method_added) w rest

    module _ (u : View) (c : Becomes (adopt table p.class placing.dictionary p.grown) w tt u) where
      pub planned_third : Goes (add_at table placing (part_value nil vs p.selector) (part_value nil vs p.method) placing.end) u
      planned_third = goes-after adopted (λ a. method_added) w rest tt u c

      pub planned_all : (x : View) → Becomes (add_at table placing (part_value nil vs p.selector) (part_value nil vs p.method) placing.end) u tt x → Becomes (store_planned table nil vs p placing) v tt x
      unfolding store_planned
      planned_all x d =
          becomes-then symbols_stored then_added v tt x
          (becomes-after symbols_stored (λ a. then_added) v tt x tt w b (becomes-then adopted method_added w tt x (becomes-after adopted (λ a. method_added) w tt x tt u c d)))
