-- A grown dictionary takes over what stood in the one before it, selector by selector.
use Rattle.std.proofs.Common.{◌≡◌, ◌≢◌, ℕ, suc, ◌<◌, ◌≤◌, ◌+◌, ◌-◌, Bool, true, false, Option, Some, None, Result, Ok, Err, refl, sym, ap, ◌∙◌, subst, arith}
use Rattle.std.specs.Prelude.{◌==◌, IsOk, IsSome}
use Rattle.std.proofs.lemmas.Bool.Decides.{nat_tests}
use Rattle.st_model.specs.declared.dead.Dead.{Dead}
use Rattle.st_model.specs.declared.oop.Oop.{Oop}
use Rattle.st_model.specs.declared.page.PageObject.TheVariants.{NilObject}
use Rattle.st_model.specs.Values.{Value, value}
use Rattle.st_model.specs.Machine.{Went, Step, answer, die, ◌>>=◌, ◌>>◌}
use Rattle.st_model.specs.Steps.{of_page, same_value, fetch_field, store_field}
use Rattle.st_model.specs.Table.{Table, table}
use Rattle.st_model.specs.inside.Calls.{Reads, itself}
use Rattle.st_model.specs.View.{View}
use Rattle.st_model.proofs.Runs.{run-of_page}
use Rattle.st_model.proofs.Words.{same_words, value_of-nil}
use Rattle.st_install.specs.declared.places.DictionaryPlace.{DictionaryPlace}
use Rattle.st_install.specs.inside.Carried.{HasGone, Goes, Becomes}
use Rattle.st_install.specs.Dictionaries.{Ending, Holds, Vacant, Nowhere, count_places, seek, put_method, put_at, refill_unless, refill_from, refill_among, refill}
use Rattle.st_install.specs.inside.Endings.{ending_of}
use Rattle.st_install.proofs.Going.{goes-first, goes-after, goes-read, goes-then, becomes-after, becomes-read, becomes-then, becomes-answer, state_of}

-- a step that goes answers, and doesn't die
pub read_ok : {A R : Type 0} (m : Step Table A) (f : R → A) (v : View) (r : Result R Dead) → Goes m v → Reads m f v.objects r → IsOk r
read_ok m f v (Ok x) h e = refl
read_ok m f v (Err k) h e = absurd (subst HasGone (e (state_of v) refl) (h.gone (state_of v) refl refl))

-- A PLACE

module _ (d ms : Value) (k : ℕ) (s meth : Value) (v : View) (h : Goes (put_method table d ms k s meth) v) where
  abbrev first_store : Step Table Unit
  first_store = store_field table d (2 + k) s

  abbrev second_store : Step Table Unit
  second_store = store_field table ms k meth

  stores : Goes (first_store >>= (λ a. second_store)) v
  unfolding put_method
  stores = goes-then first_store second_store v h

  pub put_first : Goes (store_field table d (2 + k) s) v
  put_first = goes-first first_store (λ a. second_store) v stores

  module _ (w : View) (c : Becomes (store_field table d (2 + k) s) v tt w) where
    pub put_second : Goes (store_field table ms k meth) w
    put_second = goes-after first_store (λ a. second_store) v stores tt w c

    pub put_both : (u : View) → Becomes (store_field table ms k meth) w tt u → Becomes (put_method table d ms k s meth) v tt u
    unfolding put_method
    put_both u b = becomes-then first_store second_store v tt u (becomes-after first_store (λ a. second_store) v tt u tt w c b)

-- the place at which a search ended
module _ (d s meth : Value) (v : View) where
  pub put_nowhere : Goes (put_at table d s meth Nowhere) v → ⊥
  unfolding put_at die
  put_nowhere h = h.gone (state_of v) refl refl

  pub put_vacant : (k : ℕ) → Goes (put_at table d s meth (Vacant k)) v → ⊥
  unfolding put_at die
  put_vacant k h = h.gone (state_of v) refl refl

  pub put_somewhere : (p : Option DictionaryPlace) → Goes (put_at table d s meth (ending_of p)) v → IsSome p
  put_somewhere None h = absurd (put_nowhere h)
  put_somewhere (Some p) h = refl

  module _ (k : ℕ) (h : Goes (put_at table d s meth (Holds k)) v) where
    abbrev methods_then : Value → Step Table Unit
    methods_then ms = put_method table d ms k s meth

    pub methods_there : Goes (fetch_field table d 1) v
    unfolding put_at
    methods_there = goes-first (fetch_field table d 1) methods_then v h

    module _ (ms : Oop) (e : Reads (fetch_field table d 1) value v.objects (Ok ms)) where
      pub held_goes : Goes (put_method table d (value ms) k s meth) v
      unfolding put_at
      held_goes = goes-read (fetch_field table d 1) methods_then v h value ms e

      pub held_put : (w : View) → Becomes (put_method table d (value ms) k s meth) v tt w → Becomes (put_at table d s meth (Holds k)) v tt w
      unfolding put_at
      held_put w b = becomes-read (fetch_field table d 1) methods_then v tt w value ms e b

-- ONE SELECTOR

page_read : (t : Table) → Reads (of_page table NilObject) value t (Ok (record { 0 = 2 }))
page_read t s e = run-of_page NilObject s ∙ ap (λ x. Went x s) (sym value_of-nil)

module _ (old new : Value) (k : ℕ) (s : Value) (v : View) (h : Goes (refill_unless table old new k s false) v) where
  abbrev ending_then : Value → Ending → Step Table Unit
  ending_then meth end = put_at table new s meth end

  abbrev nil_then : Value → Value → Step Table Unit
  nil_then meth x = seek table new x s >>= ending_then meth

  abbrev method_then : Value → Step Table Unit
  method_then meth = of_page table NilObject >>= nil_then meth

  abbrev array_then : Value → Step Table Unit
  array_then ms = fetch_field table ms k >>= method_then

  begun : Goes (fetch_field table old 1 >>= array_then) v
  unfolding refill_unless
  begun = h

  pub array_there : Goes (fetch_field table old 1) v
  array_there = goes-first (fetch_field table old 1) array_then v begun

  module _ (ms : Oop) (e : Reads (fetch_field table old 1) value v.objects (Ok ms)) where
    after_array : Goes (array_then (value ms)) v
    after_array = goes-read (fetch_field table old 1) array_then v begun value ms e

    pub method_there : Goes (fetch_field table (value ms) k) v
    method_there = goes-first (fetch_field table (value ms) k) method_then v after_array

    module _ (meth : Oop) (f : Reads (fetch_field table (value ms) k) value v.objects (Ok meth)) where
      after_nil : Goes (nil_then (value meth) (value (record { 0 = 2 }))) v
      after_nil = goes-read (of_page table NilObject) (nil_then (value meth)) v (goes-read (fetch_field table (value ms) k) method_then v after_array value meth f) value (record { 0 = 2 }) (page_read v.objects)

      pub place_found : (r : Result (Option DictionaryPlace) Dead) → Reads (seek table new (value (record { 0 = 2 })) s) ending_of v.objects r → IsOk r
      place_found r q = read_ok (seek table new (value (record { 0 = 2 })) s) ending_of v r (goes-first (seek table new (value (record { 0 = 2 })) s) (ending_then (value meth)) v after_nil) q

      module _ (p : Option DictionaryPlace) (q : Reads (seek table new (value (record { 0 = 2 })) s) ending_of v.objects (Ok p)) where
        pub put_goes : Goes (put_at table new s (value meth) (ending_of p)) v
        put_goes = goes-read (seek table new (value (record { 0 = 2 })) s) (ending_then (value meth)) v after_nil ending_of p q

        pub carried : (w : View) → Becomes (put_at table new s (value meth) (ending_of p)) v tt w → Becomes (refill_unless table old new k s false) v tt w
        unfolding refill_unless
        carried w b =
            becomes-read (fetch_field table old 1) array_then v tt w value ms e
            (becomes-read (fetch_field table (value ms) k) method_then v tt w value meth f
            (becomes-read (of_page table NilObject) (nil_then (value meth)) v tt w value (record { 0 = 2 }) (page_read v.objects)
            (becomes-read (seek table new (value (record { 0 = 2 })) s) (ending_then (value meth)) v tt w ending_of p q b)))

-- what stands at a place
module _ (old new : Value) (k : ℕ) (v : View) (h : Goes (refill_from table old new k) v) where
  abbrev unless_nil : Value → Value → Step Table Unit
  unless_nil s x = refill_unless table old new k s (same_value s x)

  abbrev selector_then : Value → Step Table Unit
  selector_then s = of_page table NilObject >>= unless_nil s

  seen : Goes (fetch_field table old (2 + k) >>= selector_then) v
  unfolding refill_from
  seen = h

  pub selector_there : Goes (fetch_field table old (2 + k)) v
  selector_there = goes-first (fetch_field table old (2 + k)) selector_then v seen

  module _ (s : Oop) (e : Reads (fetch_field table old (2 + k)) value v.objects (Ok s)) where
    unless_goes : Goes (unless_nil (value s) (value (record { 0 = 2 }))) v
    unless_goes = goes-read (of_page table NilObject) (unless_nil (value s)) v (goes-read (fetch_field table old (2 + k)) selector_then v seen value s e) value (record { 0 = 2 }) (page_read v.objects)

    unless_done : (w : View) → Becomes (unless_nil (value s) (value (record { 0 = 2 }))) v tt w → Becomes (refill_from table old new k) v tt w
    unfolding refill_from
    unless_done w b =
        becomes-read (fetch_field table old (2 + k)) selector_then v tt w value s e
        (becomes-read (of_page table NilObject) (unless_nil (value s)) v tt w value (record { 0 = 2 }) (page_read v.objects) b)

    nil_test : (b : Bool) → (s.0 == 2) ≡ b → unless_nil (value s) (value (record { 0 = 2 })) ≡ refill_unless table old new k (value s) b
    nil_test b q = ap (refill_unless table old new k (value s)) (sym (same_words s.0 2) ∙ q)

    other_is : s.0 ≢ 2 → (s.0 == 2) ≡ false
    other_is n = grind (arith, nat_tests)

    nil_is : s.0 ≡ 2 → (s.0 == 2) ≡ true
    nil_is n = grind (arith, nat_tests)

    pub carry_goes : s.0 ≢ 2 → Goes (refill_unless table old new k (value s) false) v
    carry_goes n = subst (λ (m : Step Table Unit). Goes m v) (nil_test false (other_is n)) unless_goes

    pub place_carried : s.0 ≢ 2 → (w : View) → Becomes (refill_unless table old new k (value s) false) v tt w → Becomes (refill_from table old new k) v tt w
    place_carried n w b = unless_done w (subst (λ (m : Step Table Unit). Becomes m v tt w) (sym (nil_test false (other_is n))) b)

    pub place_empty : s.0 ≡ 2 → Becomes (refill_from table old new k) v tt v
    unfolding refill_unless
    place_empty n = unless_done v (subst (λ (m : Step Table Unit). Becomes m v tt v) (sym (nil_test true (nil_is n))) (becomes-answer tt v))

-- ALL PLACES

module _ (old new : Value) where
  among_turn : (k left : ℕ) → refill_among table old new k (suc left) ≡ (refill_from table old new k >> refill_among table old new (suc k) left)
  unfolding refill_among
  among_turn k left = refl

  abbrev pub places_from : ℕ → ℕ → Step Table Unit
  places_from n k = refill_among table old new k (n - k)

  pub places_turn : (n k : ℕ) → k < n → places_from n k ≡ (refill_from table old new k >> places_from n (k + 1))
  places_turn n k l =
      let e : n - k ≡ suc (n - (k + 1)) = omega (arith, l) in
      let f : suc k ≡ k + 1 = omega arith in
      ap (refill_among table old new k) e ∙ (among_turn k (n - (k + 1)) ∙ ap (λ j. refill_from table old new k >> refill_among table old new j (n - (k + 1))) f)

  pub places_end : (n k : ℕ) → n ≤ k → places_from n k ≡ answer tt
  unfolding refill_among
  places_end n k l = let e : n - k ≡ 0 = omega (arith, l) in ap (refill_among table old new k) e

  module _ (v : View) (h : Goes (refill table old new) v) where
    abbrev all_then : ℕ → Step Table Unit
    all_then n = refill_among table old new 0 n

    counted : Goes (count_places table old >>= all_then) v
    unfolding refill
    counted = h

    pub places_counted : (r : Result ℕ Dead) → Reads (count_places table old) itself v.objects r → IsOk r
    places_counted r q = read_ok (count_places table old) itself v r (goes-first (count_places table old) all_then v counted) q

    module _ (n : ℕ) (q : Reads (count_places table old) itself v.objects (Ok n)) where
      from_first : refill_among table old new 0 n ≡ places_from n 0
      from_first = let e : n ≡ n - 0 = omega arith in ap (refill_among table old new 0) e

      pub places_go : Goes (places_from n 0) v
      places_go = subst (λ (m : Step Table Unit). Goes m v) from_first (goes-read (count_places table old) all_then v counted itself n q)

      pub refilled : (w : View) → Becomes (places_from n 0) v tt w → Becomes (refill table old new) v tt w
      unfolding refill
      refilled w b = becomes-read (count_places table old) all_then v tt w itself n q (subst (λ (m : Step Table Unit). Becomes m v tt w) (sym from_first) b)
