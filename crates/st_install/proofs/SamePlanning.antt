-- What an installation makes and stores: over births the same as over a table that shows them.
use Rattle.std.proofs.Common.{◌≡◌, ℕ, List, [], ◌∷◌, Some, Bool, true, false, refl, sym, ap, subst, length}
use Rattle.std.specs.Prelude.{◌+◌}
use Rattle.st_model.specs.declared.dead.Dead.TheVariants as dead
use Rattle.st_model.specs.Values.{Value, Small, Ref, is_small, value_of}
use Rattle.st_model.specs.Machine.{Step, answer, ◌>>=◌}
use Rattle.st_model.specs.Steps.{or_die}
use Rattle.st_model.specs.Births.{Births, births}
use Rattle.st_model.specs.Table.{Table, table}
use Rattle.st_simulation.proofs.Same.{ValueNamed}
use Rattle.st_code.specs.Methods.{PartsView}
use Rattle.st_install.specs.Plans.{PlannedValue, Made, NewObject, Plan}
use Rattle.st_install.specs.Symbols.{Symbols, symbols_in, symbol_part}
use Rattle.st_install.specs.Literals.{PlacedAll, place_owner, place_literals}
use Rattle.st_install.specs.Shapes.{all_fit, check_size}
use Rattle.st_install.specs.Planning.{method_number, objects_with_method, grown_number, grown_if, sized, plan_objects, plan}
use Rattle.st_install.specs.inside.SamePlans.{renamed_part, renamed_objects, renamed_plan, IsLivePart, IsLivePlan}
use Rattle.st_install.specs.inside.Same.{HasHeader}
use Rattle.st_install.proofs.GoesPlans.{plan_with}
use Rattle.st_install.proofs.SameReads.{Shown, lives, name, Alike, ValueAlike, AlikeAnswer, then-alike, then_value-alike, then_answer-alike, then_unit-alike, answer-alike}
use Rattle.st_install.proofs.SameSteps.{reads_alike, fetch_field-alike, check-alike}
use Rattle.st_install.proofs.SameParts.{AllFormed, PartNamed, ObjectsNamed, StoresNamed, length-parts, length-objects, no_objects-named, append_objects-named, parts_named}
use Rattle.st_install.proofs.SameSymbols.{IsLiveSymbols, renamed_symbols, symbols-itself, symbols_for-alike, symbol_part-renamed, symbol_part-live}
use Rattle.st_install.proofs.SameLiterals.{IsLivePlacedAll, renamed_placed_all, all-itself, part_or_die-alike, place_owner-alike, place_literals-alike}
use Rattle.st_install.proofs.SamePlaces.{AlikeObjects, answer_objects-alike, grows_for-alike, grown_objects-alike}

-- a plan of what lives, whose objects have their forms
pub record PlanLive (live : ℕ → Type 0) (p : Plan) : Type 0 where
  pub is : IsLivePlan live p
  pub formed : AllFormed p.objects

pub record PlanNamed (live : ℕ → Type 0) (f : ℕ → ℕ) (p q : Plan) : Type 0 where
  pub objects : ObjectsNamed live f p.objects q.objects
  pub symbol_stores : StoresNamed live f p.symbol_stores q.symbol_stores
  pub selector : PartNamed live f p.selector q.selector
  pub method : PartNamed live f p.method q.method
  pub class : ValueNamed live f p.class q.class
  pub dictionary : ValueNamed live f p.dictionary q.dictionary
  pub grown : q.grown ≡ p.grown

small_if : (live : ℕ → Type 0) (f : ℕ → ℕ) (v : Value) → is_small v ≡ true → ValueNamed live f v v
small_if live f (Small n) e = record { live = tt; is = refl }
small_if live f (Ref n) e = cc

fits-renamed : (f : ℕ → ℕ) (os : List NewObject) → all_fit (renamed_objects f os) ≡ all_fit os
fits-renamed f [] = refl
fits-renamed f (o ∷ os) = rw (length-parts f o.fields, fits-renamed f os) refl

module _ (z : Shown) where
  abbrev pub AlikePlan : Step Births Plan → Step Table Plan → Type 0
  AlikePlan m n = Alike z (PlanLive (lives z)) (renamed_plan (name z)) m n

  answer_plan-alike : (p q : Plan) → PlanNamed (lives z) (name z) p q → AlikePlan (answer p) (answer q)
  answer_plan-alike p q h =
      answer-alike z _ _ p q
      (record {
        is = record { objects = h.objects.live; symbol_stores = h.symbol_stores.live; selector = h.selector.live; method = h.method.live; class = h.class.live; dictionary = h.dictionary.live };
        formed = h.objects.formed;
      })
      (λ i. record { objects = h.objects.is i; symbol_stores = h.symbol_stores.is i; selector = h.selector.is i; method = h.method.is i; class = h.class.is i; dictionary = h.dictionary.is i; grown = h.grown i })

  check_size-alike : (os : List NewObject) → AlikeAnswer z (check_size os) (check_size (renamed_objects (name z) os))
  unfolding check_size
  check_size-alike os = check-alike z _ _ _ (fits-renamed (name z) os)

  sized-alike : (p q : Plan) → PlanNamed (lives z) (name z) p q → AlikePlan (sized p) (sized q)
  unfolding sized
  sized-alike p q h =
      then_unit-alike z _ _ _ _ _ _
      (subst (λ (os : List NewObject). AlikeAnswer z (check_size p.objects) (check_size os)) (sym h.objects.is) (check_size-alike p.objects))
      (answer_plan-alike p q h)

  grown_if-alike : (v w : Value) (next : ℕ) (b : Bool) → ValueAlike z v w → AlikeObjects z (grown_if births v next b) (grown_if table w next b)
  unfolding grown_if
  grown_if-alike v w next true h = grown_objects-alike z v w next h
  grown_if-alike v w next false h = answer_objects-alike z [] [] (no_objects-named (lives z) (name z))

  module _ (v w : Value) (parts : PartsView) (h : ValueAlike z v w) (s : Symbols) (l : PlacedAll) (k : IsLiveSymbols (lives z) s) (j : IsLivePlacedAll (lives z) l) where
    number-same : method_number (renamed_symbols (name z) s) (renamed_placed_all (name z) l) ≡ method_number s l
    number-same = rw (length-objects (name z) s.objects, length-objects (name z) l.objects) refl

    grown-same : (b : Bool) → grown_number b (renamed_symbols (name z) s) (renamed_placed_all (name z) l) ≡ grown_number b s l
    grown-same true = ap (λ n. Some (n + 1)) number-same
    grown-same false = refl

    -- a header that is a SmallInteger names nothing
    header-same : HasHeader parts → ValueAlike z (value_of parts.header) (value_of parts.header)
    header-same e = small_if (lives z) (name z) (value_of parts.header) e

    objects-same : (c d : Value) → HasHeader parts → ValueAlike z c d
        → ObjectsNamed (lives z) (name z) (objects_with_method c parts s l) (objects_with_method d parts (renamed_symbols (name z) s) (renamed_placed_all (name z) l))
    objects-same c d e q =
        let a = (symbols-itself (lives z) (name z) s k).objects in
        let b = all-itself (lives z) (name z) l j in
        let p = b.parts in
        let o = b.objects in
        let x = header-same e in
        search parts_named depth 16 fits 4000

    planned-same : (x y : Value) (grown grown' : List NewObject) (grows : Bool) (p q : PlannedValue) (c d : Value) → HasHeader parts → ValueAlike z x y → ObjectsNamed (lives z) (name z) grown grown'
        → PartNamed (lives z) (name z) p q → ValueAlike z c d
        → PlanNamed (lives z) (name z)
        (plan_with c v x parts s l p grows grown) (plan_with d w y parts (renamed_symbols (name z) s) (renamed_placed_all (name z) l) q grows grown')
    planned-same x y grown grown' grows p q c d e hd hg hp hc = record {
      objects = append_objects-named (lives z) (name z) _ _ _ _ (objects-same c d e hc) hg;
      symbol_stores = (symbols-itself (lives z) (name z) s k).stores;
      selector = hp;
      method = record { live = tt; is = ap (λ n. Made n) number-same };
      class = h;
      dictionary = hd;
      grown = grown-same grows;
    }

    grown_next-alike : (x y : Value) (grows : Bool) → ValueAlike z x y
        → AlikeObjects z (grown_if births x (method_number s l + 1) grows) (grown_if table y (method_number (renamed_symbols (name z) s) (renamed_placed_all (name z) l) + 1) grows)
    grown_next-alike x y grows q = rw number-same (grown_if-alike x y (method_number s l + 1) grows q)

    pub plan_objects-alike : (p : PlannedValue) → HasHeader parts → IsLivePart (lives z) p
        → AlikePlan (plan_objects births v parts s l p) (plan_objects table w parts (renamed_symbols (name z) s) (renamed_placed_all (name z) l) (renamed_part (name z) p))
    unfolding plan_objects
    plan_objects-alike p e hp =
        then_value-alike z _ _ _ _ _ _ (fetch_field-alike z v w 1 h)
        (λ x y hx.
        then_answer-alike z _ _ _ _ _ _ (grows_for-alike z x y p hx hp)
        (λ grows.
        then-alike z _ _ _ _ _ _ _ _ (grown_next-alike x y grows hx)
        (λ grown hg.
        then_value-alike z _ _ _ _ _ _ (search reads_alike)
        (λ c d hc.
        sized-alike _ _
        (planned-same x y grown (renamed_objects (name z) grown) grows p (renamed_part (name z) p) c d e hx (record { live = hg.0; formed = hg.1; is = refl }) (record { live = hp; is = refl }) hc)))))

  with_literals-alike : (v w : Value) (parts : PartsView) (s : Symbols) → ValueAlike z v w → HasHeader parts → IsLiveSymbols (lives z) s
      → (m : Step Births PlacedAll) (n : Step Table PlacedAll) → Alike z (IsLivePlacedAll (lives z)) (renamed_placed_all (name z)) m n
      → AlikePlan (m >>= (λ l. or_die dead.Field (symbol_part s.named parts.selector) >>= (λ p. plan_objects births v parts s l p)))
      (n >>= (λ l. or_die dead.Field (symbol_part (renamed_symbols (name z) s).named parts.selector) >>= (λ p. plan_objects table w parts (renamed_symbols (name z) s) l p)))
  with_literals-alike v w parts s h e k m n a =
      then-alike z _ _ _ _ _ _ _ _ a
      (λ l j. then-alike z _ _ _ _ _ _ _ _ (part_or_die-alike z dead.Field _ _ (symbol_part-live (lives z) (name z) s.named parts.selector k.named) (symbol_part-renamed (lives z) (name z) s.named parts.selector))
      (λ p hp. plan_objects-alike v w parts h s l k j p e hp))

  literals_of-alike : (v w x y : Value) (meta : Bool) (parts : PartsView) (s : Symbols) → ValueAlike z v w → ValueAlike z x y → IsLiveSymbols (lives z) s
      → Alike z (IsLivePlacedAll (lives z)) (renamed_placed_all (name z))
      (place_literals births s.named (place_owner births x v meta) (length s.objects) parts.literals)
      (place_literals table (renamed_symbols (name z) s).named (place_owner table y w meta) (length (renamed_symbols (name z) s).objects) parts.literals)
  literals_of-alike v w x y meta parts s h j k =
      rw (length-objects (name z) s.objects)
      (place_literals-alike z s.named k.named _ _ (λ next. place_owner-alike z x y v w meta next j h) (length s.objects) parts.literals)

  pub plan-alike : (t u x y v w : Value) (meta : Bool) (parts : PartsView) → ValueAlike z t u → ValueAlike z x y → ValueAlike z v w → HasHeader parts
      → AlikePlan (plan births t x v meta parts) (plan table u y w meta parts)
  unfolding plan
  plan-alike t u x y v w meta parts ht hx hv e =
      then-alike z _ _ _ _ _ _ _ _ (symbols_for-alike z t u (parts.selector ∷ symbols_in parts.literals) ht)
      (λ s k. with_literals-alike v w parts s hv e k _ _ (literals_of-alike v w x y meta parts s hv hx k))
