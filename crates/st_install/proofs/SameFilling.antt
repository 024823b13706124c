-- What is made and stored for a plan: over births the same as over pointers.
use Rattle.std.proofs.Common.{◌≡◌, ℕ, List, [], ◌∷◌, zero, suc, Option, Some, None, Bool, true, false, refl, sym, length}
use Rattle.std.specs.Prelude.{get_or, if◌then◌else◌}
use Rattle.st_model.specs.declared.kind.Kind.{Kind}
use Rattle.st_model.specs.declared.kind.Kind.TheVariants as kind
use Rattle.st_model.specs.Values.{Value, Small, Ref, renamed, renamed_all, IsLive, AllLive}
use Rattle.st_model.specs.Machine.{ObjectMemory, Step, answer}
use Rattle.st_model.specs.Steps.{store_fields}
use Rattle.st_simulation.proofs.Same.{Simulation, ValueSame, ValuesSame, Same, SameValue, SameValues, SameAnswer, length-renamed, then-same, then_value-same, then_values-same, then_unit-same, answer-same, answer_values-same, values-named, steps_same}
use Rattle.st_simulation.proofs.StepsSame.{make-same, parts_same}
use Rattle.st_simulation.proofs.LookupSame.{half_word-same}
use Rattle.st_install.specs.Plans.{PlannedValue, There, Made, NewObject, FieldStore, Plan}
use Rattle.st_install.specs.Dictionaries.{Ending, Holds, Vacant, Nowhere, ends_at, seek_at, seek_among, seek_from, count_places, seek, place_of_selector, put_method, put_at, refill_unless, refill_from, refill_among, refill, raised_tally}
use Rattle.st_install.specs.Installing.{size_by, literals_by, make_new, make_all, part_value, part_values, store_method_fields, fill_method, fill_by, fill_all, store_all, Placing, target, find_place, adopt, add_at, store_planned, fill_and_store, install}
use Rattle.st_install.specs.inside.SamePlans.{renamed_part, renamed_parts, renamed_new, renamed_objects, renamed_stores, renamed_plan, IsLivePart, AllLiveParts, IsLiveNew, AllLiveObjects, AllLiveStores, IsLivePlan}
use Rattle.st_install.proofs.SameParts.{length-parts}

size-renamed : (f : ℕ → ℕ) (k : Kind) (o : NewObject) → size_by k (renamed_new f o) ≡ size_by k o
size-renamed f kind.Pointers o = length-parts f o.fields
size-renamed f kind.Words o = refl
size-renamed f kind.Bytes o = refl
size-renamed f kind.Method o = rw (length-parts f o.fields) refl

literals-renamed : (f : ℕ → ℕ) (k : Kind) (o : NewObject) → literals_by k (renamed_new f o) ≡ literals_by k o
literals-renamed f kind.Pointers o = refl
literals-renamed f kind.Words o = refl
literals-renamed f kind.Bytes o = refl
literals-renamed f kind.Method o = rw (length-parts f o.fields) refl

module _ {H K : Type 0} {M : ObjectMemory H} {N : ObjectMemory K} (sim : Simulation M N) where
  value-itself : (v : Value) → IsLive sim.live v → ValueSame sim v (renamed sim.name v)
  value-itself v h = record { live = h; is = refl }

  -- what is made

  make_new-same : (o : NewObject) → sim.makes → IsLiveNew sim.live o → SameValue sim (make_new M o) (make_new N (renamed_new sim.name o))
  unfolding make_new
  make_new-same o m h =
      rw (size-renamed sim.name o.kind o, literals-renamed sim.name o.kind o)
      (make-same sim o.class (renamed sim.name o.class) o.kind (size_by o.kind o) (literals_by o.kind o) m (value-itself o.class h.class))

  pub make_all-same : (os : List NewObject) → sim.makes → AllLiveObjects sim.live os → SameValues sim (make_all M os) (make_all N (renamed_objects sim.name os))
  unfolding make_all
  make_all-same [] m h = search steps_same
  make_all-same (o ∷ os) m h =
      then_value-same sim _ _ _ _ _ _ (make_new-same o m h.0)
      (λ v w a. then_values-same sim _ _ _ _ _ _ (make_all-same os m h.1) (λ vs ws b. answer_values-same sim _ _ (values-named _ _ v w vs ws a b)))

  -- what parts are

  made_live : (vs : List Value) (k : ℕ) (nil : Value) → AllLive sim.live vs → IsLive sim.live nil → IsLive sim.live (get_or vs k nil)
  made_live [] k nil h l = l
  made_live (v ∷ vs) zero nil h l = h.0
  made_live (v ∷ vs) (suc k) nil h l = made_live vs k nil h.1 l

  made-renamed : (vs : List Value) (k : ℕ) (nil : Value) → get_or (renamed_all sim.name vs) k (renamed sim.name nil) ≡ renamed sim.name (get_or vs k nil)
  made-renamed [] k nil = refl
  made-renamed (v ∷ vs) zero nil = refl
  made-renamed (v ∷ vs) (suc k) nil = made-renamed vs k nil

  made-same : (nil nil' : Value) (vs ws : List Value) (k : ℕ) → ValueSame sim nil nil' → ValuesSame sim vs ws → ValueSame sim (get_or vs k nil) (get_or ws k nil')
  made-same nil nil' vs ws k n h = record { live = made_live vs k nil h.live n.live; is = rw (h.is, n.is) (made-renamed vs k nil) }

  part_value-same : (nil nil' : Value) (vs ws : List Value) (p : PlannedValue) → ValueSame sim nil nil' → ValuesSame sim vs ws → IsLivePart sim.live p
      → ValueSame sim (part_value nil vs p) (part_value nil' ws (renamed_part sim.name p))
  part_value-same nil nil' vs ws (There v) n h l = value-itself v l
  part_value-same nil nil' vs ws (Made k) n h l = made-same nil nil' vs ws k n h

  part_values-same : (nil nil' : Value) (vs ws : List Value) (ps : List PlannedValue) → ValueSame sim nil nil' → ValuesSame sim vs ws → AllLiveParts sim.live ps
      → ValuesSame sim (part_values nil vs ps) (part_values nil' ws (renamed_parts sim.name ps))
  part_values-same nil nil' vs ws [] n h l = record { live = tt; is = refl }
  part_values-same nil nil' vs ws (p ∷ ps) n h l = values-named _ _ _ _ _ _ (part_value-same nil nil' vs ws p n h l.0) (part_values-same nil nil' vs ws ps n h l.1)

  -- how objects are filled

  each_field-same : (v w : Value) (to : ℕ) (xs : List Value) → ValueSame sim v w → AllLive sim.live xs → SameAnswer sim (store_fields M v to xs) (store_fields N w to (renamed_all sim.name xs))
  unfolding store_fields
  each_field-same v w to [] h k = search steps_same
  each_field-same v w to (x ∷ xs) h k =
      let l = value-itself x k.0 in
      then_unit-same sim _ _ _ _ _ _ (search parts_same) (each_field-same v w (suc to) xs h k.1)

  each_method_field-same : (v w : Value) (to : ℕ) (xs : List Value) → ValueSame sim v w → AllLive sim.live xs
      → SameAnswer sim (store_method_fields M v to xs) (store_method_fields N w to (renamed_all sim.name xs))
  unfolding store_method_fields
  each_method_field-same v w to [] h k = search steps_same
  each_method_field-same v w to (x ∷ xs) h k =
      let l = value-itself x k.0 in
      then_unit-same sim _ _ _ _ _ _ (search parts_same) (each_method_field-same v w (suc to) xs h k.1)

  store_method_fields-same : (v w : Value) (to : ℕ) (xs ys : List Value) → ValueSame sim v w → ValuesSame sim xs ys → SameAnswer sim (store_method_fields M v to xs) (store_method_fields N w to ys)
  store_method_fields-same v w to xs ys h k = rw k.is (each_method_field-same v w to xs h k.live)

  same_length : (xs ys : List Value) → ValuesSame sim xs ys → length ys ≡ length xs
  same_length xs ys h = rw h.is (length-renamed sim.name xs)

  fill_method-same : (v w : Value) (xs ys : List Value) (code : List ℕ) → ValueSame sim v w → ValuesSame sim xs ys → SameAnswer sim (fill_method M v xs code) (fill_method N w ys code)
  unfolding fill_method
  fill_method-same v w xs ys code h k =
      rw (same_length xs ys k) (then_unit-same sim _ _ _ _ _ _ (store_method_fields-same v w 0 xs ys h k) (search parts_same))

  fill_by-same : (v w : Value) (xs ys : List Value) (bytes : List ℕ) (k : Kind) → ValueSame sim v w → ValuesSame sim xs ys → SameAnswer sim (fill_by M v xs bytes k) (fill_by N w ys bytes k)
  unfolding fill_by
  fill_by-same v w xs ys bytes kind.Pointers h k = rw k.is (each_field-same v w 0 xs h k.live)
  fill_by-same v w xs ys bytes kind.Words h k = search steps_same
  fill_by-same v w xs ys bytes kind.Bytes h k = search parts_same
  fill_by-same v w xs ys bytes kind.Method h k = fill_method-same v w xs ys bytes h k

  fill_each-same : (nil nil' : Value) (made made' vs : List Value) (os : List NewObject) → ValueSame sim nil nil' → ValuesSame sim made made' → AllLive sim.live vs → AllLiveObjects sim.live os
      → SameAnswer sim (fill_all M nil made vs os) (fill_all N nil' made' (renamed_all sim.name vs) (renamed_objects sim.name os))
  unfolding fill_all
  fill_each-same nil nil' made made' vs [] n h k l = search steps_same
  fill_each-same nil nil' made made' [] (o ∷ os) n h k l = search steps_same
  fill_each-same nil nil' made made' (v ∷ vs) (o ∷ os) n h k l =
      then_unit-same sim _ _ _ _ _ _
      (fill_by-same v (renamed sim.name v) _ _ o.bytes o.kind (value-itself v k.0) (part_values-same nil nil' made made' o.fields n h l.0.fields))
      (fill_each-same nil nil' made made' vs os n h k.1 l.1)

  fill_all-same : (nil nil' : Value) (made made' : List Value) (os : List NewObject) → ValueSame sim nil nil' → ValuesSame sim made made' → AllLiveObjects sim.live os
      → SameAnswer sim (fill_all M nil made made os) (fill_all N nil' made' made' (renamed_objects sim.name os))
  fill_all-same nil nil' made made' os n h l =
      let k : ValuesSame sim made (renamed_all sim.name made) = record { live = h.live; is = refl } in
      rw h.is (fill_each-same nil nil' made (renamed_all sim.name made) made os n k h.live l)

  -- places

  ends_at-same : (k : ℕ) (a b c d : Bool) (o : Step H Ending) (p : Step K Ending) → c ≡ a → d ≡ b → SameAnswer sim o p → SameAnswer sim (ends_at k a b o) (ends_at k c d p)
  unfolding ends_at
  ends_at-same k true b c d o p e f h = rw e (search steps_same)
  ends_at-same k false true c d o p e f h = rw (e, f) (search steps_same)
  ends_at-same k false false c d o p e f h = rw (e, f) h

  seek_among-same : (v w x y : Value) (k left : ℕ) (o : Step H Ending) (p : Step K Ending) → ValueSame sim v w → ValueSame sim x y → SameAnswer sim o p
      → SameAnswer sim (seek_among M v x k left o) (seek_among N w y k left p)
  unfolding seek_among seek_at
  seek_among-same v w x y k zero o p h l s = s
  seek_among-same v w x y k (suc left) o p h l s = search (parts_same, ends_at-same, seek_among-same v w x y (suc k) left o p h l s) depth 16 fits 4000

  count_places-same : (v w : Value) → ValueSame sim v w → SameAnswer sim (count_places M v) (count_places N w)
  unfolding count_places
  count_places-same v w h = search parts_same depth 16 fits 4000

  seek-same : (v w x y s t : Value) → ValueSame sim v w → ValueSame sim x y → ValueSame sim s t → SameAnswer sim (seek M v x s) (seek N w y t)
  unfolding seek seek_from
  seek-same v w x y s t h k l = search (parts_same, half_word-same, count_places-same, seek_among-same) depth 24 fits 4000

  place_of_selector-same : (v w s t : Value) → ValueSame sim v w → ValueSame sim s t → SameAnswer sim (place_of_selector M v s) (place_of_selector N w t)
  unfolding place_of_selector
  place_of_selector-same v w s t h k = seek-same v w s t s t h k k

  -- a dictionary that is refilled

  put_method-same : (d e a b : Value) (k : ℕ) (s t x y : Value) → ValueSame sim d e → ValueSame sim a b → ValueSame sim s t → ValueSame sim x y
      → SameAnswer sim (put_method M d a k s x) (put_method N e b k t y)
  unfolding put_method
  put_method-same d e a b k s t x y hd ha hs hx = search parts_same depth 16 fits 4000

  put_at-same : (d e s t x y : Value) (end : Ending) → ValueSame sim d e → ValueSame sim s t → ValueSame sim x y → SameAnswer sim (put_at M d s x end) (put_at N e t y end)
  unfolding put_at
  put_at-same d e s t x y (Holds k) hd hs hx = search (parts_same, put_method-same) depth 16 fits 4000
  put_at-same d e s t x y (Vacant k) hd hs hx = search steps_same
  put_at-same d e s t x y Nowhere hd hs hx = search steps_same

  refill_unless-same : (o p n q : Value) (k : ℕ) (s t : Value) (b c : Bool) → ValueSame sim o p → ValueSame sim n q → ValueSame sim s t → c ≡ b
      → SameAnswer sim (refill_unless M o n k s b) (refill_unless N p q k t c)
  unfolding refill_unless
  refill_unless-same o p n q k s t true c ho hn hs e = rw e (search steps_same)
  refill_unless-same o p n q k s t false c ho hn hs e = rw e (search (parts_same, seek-same, put_at-same) depth 24 fits 4000)

  refill_from-same : (o p n q : Value) (k : ℕ) → ValueSame sim o p → ValueSame sim n q → SameAnswer sim (refill_from M o n k) (refill_from N p q k)
  unfolding refill_from
  refill_from-same o p n q k ho hn = search (parts_same, refill_unless-same) depth 20 fits 4000

  refill_among-same : (o p n q : Value) (k left : ℕ) → ValueSame sim o p → ValueSame sim n q → SameAnswer sim (refill_among M o n k left) (refill_among N p q k left)
  unfolding refill_among
  refill_among-same o p n q k zero ho hn = search steps_same
  refill_among-same o p n q k (suc left) ho hn = then_unit-same sim _ _ _ _ _ _ (refill_from-same o p n q k ho hn) (refill_among-same o p n q (suc k) left ho hn)

  refill-same : (o p n q : Value) → ValueSame sim o p → ValueSame sim n q → SameAnswer sim (refill M o n) (refill N p q)
  unfolding refill
  refill-same o p n q ho hn = search (steps_same, count_places-same, refill_among-same) depth 16 fits 4000

  -- stores

  store_all-same : (nil nil' : Value) (made made' : List Value) (ss : List FieldStore) → ValueSame sim nil nil' → ValuesSame sim made made' → AllLiveStores sim.live ss
      → SameAnswer sim (store_all M nil made ss) (store_all N nil' made' (renamed_stores sim.name ss))
  unfolding store_all
  store_all-same nil nil' made made' [] n h l = search steps_same
  store_all-same nil nil' made made' (s ∷ ss) n h l =
      let o = part_value-same nil nil' made made' s.object n h l.0.object in
      let x = part_value-same nil nil' made made' s.value n h l.0.value in
      then_unit-same sim _ _ _ _ _ _ (search parts_same) (store_all-same nil nil' made made' ss n h l.1)

  target-same : (nil nil' : Value) (made made' : List Value) (old old' : Value) (grown : Option ℕ) → ValueSame sim nil nil' → ValuesSame sim made made' → ValueSame sim old old'
      → SameValue sim (target M nil made old grown) (target N nil' made' old' grown)
  unfolding target
  target-same nil nil' made made' old old' None n h k = search steps_same
  target-same nil nil' made made' old old' (Some i) n h k = let d = made-same nil nil' made made' i n h in search (steps_same, refill-same) depth 16 fits 4000

  record IsLivePlacing (p : Placing) : Type 0 where
    dictionary : IsLive sim.live p.dictionary
    methods : IsLive sim.live p.methods
    tally : IsLive sim.live p.tally

  abbrev renamed_placing : Placing → Placing
  renamed_placing p = record { dictionary = renamed sim.name p.dictionary; methods = renamed sim.name p.methods; tally = renamed sim.name p.tally; end = p.end }

  abbrev SamePlacing : Step H Placing → Step K Placing → Type 0
  SamePlacing m n = Same sim IsLivePlacing renamed_placing m n

  answer_placing-same : (d e a b t u : Value) (end : Ending) → ValueSame sim d e → ValueSame sim a b → ValueSame sim t u
      → SamePlacing (answer (record { dictionary = d; methods = a; tally = t; end = end })) (answer (record { dictionary = e; methods = b; tally = u; end = end }))
  answer_placing-same d e a b t u end hd ha ht =
      answer-same sim _ _ _ _ (record { dictionary = hd.live; methods = ha.live; tally = ht.live }) (λ i. record { dictionary = hd.is i; methods = ha.is i; tally = ht.is i; end = end })

  find_place-same : (d e s t : Value) → ValueSame sim d e → ValueSame sim s t → SamePlacing (find_place M d s) (find_place N e t)
  unfolding find_place
  find_place-same d e s t hd hs = search (parts_same, place_of_selector-same, answer_placing-same) depth 20 fits 4000

  adopt-same : (c c' d e : Value) (grown : Option ℕ) → ValueSame sim c c' → ValueSame sim d e → SameAnswer sim (adopt M c d grown) (adopt N c' e grown)
  unfolding adopt
  adopt-same c c' d e None hc hd = search steps_same
  adopt-same c c' d e (Some k) hc hd = search parts_same

  small_if : (b : Bool) (m n : ℕ) → renamed sim.name (if b then Small m else Small n) ≡ (if b then Small m else Small n)
  small_if true m n = refl
  small_if false m n = refl

  live_small_if : (b : Bool) (m n : ℕ) → IsLive sim.live (if b then Small m else Small n)
  live_small_if true m n = tt
  live_small_if false m n = tt

  raised-same : (v : Value) → IsLive sim.live v → ValueSame sim (raised_tally v) (raised_tally (renamed sim.name v))
  raised-same (Small n) h = record { live = live_small_if _ _ _; is = sym (small_if _ _ _) }
  raised-same (Ref n) h = record { live = h; is = refl }

  add_at-same : (p : Placing) (s t x y : Value) (end : Ending) → IsLivePlacing p → ValueSame sim s t → ValueSame sim x y → SameAnswer sim (add_at M p s x end) (add_at N (renamed_placing p) t y end)
  unfolding add_at
  add_at-same p s t x y (Holds k) h hs hx = let m = value-itself p.methods h.methods in search parts_same
  add_at-same p s t x y (Vacant k) h hs hx =
      let d = value-itself p.dictionary h.dictionary in
      let m = value-itself p.methods h.methods in
      let r = raised-same p.tally h.tally in
      search (parts_same, put_method-same) depth 16 fits 4000
  add_at-same p s t x y Nowhere h hs hx = search steps_same

  store_planned-same : (nil nil' : Value) (made made' : List Value) (p : Plan) (at : Placing) → ValueSame sim nil nil' → ValuesSame sim made made' → IsLivePlan sim.live p → IsLivePlacing at
      → SameAnswer sim (store_planned M nil made p at) (store_planned N nil' made' (renamed_plan sim.name p) (renamed_placing at))
  unfolding store_planned
  store_planned-same nil nil' made made' p at n h l k =
      then_unit-same sim _ _ _ _ _ _ (store_all-same nil nil' made made' p.symbol_stores n h l.symbol_stores)
      (then_unit-same sim _ _ _ _ _ _ (adopt-same p.class _ at.dictionary _ p.grown (value-itself p.class l.class) (value-itself at.dictionary k.dictionary))
      (add_at-same at _ _ _ _ at.end k (part_value-same nil nil' made made' p.selector n h l.selector) (part_value-same nil nil' made made' p.method n h l.method)))

  pub fill_and_store-same : (nil nil' : Value) (made made' : List Value) (p : Plan) → ValueSame sim nil nil' → ValuesSame sim made made' → IsLivePlan sim.live p
      → SameAnswer sim (fill_and_store M nil made p) (fill_and_store N nil' made' (renamed_plan sim.name p))
  unfolding fill_and_store
  fill_and_store-same nil nil' made made' p n h l =
      then_unit-same sim _ _ _ _ _ _ (fill_all-same nil nil' made made' p.objects n h l.objects)
      (then_value-same sim _ _ _ _ _ _ (target-same nil nil' made made' p.dictionary _ p.grown n h (value-itself p.dictionary l.dictionary))
      (λ d e hd. then-same sim _ _ _ _ _ _ _ _ (find_place-same d e _ _ hd (part_value-same nil nil' made made' p.selector n h l.selector))
      (λ at k. store_planned-same nil nil' made made' p at n h l k)))

  pub install-same : (p : Plan) → sim.makes → IsLivePlan sim.live p → SameAnswer sim (install M p) (install N (renamed_plan sim.name p))
  unfolding install
  install-same p m l =
      then_value-same sim _ _ _ _ _ _ (search parts_same)
      (λ nil nil' n. then_values-same sim _ _ _ _ _ _ (make_all-same p.objects m l.objects) (λ made made' h. fill_and_store-same nil nil' made made' p n h l))
