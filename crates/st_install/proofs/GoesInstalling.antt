-- A sound plan whose objects have room is carried out.
use Rattle.std.proofs.Common.{inl, inr, ◌⊎◌, ◌≡◌, ◌≢◌, ℕ, ◌+◌, ◌*◌, ◌<◌, ◌≤◌, zero, suc, List, [], ◌∷◌, length, Option, Some, None, true, refl, sym, ap, ◌∙◌, subst, arith, is_some}
use Rattle.std.specs.Prelude.{◌-◌, slice_get, get_or, replicate}
use Rattle.std.proofs.lemmas.List.{get_or_past, length-replicate, get_or-replicate}
use Rattle.std.proofs.lemmas.Option.{slice_get-get_or, slice_get_within}
use Rattle.st_model.specs.declared.kind.Kind.TheVariants as kind
use Rattle.st_model.specs.Values.{Value, Small, Ref}
use Rattle.st_model.specs.declared.page.PageObject.TheVariants.{NilObject}
use Rattle.st_model.specs.Objects.{Object, nil, is_pointers}
use Rattle.st_model.specs.Machine.{Head, is_there, ◌>>=◌}
use Rattle.st_model.specs.Steps.{of_page, same_value}
use Rattle.st_model.specs.Lookup.{pointer_if}
use Rattle.st_model.specs.Table.{Table, entry, bounded_table}
use Rattle.st_install.specs.Plans.{PlannedValue, There, Made, NewObject, FieldStore, Plan, words_of_all}
use Rattle.st_install.specs.Dictionaries.{Nowhere, refill}
use Rattle.st_install.specs.Installing.{part_value, part_values, target, find_place, store_planned, fill_and_store, install}
use Rattle.st_install.proofs.Goes.{object_at, IsKept, all_kept, kept_then, there_kept, like_itself, Goes, then_goes, next_goes, read_goes, answer_goes, tells_page}
use Rattle.st_install.proofs.GoesMaking.{blank, blank_kind, CanMake, HasRoom, Makes, make_all_goes}
use Rattle.st_install.proofs.GoesFilling.{AreThere, AllThere, AllShaped, IsFilled, FillsAll, AreBlank, fill_all_goes}
use Rattle.st_install.proofs.GoesSeeking.{at_place, half_of, ending_for, ending_within, NoneVacant, nowhere_full, vacant_among, none_counted, all_counted}
use Rattle.st_install.proofs.GoesRefilling.{Refilling, refill_goes}
use Rattle.st_install.proofs.GoesStoring.{HasFields, fields_kept, GoesOn, kept_on, CanStore, can_store_kept, store_planned_goes, there_at, find_goes}

-- SOUND PLANS

-- a value that is there, or one of so many objects that are made
abbrev pub IsSoundPart : Table → ℕ → PlannedValue → Type 0
IsSoundPart t n (There v) = is_there bounded_table t v ≡ true
IsSoundPart t n (Made k) = k < n

abbrev pub AreSoundParts : Table → ℕ → List PlannedValue → Type 0
AreSoundParts t n [] = Unit {0}
AreSoundParts t n (p ∷ ps) = IsSoundPart t n p × AreSoundParts t n ps

abbrev pub AreSoundObjects : Table → ℕ → List NewObject → Type 0
AreSoundObjects t n [] = Unit {0}
AreSoundObjects t n (o ∷ os) = AreSoundParts t n o.fields × AreSoundObjects t n os

-- an object of kind Pointers with so many fields or more, among those that are made
pub record MadeWith (os : List NewObject) (k n : ℕ) : Type 0 where
  pub object : NewObject
  pub is : slice_get os k ≡ Some object
  pub pointers : object.kind ≡ kind.Pointers
  pub enough : n ≤ length object.fields

-- a part with so many fields or more
abbrev pub PartHas : Table → List NewObject → PlannedValue → ℕ → Type 0
PartHas t os (There v) n = HasFields t v n
PartHas t os (Made k) n = MadeWith os k n

abbrev pub AreSoundStores : Table → List NewObject → List FieldStore → Type 0
AreSoundStores t os [] = Unit {0}
AreSoundStores t os (x ∷ xs) = PartHas t os x.object (suc x.field) × IsSoundPart t (length os) x.value × AreSoundStores t os xs

-- a dictionary with places, and a method for each of them
pub record IsDictionary (t : Table) (d : Value) : Type 0 where
  pub object : Object
  pub is : object_at t d ≡ Some object
  pub pointers : is_pointers object.kind ≡ true
  pub places : 2 < length object.fields
  pub values : (i : ℕ) (x : Value) → slice_get object.fields i ≡ Some x → is_there bounded_table t x ≡ true
  pub tally : Value
  pub to_tally : slice_get object.fields 0 ≡ Some tally
  pub methods : Value
  pub to_methods : slice_get object.fields 1 ≡ Some methods
  pub array : Object
  pub array_is : object_at t methods ≡ Some array
  pub array_pointers : is_pointers array.kind ≡ true
  pub enough : length object.fields - 2 ≤ length array.fields
  pub array_values : (i : ℕ) (x : Value) → slice_get array.fields i ≡ Some x → is_there bounded_table t x ≡ true

-- the search for a selector in a dictionary with these fields ends at a place; one that is made only now is met nowhere
abbrev pub HasPlace : Table → List Value → PlannedValue → Type 0
HasPlace t fs (There v) = ending_for t fs v v ≢ Nowhere
HasPlace t fs (Made k) = 0 < vacant_among fs 0 (length fs - 2)

-- objects number k and the one after it are a dictionary of so many places and its Array of methods
pub record IsGrown (t : Table) (os : List NewObject) (k places : ℕ) : Type 0 where
  pub dictionary : NewObject
  pub is : slice_get os k ≡ Some dictionary
  pub pointers : dictionary.kind ≡ kind.Pointers
  pub tally : Value
  pub fields : dictionary.fields ≡ There tally ∷ Made (k + 1) ∷ replicate places (There nil)
  pub array : NewObject
  pub array_is : slice_get os (k + 1) ≡ Some array
  pub array_pointers : array.kind ≡ kind.Pointers
  pub array_size : length array.fields ≡ places
  pub tally_there : is_there bounded_table t tally ≡ true

abbrev pub IsSoundTarget : Table → List NewObject → List Value → PlannedValue → Option ℕ → Type 0
IsSoundTarget t os fs selector None = HasPlace t fs selector
IsSoundTarget t os fs selector (Some k) = IsGrown t os k (2 * (length fs - 2))

pub record IsSoundPlan (t : Table) (p : Plan) : Type 0 where
  pub made : CanMake t p.objects
  pub objects : AreSoundObjects t (length p.objects) p.objects
  pub stores : AreSoundStores t p.objects p.symbol_stores
  pub selector : IsSoundPart t (length p.objects) p.selector
  pub method : IsSoundPart t (length p.objects) p.method
  pub class : HasFields t p.class 2
  pub dictionary : IsDictionary t p.dictionary
  pub target : IsSoundTarget t p.objects dictionary.object.fields p.selector p.grown

-- AFTER THE OBJECTS ARE MADE

pub makes_kept : (t u : Table) (os : List NewObject) (vs : List Value) → Makes t os vs u → IsKept t u
makes_kept t u os vs m = record { at = λ v o e. record { object = o; is = m.stands v o e; like = like_itself o } }

one_at : {A : Type 0} (xs : List A) (k : ℕ) → k < length xs → (x : A) × slice_get xs k ≡ Some x
one_at [] k l = absurd (omega arith)
one_at (x ∷ xs) zero l = (x, refl)
one_at (x ∷ xs) (suc k) l = one_at xs k (omega arith)

pub shapes_of : (t : Table) (os : List NewObject) → CanMake t os → AllShaped os
shapes_of t [] h = tt
shapes_of t (o ∷ os) h = (h.1, shapes_of t os h.2)

module _ (t u : Table) (os : List NewObject) (vs : List Value) (m : Makes t os vs u) where
  pub name_at : (k : ℕ) → k < length os → slice_get vs k ≡ Some (get_or vs k nil)
  name_at k l = slice_get-get_or vs k nil (let n = m.length in omega (arith, n, l))

  pub made_there : (k : ℕ) → k < length os → is_there bounded_table u (get_or vs k nil) ≡ true
  made_there k l =
      let o = one_at os k l in
      there_at u (get_or vs k nil) (blank o.0) (m.objects k (get_or vs k nil) o.0 (name_at k l) o.1)

  pub part_there : (p : PlannedValue) → IsSoundPart t (length os) p → is_there bounded_table u (part_value nil vs p) ≡ true
  part_there (There v) h = there_kept t u v (makes_kept t u os vs m) h
  part_there (Made k) h = made_there k h

  parts_there : (ps : List PlannedValue) → AreSoundParts t (length os) ps → AreThere u (part_values nil vs ps)
  parts_there [] h = tt
  parts_there (p ∷ ps) h = (part_there p h.0, parts_there ps h.1)

  pub objects_there : (xs : List NewObject) → AreSoundObjects t (length os) xs → AllThere u vs xs
  objects_there [] h = tt
  objects_there (o ∷ xs) h = (parts_there o.fields h.0, objects_there xs h.1)

  pub are_blank : AreBlank vs os u
  are_blank = record { length = m.length; apart = m.apart; objects = m.objects }

  -- what was there is none of what is made
  pub not_made : (w : Value) (o : Object) → object_at t w ≡ Some o → (i : ℕ) → slice_get vs i ≢ Some w
  not_made w o e i f = no_object (sym (m.fresh i w f) ∙ e)
    where
      no_object : None ≡ Some o → ⊥
      no_object q = cc

  -- after the objects are filled
  module _ (w : Table) (f : FillsAll vs vs os u w) where
    pub filled_kept : IsKept t w
    filled_kept = kept_then t u w (makes_kept t u os vs m) f.kept

    pub stands_filled : (v : Value) (o : Object) → object_at t v ≡ Some o → object_at w v ≡ Some o
    stands_filled v o e = f.others v (not_made v o e) ∙ m.stands v o e

    pub part_filled : (p : PlannedValue) → IsSoundPart t (length os) p → is_there bounded_table w (part_value nil vs p) ≡ true
    part_filled p h = there_kept u w (part_value nil vs p) f.kept (part_there p h)

    pub made_filled : (k : ℕ) (o : NewObject) → slice_get os k ≡ Some o → IsFilled vs o (get_or vs k nil) w
    made_filled k o e = f.objects k (get_or vs k nil) o (name_at k (slice_get_within os k o e)) e

    pub length_filled : (o : NewObject) (v : Value) → IsFilled vs o v w → o.kind ≡ kind.Pointers → (x : Object) × (object_at w v ≡ Some x) × (is_pointers x.kind ≡ true) × (x.fields ≡ part_values nil vs o.fields)
    length_filled o v h e =
        (h.object, h.is, ap is_pointers h.like.kind ∙ (ap is_pointers (blank_kind o.kind o) ∙ ap is_pointers e), h.fields)

    pub count_values : (ps : List PlannedValue) → length (part_values nil vs ps) ≡ length ps
    count_values [] = refl
    count_values (p ∷ ps) = ap (λ n. suc n) (count_values ps)

    pub has_filled : (p : PlannedValue) (n : ℕ) → PartHas t os p n → HasFields w (part_value nil vs p) n
    has_filled (There v) n h = fields_kept t w v n filled_kept h
    has_filled (Made k) n h =
        let x = length_filled h.object (get_or vs k nil) (made_filled k h.object h.is) h.pointers in
        record {
          object = x.0;
          is = x.1;
          pointers = x.2;
          enough = let l = h.enough in let a : length x.0.fields ≡ length h.object.fields = ap (λ xs. length xs) x.3 ∙ count_values h.object.fields in omega (arith, l, a);
        }

    pub stores_filled : (xs : List FieldStore) → AreSoundStores t os xs → CanStore w vs xs
    stores_filled [] h = tt
    stores_filled (x ∷ xs) h = (has_filled x.object (suc x.field) h.0, part_filled x.value h.1, stores_filled xs h.2)

    half_stands : (v : Value) → is_there bounded_table t v ≡ true → half_of w v ≡ half_of t v
    half_stands (Small n) h = refl
    half_stands (Ref n) h = same_pointer n (entry t n) (entry w n) h (λ o e. stands_filled (Ref n) o e)
      where
        same_pointer : (n : ℕ) (a b : Option Object) → is_some a ≡ true → ((o : Object) → a ≡ Some o → b ≡ Some o) → pointer_if bounded_table w n b ≡ pointer_if bounded_table t n a
        same_pointer n None b e g = cc
        same_pointer n (Some o) b e g = rw (g o refl) refl

    -- a dictionary that stays has the place that it had
    pub somewhere : (fs : List Value) (p : PlannedValue) → IsSoundPart t (length os) p → HasPlace t fs p → ending_for w fs (part_value nil vs p) (part_value nil vs p) ≢ Nowhere
    somewhere fs (There v) h k = rw (half_stands v h) k
    somewhere fs (Made n) h k = λ e.
        let a = none_counted fs 0 (length fs - 2) (nowhere_full w fs (get_or vs n nil) (get_or vs n nil) e) in
        omega (arith, a, k)

    -- the dictionary that grows, before it is refilled
    module _ (k places : ℕ) (g : IsGrown t os k places) where
      values_of_nil : (n : ℕ) → part_values nil vs (replicate n (There nil)) ≡ replicate n nil
      values_of_nil zero = refl
      values_of_nil (suc n) = ap (λ xs. nil ∷ xs) (values_of_nil n)

      pub grown_fields : part_values nil vs g.dictionary.fields ≡ g.tally ∷ get_or vs (k + 1) nil ∷ replicate places nil
      grown_fields = ap (λ ps. part_values nil vs ps) g.fields ∙ ap (λ xs. g.tally ∷ get_or vs (k + 1) nil ∷ xs) (values_of_nil places)

      pub names_apart : get_or vs k nil ≢ get_or vs (k + 1) nil
      names_apart e =
          let a = name_at k (slice_get_within os k g.dictionary g.is) in
          let b = name_at (k + 1) (slice_get_within os (k + 1) g.array g.array_is) in
          let z : k ≡ k + 1 = m.apart k (k + 1) (get_or vs k nil) a (b ∙ ap (λ v. Some v) (sym e)) in
          omega (arith, z)

      pub place_of_nil : (n j : ℕ) (a b : Value) → j < n → at_place (a ∷ b ∷ replicate n nil) j ≡ nil
      place_of_nil n j a b l = get_or_past_two (suc (suc j)) (omega arith) ∙ get_or-replicate n j nil nil l
        where
          get_or_past_two : (i : ℕ) → 2 + j ≡ i → get_or (a ∷ b ∷ replicate n nil) (2 + j) nil ≡ get_or (a ∷ b ∷ replicate n nil) i nil
          get_or_past_two i e = ap (λ x. get_or (a ∷ b ∷ replicate n nil) x nil) e

      pub all_vacant : vacant_among (g.tally ∷ get_or vs (k + 1) nil ∷ replicate places nil) 0 places ≡ places
      all_vacant = all_counted (g.tally ∷ get_or vs (k + 1) nil ∷ replicate places nil) 0 places (λ j l n. ap (λ v. same_value v nil) (place_of_nil places j g.tally (get_or vs (k + 1) nil) (omega (arith, n))))

      pub refilling : Refilling w (get_or vs k nil) (get_or vs (k + 1) nil) g.tally places 0 w
      refilling =
          let x = length_filled g.dictionary (get_or vs k nil) (made_filled k g.dictionary g.is) g.pointers in
          let y = length_filled g.array (get_or vs (k + 1) nil) (made_filled (k + 1) g.array g.array_is) g.array_pointers in
          let fs : x.0.fields ≡ g.tally ∷ get_or vs (k + 1) nil ∷ replicate places nil = x.3 ∙ grown_fields in
          record {
            dictionary = x.0;
            is = x.1;
            pointers = x.2;
            size = ap (λ xs. length xs) fs ∙ (let n = length-replicate places nil in omega (arith, n));
            to_tally = ap (λ xs. slice_get xs 0) fs;
            to_methods = ap (λ xs. slice_get xs 1) fs;
            vacant = let n : vacant_among x.0.fields 0 places ≡ places = ap (λ xs. vacant_among xs 0 places) fs ∙ all_vacant in omega (arith, n);
            array = y.0;
            array_is = y.1;
            array_pointers = y.2;
            array_size = ap (λ xs. length xs) y.3 ∙ (count_values g.array.fields ∙ g.array_size);
            others = λ v d e. refl;
            kept = all_kept w;
          }

      nil_or_past : (j : ℕ) → at_place (g.tally ∷ get_or vs (k + 1) nil ∷ replicate places nil) j ≡ nil
      nil_or_past j = elim (within j places) [
        | inl l ↦ place_of_nil places j g.tally (get_or vs (k + 1) nil) l
        | inr l ↦ get_or_past (g.tally ∷ get_or vs (k + 1) nil ∷ replicate places nil) (2 + j) nil (let n = length-replicate places nil in omega (arith, l, n))
      ]
        where
          within : (j n : ℕ) → (j < n) ⊎ (n ≤ j)
          within j n = grind arith

      -- it has no selector yet
      pub all_nil : (j : ℕ) → at_place refilling.dictionary.fields j ≡ nil
      unfolding refilling
      all_nil j =
          let x = length_filled g.dictionary (get_or vs k nil) (made_filled k g.dictionary g.is) g.pointers in
          let fs : x.0.fields ≡ g.tally ∷ get_or vs (k + 1) nil ∷ replicate places nil = x.3 ∙ grown_fields in
          ap (λ xs. at_place xs j) fs ∙ nil_or_past j

-- THE DICTIONARY INTO WHICH THE METHOD GOES

-- what has changed leaves a dictionary in which the search for the selector ends at a place
pub record IsTarget (w : Table) (selector : Value) (d : Value) (z : Table) : Type 0 where
  pub kept : IsKept w z
  pub object : Object
  pub is : object_at z d ≡ Some object
  pub pointers : is_pointers object.kind ≡ true
  pub places : 2 < length object.fields
  pub tally : Value
  pub to_tally : slice_get object.fields 0 ≡ Some tally
  pub tally_there : is_there bounded_table z tally ≡ true
  pub methods : Value
  pub to_methods : slice_get object.fields 1 ≡ Some methods
  pub has_methods : HasFields z methods (length object.fields - 2)
  pub somewhere : ending_for z object.fields selector selector ≢ Nowhere

module _ (head : Head) (t : Table) (p : Plan) (sound : IsSoundPlan t p) where
  module _ (u : Table) (vs : List Value) (m : Makes t p.objects vs u) (w : Table) (f : FillsAll vs vs p.objects u w) where
    unfoldable pub old_stays : IsSoundTarget t p.objects sound.dictionary.object.fields p.selector None → IsTarget w (part_value nil vs p.selector) p.dictionary w
    old_stays h =
        let d = sound.dictionary in
        let k = filled_kept t u p.objects vs m w f in
        record {
          kept = all_kept w;
          object = d.object;
          is = stands_filled t u p.objects vs m w f p.dictionary d.object d.is;
          pointers = d.pointers;
          places = d.places;
          tally = d.tally;
          to_tally = d.to_tally;
          tally_there = there_kept t w d.tally k (d.values 0 d.tally d.to_tally);
          methods = d.methods;
          to_methods = d.to_methods;
          has_methods = fields_kept t w d.methods (length d.object.fields - 2) k (record { object = d.array; is = d.array_is; pointers = d.array_pointers; enough = d.enough });
          somewhere = somewhere t u p.objects vs m w f d.object.fields p.selector sound.selector h;
        }

    unfoldable pub new_takes : (k : ℕ) (g : IsGrown t p.objects k (2 * (length sound.dictionary.object.fields - 2))) (z : Table)
        → Refilling w (get_or vs k nil) (get_or vs (k + 1) nil) g.tally (2 * (length sound.dictionary.object.fields - 2)) (length sound.dictionary.object.fields - 2) z
        → IsTarget w (part_value nil vs p.selector) (get_or vs k nil) z
    new_takes k g z r =
        let d = sound.dictionary in
        let l = d.places in
        let n = r.size in
        record {
          kept = r.kept;
          object = r.dictionary;
          is = r.is;
          pointers = r.pointers;
          places = omega (arith, l, n);
          tally = g.tally;
          to_tally = r.to_tally;
          tally_there = there_kept t z g.tally (kept_then t w z (filled_kept t u p.objects vs m w f) r.kept) g.tally_there;
          methods = get_or vs (k + 1) nil;
          to_methods = r.to_methods;
          has_methods = record { object = r.array; is = r.array_is; pointers = r.array_pointers; enough = let a = r.array_size in omega (arith, a, n) };
          somewhere = λ e.
              let a : NoneVacant r.dictionary.fields 0 (2 * (length sound.dictionary.object.fields - 2)) =
              subst (λ i. NoneVacant r.dictionary.fields 0 i) (omega (arith, n)) (nowhere_full z r.dictionary.fields (part_value nil vs p.selector) (part_value nil vs p.selector) e) in
              let b = none_counted r.dictionary.fields 0 (2 * (length sound.dictionary.object.fields - 2)) a in
              let c = r.vacant in
              omega (arith, b, c, l);
        }

    module _ (k : ℕ) (g : IsGrown t p.objects k (2 * (length sound.dictionary.object.fields - 2))) where
      other_than_made : (v : Value) (o : Object) → object_at t v ≡ Some o → (i : ℕ) → i < length p.objects → v ≢ get_or vs i nil
      other_than_made v o e i l q = not_made t u p.objects vs m v o e i (name_at t u p.objects vs m i l ∙ ap (λ x. Some x) (sym q))

      grown_goes : Goes head (refill bounded_table p.dictionary (get_or vs k nil)) w
          (λ c z. Refilling w (get_or vs k nil) (get_or vs (k + 1) nil) g.tally (2 * (length sound.dictionary.object.fields - 2)) (length sound.dictionary.object.fields - 2) z)
      grown_goes =
          let d = sound.dictionary in
          let kept = filled_kept t u p.objects vs m w f in
          let a = slice_get_within p.objects k g.dictionary g.is in
          let b = slice_get_within p.objects (k + 1) g.array g.array_is in
          refill_goes head w (get_or vs k nil) (get_or vs (k + 1) nil) g.tally (2 * (length d.object.fields - 2)) (names_apart t u p.objects vs m w f k _ g)
          p.dictionary d.methods d.object d.array (stands_filled t u p.objects vs m w f p.dictionary d.object d.is) d.pointers d.to_methods
          (stands_filled t u p.objects vs m w f d.methods d.array d.array_is) d.array_pointers d.enough
          (other_than_made p.dictionary d.object d.is k a) (other_than_made p.dictionary d.object d.is (k + 1) b)
          (other_than_made d.methods d.array d.array_is k a) (other_than_made d.methods d.array d.array_is (k + 1) b)
          (λ i x e. there_kept t w x kept (d.values i x e)) (λ i x e. there_kept t w x kept (d.array_values i x e))
          (refilling t u p.objects vs m w f k _ g) (omega arith)

    target_goes : (grown : Option ℕ) → IsSoundTarget t p.objects sound.dictionary.object.fields p.selector grown
        → Goes head (target bounded_table nil vs p.dictionary grown) w (λ d z. IsTarget w (part_value nil vs p.selector) d z)
    unfolding target
    target_goes None h = answer_goes head w _ p.dictionary (old_stays h)
    target_goes (Some k) h = next_goes head w _ _ _ _ (grown_goes k h) (λ c z r. answer_goes head z _ (get_or vs k nil) (new_takes k h z r))

    stores_go : (d : Value) (z : Table) → IsTarget w (part_value nil vs p.selector) d z
        → GoesOn head (find_place bounded_table d (part_value nil vs p.selector) >>= (λ x. store_planned bounded_table nil vs p x)) z
    stores_go d z h =
        then_goes head z _ _ (find_place bounded_table d (part_value nil vs p.selector)) _
        (find_goes head z d (part_value nil vs p.selector) h.methods h.tally h.object h.is h.pointers h.places h.to_tally h.to_methods h.has_methods h.tally_there
        (ending_within z h.object.fields (part_value nil vs p.selector) (part_value nil vs p.selector)) h.somewhere)
        (λ x y found. subst (λ q. Goes head (store_planned bounded_table nil vs p x) q (λ a y. IsKept z y)) (sym found.same)
        (store_planned_goes head z vs p x (length h.object.fields - 2)
        (can_store_kept w z vs p.symbol_stores h.kept (stores_filled t u p.objects vs m w f p.symbol_stores sound.stores))
        (fields_kept w z p.class 2 h.kept (fields_kept t w p.class 2 (filled_kept t u p.objects vs m w f) sound.class)) found.adds
        (there_kept w z (part_value nil vs p.selector) h.kept (part_filled t u p.objects vs m w f p.selector sound.selector))
        (there_kept w z (part_value nil vs p.method) h.kept (part_filled t u p.objects vs m w f p.method sound.method))))

  fill_and_store_goes : (u : Table) (vs : List Value) → Makes t p.objects vs u → Goes head (fill_and_store bounded_table nil vs p) u (λ a z. IsKept t z)
  unfolding fill_and_store
  fill_and_store_goes u vs m =
      next_goes head u _ _ _ _ (fill_all_goes head vs u vs p.objects (are_blank t u p.objects vs m) (shapes_of t p.objects sound.made) (objects_there t u p.objects vs m p.objects sound.objects))
      (λ a w f. then_goes head w _ _ _ _ (target_goes u vs m w f p.grown sound.target)
      (λ d z h. kept_on head t z _ (kept_then t w z (filled_kept t u p.objects vs m w f) h.kept) (stores_go u vs m w f d z h)))

  -- all that was there stays, of the same kind and size
  pub install_goes : HasRoom head t (length p.objects) (words_of_all p.objects) → Goes head (install bounded_table p) t (λ a z. IsKept t z)
  unfolding install
  install_goes room =
      read_goes head t _ (of_page bounded_table NilObject) _ nil (tells_page t NilObject)
      (then_goes head t _ _ _ _ (make_all_goes head t p.objects sound.made room) (λ vs u m. fill_and_store_goes u vs m))
