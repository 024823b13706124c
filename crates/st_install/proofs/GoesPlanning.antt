-- A plan that is answered is sound, and there is room for its objects where that was asked.
use Rattle.std.proofs.Common.{◌≡◌, ℕ, ◌+◌, ◌*◌, ◌<◌, ◌≤◌, List, [], ◌∷◌, ◌++◌, length, Option, Some, None, Bool, true, false, Result, Ok, Err, refl, sym, ap, ◌∙◌, subst, arith, length-append}
use Rattle.std.specs.Prelude.{◌-◌, slice_get, replicate, nat_lt, nat_le, if◌then◌else◌}
use Rattle.std.proofs.lemmas.Bool.Decides.{nat_tests}
use Rattle.std.proofs.lemmas.List.{length-replicate}
use Rattle.std.proofs.lemmas.Option.{slice_get_within}
use Rattle.st_model.specs.declared.dead.Dead.TheVariants as dead
use Rattle.st_model.specs.declared.demand.Demand.{Demand}
use Rattle.st_model.specs.declared.kind.Kind.TheVariants as kind
use Rattle.st_model.specs.declared.page.PageObject.TheVariants.{NilObject, ArrayClass, MethodClass}
use Rattle.st_model.specs.Values.{Value, Ref, value_of}
use Rattle.st_model.specs.Objects.{Object, place_of}
use Rattle.st_model.specs.Objects.{nil as nil_value}
use Rattle.st_model.specs.Machine.{Head, State, Step, is_there, used, is_over}
use Rattle.st_model.specs.Table.{Table, table, bounded_table}
use Rattle.st_code.specs.Methods.{PartsView}
use Rattle.st_scope.specs.declared.fault.InstallFault.{InstallFault}
use Rattle.st_scope.specs.declared.fault.InstallFault.TheVariants.{Shape}
use Rattle.st_install.specs.Plans.{PlannedValue, There, Made, NewObject, Plan, method_object, pointers_object, words_of_all, demand_of_all}
use Rattle.st_install.specs.inside.Goes.{IsHeaded}
use Rattle.st_scope.specs.Classes.{class_fields, class_association}
use Rattle.st_install.specs.Symbols.{Symbols, symbols_in, symbol_part}
use Rattle.st_install.specs.Literals.{PlacedAll, place_owner}
use Rattle.st_install.specs.Dictionaries.{Ending, Holds, Vacant, Nowhere, count_places, count_vacant, place_of_selector, is_nearly_full, grows_at, grows_for, dictionary_objects, grown_objects}
use Rattle.st_scope.specs.Shapes.{is_power_of_two, check_dictionary}
use Rattle.st_install.specs.Shapes.{check_size}
use Rattle.st_install.specs.Planning.{method_number, objects_with_method, grown_number, grown_if, sized, plan_objects, plan}
use Rattle.st_install.specs.Calls.{both, is_crowded, room_or, with_room, planned_for, planned, ready}
use Rattle.st_install.proofs.Goes.{object_at, Tells}
use Rattle.st_install.proofs.GoesMaking.{IsClassFor, CanMake, HasRoom}
use Rattle.st_install.proofs.GoesStoring.{HasFields, there_at}
use Rattle.st_install.proofs.GoesSeeking.{ending_for, table_reads, tells_places, tells_seek, nowhere_full, none_counted, vacant_among, tells_vacant}
use Rattle.st_install.proofs.GoesInstalling.{IsSoundPart, AreSoundObjects, AreSoundStores, IsDictionary, HasPlace, IsGrown, IsSoundTarget, IsSoundPlan}
use Rattle.st_install.proofs.GoesReading.{Gives, gives_told, gives_answer, gives_then, gives_next, gives_less, Any, IfAny, gives_tried, gives_check, gives_or_die, gives_page, IsField, gives_field, IsCount, gives_count, gives_bits, IsSoundTable, field_there, page_class, gives_class_of}
use Rattle.st_install.proofs.GoesPlans.{plan_with, get_seam, part_more, parts_more, objects_more, objects_append, can_make_append, parts_replicate, stores_more}
use Rattle.st_install.proofs.GoesSymbols.{has_two, gives_checked, gives_member, named_part, AreSoundSymbols, symbols_give}
use Rattle.st_install.proofs.GoesLiterals.{AreSoundPlaced, owner_gives, all_literals_give}

-- THE CLASS'S DICTIONARY

-- field 1 of the class is a dictionary with places, and a method for each of them
pub record HasDictionary (t : Table) (class : Value) : Type 0 where
  pub dictionary : Value
  pub field : IsField t class 1 dictionary
  pub is : IsDictionary t dictionary

pub same_object : (t : Table) (v : Value) (a b : Object) → object_at t v ≡ Some a → object_at t v ≡ Some b → a ≡ b
same_object t v a b e f = let q : Some a ≡ Some b = sym e ∙ f in some_same q
  where
    some_same : Some a ≡ Some b → a ≡ b
    some_same q = cc

-- a class has one dictionary
pub same_dictionary : (t : Table) (class : Value) (has : HasDictionary t class) (d : Value) → IsField t class 1 d → d ≡ has.dictionary
same_dictionary t class has d f =
    let q = same_object t class f.object has.field.object f.is has.field.is in
    let r : slice_get has.field.object.fields 1 ≡ Some d = subst (λ o. slice_get o.fields 1 ≡ Some d) q f.field in
    some_value (sym r ∙ has.field.field)
  where
    some_value : {x y : Value} → Some x ≡ Some y → x ≡ y
    some_value e = cc

some_places : (n : ℕ) → is_power_of_two n ≡ true → 0 < n
some_places n e = grind (arith, nat_tests)

module _ (s : State Table) (sound : IsSoundTable s.memory) where
  is_dictionary : (d tally methods : Value) (n : ℕ) → IsCount s.memory d n → is_power_of_two (n - 2) ≡ true → IsField s.memory d 0 tally → IsField s.memory d 1 methods → HasFields s.memory methods (n - 2)
      → IsDictionary s.memory d
  is_dictionary d tally methods n c p a b h =
      let q = c.count in
      let l = some_places (n - 2) p in
      let e = h.enough in
      record {
        object = c.object;
        is = c.is;
        pointers = c.pointers;
        places = omega (arith, q, l);
        values = sound.values d c.object c.is;
        tally = tally;
        to_tally = subst (λ o. slice_get o.fields 0 ≡ Some tally) (same_object s.memory d a.object c.object a.is c.is) a.field;
        methods = methods;
        to_methods = subst (λ o. slice_get o.fields 1 ≡ Some methods) (same_object s.memory d b.object c.object b.is c.is) b.field;
        array = h.object;
        array_is = h.is;
        array_pointers = h.pointers;
        enough = omega (arith, q, e);
        array_values = sound.values methods h.object h.is;
      }

  pub gives_dictionary : (class : Value) → Gives s (check_dictionary table class) (λ a. HasDictionary s.memory class)
  unfolding check_dictionary
  gives_dictionary class =
      gives_then s _ _ _ _ (gives_field s class 1)
      (λ d f. gives_then s _ _ _ _ (gives_count s d)
      (λ n c. gives_next s _ _ _ _ (gives_check s dead.Places (is_power_of_two (n - 2)))
      (λ u p. gives_then s _ _ _ _ (gives_field s d 0)
      (λ tally a. gives_then s _ _ _ _ (gives_bits s tally)
      (λ bits z. gives_then s _ _ _ _ (gives_field s d 1)
      (λ methods b. gives_less s _ _ _ (gives_checked s sound methods (n - 2))
      (λ w h. record { dictionary = d; field = f; is = is_dictionary d tally methods n c p a b h })))))))

  -- GROWTH

  module _ (d : Value) (h : IsDictionary s.memory d) where
    -- what is known of a step that tells
    told : {A : Type 0} (m : Step Table A) (a : A) → Tells m s.memory a → Gives s m (λ x. x ≡ a)
    told m a e = gives_told s m _ a (e s) refl

    abbrev pub DoesNotGrow : ℕ → Bool → Type 0
    DoesNotGrow n b = b ≡ false → 1 < n

    full_gives : Gives s (is_nearly_full table d) (λ b. DoesNotGrow (vacant_among h.object.fields 0 (length h.object.fields - 2)) b)
    unfolding is_nearly_full
    full_gives =
        let l = h.places in
        gives_then s _ _ _ _ (told (count_places table d) (length h.object.fields - 2) (tells_places table table_reads s.memory d h.object h.is h.pointers))
        (λ n e. gives_then s (λ k. k ≡ vacant_among h.object.fields 0 (length h.object.fields - 2)) _ _ _
        (subst (λ i. Gives s (count_vacant table d 0 i) (λ k. k ≡ vacant_among h.object.fields 0 (length h.object.fields - 2))) (sym e)
        (told _ _ (tells_vacant table table_reads s.memory d h.object 0 (length h.object.fields - 2) h.is h.pointers (omega (arith, l)))))
        (λ k f. gives_answer s _ (nat_le k 1) (λ g. grind (arith, nat_tests, f))))

    at_gives : (v : Value) (e : Ending) → ending_for s.memory h.object.fields v v ≡ e → Gives s (grows_at table d e) (λ b. b ≡ false → HasPlace s.memory h.object.fields (There v))
    unfolding grows_at
    at_gives v (Holds k) e = gives_answer s _ false (λ z f. holds (sym e ∙ f))
      where
        holds : Holds k ≡ Nowhere → ⊥
        holds q = cc
    at_gives v (Vacant k) e = gives_less s _ _ _ full_gives (λ b z g f. vacant (sym e ∙ f))
      where
        vacant : Vacant k ≡ Nowhere → ⊥
        vacant q = cc
    at_gives v Nowhere e =
        gives_less s _ _ _ full_gives
        (λ b z g f. let a = none_counted h.object.fields 0 (length h.object.fields - 2) (nowhere_full s.memory h.object.fields v v f) in let l = z g in omega (arith, a, l))

    pub grows_gives : (p : PlannedValue) → Gives s (grows_for table d p) (λ b. b ≡ false → HasPlace s.memory h.object.fields p)
    unfolding grows_for place_of_selector
    grows_gives (Made k) = gives_less s _ _ _ full_gives (λ b z g. let l = z g in omega (arith, l))
    grows_gives (There v) =
        let l = h.places in
        gives_then s _ _ _ _ (told (place_of_selector table d v) (ending_for s.memory h.object.fields v v) (tells_seek table table_reads s.memory d h.object h.is h.pointers v v (omega (arith, l))))
        (λ e f. at_gives v e (sym f))

    -- the dictionary that takes its place, and its Array of methods
    pub record IsGrowth (next : ℕ) (os : List NewObject) : Type 0 where
      pub class : Value
      pub array_class : Value
      pub tally : Value
      pub is : os ≡ dictionary_objects class tally array_class nil_value (2 * (length h.object.fields - 2)) (next + 1)
      pub class_there : IsClassFor s.memory kind.Pointers class
      pub array_there : IsClassFor s.memory kind.Pointers array_class
      pub tally_there : is_there bounded_table s.memory tally ≡ true

    growth_gives : (next : ℕ) → Gives s (grown_objects table d next) (λ os. IsGrowth next os)
    unfolding grown_objects
    growth_gives next =
        gives_then s _ _ _ _ (gives_class_of s sound d h.object h.is h.pointers)
        (λ class c. gives_then s _ _ _ _ (gives_field s d 0)
        (λ tally f. gives_then s _ _ _ _ (told (count_places table d) (length h.object.fields - 2) (tells_places table table_reads s.memory d h.object h.is h.pointers))
        (λ places e. gives_then s _ _ _ _ (gives_page s ArrayClass)
        (λ array_class a. gives_then s _ _ _ _ (gives_page s NilObject)
        (λ nil b. gives_answer s _ _ (record {
          class = class;
          array_class = array_class;
          tally = tally;
          is = ap (λ n. dictionary_objects class tally array_class n (2 * places) (next + 1)) b ∙ ap (λ n. dictionary_objects class tally array_class nil_value (2 * n) (next + 1)) e;
          class_there = c;
          array_there = page_class s sound ArrayClass kind.Pointers refl array_class a;
          tally_there = field_there s sound d 0 tally f;
        }))))))

    abbrev pub GrowsIf : ℕ → Bool → List NewObject → Type 0
    GrowsIf next true os = IsGrowth next os
    GrowsIf next false os = os ≡ []

    pub grown_gives : (next : ℕ) (b : Bool) → Gives s (grown_if table d next b) (λ os. GrowsIf next b os)
    unfolding grown_if
    grown_gives next true = growth_gives next
    grown_gives next false = gives_answer s _ [] refl

-- THE PLAN

module _ (s : State Table) (sound : IsSoundTable s.memory) (class : Value) (has : HasDictionary s.memory class) (parts : PartsView) (headed : IsHeaded parts) (header : is_there bounded_table s.memory (value_of parts.header) ≡ true) where
  module _ (symbols : Symbols) (hs : AreSoundSymbols s.memory symbols) (ls : PlacedAll) (hl : AreSoundPlaced s.memory (length symbols.objects) ls) (count : length ls.parts ≡ length parts.literals) where
    counted : (c : Value) → length (objects_with_method c parts symbols ls) ≡ length symbols.objects + length ls.objects + 1
    counted c =
        let a = length-append (symbols.objects ++ ls.objects) (method_object c (There (value_of parts.header) ∷ ls.parts) parts.bytes ∷ []) in
        let b = length-append symbols.objects ls.objects in
        omega (arith, a, b)

    method_made : (c : Value) → IsClassFor s.memory kind.Method c → CanMake s.memory (objects_with_method c parts symbols ls)
    method_made c h = can_make_append s.memory (symbols.objects ++ ls.objects) _ (can_make_append s.memory symbols.objects ls.objects hs.made hl.made) (h, (headed.small, headed.count ∙ sym count), tt)

    method_objects : (c : Value) (n : ℕ) → length symbols.objects + length ls.objects + 1 ≤ n → AreSoundObjects s.memory n (objects_with_method c parts symbols ls)
    method_objects c n l =
        objects_append s.memory n (symbols.objects ++ ls.objects) _
        (objects_append s.memory n symbols.objects ls.objects (objects_more s.memory _ n symbols.objects (omega (arith, l)) hs.objects) (objects_more s.memory _ n ls.objects (omega (arith, l)) hl.objects))
        ((header, parts_more s.memory _ n ls.parts (omega (arith, l)) hl.parts), tt)

    stores_append_all : (c : Value) (grown : List NewObject) → AreSoundStores s.memory (objects_with_method c parts symbols ls ++ grown) symbols.stores
    stores_append_all c grown =
        stores_more s.memory (objects_with_method c parts symbols ls) grown symbols.stores
        (stores_more s.memory (symbols.objects ++ ls.objects) _ symbols.stores (stores_more s.memory symbols.objects ls.objects symbols.stores hs.stores))

    -- all but what grows
    module _ (c : Value) (p : PlannedValue) (grown : List NewObject) (b : Bool) (method_class : IsClassFor s.memory kind.Method c) (selector : IsSoundPart s.memory (length symbols.objects) p)
        (made : CanMake s.memory grown) (objects : AreSoundObjects s.memory (length (objects_with_method c parts symbols ls ++ grown)) grown)
        (target : IsSoundTarget s.memory (objects_with_method c parts symbols ls ++ grown) has.is.object.fields p (grown_number b symbols ls)) where
      all_of_it : length (objects_with_method c parts symbols ls ++ grown) ≡ length symbols.objects + length ls.objects + 1 + length grown
      all_of_it = length-append (objects_with_method c parts symbols ls) grown ∙ ap (λ n. n + length grown) (counted c)

      pub plan_sound : IsSoundPlan s.memory (plan_with c class has.dictionary parts symbols ls p b grown)
      plan_sound =
          let n = all_of_it in
          record {
            made = can_make_append s.memory (objects_with_method c parts symbols ls) grown (method_made c method_class) made;
            objects = objects_append s.memory _ (objects_with_method c parts symbols ls) grown (method_objects c _ (omega (arith, n))) objects;
            stores = stores_append_all c grown;
            selector = part_more s.memory (length symbols.objects) _ p (omega (arith, n)) selector;
            method = omega (arith, n);
            class = record { object = has.field.object; is = has.field.is; pointers = has.field.pointers; enough = let l = slice_get_within has.field.object.fields 1 has.dictionary has.field.field in omega (arith, l) };
            dictionary = has.is;
            target = target;
          }

    -- where it doesn't grow
    stays : (c : Value) (p : PlannedValue) (grown : List NewObject) → IsClassFor s.memory kind.Method c → IsSoundPart s.memory (length symbols.objects) p → grown ≡ [] → HasPlace s.memory has.is.object.fields p
        → IsSoundPlan s.memory (plan_with c class has.dictionary parts symbols ls p false grown)
    stays c p grown m l e h =
        plan_sound c p grown false m l (subst (λ os. CanMake s.memory os) (sym e) tt) (subst (λ os. AreSoundObjects s.memory (length (objects_with_method c parts symbols ls ++ grown)) os) (sym e) tt) h

    module _ (c : Value) (p : PlannedValue) (grown : List NewObject) (g : IsGrowth s sound has.dictionary has.is (method_number symbols ls + 1) grown) where
      nil_part : IsSoundPart s.memory 0 (There nil_value)
      nil_part = sound.page NilObject

      growth_made : CanMake s.memory grown
      growth_made = subst (λ os. CanMake s.memory os) (sym g.is) (g.class_there, refl, (g.array_there, refl, tt))

      growth_count : length grown ≡ 2
      growth_count = ap (λ os. length os) g.is

      all_with_growth : length (objects_with_method c parts symbols ls ++ grown) ≡ length symbols.objects + length ls.objects + 3
      all_with_growth = let a = length-append (objects_with_method c parts symbols ls) grown in let b = counted c in let d = growth_count in omega (arith, a, b, d)

      growth_objects : (n : ℕ) → n ≡ length symbols.objects + length ls.objects + 3 → AreSoundObjects s.memory n grown
      growth_objects n e = subst (λ os. AreSoundObjects s.memory n os) (sym g.is)
          ((g.tally_there, (omega (arith, e), parts_replicate s.memory n _ _ nil_part)), (parts_replicate s.memory n _ _ nil_part, tt))

      grown_target : IsGrown s.memory (objects_with_method c parts symbols ls ++ grown) (method_number symbols ls + 1) (2 * (length has.is.object.fields - 2))
      grown_target =
          let a = counted c in
          record {
            dictionary = pointers_object g.class (There g.tally ∷ Made (method_number symbols ls + 1 + 1) ∷ replicate (2 * (length has.is.object.fields - 2)) (There nil_value));
            is = get_seam (objects_with_method c parts symbols ls) grown 0 (method_number symbols ls + 1) (omega (arith, a)) ∙ ap (λ os. slice_get os 0) g.is;
            pointers = refl;
            tally = g.tally;
            fields = refl;
            array = pointers_object g.array_class (replicate (2 * (length has.is.object.fields - 2)) (There nil_value));
            array_is = get_seam (objects_with_method c parts symbols ls) grown 1 (method_number symbols ls + 1 + 1) (omega (arith, a)) ∙ ap (λ os. slice_get os 1) g.is;
            array_pointers = refl;
            array_size = length-replicate _ _;
            tally_there = g.tally_there;
          }

      grows : IsClassFor s.memory kind.Method c → IsSoundPart s.memory (length symbols.objects) p
          → IsSoundPlan s.memory (plan_with c class has.dictionary parts symbols ls p true grown)
      grows m l = plan_sound c p grown true m l growth_made (growth_objects _ all_with_growth) grown_target

    either_sound : (c : Value) (p : PlannedValue) (b : Bool) (grown : List NewObject) → IsClassFor s.memory kind.Method c → IsSoundPart s.memory (length symbols.objects) p
        → (b ≡ false → HasPlace s.memory has.is.object.fields p) → GrowsIf s sound has.dictionary has.is (method_number symbols ls + 1) b grown
        → IsSoundPlan s.memory (plan_with c class has.dictionary parts symbols ls p b grown)
    either_sound c p true grown m l h g = grows c p grown g m l
    either_sound c p false grown m l h g = stays c p grown m l g (h refl)

    page_there : (c : Value) → c ≡ Ref (place_of MethodClass) → IsClassFor s.memory kind.Method c
    page_there c e = page_class s sound MethodClass kind.Method refl c e

    size_gives : (os : List NewObject) → Gives s (check_size os) Any
    unfolding check_size
    size_gives os = gives_less s _ _ _ (gives_check s dead.Field _) (λ a e. tt)

    sized_gives : (p : Plan) → IsSoundPlan s.memory p → Gives s (sized p) (λ x. IsSoundPlan s.memory x)
    unfolding sized
    sized_gives p h = gives_next s _ _ _ _ (size_gives p.objects) (λ u x. gives_answer s _ p h)

    objects_give : (p : PlannedValue) → IsSoundPart s.memory (length symbols.objects) p → Gives s (plan_objects table class parts symbols ls p) (λ x. IsSoundPlan s.memory x)
    unfolding plan_objects
    objects_give p l =
        gives_then s (λ d. d ≡ has.dictionary) _ _ _ (gives_less s _ _ _ (gives_field s class 1) (λ d f. same_dictionary s.memory class has d f))
        (λ d e. gives_then s (λ b. b ≡ false → HasPlace s.memory has.is.object.fields p) _ _ _
        (subst (λ v. Gives s (grows_for table v p) (λ b. b ≡ false → HasPlace s.memory has.is.object.fields p)) (sym e) (grows_gives s sound has.dictionary has.is p))
        (λ b h. gives_then s (λ grown. GrowsIf s sound has.dictionary has.is (method_number symbols ls + 1) b grown) _ _ _
        (subst (λ v. Gives s (grown_if table v (method_number symbols ls + 1) b) (λ grown. GrowsIf s sound has.dictionary has.is (method_number symbols ls + 1) b grown)) (sym e)
        (grown_gives s sound has.dictionary has.is (method_number symbols ls + 1) b))
        (λ grown g. gives_then s _ _ _ _ (gives_page s MethodClass)
        (λ c q. sized_gives _
        (subst (λ v. IsSoundPlan s.memory (plan_with c class v parts symbols ls p b grown)) (sym e) (either_sound c p b grown (page_there c q) l h g))))))

  pub plan_gives : (symbol_table association : Value) (meta : Bool) → HasFields s.memory association 2
      → Gives s (plan table symbol_table association class meta parts) (λ x. IsSoundPlan s.memory x)
  unfolding plan
  plan_gives symbol_table association meta a =
      gives_then s _ _ _ _ (symbols_give s sound symbol_table (parts.selector ∷ symbols_in parts.literals))
      (λ symbols hs. gives_then s (λ ls. AreSoundPlaced s.memory (length symbols.objects) ls × (length ls.parts ≡ length parts.literals)) _ _ _
      (all_literals_give s sound symbols.named (place_owner table association class meta) (length symbols.objects) hs.named
      (λ next. owner_gives s sound association class meta next a (there_at s.memory class has.field.object has.field.is)) (length symbols.objects) parts.literals (omega arith))
      (λ ls hl. gives_then s _ _ _ _ (gives_or_die s dead.Field (symbol_part symbols.named parts.selector))
      (λ p e. objects_give symbols hs ls hl.0 hl.1 p (named_part s.memory (length symbols.objects) symbols.named parts.selector p hs.named e))))

  pub association_gives : (globals : Value) (name : List ℕ) → Gives s (class_association table globals name) (λ v. HasFields s.memory v 2)
  unfolding class_association
  association_gives globals name =
      gives_then s _ _ _ _ (gives_member s sound globals name)
      (λ found h. gives_then s _ _ _ _ (gives_or_die s dead.Field found)
      (λ v e. gives_then s _ _ _ _ (gives_field s v 1)
      (λ c f. gives_next s _ _ _ _ (gives_checked s sound c class_fields)
      (λ a k. gives_answer s _ v (has_two s sound v c f)))))

  pub planned_gives : (head : Head) (name : List ℕ) (meta : Bool) → Gives s (planned table head class name meta parts) (λ x. IsSoundPlan s.memory x)
  unfolding planned planned_for
  planned_gives head name meta =
      gives_then s _ _ _ _ (gives_or_die s dead.Field head.globals)
      (λ globals e. gives_then s _ _ _ _ (association_gives globals name)
      (λ association a. gives_then s _ _ _ _ (gives_or_die s dead.Field head.symbols)
      (λ symbol_table f. plan_gives symbol_table association meta a)))

  -- ROOM

  within_head : (d : Demand) (head : Head) → is_over d head ≡ false → (d.entries ≤ head.entries) × (d.words ≤ head.words)
  within_head d head e = by_case (nat_lt head.entries d.entries) refl e
    where
      by_case : (b : Bool) → nat_lt head.entries d.entries ≡ b → (if b then true else nat_lt head.words d.words) ≡ false → (d.entries ≤ head.entries) × (d.words ≤ head.words)
      by_case true q f = cc
      by_case false q f = (grind (arith, nat_tests), grind (arith, nat_tests))

  module _ (head : Head) where
    abbrev pub RoomUnless : List NewObject → Bool → Type 0
    RoomUnless os b = b ≡ false → HasRoom head s.memory (length os) (words_of_all os)

    pub crowded_gives : (os : List NewObject) → Gives s (is_crowded table head (demand_of_all os)) (λ b. RoomUnless os b)
    unfolding is_crowded
    crowded_gives os =
        gives_told s _ _ (is_over (both (used table s.memory) (demand_of_all os)) head) refl
        (λ e. let w = within_head (both (used table s.memory) (demand_of_all os)) head e in
        record { entries = w.0; words = w.1 })

    -- the plan is sound, and its objects have room
    pub record IsReadyPlan (p : Plan) : Type 0 where
      pub plan : IsSoundPlan s.memory p
      pub room : HasRoom head s.memory (length p.objects) (words_of_all p.objects)

    abbrev pub ReadyIfOk : Result Plan InstallFault → Type 0
    ReadyIfOk (Ok p) = IsReadyPlan p
    ReadyIfOk (Err f) = Unit {0}

    room_gives : (p : Plan) (b : Bool) → IsSoundPlan s.memory p → RoomUnless p.objects b → ReadyIfOk (room_or p b)
    room_gives p true h k = tt
    room_gives p false h k = record { plan = h; room = k refl }

    with_room_gives : (p : Option Plan) → IfAny (λ x. IsSoundPlan s.memory x) p → Gives s (with_room table head p) ReadyIfOk
    unfolding with_room
    with_room_gives None h = gives_answer s ReadyIfOk (Err Shape) tt
    with_room_gives (Some p) h = gives_then s _ _ _ _ (crowded_gives p.objects) (λ b k. gives_answer s ReadyIfOk (room_or p b) (room_gives p b h k))

    pub ready_gives : (name : List ℕ) (meta : Bool) → Gives s (ready table head class name meta parts) ReadyIfOk
    unfolding ready
    ready_gives name meta = gives_then s _ _ _ _ (gives_tried s _ _ (planned_gives head name meta)) (λ p h. with_room_gives p h)
