-- An orderly class gains what is installed in it.
use Rattle.std.proofs.Common.{◌≡◌, ◌≢◌, ℕ, ◌+◌, ◌<◌, ◌≤◌, zero, suc, List, [], ◌∷◌, length, Option, Some, None, Bool, true, false, Ok, refl, sym, ap, ◌∙◌, subst, arith, ◌⊎◌, inl, inr, is_some}
use Rattle.std.specs.Prelude.{◌-◌, slice_get, get_or, if◌then◌else◌}
use Rattle.std.specs.List.{AllByRecursion}
use Rattle.std.proofs.lemmas.Option.{slice_get-get_or}
use Rattle.std.proofs.lemmas.List.{get_or_past}
use Rattle.st_model.specs.declared.kind.Kind.{Kind}
use Rattle.st_model.specs.declared.kind.Kind.TheVariants as kind
use Rattle.st_model.specs.declared.page.PageObject.TheVariants.{NilObject}
use Rattle.st_model.specs.Values.{Value, Small, Ref}
use Rattle.st_model.specs.Objects.{Object, nil, is_pointers, is_method}
use Rattle.st_model.specs.Machine.{State, Went, is_there}
use Rattle.st_model.specs.Steps.{same_value, fetch_field}
use Rattle.st_model.specs.Lookup.{method_in_class, checked_method, find}
use Rattle.st_model.specs.Table.{Table, entry, table, bounded_table}
use Rattle.st_model.specs.View.{View, IsWhole, object_of, field_of}
use Rattle.st_install.specs.Plans.{Plan}
use Rattle.st_install.specs.Dictionaries.{Ending, Holds, place_of_selector}
use Rattle.st_install.specs.Installing.{part_value, make_all, install}
use Rattle.st_install.specs.inside.Goes.{IsReadyFor}
use Rattle.st_install.specs.inside.Gains.{dictionary_of, methods_of, superclasses, superclass_list, IsNoneOf, AreDifferent, touched, IsUntouched, IsOrderly, SameAnswer, IsInstalled, Gained, Gains}
use Rattle.st_install.proofs.Goes.{object_at, over, same_or_other}
use Rattle.st_install.proofs.GoesSeeking.{at_place, half_of, table_reads, tells_seek}
use Rattle.st_install.proofs.GoesStoring.{there_at}
use Rattle.st_install.proofs.GoesInstalling.{IsSoundPlan}
use Rattle.st_install.proofs.GoesReading.{IsField, IsSoundTable}
use Rattle.st_install.proofs.GoesPlanning.{same_object}
use Rattle.st_install.proofs.GoesLaw.{sound_table, header_there, idle, dictionary, plan}
use Rattle.st_install.proofs.GainsPlaces.{found_or_absent, ending_by, is_place, look_holds, look_absent, IsAbsent, other_false}
use Rattle.st_install.proofs.GainsRefilling.{FindsAll, half_kept}
use Rattle.st_install.proofs.GainsPlanning.{IsArranged, ready_arranged}
use Rattle.st_install.proofs.GainsNames.{HasTable, IsTable, names_table}
use Rattle.st_install.proofs.GainsFinding.{Alike, Free, alike_told, alike_by, alike_field, SameMethod, checked_alike, SameDictionary, class_alike, SameClass, field_is, find_alike, same_answer}
use Rattle.st_install.proofs.GainsAbsent.{class_without}
use Rattle.st_install.proofs.GainsClass.{ClassWith, table_field, found_in_class, absent_in_class, finds_method}
use Rattle.st_install.proofs.GainsEffect.{FindsSame, Effect, Leaves, install_leaves}

-- what stands in a field of a value that is there is there
module _ (t : Table) (sound : IsSoundTable t) where
  or_nil : (o : Object) (x : Value) → object_at t x ≡ Some o → (i : ℕ) → is_there bounded_table t (get_or o.fields i nil) ≡ true
  or_nil o x e i = elim (within i (length o.fields)) [
    | inl l ↦ sound.values x o e i (get_or o.fields i nil) (slice_get-get_or o.fields i nil l)
    | inr l ↦ subst (λ v. is_there bounded_table t v ≡ true) (sym (get_or_past o.fields i nil l)) (sound.page NilObject)
  ]
    where
      within : (j n : ℕ) → (j < n) ⊎ (n ≤ j)
      within j n = grind arith

  pub field_of_there : (x : Value) (i : ℕ) → is_there bounded_table t x ≡ true → is_there bounded_table t (field_of t x i) ≡ true
  unfolding field_of object_of
  field_of_there (Small n) i e = sound.page NilObject
  field_of_there (Ref n) i e = by_entry (entry t n) refl e
    where
      by_entry : (a : Option Object) → entry t n ≡ a → is_some a ≡ true → is_there bounded_table t (field_of t (Ref n) i) ≡ true
      by_entry None q f = cc
      by_entry (Some o) q f = rw q (or_nil o (Ref n) q i)

-- BEFORE AND AFTER

module _ (t after : Table) (class d ms association value x m : Value) (co o a : Object) (sound : IsSoundTable t) (before : ClassWith t class d ms o a) (class_is : before.class_object ≡ co)
    (two : 2 ≤ length co.fields) (enough : length o.fields - 2 ≤ length a.fields) (all : FindsAll t o.fields)
    (association_object value_object : Object) (association_is : object_at t association ≡ Some association_object) (association_pointers : is_pointers association_object.kind ≡ true)
    (value_is : object_at t value ≡ Some value_object) (value_pointers : is_pointers value_object.kind ≡ true)
    (e : Effect t after class (class ∷ d ∷ ms ∷ association ∷ value ∷ []) co o.fields a.fields x m) where
  abbrev five : List Value
  five = class ∷ d ∷ ms ∷ association ∷ value ∷ []

  -- what is none of the five is the same
  unchanged : (y : Value) → is_there bounded_table t y ≡ true → IsNoneOf (class ∷ d ∷ ms ∷ association ∷ value ∷ []) y → object_at after y ≡ object_at t y
  unchanged (Small n) th h = refl
  unchanged (Ref n) th h = by_entry (entry t n) refl th
    where
      by_entry : (b : Option Object) → entry t n ≡ b → is_some b ≡ true → object_at after (Ref n) ≡ object_at t (Ref n)
      by_entry None q f = cc
      by_entry (Some p) q f = e.others (Ref n) p q h ∙ sym q

  halves : (y : Value) → is_there bounded_table t y ≡ true → half_of after y ≡ half_of t y
  halves y th = half_kept t after y e.kept th

  not_both : (k : Bool) → k ≡ true → k ≡ false → ⊥
  not_both true q r = cc
  not_both false q r = cc

  -- what is of another kind is none of them
  none_of_five : (y : Value) (p : Object) → object_at t y ≡ Some p → is_pointers p.kind ≡ false → IsNoneOf (class ∷ d ∷ ms ∷ association ∷ value ∷ []) y
  none_of_five y p q f = (
    other class before.class_object before.class_is before.class_pointers,
    (
      other d o before.is before.pointers,
      (
        other ms a before.array_is before.array_pointers,
        (other association association_object association_is association_pointers, (other value value_object value_is value_pointers, tt)),
      ),
    ),
  )
    where
      other : (z : Value) (b : Object) → object_at t z ≡ Some b → is_pointers b.kind ≡ true → y ≢ z
      other z b g k r = not_both (is_pointers b.kind) k (subst (λ (c : Object). is_pointers c.kind ≡ false) (same_object t y p b q (ap (λ v. object_at t v) r ∙ g)) f)

  no_method : (p : Object) → is_pointers p.kind ≡ true → is_method p.kind ≡ false
  no_method p f = by_kind p.kind f
    where
      by_kind : (k : Kind) → is_pointers k ≡ true → is_method k ≡ false
      by_kind kind.Pointers f = refl
      by_kind kind.Words f = refl
      by_kind kind.Bytes f = refl
      by_kind kind.Method f = sym f

  same_method : (y : Value) → is_there bounded_table t y ≡ true → SameMethod t after y
  same_method (Small n) th = inl refl
  same_method (Ref n) th = by_entry (entry t n) refl th
    where
      by_pointers : (p : Object) (b : Bool) → entry t n ≡ Some p → is_pointers p.kind ≡ b → SameMethod t after (Ref n)
      by_pointers p true q f =
          let r = e.kept.at (Ref n) p q in
          inr (record { old = p; new = r.object; was = q; is = r.is; no_old = no_method p f; no_new = ap is_method r.like.kind ∙ no_method p f })
      by_pointers p false q f = inl (unchanged (Ref n) (rw q refl) (none_of_five (Ref n) p q f))

      by_entry : (b : Option Object) → entry t n ≡ b → is_some b ≡ true → SameMethod t after (Ref n)
      by_entry None q f = cc
      by_entry (Some p) q f = by_pointers p (is_pointers p.kind) q refl

  -- the class keeps its superclass
  above_alike : Alike t after (fetch_field table class 0) (λ v. IsField t class 0 v)
  above_alike =
      let g : slice_get co.fields 0 ≡ Some (get_or co.fields 0 nil) = slice_get-get_or co.fields 0 nil (omega (arith, two)) in
      let k : slice_get before.class_object.fields 0 ≡ Some (get_or co.fields 0 nil) = subst (λ c. slice_get c.fields 0 ≡ Some (get_or co.fields 0 nil)) (sym class_is) g in
      alike_told t after (λ v. IsField t class 0 v) (fetch_field table class 0) (get_or co.fields 0 nil)
      (table_field t class before.class_object before.class_is before.class_pointers 0 (get_or co.fields 0 nil) k)
      (table_field after class e.with.class_object e.with.class_is e.with.class_pointers 0 (get_or co.fields 0 nil) (e.superclass (get_or co.fields 0 nil) g))
      (record { object = before.class_object; is = before.class_is; pointers = before.class_pointers; field = k })

  -- the class itself
  module _ (y : Value) (th : is_there bounded_table t y ≡ true) (not_nil : y ≢ nil) (other : y ≢ x) where
    same_here : FindsSame (half_of t y) o.fields a.fields e.dictionary_object.fields e.array.fields y
    same_here = e.same y th not_nil other

    found_alike : (j : ℕ) → at_place o.fields j ≡ y → Alike t after (method_in_class table class y) Free
    found_alike j q =
        let l : 2 + j < length o.fields = is_place o.fields j (λ r. not_nil (sym q ∙ r)) in
        let k : j < length a.fields = omega (arith, l, enough) in
        let z : Value = get_or a.fields j nil in
        let g : slice_get a.fields j ≡ Some (get_or a.fields j nil) = slice_get-get_or a.fields j nil k in
        let h : ending_by (half_of t y) o.fields y ≡ Holds j = subst (λ v. ending_by (half_of t v) o.fields v ≡ Holds j) q (all j (λ r. not_nil (sym q ∙ r))) in
        let f = same_here.found (get_or a.fields j nil) (record { place = j; holds = h; method = g }) in
        let b : ending_by (half_of after y) e.dictionary_object.fields y ≡ Holds f.place = ap (λ i. ending_by i e.dictionary_object.fields y) (halves y th) ∙ f.holds in
        alike_by t after Free (method_in_class table class y) (checked_method table (get_or a.fields j nil))
        (λ s. found_in_class t class d ms o a before y s j (get_or a.fields j nil) (look_holds t o.fields y j h) g)
        (λ s. found_in_class after class e.dictionary e.methods e.dictionary_object e.array e.with y s f.place (get_or a.fields j nil) (look_holds after e.dictionary_object.fields y f.place b) f.method)
        (checked_alike t after (get_or a.fields j nil) (same_method (get_or a.fields j nil) (sound.values ms a before.array_is j (get_or a.fields j nil) g)))

    absent_alike : IsAbsent o.fields y → Alike t after (method_in_class table class y) Free
    absent_alike h =
        alike_told t after Free (method_in_class table class y) None
        (λ s. absent_in_class t class d ms o a before y s (look_absent t o.fields y h))
        (λ s. absent_in_class after class e.dictionary e.methods e.dictionary_object e.array e.with y s (look_absent after e.dictionary_object.fields y (same_here.absent h))) tt

    here_alike : Alike t after (method_in_class table class y) Free
    here_alike = elim (found_or_absent o.fields y not_nil) [
      | inl h ↦ found_alike h.0 h.1
      | inr h ↦ absent_alike h
    ]

    -- another class
    other_class : (c : Value) → is_there bounded_table t c ≡ true → IsUntouched t (class ∷ d ∷ ms ∷ association ∷ value ∷ []) c → SameClass t after y c
    other_class c c_there h = record {
      methods = class_alike t after c y (unchanged c c_there h.itself) (λ i f. of_dictionary i f) (halves y th);
      above = alike_field t after c 0 (unchanged c c_there h.itself);
    }
      where
        of_dictionary : (i : Value) → IsField t c 1 i → SameDictionary t after i
        of_dictionary i f =
            let q : dictionary_of t c ≡ i = field_is t after c i 1 f in
            let i_there = sound.values c f.object f.is 1 i f.field in
            let j : (k : Value) → IsField t i 1 k → methods_of t c ≡ k = λ k g. ap (λ v. field_of t v 1) q ∙ field_is t after i k 1 g in
            record {
              itself = unchanged i i_there (subst (λ v. IsNoneOf (class ∷ d ∷ ms ∷ association ∷ value ∷ []) v) q h.dictionary);
              methods = λ k g. unchanged k (sound.values i g.object g.is 1 k g.field) (subst (λ v. IsNoneOf (class ∷ d ∷ ms ∷ association ∷ value ∷ []) v) (j k g) h.methods);
              all = λ k n z g b. same_method z (sound.values k b.object b.is n z b.field);
            }

    each_class : (c : Value) → is_there bounded_table t c ≡ true → (c ≢ class → IsUntouched t (class ∷ d ∷ ms ∷ association ∷ value ∷ []) c) → SameClass t after y c
    each_class c c_there h = elim (same_or_other c class) [
      | inl q ↦ subst (λ v. SameClass t after y v) (sym q) (record { methods = here_alike; above = above_alike })
      | inr n ↦ other_class c c_there (h n)
    ]

  -- a selector that wasn't there, as one that was made only now: no dictionary of the old table has it
  module _ (y : Value) (gone : is_there bounded_table t y ≡ false) (not_nil : y ≢ nil) (other : y ≢ x) where
    never : (o : Object) (v : Value) → object_at t v ≡ Some o → IsAbsent o.fields y
    never o v f j =
        other_false (at_place o.fields j) y
        (λ q. not_both (is_there bounded_table t y) (subst (λ z. is_there bounded_table t z ≡ true) q (or_nil t sound o v f (2 + j))) gone)

    gone_here : Alike t after (method_in_class table class y) Free
    gone_here =
        alike_told t after Free (method_in_class table class y) None
        (λ s. absent_in_class t class d ms o a before y s (look_absent t o.fields y (never o d before.is)))
        (λ s. absent_in_class after class e.dictionary e.methods e.dictionary_object e.array e.with y s (look_absent after e.dictionary_object.fields y (e.absent y not_nil other (never o d before.is)))) tt

    gone_other : (c : Value) → is_there bounded_table t c ≡ true → IsUntouched t (class ∷ d ∷ ms ∷ association ∷ value ∷ []) c → SameClass t after y c
    gone_other c c_there h = record {
      methods = class_without t after c y (unchanged c c_there h.itself) (λ i f. same_dictionary i f) (λ i o f g. never o i g);
      above = alike_field t after c 0 (unchanged c c_there h.itself);
    }
      where
        same_dictionary : (i : Value) → IsField t c 1 i → object_at after i ≡ object_at t i
        same_dictionary i f =
            unchanged i (sound.values c f.object f.is 1 i f.field) (subst (λ v. IsNoneOf (class ∷ d ∷ ms ∷ association ∷ value ∷ []) v) (field_is t after c i 1 f) h.dictionary)

    gone_class : (c : Value) → is_there bounded_table t c ≡ true → (c ≢ class → IsUntouched t (class ∷ d ∷ ms ∷ association ∷ value ∷ []) c) → SameClass t after y c
    gone_class c c_there h = elim (same_or_other c class) [
      | inl q ↦ subst (λ v. SameClass t after y v) (sym q) (record { methods = gone_here; above = above_alike })
      | inr n ↦ gone_other c c_there (h n)
    ]

  module _ (y : Value) (each : (c : Value) → is_there bounded_table t c ≡ true → (c ≢ class → IsUntouched t (class ∷ d ∷ ms ∷ association ∷ value ∷ []) c) → SameClass t after y c) where
    all_if : (P Q : Value → Type 0) (b : Bool) (c : Value) (cs : List Value) → (P c → Q c) → (AllByRecursion P cs → AllByRecursion Q cs) → AllByRecursion P (if b then [] else c ∷ cs) → AllByRecursion Q (if b then [] else c ∷ cs)
    all_if P Q true c cs f g h = tt
    all_if P Q false c cs f g h = (f h.0, g h.1)

    all_classes : (left : ℕ) (c : Value) → is_there bounded_table t c ≡ true
        → AllByRecursion (λ v. v ≢ class → IsUntouched t (class ∷ d ∷ ms ∷ association ∷ value ∷ []) v) (superclasses t left c) → AllByRecursion (λ v. SameClass t after y v) (superclasses t left c)
    unfolding superclasses
    all_classes zero c c_there h = tt
    all_classes (suc left) c c_there h =
        all_if (λ v. v ≢ class → IsUntouched t (class ∷ d ∷ ms ∷ association ∷ value ∷ []) v) (λ v. SameClass t after y v) (same_value c nil) c (superclasses t left (field_of t c 0))
        (λ k. each c c_there k) (λ k. all_classes left (field_of t c 0) (field_of_there t sound c 0 c_there) k) h

    finds_by : AllByRecursion (λ v. v ≢ class → IsUntouched t (class ∷ d ∷ ms ∷ association ∷ value ∷ []) v) (superclass_list t class) → Alike t after (find table class y) Free
    unfolding superclass_list
    finds_by h = find_alike t after class y (all_classes 32767 class (there_at t class before.class_object before.class_is) h)

  pub finds_same : (y : Value) → y ≢ nil → y ≢ x → AllByRecursion (λ v. v ≢ class → IsUntouched t (class ∷ d ∷ ms ∷ association ∷ value ∷ []) v) (superclass_list t class) → Alike t after (find table class y) Free
  finds_same y not_nil other h = by_there (is_there bounded_table t y) refl
    where
      by_there : (b : Bool) → is_there bounded_table t y ≡ b → Alike t after (find table class y) Free
      by_there true q = finds_by y (each_class y q not_nil other) h
      by_there false q = finds_by y (gone_class y q not_nil other) h

-- THE LAW

object_of_at : (t : Table) (x : Value) (o : Object) → object_at t x ≡ Some o → object_of t x ≡ o
unfolding object_of
object_of_at t (Small n) o e = cc
object_of_at t (Ref n) o e = rw e refl

field_of_at : (t : Table) (x : Value) (o : Object) (i : ℕ) → object_at t x ≡ Some o → field_of t x i ≡ get_or o.fields i nil
unfolding field_of
field_of_at t x o i e = ap (λ (q : Object). get_or q.fields i nil) (object_of_at t x o e)

same_ending : (a b : Ending) (s u : State Table) → Went a s ≡ Went b u → a ≡ b
same_ending a b s u e = cc

same_made : (a b : List Value) (s u : State Table) → Went a s ≡ Went b u → a ≡ b
same_made a b s u e = cc

same_state : (a b : Unit {0}) (s u : State Table) → Went a s ≡ Went b u → s ≡ u
same_state a b s u e = cc

module _ (v : View) (p : Plan) (whole : IsWhole v) (h : IsReadyFor v p) (association : Value) (symbols : v.head.symbols ≡ Some association) (orderly : IsOrderly v.objects h.class association) where
  sound : IsSoundTable v.objects
  sound = sound_table v whole

  good : IsSoundPlan v.objects p
  good = (plan v p whole h).plan

  has_table : HasTable v.objects association
  has_table = subst (λ x. IsTable v.objects x) symbols ((names_table (idle v) (sound_table v whole) v.head h.class h.meta h.tree).gives (Ok h.seen) (idle v) (h.named (idle v) refl)).1

  arranged : IsArranged (idle v) (sound_table v whole) association has_table.value has_table.field h.class p
  arranged =
      ((ready_arranged (idle v) (sound_table v whole) association has_table.value has_table.field h.class (dictionary v p whole h) h.parts h.headed (header_there v.objects h.parts h.headed) v.head symbols h.name h.meta).gives
      (Ok p) (idle v) (h.ready (idle v) refl)).1

  class_field : IsField v.objects p.class 1 p.dictionary
  class_field = subst (λ x. IsField v.objects x 1 p.dictionary) (sym arranged.class) arranged.dictionary

  in_order : IsOrderly v.objects p.class association
  in_order = subst (λ x. IsOrderly v.objects x association) (sym arranged.class) orderly

  its_dictionary : dictionary_of v.objects p.class ≡ p.dictionary
  its_dictionary = field_is v.objects v.objects p.class p.dictionary 1 class_field

  its_methods : methods_of v.objects p.class ≡ good.dictionary.methods
  its_methods =
      ap (λ x. field_of v.objects x 1) its_dictionary
      ∙ field_is v.objects v.objects p.dictionary good.dictionary.methods 1 (record { object = good.dictionary.object; is = good.dictionary.is; pointers = good.dictionary.pointers; field = good.dictionary.to_methods })

  its_value : field_of v.objects association 1 ≡ has_table.value
  its_value = field_is v.objects v.objects association has_table.value 1 has_table.field

  are_touched : touched v.objects p.class association ≡ p.class ∷ p.dictionary ∷ good.dictionary.methods ∷ association ∷ has_table.value ∷ []
  are_touched =
      ap (λ y. p.class ∷ y ∷ methods_of v.objects p.class ∷ association ∷ field_of v.objects association 1 ∷ []) its_dictionary
      ∙ (ap (λ y. p.class ∷ p.dictionary ∷ y ∷ association ∷ field_of v.objects association 1 ∷ []) its_methods
      ∙ ap (λ y. p.class ∷ p.dictionary ∷ good.dictionary.methods ∷ association ∷ y ∷ []) its_value)

  different : AreDifferent (p.class ∷ p.dictionary ∷ good.dictionary.methods ∷ association ∷ has_table.value ∷ [])
  different = subst (λ vs. AreDifferent vs) are_touched in_order.different

  untouched : AllByRecursion (λ c. c ≢ p.class → IsUntouched v.objects (p.class ∷ p.dictionary ∷ good.dictionary.methods ∷ association ∷ has_table.value ∷ []) c) (superclass_list v.objects p.class)
  untouched = subst (λ vs. AllByRecursion (λ c. c ≢ p.class → IsUntouched v.objects vs c) (superclass_list v.objects p.class)) are_touched in_order.others

  at_its_place : (j : ℕ) → at_place good.dictionary.object.fields j ≢ nil
      → (place_of_selector table p.dictionary (at_place good.dictionary.object.fields j)).run (idle v) ≡ Went (Holds j) (idle v)
  at_its_place j n =
      let l = is_place good.dictionary.object.fields j n in
      let f : field_of v.objects (dictionary_of v.objects p.class) (2 + j) ≡ at_place good.dictionary.object.fields j =
      ap (λ x. field_of v.objects x (2 + j)) its_dictionary ∙ field_of_at v.objects p.dictionary good.dictionary.object (2 + j) good.dictionary.is in
      let o : object_of v.objects (dictionary_of v.objects p.class) ≡ good.dictionary.object =
      ap (λ x. object_of v.objects x) its_dictionary ∙ object_of_at v.objects p.dictionary good.dictionary.object good.dictionary.is in
      let r = in_order.places j (subst (λ (q : Object). 2 + j < length q.fields) (sym o) l) (λ q. n (sym f ∙ q)) (idle v) refl in
      subst (λ x. (place_of_selector table x (at_place good.dictionary.object.fields j)).run (idle v) ≡ Went (Holds j) (idle v)) its_dictionary
      (subst (λ x. (place_of_selector table (dictionary_of v.objects p.class) x).run (idle v) ≡ Went (Holds j) (idle v)) f r)

  all_found : FindsAll v.objects good.dictionary.object.fields
  unfolding place_of_selector
  all_found j n =
      let l = good.dictionary.places in
      let x : Value = at_place good.dictionary.object.fields j in
      let r = tells_seek table table_reads v.objects p.dictionary good.dictionary.object good.dictionary.is good.dictionary.pointers (at_place good.dictionary.object.fields j) (at_place good.dictionary.object.fields j)
      (omega (arith, l)) (idle v) in
      same_ending _ _ (idle v) (idle v) (sym r ∙ at_its_place j n)

  left : Leaves v.head v.objects p (λ vs z. Effect v.objects z p.class (p.class ∷ p.dictionary ∷ good.dictionary.methods ∷ association ∷ has_table.value ∷ []) good.class.object
      good.dictionary.object.fields good.dictionary.array.fields (part_value nil vs p.selector) (get_or vs arranged.number nil))
  left =
      let d = different in
      install_leaves v.head v.objects p good association has_table.value arranged.number arranged.method arranged.stores arranged.grown class_field arranged.object arranged.is arranged.kind all_found
      has_table.field.object has_table.is.object has_table.field.is has_table.is.is d.0.0 d.0.1.0 d.0.1.1.0 d.0.1.1.1.0 d.1.0.0 d.1.0.1.0 d.1.0.1.1.0 d.1.1.0.0 d.1.1.0.1.0 (plan v p whole h).room

  before : ClassWith v.objects p.class p.dictionary good.dictionary.methods good.dictionary.object good.dictionary.array
  before = record {
    class_object = good.class.object;
    class_is = good.class.is;
    class_pointers = good.class.pointers;
    to_dictionary = subst (λ (o : Object). slice_get o.fields 1 ≡ Some p.dictionary) (same_object v.objects p.class class_field.object good.class.object class_field.is good.class.is) class_field.field;
    is = good.dictionary.is;
    pointers = good.dictionary.pointers;
    places = good.dictionary.places;
    to_methods = good.dictionary.to_methods;
    array_is = good.dictionary.array_is;
    array_pointers = good.dictionary.array_pointers;
  }

  before_class : before.class_object ≡ good.class.object
  unfolding before
  before_class = refl

  module _ (s : State Table) where
    new_found : (find table p.class (part_value nil left.made p.selector)).run (over s left.after) ≡ Went (Some (get_or left.made arranged.number nil)) (over s left.after)
    new_found =
        let e = left.effect in
        finds_method left.after p.class e.dictionary e.methods e.dictionary_object e.array e.with (part_value nil left.made p.selector) (get_or left.made arranged.number nil) e.new.place e.method_object in_order.not_nil
        (look_holds left.after e.dictionary_object.fields (part_value nil left.made p.selector) e.new.place e.new.holds) e.new.method e.method_there e.is_method e.header e.first s

    others_found : (x : Value) → x ≢ nil → x ≢ part_value nil left.made p.selector
        → SameAnswer ((find table p.class x).run (over s v.objects)) ((find table p.class x).run (over s left.after))
    others_found x n d =
        same_answer v.objects left.after s _ _
        ((finds_same v.objects left.after p.class p.dictionary good.dictionary.methods association has_table.value (part_value nil left.made p.selector) (get_or left.made arranged.number nil)
        good.class.object good.dictionary.object good.dictionary.array (sound_table v whole) before before_class good.class.enough good.dictionary.enough all_found
        has_table.field.object has_table.is.object has_table.field.is has_table.field.pointers has_table.is.is has_table.is.pointers left.effect x n d untouched).alike s)

    gained_here : Gained p p.class (over s v.objects) left.made (over s left.after)
    gained_here = record {
      new = subst (λ m. (find table p.class (part_value nil left.made p.selector)).run (over s left.after) ≡ Went (Some m) (over s left.after)) (sym (ap (λ q. part_value nil left.made q) arranged.method)) new_found;
      others = others_found;
    }

    module _ (u : State Table) (made : List Value) (e : s.memory ≡ v.objects) (f : s.head ≡ v.head) (i : IsInstalled p s made u) where
      from_here : s ≡ over s v.objects
      from_here = ap (λ t. over s t) e

      made_are : left.made ≡ made
      made_are = same_made _ _ _ _ (sym (left.makes s f) ∙ (ap (λ x. (make_all bounded_table p.objects).run x) (sym from_here) ∙ i.makes))

      ends_there : over s left.after ≡ u
      ends_there = same_state tt tt _ _ (sym (left.goes s f) ∙ (ap (λ x. (install bounded_table p).run x) (sym from_here) ∙ i.installs))

      gained : Gained p h.class s made u
      gained =
          subst (λ c. Gained p c s made u) arranged.class
          (subst (λ x. Gained p p.class x made u) (sym from_here)
          (subst (λ m. Gained p p.class (over s v.objects) m u) made_are
          (subst (λ x. Gained p p.class (over s v.objects) left.made x) ends_there gained_here)))

pub gains : Gains
gains v p whole h association symbols orderly s u made e f i = gained v p whole h association symbols orderly s u made e f i
