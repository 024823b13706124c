-- What an installation leaves of the class, of its dictionary and of all else.
use Rattle.std.proofs.Common.{◌≡◌, ◌≢◌, ℕ, ◌+◌, ◌*◌, ◌<◌, ◌≤◌, zero, suc, List, [], ◌∷◌, length, Option, Some, None, true, refl, sym, ap, ◌∙◌, subst, arith, inl, inr}
use Rattle.std.specs.Prelude.{◌-◌, slice_get, get_or}
use Rattle.st_model.specs.declared.kind.Kind.TheVariants as kind
use Rattle.st_model.specs.declared.page.PageObject.TheVariants.{NilObject}
use Rattle.st_model.specs.Values.{Value}
use Rattle.st_model.specs.Objects.{Object, nil, is_pointers, is_method, with_field}
use Rattle.st_model.specs.Machine.{Head, State, Went, is_there, ◌>>=◌}
use Rattle.st_model.specs.Steps.{fetch_field}
use Rattle.st_model.specs.Table.{Table, bounded_table}
use Rattle.st_install.specs.Plans.{PlannedValue, There, Made, NewObject, FieldStore, Plan, words_of_all}
use Rattle.st_install.specs.Dictionaries.{Nowhere, place_of_selector, refill}
use Rattle.st_install.specs.Installing.{adopt, add_at, part_value, part_values, make_all, target, find_place, Placing, store_planned, fill_and_store, install}
use Rattle.st_model.proofs.Runs.{run-then, after-went}
use Rattle.st_install.proofs.Goes.{object_at, IsKept, all_kept, kept_then, there_kept, Goes, then_goes, next_goes, read_goes, answer_goes, tells_page, tells_field}
use Rattle.st_install.proofs.GoesMaking.{IsShaped, blank_kind, HasRoom, Makes, make_all_goes}
use Rattle.st_install.specs.inside.Goes.{HasHeader}
use Rattle.st_install.specs.inside.Gains.{IsNoneOf}
use Rattle.st_install.proofs.GoesFilling.{AllShaped, IsFilled, FillsAll, fill_all_goes}
use Rattle.st_install.proofs.GoesSeeking.{at_place, half_of, ending_for, bounded_reads, tells_seek, ending_within}
use Rattle.st_install.proofs.GoesRefilling.{get_set_other}
use Rattle.st_install.proofs.GoesStoring.{can_store_kept, there_at}
use Rattle.st_install.proofs.GoesInstalling.{IsSoundTarget, IsSoundPlan, IsGrown, shapes_of, are_blank, objects_there, name_at, not_made, filled_kept, stands_filled, part_filled, made_filled, stores_filled, old_stays, new_takes, names_apart, refilling, all_nil}
use Rattle.st_install.proofs.GoesReading.{IsField}
use Rattle.st_install.proofs.GoesPlanning.{same_object}
use Rattle.std.proofs.lemmas.Option.{slice_get-get_or, slice_get_within}
use Rattle.st_install.proofs.GainsPlaces.{ending_by, IsAbsent, is_place, held}
use Rattle.st_install.proofs.GainsRefilling.{get_set_same, Finds, FindsAll, Moving, none_moved, half_kept, refill_moves}
use Rattle.st_install.proofs.GainsStoring.{replaces_kept, replaces_it, replaces_other, IsNoTarget, Spares, store_all_spares, AdoptsAs, adopt_exactly, Added, add_adds}
use Rattle.st_install.proofs.GainsPlanning.{IsSymbolTarget, AreSymbolTargets, IsNext}
use Rattle.st_install.proofs.GainsClass.{ClassWith}
use Rattle.st_model.proofs.SameValues.{other_value}

-- a search in other fields finds what it found, and nothing else
pub record FindsSame (half : ℕ) (fs ms gs ns : List Value) (x : Value) : Type 0 where
  pub found : (m : Value) → Finds half fs ms x m → Finds half gs ns x m
  pub absent : IsAbsent fs x → IsAbsent gs x

-- What has come of a class with these fields, whose dictionary and Array of methods had these, and of all else but what is touched:
-- a selector has this method, and each other one what it had.
pub record Effect (t z : Table) (class : Value) (vs : List Value) (o : Object) (fs ms : List Value) (x m : Value) : Type 0 where
  pub dictionary : Value
  pub methods : Value
  pub dictionary_object : Object
  pub array : Object
  pub with : ClassWith z class dictionary methods dictionary_object array
  pub superclass : (y : Value) → slice_get o.fields 0 ≡ Some y → slice_get with.class_object.fields 0 ≡ Some y
  pub new : Finds (half_of z x) dictionary_object.fields array.fields x m
  pub same : (y : Value) → is_there bounded_table t y ≡ true → y ≢ nil → y ≢ x → FindsSame (half_of t y) fs ms dictionary_object.fields array.fields y
  pub absent : (y : Value) → y ≢ nil → y ≢ x → IsAbsent fs y → IsAbsent dictionary_object.fields y
  pub method_object : Object
  pub method_there : object_at z m ≡ Some method_object
  pub is_method : is_method method_object.kind ≡ true
  pub header : Value
  pub first : slice_get method_object.fields 0 ≡ Some header
  pub others : (y : Value) (q : Object) → object_at t y ≡ Some q → IsNoneOf vs y → object_at z y ≡ Some q
  pub kept : IsKept t z

-- the objects that were made, and what is left
pub record Leaves (head : Head) (t : Table) (p : Plan) (E : List Value → Table → Type 0) : Type 0 where
  pub made : List Value
  pub between : Table
  pub makes : (s : State Table) → s.head ≡ head → (make_all bounded_table p.objects).run (record s { memory = t }) ≡ Went made (record s { memory = between })
  pub after : Table
  pub goes : (s : State Table) → s.head ≡ head → (install bounded_table p).run (record s { memory = t }) ≡ Went tt (record s { memory = after })
  pub effect : E made after

module _ (head : Head) (t : Table) (p : Plan) (sound : IsSoundPlan t p) (association value : Value) (number : ℕ) (method_is : p.method ≡ Made number)
    (targets : AreSymbolTargets association value number p.symbol_stores) (next : IsNext number p.grown) (to_dictionary : IsField t p.class 1 p.dictionary)
    (object : NewObject) (object_is : slice_get p.objects number ≡ Some object) (object_kind : object.kind ≡ kind.Method)
    (all : FindsAll t sound.dictionary.object.fields) (association_object value_object : Object) (association_is : object_at t association ≡ Some association_object) (value_is : object_at t value ≡ Some value_object)
    (class_dictionary : p.class ≢ p.dictionary) (class_methods : p.class ≢ sound.dictionary.methods) (class_association : p.class ≢ association) (class_value : p.class ≢ value)
    (dictionary_methods : p.dictionary ≢ sound.dictionary.methods) (dictionary_association : p.dictionary ≢ association) (dictionary_value : p.dictionary ≢ value)
    (methods_association : sound.dictionary.methods ≢ association) (methods_value : sound.dictionary.methods ≢ value) where
  module _ (u : Table) (vs : List Value) (m : Makes t p.objects vs u) where
    abbrev selector : Value
    selector = part_value nil vs p.selector

    abbrev method : Value
    method = get_or vs number nil

    abbrev Ends : Table → Type 0
    Ends z =
        Effect t z p.class (p.class ∷ p.dictionary ∷ sound.dictionary.methods ∷ association ∷ value ∷ []) sound.class.object sound.dictionary.object.fields sound.dictionary.array.fields
        (part_value nil vs p.selector) (get_or vs number nil)

    number_below : number < length p.objects
    number_below = slice_get_within p.objects number object object_is

    old_apart : (x : Value) (o : Object) → object_at t x ≡ Some o → (i : ℕ) → i < length p.objects → x ≢ get_or vs i nil
    old_apart x o e i l q = not_made t u p.objects vs m x o e i (name_at t u p.objects vs m i l ∙ ap (λ y. Some y) (sym q))

    made_apart : (i k : ℕ) → i < length p.objects → k < length p.objects → i ≢ k → get_or vs i nil ≢ get_or vs k nil
    made_apart i k l n d q = d (m.apart i k (get_or vs i nil) (name_at t u p.objects vs m i l) (name_at t u p.objects vs m k n ∙ ap (λ y. Some y) (sym q)))

    no_target : (x : Value) → x ≢ association → x ≢ value → ((k : ℕ) → k < number → x ≢ get_or vs k nil) → (xs : List FieldStore) → AreSymbolTargets association value number xs → IsNoTarget vs xs x
    no_target x a b c [] h = tt
    no_target x a b c (y ∷ xs) h = (no_part x a b c y.object h.0, no_target x a b c xs h.1)
      where
        no_part : (x : Value) → x ≢ association → x ≢ value → ((k : ℕ) → k < number → x ≢ get_or vs k nil) → (q : PlannedValue) → IsSymbolTarget association value number q → x ≢ part_value nil vs q
        no_part x a b c (There v) h = elim h [
          | inl e ↦ λ r. a (r ∙ e)
          | inr e ↦ λ r. b (r ∙ e)
        ]
        no_part x a b c (Made k) h = c k h

    old_no_target : (x : Value) (o : Object) → object_at t x ≡ Some o → x ≢ association → x ≢ value → IsNoTarget vs p.symbol_stores x
    old_no_target x o e a b = no_target x a b (λ k l. let n = number_below in old_apart x o e k (omega (arith, l, n))) p.symbol_stores targets

    made_no_target : (i : ℕ) → i < length p.objects → number ≤ i → IsNoTarget vs p.symbol_stores (get_or vs i nil)
    made_no_target i l n =
        no_target (get_or vs i nil) (λ q. old_apart association association_object association_is i l (sym q)) (λ q. old_apart value value_object value_is i l (sym q))
        (λ k b. made_apart i k l (omega (arith, b, n, l)) (λ q. let z : i ≡ k = q in omega (arith, z, b, n))) p.symbol_stores targets

    module _ (w : Table) (f : FillsAll vs vs p.objects u w) where
      abbrev Gets : Option ℕ → Value → Type 0
      Gets None d = d ≡ p.dictionary
      Gets (Some k) d = Unit {0}

      -- the dictionary into which the method goes, before it does
      record Directs (grown : Option ℕ) (d : Value) (z : Table) : Type 0 where
        dictionary : Object
        is : object_at z d ≡ Some dictionary
        pointers : is_pointers dictionary.kind ≡ true
        places : 2 < length dictionary.fields
        tally : Value
        to_tally : slice_get dictionary.fields 0 ≡ Some tally
        tally_there : is_there bounded_table z tally ≡ true
        methods : Value
        to_methods : slice_get dictionary.fields 1 ≡ Some methods
        array : Object
        array_is : object_at z methods ≡ Some array
        array_pointers : is_pointers array.kind ≡ true
        enough : length dictionary.fields - 2 ≤ length array.fields
        somewhere_free : ending_for z dictionary.fields (part_value nil vs p.selector) (part_value nil vs p.selector) ≢ Nowhere
        kept : IsKept w z
        others : (x : Value) (o : Object) → object_at t x ≡ Some o → object_at z x ≡ Some o
        made_other : object_at z (get_or vs number nil) ≡ object_at w (get_or vs number nil)
        same : (x : Value) → is_there bounded_table t x ≡ true → x ≢ nil
            → FindsSame (half_of t x) sound.dictionary.object.fields sound.dictionary.array.fields dictionary.fields array.fields x
        absent : (x : Value) → x ≢ nil → IsAbsent sound.dictionary.object.fields x → IsAbsent dictionary.fields x
        no_dictionary : IsNoTarget vs p.symbol_stores d
        no_methods : IsNoTarget vs p.symbol_stores methods
        class_apart : d ≢ p.class
        class_methods_apart : methods ≢ p.class
        apart : d ≢ methods
        method_dictionary : get_or vs number nil ≢ d
        method_methods : get_or vs number nil ≢ methods
        gets : Gets grown d
        old_dictionary : (x : Value) → x ≢ p.dictionary → (o : Object) → object_at t x ≡ Some o → x ≢ d
        old_methods : (x : Value) → x ≢ sound.dictionary.methods → (o : Object) → object_at t x ≡ Some o → x ≢ methods

      stays_directs : IsSoundTarget t p.objects sound.dictionary.object.fields p.selector None → Directs None p.dictionary w
      unfolding old_stays
      stays_directs h =
          let d = sound.dictionary in
          let r = old_stays head t p sound u vs m w f h in
          record {
            dictionary = r.object;
            is = r.is;
            pointers = r.pointers;
            places = r.places;
            tally = r.tally;
            to_tally = r.to_tally;
            tally_there = r.tally_there;
            methods = r.methods;
            to_methods = r.to_methods;
            array = d.array;
            array_is = stands_filled t u p.objects vs m w f d.methods d.array d.array_is;
            array_pointers = d.array_pointers;
            enough = d.enough;
            somewhere_free = r.somewhere;
            kept = all_kept w;
            others = λ x o e. stands_filled t u p.objects vs m w f x o e;
            made_other = refl;
            same = λ x a b. record { found = λ y g. g; absent = λ g. g };
            absent = λ x d g. g;
            no_dictionary = old_no_target p.dictionary d.object d.is dictionary_association dictionary_value;
            no_methods = old_no_target d.methods d.array d.array_is methods_association methods_value;
            class_apart = λ q. class_dictionary (sym q);
            class_methods_apart = λ q. class_methods (sym q);
            apart = dictionary_methods;
            method_dictionary = λ q. old_apart p.dictionary d.object d.is number number_below (sym q);
            method_methods = λ q. old_apart d.methods d.array d.array_is number number_below (sym q);
            gets = refl;
            old_dictionary = λ x c o e. c;
            old_methods = λ x c o e. c;
          }

      module _ (k : ℕ) (after : k ≡ number + 1) (g : IsGrown t p.objects k (2 * (length sound.dictionary.object.fields - 2))) where
        k_below : k < length p.objects
        k_below = slice_get_within p.objects k g.dictionary g.is

        array_below : k + 1 < length p.objects
        array_below = slice_get_within p.objects (k + 1) g.array g.array_is

        abbrev Moves : Table → Type 0
        Moves z = Moving w (get_or vs k nil) (get_or vs (k + 1) nil) g.tally (2 * (length sound.dictionary.object.fields - 2)) (length sound.dictionary.object.fields - 2) sound.dictionary.object.fields sound.dictionary.array.fields z

        all_at_w : FindsAll w sound.dictionary.object.fields
        all_at_w j d =
            let l = is_place sound.dictionary.object.fields j d in
            let e : half_of w (at_place sound.dictionary.object.fields j) ≡ half_of t (at_place sound.dictionary.object.fields j) =
            half_kept t w (at_place sound.dictionary.object.fields j) (filled_kept t u p.objects vs m w f)
            (sound.dictionary.values (2 + j) (at_place sound.dictionary.object.fields j) (slice_get-get_or sound.dictionary.object.fields (2 + j) nil l)) in
            ap (λ h. ending_by h sound.dictionary.object.fields (at_place sound.dictionary.object.fields j)) e ∙ all j d

        moves : Goes head (refill bounded_table p.dictionary (get_or vs k nil)) w (λ c z. Moves z)
        moves =
            let d = sound.dictionary in
            let kept = filled_kept t u p.objects vs m w f in
            refill_moves head w (get_or vs k nil) (get_or vs (k + 1) nil) g.tally (2 * (length d.object.fields - 2)) (names_apart t u p.objects vs m w f k _ g)
            p.dictionary d.methods d.object d.array (stands_filled t u p.objects vs m w f p.dictionary d.object d.is) d.pointers d.to_methods
            (stands_filled t u p.objects vs m w f d.methods d.array d.array_is) d.array_pointers d.enough
            (old_apart p.dictionary d.object d.is k k_below) (old_apart p.dictionary d.object d.is (k + 1) array_below)
            (old_apart d.methods d.array d.array_is k k_below) (old_apart d.methods d.array d.array_is (k + 1) array_below)
            (λ i x e. there_kept t w x kept (d.values i x e)) (λ i x e. there_kept t w x kept (d.array_values i x e)) all_at_w
            (record { refilling = refilling t u p.objects vs m w f k _ g; moved = none_moved w d.object.fields d.array.fields all_at_w _ _ (all_nil t u p.objects vs m w f k _ g) }) (omega arith)

        module _ (z : Table) (h : Moves z) where
          still_absent : (x : Value) → x ≢ nil → IsAbsent sound.dictionary.object.fields x → IsAbsent h.refilling.dictionary.fields x
          still_absent x d a = h.moved.only x d (λ j l. other_value (at_place sound.dictionary.object.fields j) x (a j))

          moved_same : (x : Value) → is_there bounded_table t x ≡ true → x ≢ nil
              → FindsSame (half_of t x) sound.dictionary.object.fields sound.dictionary.array.fields h.refilling.dictionary.fields h.refilling.array.fields x
          moved_same x th d = record {
            found = λ y q. moved_found y q;
            absent = λ a. still_absent x d a;
          }
            where
              halves : half_of w x ≡ half_of t x
              halves = half_kept t w x (filled_kept t u p.objects vs m w f) th

              moved_found : (y : Value) → Finds (half_of t x) sound.dictionary.object.fields sound.dictionary.array.fields x y
                  → Finds (half_of t x) h.refilling.dictionary.fields h.refilling.array.fields x y
              moved_found y q =
                  let e : at_place sound.dictionary.object.fields q.place ≡ x = held sound.dictionary.object.fields x (half_of t x) q.place q.holds in
                  let c : at_place sound.dictionary.object.fields q.place ≢ nil = λ r. d (sym e ∙ r) in
                  let l = is_place sound.dictionary.object.fields q.place c in
                  let r = h.moved.moved q.place (omega (arith, l)) c y q.method in
                  subst (λ b. Finds b h.refilling.dictionary.fields h.refilling.array.fields x y) halves
                  (subst (λ v. Finds (half_of w v) h.refilling.dictionary.fields h.refilling.array.fields v y) e r)

          grows_directs : Directs (Some k) (get_or vs k nil) z
          unfolding new_takes
          grows_directs =
              let d = sound.dictionary in
              let r = h.refilling in
              let q = new_takes head t p sound u vs m w f k g z r in
              let n = r.size in
              let b = number_below in
              record {
                dictionary = q.object;
                is = q.is;
                pointers = q.pointers;
                places = q.places;
                tally = q.tally;
                to_tally = q.to_tally;
                tally_there = q.tally_there;
                methods = q.methods;
                to_methods = q.to_methods;
                array = r.array;
                array_is = r.array_is;
                array_pointers = r.array_pointers;
                enough = let a = r.array_size in omega (arith, a, n);
                somewhere_free = q.somewhere;
                kept = r.kept;
                others = λ x o e. r.others x (old_apart x o e k k_below) (old_apart x o e (k + 1) array_below) ∙ stands_filled t u p.objects vs m w f x o e;
                made_other = r.others (get_or vs number nil) (made_apart number k b k_below (λ q. omega (arith, q, after))) (made_apart number (k + 1) b array_below (λ q. omega (arith, q, after)));
                same = moved_same;
                absent = still_absent;
                no_dictionary = made_no_target k k_below (omega (arith, after));
                no_methods = made_no_target (k + 1) array_below (omega (arith, after));
                class_apart = λ q. old_apart p.class sound.class.object sound.class.is k k_below (sym q);
                class_methods_apart = λ q. old_apart p.class sound.class.object sound.class.is (k + 1) array_below (sym q);
                apart = names_apart t u p.objects vs m w f k _ g;
                method_dictionary = made_apart number k b k_below (λ q. omega (arith, q, after));
                method_methods = made_apart number (k + 1) b array_below (λ q. omega (arith, q, after));
                gets = tt;
                old_dictionary = λ x c o e. old_apart x o e k k_below;
                old_methods = λ x c o e. old_apart x o e (k + 1) array_below;
              }

      directs_go : (grown : Option ℕ) → IsNext number grown → IsSoundTarget t p.objects sound.dictionary.object.fields p.selector grown
          → Goes head (target bounded_table nil vs p.dictionary grown) w (λ d z. Directs grown d z)
      unfolding target
      directs_go None a h = answer_goes head w _ p.dictionary (stays_directs h)
      directs_go (Some k) a h = next_goes head w _ _ _ _ (moves k a h) (λ c z r. answer_goes head z _ (get_or vs k nil) (grows_directs k a h z r))

      -- STORES

      adopts_other : (z1 z2 : Table) (o : Object) (d : Value) (grown : Option ℕ) → object_at z1 p.class ≡ Some o → AdoptsAs z1 z2 p.class o d grown → (x : Value) → x ≢ p.class → object_at z2 x ≡ object_at z1 x
      adopts_other z1 z2 o d None e h x n = ap (λ y. object_at y x) h
      adopts_other z1 z2 o d (Some k) e h x n = replaces_other z1 p.class o 1 d z2 e h x n

      adopts_kept : (z1 z2 : Table) (o : Object) (d : Value) (grown : Option ℕ) → object_at z1 p.class ≡ Some o → AdoptsAs z1 z2 p.class o d grown → IsKept z1 z2
      adopts_kept z1 z2 o d None e h = subst (λ y. IsKept z1 y) (sym h) (all_kept z1)
      adopts_kept z1 z2 o d (Some k) e h = replaces_kept z1 p.class o 1 d z2 e h

      -- the class has this dictionary, and the superclass that it had
      record Adopted (z : Table) (d : Value) : Type 0 where
        class_object : Object
        class_is : object_at z p.class ≡ Some class_object
        class_pointers : is_pointers class_object.kind ≡ true
        to_it : slice_get class_object.fields 1 ≡ Some d
        first : slice_get class_object.fields 0 ≡ slice_get sound.class.object.fields 0

      class_field : slice_get sound.class.object.fields 1 ≡ Some p.dictionary
      class_field = subst (λ o. slice_get o.fields 1 ≡ Some p.dictionary) (same_object t p.class to_dictionary.object sound.class.object to_dictionary.is sound.class.is) to_dictionary.field

      adopted : (z1 z2 : Table) (d : Value) (grown : Option ℕ) → Gets grown d → object_at z1 p.class ≡ Some sound.class.object → AdoptsAs z1 z2 p.class sound.class.object d grown → Adopted z2 d
      adopted z1 z2 d None g e h = record {
        class_object = sound.class.object;
        class_is = ap (λ y. object_at y p.class) h ∙ e;
        class_pointers = sound.class.pointers;
        to_it = class_field ∙ ap (λ v. Some v) (sym g);
        first = refl;
      }
      adopted z1 z2 d (Some k) g e h = record {
        class_object = with_field sound.class.object 1 d;
        class_is = replaces_it z1 p.class sound.class.object 1 d z2 e h;
        class_pointers = sound.class.pointers;
        to_it = get_set_same sound.class.object.fields 1 d (let l = sound.class.enough in omega (arith, l));
        first = get_set_other sound.class.object.fields 1 0 d (omega arith);
      }

      shape_at : (os : List NewObject) (k : ℕ) (o : NewObject) → AllShaped os → slice_get os k ≡ Some o → IsShaped o.kind o
      shape_at [] k o h e = cc
      shape_at (x ∷ os) zero o h e = let q : x ≡ o = cc in subst (λ y. IsShaped y.kind y) q h.0
      shape_at (x ∷ os) (suc k) o h e = shape_at os k o h.1 e

      first_value : (ps : List PlannedValue) → HasHeader ps → (x : Value) × slice_get (part_values nil vs ps) 0 ≡ Some x
      first_value [] h = absurd h
      first_value (q ∷ ps) h = (part_value nil vs q, refl)

      method_headed : HasHeader object.fields
      method_headed = subst (λ k. IsShaped k object) object_kind (shape_at p.objects number object (shapes_of t p.objects sound.made) object_is)

      method_filled : IsFilled vs object (get_or vs number nil) w
      method_filled = made_filled t u p.objects vs m w f number object object_is

      module _ (d : Value) (z : Table) (h : Directs p.grown d z) where
        abbrev place : Placing
        place = record { dictionary = d; methods = h.methods; tally = h.tally; end = ending_for z h.dictionary.fields (part_value nil vs p.selector) (part_value nil vs p.selector) }

        finds_place : Goes head (find_place bounded_table d (part_value nil vs p.selector)) z (λ x y. (y ≡ z) × (x ≡ place))
        unfolding find_place place_of_selector
        finds_place =
            let l = h.places in
            read_goes head z _ (fetch_field bounded_table d 1) _ h.methods (tells_field z d h.dictionary h.is h.pointers 1 h.methods h.to_methods)
            (read_goes head z _ (fetch_field bounded_table d 0) _ h.tally (tells_field z d h.dictionary h.is h.pointers 0 h.tally h.to_tally)
            (read_goes head z _ (place_of_selector bounded_table d (part_value nil vs p.selector)) _ (ending_for z h.dictionary.fields (part_value nil vs p.selector) (part_value nil vs p.selector))
            (tells_seek bounded_table bounded_reads z d h.dictionary h.is h.pointers (part_value nil vs p.selector) (part_value nil vs p.selector) (omega (arith, l)))
            (answer_goes head z _ _ (refl, refl))))

        z_kept : IsKept t z
        z_kept = kept_then t w z (filled_kept t u p.objects vs m w f) h.kept

        selector_there : is_there bounded_table z (part_value nil vs p.selector) ≡ true
        selector_there = there_kept w z (part_value nil vs p.selector) h.kept (part_filled t u p.objects vs m w f p.selector sound.selector)

        method_there_z : is_there bounded_table z (part_value nil vs p.method) ≡ true
        method_there_z = there_kept w z (part_value nil vs p.method) h.kept (part_filled t u p.objects vs m w f p.method sound.method)

        module _ (z1 : Table) (c : Spares vs p.symbol_stores z z1) where
          class_there : object_at z1 p.class ≡ Some sound.class.object
          class_there = c.others p.class (old_no_target p.class sound.class.object sound.class.is class_association class_value) ∙ h.others p.class sound.class.object sound.class.is

          adopts : Goes head (adopt bounded_table p.class d p.grown) z1 (λ a y. AdoptsAs z1 y p.class sound.class.object d p.grown)
          adopts = adopt_exactly head z1 p.class d sound.class.object p.grown class_there sound.class.pointers (let l = sound.class.enough in omega (arith, l)) (there_kept z z1 d c.kept (there_at z d h.dictionary h.is))

          module _ (z2 : Table) (b : AdoptsAs z1 z2 p.class sound.class.object d p.grown) where
            other_at : (x : Value) → IsNoTarget vs p.symbol_stores x → x ≢ p.class → object_at z2 x ≡ object_at z x
            other_at x i j = adopts_other z1 z2 sound.class.object d p.grown class_there b x j ∙ c.others x i

            kept_at : IsKept z z2
            kept_at = kept_then z z1 z2 c.kept (adopts_kept z1 z2 sound.class.object d p.grown class_there b)

            add : Goes head (add_at bounded_table place (part_value nil vs p.selector) (part_value nil vs p.method) place.end) z2
                (λ a y. Added z2 d h.methods (part_value nil vs p.selector) (part_value nil vs p.method) h.dictionary h.array (half_of z (part_value nil vs p.selector)) y)
            add =
                add_adds head z2 place (part_value nil vs p.selector) (part_value nil vs p.method) h.dictionary h.array (half_of z (part_value nil vs p.selector))
                (other_at d h.no_dictionary h.class_apart ∙ h.is) h.pointers (other_at h.methods h.no_methods h.class_methods_apart ∙ h.array_is) h.array_pointers h.apart h.enough h.places
                (there_kept z z2 (part_value nil vs p.selector) kept_at selector_there) (there_kept z z2 (part_value nil vs p.method) kept_at method_there_z) (there_kept z z2 h.tally kept_at h.tally_there)
                refl (ending_within z h.dictionary.fields (part_value nil vs p.selector) (part_value nil vs p.selector)) h.somewhere_free

            module _ (y : Table) (r : Added z2 d h.methods (part_value nil vs p.selector) (part_value nil vs p.method) h.dictionary h.array (half_of z (part_value nil vs p.selector)) y) where
              class_at : Adopted z2 d
              class_at = adopted z1 z2 d p.grown h.gets class_there b

              y_kept : IsKept z y
              y_kept = kept_then z z2 y kept_at r.kept

              method_at_y : object_at y (get_or vs number nil) ≡ Some method_filled.object
              method_at_y =
                  r.others (get_or vs number nil) h.method_dictionary h.method_methods
                  ∙ (other_at (get_or vs number nil) (made_no_target number number_below (omega arith)) (λ q. old_apart p.class sound.class.object sound.class.is number number_below (sym q))
                  ∙ (h.made_other ∙ method_filled.is))

              effect : Ends y
              effect = record {
                dictionary = d;
                methods = h.methods;
                dictionary_object = r.dictionary;
                array = r.array;
                with = record {
                  class_object = class_at.class_object;
                  class_is = r.others p.class (λ q. h.class_apart (sym q)) (λ q. h.class_methods_apart (sym q)) ∙ class_at.class_is;
                  class_pointers = class_at.class_pointers;
                  to_dictionary = class_at.to_it;
                  is = r.is;
                  pointers = r.pointers;
                  places = let l = h.places in let n = r.size in omega (arith, l, n);
                  to_methods = r.to_methods ∙ h.to_methods;
                  array_is = r.array_is;
                  array_pointers = r.array_pointers;
                };
                superclass = λ x e. class_at.first ∙ e;
                new = subst (λ i. Finds i r.dictionary.fields r.array.fields (part_value nil vs p.selector) (get_or vs number nil)) (sym (half_kept z y (part_value nil vs p.selector) y_kept selector_there))
                    (subst (λ q. Finds (half_of z (part_value nil vs p.selector)) r.dictionary.fields r.array.fields (part_value nil vs p.selector) (part_value nil vs q)) method_is r.adds.new);
                same = λ x th n i. record {
                  found = λ q k. r.adds.same (half_of t x) x q n i ((h.same x th n).found q k);
                  absent = λ k. r.adds.absent x i ((h.same x th n).absent k);
                };
                absent = λ x n i k. r.adds.absent x i (h.absent x n k);
                method_object = method_filled.object;
                method_there = method_at_y;
                is_method = ap (λ k. is_method k) (method_filled.like.kind ∙ (blank_kind object.kind object ∙ object_kind));
                header = (first_value object.fields method_headed).0;
                first = ap (λ xs. slice_get xs 0) method_filled.fields ∙ (first_value object.fields method_headed).1;
                others = λ x o e n.
                    r.others x (h.old_dictionary x n.1.0 o e) (h.old_methods x n.1.1.0 o e)
                    ∙ (other_at x (old_no_target x o e n.1.1.1.0 n.1.1.1.1.0) n.0 ∙ h.others x o e);
                kept = kept_then t z y z_kept y_kept;
              }

        stores : Goes head (store_planned bounded_table nil vs p place) z (λ a y. Ends y)
        unfolding store_planned
        stores =
            next_goes head z _ _ _ _ (store_all_spares head z vs p.symbol_stores (can_store_kept w z vs p.symbol_stores h.kept (stores_filled t u p.objects vs m w f p.symbol_stores sound.stores)))
            (λ a z1 c. next_goes head z1 _ _ _ _ (adopts z1 c)
            (λ b z2 k. leaves z1 c z2 k (add z1 c z2 k)))
          where
            leaves : (z1 : Table) (c : Spares vs p.symbol_stores z z1) (z2 : Table) (b : AdoptsAs z1 z2 p.class sound.class.object d p.grown)
                → Goes head (add_at bounded_table place (part_value nil vs p.selector) (part_value nil vs p.method) place.end) z2
                (λ a y. Added z2 d h.methods (part_value nil vs p.selector) (part_value nil vs p.method) h.dictionary h.array (half_of z (part_value nil vs p.selector)) y)
                → Goes head (add_at bounded_table place (part_value nil vs p.selector) (part_value nil vs p.method) place.end) z2 (λ a y. Ends y)
            leaves z1 c z2 b g = record { value = g.value; next = g.next; goes = g.goes; leaves = effect z1 c z2 b g.next g.leaves }

        placed : Goes head (find_place bounded_table d (part_value nil vs p.selector) >>= (λ x. store_planned bounded_table nil vs p x)) z (λ a y. Ends y)
        placed =
            then_goes head z _ _ (find_place bounded_table d (part_value nil vs p.selector)) _ finds_place
            (λ x y e. subst (λ q. Goes head (store_planned bounded_table nil vs p q) y (λ a y. Ends y)) (sym e.1) (subst (λ q. Goes head (store_planned bounded_table nil vs p place) q (λ a y. Ends y)) (sym e.0) stores))

    fill_and_store_leaves : Goes head (fill_and_store bounded_table nil vs p) u (λ a y. Ends y)
    unfolding fill_and_store
    fill_and_store_leaves =
        next_goes head u _ _ _ _ (fill_all_goes head vs u vs p.objects (are_blank t u p.objects vs m) (shapes_of t p.objects sound.made) (objects_there t u p.objects vs m p.objects sound.objects))
        (λ a w f. then_goes head w _ _ _ _ (directs_go w f p.grown next sound.target) (λ d z h. placed w f d z h))

  install_runs : (s : State Table) (vs : List Value) (u z : Table) → (make_all bounded_table p.objects).run (record s { memory = t }) ≡ Went vs (record s { memory = u })
      → (fill_and_store bounded_table nil vs p).run (record s { memory = u }) ≡ Went tt (record s { memory = z })
      → (install bounded_table p).run (record s { memory = t }) ≡ Went tt (record s { memory = z })
  unfolding install
  install_runs s vs u z e f = let q = tells_page t NilObject s in simp (run-then, q, after-went, e, f) refl

  pub install_leaves : HasRoom head t (length p.objects) (words_of_all p.objects)
      → Leaves head t p (λ vs z. Effect t z p.class (p.class ∷ p.dictionary ∷ sound.dictionary.methods ∷ association ∷ value ∷ []) sound.class.object
      sound.dictionary.object.fields sound.dictionary.array.fields (part_value nil vs p.selector) (get_or vs number nil))
  install_leaves room =
      let g = make_all_goes head t p.objects sound.made room in
      let h = fill_and_store_leaves g.next g.value g.leaves in
      record {
        made = g.value;
        between = g.next;
        makes = g.goes;
        after = h.next;
        goes = λ s e. install_runs s g.value g.next h.next (g.goes s e) (h.goes s e);
        effect = h.leaves;
      }
