-- The plan of an installation names only objects that are among those to which its class and the symbol table lead; what is made for
-- literals aside.
use Rattle.std.proofs.Common.{◌≡◌, ℕ, zero, suc, ◌+◌, ◌*◌, ◌<◌, ◌≤◌, List, [], ◌∷◌, ◌++◌, length, Option, Some, None, Bool, true, false, Result, Ok, Err, refl, subst, arith, length-append, ◌⊎◌, inl, inr}
use Rattle.std.specs.Prelude.{map, replicate, slice_set, find, option_map, bytes_eq, if◌then◌else◌}
use Rattle.std.specs.List.{AllByRecursion}
use Rattle.st_model.specs.declared.dead.Dead.{Dead}
use Rattle.st_model.specs.declared.page.PageObject.TheVariants.{NilObject, ArrayClass, SymbolClass, StringClass, LargeClass, Characters, MethodClass}
use Rattle.st_model.specs.Values.{Value, Small, Ref, value_of, IsLive, AllLive}
use Rattle.st_model.specs.Objects.{is_pointers}
use Rattle.st_model.specs.Machine.{State, Step, Head, answer}
use Rattle.st_model.specs.Births.{Births, births}
use Rattle.st_model.specs.Steps.{or_die, of_page, object_at}
use Rattle.st_scan.specs.declared.token.Signed.{Signed}
use Rattle.st_emit.specs.Literals.{LiteralView, LiteralsView}
use Rattle.st_emit.specs.Literals as literals
use Rattle.st_code.specs.Methods.{PartsView}
use Rattle.st_simulation.proofs.Same.{Anything, IsLiveOption}
use Rattle.st_scope.specs.declared.fault.InstallFault.{InstallFault}
use Rattle.st_scope.specs.declared.fault.InstallFault.TheVariants.{NoClass}
use Rattle.st_scope.specs.Tables.{check_fields, bytes_of, member_key, member_name, has_name, is_text, found_or, first_from, first_field, member_named}
use Rattle.st_scope.specs.Classes.{class_association, class_on_side, class_named}
use Rattle.st_scope.specs.Calls.{or_fault, class_among, class_of_name}
use Rattle.st_install.specs.Plans.{PlannedValue, There, Made, NewObject, FieldStore, Plan, bytes_object, pointers_object, method_object}
use Rattle.st_install.specs.Symbols.{symbol_text, is_symbol, symbol_named, NamedSymbol, symbol_part, Symbols, grown_fields, symbol_in_field, symbol_in_array, with_new_symbol, make_symbol, found_or_made, seek_unless, with_symbol, with_symbols, symbols_there, symbols_for}
use Rattle.st_install.specs.Literals.{Placed, PlacedAll, place_size, place_signed, place_number, place_character, place_string, place_symbol, place_pointer, place_array, place_owner, place_literal, place_members, place_literals}
use Rattle.st_install.specs.Dictionaries.{Ending, Holds, Vacant, Nowhere, ends_at, seek_at, seek_among, seek_from, count_places, seek, place_of_selector, count_vacant, is_nearly_full, grows_at, grows_for, dictionary_objects, grown_objects}
use Rattle.st_install.specs.Planning.{method_number, objects_with_method, grown_number, grown_if, sized, plan_objects, plan}
use Rattle.st_install.specs.Shapes.{check_size}
use Rattle.st_install.specs.Calls.{is_crowded, room_or, with_room, planned_for, planned, ready}
use Rattle.st_install.specs.inside.SamePlans.{IsLiveClass}
use Rattle.st_kernel.proofs.Keeping.{IsIn, IsOther, Leads, Keeps, then_keeps, next_keeps, answer_keeps, die_keeps, keeps_as, tried_keeps, check_keeps, or_die_keeps, half_keeps, object_keeps, page_keeps, class_keeps, field_keeps, count_keeps, fields_keep, check_class_keeps}

-- LISTS

module _ {A : Type 0} where
  pub all_as : (P Q : A → Type 0) → ((a : A) → P a → Q a) → (xs : List A) → AllByRecursion P xs → AllByRecursion Q xs
  all_as P Q f [] h = tt
  all_as P Q f (x ∷ xs) h = (f x h.0, all_as P Q f xs h.1)

  pub all_more : (P : A → Type 0) (xs ys : List A) → AllByRecursion P xs → AllByRecursion P ys → AllByRecursion P (xs ++ ys)
  all_more P [] ys h k = k
  all_more P (x ∷ xs) ys h k = (h.0, all_more P xs ys h.1 k)

  pub all_set : (P : A → Type 0) (xs : List A) (i : ℕ) (x : A) → AllByRecursion P xs → P x → AllByRecursion P (slice_set xs i x)
  all_set P [] i x h k = tt
  all_set P (y ∷ xs) zero x h k = (k, h.1)
  all_set P (y ∷ xs) (suc i) x h k = (h.0, all_set P xs i x h.1 k)

  pub all_copies : (P : A → Type 0) (n : ℕ) (x : A) → P x → AllByRecursion P (replicate n x)
  all_copies P zero x h = tt
  all_copies P (suc n) x h = (h, all_copies P n x h)

-- PARTS OF PLANS: what is there is among these objects, and what is made has one of these numbers

abbrev pub IsPartIn : (K C : ℕ → Type 0) → PlannedValue → Type 0
IsPartIn K C (There v) = IsLive K v
IsPartIn K C (Made k) = C k

pub record IsNewIn (K C : ℕ → Type 0) (o : NewObject) : Type 0 where
  pub class : IsLive K o.class
  pub fields : is_pointers o.kind ≡ true → AllByRecursion (IsPartIn K C) o.fields

pub record IsStoreIn (K C : ℕ → Type 0) (s : FieldStore) : Type 0 where
  pub object : IsPartIn K C s.object
  pub value : IsPartIn K C s.value

abbrev pub IsNamedIn : (K C : ℕ → Type 0) → NamedSymbol → Type 0
IsNamedIn K C s = IsPartIn K C s.part

pub record AreSymbolsIn (K C : ℕ → Type 0) (s : Symbols) : Type 0 where
  pub table : IsPartIn K C s.table
  pub fields : AllByRecursion (IsPartIn K C) s.fields
  pub objects : AllByRecursion (IsNewIn K C) s.objects
  pub stores : AllByRecursion (IsStoreIn K C) s.stores
  pub named : AllByRecursion (IsNamedIn K C) s.named

module _ (K C D : ℕ → Type 0) (more : (k : ℕ) → C k → D k) where
  part_up : (p : PlannedValue) → IsPartIn K C p → IsPartIn K D p
  part_up (There v) h = h
  part_up (Made k) h = more k h

  new_up : (o : NewObject) → IsNewIn K C o → IsNewIn K D o
  new_up o h = record { class = h.class; fields = λ e. all_as (IsPartIn K C) (IsPartIn K D) part_up o.fields (h.fields e) }

  pub symbols_up : (s : Symbols) → AreSymbolsIn K C s → AreSymbolsIn K D s
  symbols_up s h = record {
    table = part_up s.table h.table;
    fields = all_as (IsPartIn K C) (IsPartIn K D) part_up s.fields h.fields;
    objects = all_as (IsNewIn K C) (IsNewIn K D) new_up s.objects h.objects;
    stores = all_as (IsStoreIn K C) (IsStoreIn K D) (λ x k. record { object = part_up x.object k.object; value = part_up x.value k.value }) s.stores h.stores;
    named = all_as (IsNamedIn K C) (IsNamedIn K D) (λ x k. part_up x.part k) s.named h.named;
  }

-- of all objects that are made for symbols
abbrev pub Below : Symbols → ℕ → Type 0
Below s k = k < length s.objects

abbrev pub IsWith : (K : ℕ → Type 0) → Symbols → Type 0
IsWith K s = AreSymbolsIn K (Below s) s

module _ (K : ℕ → Type 0) (nil array symbol association : Value) (text : List ℕ) (n : IsLive K nil) (a : IsLive K array) (c : IsLive K symbol) (l : IsLive K association)
    (s : Symbols) (h : IsWith K s) where
  in_field : IsWith K (symbol_in_field nil array symbol association text s)
  in_field =
      let t = symbol_in_field nil array symbol association text s in
      let e : length t.objects ≡ length s.objects + 1 = length-append s.objects (bytes_object symbol text ∷ []) in
      let k = symbols_up K (Below s) (Below t) (λ k b. omega (arith, b, e)) s h in
      let m : Below t (length s.objects) = omega (arith, e) in
      record {
        table = k.table;
        fields = all_set (IsPartIn K (Below t)) s.fields _ (Made (length s.objects)) k.fields m;
        objects = all_more (IsNewIn K (Below t)) s.objects _ k.objects (record { class = c; fields = λ q. cc }, tt);
        stores = all_more (IsStoreIn K (Below t)) s.stores _ k.stores (record { object = k.table; value = m }, tt);
        named = all_more (IsNamedIn K (Below t)) s.named _ k.named (m, tt);
      }

  in_array : IsWith K (symbol_in_array nil array symbol association text s)
  in_array =
      let t = symbol_in_array nil array symbol association text s in
      let e : length t.objects ≡ length s.objects + 2 = length-append s.objects (bytes_object symbol text ∷ pointers_object array (grown_fields nil array symbol association text s) ∷ []) in
      let k = symbols_up K (Below s) (Below t) (λ k b. omega (arith, b, e)) s h in
      let m : Below t (length s.objects) = omega (arith, e) in
      let x : Below t (length s.objects + 1) = omega (arith, e) in
      let fs : AllByRecursion (IsPartIn K (Below t)) t.fields = all_more (IsPartIn K (Below t)) s.fields _ k.fields (m, all_copies (IsPartIn K (Below t)) _ (There nil) n) in
      record {
        table = x;
        fields = fs;
        objects = all_more (IsNewIn K (Below t)) s.objects _ k.objects (record { class = c; fields = λ q. cc }, (record { class = a; fields = λ q. fs }, tt));
        stores = all_more (IsStoreIn K (Below t)) s.stores _ k.stores (record { object = l; value = x }, tt);
        named = all_more (IsNamedIn K (Below t)) s.named _ k.named (m, tt);
      }

  either : (b : Bool) (x y : Symbols) → IsWith K x → IsWith K y → IsWith K (if b then x else y)
  either true x y p q = p
  either false x y p q = q

  pub new_symbol : IsWith K (with_new_symbol nil array symbol association text s)
  new_symbol = either _ _ _ in_field in_array

symbol_part_in : (K C : ℕ → Type 0) (ss : List NamedSymbol) (text : List ℕ) (p : PlannedValue) → AllByRecursion (IsNamedIn K C) ss → symbol_part ss text ≡ Some p → IsPartIn K C p
symbol_part_in K C [] text p h e = cc
symbol_part_in K C (s ∷ ss) text p h e = by_test (symbol_part_in K C ss text p h.1) (bytes_eq s.text text) e
  where
    by_test : (symbol_part ss text ≡ Some p → IsPartIn K C p) → (b : Bool) → option_map (λ x. x.part) (if b then Some s else find (λ x. bytes_eq x.text text) ss) ≡ Some p → IsPartIn K C p
    by_test later true q = let r : s.part ≡ p = cc in subst (IsPartIn K C) r h.0
    by_test later false q = later q

-- STEPS

module _ (K : ℕ → Type 0) (I : State Births → Type 0) (leads : (s : State Births) → I s → Leads K s.memory) where
  bytes_keep : (v : Value) → IsLive K v → Keeps I Anything (bytes_of births v)
  unfolding bytes_of
  bytes_keep v h = then_keeps I (IsIn K) Anything _ _ (object_keeps K I leads v h) (λ o l. next_keeps I Anything Anything _ _ (check_keeps I _ _) (answer_keeps I Anything o.units tt))

  check_fields_keep : (v : Value) (least : ℕ) → IsLive K v → Keeps I Anything (check_fields births v least)
  unfolding check_fields
  check_fields_keep v least h = then_keeps I Anything Anything _ _ (count_keeps K I leads v h) (λ n l. check_keeps I _ _)

  -- tables

  key_keeps : (v : Value) → IsLive K v → Keeps I (IsLive K) (member_key births v)
  unfolding member_key
  key_keeps v h = next_keeps I Anything (IsLive K) _ _ (check_fields_keep v 2 h) (field_keeps K I leads v 0 h)

  name_keeps : (v : Value) → IsLive K v → Keeps I Anything (member_name births v)
  unfolding member_name
  name_keeps v h = then_keeps I (IsLive K) Anything _ _ (key_keeps v h) (λ k l. bytes_keep k l)

  has_name_keeps : (v : Value) (text : List ℕ) → IsLive K v → Keeps I Anything (has_name births v text)
  unfolding has_name
  has_name_keeps v text h =
      then_keeps I Anything Anything _ _ (tried_keeps I Anything Anything _ tt (λ a p. tt) (name_keeps v h)) (λ n l. answer_keeps I Anything (is_text text n) tt)

  found_or_keeps : (b : Bool) (v : Value) (m : Step Births (Option Value)) → IsLive K v → Keeps I (IsLiveOption K) m → Keeps I (IsLiveOption K) (found_or b v m)
  unfolding found_or
  found_or_keeps true v m h k = answer_keeps I (IsLiveOption K) (Some v) h
  found_or_keeps false v m h k = k

  module _ (test : Value → Step Births Bool) (tests : (v : Value) → IsLive K v → Keeps I Anything (test v)) where
    first_from_keeps : (o : Value) (i left : ℕ) → IsLive K o → Keeps I (IsLiveOption K) (first_from births o test i left)
    unfolding first_from
    first_from_keeps o i zero h = answer_keeps I (IsLiveOption K) None tt
    first_from_keeps o i (suc left) h =
        then_keeps I (IsLive K) (IsLiveOption K) _ _ (field_keeps K I leads o i h)
        (λ v l. then_keeps I Anything (IsLiveOption K) _ _ (tests v l) (λ b u. found_or_keeps b v _ l (first_from_keeps o (suc i) left h)))

    first_field_keeps : (o : Value) → IsLive K o → Keeps I (IsLiveOption K) (first_field births o test)
    unfolding first_field
    first_field_keeps o h = then_keeps I Anything (IsLiveOption K) _ _ (count_keeps K I leads o h) (λ n l. first_from_keeps o 0 n h)

  member_keeps : (v : Value) (text : List ℕ) → IsLive K v → Keeps I (IsLiveOption K) (member_named births v text)
  unfolding member_named
  member_keeps v text h = first_field_keeps (λ x. has_name births x text) (λ x l. has_name_keeps x text l) v h

  -- classes

  association_keeps : (globals : Value) (name : List ℕ) → IsLive K globals → Keeps I (IsLive K) (class_association births globals name)
  unfolding class_association
  association_keeps globals name h =
      then_keeps I (IsLiveOption K) (IsLive K) _ _ (member_keeps globals name h)
      (λ x l. then_keeps I (IsLive K) (IsLive K) _ _ (or_die_keeps I K _ x l)
      (λ a k. then_keeps I (IsLive K) (IsLive K) _ _ (field_keeps K I leads a 1 k)
      (λ c m. next_keeps I Anything (IsLive K) _ _ (check_fields_keep c _ m) (answer_keeps I (IsLive K) a k))))

  side_keeps : (class : Value) (meta : Bool) → IsLive K class → Keeps I (IsLive K) (class_on_side births class meta)
  unfolding class_on_side
  side_keeps class false h = answer_keeps I (IsLive K) class h
  side_keeps class true h = class_keeps K I leads class h

  named_class_keeps : (globals : Value) (name : List ℕ) (meta : Bool) → IsLive K globals → Keeps I (IsLive K) (class_named births globals name meta)
  unfolding class_named
  named_class_keeps globals name meta h =
      then_keeps I (IsLive K) (IsLive K) _ _ (association_keeps globals name h)
      (λ a k. then_keeps I (IsLive K) (IsLive K) _ _ (field_keeps K I leads a 1 k) (λ c m. side_keeps c meta m))

  or_fault_live : (x : Option Value) → IsLiveOption K x → IsLiveClass K (or_fault NoClass x)
  or_fault_live None h = tt
  or_fault_live (Some v) h = h

  among_keeps : (globals : Option Value) (name : List ℕ) (meta : Bool) → IsLiveOption K globals → Keeps I (IsLiveClass K) (class_among births globals name meta)
  unfolding class_among
  among_keeps None name meta h = answer_keeps I (IsLiveClass K) _ tt
  among_keeps (Some g) name meta h =
      then_keeps I (IsLiveOption K) (IsLiveClass K) _ _ (tried_keeps I (IsLive K) (IsLiveOption K) _ tt (λ v l. l) (named_class_keeps g name meta h))
      (λ x l. answer_keeps I (IsLiveClass K) _ (or_fault_live x l))

  pub class_of_name_keeps : (head : Head) (name : List ℕ) (meta : Bool) → IsLiveOption K head.globals → Keeps I (IsLiveClass K) (class_of_name births head name meta)
  unfolding class_of_name
  class_of_name_keeps head name meta h = among_keeps head.globals name meta h

  -- symbols

  symbol_text_keeps : (v : Value) → IsLive K v → Keeps I Anything (symbol_text births v)
  unfolding symbol_text
  symbol_text_keeps v h = next_keeps I Anything Anything _ _ (check_class_keeps K I leads v SymbolClass tt h) (bytes_keep v h)

  is_symbol_keeps : (v : Value) (text : List ℕ) → IsLive K v → Keeps I Anything (is_symbol births v text)
  unfolding is_symbol
  is_symbol_keeps v text h =
      then_keeps I Anything Anything _ _ (tried_keeps I Anything Anything _ tt (λ a p. tt) (symbol_text_keeps v h)) (λ n l. answer_keeps I Anything (is_text text n) tt)

  symbol_named_keeps : (v : Value) (text : List ℕ) → IsLive K v → Keeps I (IsLiveOption K) (symbol_named births v text)
  unfolding symbol_named
  symbol_named_keeps v text h = first_field_keeps (λ x. is_symbol births x text) (λ x l. is_symbol_keeps x text l) v h

  module _ (association : Value) (there : IsLive K association) where
    made_keeps : (text : List ℕ) (s : Symbols) → IsWith K s → Keeps I (IsWith K) (make_symbol births association text s)
    unfolding make_symbol
    made_keeps text s h =
        then_keeps I (IsLive K) (IsWith K) _ _ (page_keeps K I leads NilObject tt)
        (λ n a. then_keeps I (IsLive K) (IsWith K) _ _ (page_keeps K I leads ArrayClass tt)
        (λ c b. then_keeps I (IsLive K) (IsWith K) _ _ (page_keeps K I leads SymbolClass tt)
        (λ d e. answer_keeps I (IsWith K) _ (new_symbol K n c d association text a b e there s h))))

    known_symbol : (text : List ℕ) (s : Symbols) (v : Value) → IsWith K s → IsLive K v → IsWith K (record s { named = s.named ++ record { text = text; part = There v } ∷ [] })
    known_symbol text s v h l = record { table = h.table; fields = h.fields; objects = h.objects; stores = h.stores; named = all_more (IsNamedIn K (Below s)) s.named _ h.named (l, tt) }

    found_or_made_keeps : (text : List ℕ) (s : Symbols) (x : Option Value) → IsWith K s → IsLiveOption K x → Keeps I (IsWith K) (found_or_made births association text s x)
    unfolding found_or_made
    found_or_made_keeps text s None h l = made_keeps text s h
    found_or_made_keeps text s (Some v) h l = answer_keeps I (IsWith K) _ (known_symbol text s v h l)

    module _ (table : Value) (table_there : IsLive K table) where
      unless_keeps : (text : List ℕ) (s : Symbols) (x : Option PlannedValue) → IsWith K s → Keeps I (IsWith K) (seek_unless births association table text s x)
      unfolding seek_unless
      unless_keeps text s (Some p) h = answer_keeps I (IsWith K) s h
      unless_keeps text s None h =
          then_keeps I (IsLiveOption K) (IsWith K) _ _ (symbol_named_keeps table text table_there) (λ x l. found_or_made_keeps text s x h l)

      each_keeps : (texts : List (List ℕ)) (s : Symbols) → IsWith K s → Keeps I (IsWith K) (with_symbols births association table texts s)
      unfolding with_symbols with_symbol
      each_keeps [] s h = answer_keeps I (IsWith K) s h
      each_keeps (text ∷ texts) s h = then_keeps I (IsWith K) (IsWith K) _ _ (unless_keeps text s _ h) (λ t k. each_keeps texts t k)

    there_parts : (C : ℕ → Type 0) (vs : List Value) → AllLive K vs → AllByRecursion (IsPartIn K C) (map There vs)
    there_parts C [] h = tt
    there_parts C (v ∷ vs) h = (h.0, there_parts C vs h.1)

    symbols_keep : (texts : List (List ℕ)) → Keeps I (IsWith K) (symbols_for births association texts)
    unfolding symbols_for
    symbols_keep texts =
        then_keeps I (IsLive K) (IsWith K) _ _ (field_keeps K I leads association 1 there)
        (λ t l. then_keeps I Anything (IsWith K) _ _ (count_keeps K I leads t l)
        (λ n u. then_keeps I (AllLive K) (IsWith K) _ _ (fields_keep K I leads t 0 n l)
        (λ fs k. each_keeps t l texts _ (record { table = l; fields = there_parts (Below (symbols_there t fs)) fs k; objects = tt; stores = tt; named = tt }))))

  -- dictionaries

  ends_keep : (k : ℕ) (a b : Bool) (m : Step Births Ending) → Keeps I Anything m → Keeps I Anything (ends_at k a b m)
  unfolding ends_at
  ends_keep k true b m h = answer_keeps I Anything (Holds k) tt
  ends_keep k false true m h = answer_keeps I Anything (Vacant k) tt
  ends_keep k false false m h = h

  among_places_keep : (d x : Value) (k left : ℕ) (m : Step Births Ending) → IsLive K d → Keeps I Anything m → Keeps I Anything (seek_among births d x k left m)
  unfolding seek_among seek_at
  among_places_keep d x k zero m h f = f
  among_places_keep d x k (suc left) m h f =
      then_keeps I (IsLive K) Anything _ _ (field_keeps K I leads d (2 + k) h)
      (λ s l. then_keeps I (IsLive K) Anything _ _ (page_keeps K I leads NilObject tt) (λ n a. ends_keep k _ _ _ (among_places_keep d x (suc k) left m h f)))

  pub count_places_keep : (d : Value) → IsLive K d → Keeps I Anything (count_places births d)
  unfolding count_places
  count_places_keep d h = then_keeps I Anything Anything _ _ (count_keeps K I leads d h) (λ n l. answer_keeps I Anything _ tt)

  pub seek_keeps : (d x selector : Value) → IsLive K d → Keeps I Anything (seek births d x selector)
  unfolding seek seek_from
  seek_keeps d x selector h =
      then_keeps I Anything Anything _ _ (count_places_keep d h)
      (λ p l. then_keeps I Anything Anything _ _ (half_keeps I selector)
      (λ a k. among_places_keep d x _ _ _ h (among_places_keep d x 0 _ _ h (answer_keeps I Anything Nowhere tt))))

  pub place_keeps : (d selector : Value) → IsLive K d → Keeps I Anything (place_of_selector births d selector)
  unfolding place_of_selector
  place_keeps d selector h = seek_keeps d selector selector h

  vacant_keep : (d : Value) (k left : ℕ) → IsLive K d → Keeps I Anything (count_vacant births d k left)
  unfolding count_vacant
  vacant_keep d k zero h = answer_keeps I Anything 0 tt
  vacant_keep d k (suc left) h =
      then_keeps I (IsLive K) Anything _ _ (field_keeps K I leads d (2 + k) h)
      (λ s l. then_keeps I (IsLive K) Anything _ _ (page_keeps K I leads NilObject tt)
      (λ n a. then_keeps I Anything Anything _ _ (vacant_keep d (suc k) left h) (λ m b. answer_keeps I Anything _ tt)))

  full_keeps : (d : Value) → IsLive K d → Keeps I Anything (is_nearly_full births d)
  unfolding is_nearly_full
  full_keeps d h =
      then_keeps I Anything Anything _ _ (count_places_keep d h) (λ p l. then_keeps I Anything Anything _ _ (vacant_keep d 0 p h) (λ n k. answer_keeps I Anything _ tt))

  grows_at_keeps : (d : Value) (e : Ending) → IsLive K d → Keeps I Anything (grows_at births d e)
  unfolding grows_at
  grows_at_keeps d (Holds k) h = answer_keeps I Anything false tt
  grows_at_keeps d (Vacant k) h = full_keeps d h
  grows_at_keeps d Nowhere h = full_keeps d h

  grows_keeps : (d : Value) (p : PlannedValue) → IsLive K d → Keeps I Anything (grows_for births d p)
  unfolding grows_for
  grows_keeps d (Made k) h = full_keeps d h
  grows_keeps d (There v) h = then_keeps I Anything Anything _ _ (place_keeps d v h) (λ e l. grows_at_keeps d e h)

  module _ (C : ℕ → Type 0) (next : ℕ) (chosen : C (next + 1)) where
    new_dictionary : (class tally array nil : Value) (places : ℕ) → IsLive K class → IsLive K tally → IsLive K array → IsLive K nil
        → AllByRecursion (IsNewIn K C) (dictionary_objects class tally array nil places (next + 1))
    new_dictionary class tally array nil places c t a n =
        (record { class = c; fields = λ e. (t, (chosen, all_copies (IsPartIn K C) places (There nil) n)) }, (record { class = a; fields = λ e. all_copies (IsPartIn K C) places (There nil) n }, tt))

    grown_keep : (d : Value) (b : Bool) → IsLive K d → Keeps I (AllByRecursion (IsNewIn K C)) (grown_if births d next b)
    unfolding grown_if grown_objects
    grown_keep d false h = answer_keeps I _ [] tt
    grown_keep d true h =
        then_keeps I (IsLive K) _ _ _ (class_keeps K I leads d h)
        (λ c l. then_keeps I (IsLive K) _ _ _ (field_keeps K I leads d 0 h)
        (λ t k. then_keeps I Anything _ _ _ (count_places_keep d h)
        (λ p u. then_keeps I (IsLive K) _ _ _ (page_keeps K I leads ArrayClass tt)
        (λ a m. then_keeps I (IsLive K) _ _ _ (page_keeps K I leads NilObject tt)
        (λ n q. answer_keeps I _ _ (new_dictionary c t a n (2 * p) l k m q))))))

  part_or_die_keeps : (C : ℕ → Type 0) (cause : Dead) (x : Option PlannedValue) → ((p : PlannedValue) → x ≡ Some p → IsPartIn K C p) → Keeps I (IsPartIn K C) (or_die cause x)
  unfolding or_die
  part_or_die_keeps C cause None h = die_keeps I (IsPartIn K C) cause
  part_or_die_keeps C cause (Some p) h = answer_keeps I (IsPartIn K C) p (h p refl)

-- LITERALS: nothing is said of what is made for them

-- all objects lead nowhere else
all_live : (vs : List Value) → AllLive (λ n. Unit {0}) vs
all_live [] = tt
all_live (Small n ∷ vs) = (tt, all_live vs)
all_live (Ref n ∷ vs) = (tt, all_live vs)

pub all_lead : (h : Births) → Leads (λ n. Unit {0}) h
all_lead h = record { objects = λ n o k e. record { class = tt; fields = λ q. all_live o.fields }; page = λ q o. tt }

any_live : (v : Value) → IsLive (λ n. Unit {0}) v
any_live (Small n) = tt
any_live (Ref n) = tt

module _ (I : State Births → Type 0) where
  placed_keeps : (p : Placed) → Keeps I Anything (answer p)
  placed_keeps p = answer_keeps I Anything p tt

  any_page : (q : _) → IsOther q → Keeps I Anything (of_page births q)
  any_page q o = keeps_as I _ Anything _ (λ v l. tt) (page_keeps (λ n. Unit {0}) I (λ s i. all_lead s.memory) q o)

  size_keeps : (next size : ℕ) (b : Bool) → Keeps I Anything (place_size births next size b)
  unfolding place_size
  size_keeps next size true = placed_keeps _
  size_keeps next size false = then_keeps I Anything Anything _ _ (any_page LargeClass tt) (λ c l. placed_keeps _)

  signed_keeps : (next size : ℕ) (b : Bool) → Keeps I Anything (place_signed births next size b)
  unfolding place_signed
  signed_keeps next size true = placed_keeps _
  signed_keeps next size false = size_keeps next size _

  character_keeps : (byte : ℕ) → Keeps I Anything (place_character births byte)
  unfolding place_character
  character_keeps byte =
      then_keeps I Anything Anything _ _ (any_page Characters tt)
      (λ c l. then_keeps I _ Anything _ _ (field_keeps (λ n. Unit {0}) I (λ s i. all_lead s.memory) c byte (any_live c)) (λ v k. placed_keeps _))

  number_keeps : (next : ℕ) (n : Signed) → Keeps I Anything (place_number births next n)
  unfolding place_number
  number_keeps next n = signed_keeps next n.size n.minus

  string_keeps : (next : ℕ) (text : List ℕ) → Keeps I Anything (place_string births next text)
  unfolding place_string
  string_keeps next text = then_keeps I Anything Anything _ _ (any_page StringClass tt) (λ c l. placed_keeps _)

  or_die_any : {A : Type 0} (cause : Dead) (x : Option A) → Keeps I Anything (or_die cause x)
  unfolding or_die
  or_die_any cause None = die_keeps I Anything cause
  or_die_any cause (Some a) = answer_keeps I Anything a tt

  symbol_keeps : (ss : List NamedSymbol) (text : List ℕ) → Keeps I Anything (place_symbol {H = Births} ss text)
  unfolding place_symbol
  symbol_keeps ss text = then_keeps I Anything Anything _ _ (or_die_any _ _) (λ p l. placed_keeps _)

  object_at_keeps : (k : ℕ) → Keeps I Anything (object_at births k)
  unfolding object_at
  object_at_keeps k = record { go = λ s i. (tt, i) }

  pointer_keeps : (pointer : ℕ) → Keeps I Anything (place_pointer births pointer)
  unfolding place_pointer
  pointer_keeps pointer =
      then_keeps I Anything Anything _ _ (object_at_keeps _) (λ x l. then_keeps I Anything Anything _ _ (or_die_any _ x) (λ v k. placed_keeps _))

  array_keeps : (next : ℕ) (p : PlacedAll) → Keeps I Anything (place_array births next p)
  unfolding place_array
  array_keeps next p = then_keeps I Anything Anything _ _ (any_page ArrayClass tt) (λ c l. placed_keeps _)

  pub owner_keeps : (association class : Value) (meta : Bool) (next : ℕ) → Keeps I Anything (place_owner births association class meta next)
  unfolding place_owner
  owner_keeps association class false next = placed_keeps _
  owner_keeps association class true next =
      then_keeps I _ Anything _ _ (class_keeps (λ n. Unit {0}) I (λ s i. all_lead s.memory) association (any_live association))
      (λ c l. then_keeps I Anything Anything _ _ (any_page NilObject tt) (λ n k. placed_keeps _))

  module _ (ss : List NamedSymbol) (own : ℕ → Step Births Placed) (owner : (next : ℕ) → Keeps I Anything (own next)) where
    mutual
      unfolding place_literal place_members

      literal_keeps : (next : ℕ) (l : LiteralView) → Keeps I Anything (place_literal births ss own next l)
      literal_keeps next (literals.number n) = number_keeps next n
      literal_keeps next (literals.character b) = character_keeps b
      literal_keeps next (literals.bytes text) = string_keeps next text
      literal_keeps next (literals.symbol text) = symbol_keeps ss text
      literal_keeps next (literals.array ls) = then_keeps I Anything Anything _ _ (members_keep (next + 1) ls) (λ ps l. array_keeps next ps)
      literal_keeps next (literals.named pointer) = pointer_keeps pointer
      literal_keeps next literals.owner = owner next

      members_keep : (next : ℕ) (ls : LiteralsView) → Keeps I Anything (place_members births ss own next ls)
      members_keep next literals.no_literals = answer_keeps I Anything _ tt
      members_keep next (literals.literal l ls) =
          then_keeps I Anything Anything _ _ (literal_keeps next l)
          (λ p h. then_keeps I Anything Anything _ _ (members_keep (next + length p.objects) ls) (λ ps k. answer_keeps I Anything _ tt))

    pub literals_keep : (next : ℕ) (ls : List LiteralView) → Keeps I Anything (place_literals births ss own next ls)
    unfolding place_literals
    literals_keep next [] = answer_keeps I Anything _ tt
    literals_keep next (l ∷ ls) =
        then_keeps I Anything Anything _ _ (literal_keeps next l)
        (λ p h. then_keeps I Anything Anything _ _ (literals_keep (next + length p.objects) ls) (λ ps k. answer_keeps I Anything _ tt))

-- PLANS

-- of objects that are numbered from k on those of these numbers
abbrev pub AreFrom : (C : ℕ → Type 0) (P : NewObject → Type 0) (k : ℕ) → List NewObject → Type 0
AreFrom C P k [] = Unit {0}
AreFrom C P k (o ∷ os) = (C k → P o) × AreFrom C P (suc k) os

-- not those for literals, which stand between those for symbols and the method
abbrev pub Chosen : (first last k : ℕ) → Type 0
Chosen first last k = (k < first) ⊎ (last ≤ k)

pub record IsPlanIn (K : ℕ → Type 0) (p : Plan) : Type 0 where
  pub first : ℕ
  pub last : ℕ
  pub objects : AreFrom (Chosen first last) (IsNewIn K (Chosen first last)) 0 p.objects
  pub stores : AllByRecursion (IsStoreIn K (Chosen first last)) p.symbol_stores
  pub selector : IsPartIn K (Chosen first last) p.selector
  pub method : IsPartIn K (Chosen first last) p.method
  pub class : IsLive K p.class
  pub dictionary : IsLive K p.dictionary
  pub grown : (k : ℕ) → p.grown ≡ Some k → Chosen first last k

abbrev pub IsReadyIn : (K : ℕ → Type 0) → Result Plan InstallFault → Type 0
IsReadyIn K (Ok p) = IsPlanIn K p
IsReadyIn K (Err fault) = Unit {0}

abbrev AnyPlanIn : (K : ℕ → Type 0) → Option Plan → Type 0
AnyPlanIn K None = Unit {0}
AnyPlanIn K (Some p) = IsPlanIn K p

module _ (C : ℕ → Type 0) (P : NewObject → Type 0) where
  from_all : (k : ℕ) (os : List NewObject) → AllByRecursion P os → AreFrom C P k os
  from_all k [] h = tt
  from_all k (o ∷ os) h = (λ c. h.0, from_all (suc k) os h.1)

  from_more : (k n : ℕ) (os ps : List NewObject) → n ≡ k + length os → AreFrom C P k os → AreFrom C P n ps → AreFrom C P k (os ++ ps)
  from_more k n [] ps e h g = let q : n ≡ k = omega (arith, e) in subst (λ j. AreFrom C P j ps) q g
  from_more k n (o ∷ os) ps e h g = (h.0, from_more (suc k) n os ps (omega (arith, e)) h.1 g)

from_none : (P : NewObject → Type 0) (first last k : ℕ) (os : List NewObject) → first ≤ k → k + length os ≤ last → AreFrom (Chosen first last) P k os
from_none P first last k [] l m = tt
from_none P first last k (o ∷ os) l m = (λ c. absurd (between c), from_none P first last (suc k) os (omega (arith, l)) (omega (arith, m)))
  where
    between : Chosen first last k → ⊥
    between (inl a) = omega (arith, a, l)
    between (inr b) = omega (arith, b, m)

module _ (K : ℕ → Type 0) (I : State Births → Type 0) (leads : (s : State Births) → I s → Leads K s.memory) where
  module _ (class : Value) (there : IsLive K class) (parts : PartsView) (s : Symbols) (l : PlacedAll) (h : IsWith K s) where
    abbrev C : ℕ → Type 0
    C = Chosen (length s.objects) (method_number s l)

    abbrev P : NewObject → Type 0
    P = IsNewIn K C

    below : (k : ℕ) → Below s k → C k
    below k b = inl b

    with_method : (method_class : Value) (grown : List NewObject) → IsLive K method_class → AllByRecursion P grown → AreFrom C P 0 (objects_with_method method_class parts s l ++ grown)
    with_method method_class grown m g =
        let k = symbols_up K (Below s) C below s h in
        let new_method = method_object method_class (There (value_of parts.header) ∷ l.parts) parts.bytes in
        let e = length-append s.objects l.objects in
        from_more C P 0 (length (objects_with_method method_class parts s l)) (objects_with_method method_class parts s l) grown (omega arith)
        (from_more C P 0 (length s.objects + length l.objects) (s.objects ++ l.objects) (new_method ∷ []) (omega (arith, e))
        (from_more C P 0 (length s.objects) s.objects l.objects (omega arith) (from_all C P 0 s.objects k.objects)
        (from_none P (length s.objects) (method_number s l) (length s.objects) l.objects (omega arith) (omega arith)))
        (from_all C P (length s.objects + length l.objects) (new_method ∷ []) (record { class = m; fields = λ e. cc }, tt)))
        (from_all C P (length (objects_with_method method_class parts s l)) grown g)

    grown_chosen : (b : Bool) (k : ℕ) → grown_number b s l ≡ Some k → C k
    grown_chosen true k e = let q : method_number s l + 1 ≡ k = cc in inr (omega (arith, q))
    grown_chosen false k e = cc

    planned_in : (dictionary : Value) (grows : Bool) (grown : List NewObject) (method_class : Value) (p : PlannedValue) → IsLive K dictionary → AllByRecursion P grown → IsLive K method_class → IsPartIn K C p
        → IsPlanIn K (record {
          objects = objects_with_method method_class parts s l ++ grown;
          symbol_stores = s.stores;
          selector = p;
          method = Made (method_number s l);
          class = class;
          dictionary = dictionary;
          grown = grown_number grows s l;
        })
    planned_in dictionary grows grown method_class p d g m q = record {
      first = length s.objects;
      last = method_number s l;
      objects = with_method method_class grown m g;
      stores = (symbols_up K (Below s) C below s h).stores;
      selector = q;
      method = inr (omega arith);
      class = there;
      dictionary = d;
      grown = grown_chosen grows;
    }

    objects_keep : (p : PlannedValue) → IsPartIn K C p → Keeps I (IsPlanIn K) (plan_objects births class parts s l p)
    unfolding plan_objects sized check_size
    objects_keep p q =
        then_keeps I (IsLive K) _ _ _ (field_keeps K I leads class 1 there)
        (λ d k. then_keeps I Anything _ _ _ (grows_keeps K I leads d p k)
        (λ grows u. then_keeps I (AllByRecursion P) _ _ _ (grown_keep K I leads C (method_number s l + 1) (inr (omega arith)) d grows k)
        (λ grown g. then_keeps I (IsLive K) _ _ _ (page_keeps K I leads MethodClass tt)
        (λ c m. next_keeps I Anything _ _ _ (check_keeps I _ _) (answer_keeps I (IsPlanIn K) _ (planned_in d grows grown c p k g m q))))))

  module _ (head : Head) (globals : IsLiveOption K head.globals) (symbols : IsLiveOption K head.symbols) (class : Value) (there : IsLive K class) (name : List ℕ) (meta : Bool) (parts : PartsView) where
    plan_keeps : (table association : Value) → IsLive K table → Keeps I (IsPlanIn K) (plan births table association class meta parts)
    unfolding plan
    plan_keeps table association h =
        then_keeps I (IsWith K) _ _ _ (symbols_keep K I leads table h _)
        (λ s w. then_keeps I Anything _ _ _ (literals_keep I s.named _ (λ next. owner_keeps I association class meta next) (length s.objects) parts.literals)
        (λ l u. then_keeps I (IsPartIn K (Chosen (length s.objects) (method_number s l))) _ _ _
        (part_or_die_keeps K I leads _ _ _
        (λ p e. symbol_part_in K _ s.named parts.selector p (symbols_up K (Below s) (Chosen (length s.objects) (method_number s l)) (λ k b. inl b) s w).named e))
        (λ p q. objects_keep class there parts s l w p q)))

    planned_keeps : Keeps I (IsPlanIn K) (planned births head class name meta parts)
    unfolding planned planned_for
    planned_keeps =
        then_keeps I (IsLive K) _ _ _ (or_die_keeps I K _ head.globals globals)
        (λ g h. then_keeps I (IsLive K) _ _ _ (association_keeps K I leads g name h)
        (λ a k. then_keeps I (IsLive K) _ _ _ (or_die_keeps I K _ head.symbols symbols) (λ t l. plan_keeps t a l)))

    room_in : (p : Plan) (b : Bool) → IsPlanIn K p → IsReadyIn K (room_or p b)
    room_in p true h = tt
    room_in p false h = h

    crowded_keeps : (d : _) → Keeps I Anything (is_crowded births head d)
    unfolding is_crowded
    crowded_keeps d = record { go = λ s i. (tt, i) }

    room_keeps : (x : Option Plan) → AnyPlanIn K x → Keeps I (IsReadyIn K) (with_room births head x)
    unfolding with_room
    room_keeps None h = answer_keeps I (IsReadyIn K) _ tt
    room_keeps (Some p) h = then_keeps I Anything (IsReadyIn K) _ _ (crowded_keeps _) (λ b u. answer_keeps I (IsReadyIn K) _ (room_in p b h))

    pub ready_keeps : Keeps I (IsReadyIn K) (ready births head class name meta parts)
    unfolding ready
    ready_keeps = then_keeps I (AnyPlanIn K) (IsReadyIn K) _ _ (tried_keeps I (IsPlanIn K) (AnyPlanIn K) _ tt (λ p h. h) planned_keeps) room_keeps
