-- What is planned for Symbols is sound.
use Rattle.std.proofs.Common.{◌≡◌, ℕ, ◌+◌, ◌<◌, ◌≤◌, zero, suc, List, [], ◌∷◌, ◌++◌, length, Option, Some, None, Bool, true, false, refl, sym, ap, subst, arith, length-append, length-set}
use Rattle.std.specs.Prelude.{map, cond, nat_lt, bytes_eq, option_map, if◌then◌else◌}
use Rattle.std.proofs.lemmas.Bool.Decides.{nat_tests}
use Rattle.std.proofs.lemmas.Option.{slice_get_within}
use Rattle.st_model.specs.declared.kind.Kind.TheVariants as kind
use Rattle.st_model.specs.declared.page.PageObject.TheVariants.{NilObject, ArrayClass, SymbolClass}
use Rattle.st_model.specs.Values.{Value}
use Rattle.st_model.specs.Machine.{State, Step, is_there}
use Rattle.st_model.specs.declared.dead.Dead.TheVariants as dead
use Rattle.st_model.specs.Steps.{same_value, fetch_fields}
use Rattle.st_model.specs.Primitives.{check_class}
use Rattle.st_model.specs.Objects.{is_bytes}
use Rattle.st_model.specs.Table.{Table, table, bounded_table}
use Rattle.st_install.specs.Plans.{PlannedValue, There, Made, bytes_object, pointers_object}
use Rattle.st_scope.specs.Tables.{check_fields, bytes_of, member_key, member_name, has_name, found_or, first_from, first_field, member_named}
use Rattle.st_install.specs.Symbols.{symbol_text, is_symbol, symbol_named, NamedSymbol, symbol_part, Symbols, vacant_field, grown_fields, symbol_in_field, symbol_in_array, with_new_symbol, make_symbol, found_or_made, seek_unless, with_symbol, with_symbols, symbols_there, symbols_for}
use Rattle.st_install.proofs.GoesMaking.{IsClassFor, CanMake}
use Rattle.st_install.proofs.GoesStoring.{HasFields}
use Rattle.st_install.proofs.GoesInstalling.{IsSoundPart, AreSoundParts, AreSoundObjects, PartHas, AreSoundStores}
use Rattle.st_install.proofs.GoesReading.{Gives, gives_answer, gives_then, gives_next, gives_less, Any, IfAny, gives_tried, gives_check, gives_page, gives_object, IsField, gives_field, IsCount, gives_count, IsSoundTable, field_there, page_class, gives_class}
use Rattle.st_install.proofs.GoesPlans.{get_seam, part_more, parts_more, objects_more, parts_append, objects_append, can_make_append, parts_set, parts_replicate, part_has_more, part_has_fewer, stores_more, stores_append}

-- MEMBERS

module _ (s : State Table) (sound : IsSoundTable s.memory) where
  pub gives_bytes : (v : Value) → Gives s (bytes_of table v) Any
  unfolding bytes_of
  gives_bytes v =
      gives_then s _ _ _ _ (gives_object s v) (λ o e. gives_next s _ _ _ _ (gives_check s dead.Kind (is_bytes o.kind)) (λ a p. gives_answer s Any _ tt))

  pub gives_checked : (v : Value) (n : ℕ) → Gives s (check_fields table v n) (λ a. HasFields s.memory v n)
  unfolding check_fields
  gives_checked v n =
      gives_then s _ _ _ _ (gives_count s v)
      (λ k c. gives_less s _ _ _ (gives_check s dead.Field _)
      (λ a e. record { object = c.object; is = c.is; pointers = c.pointers; enough = let q = c.count in grind (arith, nat_tests) }))

  gives_key : (v : Value) → Gives s (member_key table v) Any
  unfolding member_key
  gives_key v = gives_next s _ _ _ _ (gives_checked v 2) (λ a h. gives_less s _ _ _ (gives_field s v 0) (λ x f. tt))

  gives_name : (v : Value) → Gives s (member_name table v) Any
  unfolding member_name
  gives_name v = gives_then s _ _ _ _ (gives_key v) (λ k h. gives_bytes k)

  gives_has : (v : Value) (text : List ℕ) → Gives s (has_name table v text) Any
  unfolding has_name
  gives_has v text = gives_then s _ _ _ _ (gives_tried s Any _ (gives_name v)) (λ n h. gives_answer s Any _ tt)

  gives_text : (v : Value) → Gives s (symbol_text table v) Any
  unfolding symbol_text check_class
  gives_text v =
      gives_next s Any _ _ _
      (gives_then s _ _ _ _ (gives_class s sound v) (λ c h. gives_then s _ _ _ _ (gives_page s SymbolClass) (λ w e. gives_less s _ _ _ (gives_check s dead.Kind (same_value c w)) (λ a p. tt))))
      (λ a h. gives_bytes v)

  gives_symbol : (v : Value) (text : List ℕ) → Gives s (is_symbol table v text) Any
  unfolding is_symbol
  gives_symbol v text = gives_then s _ _ _ _ (gives_tried s Any _ (gives_text v)) (λ n h. gives_answer s Any _ tt)

  -- what is found is there
  abbrev pub IsFound : Option Value → Type 0
  IsFound x = IfAny (λ v. is_there bounded_table s.memory v ≡ true) x

  found_gives : (b : Bool) (v : Value) (m : Step Table (Option Value)) → is_there bounded_table s.memory v ≡ true → Gives s m IsFound → Gives s (found_or b v m) IsFound
  unfolding found_or
  found_gives true v m h g = gives_answer s IsFound (Some v) h
  found_gives false v m h g = g

  first_gives : (o : Value) (test : Value → Step Table Bool) → ((v : Value) → Gives s (test v) Any) → (i left : ℕ) → Gives s (first_from table o test i left) IsFound
  unfolding first_from
  first_gives o test g i zero = gives_answer s IsFound None tt
  first_gives o test g i (suc left) =
      gives_then s _ _ _ _ (gives_field s o i)
      (λ v f. gives_then s _ _ _ _ (g v) (λ b h. found_gives b v _ (field_there s sound o i v f) (first_gives o test g (suc i) left)))

  field_gives : (o : Value) (test : Value → Step Table Bool) → ((v : Value) → Gives s (test v) Any) → Gives s (first_field table o test) IsFound
  unfolding first_field
  field_gives o test g = gives_then s _ _ _ _ (gives_count s o) (λ n h. first_gives o test g 0 n)

  pub gives_member : (o : Value) (text : List ℕ) → Gives s (member_named table o text) IsFound
  unfolding member_named
  gives_member o text = field_gives o (λ v. has_name table v text) (λ v. gives_has v text)

  pub gives_named : (o : Value) (text : List ℕ) → Gives s (symbol_named table o text) IsFound
  unfolding symbol_named
  gives_named o text = field_gives o (λ v. is_symbol table v text) (λ v. gives_symbol v text)

-- SYMBOLS

abbrev pub AreNamed : Table → ℕ → List NamedSymbol → Type 0
AreNamed t n [] = Unit {0}
AreNamed t n (x ∷ xs) = IsSoundPart t n x.part × AreNamed t n xs

module _ (t : Table) where
  pub named_more : (n m : ℕ) (xs : List NamedSymbol) → n ≤ m → AreNamed t n xs → AreNamed t m xs
  named_more n m [] l h = tt
  named_more n m (x ∷ xs) l h = (part_more t n m x.part l h.0, named_more n m xs l h.1)

  named_append : (n : ℕ) (xs ys : List NamedSymbol) → AreNamed t n xs → AreNamed t n ys → AreNamed t n (xs ++ ys)
  named_append n [] ys h k = k
  named_append n (x ∷ xs) ys h k = (h.0, named_append n xs ys h.1 k)

  part_if : (n : ℕ) (b : Bool) (x : NamedSymbol) (rest : Option NamedSymbol) (p : PlannedValue) → IsSoundPart t n x.part → ((q : PlannedValue) → option_map (λ s. s.part) rest ≡ Some q → IsSoundPart t n q)
      → option_map (λ s. s.part) (cond b (Some x) rest) ≡ Some p → IsSoundPart t n p
  part_if n true x rest p h k e = let q : x.part ≡ p = cc in subst (λ y. IsSoundPart t n y) q h
  part_if n false x rest p h k e = k p e

  pub named_part : (n : ℕ) (xs : List NamedSymbol) (text : List ℕ) (p : PlannedValue) → AreNamed t n xs → symbol_part xs text ≡ Some p → IsSoundPart t n p
  named_part n [] text p h e = cc
  named_part n (x ∷ xs) text p h e = part_if n (bytes_eq x.text text) x _ p h.0 (λ q f. named_part n xs text q h.1 f) e

  pub record AreSoundSymbols (x : Symbols) : Type 0 where
    pub made : CanMake t x.objects
    pub objects : AreSoundObjects t (length x.objects) x.objects
    pub stores : AreSoundStores t x.objects x.stores
    pub table : PartHas t x.objects x.table (length x.fields)
    pub fields : AreSoundParts t (length x.objects) x.fields
    pub named : AreNamed t (length x.objects) x.named

  module _ (nil array_class symbol_class association : Value) (text : List ℕ) (x : Symbols) (h : AreSoundSymbols x)
      (nil_there : is_there bounded_table t nil ≡ true) (array : IsClassFor t kind.Pointers array_class) (symbol : IsClassFor t kind.Bytes symbol_class)
      (fields : HasFields t association 2) where
    one_longer : length (x.objects ++ bytes_object symbol_class text ∷ []) ≡ length x.objects + 1
    one_longer = length-append x.objects _

    in_field : vacant_field nil array_class symbol_class association text x < length x.fields → AreSoundSymbols (symbol_in_field nil array_class symbol_class association text x)
    in_field l =
        let n = one_longer in
        let more : length x.objects ≤ length (x.objects ++ bytes_object symbol_class text ∷ []) = omega (arith, n) in
        let last : length x.objects < length (x.objects ++ bytes_object symbol_class text ∷ []) = omega (arith, n) in
        record {
          made = can_make_append t x.objects _ h.made (symbol, refl, tt);
          objects = objects_append t _ x.objects _ (objects_more t _ _ x.objects more h.objects) (tt, tt);
          stores = stores_append t _ x.stores _ (stores_more t x.objects _ x.stores h.stores) (part_has_fewer t _ x.table (length x.fields) _ l (part_has_more t x.objects _ x.table (length x.fields) h.table), last, tt);
          table = part_has_fewer t (x.objects ++ bytes_object symbol_class text ∷ []) x.table (length x.fields) _
              (let k = length-set x.fields (vacant_field nil array_class symbol_class association text x) (Made (length x.objects)) in omega (arith, k))
              (part_has_more t x.objects (bytes_object symbol_class text ∷ []) x.table (length x.fields) h.table);
          fields = parts_set t _ _ x.fields _ (parts_more t _ _ x.fields more h.fields) last;
          named = named_append _ x.named _ (named_more _ _ x.named more h.named) (last, tt);
        }

    two_longer : length (x.objects ++ bytes_object symbol_class text ∷ pointers_object array_class (grown_fields nil array_class symbol_class association text x) ∷ []) ≡ length x.objects + 2
    two_longer = length-append x.objects _

    in_array : AreSoundSymbols (symbol_in_array nil array_class symbol_class association text x)
    in_array =
        let n = two_longer in
        let m = length (x.objects ++ bytes_object symbol_class text ∷ pointers_object array_class (grown_fields nil array_class symbol_class association text x) ∷ []) in
        let more : length x.objects ≤ m = omega (arith, n) in
        let first : length x.objects < m = omega (arith, n) in
        let second : length x.objects + 1 < m = omega (arith, n) in
        let grown : AreSoundParts t m (grown_fields nil array_class symbol_class association text x) =
        parts_append t m x.fields _ (parts_more t _ _ x.fields more h.fields) (first, parts_replicate t m _ _ nil_there) in
        record {
          made = can_make_append t x.objects _ h.made (symbol, refl, (array, refl, tt));
          objects = objects_append t m x.objects _ (objects_more t _ _ x.objects more h.objects) (tt, (grown, tt));
          stores = stores_append t _ x.stores _ (stores_more t x.objects _ x.stores h.stores) (fields, second, tt);
          table = record { object = _; is = get_seam x.objects _ 1 (length x.objects + 1) refl; pointers = refl; enough = omega arith };
          fields = grown;
          named = named_append m x.named _ (named_more _ _ x.named more h.named) (first, tt);
        }

    either : (b : Bool) → nat_lt (vacant_field nil array_class symbol_class association text x) (length x.fields) ≡ b
        → AreSoundSymbols (if b then symbol_in_field nil array_class symbol_class association text x else symbol_in_array nil array_class symbol_class association text x)
    either true e = in_field (grind (arith, nat_tests))
    either false e = in_array

    pub new_sound : AreSoundSymbols (with_new_symbol nil array_class symbol_class association text x)
    new_sound = either (nat_lt (vacant_field nil array_class symbol_class association text x) (length x.fields)) refl

module _ (s : State Table) (sound : IsSoundTable s.memory) (association : Value) (fields : HasFields s.memory association 2) where
  make_gives : (text : List ℕ) (x : Symbols) → AreSoundSymbols s.memory x → Gives s (make_symbol table association text x) (λ y. AreSoundSymbols s.memory y)
  unfolding make_symbol
  make_gives text x h =
      gives_then s _ _ _ _ (gives_page s NilObject)
      (λ nil e. gives_then s _ _ _ _ (gives_page s ArrayClass)
      (λ array f. gives_then s _ _ _ _ (gives_page s SymbolClass)
      (λ symbol g. gives_answer s _ _ (new_sound s.memory nil array symbol association text x h
      (subst (λ v. is_there bounded_table s.memory v ≡ true) (sym e) (sound.page NilObject))
      (page_class s sound ArrayClass kind.Pointers refl array f)
      (page_class s sound SymbolClass kind.Bytes refl symbol g) fields))))

  found_or_gives : (text : List ℕ) (x : Symbols) (found : Option Value) → AreSoundSymbols s.memory x → IsFound s sound found
      → Gives s (found_or_made table association text x found) (λ y. AreSoundSymbols s.memory y)
  unfolding found_or_made
  found_or_gives text x None h k = make_gives text x h
  found_or_gives text x (Some v) h k =
      gives_answer s _ _ (record { made = h.made; objects = h.objects; stores = h.stores; table = h.table; fields = h.fields; named = named_append s.memory _ x.named _ h.named (k, tt) })

  unless_gives : (o : Value) (text : List ℕ) (x : Symbols) (found : Option PlannedValue) → AreSoundSymbols s.memory x
      → Gives s (seek_unless table association o text x found) (λ y. AreSoundSymbols s.memory y)
  unfolding seek_unless
  unless_gives o text x (Some p) h = gives_answer s _ x h
  unless_gives o text x None h = gives_then s _ _ _ _ (gives_named s sound o text) (λ found k. found_or_gives text x found h k)

  all_gives : (o : Value) (texts : List (List ℕ)) (x : Symbols) → AreSoundSymbols s.memory x → Gives s (with_symbols table association o texts x) (λ y. AreSoundSymbols s.memory y)
  unfolding with_symbols with_symbol
  all_gives o [] x h = gives_answer s _ x h
  all_gives o (text ∷ texts) x h =
      gives_then s _ _ _ _ (unless_gives o text x (symbol_part x.named text) h) (λ y k. all_gives o texts y k)

module _ (s : State Table) (sound : IsSoundTable s.memory) where
  -- the fields are those of the object, and are there
  pub record AreFields (n : ℕ) (xs : List Value) : Type 0 where
    pub count : length xs ≡ n
    pub there : AreSoundParts s.memory 0 (map There xs)

  pub fetch_gives : (v : Value) (i n : ℕ) → Gives s (fetch_fields table v i n) (λ xs. AreFields n xs)
  unfolding fetch_fields
  fetch_gives v i zero = gives_answer s _ [] (record { count = refl; there = tt })
  fetch_gives v i (suc n) =
      gives_then s _ _ _ _ (gives_field s v i)
      (λ x f. gives_then s _ _ _ _ (fetch_gives v (suc i) n)
      (λ xs h. gives_answer s _ (x ∷ xs) (record { count = ap (λ k. suc k) h.count; there = (field_there s sound v i x f, h.there) })))

  map_length : (xs : List Value) → length (map There xs) ≡ length xs
  map_length [] = refl
  map_length (x ∷ xs) = ap (λ n. suc n) (map_length xs)

  there_sound : (o : Value) (n : ℕ) (xs : List Value) → IsCount s.memory o n → AreFields n xs → AreSoundSymbols s.memory (symbols_there o xs)
  there_sound o n xs c h = record {
    made = tt;
    objects = tt;
    stores = tt;
    table = record { object = c.object; is = c.is; pointers = c.pointers; enough = let a = c.count in let b = h.count in let d = map_length xs in omega (arith, a, b, d) };
    fields = h.there;
    named = tt;
  }

  pub has_two : (v x : Value) → IsField s.memory v 1 x → HasFields s.memory v 2
  has_two v x f = record { object = f.object; is = f.is; pointers = f.pointers; enough = let l = slice_get_within f.object.fields 1 x f.field in omega (arith, l) }

  pub symbols_give : (association : Value) (texts : List (List ℕ)) → Gives s (symbols_for table association texts) (λ y. AreSoundSymbols s.memory y)
  unfolding symbols_for
  symbols_give association texts =
      gives_then s _ _ _ _ (gives_field s association 1)
      (λ o f. gives_then s _ _ _ _ (gives_count s o)
      (λ n c. gives_then s _ _ _ _ (fetch_gives o 0 n)
      (λ xs h. all_gives s sound association (has_two association o f) o texts (symbols_there o xs) (there_sound o n xs c h))))
