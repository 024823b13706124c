-- Into what a ready plan stores, and which of its objects are the method and the dictionary.
use Rattle.std.proofs.Common.{◌≡◌, ℕ, ◌+◌, ◌<◌, ◌≤◌, List, [], ◌∷◌, ◌++◌, length, Option, Some, None, Bool, true, false, Result, Ok, Err, refl, sym, ◌∙◌, subst, arith, ◌⊎◌, inl, inr, length-append}
use Rattle.std.specs.Prelude.{slice_get, nat_lt, if◌then◌else◌}
use Rattle.st_model.specs.declared.dead.Dead.TheVariants as dead
use Rattle.st_model.specs.declared.kind.Kind.TheVariants as kind
use Rattle.st_model.specs.declared.page.PageObject.TheVariants.{NilObject, ArrayClass, SymbolClass, MethodClass}
use Rattle.st_model.specs.Values.{Value, value_of}
use Rattle.st_model.specs.Machine.{Head, State, is_there}
use Rattle.st_model.specs.Table.{Table, table, bounded_table}
use Rattle.st_code.specs.Methods.{PartsView}
use Rattle.st_scope.specs.declared.fault.InstallFault.{InstallFault}
use Rattle.st_scope.specs.declared.fault.InstallFault.TheVariants.{Shape}
use Rattle.st_install.specs.Plans.{PlannedValue, There, Made, NewObject, FieldStore, Plan, method_object, bytes_object}
use Rattle.st_install.specs.inside.Goes.{IsHeaded}
use Rattle.st_install.specs.Symbols.{Symbols, symbols_in, symbol_part, vacant_field, symbol_in_field, symbol_in_array, with_new_symbol, make_symbol, found_or_made, seek_unless, with_symbol, with_symbols, symbols_there, symbols_for}
use Rattle.st_install.specs.Literals.{PlacedAll, place_owner}
use Rattle.st_install.specs.Planning.{method_number, objects_with_method, grown_number, grown_if, sized, plan_objects, plan}
use Rattle.st_install.specs.Dictionaries.{grows_for}
use Rattle.st_install.specs.Shapes.{check_size}
use Rattle.st_install.specs.Calls.{room_or, with_room, planned_for, planned, ready}
use Rattle.st_install.proofs.GoesInstalling.{IsSoundPart, HasPlace}
use Rattle.st_install.proofs.GoesReading.{Gives, gives_answer, gives_then, gives_next, gives_less, gives_both, Any, IfAny, gives_tried, gives_check, gives_or_die, gives_page, IsField, gives_field, gives_count, IsSoundTable}
use Rattle.st_install.proofs.GoesPlans.{plan_with, get_in_front, get_seam, part_more}
use Rattle.st_install.proofs.GoesSymbols.{named_part, AreSoundSymbols, symbols_give, gives_named, fetch_gives}
use Rattle.st_install.proofs.GoesLiterals.{AreSoundPlaced, owner_gives, all_literals_give}
use Rattle.st_install.proofs.GoesStoring.{HasFields, there_at}
use Rattle.st_install.proofs.GoesPlanning.{same_object, HasDictionary, same_dictionary, GrowsIf, grows_gives, grown_gives, association_gives, crowded_gives}

-- INTO WHAT SYMBOLS ARE STORED

-- the symbol table's association or its value, or one of so many objects that are made
abbrev pub IsSymbolTarget : (association value : Value) → ℕ → PlannedValue → Type 0
IsSymbolTarget association value n (There v) = (v ≡ association) ⊎ (v ≡ value)
IsSymbolTarget association value n (Made k) = k < n

abbrev pub AreSymbolTargets : (association value : Value) → ℕ → List FieldStore → Type 0
AreSymbolTargets association value n [] = Unit {0}
AreSymbolTargets association value n (x ∷ xs) = IsSymbolTarget association value n x.object × AreSymbolTargets association value n xs

-- the object after this one, where there is one
abbrev pub IsNext : ℕ → Option ℕ → Type 0
IsNext number None = Unit {0}
IsNext number (Some k) = k ≡ number + 1

module _ (association value : Value) where
  pub target_more : (n m : ℕ) (p : PlannedValue) → n ≤ m → IsSymbolTarget association value n p → IsSymbolTarget association value m p
  target_more n m (There v) l h = h
  target_more n m (Made k) l h = omega (arith, l, h)

  pub targets_more : (n m : ℕ) (xs : List FieldStore) → n ≤ m → AreSymbolTargets association value n xs → AreSymbolTargets association value m xs
  targets_more n m [] l h = tt
  targets_more n m (x ∷ xs) l h = (target_more n m x.object l h.0, targets_more n m xs l h.1)

  targets_append : (n : ℕ) (xs ys : List FieldStore) → AreSymbolTargets association value n xs → AreSymbolTargets association value n ys → AreSymbolTargets association value n (xs ++ ys)
  targets_append n [] ys h k = k
  targets_append n (x ∷ xs) ys h k = (h.0, targets_append n xs ys h.1 k)

  pub record StoresInto (x : Symbols) : Type 0 where
    pub stores : AreSymbolTargets association value (length x.objects) x.stores
    pub table : IsSymbolTarget association value (length x.objects) x.table

  module _ (nil array_class symbol_class : Value) (text : List ℕ) (x : Symbols) (h : StoresInto x) where
    in_field : StoresInto (symbol_in_field nil array_class symbol_class association text x)
    in_field =
        let n = length-append x.objects (bytes_object symbol_class text ∷ []) in
        let more : length x.objects ≤ length (x.objects ++ bytes_object symbol_class text ∷ []) = omega (arith, n) in
        record {
          stores = targets_append _ x.stores _ (targets_more _ _ x.stores more h.stores) (target_more _ _ x.table more h.table, tt);
          table = target_more _ _ x.table more h.table;
        }

    in_array : StoresInto (symbol_in_array nil array_class symbol_class association text x)
    in_array =
        let n : length (symbol_in_array nil array_class symbol_class association text x).objects ≡ length x.objects + 2 = length-append x.objects _ in
        let more : length x.objects ≤ length (symbol_in_array nil array_class symbol_class association text x).objects = omega (arith, n) in
        record {
          stores = targets_append _ x.stores _ (targets_more _ _ x.stores more h.stores) (inl refl, tt);
          table = omega (arith, n);
        }

    either : (b : Bool) → StoresInto (if b then symbol_in_field nil array_class symbol_class association text x else symbol_in_array nil array_class symbol_class association text x)
    either true = in_field
    either false = in_array

    new_into : StoresInto (with_new_symbol nil array_class symbol_class association text x)
    new_into = either (nat_lt (vacant_field nil array_class symbol_class association text x) (length x.fields))

module _ (s : State Table) (sound : IsSoundTable s.memory) (association value : Value) where
  make_into : (text : List ℕ) (x : Symbols) → StoresInto association value x → Gives s (make_symbol table association text x) (λ y. StoresInto association value y)
  unfolding make_symbol
  make_into text x h =
      gives_then s _ _ _ _ (gives_page s NilObject)
      (λ nil e. gives_then s _ _ _ _ (gives_page s ArrayClass)
      (λ array f. gives_then s _ _ _ _ (gives_page s SymbolClass)
      (λ symbol g. gives_answer s _ _ (new_into association value nil array symbol text x h))))

  found_into : (text : List ℕ) (x : Symbols) (found : Option Value) → StoresInto association value x → Gives s (found_or_made table association text x found) (λ y. StoresInto association value y)
  unfolding found_or_made
  found_into text x None h = make_into text x h
  found_into text x (Some v) h = gives_answer s _ _ (record { stores = h.stores; table = h.table })

  unless_into : (o : Value) (text : List ℕ) (x : Symbols) (found : Option PlannedValue) → StoresInto association value x → Gives s (seek_unless table association o text x found) (λ y. StoresInto association value y)
  unfolding seek_unless
  unless_into o text x (Some p) h = gives_answer s _ x h
  unless_into o text x None h = gives_then s _ _ _ _ (gives_named s sound o text) (λ found k. found_into text x found h)

  all_into : (o : Value) (texts : List (List ℕ)) (x : Symbols) → StoresInto association value x → Gives s (with_symbols table association o texts x) (λ y. StoresInto association value y)
  unfolding with_symbols with_symbol
  all_into o [] x h = gives_answer s _ x h
  all_into o (text ∷ texts) x h = gives_then s _ _ _ _ (unless_into o text x (symbol_part x.named text) h) (λ y k. all_into o texts y k)

module _ (s : State Table) (sound : IsSoundTable s.memory) (association value : Value) (field : IsField s.memory association 1 value) where
  same_value_there : (x : Value) → IsField s.memory association 1 x → x ≡ value
  same_value_there x f =
      let q = same_object s.memory association f.object field.object f.is field.is in
      let r : slice_get field.object.fields 1 ≡ Some x = subst (λ o. slice_get o.fields 1 ≡ Some x) q f.field in
      some_value (sym r ∙ field.field)
    where
      some_value : {x y : Value} → Some x ≡ Some y → x ≡ y
      some_value e = cc

  symbols_into : (texts : List (List ℕ)) → Gives s (symbols_for table association texts) (λ y. StoresInto association value y)
  unfolding symbols_for
  symbols_into texts =
      gives_then s _ _ _ _ (gives_field s association 1)
      (λ o f. gives_then s _ _ _ _ (gives_count s o)
      (λ n c. gives_then s _ _ _ _ (fetch_gives s sound o 0 n)
      (λ xs h. all_into s sound association value o texts (symbols_there o xs) (record { stores = tt; table = inr (same_value_there o f) }))))

  -- THE PLAN

  -- Symbols come before the method, and the method before the dictionary that grows
  pub record IsArranged (c : Value) (p : Plan) : Type 0 where
    pub number : ℕ
    pub method : p.method ≡ Made number
    pub stores : AreSymbolTargets association value number p.symbol_stores
    pub selector : IsSoundPart s.memory number p.selector
    pub grown : IsNext number p.grown
    pub class : p.class ≡ c
    pub dictionary : IsField s.memory c 1 p.dictionary
    pub object : NewObject
    pub is : slice_get p.objects number ≡ Some object
    pub kind : object.kind ≡ kind.Method

  size_reads : (os : List NewObject) → Gives s (check_size os) Any
  unfolding check_size
  size_reads os = gives_less s _ _ _ (gives_check s dead.Field _) (λ a e. tt)

  sized_arranged : (class : Value) (p : Plan) → IsArranged class p → Gives s (sized p) (λ x. IsArranged class x)
  unfolding sized
  sized_arranged class p h = gives_next s _ _ _ _ (size_reads p.objects) (λ u x. gives_answer s _ p h)

  next_if : (b : Bool) (symbols : Symbols) (ls : PlacedAll) → IsNext (method_number symbols ls) (grown_number b symbols ls)
  next_if true symbols ls = refl
  next_if false symbols ls = tt

  module _ (class : Value) (has : HasDictionary s.memory class) (parts : PartsView) (headed : IsHeaded parts) (header : is_there bounded_table s.memory (value_of parts.header) ≡ true) where
    module _ (symbols : Symbols) (into : StoresInto association value symbols) (ls : PlacedAll) where
      arranged : (c d : Value) (p : PlannedValue) (b : Bool) (grown : List NewObject) → IsField s.memory class 1 d → IsSoundPart s.memory (length symbols.objects) p
          → IsArranged class (plan_with c class d parts symbols ls p b grown)
      arranged c d p b grown f l =
          let n = length-append symbols.objects ls.objects in
          record {
            number = method_number symbols ls;
            method = refl;
            stores = targets_more association value (length symbols.objects) (method_number symbols ls) symbols.stores (omega arith) into.stores;
            selector = part_more s.memory (length symbols.objects) (method_number symbols ls) p (omega arith) l;
            grown = next_if b symbols ls;
            class = refl;
            dictionary = f;
            object = method_object c (There (value_of parts.header) ∷ ls.parts) parts.bytes;
            is = get_in_front (objects_with_method c parts symbols ls) grown (method_number symbols ls) _
                (get_seam (symbols.objects ++ ls.objects) (method_object c (There (value_of parts.header) ∷ ls.parts) parts.bytes ∷ []) 0 (method_number symbols ls) (omega (arith, n)));
            kind = refl;
          }

      objects_arranged : (p : PlannedValue) → IsSoundPart s.memory (length symbols.objects) p → Gives s (plan_objects table class parts symbols ls p) (λ x. IsArranged class x)
      unfolding plan_objects
      objects_arranged p l =
          gives_then s (λ d. IsField s.memory class 1 d) _ _ _ (gives_field s class 1)
          (λ d f. gives_then s Any _ _ _
          (gives_less s _ _ Any (subst (λ v. Gives s (grows_for table v p) (λ b. b ≡ false → HasPlace s.memory has.is.object.fields p)) (sym (same_dictionary s.memory class has d f)) (grows_gives s sound has.dictionary has.is p)) (λ b z. tt))
          (λ b z. gives_then s Any _ _ _
          (gives_less s _ _ Any (subst (λ v. Gives s (grown_if table v (method_number symbols ls + 1) b) (λ os. GrowsIf s sound has.dictionary has.is (method_number symbols ls + 1) b os)) (sym (same_dictionary s.memory class has d f))
          (grown_gives s sound has.dictionary has.is (method_number symbols ls + 1) b)) (λ os y. tt))
          (λ grown y. gives_then s _ _ _ _ (gives_page s MethodClass)
          (λ c q. sized_arranged class _ (arranged c d p b grown f l)))))

    plan_arranged : (owner : Value) (meta : Bool) → HasFields s.memory owner 2 → Gives s (plan table association owner class meta parts) (λ x. IsArranged class x)
    unfolding plan
    plan_arranged owner meta a =
        gives_then s (λ y. StoresInto association value y × AreSoundSymbols s.memory y) _ _ _
        (gives_both s _ _ _ (symbols_into (parts.selector ∷ symbols_in parts.literals)) (symbols_give s sound association (parts.selector ∷ symbols_in parts.literals)))
        (λ symbols h. gives_then s (λ ls. AreSoundPlaced s.memory (length symbols.objects) ls × (length ls.parts ≡ length parts.literals)) _ _ _
        (all_literals_give s sound symbols.named (place_owner table owner class meta) (length symbols.objects) h.1.named
        (λ next. owner_gives s sound owner class meta next a (there_at s.memory class has.field.object has.field.is)) (length symbols.objects) parts.literals (omega arith))
        (λ ls k. gives_then s _ _ _ _ (gives_or_die s dead.Field (symbol_part symbols.named parts.selector))
        (λ p e. objects_arranged symbols h.0 ls p (named_part s.memory (length symbols.objects) symbols.named parts.selector p h.1.named e))))

    same_table : (x : Option Value) (v : Value) → x ≡ Some association → x ≡ Some v → association ≡ v
    same_table x v e f = some_value (sym e ∙ f)
      where
        some_value : {x y : Value} → Some x ≡ Some y → x ≡ y
        some_value q = cc

    planned_arranged : (head : Head) → head.symbols ≡ Some association → (name : List ℕ) (meta : Bool) → Gives s (planned table head class name meta parts) (λ x. IsArranged class x)
    unfolding planned planned_for
    planned_arranged head symbols name meta =
        gives_then s _ _ _ _ (gives_or_die s dead.Field head.globals)
        (λ globals e. gives_then s _ _ _ _ (association_gives s sound class has parts headed header globals name)
        (λ owner a. gives_then s _ _ _ _ (gives_or_die s dead.Field head.symbols)
        (λ v f. subst (λ y. Gives s (plan table y owner class meta parts) (λ x. IsArranged class x)) (same_table head.symbols v symbols f) (plan_arranged owner meta a))))

    abbrev pub ArrangedIfOk : Result Plan InstallFault → Type 0
    ArrangedIfOk (Ok p) = IsArranged class p
    ArrangedIfOk (Err f) = Unit {0}

    room_arranged : (p : Plan) (b : Bool) → IsArranged class p → ArrangedIfOk (room_or p b)
    room_arranged p true h = tt
    room_arranged p false h = h

    with_room_arranged : (head : Head) (p : Option Plan) → IfAny (λ x. IsArranged class x) p → Gives s (with_room table head p) ArrangedIfOk
    unfolding with_room
    with_room_arranged head None h = gives_answer s ArrangedIfOk (Err Shape) tt
    with_room_arranged head (Some p) h =
        gives_then s _ _ _ _ (crowded_gives s sound class has parts headed header head p.objects) (λ b k. gives_answer s ArrangedIfOk (room_or p b) (room_arranged p b h))

    pub ready_arranged : (head : Head) → head.symbols ≡ Some association → (name : List ℕ) (meta : Bool) → Gives s (ready table head class name meta parts) ArrangedIfOk
    unfolding ready
    ready_arranged head symbols name meta =
        gives_then s _ _ _ _ (gives_tried s _ _ (planned_arranged head symbols name meta)) (λ p h. with_room_arranged head p h)
