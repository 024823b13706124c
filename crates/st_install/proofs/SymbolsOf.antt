-- Symbols of a method, one text after the other.
use Rattle.std.proofs.Common.{◌≡◌, ℕ, ◌+◌, ◌-◌, ◌<◌, ◌≤◌, zero, suc, Bool, true, false, List, [], ◌∷◌, ◌++◌, length, get_or, map, drop, take, Option, Some, None, is_some, cond, refl, sym, ap, ◌∙◌, subst, true≢false, arith}
use Rattle.std.specs.Prelude.{◌*◌, max, replicate, slice_set, option_map, find, nat_lt, bytes_eq, if◌then◌else◌, Result, Ok, Err, OnOk}
use Rattle.std.specs.Global.{Vec}
use Rattle.std.specs.List.{position_or_len}
use Rattle.std.specs.declared.cmp.Ordering.{Ordering}
use Rattle.std.specs.Ordering.{nat_cmp}
use Rattle.std.specs.BTreeMap.{BTreeMap, UpdatesBy}
use Rattle.std.specs.Cmp.Lexicographic.{slice_cmp}
use Rattle.std.proofs.lemmas.Bool.Decides.{nat_tests}
use Rattle.std.proofs.lemmas.List.{append_assoc, append-nil, map-append, map-set, length-map, length-append, at_drop_more, drop_all, take_all}
use Rattle.st_model.specs.declared.dead.Dead.{Dead}
use Rattle.st_model.specs.declared.oop.Oop.{Oop}
use Rattle.st_model.specs.declared.page.PageObject.TheVariants.{ArrayClass, SymbolClass}
use Rattle.st_model.specs.Values.{Value, Ref, value, value_of}
use Rattle.st_model.specs.Objects.{place_of}
use Rattle.st_model.specs.Machine.{State, Transition, Died, Went, after, answer, ◌>>=◌}
use Rattle.st_model.specs.Steps.{of_page, fetch_field, fetch_fields, count_fields}
use Rattle.st_model.specs.Table.{Table, table}
use Rattle.st_model.specs.inside.Calls.{Reads, itself}
use Rattle.st_model.proofs.Runs.{run-then, after-went, after-died}
use Rattle.st_emit.specs.declared.literal.Literal.{Literal}
use Rattle.st_emit.specs.declared.literal.Literal.TheVariants.{Symbol, Array}
use Rattle.st_emit.proofs.Members.{array_view}
use Rattle.st_emit.specs.inside.Views.{literal_view, literals_view, members_view}
use Rattle.st_emit.proofs.Noting.{at_put}
use Rattle.st_install.specs.declared.plan.PlannedValue.{PlannedValue as CodePart}
use Rattle.st_install.specs.declared.plan.PlannedValue.TheVariants as part
use Rattle.st_install.specs.declared.plan.NewObject.{NewObject as CodeObject}
use Rattle.st_install.specs.declared.plan.SymbolStore.{SymbolStore}
use Rattle.st_scope.specs.declared.unread.Unread.{Unread}
use Rattle.st_scope.specs.declared.unread.Unread.TheVariants.{Dies, OutOfMemory}
use Rattle.st_install.specs.declared.symbol_plan.SymbolPlan.{SymbolPlan}
use Rattle.st_install.specs.Plans.{PlannedValue, There, Made, NewObject, bytes_object, pointers_object}
use Rattle.st_install.specs.Symbols.{Symbols, NamedSymbol, is_vacant, grown_size, symbol_part, symbols_of, symbols_among, symbols_in, symbol_named, make_symbol, found_or_made, seek_unless, with_symbol, with_symbols, symbols_there, symbols_for}
use Rattle.st_scope.specs.Texts.{found}
use Rattle.st_install.specs.inside.Readies.{part_of, parts_of, object_of, objects_of, store_of, stores_of}
use Rattle.st_install.specs.inside.Told.{named_of}
use Rattle.st_install.specs.inside.Naming.{nil, all_fields, AreFields, IsNamed, Becomes, with_named, in_field, grown_with, in_array, with_made, Names, TellsFields, TellsNaming, TellsNames, naming}
use Rattle.st_install.proofs.Singles.{noted, symbol_noted}
use Rattle.st_install.proofs.Growth.{parts_of_nil, array_class}
use Rattle.st_emit.proofs.NamePlaces.{same_text, decides}

-- NOTING

abbrev by_items : Vec ℕ → Vec ℕ → Ordering
by_items x y = slice_cmp nat_cmp x.items y.items

-- one more behind the others
abbrev or_last : Option PlannedValue → Option PlannedValue → Option PlannedValue
or_last None p = p
or_last (Some q) p = Some q

symbol_last : (ss : List NamedSymbol) (text t : List ℕ) (p : PlannedValue) → symbol_part (ss ++ record { text = text; part = p } ∷ []) t ≡ or_last (symbol_part ss t) (cond (bytes_eq text t) (Some p) None)
symbol_last [] text t p = one (bytes_eq text t)
  where
    one : (b : Bool) → option_map (λ (s : NamedSymbol). s.part) (cond b (Some (record { text = text; part = p })) None) ≡ cond b (Some p) None
    one true = refl
    one false = refl
symbol_last (s ∷ ss) text t p = one (bytes_eq s.text t) (symbol_last ss text t p)
  where
    one : (b : Bool) → symbol_part (ss ++ record { text = text; part = p } ∷ []) t ≡ or_last (symbol_part ss t) (cond (bytes_eq text t) (Some p) None)
        → option_map (λ (s : NamedSymbol). s.part) (cond b (Some s) (find (λ s. bytes_eq s.text t) (ss ++ record { text = text; part = p } ∷ [])))
        ≡ or_last (option_map (λ (s : NamedSymbol). s.part) (cond b (Some s) (find (λ s. bytes_eq s.text t) ss))) (cond (bytes_eq text t) (Some p) None)
    one true h = refl
    one false h = h

put_last : (b : Bool) (p : CodePart) (a : Option CodePart) (o : Option PlannedValue) → option_map part_of a ≡ o → (b ≡ true → o ≡ None) → option_map part_of (cond b (Some p) a) ≡ or_last o (cond b (Some (part_of p)) None)
put_last true p a o e n = rw (n refl) refl
put_last false p None o e n = rw (sym e) refl
put_last false p (Some q) o e n = rw (sym e) refl

-- a Symbol is noted of a text of which none was
pub noted_more : (m n : BTreeMap (Vec ℕ) CodePart) (k : Vec ℕ) (p : CodePart) (ss : List NamedSymbol) → UpdatesBy by_items (by_items k) m n (Some p)
    → ((t : List ℕ) → symbol_part (named_of m.entries) t ≡ symbol_part ss t) → symbol_part (named_of m.entries) k.items ≡ None
    → (t : List ℕ) → symbol_part (named_of n.entries) t ≡ symbol_part (ss ++ record { text = k.items; part = part_of p } ∷ []) t
noted_more m n k p ss updates same none t =
    sym (symbol_noted n.entries t)
    ∙ ap (option_map part_of) (at_put (λ q. q.items) bytes_eq same_text by_items decides m n k (Some p) updates t)
    ∙ put_last (bytes_eq k.items t) p (noted m.entries t) (symbol_part ss t) (symbol_noted m.entries t ∙ same t) (λ e. sym (ap (symbol_part ss) (same_text k.items t e)) ∙ sym (same k.items) ∙ none)
    ∙ sym (symbol_last ss k.items t (part_of p))

-- NEW SYMBOLS

abbrev pub with_object : List ℕ → Symbols → Symbols
with_object text s = record s { objects = s.objects ++ bytes_object (Ref (place_of SymbolClass)) text ∷ [] }

-- a Symbol is made and named, and then it is put into the table
abbrev pub named_new : List ℕ → Symbols → Symbols
named_new text s = with_named text (Made (length s.objects)) (with_object text s)

abbrev vacant : Symbols → ℕ
vacant s = position_or_len (is_vacant nil) s.fields

longer : (os : List NewObject) (o : NewObject) → length os + 1 ≡ length (os ++ o ∷ [])
longer os o = sym (length-append os (o ∷ []))

pub put_new : (association : Oop) (text : List ℕ) (s : Symbols) (b : Bool) → nat_lt (vacant s) (length s.fields) ≡ b
    → with_made association text s ≡ (if b then in_field (vacant s) (Made (length s.objects)) (named_new text s) else in_array association (Made (length s.objects)) (named_new text s))
put_new association text s true e = rw e refl
put_new association text s false e =
    let o = bytes_object (Ref (place_of SymbolClass)) text in
    rw (e, ← longer s.objects o, append_assoc s.objects (o ∷ [])) refl

-- what the code does to its plan
pub becomes_named : (old new : SymbolPlan) (k : Vec ℕ) (p : CodePart) → new.table ≡ old.table → new.fields.items ≡ old.fields.items → new.objects.items ≡ old.objects.items → new.stores.items ≡ old.stores.items
    → UpdatesBy by_items (by_items k) old.named new.named (Some p) → symbol_part (named_of old.named.entries) k.items ≡ None → Becomes (with_named k.items (part_of p)) old new
becomes_named old new k p a b c d updates none s h = record {
  table = ap part_of a ∙ h.table;
  fields = ap parts_of b ∙ h.fields;
  objects = ap objects_of c ∙ h.objects;
  stores = ap stores_of d ∙ h.stores;
  named = noted_more old.named new.named k p s.named updates h.named none;
}

pub becomes_made : (old new : SymbolPlan) (text : List ℕ) → part_of new.table ≡ part_of old.table → parts_of new.fields.items ≡ parts_of old.fields.items
    → objects_of new.objects.items ≡ objects_of old.objects.items ++ bytes_object (Ref (place_of SymbolClass)) text ∷ [] → stores_of new.stores.items ≡ stores_of old.stores.items → new.named.entries ≡ old.named.entries
    → Becomes (with_object text) old new
becomes_made old new text a b c d e s h = record {
  table = a ∙ h.table;
  fields = b ∙ h.fields;
  objects = c ∙ ap (λ os. os ++ bytes_object (Ref (place_of SymbolClass)) text ∷ []) h.objects;
  stores = d ∙ h.stores;
  named = λ t. ap (λ es. symbol_part (named_of es) t) e ∙ h.named t;
}

pub becomes_stored : (old new : SymbolPlan) (k : ℕ) (p : CodePart) → part_of new.table ≡ part_of old.table → new.fields.items ≡ slice_set old.fields.items k p → objects_of new.objects.items ≡ objects_of old.objects.items
    → stores_of new.stores.items ≡ stores_of old.stores.items ++ record { object = part_of old.table; field = k; value = part_of p } ∷ [] → new.named.entries ≡ old.named.entries
    → Becomes (in_field k (part_of p)) old new
becomes_stored old new k p a b c d e s h = record {
  table = a ∙ h.table;
  fields = ap parts_of b ∙ map-set part_of old.fields.items k p ∙ ap (λ xs. slice_set xs k (part_of p)) h.fields;
  objects = c ∙ h.objects;
  stores = d ∙ rw (h.table, h.stores) refl;
  named = λ t. ap (λ es. symbol_part (named_of es) t) e ∙ h.named t;
}

size_fits : (n : ℕ) → n + 1 ≤ max 16 (2 * n)
size_fits zero = omega arith
size_fits (suc n) = omega arith

grown_parts : (xs : List CodePart) (p : CodePart) (size : ℕ) → size ≡ grown_size (length xs) → parts_of (take size (xs ++ p ∷ []) ++ replicate (size - length (xs ++ p ∷ [])) (part.There (record { 0 = 2 }))) ≡ grown_with (part_of p) (parts_of xs)
grown_parts xs p size e =
    let n : length (xs ++ p ∷ []) ≡ length xs + 1 = length-append xs (p ∷ []) in
    let fits : length xs + 1 ≤ grown_size (length xs) = size_fits (length xs) in
    let all : take size (xs ++ p ∷ []) ≡ xs ++ p ∷ [] = take_all size (xs ++ p ∷ []) (omega (arith, n, e, fits)) in
    let m : length xs ≡ length (parts_of xs) = sym (length-map xs part_of) in
    map-append part_of (take size (xs ++ p ∷ [])) (replicate (size - length (xs ++ p ∷ [])) (part.There (record { 0 = 2 })))
    ∙ ap (λ ys. parts_of ys ++ parts_of (replicate (size - length (xs ++ p ∷ [])) (part.There (record { 0 = 2 })))) all
    ∙ ap (λ k. parts_of (xs ++ p ∷ []) ++ parts_of (replicate (size - k) (part.There (record { 0 = 2 })))) n
    ∙ ap (λ k. parts_of (xs ++ p ∷ []) ++ parts_of (replicate (k - (length xs + 1)) (part.There (record { 0 = 2 })))) e
    ∙ ap (λ ys. parts_of (xs ++ p ∷ []) ++ ys) (parts_of_nil (grown_size (length xs) - (length xs + 1)))
    ∙ ap (λ ys. ys ++ replicate (grown_size (length xs) - (length xs + 1)) (There nil)) (map-append part_of xs (p ∷ []))
    ∙ append_assoc (parts_of xs) (part_of p ∷ []) (replicate (grown_size (length xs) - (length xs + 1)) (There nil))
    ∙ ap (λ k. parts_of xs ++ part_of p ∷ replicate (grown_size k - (k + 1)) (There nil)) m

pub becomes_grown : (old new : SymbolPlan) (association : Oop) (p : CodePart) (size : ℕ) (x : CodeObject) → part_of new.table ≡ Made (length old.objects.items) → size ≡ grown_size (length old.fields.items)
    → new.fields.items ≡ take size (old.fields.items ++ p ∷ []) ++ replicate (size - length (old.fields.items ++ p ∷ [])) (part.There (record { 0 = 2 }))
    → new.objects.items ≡ old.objects.items ++ x ∷ [] → object_of x ≡ pointers_object (value (record { 0 = 16 })) (parts_of new.fields.items)
    → new.stores.items ≡ old.stores.items ++ record { object = part.There association; field = 1; value = new.table } ∷ [] → new.named.entries ≡ old.named.entries
    → Becomes (in_array association (part_of p)) old new
becomes_grown old new association p size x a z b c q d e s h =
    let fields : parts_of new.fields.items ≡ grown_with (part_of p) s.fields = ap parts_of b ∙ grown_parts old.fields.items p size z ∙ ap (grown_with (part_of p)) h.fields in
    let n : length old.objects.items ≡ length s.objects = sym (length-map old.objects.items object_of) ∙ ap length h.objects in
    let made : part_of new.table ≡ Made (length s.objects) = a ∙ ap Made n in
    record {
      table = made;
      fields = fields;
      objects =
          ap objects_of c ∙ map-append object_of old.objects.items (x ∷ []) ∙ ap (λ os. os ++ object_of x ∷ []) h.objects
          ∙ ap (λ o. s.objects ++ o ∷ []) (q ∙ ap (λ v. pointers_object v (parts_of new.fields.items)) array_class ∙ ap (pointers_object (Ref (place_of ArrayClass))) fields);
      stores =
          ap stores_of d ∙ map-append store_of old.stores.items (record { object = part.There association; field = 1; value = new.table } ∷ []) ∙ ap (λ ss. ss ++ record { object = There (value association); field = 1; value = part_of new.table } ∷ []) h.stores
          ∙ ap (λ (v : PlannedValue). s.stores ++ record { object = There (value association); field = 1; value = v } ∷ []) made;
      named = λ t. ap (λ es. symbol_part (named_of es) t) e ∙ h.named t;
    }

-- FINDING AND MAKING

module _ (association array : Oop) (text : List ℕ) (t : Table) where
  known_by : (s : Symbols) (st : State Table) (o : Option PlannedValue) → is_some o ≡ true → (seek_unless table (value association) (value array) text s o).run st ≡ Went s st
  unfolding seek_unless answer
  known_by s st None e = absurd (true≢false (sym e))
  known_by s st (Some p) e = refl

  pub name_known : (p : SymbolPlan) → is_some (symbol_part (named_of p.named.entries) text) ≡ true → (s : Symbols) → IsNamed p s → Names (with_symbol table (value association) (value array) text s) t p
  unfolding with_symbol
  name_known p e s h = record {
    symbols = s;
    is = h;
    tells = λ st f. known_by s st (symbol_part s.named text) (ap is_some (sym (h.named text)) ∙ e);
  }

  sought : (s : Symbols) (st : State Table) (o : Option PlannedValue) → o ≡ None
      → (seek_unless table (value association) (value array) text s o).run st ≡ (symbol_named table (value array) text >>= (λ f. found_or_made table (value association) text s f)).run st
  unfolding seek_unless
  sought s st None e = refl
  sought s st (Some p) e = cc

  module _ (old : SymbolPlan) (none : symbol_part (named_of old.named.entries) text ≡ None) (s : Symbols) (h : IsNamed old s) where
    goes_on : (st : State Table) → (with_symbol table (value association) (value array) text s).run st ≡ (symbol_named table (value array) text >>= (λ f. found_or_made table (value association) text s f)).run st
    unfolding with_symbol
    goes_on st = sought s st (symbol_part s.named text) (sym (h.named text) ∙ none)

    pub seek_dies : (k : Dead) → Reads (symbol_named table (value array) text) found t (Err k) → (st : State Table) → st.memory ≡ t → (with_symbol table (value association) (value array) text s).run st ≡ Died k
    seek_dies k e st f = goes_on st ∙ simp (run-then, e st f, after-died) refl

    pub name_found : (new : SymbolPlan) (o : Oop) → Reads (symbol_named table (value array) text) found t (Ok (Some o)) → Becomes (with_named text (There (value o))) old new
        → Names (with_symbol table (value association) (value array) text s) t new
    unfolding found_or_made answer
    name_found new o e b = record {
      symbols = with_named text (There (value o)) s;
      is = b s h;
      tells = λ st f. goes_on st ∙ simp (run-then, e st f, after-went) refl;
    }

    pub name_made : (new : SymbolPlan) → Reads (symbol_named table (value array) text) found t (Ok None) → Becomes (with_made association text) old new
        → Names (with_symbol table (value association) (value array) text s) t new
    unfolding found_or_made make_symbol answer of_page ◌>>=◌ after
    name_made new e b = record {
      symbols = with_made association text s;
      is = b s h;
      tells = λ st f. goes_on st ∙ ap (λ x. after x (λ a u. (found_or_made table (value association) text s a).run u)) (e st f);
    }

  -- one text alone
  one_text : (s : Symbols) (x : Transition (State Table) Symbols) → after x (λ u st. (with_symbols table (value association) (value array) [] u).run st) ≡ x
  unfolding with_symbols answer after
  one_text s (Died k) = refl
  one_text s (Went u st) = refl

  alone : (s : Symbols) (st : State Table) → (naming association array (text ∷ []) s).run st ≡ (with_symbol table (value association) (value array) text s).run st
  unfolding with_symbols ◌>>=◌
  alone s st = one_text s ((with_symbol table (value association) (value array) text s).run st)

  pub names_alone : (s : Symbols) (p : SymbolPlan) → Names (with_symbol table (value association) (value array) text s) t p → Names (naming association array (text ∷ []) s) t p
  names_alone s p e = record { symbols = e.symbols; is = e.is; tells = λ st f. alone s st ∙ e.tells st f }

  pub dies_alone : (s : Symbols) (k : Dead) → ((st : State Table) → st.memory ≡ t → (with_symbol table (value association) (value array) text s).run st ≡ Died k)
      → (st : State Table) → st.memory ≡ t → (naming association array (text ∷ []) s).run st ≡ Died k
  dies_alone s k e st f = alone s st ∙ e st f

-- A NEW SYMBOL

pub on_ok : {A E : Type 0} {P Q : Type 0} (r : Result A E) → (P → Q) → OnOk r P → OnOk r Q
on_ok (Ok a) f h = f h
on_ok (Err e) f h = tt

symbol_class : value (record { 0 = 56 }) ≡ Ref (place_of SymbolClass)
unfolding value_of
symbol_class = refl

made_object : (old new : List CodeObject) (x : CodeObject) (bytes text : List ℕ) → new ≡ old ++ x ∷ [] → object_of x ≡ bytes_object (value (record { 0 = 56 })) bytes → bytes ≡ text
    → objects_of new ≡ objects_of old ++ bytes_object (Ref (place_of SymbolClass)) text ∷ []
made_object old new x bytes text e o q =
    ap objects_of e ∙ map-append object_of old (x ∷ []) ∙ ap (λ z. objects_of old ++ z ∷ []) (o ∙ ap (λ v. bytes_object v bytes) symbol_class ∙ ap (bytes_object (Ref (place_of SymbolClass))) q)

-- the plan in which these objects are
abbrev with_objects : SymbolPlan → Vec CodeObject → SymbolPlan
with_objects old objects = record { table = old.table; fields = old.fields; objects = objects; stores = old.stores; named = old.named }

-- an object is made and noted, and the first vacant field is asked for
module _ (old named new : SymbolPlan) (association : Oop) (text : List ℕ) (p : CodePart) (a : part_of p ≡ Made (length old.objects.items)) (objects : Vec CodeObject) (x : CodeObject) (put : objects.items ≡ old.objects.items ++ x ∷ []) (bytes : List ℕ)
    (o : object_of x ≡ bytes_object (value (record { 0 = 56 })) bytes) (spells : bytes ≡ text) (n : Becomes (with_named text (part_of p)) (with_objects old objects) named)
    (k : ℕ) (fields : List CodePart) (searched : k ≡ position_or_len (is_vacant nil) (parts_of fields)) (same : fields ≡ old.fields.items) (count : ℕ) (counted : count ≡ length named.fields.items) where
  v : k ≡ position_or_len (is_vacant nil) (parts_of old.fields.items)
  v = searched ∙ ap (λ ps. position_or_len (is_vacant nil) (parts_of ps)) same

  m : Becomes (with_object text) old (with_objects old objects)
  m = becomes_made old (with_objects old objects) text refl refl (made_object old.objects.items objects.items x bytes text put o spells) refl refl

  module _ (s : Symbols) (h : IsNamed old s) where
    number : part_of p ≡ Made (length s.objects)
    number = a ∙ ap Made (sym (length-map old.objects.items object_of) ∙ ap length h.objects)

    is_now : IsNamed named (named_new text s)
    is_now = subst (λ q. IsNamed named (with_named text q (with_object text s))) number (n (with_object text s) (m s h))

    vacant_is : k ≡ vacant s
    vacant_is = v ∙ ap (position_or_len (is_vacant nil)) h.fields

    length_is : length named.fields.items ≡ length s.fields
    length_is = sym (length-map named.fields.items part_of) ∙ ap length is_now.fields

    below : (b : Bool) → nat_lt k (length named.fields.items) ≡ b → nat_lt (vacant s) (length s.fields) ≡ b
    below b e = subst (λ j. nat_lt j (length s.fields) ≡ b) vacant_is (subst (λ j. nat_lt k j ≡ b) length_is e)

  pub made_in_field : k < count → Becomes (in_field k (part_of p)) named new → Becomes (with_made association text) old new
  made_in_field l r s h =
      let e : nat_lt k (length named.fields.items) ≡ true = grind (arith, nat_tests, counted, l) in
      let w : IsNamed new (in_field k (part_of p) (named_new text s)) = r (named_new text s) (is_now s h) in
      let x : IsNamed new (in_field (vacant s) (Made (length s.objects)) (named_new text s)) = subst (λ j. IsNamed new (in_field j (Made (length s.objects)) (named_new text s))) (vacant_is s h) (subst (λ q. IsNamed new (in_field k q (named_new text s))) (number s h) w) in
      subst (λ z. IsNamed new z) (sym (put_new association text s true (below s h true e))) x

  pub made_in_array : count ≤ k → Becomes (in_array association (part_of p)) named new → Becomes (with_made association text) old new
  made_in_array l r s h =
      let e : nat_lt k (length named.fields.items) ≡ false = grind (arith, nat_tests, counted, l) in
      let w : IsNamed new (in_array association (part_of p) (named_new text s)) = r (named_new text s) (is_now s h) in
      let x : IsNamed new (in_array association (Made (length s.objects)) (named_new text s)) = subst (λ q. IsNamed new (in_array association q (named_new text s))) (number s h) w in
      subst (λ z. IsNamed new z) (sym (put_new association text s false (below s h false e))) x

-- LITERALS

among_same : (ls : List Literal) → symbols_among (members_view ls) ≡ symbols_in (literals_view ls)
among_same [] = refl
among_same (l ∷ ls) = ap (λ xs. symbols_of (literal_view l) ++ xs) (among_same ls)

pub among_literals : (ls : List Literal) → symbols_among (members_view ls) ≡ symbols_in (literals_view ls)
among_literals ls = among_same ls

after_each : {A B : Type 0} (y : Transition (State Table) A) (f g : A → State Table → Transition (State Table) B) → ((a : A) (v : State Table) → f a v ≡ g a v) → after y f ≡ after y g
unfolding after
after_each (Died k) f g e = refl
after_each (Went a v) f g e = e a v

after_after : {A B C : Type 0} (y : Transition (State Table) A) (f : A → State Table → Transition (State Table) B) (g : B → State Table → Transition (State Table) C) → after y (λ a v. after (f a v) g) ≡ after (after y f) g
unfolding after
after_after (Died k) f g = refl
after_after (Went a v) f g = refl

module _ (association array : Oop) (t : Table) where
  pub nothing_named : (p : SymbolPlan) (s : Symbols) → IsNamed p s → Names (naming association array [] s) t p
  unfolding with_symbols answer
  nothing_named p s h = record { symbols = s; is = h; tells = λ st f. refl }

  split : (xs ys : List (List ℕ)) (s : Symbols) (st : State Table) → (naming association array (xs ++ ys) s).run st ≡ after ((naming association array xs s).run st) (λ u v. (naming association array ys u).run v)
  unfolding with_symbols answer after ◌>>=◌
  split [] ys s st = refl
  split (x ∷ xs) ys s st =
      after_each ((with_symbol table (value association) (value array) x s).run st) _ _ (λ u v. split xs ys u v)
      ∙ after_after ((with_symbol table (value association) (value array) x s).run st) (λ u v. (naming association array xs u).run v) (λ u v. (naming association array ys u).run v)

  -- all texts are named as those of the literals from one on, from what the plan means now
  pub record LeftNames (ls : List Literal) (now : SymbolPlan) (i : ℕ) (s : Symbols) : Type 0 where
    pub symbols : Symbols
    pub is : IsNamed now symbols
    pub same : (st : State Table) → st.memory ≡ t → (naming association array (symbols_in (literals_view ls)) s).run st ≡ (naming association array (symbols_in (literals_view (drop i ls))) symbols).run st

  -- the Symbol of a literal
  pub symbol_named_by : (old new : SymbolPlan) (l : Literal) (text : Vec ℕ) (xs : List ℕ) → l ≡ Symbol text → xs ≡ text.items → (r : Result Unit Unread) → TellsNaming (with_symbol table (value association) (value array) xs) t old new r
      → TellsNaming (naming association array (symbols_of (literal_view l))) t old new r
  symbol_named_by old new l text xs q i r e =
      subst (λ z. TellsNaming (naming association array (symbols_of (literal_view z))) t old new r) (sym q) (subst (λ ys. TellsNaming (naming association array (ys ∷ [])) t old new r) i (one r e))
    where
      one : (r : Result Unit Unread) → TellsNaming (with_symbol table (value association) (value array) xs) t old new r → TellsNaming (naming association array (xs ∷ [])) t old new r
      one (Ok u) e = λ s h. names_alone association array xs t s new (e s h)
      one (Err (Dies k)) e = λ s h. dies_alone association array xs t s k (e s h)
      one (Err OutOfMemory) e = tt

  pub no_symbols : (p : SymbolPlan) (l : Literal) → symbols_of (literal_view l) ≡ [] → (s : Symbols) → IsNamed p s → Names (naming association array (symbols_of (literal_view l)) s) t p
  no_symbols p l e s h = subst (λ xs. Names (naming association array xs s) t p) (sym e) (nothing_named p s h)

  pub array_named_by : (old new : SymbolPlan) (l : Literal) (ls : Vec Literal) (xs : List Literal) → l ≡ Array ls → xs ≡ ls.items → (r : Result Unit Unread) → TellsNaming (naming association array (symbols_in (literals_view xs))) t old new r
      → TellsNaming (naming association array (symbols_of (literal_view l))) t old new r
  array_named_by old new l ls xs q i r e =
      let same : symbols_in (literals_view xs) ≡ symbols_of (literal_view l) =
      ap (λ ys. symbols_in (literals_view ys)) i ∙ sym (among_literals ls.items) ∙ ap symbols_of (sym (array_view ls)) ∙ ap (λ z. symbols_of (literal_view z)) (sym q) in
      subst (λ ys. TellsNaming (naming association array ys) t old new r) same e

  pub names_begin : (ls : List Literal) (old : SymbolPlan) (s : Symbols) → IsNamed old s → LeftNames ls old 0 s
  names_begin ls old s h = record { symbols = s; is = h; same = λ st f. refl }

  pub names_end : (ls : List Literal) (now : SymbolPlan) (i : ℕ) (s : Symbols) → LeftNames ls now i s → length ls ≤ i → Names (naming association array (symbols_in (literals_view ls)) s) t now
  unfolding with_symbols answer
  names_end ls now i s h l = record {
    symbols = h.symbols;
    is = h.is;
    tells = λ st f. h.same st f ∙ ap (λ (xs : List Literal). (naming association array (symbols_in (literals_view xs)) h.symbols).run st) (drop_all i ls l);
  }

  module _ (ls : List Literal) (now : SymbolPlan) (i : ℕ) (s : Symbols) (h : LeftNames ls now i s) (x : Literal) (l : i < length ls) (is : x ≡ get_or ls i x) where
    turn : (st : State Table) → st.memory ≡ t → (naming association array (symbols_in (literals_view ls)) s).run st
        ≡ after ((naming association array (symbols_of (literal_view x)) h.symbols).run st) (λ u v. (naming association array (symbols_in (literals_view (drop (i + 1) ls))) u).run v)
    turn st f =
        h.same st f ∙ (at_drop_more (λ rest. (naming association array (symbols_in (literals_view rest)) h.symbols).run st) ls i x l
        ∙ (ap (λ y. (naming association array (symbols_of (literal_view y) ++ symbols_in (literals_view (drop (i + 1) ls))) h.symbols).run st) (sym is)
        ∙ split (symbols_of (literal_view x)) (symbols_in (literals_view (drop (i + 1) ls))) h.symbols st))

    pub names_die : (k : Dead) → ((u : Symbols) → IsNamed now u → (st : State Table) → st.memory ≡ t → (naming association array (symbols_of (literal_view x)) u).run st ≡ Died k)
        → (st : State Table) → st.memory ≡ t → (naming association array (symbols_in (literals_view ls)) s).run st ≡ Died k
    names_die k e st f = turn st f ∙ simp (e h.symbols h.is st f, after-died) refl

    pub names_more : (new : SymbolPlan) → ((u : Symbols) → IsNamed now u → Names (naming association array (symbols_of (literal_view x)) u) t new) → LeftNames ls new (i + 1) s
    names_more new e =
        let n = e h.symbols h.is in
        record { symbols = n.symbols; is = n.is; same = λ st f. turn st f ∙ simp (n.tells st f, after-went) refl }

pub names_fail : (association array : Oop) (t : Table) (ls : List Literal) (old now : SymbolPlan) (i : ℕ) → ((s : Symbols) → IsNamed old s → LeftNames association array t ls now i s) → (y : Literal) → i < length ls → y ≡ get_or ls i y
    → (x : Unread) (new last : SymbolPlan) → TellsNaming (naming association array (symbols_of (literal_view y))) t now new (Err x) → TellsNaming (naming association array (symbols_in (literals_view ls))) t old last (Err x)
names_fail association array t ls old now i inv y l is (Dies k) new last e = λ s h. names_die association array t ls now i s (inv s h) y l is k e
names_fail association array t ls old now i inv y l is OutOfMemory new last e = tt

-- FIELDS OF THE TABLE

abbrev T : CodePart → Bool
T p = is_vacant nil (part_of p)

-- the first field of nil is among those from one on
pub record LeftFree (ps : List CodePart) (i : ℕ) : Type 0 where
  pub same : position_or_len (is_vacant nil) (parts_of ps) ≡ i + position_or_len (is_vacant nil) (parts_of (drop i ps))

pub free_begin : (ps : List CodePart) → LeftFree ps 0
free_begin ps = let p = position_or_len (is_vacant nil) (parts_of ps) in let z : p ≡ 0 + p = omega arith in record { same = z }

pub free_end : (ps : List CodePart) (i : ℕ) → i ≡ length ps → LeftFree ps i → length ps ≡ position_or_len (is_vacant nil) (parts_of ps)
free_end ps i e h =
    let z : i + 0 ≡ i = omega arith in
    sym (h.same ∙ ap (λ (xs : List CodePart). i + position_or_len (is_vacant nil) (parts_of xs)) (drop_all i ps (omega (arith, e))) ∙ z ∙ e)

module _ (ps : List CodePart) (i : ℕ) (h : LeftFree ps i) (d : CodePart) (l : i < length ps) where
  position_cons : (x : PlannedValue) (xs : List PlannedValue) (b : Bool) → is_vacant nil x ≡ b → position_or_len (is_vacant nil) (x ∷ xs) ≡ cond b 0 (1 + position_or_len (is_vacant nil) xs)
  position_cons x xs true e = rw e refl
  position_cons x xs false e = rw e refl

  step : (b : Bool) → T (get_or ps i d) ≡ b → position_or_len (is_vacant nil) (parts_of ps) ≡ i + cond b 0 (1 + position_or_len (is_vacant nil) (parts_of (drop (i + 1) ps)))
  step b e =
      h.same ∙ (at_drop_more (λ (rest : List CodePart). i + position_or_len (is_vacant nil) (parts_of rest)) ps i d l
      ∙ ap (λ k. i + k) (position_cons (part_of (get_or ps i d)) (parts_of (drop (i + 1) ps)) b e))

  pub free_here : T (get_or ps i d) ≡ true → i ≡ position_or_len (is_vacant nil) (parts_of ps)
  free_here e = let z : i + 0 ≡ i = omega arith in sym (step true e ∙ z)

  pub free_later : T (get_or ps i d) ≡ false → LeftFree ps (i + 1)
  free_later e = let p = position_or_len (is_vacant nil) (parts_of (drop (i + 1) ps)) in let z : i + (1 + p) ≡ i + 1 + p = omega arith in record { same = step false e ∙ z }

-- the fields so far, and those from one on
abbrev pub behind_values : List Value → Transition (State Table) (List Value) → Transition (State Table) (List Value)
behind_values passed x = after x (λ vs s. Went (passed ++ vs) s)

behind_no_values : (x : Transition (State Table) (List Value)) → x ≡ behind_values [] x
unfolding after
behind_no_values (Died k) = refl
behind_no_values (Went vs s) = refl

behind_value : (passed : List Value) (v : Value) (x : Transition (State Table) (List Value)) → behind_values passed (after x (λ vs s. (answer (v ∷ vs)).run s)) ≡ behind_values (passed ++ v ∷ []) x
unfolding after answer
behind_value passed v (Died k) = refl
behind_value passed v (Went vs s) = ap (λ xs. Went xs s) (sym (append_assoc passed (v ∷ []) vs))

module _ (o : Oop) (t : Table) where
  pub no_fields : (k : Dead) → Reads (count_fields table (value o)) itself t (Err k) → (s : State Table) → s.memory ≡ t → (all_fields (value o)).run s ≡ Died k
  no_fields k e s f = simp (run-then, e s f, after-died) refl

  module _ (n : ℕ) where
    pub record LeftValues (i : ℕ) (parts : List CodePart) : Type 0 where
      pub values : List Value
      pub are : parts_of parts ≡ map There values
      pub same : (s : State Table) → s.memory ≡ t → (all_fields (value o)).run s ≡ behind_values values ((fetch_fields table (value o) i (n - i)).run s)

    pub values_begin : (parts : List CodePart) → parts ≡ [] → Reads (count_fields table (value o)) itself t (Ok n) → LeftValues 0 parts
    values_begin parts q e =
        let z : n ≡ n - 0 = omega arith in
        record {
          values = [];
          are = ap parts_of q;
          same = λ s f. simp (run-then, e s f, after-went) (behind_no_values ((fetch_fields table (value o) 0 n).run s) ∙ ap (λ k. behind_values [] ((fetch_fields table (value o) 0 k).run s)) z);
        }

    module _ (i : ℕ) (parts : List CodePart) (h : LeftValues i parts) where
      none_from : (left : ℕ) (s : State Table) → left ≡ 0 → (fetch_fields table (value o) i left).run s ≡ Went [] s
      unfolding fetch_fields answer
      none_from zero s e = refl
      none_from (suc left) s e = cc

      pub values_end : n ≤ i → AreFields (value o) t parts
      unfolding after
      values_end l = record {
        values = h.values;
        are = h.are;
        tells = λ s f. h.same s f ∙ (ap (behind_values h.values) (none_from (n - i) s (omega (arith, l))) ∙ ap (λ vs. Went vs s) (append-nil h.values));
      }

      turn_field : (left m : ℕ) (s : State Table) → left ≡ suc m
          → (fetch_fields table (value o) i left).run s ≡ (fetch_field table (value o) i >>= (λ x. fetch_fields table (value o) (suc i) m >>= (λ xs. answer (x ∷ xs)))).run s
      unfolding fetch_fields
      turn_field zero m s e = cc
      turn_field (suc left) m s e = let q : left ≡ m = omega (arith, e) in rw q refl

      module _ (l : i < n) where
        turn_values : (s : State Table) → s.memory ≡ t → (all_fields (value o)).run s
            ≡ behind_values h.values ((fetch_field table (value o) i >>= (λ x. fetch_fields table (value o) (suc i) (n - (i + 1)) >>= (λ xs. answer (x ∷ xs)))).run s)
        turn_values s f = h.same s f ∙ ap (behind_values h.values) (turn_field (n - i) (n - (i + 1)) s (omega (arith, l)))

        pub values_die : (k : Dead) → Reads (fetch_field table (value o) i) value t (Err k) → (s : State Table) → s.memory ≡ t → (all_fields (value o)).run s ≡ Died k
        values_die k e s f = turn_values s f ∙ simp (run-then, e s f, after-died) refl

        pub values_more : (v : Oop) (new : List CodePart) → new ≡ parts ++ part.There v ∷ [] → Reads (fetch_field table (value o) i) value t (Ok v) → LeftValues (i + 1) new
        values_more v new q e =
            let next : suc i ≡ i + 1 = omega arith in
            record {
              values = h.values ++ value v ∷ [];
              are = ap parts_of q ∙ map-append part_of parts (part.There v ∷ []) ∙ ap (λ ps. ps ++ There (value v) ∷ []) h.are ∙ sym (map-append There h.values (value v ∷ []));
              same = λ s f.
                  turn_values s f ∙ (ap (behind_values h.values) (simp (run-then, e s f, after-went) refl)
                  ∙ (behind_value h.values (value v) ((fetch_fields table (value o) (suc i) (n - (i + 1))).run s)
                  ∙ ap (λ j. behind_values (h.values ++ value v ∷ []) ((fetch_fields table (value o) j (n - (i + 1))).run s)) next));
            }

-- ALL SYMBOLS

module _ (association : Oop) (t : Table) (selector : List ℕ) (texts : List (List ℕ)) where
  pub no_table : (k : Dead) → Reads (fetch_field table (value association) 1) value t (Err k) → (s : State Table) → s.memory ≡ t → (symbols_for table (value association) (selector ∷ texts)).run s ≡ Died k
  unfolding symbols_for
  no_table k e s f = simp (run-then, e s f, after-died) refl

  module _ (array : Oop) (e : Reads (fetch_field table (value association) 1) value t (Ok array)) where
    abbrev rest : List Value → State Table → Transition (State Table) Symbols
    rest fs u = (naming association array (selector ∷ texts) (symbols_there (value array) fs)).run u

    opened : (s : State Table) → s.memory ≡ t → (symbols_for table (value association) (selector ∷ texts)).run s ≡ after ((all_fields (value array)).run s) rest
    unfolding symbols_for ◌>>=◌ after
    opened s f =
        ap (λ x. after x (λ v u. after ((count_fields table v).run u) (λ n w. after ((fetch_fields table v 0 n).run w) (λ fs z. (with_symbols table (value association) v (selector ∷ texts) (symbols_there v fs)).run z)))) (e s f)
        ∙ after_after ((count_fields table (value array)).run s) (λ n w. (fetch_fields table (value array) 0 n).run w) rest

    pub no_values : (k : Dead) → ((s : State Table) → s.memory ≡ t → (all_fields (value array)).run s ≡ Died k) → (s : State Table) → s.memory ≡ t → (symbols_for table (value association) (selector ∷ texts)).run s ≡ Died k
    unfolding after
    no_values k q s f = opened s f ∙ ap (λ x. after x rest) (q s f)

    pub fields_fail : (x : Unread) → TellsFields (value array) t (Err x) → TellsNames (symbols_for table (value association) (selector ∷ texts)) t (Err x)
    fields_fail (Dies k) q = no_values k q
    fields_fail OutOfMemory q = tt

    module _ (parts : List CodePart) (v : AreFields (value array) t parts) where
      begins : (s : State Table) → s.memory ≡ t → (symbols_for table (value association) (selector ∷ texts)).run s
          ≡ after ((naming association array (selector ∷ []) (symbols_there (value array) v.values)).run s) (λ u w. (naming association array texts u).run w)
      unfolding after
      begins s f = opened s f ∙ ap (λ x. after x rest) (v.tells s f) ∙ split association array t (selector ∷ []) texts (symbols_there (value array) v.values) s

      -- nothing is made, stored or noted yet
      module _ (fields : Vec CodePart) (all : fields.items ≡ parts) (objects : Vec CodeObject) (a : objects.items ≡ []) (stores : Vec SymbolStore) (b : stores.items ≡ []) (known : BTreeMap (Vec ℕ) CodePart) (d : known.entries ≡ []) where
        abbrev first : SymbolPlan
        first = record { table = part.There array; fields = fields; objects = objects; stores = stores; named = known }

        i : IsNamed first (symbols_there (value array) v.values)
        i = record { table = refl; fields = ap parts_of all ∙ v.are; objects = ap objects_of a; stores = ap stores_of b; named = λ text. ap (λ es. symbol_part (named_of es) text) d }

        pub selector_dies : (k : Dead) → ((u : Symbols) → IsNamed first u → (s : State Table) → s.memory ≡ t → (with_symbol table (value association) (value array) selector u).run s ≡ Died k)
            → (s : State Table) → s.memory ≡ t → (symbols_for table (value association) (selector ∷ texts)).run s ≡ Died k
        unfolding after
        selector_dies k q s f =
            begins s f ∙ ap (λ x. after x (λ u w. (naming association array texts u).run w)) (dies_alone association array selector t (symbols_there (value array) v.values) k (q (symbols_there (value array) v.values) i) s f)

        pub selector_fails : (x : Unread) (now : SymbolPlan) → TellsNaming (with_symbol table (value association) (value array) selector) t first now (Err x) → TellsNames (symbols_for table (value association) (selector ∷ texts)) t (Err x)
        selector_fails (Dies k) now q = selector_dies k q
        selector_fails OutOfMemory now q = tt

        module _ (second : SymbolPlan) (n : (u : Symbols) → IsNamed first u → Names (with_symbol table (value association) (value array) selector u) t second) where
          one : Names (naming association array (selector ∷ []) (symbols_there (value array) v.values)) t second
          one = names_alone association array selector t (symbols_there (value array) v.values) second (n (symbols_there (value array) v.values) i)

          selector_named : (s : State Table) → s.memory ≡ t → (symbols_for table (value association) (selector ∷ texts)).run s ≡ (naming association array texts one.symbols).run s
          unfolding after
          selector_named s f = begins s f ∙ ap (λ x. after x (λ u w. (naming association array texts u).run w)) (one.tells s f)

          pub literals_die : (k : Dead) → ((u : Symbols) → IsNamed second u → (s : State Table) → s.memory ≡ t → (naming association array texts u).run s ≡ Died k)
              → (s : State Table) → s.memory ≡ t → (symbols_for table (value association) (selector ∷ texts)).run s ≡ Died k
          literals_die k q s f = selector_named s f ∙ q one.symbols one.is s f

          pub literals_fail : (x : Unread) (now : SymbolPlan) → TellsNaming (naming association array texts) t second now (Err x) → TellsNames (symbols_for table (value association) (selector ∷ texts)) t (Err x)
          literals_fail (Dies k) now q = literals_die k q
          literals_fail OutOfMemory now q = tt

          pub all_named : (last : SymbolPlan) → ((u : Symbols) → IsNamed second u → Names (naming association array texts u) t last) → Names (symbols_for table (value association) (selector ∷ texts)) t last
          all_named last q =
              let m = q one.symbols one.is in
              record { symbols = m.symbols; is = m.is; tells = λ s f. selector_named s f ∙ m.tells s f }
