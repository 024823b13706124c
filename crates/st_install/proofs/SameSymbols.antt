-- The Symbols that a method needs: over births the same as over a table that shows them.
use Rattle.std.proofs.Common.{◌≡◌, ℕ, List, [], ◌∷◌, ◌++◌, Option, Some, None, Bool, true, false, refl, ap, length}
use Rattle.std.specs.Prelude.{◌-◌, ◌+◌, find, option_map, bytes_eq, replicate, if◌then◌else◌}
use Rattle.std.specs.List.{position_or_len}
use Rattle.st_model.specs.Values.{Value, renamed}
use Rattle.st_model.specs.Machine.{Step, answer}
use Rattle.st_model.specs.Births.{Births, births}
use Rattle.st_model.specs.Table.{Table, table}
use Rattle.st_install.specs.Plans.{PlannedValue, There, Made}
use Rattle.st_install.specs.Symbols.{symbol_text, is_symbol, symbol_named, NamedSymbol, symbol_part, Symbols, is_vacant, grown_size, vacant_field, symbol_in_field, symbol_in_array, with_new_symbol, make_symbol, found_or_made, seek_unless, with_symbol, with_symbols, symbols_there, symbols_for}
use Rattle.st_install.specs.inside.SamePlans.{renamed_part, renamed_parts, renamed_objects, renamed_stores, IsLivePart, AllLiveParts, AllLiveObjects, AllLiveStores}
use Rattle.st_install.proofs.SameReads.{Shown, lives, name, Alike, ValueAlike, ValuesAlike, OptionalAlike, AlikeOption, AlikeAnswer, IsLiveAny, any_renamed, then-alike, then_option-alike, answer-alike, same_value-alike}
use Rattle.st_install.proofs.SameSteps.{reads_alike}
use Rattle.st_install.proofs.SameTables.{bytes_of-alike, first_field-alike}
use Rattle.st_install.proofs.SameParts.{AllFormed, PartNamed, PartsNamed, ObjectsNamed, StoresNamed, length-parts, length-objects, there-named, parts_named}

-- SYMBOLS BY THEIR TEXTS

abbrev pub renamed_symbol : (ℕ → ℕ) → NamedSymbol → NamedSymbol
renamed_symbol f s = record { text = s.text; part = renamed_part f s.part }

abbrev pub renamed_known : (ℕ → ℕ) → List NamedSymbol → List NamedSymbol
renamed_known f [] = []
renamed_known f (s ∷ ss) = renamed_symbol f s ∷ renamed_known f ss

abbrev pub AllKnown : (ℕ → Type 0) → List NamedSymbol → Type 0
AllKnown live [] = Unit {0}
AllKnown live (s ∷ ss) = IsLivePart live s.part × AllKnown live ss

pub record KnownNamed (lives : ℕ → Type 0) (f : ℕ → ℕ) (ss ts : List NamedSymbol) : Type 0 where
  pub live : AllKnown lives ss
  pub is : ts ≡ renamed_known f ss

module _ (live : ℕ → Type 0) (f : ℕ → ℕ) where
  part_if : (b : Bool) (s : NamedSymbol) (x y : Option NamedSymbol) → option_map (λ t. t.part) y ≡ any_renamed (renamed_part f) (option_map (λ t. t.part) x)
      → option_map (λ t. t.part) (if b then Some (renamed_symbol f s) else y) ≡ any_renamed (renamed_part f) (option_map (λ t. t.part) (if b then Some s else x))
  part_if true s x y e = refl
  part_if false s x y e = e

  pub symbol_part-renamed : (ss : List NamedSymbol) (text : List ℕ) → symbol_part (renamed_known f ss) text ≡ any_renamed (renamed_part f) (symbol_part ss text)
  symbol_part-renamed [] text = refl
  symbol_part-renamed (s ∷ ss) text = part_if (bytes_eq s.text text) s (find (λ t. bytes_eq t.text text) ss) (find (λ t. bytes_eq t.text text) (renamed_known f ss)) (symbol_part-renamed ss text)

  live_if : (b : Bool) (s : NamedSymbol) (x : Option NamedSymbol) → IsLivePart live s.part → IsLiveAny (IsLivePart live) (option_map (λ t. t.part) x)
      → IsLiveAny (IsLivePart live) (option_map (λ t. t.part) (if b then Some s else x))
  live_if true s x h k = h
  live_if false s x h k = k

  pub symbol_part-live : (ss : List NamedSymbol) (text : List ℕ) → AllKnown live ss → IsLiveAny (IsLivePart live) (symbol_part ss text)
  symbol_part-live [] text h = tt
  symbol_part-live (s ∷ ss) text h = live_if (bytes_eq s.text text) s (find (λ t. bytes_eq t.text text) ss) h.0 (symbol_part-live ss text h.1)

  known_live : (ss : List NamedSymbol) (text : List ℕ) (p : PlannedValue) → AllKnown live ss → IsLivePart live p → AllKnown live (ss ++ record { text = text; part = p } ∷ [])
  known_live [] text p h k = (k, tt)
  known_live (s ∷ ss) text p h k = (h.0, known_live ss text p h.1 k)

  known-renamed : (ss : List NamedSymbol) (text : List ℕ) (p : PlannedValue)
      → renamed_known f ss ++ record { text = text; part = renamed_part f p } ∷ [] ≡ renamed_known f (ss ++ record { text = text; part = p } ∷ [])
  known-renamed [] text p = refl
  known-renamed (s ∷ ss) text p = ap (λ xs. renamed_symbol f s ∷ xs) (known-renamed ss text p)

  pub known-named : (ss ts : List NamedSymbol) (text : List ℕ) (p q : PlannedValue) → KnownNamed live f ss ts → PartNamed live f p q
      → KnownNamed live f (ss ++ record { text = text; part = p } ∷ []) (ts ++ record { text = text; part = q } ∷ [])
  known-named ss ts text p q h k = record { live = known_live ss text p h.live k.live; is = rw (h.is, k.is) (known-renamed ss text p) }

-- WHAT IS MADE FOR THEM

pub record IsLiveSymbols (live : ℕ → Type 0) (s : Symbols) : Type 0 where
  pub table : IsLivePart live s.table
  pub fields : AllLiveParts live s.fields
  pub objects : AllLiveObjects live s.objects
  pub formed : AllFormed s.objects
  pub stores : AllLiveStores live s.stores
  pub named : AllKnown live s.named

abbrev pub renamed_symbols : (ℕ → ℕ) → Symbols → Symbols
renamed_symbols f s = record {
  table = renamed_part f s.table;
  fields = renamed_parts f s.fields;
  objects = renamed_objects f s.objects;
  stores = renamed_stores f s.stores;
  named = renamed_known f s.named;
}

pub record SymbolsNamed (live : ℕ → Type 0) (f : ℕ → ℕ) (s t : Symbols) : Type 0 where
  pub table : PartNamed live f s.table t.table
  pub fields : PartsNamed live f s.fields t.fields
  pub objects : ObjectsNamed live f s.objects t.objects
  pub stores : StoresNamed live f s.stores t.stores
  pub named : KnownNamed live f s.named t.named

module _ (live : ℕ → Type 0) (f : ℕ → ℕ) where
  pub symbols-itself : (s : Symbols) → IsLiveSymbols live s → SymbolsNamed live f s (renamed_symbols f s)
  symbols-itself s h = record {
    table = record { live = h.table; is = refl };
    fields = record { live = h.fields; is = refl };
    objects = record { live = h.objects; formed = h.formed; is = refl };
    stores = record { live = h.stores; is = refl };
    named = record { live = h.named; is = refl };
  }

  pub symbols_live : (s t : Symbols) → SymbolsNamed live f s t → IsLiveSymbols live s
  symbols_live s t h = record { table = h.table.live; fields = h.fields.live; objects = h.objects.live; formed = h.objects.formed; stores = h.stores.live; named = h.named.live }

  pub symbols_are : (s t : Symbols) → SymbolsNamed live f s t → t ≡ renamed_symbols f s
  symbols_are s t h = λ i. record { table = h.table.is i; fields = h.fields.is i; objects = h.objects.is i; stores = h.stores.is i; named = h.named.is i }

  pub symbols_if : (b c : Bool) (s t s' t' : Symbols) → c ≡ b → SymbolsNamed live f s s' → SymbolsNamed live f t t' → SymbolsNamed live f (if b then s else t) (if c then s' else t')
  symbols_if true c s t s' t' e h k = rw e h
  symbols_if false c s t s' t' e h k = rw e k

module _ (z : Shown) where
  abbrev PartAlike : PlannedValue → PlannedValue → Type 0
  PartAlike p q = PartNamed (lives z) (name z) p q

  vacant-alike : (v w : Value) (p : PlannedValue) → ValueAlike z v w → IsLivePart (lives z) p → is_vacant w (renamed_part (name z) p) ≡ is_vacant v p
  vacant-alike v w (There x) h k = same_value-alike z x (renamed (name z) x) v w (record { live = k; is = refl }) h
  vacant-alike v w (Made k) h l = refl

  vacant_at : (v w : Value) (ps : List PlannedValue) → ValueAlike z v w → AllLiveParts (lives z) ps → position_or_len (is_vacant w) (renamed_parts (name z) ps) ≡ position_or_len (is_vacant v) ps
  vacant_at v w [] h k = refl
  vacant_at v w (p ∷ ps) h k = rw (vacant-alike v w p h k.0, vacant_at v w ps h k.1) refl

  module _ (nil nil' array array' symbol symbol' association association' : Value) (text : List ℕ)
      (n : ValueAlike z nil nil') (a : ValueAlike z array array') (c : ValueAlike z symbol symbol') (l : ValueAlike z association association') (s : Symbols) (h : IsLiveSymbols (lives z) s) where
    same_vacancy : vacant_field nil' array' symbol' association' text (renamed_symbols (name z) s) ≡ vacant_field nil array symbol association text s
    same_vacancy = vacant_at nil nil' s.fields n h.fields

    so_far : SymbolsNamed (lives z) (name z) s (renamed_symbols (name z) s)
    so_far = symbols-itself (lives z) (name z) s h

    -- it takes a field that holds nil
    in_field-named : SymbolsNamed (lives z) (name z) (symbol_in_field nil array symbol association text s) (symbol_in_field nil' array' symbol' association' text (renamed_symbols (name z) s))
    in_field-named =
        let t = so_far.table in
        let fs = so_far.fields in
        let os = so_far.objects in
        let ss = so_far.stores in
        let ks = so_far.named in
        rw (same_vacancy, length-objects (name z) s.objects)
        (record {
          table = t;
          fields = search parts_named;
          objects = search parts_named;
          stores = search parts_named;
          named = search (parts_named, known-named);
        })

    grown-named : (number vacancies : ℕ)
        → PartsNamed (lives z) (name z) (s.fields ++ Made number ∷ replicate vacancies (There nil)) (renamed_parts (name z) s.fields ++ Made number ∷ replicate vacancies (There nil'))
    grown-named number vacancies = let fs = so_far.fields in search parts_named

    -- an Array takes the place of the table's value
    in_array-named : SymbolsNamed (lives z) (name z) (symbol_in_array nil array symbol association text s) (symbol_in_array nil' array' symbol' association' text (renamed_symbols (name z) s))
    in_array-named =
        let os = so_far.objects in
        let ss = so_far.stores in
        let ks = so_far.named in
        let made = grown-named (length s.objects) (grown_size (length s.fields) - (length s.fields + 1)) in
        rw (length-objects (name z) s.objects, length-parts (name z) s.fields)
        (record {
          table = search parts_named;
          fields = made;
          objects = search parts_named;
          stores = search parts_named;
          named = search (parts_named, known-named);
        })

    pub new_symbol-named : SymbolsNamed (lives z) (name z) (with_new_symbol nil array symbol association text s) (with_new_symbol nil' array' symbol' association' text (renamed_symbols (name z) s))
    new_symbol-named = symbols_if (lives z) (name z) _ _ _ _ _ _ (rw (same_vacancy, length-parts (name z) s.fields) refl) in_field-named in_array-named

  -- SYMBOLS THAT ARE THERE

  symbol_text-alike : (v w : Value) → ValueAlike z v w → AlikeAnswer z (symbol_text births v) (symbol_text table w)
  unfolding symbol_text
  symbol_text-alike v w h = search (reads_alike, bytes_of-alike) depth 16 fits 4000

  is_symbol-alike : (v w : Value) (text : List ℕ) → ValueAlike z v w → AlikeAnswer z (is_symbol births v text) (is_symbol table w text)
  unfolding is_symbol
  is_symbol-alike v w text h = search (reads_alike, symbol_text-alike) depth 16 fits 4000

  symbol_named-alike : (v w : Value) (text : List ℕ) → ValueAlike z v w → AlikeOption z (symbol_named births v text) (symbol_named table w text)
  unfolding symbol_named
  symbol_named-alike v w text h = first_field-alike z _ _ (λ a b k. is_symbol-alike a b text k) v w h

  -- SYMBOLS THAT A METHOD NEEDS

  abbrev pub AlikeSymbols : Step Births Symbols → Step Table Symbols → Type 0
  AlikeSymbols m n = Alike z (IsLiveSymbols (lives z)) (renamed_symbols (name z)) m n

  answer_symbols-alike : (s t : Symbols) → SymbolsNamed (lives z) (name z) s t → AlikeSymbols (answer s) (answer t)
  answer_symbols-alike s t h = answer-alike z _ _ s t (symbols_live (lives z) (name z) s t h) (symbols_are (lives z) (name z) s t h)

  make_symbol-alike : (v w : Value) (text : List ℕ) (s : Symbols) → ValueAlike z v w → IsLiveSymbols (lives z) s
      → AlikeSymbols (make_symbol births v text s) (make_symbol table w text (renamed_symbols (name z) s))
  unfolding make_symbol
  make_symbol-alike v w text s h k = search (reads_alike, answer_symbols-alike, new_symbol-named) depth 20 fits 4000

  found_or_made-alike : (v w : Value) (text : List ℕ) (s : Symbols) (a b : Option Value) → ValueAlike z v w → IsLiveSymbols (lives z) s → OptionalAlike z a b
      → AlikeSymbols (found_or_made births v text s a) (found_or_made table w text (renamed_symbols (name z) s) b)
  unfolding found_or_made
  found_or_made-alike v w text s None b h k l = rw l.is (make_symbol-alike v w text s h k)
  found_or_made-alike v w text s (Some x) b h k l =
      let t = symbols-itself (lives z) (name z) s k in
      let x_there = there-named (lives z) (name z) x (renamed (name z) x) (record { live = l.live; is = refl }) in
      rw l.is (answer_symbols-alike _ _ (record {
        table = t.table;
        fields = t.fields;
        objects = t.objects;
        stores = t.stores;
        named = known-named (lives z) (name z) _ _ text _ _ t.named x_there;
      }))

  seek_unless-alike : (v w x y : Value) (text : List ℕ) (s : Symbols) (a : Option PlannedValue) (b : Option PlannedValue) → ValueAlike z v w → ValueAlike z x y → IsLiveSymbols (lives z) s
      → b ≡ any_renamed (renamed_part (name z)) a
      → AlikeSymbols (seek_unless births v x text s a) (seek_unless table w y text (renamed_symbols (name z) s) b)
  unfolding seek_unless
  seek_unless-alike v w x y text s (Some p) b h k l e = rw e (answer_symbols-alike _ _ (symbols-itself (lives z) (name z) s l))
  seek_unless-alike v w x y text s None b h k l e =
      rw e (then_option-alike z _ _ _ _ _ _ (symbol_named-alike x y text k) (λ a b q. found_or_made-alike v w text s a b h l q))

  with_symbol-alike : (v w x y : Value) (text : List ℕ) (s : Symbols) → ValueAlike z v w → ValueAlike z x y → IsLiveSymbols (lives z) s
      → AlikeSymbols (with_symbol births v x text s) (with_symbol table w y text (renamed_symbols (name z) s))
  unfolding with_symbol
  with_symbol-alike v w x y text s h k l = seek_unless-alike v w x y text s _ _ h k l (symbol_part-renamed (lives z) (name z) s.named text)

  with_symbols-alike : (v w x y : Value) (texts : List (List ℕ)) (s : Symbols) → ValueAlike z v w → ValueAlike z x y → IsLiveSymbols (lives z) s
      → AlikeSymbols (with_symbols births v x texts s) (with_symbols table w y texts (renamed_symbols (name z) s))
  unfolding with_symbols
  with_symbols-alike v w x y [] s h k l = answer_symbols-alike _ _ (symbols-itself (lives z) (name z) s l)
  with_symbols-alike v w x y (text ∷ texts) s h k l =
      then-alike z _ _ _ _ _ _ _ _ (with_symbol-alike v w x y text s h k l) (λ t j. with_symbols-alike v w x y texts t h k j)

  there_named : (x y : Value) (vs ws : List Value) → ValueAlike z x y → ValuesAlike z vs ws → SymbolsNamed (lives z) (name z) (symbols_there x vs) (symbols_there y ws)
  there_named x y vs ws h k = record {
    table = search parts_named;
    fields = search parts_named;
    objects = search parts_named;
    stores = search parts_named;
    named = record { live = tt; is = refl };
  }

  from_there-alike : (v w x y : Value) (texts : List (List ℕ)) (s t : Symbols) → ValueAlike z v w → ValueAlike z x y → SymbolsNamed (lives z) (name z) s t
      → AlikeSymbols (with_symbols births v x texts s) (with_symbols table w y texts t)
  from_there-alike v w x y texts s t h k l =
      rw (symbols_are (lives z) (name z) s t l) (with_symbols-alike v w x y texts s h k (symbols_live (lives z) (name z) s t l))

  pub symbols_for-alike : (v w : Value) (texts : List (List ℕ)) → ValueAlike z v w → AlikeSymbols (symbols_for births v texts) (symbols_for table w texts)
  unfolding symbols_for
  symbols_for-alike v w texts h = search (reads_alike, from_there-alike, there_named) depth 20 fits 4000
