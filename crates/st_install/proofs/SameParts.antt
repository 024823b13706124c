-- Parts, objects and stores of a plan that stand for one another: those of the births live, and those of the table are they with
-- their names changed.
use Rattle.std.proofs.Common.{◌≡◌, ℕ, ◌<◌, List, [], ◌∷◌, ◌++◌, zero, suc, length, refl, ap, true, false, arith}
use Rattle.std.specs.Prelude.{map, replicate, slice_set}
use Rattle.st_model.specs.declared.kind.Kind.TheVariants.{Pointers, Bytes, Method}
use Rattle.st_model.specs.Values.{Value, renamed, renamed_all, AllLive}
use Rattle.st_model.specs.Objects.{is_words, is_method}
use Rattle.st_simulation.proofs.Same.{ValueNamed, ValuesNamed}
use Rattle.st_install.specs.Plans.{PlannedValue, There, Made, NewObject, FieldStore, pointers_object, bytes_object, method_object}
use Rattle.st_install.specs.inside.SamePlans.{renamed_part, renamed_parts, renamed_new, renamed_objects, renamed_store, renamed_stores, IsLivePart, AllLiveParts, IsLiveNew, AllLiveObjects, IsLiveStore, AllLiveStores}

-- it isn't of kind Words, and a Method has a header
pub record IsFormedNew (o : NewObject) : Type 0 where
  pub kind : is_words o.kind ≡ false
  pub header : is_method o.kind ≡ true → 0 < length o.fields

abbrev pub AllFormed : List NewObject → Type 0
AllFormed [] = Unit {0}
AllFormed (o ∷ os) = IsFormedNew o × AllFormed os

pub record PartNamed (lives : ℕ → Type 0) (f : ℕ → ℕ) (p q : PlannedValue) : Type 0 where
  pub live : IsLivePart lives p
  pub is : q ≡ renamed_part f p

pub record PartsNamed (lives : ℕ → Type 0) (f : ℕ → ℕ) (ps qs : List PlannedValue) : Type 0 where
  pub live : AllLiveParts lives ps
  pub is : qs ≡ renamed_parts f ps

pub record NewNamed (lives : ℕ → Type 0) (f : ℕ → ℕ) (o q : NewObject) : Type 0 where
  pub live : IsLiveNew lives o
  pub formed : IsFormedNew o
  pub is : q ≡ renamed_new f o

pub record ObjectsNamed (lives : ℕ → Type 0) (f : ℕ → ℕ) (os qs : List NewObject) : Type 0 where
  pub live : AllLiveObjects lives os
  pub formed : AllFormed os
  pub is : qs ≡ renamed_objects f os

pub record StoreNamed (lives : ℕ → Type 0) (f : ℕ → ℕ) (s t : FieldStore) : Type 0 where
  pub live : IsLiveStore lives s
  pub is : t ≡ renamed_store f s

pub record StoresNamed (lives : ℕ → Type 0) (f : ℕ → ℕ) (ss ts : List FieldStore) : Type 0 where
  pub live : AllLiveStores lives ss
  pub is : ts ≡ renamed_stores f ss

pub length-parts : (f : ℕ → ℕ) (ps : List PlannedValue) → length (renamed_parts f ps) ≡ length ps
length-parts f [] = refl
length-parts f (p ∷ ps) = ap (λ n. suc n) (length-parts f ps)

pub length-objects : (f : ℕ → ℕ) (os : List NewObject) → length (renamed_objects f os) ≡ length os
length-objects f [] = refl
length-objects f (o ∷ os) = ap (λ n. suc n) (length-objects f os)

module _ (lives : ℕ → Type 0) (f : ℕ → ℕ) where
  -- parts

  pub there-named : (v w : Value) → ValueNamed lives f v w → PartNamed lives f (There v) (There w)
  there-named v w h = record { live = h.live; is = ap (λ x. There x) h.is }

  pub made-named : (k : ℕ) → PartNamed lives f (Made k) (Made k)
  made-named k = record { live = tt; is = refl }

  pub part-itself : (p : PlannedValue) → IsLivePart lives p → PartNamed lives f p (renamed_part f p)
  part-itself p h = record { live = h; is = refl }

  pub no_parts-named : PartsNamed lives f [] []
  no_parts-named = record { live = tt; is = refl }

  pub parts-named : (p q : PlannedValue) (ps qs : List PlannedValue) → PartNamed lives f p q → PartsNamed lives f ps qs → PartsNamed lives f (p ∷ ps) (q ∷ qs)
  parts-named p q ps qs h k = record { live = (h.live, k.live); is = λ i. h.is i ∷ k.is i }

  both_live : (ps qs : List PlannedValue) → AllLiveParts lives ps → AllLiveParts lives qs → AllLiveParts lives (ps ++ qs)
  both_live [] qs h k = k
  both_live (p ∷ ps) qs h k = (h.0, both_live ps qs h.1 k)

  both-renamed : (ps qs : List PlannedValue) → renamed_parts f ps ++ renamed_parts f qs ≡ renamed_parts f (ps ++ qs)
  both-renamed [] qs = refl
  both-renamed (p ∷ ps) qs = ap (λ xs. renamed_part f p ∷ xs) (both-renamed ps qs)

  pub append_parts-named : (ps ps' qs qs' : List PlannedValue) → PartsNamed lives f ps ps' → PartsNamed lives f qs qs' → PartsNamed lives f (ps ++ qs) (ps' ++ qs')
  append_parts-named ps ps' qs qs' h k = record { live = both_live ps qs h.live k.live; is = rw (h.is, k.is) (both-renamed ps qs) }

  all_there : (vs : List Value) → AllLive lives vs → PartsNamed lives f (map (λ v. There v) vs) (map (λ v. There v) (renamed_all f vs))
  all_there [] h = no_parts-named
  all_there (v ∷ vs) h = parts-named _ _ _ _ (there-named v (renamed f v) (record { live = h.0; is = refl })) (all_there vs h.1)

  pub values_there-named : (vs ws : List Value) → ValuesNamed lives f vs ws → PartsNamed lives f (map (λ v. There v) vs) (map (λ v. There v) ws)
  values_there-named vs ws h = rw h.is (all_there vs h.live)

  pub replicate-named : (n : ℕ) (p q : PlannedValue) → PartNamed lives f p q → PartsNamed lives f (replicate n p) (replicate n q)
  replicate-named zero p q h = no_parts-named
  replicate-named (suc n) p q h = parts-named _ _ _ _ h (replicate-named n p q h)

  set_live : (ps : List PlannedValue) (i : ℕ) (p : PlannedValue) → AllLiveParts lives ps → IsLivePart lives p → AllLiveParts lives (slice_set ps i p)
  set_live [] i p h k = h
  set_live (x ∷ ps) zero p h k = (k, h.1)
  set_live (x ∷ ps) (suc i) p h k = (h.0, set_live ps i p h.1 k)

  set-renamed : (ps : List PlannedValue) (i : ℕ) (p : PlannedValue) → slice_set (renamed_parts f ps) i (renamed_part f p) ≡ renamed_parts f (slice_set ps i p)
  set-renamed [] i p = refl
  set-renamed (x ∷ ps) zero p = refl
  set-renamed (x ∷ ps) (suc i) p = ap (λ xs. renamed_part f x ∷ xs) (set-renamed ps i p)

  pub set-named : (ps qs : List PlannedValue) (i : ℕ) (p q : PlannedValue) → PartsNamed lives f ps qs → PartNamed lives f p q → PartsNamed lives f (slice_set ps i p) (slice_set qs i q)
  set-named ps qs i p q h k = record { live = set_live ps i p h.live k.live; is = rw (h.is, k.is) (set-renamed ps i p) }

  -- objects

  pub pointers_object-named : (v w : Value) (ps qs : List PlannedValue) → ValueNamed lives f v w → PartsNamed lives f ps qs → NewNamed lives f (pointers_object v ps) (pointers_object w qs)
  pointers_object-named v w ps qs h k = record {
    live = record { class = h.live; fields = k.live };
    formed = record { kind = refl; header = λ e. cc };
    is = λ i. record { class = h.is i; kind = Pointers; fields = k.is i; bytes = [] };
  }

  pub bytes_object-named : (v w : Value) (text : List ℕ) → ValueNamed lives f v w → NewNamed lives f (bytes_object v text) (bytes_object w text)
  bytes_object-named v w text h = record {
    live = record { class = h.live; fields = tt };
    formed = record { kind = refl; header = λ e. cc };
    is = λ i. record { class = h.is i; kind = Bytes; fields = []; bytes = text };
  }

  pub method_object-named : (v w : Value) (p q : PlannedValue) (ps qs : List PlannedValue) (code : List ℕ) → ValueNamed lives f v w → PartNamed lives f p q → PartsNamed lives f ps qs
      → NewNamed lives f (method_object v (p ∷ ps) code) (method_object w (q ∷ qs) code)
  method_object-named v w p q ps qs code h k l = record {
    live = record { class = h.live; fields = (k.live, l.live) };
    formed = record { kind = refl; header = λ e. omega arith };
    is = λ i. record { class = h.is i; kind = Method; fields = k.is i ∷ l.is i; bytes = code };
  }

  pub no_objects-named : ObjectsNamed lives f [] []
  no_objects-named = record { live = tt; formed = tt; is = refl }

  pub objects-named : (o q : NewObject) (os qs : List NewObject) → NewNamed lives f o q → ObjectsNamed lives f os qs → ObjectsNamed lives f (o ∷ os) (q ∷ qs)
  objects-named o q os qs h k = record { live = (h.live, k.live); formed = (h.formed, k.formed); is = λ i. h.is i ∷ k.is i }

  both_objects : (os qs : List NewObject) → AllLiveObjects lives os → AllLiveObjects lives qs → AllLiveObjects lives (os ++ qs)
  both_objects [] qs h k = k
  both_objects (o ∷ os) qs h k = (h.0, both_objects os qs h.1 k)

  both_formed : (os qs : List NewObject) → AllFormed os → AllFormed qs → AllFormed (os ++ qs)
  both_formed [] qs h k = k
  both_formed (o ∷ os) qs h k = (h.0, both_formed os qs h.1 k)

  both_objects-renamed : (os qs : List NewObject) → renamed_objects f os ++ renamed_objects f qs ≡ renamed_objects f (os ++ qs)
  both_objects-renamed [] qs = refl
  both_objects-renamed (o ∷ os) qs = ap (λ xs. renamed_new f o ∷ xs) (both_objects-renamed os qs)

  pub append_objects-named : (os os' qs qs' : List NewObject) → ObjectsNamed lives f os os' → ObjectsNamed lives f qs qs' → ObjectsNamed lives f (os ++ qs) (os' ++ qs')
  append_objects-named os os' qs qs' h k = record {
    live = both_objects os qs h.live k.live;
    formed = both_formed os qs h.formed k.formed;
    is = rw (h.is, k.is) (both_objects-renamed os qs);
  }

  -- stores

  pub store-named : (p q : PlannedValue) (i : ℕ) (x y : PlannedValue) → PartNamed lives f p q → PartNamed lives f x y
      → StoreNamed lives f (record { object = p; field = i; value = x }) (record { object = q; field = i; value = y })
  store-named p q i x y h k = record { live = record { object = h.live; value = k.live }; is = λ j. record { object = h.is j; field = i; value = k.is j } }

  pub no_stores-named : StoresNamed lives f [] []
  no_stores-named = record { live = tt; is = refl }

  pub stores-named : (s t : FieldStore) (ss ts : List FieldStore) → StoreNamed lives f s t → StoresNamed lives f ss ts → StoresNamed lives f (s ∷ ss) (t ∷ ts)
  stores-named s t ss ts h k = record { live = (h.live, k.live); is = λ i. h.is i ∷ k.is i }

  both_stores : (ss ts : List FieldStore) → AllLiveStores lives ss → AllLiveStores lives ts → AllLiveStores lives (ss ++ ts)
  both_stores [] ts h k = k
  both_stores (s ∷ ss) ts h k = (h.0, both_stores ss ts h.1 k)

  both_stores-renamed : (ss ts : List FieldStore) → renamed_stores f ss ++ renamed_stores f ts ≡ renamed_stores f (ss ++ ts)
  both_stores-renamed [] ts = refl
  both_stores-renamed (s ∷ ss) ts = ap (λ xs. renamed_store f s ∷ xs) (both_stores-renamed ss ts)

  pub append_stores-named : (ss ss' ts ts' : List FieldStore) → StoresNamed lives f ss ss' → StoresNamed lives f ts ts' → StoresNamed lives f (ss ++ ts) (ss' ++ ts')
  append_stores-named ss ss' ts ts' h k = record { live = both_stores ss ts h.live k.live; is = rw (h.is, k.is) (both_stores-renamed ss ts) }

-- how a search joins parts and objects
pub ruleset parts_named = (there-named, made-named, no_parts-named, parts-named, append_parts-named, values_there-named, replicate-named, set-named, pointers_object-named, bytes_object-named, method_object-named, no_objects-named, objects-named, append_objects-named, store-named, no_stores-named, stores-named, append_stores-named, length-parts, length-objects)
