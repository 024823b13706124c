-- The names that a method sees: over births the same as over a table that shows them.
use Rattle.std.proofs.Common.{◌≡◌, ℕ, List, [], ◌∷◌, ◌++◌, Option, Some, None, Bool, true, false, refl, ap}
use Rattle.st_model.specs.Values.{Value, AllLive, renamed, renamed_all}
use Rattle.st_model.specs.Machine.{Step}
use Rattle.st_model.specs.Births.{Births, births}
use Rattle.st_model.specs.Table.{Table, table}
use Rattle.st_model.specs.Show.{renamed_option}
use Rattle.st_simulation.proofs.Same.{IsLiveOption, none-named}
use Rattle.st_scope.specs.Variables.{fields_unless, fields_or_none, name_unless, name_of, names_of, own_names, field_names, pool_unless, pool_or_none, own_pools, pools, joined, member_if_any, or_later, association_in, shared_by, shared_names}
use Rattle.st_scope.specs.Tables.{check_fields}
use Rattle.st_scope.specs.Shapes.{check_dictionary, check_symbol_table, check_symbols}
use Rattle.st_install.proofs.SameReads.{Shown, lives, name, ValueAlike, ValuesAlike, OptionalAlike, AlikeValues, AlikeOption, AlikeAnswer, IsLiveAny, any_renamed, then-alike, then_option-alike, answer_option-alike, tried-alike, joins_alike}
use Rattle.st_install.proofs.SameSteps.{reads_alike}
use Rattle.st_install.proofs.SameTables.{bytes_of-alike, member_named-alike}

module _ (z : Shown) where
  all_both : (xs ys : List Value) → AllLive (lives z) xs → AllLive (lives z) ys → AllLive (lives z) (xs ++ ys)
  all_both [] ys h k = k
  all_both (x ∷ xs) ys h k = (h.0, all_both xs ys h.1 k)

  both-renamed : (xs ys : List Value) → renamed_all (name z) xs ++ renamed_all (name z) ys ≡ renamed_all (name z) (xs ++ ys)
  both-renamed [] ys = refl
  both-renamed (x ∷ xs) ys = ap (λ vs. renamed (name z) x ∷ vs) (both-renamed xs ys)

  pub append-alike : (xs xs' ys ys' : List Value) → ValuesAlike z xs xs' → ValuesAlike z ys ys' → ValuesAlike z (xs ++ ys) (xs' ++ ys')
  append-alike xs xs' ys ys' h k = record { live = all_both xs ys h.live k.live; is = rw (h.is, k.is) (both-renamed xs ys) }

  -- arrays of names and pools

  fields_unless-alike : (v w : Value) (b c : Bool) → ValueAlike z v w → c ≡ b → AlikeValues z (fields_unless births v b) (fields_unless table w c)
  unfolding fields_unless
  fields_unless-alike v w true c h e = rw e (search joins_alike)
  fields_unless-alike v w false c h e = rw e (search reads_alike depth 16 fits 4000)

  fields_or_none-alike : (v w : Value) → ValueAlike z v w → AlikeValues z (fields_or_none births v) (fields_or_none table w)
  unfolding fields_or_none
  fields_or_none-alike v w h = search (reads_alike, fields_unless-alike) depth 16 fits 4000

  -- instance variables

  name_unless-alike : (v w : Value) (b c : Bool) → ValueAlike z v w → c ≡ b → AlikeAnswer z (name_unless births v b) (name_unless table w c)
  unfolding name_unless
  name_unless-alike v w true c h e = rw e (search joins_alike)
  name_unless-alike v w false c h e = rw e (bytes_of-alike z v w h)

  name_of-alike : (v w : Value) → ValueAlike z v w → AlikeAnswer z (name_of births v) (name_of table w)
  unfolding name_of
  name_of-alike v w h = search (reads_alike, name_unless-alike) depth 16 fits 4000

  each_name-alike : (vs : List Value) → AllLive (lives z) vs → AlikeAnswer z (names_of births vs) (names_of table (renamed_all (name z) vs))
  unfolding names_of
  each_name-alike [] h = search joins_alike
  each_name-alike (v ∷ vs) h =
      let k : ValueAlike z v (renamed (name z) v) = record { live = h.0; is = refl } in
      search (reads_alike, name_of-alike v (renamed (name z) v) k, each_name-alike vs h.1) depth 16 fits 4000

  names_of-alike : (vs ws : List Value) → ValuesAlike z vs ws → AlikeAnswer z (names_of births vs) (names_of table ws)
  names_of-alike vs ws h = rw h.is (each_name-alike vs h.live)

  own_names-alike : (v w : Value) → ValueAlike z v w → AlikeAnswer z (own_names births v) (own_names table w)
  unfolding own_names
  own_names-alike v w h = search (reads_alike, fields_or_none-alike, names_of-alike) depth 20 fits 4000

  all_names-alike : (vs : List Value) → AllLive (lives z) vs → AlikeAnswer z (field_names births vs) (field_names table (renamed_all (name z) vs))
  unfolding field_names
  all_names-alike [] h = search joins_alike
  all_names-alike (v ∷ vs) h =
      let k : ValueAlike z v (renamed (name z) v) = record { live = h.0; is = refl } in
      search (reads_alike, own_names-alike v (renamed (name z) v) k, all_names-alike vs h.1) depth 16 fits 4000

  pub field_names-alike : (vs ws : List Value) → ValuesAlike z vs ws → AlikeAnswer z (field_names births vs) (field_names table ws)
  field_names-alike vs ws h = rw h.is (all_names-alike vs h.live)

  -- pools

  pool_unless-alike : (v w : Value) (b c : Bool) → ValueAlike z v w → c ≡ b → AlikeValues z (pool_unless births v b) (pool_unless table w c)
  unfolding pool_unless
  pool_unless-alike v w true c h e = rw e (search joins_alike)
  pool_unless-alike v w false c h e = rw e (search reads_alike depth 16 fits 4000)

  own_pools-alike : (v w : Value) → ValueAlike z v w → AlikeValues z (own_pools births v) (own_pools table w)
  unfolding own_pools pool_or_none
  own_pools-alike v w h = search (reads_alike, pool_unless-alike, fields_or_none-alike, append-alike) depth 32 fits 4000

  all_pools-alike : (vs : List Value) → AllLive (lives z) vs → AlikeValues z (pools births vs) (pools table (renamed_all (name z) vs))
  unfolding pools
  all_pools-alike [] h = search joins_alike
  all_pools-alike (v ∷ vs) h =
      let k : ValueAlike z v (renamed (name z) v) = record { live = h.0; is = refl } in
      search (reads_alike, append-alike, own_pools-alike v (renamed (name z) v) k, all_pools-alike vs h.1) depth 16 fits 4000

  pub pools-alike : (vs ws : List Value) → ValuesAlike z vs ws → AlikeValues z (pools births vs) (pools table ws)
  pools-alike vs ws h = rw h.is (all_pools-alike vs h.live)

  -- shared variables

  joined-alike : (a : Option (Option Value)) → IsLiveAny (IsLiveOption (lives z)) a → OptionalAlike z (joined a) (joined (any_renamed (renamed_option (name z)) a))
  joined-alike None h = none-named _ _
  joined-alike (Some x) h = record { live = h; is = refl }

  member_if_any-alike : (v w : Value) (text : List ℕ) → ValueAlike z v w → AlikeOption z (member_if_any births v text) (member_if_any table w text)
  unfolding member_if_any
  member_if_any-alike v w text h =
      then-alike z _ _ _ _ _ _ _ _ (tried-alike z _ _ _ _ (member_named-alike z v w text h)) (λ a l. answer_option-alike z _ _ (joined-alike a l))

  or_later-alike : (a b : Option Value) (o : Step Births (Option Value)) (p : Step Table (Option Value)) → OptionalAlike z a b → AlikeOption z o p → AlikeOption z (or_later a o) (or_later b p)
  unfolding or_later
  or_later-alike None b o p h k = rw h.is k
  or_later-alike (Some v) b o p h k = rw h.is (answer_option-alike z _ _ (record { live = h.live; is = refl }))

  first_association-alike : (vs : List Value) (text : List ℕ) → AllLive (lives z) vs → AlikeOption z (association_in births vs text) (association_in table (renamed_all (name z) vs) text)
  unfolding association_in
  first_association-alike [] text h = search joins_alike
  first_association-alike (v ∷ vs) text h =
      then_option-alike z _ _ _ _ _ _ (member_if_any-alike v (renamed (name z) v) text (record { live = h.0; is = refl }))
      (λ a b k. or_later-alike a b _ _ k (first_association-alike vs text h.1))

  association_in-alike : (vs ws : List Value) (text : List ℕ) → ValuesAlike z vs ws → AlikeOption z (association_in births vs text) (association_in table ws text)
  association_in-alike vs ws text h = rw h.is (first_association-alike vs text h.live)

  shared_by-alike : (text : List ℕ) (a b : Option Value) → OptionalAlike z a b → AlikeAnswer z (shared_by births text a) (shared_by table text b)
  unfolding shared_by
  shared_by-alike text None b h = rw h.is (search joins_alike)
  shared_by-alike text (Some v) b h = let k : ValueAlike z v (renamed (name z) v) = record { live = h.live; is = refl } in rw h.is (search reads_alike depth 16 fits 4000)

  pub shared_names-alike : (vs ws : List Value) (texts : List (List ℕ)) → ValuesAlike z vs ws → AlikeAnswer z (shared_names births vs texts) (shared_names table ws texts)
  unfolding shared_names
  shared_names-alike vs ws [] h = search joins_alike
  shared_names-alike vs ws (text ∷ texts) h =
      search (reads_alike, association_in-alike vs ws text h, shared_by-alike, shared_names-alike vs ws texts h) depth 20 fits 4000

  -- forms

  pub check_dictionary-alike : (v w : Value) → ValueAlike z v w → AlikeAnswer z (check_dictionary births v) (check_dictionary table w)
  unfolding check_dictionary check_fields
  check_dictionary-alike v w h = search reads_alike depth 32 fits 4000

  pub check_symbols-alike : (a b : Option Value) → OptionalAlike z a b → AlikeAnswer z (check_symbols births a) (check_symbols table b)
  unfolding check_symbols check_symbol_table check_fields
  check_symbols-alike None b h = rw h.is (search joins_alike)
  check_symbols-alike (Some v) b h = let k : ValueAlike z v (renamed (name z) v) = record { live = h.live; is = refl } in rw h.is (search reads_alike depth 32 fits 4000)
