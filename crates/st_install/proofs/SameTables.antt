-- Tables of names and classes by their names: over births the same as over a table that shows them.
use Rattle.std.proofs.Common.{◌≡◌, ℕ, List, zero, suc, Option, Bool, true, false, refl}
use Rattle.st_model.specs.Values.{Value, AllLive, renamed_all}
use Rattle.st_model.specs.Machine.{Step, answer, ◌>>=◌}
use Rattle.st_model.specs.Births.{Births, births}
use Rattle.st_model.specs.Table.{Table, table}
use Rattle.st_scope.specs.Tables.{check_fields, bytes_of, member_key, member_name, has_name, found_or, first_from, first_field, member_named}
use Rattle.st_scope.specs.Classes.{class_association, class_on_side, class_named, none_if, until_nil, superclass, class_and, chain_within, chain, Lineage, instance_lineage, metaclass_lineage, lineage}
use Rattle.st_install.proofs.SameReads.{Shown, lives, name, Alike, ValueAlike, ValuesAlike, AlikeValue, AlikeValues, AlikeOption, AlikeAnswer, then_value-alike, then_answer-alike, then-alike, answer-alike, joins_alike}
use Rattle.st_install.proofs.SameSteps.{reads_alike, fetch_field-alike}

module _ (z : Shown) where
  -- members

  pub bytes_of-alike : (v w : Value) → ValueAlike z v w → AlikeAnswer z (bytes_of births v) (bytes_of table w)
  unfolding bytes_of
  bytes_of-alike v w h = search reads_alike depth 16 fits 4000

  has_name-alike : (v w : Value) (text : List ℕ) → ValueAlike z v w → AlikeAnswer z (has_name births v text) (has_name table w text)
  unfolding has_name member_name member_key check_fields
  has_name-alike v w text h = search (reads_alike, bytes_of-alike) depth 40 fits 4000

  -- the first field

  found_or-alike : (b : Bool) (v w : Value) (o : Step Births (Option Value)) (p : Step Table (Option Value)) → ValueAlike z v w → AlikeOption z o p
      → AlikeOption z (found_or b v o) (found_or b w p)
  unfolding found_or
  found_or-alike true v w o p h k = search joins_alike
  found_or-alike false v w o p h k = k

  module _ (f : Value → Step Births Bool) (g : Value → Step Table Bool) (test : (a b : Value) → ValueAlike z a b → AlikeAnswer z (f a) (g b)) where
    first_from-alike : (v w : Value) (i left : ℕ) → ValueAlike z v w → AlikeOption z (first_from births v f i left) (first_from table w g i left)
    unfolding first_from
    first_from-alike v w i zero h = search joins_alike
    first_from-alike v w i (suc left) h =
        then_value-alike z _ _ _ _ _ _ (fetch_field-alike z v w i h)
        (λ a b k. then_answer-alike z _ _ _ _ _ _ (test a b k) (λ x. found_or-alike x a b _ _ k (first_from-alike v w (suc i) left h)))

    pub first_field-alike : (v w : Value) → ValueAlike z v w → AlikeOption z (first_field births v f) (first_field table w g)
    unfolding first_field
    first_field-alike v w h = search (reads_alike, first_from-alike) depth 16 fits 4000

  pub member_named-alike : (v w : Value) (text : List ℕ) → ValueAlike z v w → AlikeOption z (member_named births v text) (member_named table w text)
  unfolding member_named
  member_named-alike v w text h = first_field-alike _ _ (λ a b k. has_name-alike a b text k) v w h

  -- classes

  pub class_association-alike : (v w : Value) (text : List ℕ) → ValueAlike z v w → AlikeValue z (class_association births v text) (class_association table w text)
  unfolding class_association check_fields
  class_association-alike v w text h = search (reads_alike, member_named-alike) depth 32 fits 4000

  class_on_side-alike : (v w : Value) (meta : Bool) → ValueAlike z v w → AlikeValue z (class_on_side births v meta) (class_on_side table w meta)
  unfolding class_on_side
  class_on_side-alike v w false h = search reads_alike
  class_on_side-alike v w true h = search reads_alike

  pub class_named-alike : (v w : Value) (text : List ℕ) (meta : Bool) → ValueAlike z v w → AlikeValue z (class_named births v text meta) (class_named table w text meta)
  unfolding class_named
  class_named-alike v w text meta h = search (reads_alike, class_association-alike, class_on_side-alike) depth 20 fits 4000

  -- chains

  none_if-alike : (b c : Bool) (o : Step Births (List Value)) (p : Step Table (List Value)) → c ≡ b → AlikeValues z o p → AlikeValues z (none_if b o) (none_if c p)
  unfolding none_if
  none_if-alike true c o p e h = rw e (search joins_alike)
  none_if-alike false c o p e h = rw e h

  class_and-alike : (least : ℕ) (v w : Value) (f : Value → Step Births (List Value)) (g : Value → Step Table (List Value)) → ValueAlike z v w
      → ((a b : Value) → ValueAlike z a b → AlikeValues z (f a) (g b)) → AlikeValues z (class_and births least v f) (class_and table least w g)
  unfolding class_and superclass check_fields
  class_and-alike least v w f g h k = search reads_alike depth 32 fits 4000

  chain_within-alike : (least left : ℕ) (v w : Value) → ValueAlike z v w → AlikeValues z (chain_within births least left v) (chain_within table least left w)
  unfolding chain_within until_nil
  chain_within-alike least zero v w h = search (reads_alike, none_if-alike) depth 24 fits 4000
  chain_within-alike least (suc left) v w h = search (reads_alike, none_if-alike, class_and-alike least v w _ _ h (λ a b k. chain_within-alike least left a b k)) depth 24 fits 4000

  chain-alike : (least : ℕ) (v w : Value) → ValueAlike z v w → AlikeValues z (chain births least v) (chain table least w)
  unfolding chain
  chain-alike least v w h = chain_within-alike least 32767 v w h

  -- lineages

  pub record IsLiveLineage (l : Lineage) : Type 0 where
    pub owners : AllLive (lives z) l.owners
    pub sharers : AllLive (lives z) l.sharers

  abbrev pub renamed_lineage : Lineage → Lineage
  renamed_lineage l = record { owners = renamed_all (name z) l.owners; sharers = renamed_all (name z) l.sharers }

  abbrev pub AlikeLineage : Step Births Lineage → Step Table Lineage → Type 0
  AlikeLineage m n = Alike z IsLiveLineage renamed_lineage m n

  answer_lineage-alike : (a b a' b' : List Value) → ValuesAlike z a a' → ValuesAlike z b b'
      → AlikeLineage (answer (record { owners = a; sharers = b })) (answer (record { owners = a'; sharers = b' }))
  answer_lineage-alike a b a' b' h k = answer-alike z _ _ _ _ (record { owners = h.live; sharers = k.live }) (λ i. record { owners = h.is i; sharers = k.is i })

  instance_lineage-alike : (v w : Value) → ValueAlike z v w → AlikeLineage (instance_lineage births v) (instance_lineage table w)
  unfolding instance_lineage
  instance_lineage-alike v w h = search (reads_alike, chain-alike, answer_lineage-alike) depth 16 fits 4000

  metaclass_lineage-alike : (v w : Value) → ValueAlike z v w → AlikeLineage (metaclass_lineage births v) (metaclass_lineage table w)
  unfolding metaclass_lineage
  metaclass_lineage-alike v w h = search (reads_alike, chain-alike, answer_lineage-alike) depth 20 fits 4000

  pub lineage-alike : (v w : Value) (meta : Bool) → ValueAlike z v w → AlikeLineage (lineage births v meta) (lineage table w meta)
  unfolding lineage
  lineage-alike v w false h = instance_lineage-alike v w h
  lineage-alike v w true h = metaclass_lineage-alike v w h

  module _ {A B : Type 0} (Q : A → Type 0) (q : A → B) where
    pub then_lineage-alike : (m : Step Births Lineage) (n : Step Table Lineage) (f : Lineage → Step Births A) (g : Lineage → Step Table B)
        → AlikeLineage m n → ((a b : Lineage) → ValuesAlike z a.owners b.owners → ValuesAlike z a.sharers b.sharers → Alike z Q q (f a) (g b)) → Alike z Q q (m >>= f) (n >>= g)
    then_lineage-alike m n f g h k = then-alike z _ _ Q q m n f g h (λ a l. k a (renamed_lineage a) (record { live = l.owners; is = refl }) (record { live = l.sharers; is = refl }))
