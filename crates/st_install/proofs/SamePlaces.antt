-- Places in dictionaries, and how a dictionary grows: over births the same as over a table that shows them.
use Rattle.std.proofs.Common.{◌≡◌, ℕ, List, zero, suc, Bool, true, false, refl}
use Rattle.st_model.specs.Values.{Value, renamed}
use Rattle.st_model.specs.Machine.{Step, answer}
use Rattle.st_model.specs.Births.{Births, births}
use Rattle.st_model.specs.Table.{Table, table}
use Rattle.st_install.specs.Plans.{PlannedValue, There, Made, NewObject}
use Rattle.st_install.specs.Dictionaries.{Ending, Holds, Vacant, Nowhere, ends_at, seek_at, seek_among, seek_from, count_places, seek, place_of_selector, one_more_if, count_vacant, is_nearly_full, grows_at, grows_for, dictionary_objects, grown_objects}
use Rattle.st_install.specs.inside.SamePlans.{renamed_part, renamed_objects, IsLivePart, AllLiveObjects}
use Rattle.st_install.proofs.SameReads.{Shown, lives, name, Alike, ValueAlike, AlikeAnswer, answer-alike, joins_alike}
use Rattle.st_install.proofs.SameSteps.{reads_alike}
use Rattle.st_install.proofs.SameParts.{AllFormed, ObjectsNamed, parts_named}

-- objects of a plan, each of which has its form
abbrev pub ObjectsLive : (ℕ → Type 0) → List NewObject → Type 0
ObjectsLive live os = AllLiveObjects live os × AllFormed os

module _ (z : Shown) where
  -- places

  ends_at-alike : (k : ℕ) (a b c d : Bool) (o : Step Births Ending) (p : Step Table Ending) → c ≡ a → d ≡ b → AlikeAnswer z o p → AlikeAnswer z (ends_at k a b o) (ends_at k c d p)
  unfolding ends_at
  ends_at-alike k true b c d o p e f h = rw e (search joins_alike)
  ends_at-alike k false true c d o p e f h = rw (e, f) (search joins_alike)
  ends_at-alike k false false c d o p e f h = rw (e, f) h

  seek_at-alike : (v w x y : Value) (k : ℕ) (o : Step Births Ending) (p : Step Table Ending) → ValueAlike z v w → ValueAlike z x y → AlikeAnswer z o p
      → AlikeAnswer z (seek_at births v x k o) (seek_at table w y k p)
  unfolding seek_at
  seek_at-alike v w x y k o p h l s = search (reads_alike, ends_at-alike) depth 16 fits 4000

  seek_among-alike : (v w x y : Value) (k left : ℕ) (o : Step Births Ending) (p : Step Table Ending) → ValueAlike z v w → ValueAlike z x y → AlikeAnswer z o p
      → AlikeAnswer z (seek_among births v x k left o) (seek_among table w y k left p)
  unfolding seek_among
  seek_among-alike v w x y k zero o p h l s = s
  seek_among-alike v w x y k (suc left) o p h l s = seek_at-alike v w x y k _ _ h l (seek_among-alike v w x y (suc k) left o p h l s)

  count_places-alike : (v w : Value) → ValueAlike z v w → AlikeAnswer z (count_places births v) (count_places table w)
  unfolding count_places
  count_places-alike v w h = search reads_alike depth 16 fits 4000

  place_of_selector-alike : (v w s t : Value) → ValueAlike z v w → ValueAlike z s t → AlikeAnswer z (place_of_selector births v s) (place_of_selector table w t)
  unfolding place_of_selector seek seek_from
  place_of_selector-alike v w s t h k = search (reads_alike, count_places-alike, seek_among-alike) depth 24 fits 4000

  -- growth

  vacant_more : (b c : Bool) (n : ℕ) → c ≡ b → AlikeAnswer z (answer (one_more_if b n)) (answer (one_more_if c n))
  vacant_more b c n e = rw e (search joins_alike)

  count_vacant-alike : (v w : Value) (k left : ℕ) → ValueAlike z v w → AlikeAnswer z (count_vacant births v k left) (count_vacant table w k left)
  unfolding count_vacant
  count_vacant-alike v w k zero h = search joins_alike
  count_vacant-alike v w k (suc left) h = search (reads_alike, vacant_more, count_vacant-alike v w (suc k) left h) depth 16 fits 4000

  is_nearly_full-alike : (v w : Value) → ValueAlike z v w → AlikeAnswer z (is_nearly_full births v) (is_nearly_full table w)
  unfolding is_nearly_full
  is_nearly_full-alike v w h = search (reads_alike, count_places-alike, count_vacant-alike) depth 16 fits 4000

  grows_at-alike : (v w : Value) (e : Ending) → ValueAlike z v w → AlikeAnswer z (grows_at births v e) (grows_at table w e)
  unfolding grows_at
  grows_at-alike v w (Holds k) h = search joins_alike
  grows_at-alike v w (Vacant k) h = is_nearly_full-alike v w h
  grows_at-alike v w Nowhere h = is_nearly_full-alike v w h

  pub grows_for-alike : (v w : Value) (p : PlannedValue) → ValueAlike z v w → IsLivePart (lives z) p → AlikeAnswer z (grows_for births v p) (grows_for table w (renamed_part (name z) p))
  unfolding grows_for
  grows_for-alike v w (Made k) h l = is_nearly_full-alike v w h
  grows_for-alike v w (There s) h l =
      let k : ValueAlike z s (renamed (name z) s) = record { live = l; is = refl } in
      search (joins_alike, place_of_selector-alike, grows_at-alike) depth 16 fits 4000

  abbrev pub AlikeObjects : Step Births (List NewObject) → Step Table (List NewObject) → Type 0
  AlikeObjects m n = Alike z (ObjectsLive (lives z)) (renamed_objects (name z)) m n

  pub answer_objects-alike : (os qs : List NewObject) → ObjectsNamed (lives z) (name z) os qs → AlikeObjects (answer os) (answer qs)
  answer_objects-alike os qs h = answer-alike z _ _ os qs (h.live, h.formed) h.is

  dictionary-named : (c c' t t' a a' n n' : Value) (places next : ℕ) → ValueAlike z c c' → ValueAlike z t t' → ValueAlike z a a' → ValueAlike z n n'
      → ObjectsNamed (lives z) (name z) (dictionary_objects c t a n places next) (dictionary_objects c' t' a' n' places next)
  dictionary-named c c' t t' a a' n n' places next h k l j = search parts_named depth 16 fits 4000

  pub grown_objects-alike : (v w : Value) (next : ℕ) → ValueAlike z v w → AlikeObjects (grown_objects births v next) (grown_objects table w next)
  unfolding grown_objects
  grown_objects-alike v w next h = search (reads_alike, count_places-alike, answer_objects-alike, dictionary-named) depth 24 fits 4000
