use Rattle.std.proofs.Common.{◌≡◌, ℕ, ◌+◌, ◌/◌, ◌<◌, ◌≤◌, Bool, List, [], ◌∷◌, ◌++◌, replicate, cond, false, true, sym, ap, ◌∙◌, subst, arith}
use Rattle.std.specs.Prelude.{Option, ◌&&◌, ◌==◌, nat_le}
use Rattle.std.proofs.lemmas.Grind.{common_steps}
use Rattle.std.proofs.lemmas.Bool.Decides.{nat_tests}
use Rattle.st_model.specs.Values.{Ref, value, value_of}
use Rattle.st_model.specs.Objects.{nil, words_of}
use Rattle.st_model.specs.declared.page.PageObject.TheVariants as page_object
use Rattle.st_model.specs.Formed.{fresh}
use Rattle.st_model.specs.Table.{Table, first_free, placed, total_used}
use Rattle.st_model.specs.View.{View, is_live, IsWhole}
use Rattle.st_model.proofs.Making.{first_free_within, live_even}
use Rattle.st_counted.specs.inside.Contents.{counts_of}
use Rattle.st_heap.specs.inside.Tables.{objects_of}
use Rattle.st_counted.specs.inside.Counts.{raised}
use Rattle.st_counted.specs.inside.References.{all_roots, references, raised_by, IsCounted}
use Rattle.st_counted.specs.inside.Counted.{counted_view, numbers_of}
use Rattle.st_counted.proofs.Tallying.{known_counted, live_known, tally_entered}
use Rattle.st_counted.proofs.Listing.{new_stored, listed_new}
use Rattle.st_counted.proofs.Rooting.{counted_few}
use Rattle.st_counted.proofs.Storing.{place_of_ref, raised_to, made, absent, with_nils, new_hand, few_nils}
use Rattle.st_counted.proofs.contents.Contents.make.Goals as goal

-- the class is in hand
with_class : (v : View) (cs cs1 : List (Option ℕ)) (w : ℕ) → IsCounted v.objects (all_roots v) [] cs → is_live v.objects (value_of w) ≡ true → cs1 ≡ raised_by cs (value_of w) 1 → IsCounted v.objects (all_roots v) (value_of w ∷ []) cs1
with_class v cs cs1 w h live e = raised_to v.objects (all_roots v) [] cs cs1 (value_of w) 1 h (λ s. live) e

pub raise-requires-clause-counted : goal.raise-requires-clause-counted
raise-requires-clause-counted c small =
    let v = counted_view c.args.self.now in
    known_counted v.objects (references v.objects (all_roots v) []) (numbers_of c.args.self.now) c.args.class.0 c.requires.counted.tallied (λ s. c.requires.class) small

pub raise-requires-clause-room : goal.raise-requires-clause-room
raise-requires-clause-room c =
    let a = counted_few (counted_view c.args.self.now) [] (numbers_of c.args.self.now) (c.args.class.0 / 2) c.requires.whole c.requires.counted in omega (arith, a)

pub raise_nil-requires-clause-counted : goal.raise_nil-requires-clause-counted
raise_nil-requires-clause-counted c =
    let v = counted_view c.args.self.now in
    let cs1 = counts_of c.raise.new.counts in
    let h = with_class v (numbers_of c.args.self.now) cs1 c.args.class.0 c.requires.counted c.requires.class c.raise.ensures.counts in
    tally_entered v.objects (references v.objects (all_roots v) (value c.args.class ∷ [])) cs1 h.tallied 1 ∙ live_known v.objects 1 (λ s. c.requires.whole.complete.page page_object.NilObject)

pub raise_nil-requires-clause-room : goal.raise_nil-requires-clause-room
raise_nil-requires-clause-room c =
    let v = counted_view c.args.self.now in
    let cs1 = counts_of c.raise.new.counts in
    let a = counted_few v (value c.args.class ∷ []) cs1 1 c.requires.whole (with_class v (numbers_of c.args.self.now) cs1 c.args.class.0 c.requires.counted c.requires.class c.raise.ensures.counts) in
    let b = few_nils (c.args.class.0 / 2) c.args.kind c.args.size c.args.literals c.requires.makeable in
    let d = c.count_nils-nils.ensures in omega (arith, a, b, d)

-- the objects stand while references are counted
pub make-o-requires-clause-left : goal.make-o-requires-clause-left
make-o-requires-clause-left c =
    subst (λ (t : Table). first_free t < 32768) (sym (c.raise_nil.ensures.rest.objects ∙ c.raise.ensures.rest.objects))
    (first_free_within (counted_view c.args.self.now) c.requires.whole (fresh (c.args.class.0 / 2) c.args.kind c.args.size c.args.literals) c.requires.room)

pub make-o-requires-clause-class : goal.make-o-requires-clause-class
make-o-requires-clause-class c = live_even (counted_view c.args.self.now).objects (value c.args.class) c.requires.class

second_fits : (x : Bool) (a b : ℕ) → (x && nat_le a b) ≡ true → a ≤ b
second_fits true a b h = grind (arith, nat_tests)
second_fits false a b h = cc

pub make-o-requires-clause-words : goal.make-o-requires-clause-words
make-o-requires-clause-words c =
    let m = c.args.self.now in
    let words = words_of (fresh (c.args.class.0 / 2) c.args.kind c.args.size c.args.literals) in
    let fit : total_used words_of (objects_of m.objects) + words ≤ m.head.capacity.words = second_fits _ _ _ c.requires.room in
    let room = c.raise_nil.ensures.rest.room ∙ c.raise.ensures.rest.room ∙ c.requires.words in
    subst (λ n. total_used words_of (objects_of c.raise_nil.new.objects) + words ≤ n) (sym room)
    (subst (λ (t : Table). total_used words_of t + words ≤ m.head.capacity.words) (sym (c.raise_nil.ensures.rest.objects ∙ c.raise.ensures.rest.objects)) fit)

-- what a new object refers to is in hand
with_hand : (v : View) (cs cs1 cs2 : List (Option ℕ)) (w n : ℕ) → IsWhole v → IsCounted v.objects (all_roots v) [] cs → is_live v.objects (value_of w) ≡ true → cs1 ≡ raised_by cs (value_of w) 1 → cs2 ≡ cond (n == 0) cs1 (raised cs1 1 n)
    → IsCounted v.objects (all_roots v) (replicate n nil ++ (value_of w ∷ [])) cs2
with_hand v cs cs1 cs2 w n whole h live e f = with_nils v.objects (all_roots v) (value_of w ∷ []) cs1 cs2 n (with_class v cs cs1 w h live e) (λ s. whole.complete.page page_object.NilObject) f

pub enter-requires-clause-absent : goal.enter-requires-clause-absent
enter-requires-clause-absent c =
    let m = c.args.self.now in
    let v = counted_view m in
    let t = objects_of c.raise_nil.new.objects in
    let cs2 = counts_of c.raise_nil.new.counts in
    let h2 = with_hand v (numbers_of m) (counts_of c.raise.new.counts) cs2 c.args.class.0 c.count_nils-nils.result c.requires.whole c.requires.counted c.requires.class c.raise.ensures.counts c.raise_nil.ensures.counts in
    let place : c.from.result ≡ c.make-o.result.0 / 2 = grind (arith, common_steps) in
    absent v.objects (all_roots v) _ cs2 c.from.result h2 (place ∙ place_of_ref c.make-o.result.0 (first_free t) c.make-o.ensures.pointer ∙ ap (λ (u : Table). first_free u) (c.raise_nil.ensures.rest.objects ∙ c.raise.ensures.rest.objects))

pub enter-requires-clause-stored : goal.enter-requires-clause-stored
enter-requires-clause-stored c =
    let o = c.raise_nil.new.objects in
    let place : c.from.result ≡ c.make-o.result.0 / 2 = grind (arith, common_steps) in
    new_stored o c.make-o.new.self _ c.from.result (place ∙ place_of_ref c.make-o.result.0 (first_free (objects_of o)) c.make-o.ensures.pointer) c.make-o.ensures.objects

pub enter-requires-clause-listed : goal.enter-requires-clause-listed
enter-requires-clause-listed c =
    let m = c.args.self.now in
    let v = counted_view m in
    let o = c.raise_nil.new.objects in
    let cs2 = counts_of c.raise_nil.new.counts in
    let h2 = with_hand v (numbers_of m) (counts_of c.raise.new.counts) cs2 c.args.class.0 c.count_nils-nils.result c.requires.whole c.requires.counted c.requires.class c.raise.ensures.counts c.raise_nil.ensures.counts in
    let place : c.from.result ≡ c.make-o.result.0 / 2 = grind (arith, common_steps) in
    let free = place ∙ place_of_ref c.make-o.result.0 (first_free (objects_of o)) c.make-o.ensures.pointer in
    listed_new o c.make-o.new.self c.raise_nil.new.counts _ c.from.result (c.make-o.result.0 / 2) c.raise_nil.ensures.listed c.make-o.ensures.links (sym place)
    (absent v.objects (all_roots v) _ cs2 c.from.result h2 (free ∙ ap (λ (u : Table). first_free u) (c.raise_nil.ensures.rest.objects ∙ c.raise.ensures.rest.objects))) free c.make-o.ensures.objects

pub returns-clause-pointer : goal.returns-clause-pointer
returns-clause-pointer c = c.make-o.ensures.pointer ∙ ap (λ (t : Table). Ref (first_free t)) (c.raise_nil.ensures.rest.objects ∙ c.raise.ensures.rest.objects)

pub returns-clause-objects : goal.returns-clause-objects
returns-clause-objects c =
    c.enter.ensures.rest.objects ∙ c.make-o.ensures.objects ∙ ap (λ (t : Table). placed t (fresh (c.args.class.0 / 2) c.args.kind c.args.size c.args.literals)) (c.raise_nil.ensures.rest.objects ∙ c.raise.ensures.rest.objects)

pub returns-clause-counted : goal.returns-clause-counted
returns-clause-counted c =
    let m = c.args.self.now in
    let v = counted_view m in
    let cs2 = counts_of c.raise_nil.new.counts in
    let h2 = with_hand v (numbers_of m) (counts_of c.raise.new.counts) cs2 c.args.class.0 c.count_nils-nils.result c.requires.whole c.requires.counted c.requires.class c.raise.ensures.counts c.raise_nil.ensures.counts in
    let h3 = new_hand v.objects (all_roots v) cs2 c.args.class.0 c.args.kind c.args.size c.args.literals c.count_nils-nils.result h2 c.count_nils-nils.ensures (live_even v.objects (value c.args.class) c.requires.class) in
    let place : c.from.result ≡ c.make-o.result.0 / 2 = grind (arith, common_steps) in
    let left = first_free_within v c.requires.whole (fresh (c.args.class.0 / 2) c.args.kind c.args.size c.args.literals) c.requires.room in
    let same = c.raise_nil.ensures.rest.objects ∙ c.raise.ensures.rest.objects in
    let free = place ∙ place_of_ref c.make-o.result.0 (first_free (objects_of c.raise_nil.new.objects)) c.make-o.ensures.pointer ∙ ap (λ (u : Table). first_free u) same in
    let is = c.enter.ensures.rest.objects ∙ c.make-o.ensures.objects ∙ ap (λ (t : Table). placed t (fresh (c.args.class.0 / 2) c.args.kind c.args.size c.args.literals)) same in
    made v.objects (objects_of c.enter.new.objects) (all_roots v) cs2 cs2 (counts_of c.enter.new.self) (c.args.class.0 / 2) c.args.kind c.args.size c.args.literals c.from.result h3
    (subst (λ n. first_free v.objects < n) (sym c.raise_nil.new.counts.places) left) free c.enter.ensures.counts is

pub returns-clause-words : goal.returns-clause-words
returns-clause-words c = c.enter.ensures.rest.room ∙ c.make-o.ensures.room ∙ c.raise_nil.ensures.rest.room ∙ c.raise.ensures.rest.room ∙ c.requires.words
