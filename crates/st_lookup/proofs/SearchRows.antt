-- Worked rows of the search for a method, computed from the definitions. Of two classes the first, of pointer 4, has the
-- second, of pointer 6, as its superclass. The pointers 16 and 18 are methods, and 20 to 26 selectors, whose halves are 10 to
-- 13. So in a dictionary of 4 places these begin at the places 2, 3, 0 and 1.
use Rattle.std.proofs.Common.{◌≡◌, List, [], ◌∷◌, Some, None, Option, refl}
use Rattle.std.specs.Prelude.{pos}
use Rattle.st_model.specs.declared.dead.Dead.{Dead}
use Rattle.st_model.specs.declared.dead.Dead.TheVariants as dead
use Rattle.st_model.specs.declared.kind.Kind.TheVariants as kind
use Rattle.st_model.specs.Values.{Value, Small, Ref}
use Rattle.st_model.specs.Objects.{Object, nil}
use Rattle.st_model.specs.Machine.{State, Died, Went, empty_world, answer, die, after, ◌>>=◌, ◌>>◌}
use Rattle.st_model.specs.Steps.{found, object_named, object, of_page, or_die, check, fetch_field, count_fields}
use Rattle.st_model.specs.Methods.{method_header}
use Rattle.st_model.specs.Lookup.{half_word, checked_method, method_at, place_says, look_at_place, look_at_places, search_from, search_dictionary, or_above, method_in_class, look_in_class, unless_nil, end_at_nil, find_within, find}
use Rattle.st_model.specs.Table.{Table, table}
use Rattle.st_lookup.specs.inside.Remembered.{watched}

-- opens the definitions of the search
opened : Unit {0}
unfolding answer die after ◌>>=◌ ◌>>◌ found object_named object of_page or_die check fetch_field count_fields method_header half_word checked_method method_at place_says look_at_place look_at_places search_from search_dictionary or_above method_in_class look_in_class unless_nil end_at_nil find_within find
opened = tt

-- an object of kind Pointers
abbrev plain : List Value → Option Object
plain fields = Some (record { class = 6; kind = kind.Pointers; fields = fields; units = [] })

abbrev method : Option Object
method = Some (record { class = 17; kind = kind.Method; fields = Small 0 ∷ []; units = 120 ∷ [] })

abbrev bytes : Option Object
bytes = Some (record { class = 7; kind = kind.Bytes; fields = []; units = 1 ∷ 2 ∷ 3 ∷ 4 ∷ [] })

-- two classes, their dictionaries, the Arrays of methods, two methods and four selectors
abbrev objects : Option Object → Option Object → Option Object → Option Object → Option Object → Option Object → Table
objects first second dictionary dictionary_above methods methods_above =
    None ∷ plain [] ∷ first ∷ second ∷ dictionary ∷ dictionary_above ∷ methods ∷ methods_above ∷ method ∷ method ∷ plain [] ∷ plain [] ∷ plain [] ∷ plain [] ∷ []

-- the first class with no superclass, its dictionary and its Array
abbrev alone : Option Object → Option Object → Table
alone dictionary methods = objects (plain (nil ∷ Ref 4 ∷ [])) None dictionary None methods None

-- the same, with these selectors and methods at the places
abbrev with_places : List Value → List Value → Table
with_places selectors methods = alone (plain (Small 0 ∷ Ref 6 ∷ selectors)) (plain methods)

-- both classes, with the superclass of the second and with the selectors and methods of both
abbrev chain : Value → List Value → List Value → List Value → List Value → Table
chain end selectors methods selectors_above methods_above =
    objects (plain (Ref 3 ∷ Ref 4 ∷ [])) (plain (end ∷ Ref 5 ∷ [])) (plain (Small 0 ∷ Ref 6 ∷ selectors)) (plain (Small 0 ∷ Ref 7 ∷ selectors_above)) (plain methods) (plain methods_above)

abbrev state : Table → State Table
state t = record {
  memory = t;
  registers = record { active = nil; home = nil; method = nil; receiver = nil; ip = pos 0; sp = 5 };
  world = empty_world nil;
  head = record { entries = 32767; words = 1048576; globals = None; symbols = None };
}

-- what the search for a selector from a class finds
abbrev Finds : Table → Value → Value → Option Value → Type 0
Finds t class selector result = (find table class selector).run (state t) ≡ Went result (state t)

-- of what it dies
abbrev Dies : Table → Value → Value → Dead → Type 0
Dies t class selector cause = (find table class selector).run (state t) ≡ Died cause

-- the search begins at the place that the lowest bits of half the pointer give
at_its_place : Finds (with_places (nil ∷ nil ∷ Ref 10 ∷ nil ∷ []) (nil ∷ nil ∷ Ref 8 ∷ nil ∷ [])) (Ref 2) (Ref 10) (Some (Ref 8))
unfolding opened
at_its_place = refl

-- it goes up from there
next_place : Finds (with_places (nil ∷ nil ∷ Ref 12 ∷ Ref 10 ∷ []) (nil ∷ nil ∷ Ref 8 ∷ Ref 9 ∷ [])) (Ref 2) (Ref 10) (Some (Ref 9))
unfolding opened
next_place = refl

-- behind the last place it goes on at place 0
wraps : Finds (with_places (Ref 11 ∷ nil ∷ nil ∷ Ref 10 ∷ []) (Ref 9 ∷ nil ∷ nil ∷ Ref 8 ∷ [])) (Ref 2) (Ref 11) (Some (Ref 9))
unfolding opened
wraps = refl

-- it comes as far as the place before the one where it began
last_looked_at : Finds (with_places (Ref 13 ∷ Ref 12 ∷ Ref 10 ∷ Ref 11 ∷ []) (nil ∷ Ref 9 ∷ nil ∷ nil ∷ [])) (Ref 2) (Ref 12) (Some (Ref 9))
unfolding opened
last_looked_at = refl

-- where all places hold other selectors there is no method
full : Finds (with_places (Ref 10 ∷ Ref 11 ∷ Ref 13 ∷ Ref 10 ∷ []) (Ref 8 ∷ Ref 8 ∷ Ref 8 ∷ Ref 8 ∷ [])) (Ref 2) (Ref 12) None
unfolding opened
full = refl

-- it ends at nil, before what stands at a later place
ends_at_nil : Finds (with_places (Ref 10 ∷ nil ∷ Ref 12 ∷ nil ∷ []) (Ref 8 ∷ nil ∷ nil ∷ nil ∷ [])) (Ref 2) (Ref 10) None
unfolding opened
ends_at_nil = refl

-- a SmallInteger as a selector begins at the place that its lowest bits give
small_selector : Finds (with_places (nil ∷ nil ∷ nil ∷ Small 7 ∷ []) (nil ∷ nil ∷ nil ∷ Ref 8 ∷ [])) (Ref 2) (Small 7) (Some (Ref 8))
unfolding opened
small_selector = refl

-- a selector that names no object begins at place 0
selector_gone : Finds (with_places (Ref 15 ∷ nil ∷ nil ∷ nil ∷ []) (Ref 8 ∷ nil ∷ nil ∷ nil ∷ [])) (Ref 2) (Ref 15) (Some (Ref 8))
unfolding opened
selector_gone = refl

-- nil as a selector is met at the first empty place
nil_selector : Finds (with_places (nil ∷ nil ∷ nil ∷ nil ∷ []) (Ref 8 ∷ Ref 9 ∷ Ref 8 ∷ Ref 8 ∷ [])) (Ref 2) nil (Some (Ref 9))
unfolding opened
nil_selector = refl

-- a dictionary without places
no_places : Dies (with_places [] []) (Ref 2) (Ref 10) dead.Places
unfolding opened
no_places = refl

-- a dictionary with no field for its Array has no places either
one_field : Dies (alone (plain (Small 0 ∷ [])) (plain [])) (Ref 2) (Ref 10) dead.Places
unfolding opened
one_field = refl

-- one place
one_place : Finds (with_places (Ref 13 ∷ []) (Ref 8 ∷ [])) (Ref 2) (Ref 13) (Some (Ref 8))
unfolding opened
one_place = refl

-- The mask of 3 places is 2. So 10 begins at place 2, and not at its remainder, place 1.
masked_to_2 : Finds (with_places (nil ∷ nil ∷ Ref 10 ∷ []) (nil ∷ nil ∷ Ref 8 ∷ [])) (Ref 2) (Ref 10) (Some (Ref 8))
unfolding opened
masked_to_2 = refl

-- from place 2 of 3 places the search goes on at the places 0 and 1
masked_wraps : Finds (with_places (Ref 12 ∷ Ref 10 ∷ Ref 11 ∷ []) (nil ∷ Ref 9 ∷ nil ∷ [])) (Ref 2) (Ref 10) (Some (Ref 9))
unfolding opened
masked_wraps = refl

-- 13 begins at place 0 of 3 places
masked_to_0 : Finds (with_places (Ref 13 ∷ nil ∷ nil ∷ []) (Ref 8 ∷ nil ∷ nil ∷ [])) (Ref 2) (Ref 13) (Some (Ref 8))
unfolding opened
masked_to_0 = refl

-- and isn't found behind an empty one, though its remainder is place 1
not_at_the_remainder : Finds (with_places (nil ∷ Ref 13 ∷ nil ∷ []) (nil ∷ Ref 8 ∷ nil ∷ [])) (Ref 2) (Ref 13) None
unfolding opened
not_at_the_remainder = refl

-- what was found is no method
no_method : Dies (with_places (nil ∷ nil ∷ Ref 10 ∷ nil ∷ []) (nil ∷ nil ∷ Ref 11 ∷ nil ∷ [])) (Ref 2) (Ref 10) dead.Kind
unfolding opened
no_method = refl

-- what was found is a SmallInteger
small_method : Dies (with_places (nil ∷ nil ∷ Ref 10 ∷ nil ∷ []) (nil ∷ nil ∷ Small 5 ∷ nil ∷ [])) (Ref 2) (Ref 10) dead.Small
unfolding opened
small_method = refl

-- the Array has no such field
short_array : Dies (with_places (nil ∷ nil ∷ Ref 10 ∷ nil ∷ []) (nil ∷ nil ∷ [])) (Ref 2) (Ref 10) dead.Field
unfolding opened
short_array = refl

-- the Array is no Pointers object
array_of_bytes : Dies (alone (plain (Small 0 ∷ Ref 6 ∷ nil ∷ nil ∷ Ref 10 ∷ nil ∷ [])) bytes) (Ref 2) (Ref 10) dead.Kind
unfolding opened
array_of_bytes = refl

-- the Array is a SmallInteger
small_array : Dies (alone (plain (Small 0 ∷ Small 6 ∷ nil ∷ nil ∷ Ref 10 ∷ nil ∷ [])) None) (Ref 2) (Ref 10) dead.Small
unfolding opened
small_array = refl

-- which is met only where the selector was found
array_not_looked_at : Finds (alone (plain (Small 0 ∷ Small 6 ∷ nil ∷ nil ∷ nil ∷ nil ∷ [])) None) (Ref 2) (Ref 10) None
unfolding opened
array_not_looked_at = refl

-- the dictionary is no Pointers object
dictionary_of_bytes : Dies (alone bytes None) (Ref 2) (Ref 10) dead.Kind
unfolding opened
dictionary_of_bytes = refl

-- there is no dictionary under its pointer
dictionary_gone : Dies (alone None None) (Ref 2) (Ref 10) dead.Kind
unfolding opened
dictionary_gone = refl

-- the dictionary is a SmallInteger
small_dictionary : Dies (objects (plain (nil ∷ Small 4 ∷ [])) None None None None None) (Ref 2) (Ref 10) dead.Small
unfolding opened
small_dictionary = refl

-- the dictionary is nil, which has no places
nil_dictionary : Dies (objects (plain (nil ∷ nil ∷ [])) None None None None None) (Ref 2) (Ref 10) dead.Places
unfolding opened
nil_dictionary = refl

-- the class has no field for a dictionary
class_without_dictionary : Dies (objects (plain (nil ∷ [])) None None None None None) (Ref 2) (Ref 10) dead.Field
unfolding opened
class_without_dictionary = refl

-- the class is a SmallInteger
small_class : Dies (with_places (nil ∷ nil ∷ Ref 10 ∷ nil ∷ []) (nil ∷ nil ∷ Ref 8 ∷ nil ∷ [])) (Small 2) (Ref 10) dead.Small
unfolding opened
small_class = refl

-- the class is no Pointers object
class_of_bytes : Dies (objects bytes None None None None None) (Ref 2) (Ref 10) dead.Kind
unfolding opened
class_of_bytes = refl

-- nil is no class
nil_class : Finds (with_places (nil ∷ nil ∷ Ref 10 ∷ nil ∷ []) (nil ∷ nil ∷ Ref 8 ∷ nil ∷ [])) nil (Ref 10) None
unfolding opened
nil_class = refl

-- found in the superclass
in_the_superclass : Finds (chain nil (nil ∷ Ref 13 ∷ nil ∷ nil ∷ []) (nil ∷ Ref 8 ∷ nil ∷ nil ∷ []) (Ref 10 ∷ nil ∷ []) (Ref 9 ∷ nil ∷ [])) (Ref 2) (Ref 10) (Some (Ref 9))
unfolding opened
in_the_superclass = refl

-- the class comes before its superclass
class_before_superclass : Finds (chain nil (nil ∷ nil ∷ Ref 10 ∷ nil ∷ []) (nil ∷ nil ∷ Ref 8 ∷ nil ∷ []) (Ref 10 ∷ nil ∷ []) (Ref 9 ∷ nil ∷ [])) (Ref 2) (Ref 10) (Some (Ref 8))
unfolding opened
class_before_superclass = refl

-- a superclass doesn't see its subclass
from_the_superclass : Finds (chain nil (nil ∷ nil ∷ Ref 10 ∷ nil ∷ []) (nil ∷ nil ∷ Ref 8 ∷ nil ∷ []) (nil ∷ nil ∷ []) (nil ∷ nil ∷ [])) (Ref 3) (Ref 10) None
unfolding opened
from_the_superclass = refl

-- none where the chain ends in nil without one
end_of_chain : Finds (chain nil (nil ∷ nil ∷ nil ∷ nil ∷ []) (nil ∷ nil ∷ nil ∷ nil ∷ []) (nil ∷ Ref 10 ∷ []) (nil ∷ Ref 9 ∷ [])) (Ref 2) (Ref 10) None
unfolding opened
end_of_chain = refl

-- the dictionary of the class has no places, and the superclass isn't asked
dies_before_superclass : Dies (chain nil [] [] (Ref 10 ∷ nil ∷ []) (Ref 9 ∷ nil ∷ [])) (Ref 2) (Ref 10) dead.Places
unfolding opened
dies_before_superclass = refl

-- the dictionary of the superclass has none
dies_in_superclass : Dies (chain nil (nil ∷ nil ∷ nil ∷ nil ∷ []) (nil ∷ nil ∷ nil ∷ nil ∷ []) [] []) (Ref 2) (Ref 10) dead.Places
unfolding opened
dies_in_superclass = refl

-- the chain comes to a SmallInteger
small_superclass : Dies (chain (Small 1) (nil ∷ []) (nil ∷ []) (nil ∷ []) (nil ∷ [])) (Ref 2) (Ref 10) dead.Small
unfolding opened
small_superclass = refl

-- the chain comes back to its begin: it is dead at the class of number 32768
circle : Dies (chain (Ref 2) (nil ∷ []) (nil ∷ []) (nil ∷ []) (nil ∷ [])) (Ref 2) (Ref 10) dead.Chain
unfolding opened
circle = refl

-- Of a class, its dictionary, the Array, the method and the selector each bit is set: the search finds among these alone what
-- it finds among all.
watched_alone : Finds (watched (1364 ∷ []) (with_places (nil ∷ nil ∷ Ref 10 ∷ nil ∷ []) (nil ∷ nil ∷ Ref 8 ∷ nil ∷ []))) (Ref 2) (Ref 10) (Some (Ref 8))
unfolding opened watched
watched_alone = refl

-- without the dictionary's bit it dies
dictionary_not_watched : Dies (watched (1348 ∷ []) (with_places (nil ∷ nil ∷ Ref 10 ∷ nil ∷ []) (nil ∷ nil ∷ Ref 8 ∷ nil ∷ []))) (Ref 2) (Ref 10) dead.Kind
unfolding opened watched
dictionary_not_watched = refl

-- without the selector's it begins at place 0
selector_not_watched : Finds (watched (340 ∷ []) (with_places (nil ∷ nil ∷ Ref 10 ∷ nil ∷ []) (nil ∷ nil ∷ Ref 8 ∷ nil ∷ []))) (Ref 2) (Ref 10) None
unfolding opened watched
selector_not_watched = refl
