-- The first objects of a kernel text, and whether there is room for them.
use Rattle.std.specs.Prelude.{ℕ, ◌+◌, suc, nat_le, ◌&&◌, Bool, true, List, [], ◌∷◌, length, replicate, Some, None}
use Rattle.st_model.specs.Limits.{most_words}
use Rattle.st_model.specs.Values.{Ref}
use Rattle.st_model.specs.Objects.{words_of}
use Rattle.st_model.specs.Machine.{Head}
use Rattle.st_model.specs.Table.{Table}
use Rattle.st_model.specs.View.{View, with_object, empty_view}
use Rattle.st_kernel_text.specs.Texts.{Account}
use Rattle.st_first_objects.specs.declared.thing.What.TheVariants as what
use Rattle.st_first_objects.specs.Things.{Thing, only}
use Rattle.st_first_objects.specs.Plans.{FirstObjects, plan}
use Rattle.st_first_objects.specs.Pointers.{place, place_in, object}

-- the table with these things' objects too, of which the first is made as this one
abbrev pub with_things : FirstObjects → (i : ℕ) → List Thing → Table → Table
with_things p i [] t = t
with_things p i (x ∷ xs) t = with_things p (suc i) xs (with_object t (Ref (place i)) (object p x))

-- the greatest capacities, the global Array, and the association of the symbol table
abbrev pub head_in : List Thing → Head
head_in things = record {
  entries = 32767;
  words = most_words;
  globals = Some (Ref (place_in things (only what.Globals)));
  symbols = Some (Ref (place_in things (only what.Symbols)));
}

unfoldable pub view_of : FirstObjects → View
view_of p = record (empty_view (head_in p.order.things)) { objects = with_things p 0 p.order.things (replicate 32768 None) }

-- each thing's object at its pointer, and nothing held
abbrev pub first_view : Account → View
first_view a = view_of (plan a)

-- beside so many words the objects of these things have room, each of at most 65,535 words
abbrev pub fit_beside : FirstObjects → (words : ℕ) → List Thing → Bool
fit_beside p words [] = true
fit_beside p words (x ∷ xs) =
    nat_le (words_of (object p x)) 65535 && (nat_le (words + words_of (object p x)) most_words && fit_beside p (words + words_of (object p x)) xs)

abbrev pub has_room : Account → Bool
has_room a = nat_le (length (plan a).order.things) 32767 && fit_beside (plan a) 0 (plan a).order.things
