-- Worked rows: what an image shows, computed from the definitions.
use Rattle.std.proofs.Common.{◌≡◌, List, [], ◌∷◌, Some, None, Option, refl}
use Rattle.std.specs.Prelude.{codes, ◌++◌}
use Rattle.st_model.specs.declared.kind.Kind.TheVariants as kind
use Rattle.st_model.specs.declared.place.RootPlace.TheVariants as place
use Rattle.st_model.specs.Values.{Value, Small, Ref}
use Rattle.st_model.specs.Objects.{Object, nil}
use Rattle.st_model.specs.Machine.{answer, die, after, ◌>>=◌, ◌>>◌}
use Rattle.st_model.specs.Steps.{found, object_named, object, check, or_die, fetch_field}
use Rattle.st_model.specs.Primitives.{bits_or_die, positive_small}
use Rattle.st_model.specs.BitBlt.{fetch_words, fetch_positive, read_form}
use Rattle.st_model.specs.Text.{numbers_text}
use Rattle.st_model.specs.View.{View, nothing_held, no_devices, with_held}
use Rattle.st_browse.specs.Display.{display_reply}

object_with : List Value → Option Object
object_with fields = Some (record { class = 6; kind = kind.Pointers; fields = fields; units = [] })

-- An image whose display this is. Object 2 is a Form; 3 has its pixels; 4 asks for more rows than there are; 5 has no pixel in
-- a row; of 6 the width isn't a SmallInteger, and of 7 the pixels are in no object of kind Words.
showing : Value → View
unfolding object_with
showing display = record {
  objects =
      None
      ∷ object_with []
      ∷ object_with (Ref 3 ∷ Small 17 ∷ Small 2 ∷ [])
      ∷ Some (record { class = 8; kind = kind.Words; fields = []; units = 4660 ∷ 43981 ∷ 0 ∷ 65535 ∷ [] })
      ∷ object_with (Ref 3 ∷ Small 17 ∷ Small 3 ∷ [])
      ∷ object_with (Ref 3 ∷ Small 0 ∷ Small 2 ∷ [])
      ∷ object_with (Ref 3 ∷ nil ∷ Small 2 ∷ [])
      ∷ object_with (Ref 2 ∷ Small 17 ∷ Small 2 ∷ [])
      ∷ [];
  held = with_held nothing_held place.Display display;
  head = record { entries = 8; words = 100; globals = None; symbols = None };
}

-- a row of 17 pixels has two words
shown : display_reply (showing (Ref 2)) ≡ Some ((codes "display" ++ (numbers_text (17 ∷ 2 ∷ []) ++ codes "\n")) ++ codes "row 1234abcd\nrow 0000ffff\n")
unfolding display_reply showing object_with nothing_held no_devices read_form fetch_field fetch_positive fetch_words positive_small bits_or_die object object_named found check or_die answer die after ◌>>=◌ ◌>>◌
shown = refl

narrow : display_reply (showing (Ref 5)) ≡ Some ((codes "display" ++ (numbers_text (0 ∷ 2 ∷ []) ++ codes "\n")) ++ codes "row \nrow \n")
unfolding display_reply showing object_with nothing_held no_devices read_form fetch_field fetch_positive fetch_words positive_small bits_or_die object object_named found check or_die answer die after ◌>>=◌ ◌>>◌
narrow = refl

-- NO FORM

none_held : display_reply (showing nil) ≡ None
unfolding display_reply showing nothing_held no_devices
none_held = refl

number_held : display_reply (showing (Small 2)) ≡ None
unfolding display_reply showing object_with nothing_held no_devices read_form fetch_field object check die after ◌>>=◌ ◌>>◌
number_held = refl

too_few : display_reply (showing (Ref 4)) ≡ None
unfolding display_reply showing object_with nothing_held no_devices read_form fetch_field fetch_positive fetch_words positive_small bits_or_die object object_named found check or_die answer die after ◌>>=◌ ◌>>◌
too_few = refl

no_width : display_reply (showing (Ref 6)) ≡ None
unfolding display_reply showing object_with nothing_held no_devices read_form fetch_field fetch_positive fetch_words positive_small bits_or_die object object_named found check or_die answer die after ◌>>=◌ ◌>>◌
no_width = refl

no_words : display_reply (showing (Ref 7)) ≡ None
unfolding display_reply showing object_with nothing_held no_devices read_form fetch_field fetch_positive fetch_words positive_small bits_or_die object object_named found check or_die answer die after ◌>>=◌ ◌>>◌
no_words = refl
