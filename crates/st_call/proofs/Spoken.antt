-- Worked words.
use Rattle.std.proofs.Common.{◌≡◌, [], ◌∷◌, refl}
use Rattle.std.specs.Prelude.{codes, Some, None}
use Rattle.st_image.specs.HeadValues.{no_values}
use Rattle.st_chunk.specs.Lines.{number}
use Rattle.st_call.specs.Words.{command_of, Once, Import, Export, Clean, Condense}

once_of_four : command_of (codes "once" ∷ codes "B" ∷ codes "0000000004" ∷ []) ≡ Some (Once (codes "B") 4)
unfolding number
once_of_four = refl

-- a number has 10 digits at most
eleven_digits : command_of (codes "once" ∷ codes "B" ∷ codes "00000000004" ∷ []) ≡ None
unfolding number
eleven_digits = refl

behind_the_mark : command_of (codes "once" ∷ codes "--" ∷ codes "-B" ∷ codes "4" ∷ []) ≡ Some (Once (codes "-B") 4)
unfolding number
behind_the_mark = refl

-- options stand anywhere, each with its value behind it or in its word
with_options : command_of (codes "import" ∷ codes "--entries" ∷ codes "30" ∷ codes "B" ∷ codes "--globals=0" ∷ codes "S" ∷ [])
    ≡ Some (Import (codes "B") (codes "S") (record no_values { entries = Some 30; globals = Some 0 }))
unfolding number
with_options = refl

-- but none stands twice
twice : command_of (codes "import" ∷ codes "B" ∷ codes "S" ∷ codes "--words" ∷ codes "78" ∷ codes "--words=78" ∷ []) ≡ None
unfolding number
twice = refl

-- the mark is the option's value here, and no number
no_value : command_of (codes "import" ∷ codes "B" ∷ codes "S" ∷ codes "--words" ∷ codes "--" ∷ codes "5" ∷ []) ≡ None
unfolding number
no_value = refl

no_option_of_once : command_of (codes "once" ∷ codes "B" ∷ codes "1" ∷ codes "--words" ∷ codes "5" ∷ []) ≡ None
unfolding number
no_option_of_once = refl

-- a dash alone is an operand
a_dash : command_of (codes "export" ∷ codes "-" ∷ codes "I" ∷ []) ≡ Some (Export (codes "-") (codes "I"))
a_dash = refl

a_clean_image : command_of (codes "clean" ∷ codes "S" ∷ codes "I" ∷ []) ≡ Some (Clean (codes "S") (codes "I"))
a_clean_image = refl

no_option_of_clean : command_of (codes "clean" ∷ codes "S" ∷ codes "I" ∷ codes "--words=5" ∷ []) ≡ None
unfolding number
no_option_of_clean = refl

a_store_to_condense : command_of (codes "condense" ∷ codes "--" ∷ codes "-S" ∷ []) ≡ Some (Condense (codes "-S"))
a_store_to_condense = refl

an_empty_operand : command_of (codes "session" ∷ [] ∷ []) ≡ None
an_empty_operand = refl
