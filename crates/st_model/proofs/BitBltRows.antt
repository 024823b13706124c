-- Worked rows of 96, computed from the definitions: a BitBlt at place 31, its destination at 32 and that Form's words at 33, and from
-- 34 on other objects.
use Rattle.std.proofs.Common.{◌≡◌, ℕ, List, [], ◌∷◌, Some, None, Option, refl}
use Rattle.std.specs.Prelude.{◌++◌, replicate}
use Rattle.st_model.specs.Values.{Value, Small, Ref}
use Rattle.st_model.specs.Objects.{Object, nil}
use Rattle.st_model.specs.Machine.{Went}
use Rattle.st_model.specs.Outcomes as outcome
use Rattle.st_model.specs.Table.{table}
use Rattle.st_model.specs.Executing.{respond}
use Rattle.st_model.proofs.Opened.{opened}
use Rattle.st_model.proofs.StorageRows.{pointers, words, bytes, string, array, class, objects, state, trying, done, failed, Fails}

-- a BitBlt: source, halftone, rule, and the numbers of the two directions as the fields have them
unfoldable blt : Value → Value → ℕ → List Value → Option Object
unfolding pointers
blt source halftone rule numbers = pointers 6 (Ref 32 ∷ source ∷ halftone ∷ Small rule ∷ numbers)

-- a Form of these words, this width and height
unfoldable form : ℕ → ℕ → ℕ → Option Object
unfolding pointers
form bits width height = pointers 6 (Ref bits ∷ Small width ∷ Small height ∷ [])

-- the destination's column, the copy's width and height, the source's column, and the clip rectangle's left side and width; rows
-- begin at 0, and 20 of them are in the rectangle. A number below 0 has 32768 more.
unfoldable numbers : ℕ → ℕ → ℕ → ℕ → ℕ → ℕ → List Value
numbers to width height from clip clip_width = Small to ∷ Small 0 ∷ Small width ∷ Small height ∷ Small from ∷ Small 0 ∷ Small clip ∷ Small 0 ∷ Small clip_width ∷ Small 20 ∷ []

-- the words of a Form of width 20 and height 1, which were 8001 F000, after the copy; the BitBlt is the answer
abbrev Copies : Option Object → List ℕ → Type 0
Copies b after = trying 96 0 (Ref 31 ∷ []) (b ∷ form 33 20 1 ∷ words (32769 ∷ 61440 ∷ []) ∷ []) ≡ done (Ref 31 ∷ []) (b ∷ form 33 20 1 ∷ words after ∷ [])

-- onto itself from (0, 0) to (1, 0): rule 3 gives C000 F000, rule 6 C001 0000
to_the_right : Copies (blt (Ref 32) nil 3 (numbers 1 30 1 0 0 20)) (49152 ∷ 61440 ∷ []) × Copies (blt (Ref 32) nil 6 (numbers 1 30 1 0 0 20)) (49153 ∷ 0 ∷ [])
unfolding opened trying done state objects words pointers class blt form numbers
to_the_right = (refl, refl)

-- from (1, 0) to (0, 0): 0003 F000; without a source by rule 12: 0000 0000
to_the_left : Copies (blt (Ref 32) nil 3 (numbers 0 19 1 1 0 20)) (3 ∷ 61440 ∷ []) × Copies (blt nil nil 12 (numbers 0 20 1 0 0 20)) (0 ∷ 0 ∷ [])
unfolding opened trying done state objects words pointers class blt form numbers
to_the_left = (refl, refl)

-- of width or height 0 or less, and where the clip rectangle has no pixel of the Form, nothing is copied
nothing : Copies (blt (Ref 32) nil 3 (numbers 0 0 1 1 0 20)) (32769 ∷ 61440 ∷ [])
    × Copies (blt (Ref 32) nil 3 (numbers 0 19 0 1 0 20)) (32769 ∷ 61440 ∷ [])
    × Copies (blt (Ref 32) nil 3 (numbers 0 32767 1 1 0 20)) (32769 ∷ 61440 ∷ [])
    × Copies (blt (Ref 32) nil 3 (numbers 0 19 1 1 20 20)) (32769 ∷ 61440 ∷ [])
    × Copies (blt (Ref 32) nil 3 (numbers 0 19 1 1 0 32767)) (32769 ∷ 61440 ∷ [])
unfolding opened trying done state objects words pointers class blt form numbers
nothing = (refl, refl, refl, refl, refl)

-- from column -1 and to column -1, of which there is no pixel; within a clip rectangle of ten columns from -5 on; and from a column
-- below 0 where there is no source
below_zero : Copies (blt (Ref 32) nil 3 (numbers 0 30 1 32767 0 20)) (49152 ∷ 61440 ∷ [])
    × Copies (blt (Ref 32) nil 3 (numbers 32767 30 1 0 0 20)) (3 ∷ 61440 ∷ [])
    × Copies (blt nil nil 12 (numbers 0 20 1 0 32763 10)) (1 ∷ 61440 ∷ [])
    × Copies (blt nil nil 12 (numbers 0 20 1 16384 0 20)) (0 ∷ 0 ∷ [])
unfolding opened trying done state objects words pointers class blt form numbers
below_zero = (refl, refl, refl, refl)

-- A clip rectangle of columns 1 to 2; and all sixteen columns of the first word, beyond which everything stays.
clipped : Copies (blt nil nil 15 (numbers 0 20 1 0 1 2)) (57345 ∷ 61440 ∷ []) × Copies (blt nil nil 0 (numbers 0 20 1 0 0 16)) (0 ∷ 61440 ∷ [])
unfolding opened trying done state objects words pointers class blt form numbers
clipped = (refl, refl)

-- the sixteen rules, of the four pixels 1 1 0 0 of a source and 1 0 1 0 of the destination
abbrev Rules : ℕ → ℕ → Type 0
Rules rule after =
    trying 96 0 (Ref 31 ∷ []) (blt (Ref 34) nil rule (numbers 0 4 1 0 0 4) ∷ form 33 4 1 ∷ words (40960 ∷ []) ∷ form 35 4 1 ∷ words (49152 ∷ []) ∷ [])
    ≡ done (Ref 31 ∷ []) (blt (Ref 34) nil rule (numbers 0 4 1 0 0 4) ∷ form 33 4 1 ∷ words (after ∷ []) ∷ form 35 4 1 ∷ words (49152 ∷ []) ∷ [])

rules : Rules 0 0 × Rules 1 32768 × Rules 2 16384 × Rules 3 49152 × Rules 4 8192 × Rules 5 40960 × Rules 6 24576 × Rules 7 57344
    × Rules 8 4096 × Rules 9 36864 × Rules 10 20480 × Rules 11 53248 × Rules 12 12288 × Rules 13 45056 × Rules 14 28672 × Rules 15 61440
unfolding opened trying done state objects words pointers class blt form numbers
rules = (refl, refl, refl, refl, refl, refl, refl, refl, refl, refl, refl, refl, refl, refl, refl, refl)

-- where it fails, all of these stay
abbrev FailsOn : Option Object → List (Option Object) → Type 0
FailsOn b others = Fails 96 0 (Ref 31 ∷ []) (b ∷ others)

abbrev a_form : List (Option Object)
a_form = form 33 20 1 ∷ words (32769 ∷ 61440 ∷ []) ∷ []

-- rule 16; and a source or a halftone that is no Form, also where nothing would be copied
no_form : FailsOn (blt nil nil 16 (numbers 0 20 1 0 0 20)) a_form
    × FailsOn (blt (Small 5) nil 3 (numbers 0 0 1 0 0 20)) a_form
    × FailsOn (blt (Ref 33) nil 3 (numbers 0 20 1 0 0 20)) a_form
    × FailsOn (blt (Ref 34) nil 3 (numbers 0 0 1 0 0 20)) (a_form ++ array (Ref 33 ∷ Small 20 ∷ []) ∷ [])
    × FailsOn (blt nil (Ref 33) 3 (numbers 0 20 1 0 0 20)) a_form
    × FailsOn (blt nil (Ref 32) 3 (numbers 0 20 1 0 0 20)) a_form
unfolding opened trying failed state objects words array pointers class blt form numbers
no_form = (refl, refl, refl, refl, refl, refl)

-- bits that are too few by one word, that are bytes, or that are the BitBlt itself; and a width below 0
bad_bits : FailsOn (blt nil nil 12 (numbers 0 20 1 0 0 20)) (form 33 20 1 ∷ words (32769 ∷ []) ∷ [])
    × FailsOn (blt nil nil 12 (numbers 0 20 1 0 0 20)) (form 33 16 2 ∷ words (32769 ∷ []) ∷ [])
    × FailsOn (blt nil nil 12 (numbers 0 20 1 0 0 20)) (form 33 20 1 ∷ string (1 ∷ 2 ∷ 3 ∷ 4 ∷ []) ∷ [])
    × FailsOn (blt nil nil 12 (numbers 0 20 1 0 0 20)) (form 31 20 1 ∷ words (32769 ∷ 61440 ∷ []) ∷ [])
    × FailsOn (blt nil nil 12 (numbers 0 20 1 0 0 20)) (form 33 32767 1 ∷ words (32769 ∷ 61440 ∷ []) ∷ [])
unfolding opened trying failed state objects words string pointers class bytes blt form numbers
bad_bits = (refl, refl, refl, refl, refl)

-- a halftone of fifteen words; a number that is no SmallInteger; thirteen fields; no object; and no destination
bad_blt : FailsOn (blt nil (Ref 34) 3 (numbers 0 20 1 0 0 20)) (a_form ++ form 35 16 1 ∷ words (replicate 15 0) ∷ [])
    × FailsOn (blt nil nil 3 (nil ∷ Small 0 ∷ Small 1 ∷ Small 1 ∷ Small 0 ∷ Small 0 ∷ Small 0 ∷ Small 0 ∷ Small 1 ∷ Small 1 ∷ [])) a_form
    × FailsOn (blt nil nil 3 (Small 0 ∷ Small 0 ∷ Small 1 ∷ Small 1 ∷ Small 0 ∷ Small 0 ∷ Small 0 ∷ Small 0 ∷ Small 1 ∷ [])) a_form
    × Fails 96 0 (Small 31 ∷ []) (blt nil nil 3 (numbers 0 20 1 0 0 20) ∷ a_form)
    × FailsOn (blt nil nil 3 (numbers 0 20 1 0 0 20)) (None ∷ words (32769 ∷ 61440 ∷ []) ∷ [])
unfolding opened trying failed state objects words pointers class blt form numbers
bad_blt = (refl, refl, refl, refl, refl)

-- Forms without a row or without a column need no words, and nothing is copied; words behind the rows stay
empty_forms : (trying 96 0 (Ref 31 ∷ []) (blt nil nil 12 (numbers 0 20 1 0 0 20) ∷ form 33 20 0 ∷ words [] ∷ [])
    ≡ done (Ref 31 ∷ []) (blt nil nil 12 (numbers 0 20 1 0 0 20) ∷ form 33 20 0 ∷ words [] ∷ []))
    × (trying 96 0 (Ref 31 ∷ []) (blt nil nil 12 (numbers 0 20 1 0 0 20) ∷ form 33 0 9 ∷ words (7 ∷ []) ∷ [])
    ≡ done (Ref 31 ∷ []) (blt nil nil 12 (numbers 0 20 1 0 0 20) ∷ form 33 0 9 ∷ words (7 ∷ []) ∷ []))
    × (trying 96 0 (Ref 31 ∷ []) (blt nil nil 12 (numbers 0 20 9 0 0 20) ∷ form 33 16 1 ∷ words (7 ∷ 8 ∷ []) ∷ [])
    ≡ done (Ref 31 ∷ []) (blt nil nil 12 (numbers 0 20 9 0 0 20) ∷ form 33 16 1 ∷ words (0 ∷ 8 ∷ []) ∷ []))
unfolding opened trying done state objects words pointers class blt form numbers
empty_forms = (refl, refl, refl)

-- Two Forms that share their bits, one with two words in a row: the first words of its rows go to the rows of the other, and back.
shared_bits : (trying 96 0 (Ref 31 ∷ []) (blt (Ref 34) nil 3 (numbers 0 16 2 0 0 16) ∷ form 33 16 4 ∷ words (1 ∷ 2 ∷ 3 ∷ 4 ∷ []) ∷ form 33 32 2 ∷ [])
    ≡ done (Ref 31 ∷ []) (blt (Ref 34) nil 3 (numbers 0 16 2 0 0 16) ∷ form 33 16 4 ∷ words (1 ∷ 3 ∷ 3 ∷ 4 ∷ []) ∷ form 33 32 2 ∷ []))
    × (trying 96 0 (Ref 31 ∷ []) (blt (Ref 34) nil 3 (numbers 0 16 2 0 0 16) ∷ form 33 32 2 ∷ words (1 ∷ 2 ∷ 3 ∷ 4 ∷ []) ∷ form 33 16 4 ∷ [])
    ≡ done (Ref 31 ∷ []) (blt (Ref 34) nil 3 (numbers 0 16 2 0 0 16) ∷ form 33 32 2 ∷ words (1 ∷ 2 ∷ 2 ∷ 4 ∷ []) ∷ form 33 16 4 ∷ []))
unfolding opened trying done state objects words pointers class blt form numbers
shared_bits = (refl, refl)

-- A Form as its own halftone, by rule 12, which turns each pixel of the halftone: the seventeenth row is that of the first one's old word.
own_halftone : (trying 96 0 (Ref 31 ∷ []) (blt nil (Ref 32) 12 (numbers 0 16 17 0 0 16) ∷ form 33 16 17 ∷ words (1 ∷ replicate 15 3 ++ 7 ∷ []) ∷ [])
    ≡ done (Ref 31 ∷ []) (blt nil (Ref 32) 12 (numbers 0 16 17 0 0 16) ∷ form 33 16 17 ∷ words (65534 ∷ replicate 15 65532 ++ 65534 ∷ []) ∷ []))
unfolding opened trying done state objects words pointers class blt form numbers
own_halftone = refl

-- a halftone's column is that of the destination
by_halftone : trying 96 0 (Ref 31 ∷ []) (blt nil (Ref 34) 3 (numbers 1 19 1 0 0 20) ∷ form 33 20 1 ∷ words (0 ∷ 0 ∷ []) ∷ form 35 1 1 ∷ words (65534 ∷ replicate 15 0) ∷ [])
    ≡ done (Ref 31 ∷ []) (blt nil (Ref 34) 3 (numbers 1 19 1 0 0 20) ∷ form 33 20 1 ∷ words (32766 ∷ 61440 ∷ []) ∷ form 35 1 1 ∷ words (65534 ∷ replicate 15 0) ∷ [])
unfolding opened trying done state objects words pointers class blt form numbers
by_halftone = refl

-- called by its number; with an argument it fails, as 0 does
executed : ((respond table 96 0).run (state 1 (objects None (Ref 31 ∷ []) (blt nil nil 12 (numbers 0 20 1 0 0 20) ∷ a_form)))
    ≡ Went (Some outcome.Went) (state 1 (objects None (Ref 31 ∷ []) (blt nil nil 12 (numbers 0 20 1 0 0 20) ∷ form 33 20 1 ∷ words (0 ∷ 0 ∷ []) ∷ []))))
    × ((respond table 96 1).run (state 2 (objects None (Ref 31 ∷ nil ∷ []) (blt nil nil 12 (numbers 0 20 1 0 0 20) ∷ a_form)))
    ≡ (respond table 0 1).run (state 2 (objects None (Ref 31 ∷ nil ∷ []) (blt nil nil 12 (numbers 0 20 1 0 0 20) ∷ a_form))))
unfolding opened state objects words pointers class blt form numbers
executed = (refl, refl)
