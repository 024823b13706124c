-- BitBlt, which copies pixels from one Form to another (chapter 18): what a copy is, what the destination's words are after
-- it, and the primitive that does it.
use Rattle.std.specs.Prelude.{ℕ, ◌+◌, ◌-◌, ◌*◌, ◌/◌, ◌%◌, ◌&&◌, min, List, length, slice_index, Option, Some, None, Bool, true, false, nat_lt, nat_le, if◌then◌else◌, ℤ, pos, nat_abs, ◌+ℤ◌, ◌-ℤ◌, int_le, int_lt}
use Rattle.std.specs.Int.{bit_at}
use Rattle.std.specs.Option.{option_map}
use Rattle.st_model.specs.declared.dead.Dead.TheVariants as dead
use Rattle.st_model.specs.Lists.{made}
use Rattle.st_model.specs.Values.{Value}
use Rattle.st_model.specs.Objects.{NilObject, is_words}
use Rattle.st_model.specs.Machine.{ObjectMemory, Step, answer, ◌>>=◌, ◌>>◌}
use Rattle.st_model.specs.Steps.{of_page, object, same_value, check, fetch_field, fetch_integer, set_units}
use Rattle.st_model.specs.Primitives.{of_receiver, positive_small}
use Rattle.st_model.specs.Pixels.{pixel, combine, number_by, row_words, pixel_place}

-- A Form: rows of pixels from the top, each of whole words, as they are before the copy.
pub record Form : Type 0 where
  pub words : List ℕ
  pub width : ℕ
  pub height : ℕ

-- One of the two directions of a copy, across or down. Its lines are columns or rows.
pub record Axis : Type 0 where
  -- destX or destY: the line of the destination to which the first line is copied
  pub to : ℤ
  -- width or height: how many lines are copied
  pub count : ℤ
  -- sourceX or sourceY: the first line of the source that is copied
  pub from : ℤ
  -- clipX or clipY, and clipWidth or clipHeight: the lines outside of which nothing is copied
  pub clip : ℤ
  pub clip_count : ℤ

pub record Copy : Type 0 where
  pub destination : Form
  pub source : Option Form
  pub halftone : Option Form
  -- the combination rule, from 0 to 15
  pub rule : ℕ
  pub across : Axis
  pub down : Axis

-- one of so many lines, from the first on
abbrev pub is_among : ℤ → ℤ → ℤ → Bool
is_among first count line = int_le first line && int_lt line (first +ℤ count)

-- the line of the source that is copied to line d of the destination
abbrev pub line_from : Axis → ℕ → ℤ
line_from a d = a.from +ℤ (pos d -ℤ a.to)

-- the source has this line; nothing is asked where there is no source
abbrev pub has_line : Option ℕ → ℤ → Bool
has_line None line = true
has_line (Some lines) line = is_among (pos 0) (pos lines) line

-- A line is copied to line d: d is one of the lines of the copy, lies in the clip rectangle and in the destination, and the
-- source, if there is one, has the line that is copied to it.
unfoldable pub copies_to : Axis → ℕ → Option ℕ → ℕ → Bool
copies_to a lines source_lines d =
    nat_lt d lines && (is_among a.to a.count (pos d) && (is_among a.clip a.clip_count (pos d) && has_line source_lines (line_from a d)))

-- the pixel (x, y) of the destination is copied to
abbrev pub is_copied : Copy → ℕ → ℕ → Bool
is_copied c x y =
    copies_to c.across c.destination.width (option_map (λ f. f.width) c.source) x && copies_to c.down c.destination.height (option_map (λ f. f.height) c.source) y

-- a pixel of the source; without one all are 1
abbrev pub source_pixel : Option Form → ℤ → ℤ → ℕ
source_pixel None u v = 1
source_pixel (Some f) u v = pixel f.words (pixel_place (row_words f.width) (nat_abs u) (nat_abs v))

-- The pixel of the halftone that falls on (x, y): its sixteen words are repeated all over the destination, one for each row.
-- Without one all are 1.
abbrev pub halftone_pixel : Option Form → ℕ → ℕ → ℕ
halftone_pixel None x y = 1
halftone_pixel (Some f) x y = bit_at (slice_index f.words (y % 16)) (15 - x % 16)

-- what the pixel d at (x, y) becomes where it is copied to
abbrev pub formula : Copy → ℕ → ℕ → ℕ → ℕ
formula c x y d = combine c.rule (min (source_pixel c.source (line_from c.across x) (line_from c.down y)) (halftone_pixel c.halftone x y)) d

-- what it becomes: all other pixels stay
unfoldable pub pixel_after : Copy → ℕ → ℕ → ℕ → ℕ
pixel_after c x y d = if is_copied c x y then formula c x y d else d

-- how many pixels a row of the destination has, with those that fill its last word
abbrev pub row_pixels : Copy → ℕ
row_pixels c = 16 * row_words c.destination.width

-- what the pixel at place k of the destination becomes
abbrev pub painted_pixel : Copy → ℕ → ℕ
painted_pixel c k = pixel_after c (k % row_pixels c) (k / row_pixels c) (pixel c.destination.words k)

-- the destination's words after the copy
unfoldable pub painted : Copy → List ℕ
painted c = made (λ i. number_by 16 (λ b. painted_pixel c (16 * i + b))) (length c.destination.words)

-- a halftone has at least 16 words
abbrev pub has_sixteen : Option Form → Bool
has_sixteen None = true
has_sixteen (Some f) = nat_le 16 (length f.words)

module _ {H : Type 0} (m : ObjectMemory H) where
  -- What is read of a BitBlt and its Forms. Where anything is not as it should be, the step dies, and the primitive fails.

  -- the words of an object of kind Words
  unfoldable pub fetch_words : Value → Step H (List ℕ)
  fetch_words v = do
    o ← object m v
    check dead.Kind (is_words o.kind)
    answer o.units

  -- a field that holds a SmallInteger of at least 0
  unfoldable pub fetch_positive : Value → ℕ → Step H ℕ
  fetch_positive v i = fetch_field m v i >>= positive_small

  -- Field 0 of a Form is its bits, field 1 its width and field 2 its height. The bits are words, at least as many as the rows have.
  unfoldable pub read_form : Value → Step H Form
  read_form v = do
    bits ← fetch_field m v 0
    width ← fetch_positive v 1
    height ← fetch_positive v 2
    words ← fetch_words bits
    check dead.Field (nat_le (height * row_words width) (length words))
    answer (record { words = words; width = width; height = height })

  unfoldable pub read_unless : Value → Bool → Step H (Option Form)
  read_unless v true = answer None
  read_unless v false = do
    f ← read_form v
    answer (Some f)

  -- a Form, or none where it is nil
  unfoldable pub read_form_if_any : Value → Step H (Option Form)
  read_form_if_any v = do
    nil ← of_page m NilObject
    read_unless v (same_value v nil)

  -- the Form in field i of a BitBlt, or none
  unfoldable pub fetch_form : Value → ℕ → Step H (Option Form)
  fetch_form r i = fetch_field m r i >>= read_form_if_any

  unfoldable pub fetch_destination : Value → Step H Form
  fetch_destination r = fetch_field m r 0 >>= read_form

  unfoldable pub fetch_halftone : Value → Step H (Option Form)
  fetch_halftone r = do
    f ← fetch_form r 2
    check dead.Field (has_sixteen f)
    answer f

  unfoldable pub fetch_rule : Value → Step H ℕ
  fetch_rule r = do
    rule ← fetch_positive r 3
    check dead.Field (nat_lt rule 16)
    answer rule

  -- the numbers of one direction: i is 0 across and 1 down
  unfoldable pub fetch_axis : Value → ℕ → Step H Axis
  fetch_axis r i = do
    to ← fetch_integer m r (4 + i)
    count ← fetch_integer m r (6 + i)
    from ← fetch_integer m r (8 + i)
    clip ← fetch_integer m r (10 + i)
    clip_count ← fetch_integer m r (12 + i)
    answer (record { to = to; count = count; from = from; clip = clip; clip_count = clip_count })

  -- A BitBlt: field 0 is the destination, field 1 the source and field 2 the halftone, which may be nil, field 3 the rule, and
  -- fields 4 to 13 are the numbers of the two directions.
  unfoldable pub read_copy : Value → Step H Copy
  read_copy r = do
    destination ← fetch_destination r
    source ← fetch_form r 1
    halftone ← fetch_halftone r
    rule ← fetch_rule r
    across ← fetch_axis r 0
    down ← fetch_axis r 1
    answer (record { destination = destination; source = source; halftone = halftone; rule = rule; across = across; down = down })

  -- the destination's bits get the words that are painted
  unfoldable pub store_painted : Value → Copy → Step H Unit
  store_painted r c = do
    destination ← fetch_field m r 0
    bits ← fetch_field m destination 0
    set_units m bits (painted c)

  -- the pixels are copied that a BitBlt tells
  unfoldable pub copy_bits : Value → Step H Unit
  copy_bits r = read_copy r >>= store_painted r

  unfoldable pub paint_and_answer : Value → Copy → Step H Value
  paint_and_answer r c = store_painted r c >> answer r

  -- 96: the pixels are copied that the BitBlt r tells, and r is the answer
  unfoldable pub primitive_copy_bits : Step H Bool
  primitive_copy_bits = of_receiver m read_copy paint_and_answer
