-- What structs mean that were read of a BitBlt and its Forms.
use Rattle.std.specs.Prelude.{◌≡◌, ℕ, ◌*◌, ◌<◌, ◌≤◌, List, length, Bool, true, false, Ok, Option, Some, None, ⊤, ℤ, pos, ◌-ℤ◌, nat_le}
use Rattle.std.specs.Option.{option_map}
use Rattle.st_model.specs.declared.word.Word.{Word}
use Rattle.st_model.specs.Values.{Value, word}
use Rattle.st_model.specs.Objects.{is_words}
use Rattle.st_model.specs.Table.{Table}
use Rattle.st_model.specs.View.{is_live, object_of}
use Rattle.st_model.specs.Pixels.{row_words}
use Rattle.st_model.specs.declared.dead.Dead.TheVariants as dead
use Rattle.st_model.specs.Machine.{ObjectMemory, Transition, Died, Went, Step, answer, ◌>>=◌, ◌>>◌}
use Rattle.st_model.specs.Steps.{check, fetch_field}
use Rattle.st_model.specs.inside.Calls.{Reads}
use Rattle.st_model.specs.BitBlt.{Form, Axis, Copy, fetch_words}
use Rattle.st_bitblt.specs.declared.form.Form.{Form as FormRead}
use Rattle.st_bitblt.specs.declared.direction.Direction.{Direction}
use Rattle.st_bitblt.specs.declared.bit_blt.BitBlt.{BitBlt}

-- the words of an object of kind Words that has n of them or more
unfoldable pub checked_words : {H : Type 0} → ObjectMemory H → Value → ℕ → Step H (List ℕ)
checked_words m v n = do
  words ← fetch_words m v
  check dead.Field (nat_le n (length words))
  answer words

-- the words of an object
abbrev pub units_in : Table → Value → List ℕ
units_in t v = (object_of t v).units

-- an object of kind Words is there, and has n of them or more
pub record HasWordsIn (t : Table) (v : Value) (n : ℕ) : Type 0 where
  pub live : is_live t v ≡ true
  pub kind : is_words (object_of t v).kind ≡ true
  pub enough : n ≤ length (units_in t v)

abbrev pub form_in : Table → FormRead → Form
form_in t f = record { words = units_in t (word f.bits); width = f.width; height = f.height }

-- the integer to which 16384 was added
abbrev pub lowered : ℕ → ℤ
lowered n = pos n -ℤ pos 16384

abbrev pub axis_of : Direction → Axis
axis_of d = record { to = lowered d.to; count = lowered d.count; from = lowered d.from; clip = lowered d.clip; clip_count = lowered d.clip_count }

abbrev pub copy_in : Table → BitBlt → Copy
copy_in t b = record {
  destination = form_in t b.destination;
  source = option_map (form_in t) b.source;
  halftone = option_map (form_in t) b.halftone;
  rule = b.rule;
  across = axis_of b.across;
  down = axis_of b.down;
}

-- the object with the pixels is there, with enough words for the rows
pub record IsForm (t : Table) (f : FormRead) : Type 0 where
  pub bits : HasWordsIn t (word f.bits) (f.height * row_words f.width)
  pub width : f.width < 16384
  pub height : f.height < 16384

abbrev pub IsFormIfAny : Table → Option FormRead → Type 0
IsFormIfAny t None = ⊤
IsFormIfAny t (Some f) = IsForm t f

-- all numbers are those of SmallIntegers
pub record IsDirection (d : Direction) : Type 0 where
  pub to : d.to < 32768
  pub count : d.count < 32768
  pub from : d.from < 32768
  pub clip : d.clip < 32768
  pub clip_count : d.clip_count < 32768

abbrev pub HasSixteen : Table → Option FormRead → Type 0
HasSixteen t None = ⊤
HasSixteen t (Some f) = 16 ≤ length (units_in t (word f.bits))

pub record IsBitBlt (t : Table) (b : BitBlt) : Type 0 where
  pub destination : IsForm t b.destination
  pub source : IsFormIfAny t b.source
  pub halftone : IsFormIfAny t b.halftone
  pub sixteen : HasSixteen t b.halftone
  pub rule : b.rule < 16
  pub across : IsDirection b.across
  pub down : IsDirection b.down

-- a Form has its pixels in this object
abbrev pub HasPixels : ObjectMemory Table → Table → Value → Word → Type 0
HasPixels m t form o = Reads (fetch_field m form 0) word t (Ok o)

-- the destination of a BitBlt has its pixels in this object
pub record HasBits (m : ObjectMemory Table) (t : Table) (v : Value) (o : Word) : Type 0 where
  pub form : Word
  pub destination : Reads (fetch_field m v 0) word t (Ok form)
  pub bits : HasPixels m t (word form) o

-- a step came to its end
abbrev pub has_gone : {S A : Type 0} → Transition S A → Bool
has_gone (Died cause) = false
has_gone (Went a s) = true
