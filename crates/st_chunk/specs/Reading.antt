-- A script, read byte by byte. A line ends with a line feed, and a carriage return before it is dropped. A line that
-- begins with a mark opens a group of methods: an empty chunk, a header, methods, and an empty chunk that closes it, behind
-- which the line goes on. The byte behind a mark tells whether a chunk has ended, as in `Feeding` of st_chunk.
use Rattle.std.specs.Prelude.{ℕ, ◌+◌, ◌^◌, ◌-◌, ◌==◌, ◌&&◌, Bool, true, false, not, nat_le, min, List, [], ◌∷◌, ◌++◌, length, Option, Some, None, if◌then◌else◌}
use Rattle.st_chunk.specs.declared.cutting.Phase.TheVariants.{Within}
use Rattle.st_chunk.specs.declared.cutting.Fed.{Fed}
use Rattle.st_chunk.specs.declared.cutting.Fed.TheVariants as answers
use Rattle.st_chunk.specs.Texts.{mark, most, is_blank, is_empty}
use Rattle.st_chunk.specs.Feeding.{State, fed, finished, carried_from, answer, last_answer}
use Rattle.st_chunk.specs.Groups.{GroupHeader, header_of}
use Rattle.st_chunk.specs.declared.request.Request.{Request}
use Rattle.st_chunk.specs.declared.request.Request.TheVariants.{End, Define, Wrong}
use Rattle.st_chunk.specs.Asks.{Ask}
use Rattle.st_chunk.specs.Lines.{line_ask, line_request, without_return}

-- Where the next byte stands: in a line of which these bytes are read; behind a line that asks to look at this; behind
-- the mark that opens a group; in its header; in a method, or what closes the group; in the chunk behind a method, whose
-- end was told by its first byte; behind a method that ends with the script; in a chunk that has too many blanks and
-- nothing else, or behind a mark there; or behind the end, where nothing is read any more.
pub data Place : Type 0 where
  InLine : List ℕ → Place
  Browsed : Ask → Place
  Opened : Place
  InHeader : State → Place
  InMethods Defined CutOff : GroupHeader → State → Place
  InBlanks BehindBlanks Over : Place

-- How far a script is read. `line` is the number of the line that the next byte stands in, `start` that in which this
-- line or chunk starts.
pub record Reading : Type 0 where
  pub place : Place
  pub line : ℕ
  pub start : ℕ

-- before the first byte of a line
abbrev pub line_from : ℕ → Reading
line_from n = record { place = InLine []; line = n; start = n }

-- the line behind a byte, counted up to 2^64 - 1
abbrev pub line_behind : ℕ → ℕ → ℕ
line_behind b n = if b == 10 then min (n + 1) (2 ^ 64 - 1) else n

-- What follows answers how far the script is then read, and what is asked for. `r` has counted the byte's line; `here` is
-- the line in which the byte stands.
abbrev pub Told : Type 0
Told = Reading × Option Request

abbrev pub over : Reading → Reading
over r = record r { place = Over }

-- what begins in this line is wrong
abbrev pub wrong : Reading → ℕ → Told
wrong r n = (over r, Some (Wrong n))

-- LINES

-- nothing is read behind `end` or a wrong line
abbrev pub is_last : Option Request → Bool
is_last None = false
is_last (Some End) = true
is_last (Some (Wrong n)) = true
is_last (Some request) = false

-- where a line begins, behind one that asks to look at this, if it does
abbrev pub behind_line : Option Ask → Place
behind_line None = InLine []
behind_line (Some ask) = Browsed ask

abbrev pub line_asking : Reading → Option Request → Option Ask → Told
line_asking r request ask = if is_last request then (over r, request) else (record (line_from r.line) { place = behind_line ask }, request)

-- a line has ended that has these bytes
abbrev pub line_ended : Reading → List ℕ → Told
line_ended r text = line_asking r (line_request r.start text) (line_ask text)

-- A line has one byte more. It is kept where the line may still be short enough: the last one may be a carriage return.
abbrev pub line_byte : Reading → List ℕ → ℕ → Told
line_byte r text b =
    if b == 10 then line_ended r (without_return text) else
    if (b == mark) && (length text == 0) then (record r { place = Opened }, None) else
    if nat_le (length text) most then (record r { place = InLine (text ++ b ∷ []) }, None) else
    wrong r r.start

-- CHUNKS

-- a chunk of a group begins with this byte
abbrev pub begun : ℕ → State
begun b = record { bytes = b ∷ []; phase = Within }

-- the first chunk of a group is empty, so behind the mark that opens it comes no second mark
abbrev pub opened_byte : Reading → ℕ → ℕ → Told
opened_byte r here b =
    if b == mark then wrong r r.start else
    (record { place = InHeader (begun b); line = r.line; start = here }, None)

-- a chunk starts at its first byte that isn't blank, or, where it has none, at its first byte
abbrev pub start_with : Reading → ℕ → State → State → ℕ
start_with r here s t = if is_empty s.bytes && not (is_empty t.bytes) then here else r.start

-- a byte of a chunk that has too many blanks and nothing else
abbrev pub blanks_byte : Reading → ℕ → ℕ → Told
blanks_byte r here b =
    if is_blank b then (record r { place = InBlanks }, None) else
    if b == mark then (record r { place = BehindBlanks }, None) else
    wrong r here

-- A chunk has no room for this byte. Where all that it has are blanks, it starts here or later.
abbrev pub too_long : Reading → ℕ → State → ℕ → Told
too_long r here t b =
    if not (is_empty t.bytes) then wrong r r.start else
    if is_blank b then (record r { place = InBlanks }, None) else
    wrong r here

abbrev pub behind_blanks_byte : Reading → ℕ → ℕ → Told
behind_blanks_byte r here b = if b == mark then wrong r here else wrong r r.start

-- the header has ended, and this byte is the first behind its mark
abbrev pub header_ended : Reading → ℕ → ℕ → Option GroupHeader → Told
header_ended r here b None = wrong r r.start
header_ended r here b (Some h) = (record { place = InMethods h (begun b); line = r.line; start = here }, None)

abbrev pub header_told : Reading → ℕ → State → ℕ → State → Fed → Told
header_told r here s b t answers.More = (record { place = InHeader t; line = r.line; start = start_with r here s t }, None)
header_told r here s b t answers.Chunk = header_ended r here b (header_of t.bytes)
header_told r here s b t answers.Long = too_long r here t b

-- the header has one byte more
abbrev pub header_byte : Reading → ℕ → State → ℕ → Told
header_byte r here s b = header_told r here s b (fed s b) (answer (fed s b).phase)

-- a method has ended, or the empty chunk that closes the group, behind which a line begins
abbrev pub method_ended : Reading → ℕ → GroupHeader → ℕ → State → Told
method_ended r here h b t =
    if is_empty t.bytes then line_byte (record r { start = here }) [] b else
    (record { place = Defined h t; line = r.line; start = here }, Some Define)

abbrev pub method_told : Reading → ℕ → GroupHeader → State → ℕ → State → Fed → Told
method_told r here h s b t answers.More = (record { place = InMethods h t; line = r.line; start = start_with r here s t }, None)
method_told r here h s b t answers.Chunk = method_ended r here h b t
method_told r here h s b t answers.Long = too_long r here t b

-- a method has one byte more
abbrev pub method_byte : Reading → ℕ → GroupHeader → State → ℕ → Told
method_byte r here h s b = method_told r here h s b (fed s b) (answer (fed s b).phase)

-- ONE BYTE

abbrev pub byte_in : Place → Reading → ℕ → ℕ → Told
byte_in (InLine text) r here b = line_byte r text b
byte_in (Browsed ask) r here b = line_byte r [] b
byte_in Opened r here b = opened_byte r here b
byte_in (InHeader s) r here b = header_byte r here s b
byte_in (InMethods h s) r here b = method_byte r here h s b
byte_in (Defined h s) r here b = method_byte r here h (carried_from s.phase) b
byte_in (CutOff h s) r here b = (r, None)
byte_in InBlanks r here b = blanks_byte r here b
byte_in BehindBlanks r here b = behind_blanks_byte r here b
byte_in Over r here b = (r, None)

-- one byte more of the script, and what is then asked for
unfoldable pub read : Reading → ℕ → Told
read r b = byte_in r.place (record r { line = line_behind b r.line }) r.line b

-- THE END

abbrev pub cut_off : Reading → Told
cut_off r = wrong r r.start

-- a header that ends with the script: the chunk behind it is cut off, and starts at the end
abbrev pub last_header : Reading → Option GroupHeader → Told
last_header r None = wrong r r.start
last_header r (Some h) = wrong r r.line

abbrev pub header_at_end : Reading → State → Fed → Told
header_at_end r s answers.Chunk = last_header r (header_of s.bytes)
header_at_end r s other = cut_off r

-- a method that ends with the script is asked for before the chunk behind it is cut off
abbrev pub method_at_end : Reading → GroupHeader → State → Fed → Told
method_at_end r h s answers.Chunk =
    if is_empty s.bytes then (over r, None) else
    (record { place = CutOff h (finished s); line = r.line; start = r.line }, Some Define)
method_at_end r h s other = cut_off r

abbrev pub end_in : Place → Reading → Told
end_in (InLine text) r = line_ended r text
end_in (Browsed ask) r = line_ended r []
end_in Opened r = wrong r r.line
end_in (InHeader s) r = header_at_end r s (last_answer s.phase)
end_in (InMethods h s) r = method_at_end r h s (last_answer s.phase)
end_in (Defined h s) r = cut_off r
end_in (CutOff h s) r = cut_off r
end_in InBlanks r = cut_off r
end_in BehindBlanks r = cut_off r
end_in Over r = (r, None)

-- the end of the script, and what is then asked for; behind a method, the end comes once more
unfoldable pub end_read : Reading → Told
end_read r = end_in r.place r
