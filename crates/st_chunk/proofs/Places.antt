-- In a script that is read, headers and methods stay as `IsDefinition` asks, only a definition is asked for as one, and only
-- a line that asks to look at something is asked for as that.
use Rattle.std.proofs.Common.{◌≡◌, ℕ, ◌≤◌, Bool, true, false, List, [], ◌∷◌, ◌++◌, length, refl, ap, subst, arith}
use Rattle.std.proofs.lemmas.Bool.Decides.{nat_tests}
use Rattle.std.specs.Prelude.{IfSome, ◌==◌, ◌&&◌, not, nat_le, nat_lt, if◌then◌else◌, Option, Some, None, codes}
use Rattle.std.specs.Option.{option_map, option_and_then, option_or, is_some, unwrap_or}
use Rattle.st_chunk.specs.declared.cutting.Phase.{Phase}
use Rattle.st_chunk.specs.declared.cutting.Phase.TheVariants as phases
use Rattle.st_chunk.specs.declared.cutting.Fed.{Fed}
use Rattle.st_chunk.specs.declared.cutting.Fed.TheVariants as answers
use Rattle.st_chunk.specs.Texts.{mark, most, is_blank, is_empty}
use Rattle.st_chunk.specs.Feeding.{State, fed, finished, carried_from, answer, last_answer}
use Rattle.st_chunk.specs.Groups.{GroupHeader, header_of}
use Rattle.st_chunk.specs.declared.request.Request.{Request}
use Rattle.st_chunk.specs.declared.request.Request.TheVariants.{Run, Trace, Input, Mouse, Clock, Tick, State as ShowState, Used, Stack, Snapshot, Browse, End, Define, Wrong}
use Rattle.st_chunk.specs.Asks.{Ask}
use Rattle.st_chunk.specs.Lines.{IsInRange, digits_after, at_most, number, is_word, place_of, mouse_at, traced_cycles, with_arguments, alone, by_words, first_word, arguments, line_ask, line_request, without_return}
use Rattle.st_chunk.specs.Reading.{Place, InLine, Browsed, Opened, InHeader, InMethods, Defined, CutOff, InBlanks, BehindBlanks, Over, Reading, Told, line_behind, line_from, over, wrong, behind_line, line_asking, line_ended, line_byte, begun, opened_byte, start_with, too_long, blanks_byte, behind_blanks_byte, header_ended, header_told, method_ended, method_told, byte_in, read, header_at_end, last_header, method_at_end, end_in, end_read}
use Rattle.st_chunk.specs.Scripts.{IsBrowsed, IsDefined, IsHeading, IsSound}
use Rattle.st_chunk.proofs.FedBytes.{short_fed}
use Rattle.st_chunk.proofs.Sound.{heading_sound, method_sound}
use Rattle.st_chunk.proofs.Cases.{by_test}

-- LINES ASK FOR NO DEFINITION, AND FOR A LOOK ONLY WHERE THEY SAY AT WHAT; THE MOUSE IS WHERE IT MAY BE

abbrev pub is_define : Option Request → Bool
is_define None = false
is_define (Some Define) = true
is_define (Some request) = false

abbrev pub is_browse : Option Request → Bool
is_browse None = false
is_browse (Some Browse) = true
is_browse (Some request) = false

never : {P : Type 0} → false ≡ true → P
never e = cc

-- a line that asks for no look
abbrev is_line : Option Request → Bool
is_line None = true
is_line (Some Define) = false
is_line (Some Browse) = false
is_line (Some (Mouse x y)) = nat_le x 16383 && nat_le y 16383
is_line (Some request) = true

no_define : (o : Option Request) → is_line o ≡ true → is_define o ≡ true → ⊥
no_define None e d = cc
no_define (Some Define) e d = cc
no_define (Some request) e d = cc

no_browse : (o : Option Request) → is_line o ≡ true → is_browse o ≡ true → ⊥
no_browse None e d = cc
no_browse (Some Browse) e d = cc
no_browse (Some request) e d = cc

in_range : (o : Option Request) → is_line o ≡ true → IfSome o IsInRange
in_range None e = tt
in_range (Some Define) e = tt
in_range (Some Browse) e = tt
in_range (Some (Mouse x y)) e = grind (arith, nat_tests)
in_range (Some request) e = tt

if_line : (t : Bool) (a b : Option Request) → is_line a ≡ true → is_line b ≡ true → is_line (if t then a else b) ≡ true
if_line true a b p q = p
if_line false a b p q = q

runs : (o : Option ℕ) → is_line (option_map Run o) ≡ true
runs None = refl
runs (Some n) = refl

traces : (o : Option ℕ) → is_line (option_map Trace o) ≡ true
traces None = refl
traces (Some n) = refl

inputs : (o : Option ℕ) → is_line (option_map Input o) ≡ true
inputs None = refl
inputs (Some n) = refl

clocks : (o : Option ℕ) → is_line (option_map Clock o) ≡ true
clocks None = refl
clocks (Some n) = refl

ticks : (o : Option ℕ) → is_line (option_map Tick o) ≡ true
ticks None = refl
ticks (Some n) = refl

-- a number that is told is at most its limit
within : (limit : ℕ) (o : Option ℕ) → IfSome (at_most limit o) (λ n. n ≤ limit)
within limit None = tt
within limit (Some n) = by_test (nat_le n limit) (λ e. rw e (grind (arith, nat_tests))) (λ e. rw e tt)

number_within : (limit : ℕ) (text : List ℕ) → IfSome (number limit text) (λ n. n ≤ limit)
unfolding number
number_within limit text = by_test (nat_le 1 (length text) && nat_le (length text) 10) (λ e. rw e (within limit (digits_after 0 text))) (λ e. rw e tt)

argument_within : (limit : ℕ) (o : Option (List ℕ)) → IfSome (option_and_then (number limit) o) (λ n. n ≤ limit)
argument_within limit None = tt
argument_within limit (Some text) = number_within limit text

mouses : (x y : Option ℕ) → IfSome x (λ n. n ≤ 16383) → IfSome y (λ n. n ≤ 16383) → is_line (place_of x y) ≡ true
mouses None y p q = refl
mouses (Some x) None p q = refl
mouses (Some x) (Some y) p q = grind (arith, nat_tests)

numbers : (word text : List ℕ) → is_line (with_arguments word text) ≡ true
unfolding with_arguments
numbers word text =
    if_line (is_word word (codes "run")) (option_map Run (number 1000000000 text)) _ (runs (number 1000000000 text))
    (if_line (is_word word (codes "trace")) (option_map Trace (traced_cycles text)) _ (traces (traced_cycles text))
    (if_line (is_word word (codes "input")) (option_map Input (number 65535 text)) _ (inputs (number 65535 text))
    (if_line (is_word word (codes "mouse")) (mouse_at text) _ (mouses (number 16383 (first_word text)) (option_and_then (number 16383) (arguments text)) (number_within 16383 (first_word text)) (argument_within 16383 (arguments text)))
    (if_line (is_word word (codes "clock")) (option_map Clock (number 4294967295 text)) _ (clocks (number 4294967295 text))
    (if_line (is_word word (codes "tick")) (option_map Tick (number 4294967295 text)) None (ticks (number 4294967295 text)) refl)))))

words : (word : List ℕ) → is_line (alone word) ≡ true
unfolding alone
words word =
    if_line (is_word word (codes "state")) (Some ShowState) _ refl
    (if_line (is_word word (codes "used")) (Some Used) _ refl
    (if_line (is_word word (codes "stack")) (Some Stack) _ refl
    (if_line (is_word word (codes "snapshot")) (Some Snapshot) _ refl
    (if_line (is_word word (codes "end")) (Some End) None refl refl))))

by_both : (word : List ℕ) (o : Option (List ℕ)) → is_line (by_words word o) ≡ true
by_both word None = words word
by_both word (Some text) = numbers word text

-- a line that asks for a look, where it is told at what
abbrev is_told : Bool → Option Request → Bool
is_told asks (Some Browse) = asks
is_told asks request = is_line request

told : (asks : Bool) (o : Option Request) → is_line o ≡ true → is_told asks o ≡ true
told asks None e = refl
told asks (Some Browse) e = never e
told asks (Some request) e = e

if_told : (asks t : Bool) (a b : Option Request) → is_told asks a ≡ true → is_told asks b ≡ true → is_told asks (if t then a else b) ≡ true
if_told asks true a b p q = p
if_told asks false a b p q = q

or_asked : (o : Option Request) (ask : Option Ask) (n : ℕ) → is_line o ≡ true → is_told (is_some ask) (Some (unwrap_or (option_or o (option_map (λ a. Browse) ask)) (Wrong n))) ≡ true
or_asked None None n e = refl
or_asked None (Some ask) n e = refl
or_asked (Some request) ask n e = told (is_some ask) (Some request) e

lines : (n : ℕ) (text : List ℕ) → is_told (is_some (line_ask text)) (line_request n text) ≡ true
unfolding line_request
lines n text =
    let asks = is_some (line_ask text) in
    if_told asks (nat_lt most (length text)) (Some (Wrong n)) _ refl
    (if_told asks (is_empty text) None _ refl
    (or_asked (by_words (first_word text) (arguments text)) (line_ask text) n (by_both (first_word text) (arguments text))))

-- EACH BYTE

-- the place is sound, behind what is asked for to be looked at or accepted it stands, and the mouse is where it may be
pub record IsRight (t : Told) : Type 0 where
  pub sound : IsSound t.0.place
  pub browsed : is_browse t.1 ≡ true → IsBrowsed t.0.place
  pub defined : is_define t.1 ≡ true → IsDefined t.0.place
  pub range : IfSome t.1 IsInRange

if_right : (t : Bool) (a b : Told) → IsRight a → IsRight b → IsRight (if t then a else b)
if_right true a b p q = p
if_right false a b p q = q

silent : (r : Reading) (request : Option Request) → IsSound r.place → is_line request ≡ true → IsRight (r, request)
silent r request sound e = record { sound = sound; browsed = λ b. absurd (no_browse request e b); defined = λ d. absurd (no_define request e d); range = in_range request e }

stopped : (r : Reading) (n : ℕ) → IsRight (wrong r n)
stopped r n = silent (over r) (Some (Wrong n)) tt refl

moved : (place : Place) (n m : ℕ) → IsSound place → IsRight (record { place = place; line = n; start = m }, None)
moved place n m sound = silent (record { place = place; line = n; start = m }) None sound refl

sound_behind : (ask : Option Ask) → IsSound (behind_line ask)
sound_behind None = tt
sound_behind (Some ask) = tt

asking_right : (r : Reading) (request : Option Request) (ask : Option Ask) → is_told (is_some ask) request ≡ true → IsRight (line_asking r request ask)
asking_right r None ask e = silent (record (line_from r.line) { place = behind_line ask }) None (sound_behind ask) refl
asking_right r (Some Browse) None e = never e
asking_right r (Some Browse) (Some ask) e = record { sound = tt; browsed = λ b. tt; defined = never; range = tt }
asking_right r (Some End) ask e = silent (over r) (Some End) tt refl
asking_right r (Some (Wrong n)) ask e = stopped r n
asking_right r (Some request) ask e = silent (record (line_from r.line) { place = behind_line ask }) (Some request) (sound_behind ask) e

ended_right : (r : Reading) (text : List ℕ) → IsRight (line_ended r text)
ended_right r text = asking_right r (line_request r.start text) (line_ask text) (lines r.start text)

line_right : (r : Reading) (text : List ℕ) (b : ℕ) → IsRight (line_byte r text b)
line_right r text b =
    if_right (b == 10) (line_ended r (without_return text)) _ (ended_right r (without_return text))
    (if_right ((b == mark) && (length text == 0)) (record r { place = Opened }, None) _ (moved Opened r.line r.start tt)
    (if_right (nat_le (length text) most) (record r { place = InLine (text ++ b ∷ []) }, None) (wrong r r.start) (moved (InLine (text ++ b ∷ [])) r.line r.start tt) (stopped r r.start)))

begun_short : (b : ℕ) → length (begun b).bytes ≤ most
begun_short b = omega arith

opened_right : (r : Reading) (here b : ℕ) → IsRight (opened_byte r here b)
opened_right r here b = if_right (b == mark) (wrong r r.start) (record { place = InHeader (begun b); line = r.line; start = here }, None) (stopped r r.start) (moved (InHeader (begun b)) r.line here (begun_short b))

too_long_right : (r : Reading) (here : ℕ) (t : State) (b : ℕ) → IsRight (too_long r here t b)
too_long_right r here t b =
    if_right (not (is_empty t.bytes)) (wrong r r.start) _ (stopped r r.start)
    (if_right (is_blank b) (record r { place = InBlanks }, None) (wrong r here) (moved InBlanks r.line r.start tt) (stopped r here))

blanks_right : (r : Reading) (here b : ℕ) → IsRight (blanks_byte r here b)
blanks_right r here b =
    if_right (is_blank b) (record r { place = InBlanks }, None) _ (moved InBlanks r.line r.start tt)
    (if_right (b == mark) (record r { place = BehindBlanks }, None) (wrong r here) (moved BehindBlanks r.line r.start tt) (stopped r here))

behind_blanks_right : (r : Reading) (here b : ℕ) → IsRight (behind_blanks_byte r here b)
behind_blanks_right r here b = if_right (b == mark) (wrong r here) (wrong r r.start) (stopped r here) (stopped r r.start)

header_ended_right : (r : Reading) (here b : ℕ) (t : State) (o : Option GroupHeader) → length t.bytes ≤ most → header_of t.bytes ≡ o → IsRight (header_ended r here b o)
header_ended_right r here b t None short e = stopped r r.start
header_ended_right r here b t (Some h) short e = moved (InMethods h (begun b)) r.line here (heading_sound t.bytes h short e, begun_short b)

header_right : (r : Reading) (here : ℕ) (s : State) (b : ℕ) (t : State) (f : Fed) → length t.bytes ≤ most → IsRight (header_told r here s b t f)
header_right r here s b t answers.More short = moved (InHeader t) r.line (start_with r here s t) short
header_right r here s b t answers.Chunk short = header_ended_right r here b t (header_of t.bytes) short refl
header_right r here s b t answers.Long short = too_long_right r here t b

method_ended_right : (r : Reading) (here : ℕ) (h : GroupHeader) (b : ℕ) (t : State) → IsHeading h → length t.bytes ≤ most → IsRight (method_ended r here h b t)
method_ended_right r here h b t heading short = by_test (is_empty t.bytes)
    (λ e. rw e (line_right (record r { start = here }) [] b))
    (λ e. rw e (record { sound = (heading, method_sound h t heading short e); browsed = never; defined = λ d. tt; range = tt }))

method_right : (r : Reading) (here : ℕ) (h : GroupHeader) (s : State) (b : ℕ) (t : State) (f : Fed) → IsHeading h → length t.bytes ≤ most → IsRight (method_told r here h s b t f)
method_right r here h s b t answers.More heading short = moved (InMethods h t) r.line (start_with r here s t) (heading, short)
method_right r here h s b t answers.Chunk heading short = method_ended_right r here h b t heading short
method_right r here h s b t answers.Long heading short = too_long_right r here t b

carried_short : (p : Phase) → length (carried_from p).bytes ≤ most
carried_short (phases.Told b) = omega arith
carried_short phases.Within = omega arith
carried_short phases.Marked = omega arith
carried_short phases.Long = omega arith
carried_short phases.Ended = omega arith

byte_right : (p : Place) (r : Reading) (here b : ℕ) → IsSound p → IsSound r.place → IsRight (byte_in p r here b)
byte_right (InLine text) r here b sound same = line_right r text b
byte_right (Browsed ask) r here b sound same = line_right r [] b
byte_right Opened r here b sound same = opened_right r here b
byte_right (InHeader s) r here b sound same = header_right r here s b (fed s b) (answer (fed s b).phase) (short_fed s b sound)
byte_right (InMethods h s) r here b sound same = method_right r here h s b (fed s b) (answer (fed s b).phase) sound.0 (short_fed s b sound.1)
byte_right (Defined h s) r here b sound same =
    let t = carried_from s.phase in
    method_right r here h t b (fed t b) (answer (fed t b).phase) sound.0 (short_fed t b (carried_short s.phase))
byte_right (CutOff h s) r here b sound same = silent r None same refl
byte_right InBlanks r here b sound same = blanks_right r here b
byte_right BehindBlanks r here b sound same = behind_blanks_right r here b
byte_right Over r here b sound same = silent r None same refl

pub read_right : (r : Reading) (b : ℕ) → IsSound r.place → IsRight (read r b)
unfolding read
read_right r b sound = byte_right r.place (record r { line = line_behind b r.line }) r.line b sound sound

-- THE END

last_right : (r : Reading) (o : Option GroupHeader) → IsRight (last_header r o)
last_right r None = stopped r r.start
last_right r (Some h) = stopped r r.line

header_end_right : (r : Reading) (s : State) (f : Fed) → IsRight (header_at_end r s f)
header_end_right r s answers.Chunk = last_right r (header_of s.bytes)
header_end_right r s answers.More = stopped r r.start
header_end_right r s answers.Long = stopped r r.start

method_end_right : (r : Reading) (h : GroupHeader) (s : State) (f : Fed) → IsHeading h → length s.bytes ≤ most → IsRight (method_at_end r h s f)
method_end_right r h s answers.Chunk heading short = by_test (is_empty s.bytes)
    (λ e. rw e (silent (over r) None tt refl))
    (λ e. rw e (record { sound = (heading, method_sound h (finished s) heading short e); browsed = never; defined = λ d. tt; range = tt }))
method_end_right r h s answers.More heading short = stopped r r.start
method_end_right r h s answers.Long heading short = stopped r r.start

end_in_right : (p : Place) (r : Reading) → IsSound p → IsSound r.place → IsRight (end_in p r)
end_in_right (InLine text) r sound same = ended_right r text
end_in_right (Browsed ask) r sound same = ended_right r []
end_in_right Opened r sound same = stopped r r.line
end_in_right (InHeader s) r sound same = header_end_right r s (last_answer s.phase)
end_in_right (InMethods h s) r sound same = method_end_right r h s (last_answer s.phase) sound.0 sound.1
end_in_right (Defined h s) r sound same = stopped r r.start
end_in_right (CutOff h s) r sound same = stopped r r.start
end_in_right InBlanks r sound same = stopped r r.start
end_in_right BehindBlanks r sound same = stopped r r.start
end_in_right Over r sound same = silent r None same refl

pub end_right : (r : Reading) → IsSound r.place → IsRight (end_read r)
unfolding end_read
end_right r sound = end_in_right r.place r sound sound

-- AS CALLS TELL IT

pub sound_read : (r : Reading) (b : ℕ) (s : Reading) (request : Option Request) → IsSound r.place → read r b ≡ (s, request) → IsSound s.place
sound_read r b s request sound e = subst (λ (t : Told). IsSound t.0.place) e (read_right r b sound).sound

pub defined_read : (r : Reading) (b : ℕ) (s : Reading) (request : Option Request) → IsSound r.place → read r b ≡ (s, request) → request ≡ Some Define → IsDefined s.place
defined_read r b s request sound e d = subst (λ (t : Told). is_define t.1 ≡ true → IsDefined t.0.place) e (read_right r b sound).defined (ap is_define d)

pub browsed_read : (r : Reading) (b : ℕ) (s : Reading) (request : Option Request) → IsSound r.place → read r b ≡ (s, request) → request ≡ Some Browse → IsBrowsed s.place
browsed_read r b s request sound e d = subst (λ (t : Told). is_browse t.1 ≡ true → IsBrowsed t.0.place) e (read_right r b sound).browsed (ap is_browse d)

pub range_read : (r : Reading) (b : ℕ) (s : Reading) (request : Option Request) → IsSound r.place → read r b ≡ (s, request) → IfSome request IsInRange
range_read r b s request sound e = subst (λ (t : Told). IfSome t.1 IsInRange) e (read_right r b sound).range

pub range_end : (r : Reading) (s : Reading) (request : Option Request) → IsSound r.place → end_read r ≡ (s, request) → IfSome request IsInRange
range_end r s request sound e = subst (λ (t : Told). IfSome t.1 IsInRange) e (end_right r sound).range

pub sound_end : (r : Reading) (s : Reading) (request : Option Request) → IsSound r.place → end_read r ≡ (s, request) → IsSound s.place
sound_end r s request sound e = subst (λ (t : Told). IsSound t.0.place) e (end_right r sound).sound

pub defined_end : (r : Reading) (s : Reading) (request : Option Request) → IsSound r.place → end_read r ≡ (s, request) → request ≡ Some Define → IsDefined s.place
defined_end r s request sound e d = subst (λ (t : Told). is_define t.1 ≡ true → IsDefined t.0.place) e (end_right r sound).defined (ap is_define d)

pub browsed_end : (r : Reading) (s : Reading) (request : Option Request) → IsSound r.place → end_read r ≡ (s, request) → request ≡ Some Browse → IsBrowsed s.place
browsed_end r s request sound e d = subst (λ (t : Told). is_browse t.1 ≡ true → IsBrowsed t.0.place) e (end_right r sound).browsed (ap is_browse d)
