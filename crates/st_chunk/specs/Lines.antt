-- The lines of a script. Words in a line are separated by single spaces.
use Rattle.std.specs.Prelude.{ℕ, ◌≤◌, ◌+◌, ◌*◌, ◌-◌, ◌%◌, ◌==◌, ◌&&◌, Bool, not, nat_eq, nat_lt, nat_le, List, [], ◌∷◌, length, take, drop, codes, Option, Some, None, if◌then◌else◌}
use Rattle.std.specs.List.{prefix_len, ends_with}
use Rattle.std.specs.Option.{option_map, option_and_then, option_or, unwrap_or}
use Rattle.std.specs.Cmp.Lexicographic.{pointwise}
use Rattle.st_chunk.specs.Texts.{most, is_empty}
use Rattle.st_chunk.specs.Groups.{is_name}
use Rattle.st_chunk.specs.declared.request.Request.{Request}
use Rattle.st_chunk.specs.declared.request.Request.TheVariants.{Run, Trace, Input, Mouse, Clock, Tick, State, Used, Stack, Snapshot, Browse, End, Wrong}
use Rattle.st_chunk.specs.Asks.{Side, Ask, Object, Display, Classes, Methods, Source, Bytecodes, Senders, Until, instance_side, class_side}

-- NUMBERS

-- the number that n goes on to with these decimal digits
abbrev pub digits_after : ℕ → List ℕ → Option ℕ
digits_after n [] = Some n
digits_after n (b ∷ bs) = if nat_le 48 b && nat_le b 57 then digits_after (10 * n + (b - 48)) bs else None

abbrev pub at_most : ℕ → Option ℕ → Option ℕ
at_most limit None = None
at_most limit (Some n) = if nat_le n limit then Some n else None

-- a number has 1 to 10 decimal digits, and is at most its limit
unfoldable pub number : ℕ → List ℕ → Option ℕ
number limit word = if nat_le 1 (length word) && nat_le (length word) 10 then at_most limit (digits_after 0 word) else None

-- WORDS

-- the length of the first word
abbrev pub word_end : List ℕ → ℕ
word_end text = prefix_len (λ b. not (b == 32)) text

abbrev pub first_word : List ℕ → List ℕ
first_word text = take (word_end text) text

-- what stands behind the space behind it, if one is there
abbrev pub arguments : List ℕ → Option (List ℕ)
arguments text = if nat_lt (word_end text) (length text) then Some (drop (word_end text + 1) text) else None

abbrev pub is_word : List ℕ → List ℕ → Bool
is_word word text = pointwise nat_eq word text

-- WHAT A LINE ASKS TO LOOK AT

-- an object's pointer is even, and from 2 to 65534
abbrev pub if_pointer : ℕ → Option ℕ
if_pointer n = if nat_le 2 n && (n % 2 == 0) then Some n else None

abbrev pub pointer_in : List ℕ → Option ℕ
pointer_in text = option_and_then if_pointer (number 65534 text)

-- a selector is any word, and the whole of its text
abbrev pub selector_in : List ℕ → Option (List ℕ)
selector_in text = if not (length text == 0) && (word_end text == length text) then Some text else None

-- the first word, where it is a name
abbrev pub class_in : List ℕ → Option (List ℕ)
class_in text = if is_name (first_word text) then Some (first_word text) else None

-- behind a class's name: nothing, or `class`
abbrev pub side_behind : List ℕ → Option (List ℕ) → Option Side
side_behind class None = Some (instance_side class)
side_behind class (Some word) = if is_word word (codes "class") then Some (class_side class) else None

abbrev pub side_in : List ℕ → Option Side
side_in text = option_and_then (λ class. side_behind class (arguments text)) (class_in text)

-- behind a class's name: a selector, or `class` and a selector
abbrev pub method_behind : List ℕ → List ℕ → Option (List ℕ) → Option (Side × List ℕ)
method_behind class text None = option_map (λ selector. (instance_side class, selector)) (selector_in text)
method_behind class text (Some others) =
    if is_word (first_word text) (codes "class") then option_map (λ selector. (class_side class, selector)) (selector_in others) else None

abbrev pub method_in : List ℕ → Option (Side × List ℕ)
method_in text = option_and_then (λ class. option_and_then (λ others. method_behind class others (arguments others)) (arguments text)) (class_in text)

-- a number of cycles, and a method
abbrev pub until_in : List ℕ → Option Ask
until_in text =
    option_and_then (λ cycles. option_and_then (λ others. option_map (λ m. Until cycles m.0 m.1) (method_in others)) (arguments text)) (number 1000000000 (first_word text))

-- in a line of a word and its arguments
unfoldable pub ask_with : List ℕ → List ℕ → Option Ask
ask_with word text =
    if is_word word (codes "object") then option_map Object (pointer_in text) else
    if is_word word (codes "methods") then option_map Methods (side_in text) else
    if is_word word (codes "source") then option_map (λ m. Source m.0 m.1) (method_in text) else
    if is_word word (codes "bytecodes") then option_map (λ m. Bytecodes m.0 m.1) (method_in text) else
    if is_word word (codes "senders") then option_map Senders (selector_in text) else
    if is_word word (codes "until") then until_in text else
    None

-- in a line of a word alone
unfoldable pub ask_alone : List ℕ → Option Ask
ask_alone word =
    if is_word word (codes "display") then Some Display else
    if is_word word (codes "classes") then Some Classes else
    None

abbrev pub ask_by_words : List ℕ → Option (List ℕ) → Option Ask
ask_by_words word None = ask_alone word
ask_by_words word (Some text) = ask_with word text

unfoldable pub line_ask : List ℕ → Option Ask
line_ask text = ask_by_words (first_word text) (arguments text)

-- WHAT A LINE ASKS FOR

abbrev pub place_of : Option ℕ → Option ℕ → Option Request
place_of (Some x) (Some y) = Some (Mouse x y)
place_of _ _ = None

-- the mouse at X and Y
abbrev pub mouse_at : List ℕ → Option Request
mouse_at text = place_of (number 16383 (first_word text)) (option_and_then (number 16383) (arguments text))

-- a trace has a cycle or more
abbrev pub if_some : ℕ → Option ℕ
if_some n = if nat_le 1 n then Some n else None

abbrev pub traced_cycles : List ℕ → Option ℕ
traced_cycles text = option_and_then if_some (number 1000000 text)

-- a line of a word and its arguments
unfoldable pub with_arguments : List ℕ → List ℕ → Option Request
with_arguments word text =
    if is_word word (codes "run") then option_map Run (number 1000000000 text) else
    if is_word word (codes "trace") then option_map Trace (traced_cycles text) else
    if is_word word (codes "input") then option_map Input (number 65535 text) else
    if is_word word (codes "mouse") then mouse_at text else
    if is_word word (codes "clock") then option_map Clock (number 4294967295 text) else
    if is_word word (codes "tick") then option_map Tick (number 4294967295 text) else
    None

-- a line of a word alone
unfoldable pub alone : List ℕ → Option Request
alone word =
    if is_word word (codes "state") then Some State else
    if is_word word (codes "used") then Some Used else
    if is_word word (codes "stack") then Some Stack else
    if is_word word (codes "snapshot") then Some Snapshot else
    if is_word word (codes "end") then Some End else
    None

abbrev pub by_words : List ℕ → Option (List ℕ) → Option Request
by_words word None = alone word
by_words word (Some text) = with_arguments word text

-- what a line asks for that is in the grammar
abbrev pub in_grammar : List ℕ → Option Request
in_grammar text = option_or (by_words (first_word text) (arguments text)) (option_map (λ ask. Browse) (line_ask text))

-- What the line of this number asks for; nothing, where it is blank. One that isn't in the grammar, or has more bytes
-- than a line may have, is wrong.
unfoldable pub line_request : ℕ → List ℕ → Option Request
line_request n text =
    if nat_lt most (length text) then Some (Wrong n) else
    if is_empty text then None else
    Some (unwrap_or (in_grammar text) (Wrong n))

-- without the carriage return before a line's end
abbrev pub without_return : List ℕ → List ℕ
without_return text = if ends_with nat_eq text (13 ∷ []) then take (length text - 1) text else text

-- the mouse is at a place that it may have
abbrev pub IsInRange : Request → Type 0
IsInRange (Mouse x y) = (x ≤ 16383) × (y ≤ 16383)
IsInRange request = Unit {0}
