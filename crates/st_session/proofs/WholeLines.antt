-- The texts that a session says are whole lines, and what they acknowledge.
use Rattle.std.proofs.Common.{◌≡◌, ℕ, zero, suc, ◌+◌, ◌*◌, ◌/◌, ◌%◌, Bool, true, false, List, [], ◌∷◌, ◌++◌, length, refl, sym, ap, ◌∙◌, arith, append_assoc}
use Rattle.std.specs.Prelude.{◌==◌, not, nat_lt, codes, Option, Some, None, if◌then◌else◌, ℤ, pos, negsuc, ◌+ℤ◌, ◌-◌}
use Rattle.std.specs.Fmt.{digit_glyph, digits_onto, digits, decimal, signed_decimal}
use Rattle.std.specs.List.{flat_map}
use Rattle.std.specs.Char.{is_ascii_alphanumeric}
use Rattle.std.proofs.lemmas.Bool.{and_parts, and_from}
use Rattle.std.proofs.lemmas.List.{append-nil}
use Rattle.std.proofs.lemmas.Bool.Decides.{nat_tests}
use Rattle.st_model.specs.declared.dead.Dead.{Dead}
use Rattle.st_model.specs.Deaths.{dead_number}
use Rattle.st_model.specs.Values.{Value, Small, Ref, integer}
use Rattle.st_model.specs.Objects.{Object, is_bytes}
use Rattle.st_model.specs.Machine.{State, Registers, Devices, World}
use Rattle.st_model.specs.Table.{Table}
use Rattle.st_model.specs.Births.{Births, object_born}
use Rattle.st_model.specs.Text.{value_text, values_text, numbers_text, registers_text, input_text, held_text, dead_text, hexadecimal, escaped_byte, escaped, said_text, said_value}
use Rattle.st_chunk.specs.Groups.{is_name, side_text}
use Rattle.st_chunk.specs.Definitions.{Definition}
use Rattle.st_protocol.specs.declared.refusal.Refusal.{Refusal}
use Rattle.st_protocol.specs.declared.refusal.Refusal.TheVariants as refusal
use Rattle.st_protocol.specs.Acknowledged.{counts, acknowledged_from, rest_from, IsLines}
use Rattle.st_protocol.proofs.Lawful.{lines_both}
use Rattle.st_install.proofs.Selectors.{IsInLine, both_in_line, all_passing}
use Rattle.st_recover.specs.Replays.{Loss}
use Rattle.st_call.specs.Replies.{machine_text, accepted_text, why_text, refused_text, snapshot_text}
use Rattle.st_session.specs.FirstLines.{lost_text, opened_text, opening_text}
use Rattle.st_chunk.proofs.WholeLines.{no_feed}

-- LINES

pub put : (b : ℕ) (w : List ℕ) → (b == 10) ≡ false → IsInLine w → IsInLine (b ∷ w)
put b w e h = and_from _ _ (ap not e) h

rest_of_line : (line w : List ℕ) → IsInLine w → rest_from line (w ++ 10 ∷ []) ≡ []
rest_of_line line [] h = refl
rest_of_line line (b ∷ w) h =
    let parts = and_parts _ _ h in
    ap (λ t. if t then rest_from [] (w ++ 10 ∷ []) else rest_from (line ++ b ∷ []) (w ++ 10 ∷ [])) (no_feed (b == 10) parts.0) ∙ rest_of_line (line ++ b ∷ []) w parts.1

acknowledged_line : (line w : List ℕ) → IsInLine w → acknowledged_from line (w ++ 10 ∷ []) ≡ counts (line ++ w)
acknowledged_line line [] h = (let e : counts line + 0 ≡ counts line = omega arith in e) ∙ ap counts (sym (append-nil line))
acknowledged_line line (b ∷ w) h =
    let parts = and_parts _ _ h in
    ap (λ t. if t then counts line + acknowledged_from [] (w ++ 10 ∷ []) else acknowledged_from (line ++ b ∷ []) (w ++ 10 ∷ [])) (no_feed (b == 10) parts.0)
    ∙ (acknowledged_line (line ++ b ∷ []) w parts.1 ∙ ap counts (append_assoc line (b ∷ []) w))

-- a text is one line, of these bytes and its end
pub record IsLine (text : List ℕ) : Type 0 where
  pub word : List ℕ
  pub inside : IsInLine word
  pub is : text ≡ word ++ 10 ∷ []

-- a line acknowledges what its beginning says
pub one_line : (n : ℕ) (text : List ℕ) (l : IsLine text) → counts l.word ≡ n → IsLines n text
one_line n text l e = record {
  whole = ap (rest_from []) l.is ∙ rest_of_line [] l.word l.inside;
  count = ap (acknowledged_from []) l.is ∙ (acknowledged_line [] l.word l.inside ∙ e);
}

pub no_text : IsLines 0 []
no_text = record { whole = refl; count = refl }

abbrev pub ends : IsLine (codes "\n")
ends = record { word = []; inside = refl; is = refl }

abbrev pub behind : (front text : List ℕ) → IsInLine front → IsLine text → IsLine (front ++ text)
behind front text h l = record {
  word = front ++ l.word;
  inside = both_in_line front l.word h l.inside;
  is = ap (λ t. front ++ t) l.is ∙ sym (append_assoc front l.word (10 ∷ []));
}

-- NUMBERS

glyph : (t : Bool) (d : ℕ) → ((if t then 48 + d else (87 + d)) == 10) ≡ false
glyph true d = grind (arith, nat_tests)
glyph false d = grind (arith, nat_tests)

digits_in_line : (k n : ℕ) (acc : List ℕ) → IsInLine acc → IsInLine (digits_onto k 10 false n acc)
digits_in_line zero n acc h = h
digits_in_line (suc k) n acc h =
    let more = digit_glyph false (n % 10) ∷ acc in
    let e : IsInLine more = put (digit_glyph false (n % 10)) acc (glyph (nat_lt (n % 10) 10) (n % 10)) h in
    over (n / 10 == 0) more e (digits_in_line k (n / 10) more e)
  where
    over : (t : Bool) (more : List ℕ) → IsInLine more → IsInLine (digits_onto k 10 false (n / 10) more) → IsInLine (if t then more else digits_onto k 10 false (n / 10) more)
    over true more e f = e
    over false more e f = f

pub decimal_in_line : (n : ℕ) → IsInLine (decimal n)
unfolding digits
decimal_in_line n = digits_in_line 64 n [] refl

pub signed_in_line : (n : ℤ) → IsInLine (signed_decimal n)
signed_in_line (pos n) = decimal_in_line n
signed_in_line (negsuc n) = decimal_in_line (suc n)

pub numbers_in_line : (ns : List ℕ) → IsInLine (numbers_text ns)
numbers_in_line [] = refl
numbers_in_line (n ∷ ns) = both_in_line (codes " " ++ decimal n) (numbers_text ns) (decimal_in_line n) (numbers_in_line ns)

pub value_in_line : (v : Value) → IsInLine (value_text v)
value_in_line (Small n) = signed_in_line (integer n)
value_in_line (Ref n) = decimal_in_line (2 * n)

pub values_in_line : (vs : List Value) → IsInLine (values_text vs)
values_in_line [] = refl
values_in_line (v ∷ vs) = both_in_line (codes " " ++ value_text v) (values_text vs) (value_in_line v) (values_in_line vs)

-- a word and numbers
abbrev pub numbers_line : (word : List ℕ) (ns : List ℕ) → IsInLine word → IsLine (word ++ (numbers_text ns ++ codes "\n"))
numbers_line word ns h = behind word (numbers_text ns ++ codes "\n") h (behind (numbers_text ns) (codes "\n") (numbers_in_line ns) ends)

pub numbers_lines : (k : ℕ) (word : List ℕ) (ns : List ℕ) → IsInLine word → counts (word ++ (numbers_text ns ++ [])) ≡ k → IsLines k (word ++ (numbers_text ns ++ codes "\n"))
numbers_lines k word ns h e = one_line k (word ++ (numbers_text ns ++ codes "\n")) (numbers_line word ns h) e

pub dead_lines : (n : ℕ) (cause : Dead) → IsLines 0 (dead_text n cause)
dead_lines n cause = numbers_lines 0 (codes "dead") (n ∷ dead_number cause ∷ []) refl refl

-- THE MACHINE

abbrev registers_line : (r : Registers) → IsLine (registers_text r)
registers_line r =
    let values = r.active ∷ r.home ∷ r.method ∷ r.receiver ∷ [] in
    let ip = codes " " ++ signed_decimal (r.ip +ℤ pos 1) in
    let sp = codes " " ++ decimal (r.sp - 5) in
    let last = sp ++ codes "\n" in
    behind (codes "registers") (values_text values ++ (ip ++ last)) refl (behind (values_text values) (ip ++ last) (values_in_line values)
    (behind ip last (signed_in_line (r.ip +ℤ pos 1)) (behind sp (codes "\n") (decimal_in_line (r.sp - 5)) ends)))

abbrev held_line : (d : Devices) → IsLine (held_text d)
held_line d =
    let values = d.display ∷ d.cursor ∷ d.input_semaphore ∷ d.timer ∷ d.low_space ∷ [] in
    behind (codes "held") (values_text values ++ codes "\n") refl (behind (values_text values) (codes "\n") (values_in_line values) ends)

input_lines : (w : World) → IsLines 0 (input_text w)
input_lines w = numbers_lines 0 (codes "input") (length w.waiting ∷ length w.devices.pending ∷ w.mouse_x ∷ w.mouse_y ∷ w.second_clock ∷ w.millisecond_clock ∷ []) refl refl

pub machine_lines : (s : State Table) → IsLines 0 (machine_text s)
machine_lines s =
    lines_both 0 0 (registers_text s.registers) (input_text s.world ++ held_text s.world.devices) (one_line 0 (registers_text s.registers) (registers_line s.registers) refl)
    (lines_both 0 0 (input_text s.world) (held_text s.world.devices) (input_lines s.world) (one_line 0 (held_text s.world.devices) (held_line s.world.devices) refl))

-- BYTES THAT ARE SAID

pub hexadecimal_in_line : (n : ℕ) → (hexadecimal n == 10) ≡ false
hexadecimal_in_line n = glyph (nat_lt n 10) n

escaped_pair : (b : ℕ) → IsInLine (92 ∷ hexadecimal (b / 16) ∷ hexadecimal (b % 16) ∷ [])
escaped_pair b = put (hexadecimal (b / 16)) (hexadecimal (b % 16) ∷ []) (hexadecimal_in_line (b / 16)) (put (hexadecimal (b % 16)) [] (hexadecimal_in_line (b % 16)) refl)

printed : (b : ℕ) → nat_lt b 32 ≡ false → (b == 10) ≡ false
printed b e = grind (arith, nat_tests, e)

escaped_byte_in_line : (b : ℕ) → IsInLine (escaped_byte b)
escaped_byte_in_line b = over (nat_lt b 32) (nat_lt 126 b) (b == 92) refl
  where
    pair : List ℕ
    pair = 92 ∷ hexadecimal (b / 16) ∷ hexadecimal (b % 16) ∷ []

    over : (t u v : Bool) → nat_lt b 32 ≡ t → IsInLine (if t then pair else (if u then pair else (if v then pair else b ∷ [])))
    over true u v e = escaped_pair b
    over false true v e = escaped_pair b
    over false false true e = escaped_pair b
    over false false false e = put b [] (printed b e) refl

pub escaped_in_line : (bs : List ℕ) → IsInLine (escaped bs)
escaped_in_line [] = refl
escaped_in_line (b ∷ bs) = both_in_line (escaped_byte b) (escaped bs) (escaped_byte_in_line b) (escaped_in_line bs)

said_if : (t : Bool) (units : List ℕ) → IsLines 0 (if t then codes "say " ++ (escaped units ++ codes "\n") else [])
said_if true units = one_line 0 (codes "say " ++ (escaped units ++ codes "\n")) (behind (codes "say ") (escaped units ++ codes "\n") refl (behind (escaped units) (codes "\n") (escaped_in_line units) ends)) refl
said_if false units = no_text

said_lines : (o : Option Object) → IsLines 0 (said_text o)
said_lines None = no_text
said_lines (Some o) = said_if (is_bytes o.kind) o.units

pub said_value_lines : (h : Births) (v : Value) → IsLines 0 (said_value h v)
said_value_lines h (Small n) = no_text
said_value_lines h (Ref n) = said_lines (object_born h n)

-- DEFINITIONS

class_in_line : (class : List ℕ) → is_name class ≡ true → IsInLine class
class_in_line class e = all_passing is_ascii_alphanumeric refl class (and_parts _ _ e).1

pub side_in_line : (meta : Bool) → IsInLine (side_text meta)
side_in_line true = refl
side_in_line false = refl

pub accepted_lines : (d : Definition) (selector : List ℕ) → is_name d.class ≡ true → IsInLine selector → IsLines 1 (accepted_text d selector)
accepted_lines d selector class h =
    let named = selector ++ codes "\n" in
    let sided = side_text d.meta ++ (codes " " ++ named) in
    one_line 1 (accepted_text d selector)
    (behind (codes "accepted ") (d.class ++ sided) refl (behind d.class sided (class_in_line d.class class)
    (behind (side_text d.meta) (codes " " ++ named) (side_in_line d.meta) (behind (codes " ") named refl (behind selector (codes "\n") h ends))))) refl

why_line : (why : Refusal) → IsLine (why_text why)
why_line (refusal.Syntax place cause) = numbers_line (codes "syntax") (place ∷ cause ∷ []) refl
why_line (refusal.Code place cause) = numbers_line (codes "code") (place ∷ cause ∷ []) refl
why_line refusal.NoClass = numbers_line (codes "install") (1 ∷ []) refl
why_line refusal.NoGlobals = numbers_line (codes "install") (2 ∷ []) refl
why_line (refusal.NoRoom demand) = numbers_line (codes "install") (3 ∷ demand.entries ∷ demand.words ∷ []) refl
why_line refusal.Shape = numbers_line (codes "install") (4 ∷ []) refl

pub refused_lines : (why : Refusal) → IsLines 0 (refused_text why)
refused_lines why = one_line 0 (refused_text why) (behind (codes "refused ") (why_text why) refl (why_line why)) refl

-- THE OPENING

abbrev lost_line : (loss : Loss) → IsLine (lost_text loss)
lost_line loss =
    let why = codes " " ++ why_text loss.why in
    let number = numbers_text (loss.number ∷ []) in
    behind (codes "lost") (number ++ why) refl (behind number why (numbers_in_line (loss.number ∷ [])) (behind (codes " ") (why_text loss.why) refl (why_line loss.why)))

all_lost_lines : (lost : List Loss) → IsLines 0 (flat_map lost_text lost)
all_lost_lines [] = no_text
all_lost_lines (loss ∷ lost) = lines_both 0 0 (lost_text loss) (flat_map lost_text lost) (one_line 0 (lost_text loss) (lost_line loss) refl) (all_lost_lines lost)

pub opening_lines : (replayed : ℕ) (lost : List Loss) → IsLines 0 (opening_text replayed lost)
opening_lines replayed lost =
    lines_both 0 0 (opened_text replayed (length lost)) (flat_map lost_text lost) (numbers_lines 0 (codes "opened") (replayed ∷ length lost ∷ []) refl refl) (all_lost_lines lost)

-- SNAPSHOTS

pub snapshot_lines : (length : ℕ) → IsLines 1 (snapshot_text length)
snapshot_lines length = numbers_lines 1 (codes "snapshot") (length ∷ []) refl refl
