-- Worked rows: what scripts ask for.
use Rattle.std.proofs.Common.{◌≡◌, ℕ, false, List, [], ◌∷◌, refl}
use Rattle.std.specs.Prelude.{codes, Option, Some, None}
use Rattle.st_chunk.specs.declared.request.Request.{Request}
use Rattle.st_chunk.specs.declared.request.Request.TheVariants.{Run, Trace, Input, Mouse, Clock, Tick, State, Used, Stack, Snapshot, Browse, End, Wrong}
use Rattle.st_chunk.specs.Asks.{Object, Display, Classes, Methods, Source, Bytecodes, Senders, Until, instance_side, class_side}
use Rattle.st_chunk.specs.Lines.{number, with_arguments, alone, ask_with, ask_alone, line_ask, line_request}
use Rattle.st_chunk.specs.Reading.{read, end_read}
use Rattle.st_chunk.specs.Scripts.{Asked, Asks, Browses, Defines, asked}

-- LINES

abbrev line : List ℕ → Option Request
line text = line_request 4 text

abbrev wrong : Option Request
wrong = Some (Wrong 4)

run : line (codes "run 1000000000") ≡ Some (Run 1000000000)
unfolding line_request with_arguments number
run = refl

run_too_far : line (codes "run 1000000001") ≡ wrong
unfolding line_request line_ask with_arguments ask_with number
run_too_far = refl

leading_zeros : line (codes "run 0000000005") ≡ Some (Run 5)
unfolding line_request with_arguments number
leading_zeros = refl

eleven_digits : line (codes "run 00000000005") ≡ wrong
unfolding line_request line_ask with_arguments ask_with number
eleven_digits = refl

trace : line (codes "trace 1000000") ≡ Some (Trace 1000000)
unfolding line_request with_arguments number
trace = refl

trace_nothing : line (codes "trace 0") ≡ wrong
unfolding line_request line_ask with_arguments ask_with number
trace_nothing = refl

trace_too_far : line (codes "trace 1000001") ≡ wrong
unfolding line_request line_ask with_arguments ask_with number
trace_too_far = refl

trace_of_eleven_digits : line (codes "trace 00000000003") ≡ wrong
unfolding line_request line_ask with_arguments ask_with number
trace_of_eleven_digits = refl

stack : line (codes "stack") ≡ Some Stack
unfolding line_request alone
stack = refl

input : line (codes "input 65535") ≡ Some (Input 65535)
unfolding line_request with_arguments number
input = refl

input_too_great : line (codes "input 65536") ≡ wrong
unfolding line_request line_ask with_arguments ask_with number
input_too_great = refl

mouse : line (codes "mouse 16383 0") ≡ Some (Mouse 16383 0)
unfolding line_request with_arguments number
mouse = refl

mouse_too_far : line (codes "mouse 0 16384") ≡ wrong
unfolding line_request line_ask with_arguments ask_with number
mouse_too_far = refl

mouse_of_one_number : line (codes "mouse 1") ≡ wrong
unfolding line_request line_ask with_arguments ask_with number
mouse_of_one_number = refl

mouse_of_three_numbers : line (codes "mouse 1 2 3") ≡ wrong
unfolding line_request line_ask with_arguments ask_with number
mouse_of_three_numbers = refl

clock : line (codes "clock 4294967295") ≡ Some (Clock 4294967295)
unfolding line_request with_arguments number
clock = refl

tick_too_late : line (codes "tick 4294967296") ≡ wrong
unfolding line_request line_ask with_arguments ask_with number
tick_too_late = refl

two_spaces : line (codes "run  5") ≡ wrong
unfolding line_request line_ask with_arguments ask_with number
two_spaces = refl

space_behind : line (codes "used ") ≡ wrong
unfolding line_request line_ask with_arguments ask_with number
space_behind = refl

space_before : line (codes " used") ≡ wrong
unfolding line_request line_ask alone with_arguments ask_with
space_before = refl

snapshot : line (codes "snapshot") ≡ Some Snapshot
unfolding line_request alone
snapshot = refl

snapshot_with_a_number : line (codes "snapshot 1") ≡ wrong
unfolding line_request line_ask with_arguments ask_with
snapshot_with_a_number = refl

space_before_snapshot : line (codes " snapshot") ≡ wrong
unfolding line_request line_ask alone with_arguments ask_with
space_before_snapshot = refl

snapshots : line (codes "snapshots") ≡ wrong
unfolding line_request line_ask alone ask_alone
snapshots = refl

tab_alone : line (codes "\t") ≡ None
unfolding line_request
tab_alone = refl

of_a_later_grammar : line (codes "hop") ≡ wrong
unfolding line_request line_ask alone ask_alone
of_a_later_grammar = refl

-- LINES THAT ASK TO LOOK AT SOMETHING

object : line_ask (codes "object 0000065534") ≡ Some (Object 65534)
unfolding line_ask ask_with number
object = refl

no_object : line_ask (codes "object 0") ≡ None
unfolding line_ask ask_with number
no_object = refl

odd_object : line_ask (codes "object 61") ≡ None
unfolding line_ask ask_with number
odd_object = refl

object_too_far : line_ask (codes "object 65536") ≡ None
unfolding line_ask ask_with number
object_too_far = refl

display : line_ask (codes "display") ≡ Some Display
unfolding line_ask ask_alone
display = refl

classes : line_ask (codes "classes") ≡ Some Classes
unfolding line_ask ask_alone
classes = refl

methods : line_ask (codes "methods Point") ≡ Some (Methods (instance_side (codes "Point")))
unfolding line_ask ask_with
methods = refl

methods_of_the_class_side : line_ask (codes "methods Point class") ≡ Some (Methods (class_side (codes "Point")))
unfolding line_ask ask_with
methods_of_the_class_side = refl

no_side : line_ask (codes "methods Point klass") ≡ None
unfolding line_ask ask_with
no_side = refl

no_name : line_ask (codes "methods 1Point") ≡ None
unfolding line_ask ask_with
no_name = refl

methods_alone : line_ask (codes "methods") ≡ None
unfolding line_ask ask_alone
methods_alone = refl

-- the last word is the selector
selector_class : line_ask (codes "bytecodes Point class") ≡ Some (Bytecodes (instance_side (codes "Point")) (codes "class"))
unfolding line_ask ask_with
selector_class = refl

source : line_ask (codes "source Point class x:y:") ≡ Some (Source (class_side (codes "Point")) (codes "x:y:"))
unfolding line_ask ask_with
source = refl

bytecodes : line_ask (codes "bytecodes Point class x:y:") ≡ Some (Bytecodes (class_side (codes "Point")) (codes "x:y:"))
unfolding line_ask ask_with
bytecodes = refl

no_selector : line_ask (codes "bytecodes Point class ") ≡ None
unfolding line_ask ask_with
no_selector = refl

until : line_ask (codes "until 100 Point class x:y:") ≡ Some (Until 100 (class_side (codes "Point")) (codes "x:y:"))
unfolding line_ask ask_with number
until = refl

-- a run of no cycles may be asked for
until_none : line_ask (codes "until 0 Point x") ≡ Some (Until 0 (instance_side (codes "Point")) (codes "x"))
unfolding line_ask ask_with number
until_none = refl

until_too_many : line_ask (codes "until 1000000001 Point x") ≡ None
unfolding line_ask ask_with number
until_too_many = refl

until_nothing : line_ask (codes "until 5 Point") ≡ None
unfolding line_ask ask_with number
until_nothing = refl

senders : line_ask (codes "senders 12") ≡ Some (Senders (codes "12"))
unfolding line_ask ask_with
senders = refl

senders_of_two : line_ask (codes "senders x y") ≡ None
unfolding line_ask ask_with
senders_of_two = refl

asks_to_look : line (codes "display") ≡ Some Browse
unfolding line_request line_ask alone ask_alone
asks_to_look = refl

-- SCRIPTS

lines : asked (codes "state\r\nused\n\n \ninput 7\nmouse 1 2\nclock 3\ntick 4\nrun 5\nend\nhop")
    ≡ Asks State ∷ Asks Used ∷ Asks (Input 7) ∷ Asks (Mouse 1 2) ∷ Asks (Clock 3) ∷ Asks (Tick 4) ∷ Asks (Run 5) ∷ Asks End ∷ []
unfolding read line_request line_ask with_arguments alone ask_with ask_alone number end_read
lines = refl

-- the last line has no end
asks : asked (codes "display\r\nused\nmethods A class\n!A methodsFor: 'a'! !bytecodes A x")
    ≡ Browses Display ∷ Asks Used ∷ Browses (Methods (class_side (codes "A"))) ∷ Browses (Bytecodes (instance_side (codes "A")) (codes "x")) ∷ []
unfolding read line_request line_ask with_arguments alone ask_with ask_alone number end_read
asks = refl

no_line : asked [] ≡ []
unfolding line_request line_ask ask_alone end_read
no_line = refl

-- the last line has no end, and a carriage return there isn't dropped
last_line : asked (codes "used\nend\r") ≡ Asks Used ∷ Asks (Wrong 2) ∷ []
unfolding read line_request line_ask with_arguments alone ask_with ask_alone number end_read
last_line = refl

nothing_behind_a_wrong_line : asked (codes "used\n\nhop\nused\n") ≡ Asks Used ∷ Asks (Wrong 3) ∷ []
unfolding read line_request line_ask with_arguments alone ask_with ask_alone number end_read
nothing_behind_a_wrong_line = refl

abbrev method : List ℕ → Asked
method text = Defines (record { class = codes "Point"; meta = false; category = codes "a"; text = text })

group : asked (codes "used\n!Point methodsFor: 'a'!\nx ^x!\n\ny\n\t\"!!\"! !\nused\n")
    ≡ Asks Used ∷ method (codes "x ^x") ∷ method (codes "y\n\t\"!\"") ∷ Asks Used ∷ []
unfolding read line_request line_ask with_arguments alone ask_with ask_alone number end_read
group = refl

-- the line goes on behind a group
line_behind_a_group : asked (codes "!Point methodsFor: 'a'! !used\n! !") ≡ Asks Used ∷ Asks (Wrong 2) ∷ []
unfolding read line_request line_ask with_arguments alone ask_with ask_alone number end_read
line_behind_a_group = refl

blank_behind_a_group : asked (codes "!Point methodsFor: 'a'! ! used\n") ≡ Asks (Wrong 1) ∷ []
unfolding read line_request line_ask with_arguments alone ask_with ask_alone number end_read
blank_behind_a_group = refl

group_that_closes_at_the_end : asked (codes "!Point methodsFor: 'a'!x ^x! !") ≡ method (codes "x ^x") ∷ []
unfolding read line_request line_ask with_arguments alone ask_with ask_alone number end_read
group_that_closes_at_the_end = refl

cut_off_behind_a_method : asked (codes "\n!Point methodsFor: 'a'!\nx ^x!") ≡ method (codes "x ^x") ∷ Asks (Wrong 3) ∷ []
unfolding read line_request line_ask with_arguments alone ask_with ask_alone number end_read
cut_off_behind_a_method = refl

-- what is cut off starts at its first byte that isn't blank
cut_off_in_a_method : asked (codes "!Point methodsFor: 'a'!\n\n x ^x\n") ≡ Asks (Wrong 3) ∷ []
unfolding read line_request line_ask with_arguments alone ask_with ask_alone number end_read
cut_off_in_a_method = refl

-- or behind the mark before it
cut_off_in_blanks : asked (codes "\n!Point methodsFor: 'a'!\n\n") ≡ Asks (Wrong 2) ∷ []
unfolding read line_request line_ask with_arguments alone ask_with ask_alone number end_read
cut_off_in_blanks = refl

cut_off_behind_the_first_mark : asked (codes "\n!") ≡ Asks (Wrong 2) ∷ []
unfolding read line_request line_ask with_arguments alone ask_with ask_alone number end_read
cut_off_behind_the_first_mark = refl

wrong_header : asked (codes "used\n!\n\nPoint methodsFor:'a'!\nx ^x! !\n") ≡ Asks Used ∷ Asks (Wrong 4) ∷ []
unfolding read line_request line_ask with_arguments alone ask_with ask_alone number end_read
wrong_header = refl

two_marks : asked (codes "\n!!Point methodsFor: 'a'! !") ≡ Asks (Wrong 2) ∷ []
unfolding read line_request line_ask with_arguments alone ask_with ask_alone number end_read
two_marks = refl
