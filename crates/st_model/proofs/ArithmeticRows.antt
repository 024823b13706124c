-- Worked rows of the primitives on SmallIntegers, and of those that any receiver has, as special sends and as primitives of a
-- method. The image is that of the rows of sends.
use Rattle.std.proofs.Common.{◌≡◌, ℕ, ◌+◌, List, [], ◌∷◌, ◌++◌, Some, None, Option, refl}
use Rattle.std.specs.Prelude.{map, replicate, pos}
use Rattle.st_model.specs.declared.dead.Dead.TheVariants as dead
use Rattle.st_model.specs.Values.{Value, Small, Ref}
use Rattle.st_model.specs.Objects.{Object, nil}
use Rattle.st_model.specs.Outcomes.{Outcome, With, Space, Ending}
use Rattle.st_model.specs.Outcomes as outcome
use Rattle.st_model.specs.Machine.{State, Transition, Died, Went}
use Rattle.st_model.specs.Table.{Table, table}
use Rattle.st_model.specs.Arithmetic.{arithmetic_number}
use Rattle.st_model.specs.Executing.{respond, execute}
use Rattle.st_model.specs.Cycles.{run}
use Rattle.st_model.proofs.Opened.{opened}
use Rattle.st_model.proofs.StorageRows.{pointers, method}
use Rattle.st_model.proofs.SendRows.{plain, active, activation, objects, state, in_sender, in_method}

-- the selectors + - < > <= >= = ~= * / \\ @ bitShift: // bitAnd: bitOr: of 176 to 191
numbers : map arithmetic_number (0 ∷ 1 ∷ 2 ∷ 3 ∷ 4 ∷ 5 ∷ 6 ∷ 7 ∷ 8 ∷ 9 ∷ 10 ∷ 11 ∷ 12 ∷ 13 ∷ 14 ∷ 15 ∷ []) ≡
    1 ∷ 2 ∷ 3 ∷ 4 ∷ 5 ∷ 6 ∷ 7 ∷ 8 ∷ 9 ∷ 10 ∷ 11 ∷ 18 ∷ 17 ∷ 12 ∷ 14 ∷ 15 ∷ []
numbers = refl

-- a method that pushes its literal 16383 and 1, and then has this byte
before : ℕ → State Table
unfolding state in_sender objects active plain pointers method
before code = state 32767 (in_sender (pos 4) 5) (objects 33 None None None (active 5 0 nil nil) (Small 1 ∷ Small 16383 ∷ []) (32 ∷ 118 ∷ code ∷ []))

-- after it these words are on the stack, of which the top one counts so many, and the first new object is this one
after : ℕ → ℕ → Option Object → Value → Value → Transition (State Table) Ending
unfolding state in_sender objects active plain pointers method
after code sp new x y = Went (With outcome.Went) (state 32767 (in_sender (pos 7) (5 + sp)) (objects 33 new None None (active 5 0 x y) (Small 1 ∷ Small 16383 ∷ []) (32 ∷ 118 ∷ code ∷ [])))

-- both are pushed
pushed : ℕ → State Table
unfolding state in_sender objects active plain pointers method
pushed code = state 32767 (in_sender (pos 6) 7) (objects 33 None None None (active 5 0 (Small 16383) (Small 1)) (Small 1 ∷ Small 16383 ∷ []) (32 ∷ 118 ∷ code ∷ []))

with_entries : ℕ → State Table → State Table
with_entries entries s = record s { head = record { entries = entries; words = 1048576; globals = None; symbols = None } }

-- 16383 - 1 takes the place of both; the word above the top stays in its field
subtracted : run table 3 (before 177) ≡ after 177 1 None (Small 16382) (Small 1)
unfolding opened before after state in_sender objects active plain pointers method
subtracted = refl

-- 16383 < 1 is false
compared : run table 3 (before 178) ≡ after 178 1 None (Ref 2) (Small 1)
unfolding opened before after state in_sender objects active plain pointers method
compared = refl

-- 16383 @ 1 is a new object of the class Point
pointed : run table 3 (before 187) ≡ after 187 1 (pointers 13 (Small 16383 ∷ Small 1 ∷ [])) (Ref 5) (Small 1)
unfolding opened before after state in_sender objects active plain pointers method
pointed = refl

-- with one entry too few there is no room for it, and all is left as it was
no_room_for_a_point : run table 3 (with_entries 28 (before 187)) ≡ Went (Space (record { entries = 1; words = 4 }) (record { entries = 0; words = 1048478 })) (with_entries 28 (pushed 187))
unfolding opened before pushed with_entries state in_sender objects active plain pointers method
no_room_for_a_point = refl

-- 16383 == 1 is false, and the class of 1 is SmallInteger
equivalent : run table 3 (before 198) ≡ after 198 1 None (Ref 2) (Small 1)
unfolding opened before after state in_sender objects active plain pointers method
equivalent = refl

class_sent : run table 3 (before 199) ≡ after 199 2 None (Small 16383) (Ref 6)
unfolding opened before after state in_sender objects active plain pointers method
class_sent = refl

-- 16383 + 1 is no SmallInteger, and the selector of the table is sent: a context of its method has pointer 10
sent : run table 3 (before 176) ≡ Went (With outcome.Went) (state 32767 (in_method 5) (objects 33 (activation 3 (Small 1)) None None (active 8 0 (Small 16383) (Small 1)) (Small 1 ∷ Small 16383 ∷ []) (32 ∷ 118 ∷ 176 ∷ [])))
unfolding opened before after activation in_method state in_sender objects active plain pointers method
sent = refl

-- two words on the stack, of which the second is the argument and the first the receiver
called : Value → Value → State Table
unfolding state in_sender objects active plain pointers method
called x y = state 32767 (in_sender (pos 7) 7) (objects 33 None None None (active 5 0 x y) (Small 1 ∷ Small 16383 ∷ []) (32 ∷ 118 ∷ 176 ∷ []))

-- this primitive is called with so many arguments
responds : ℕ → Value → Value → ℕ → Transition (State Table) (Option Outcome)
responds n x y primitive = (respond table primitive n).run (called x y)

answered : ℕ → Value → Value → Transition (State Table) (Option Outcome)
unfolding state in_sender objects active plain pointers method
answered sp x y = Went (Some outcome.Went) (state 32767 (in_sender (pos 7) (5 + sp)) (objects 33 None None None (active 5 0 x y) (Small 1 ∷ Small 16383 ∷ []) (32 ∷ 118 ∷ 176 ∷ [])))

-- something is asked for, with nothing changed
asked_at : Outcome → Transition (State Table) (Option Outcome)
asked_at o = Went (Some o) (called nil (Small 6))

-- a primitive failed, with nothing changed
failed : Value → Value → Transition (State Table) (Option Outcome)
failed x y = Went None (called x y)

-- by primitive 1 the sum takes the place of receiver and argument
adds : responds 1 (Small 5) (Small 6) 1 ≡ answered 1 (Small 11) (Small 6)
unfolding opened responds answered called state in_sender objects active plain pointers method
adds = refl

all_numbers : List ℕ
all_numbers = 1 ∷ 2 ∷ 3 ∷ 4 ∷ 5 ∷ 6 ∷ 7 ∷ 8 ∷ 9 ∷ 10 ∷ 11 ∷ 12 ∷ 13 ∷ 14 ∷ 15 ∷ 16 ∷ 17 ∷ 18 ∷ []

-- with a receiver or an argument that is no SmallInteger, the numbers 1 to 18 fail
no_integer : map (responds 1 nil (Small 6)) all_numbers ++ map (responds 1 (Small 6) nil) all_numbers
    ≡ replicate 18 (failed nil (Small 6)) ++ replicate 18 (failed (Small 6) nil)
unfolding all_numbers opened responds failed called state in_sender objects active plain pointers method
no_integer = refl

-- with another number of arguments than theirs they fail too, and so do 110, which takes one, and 111, which takes none
other_count : map (responds 0 (Small 5) (Small 6)) (1 ∷ 18 ∷ 110 ∷ []) ++ map (responds 1 (Small 5) (Small 6)) (111 ∷ [])
    ≡ replicate 4 (failed (Small 5) (Small 6))
unfolding opened responds failed called state in_sender objects active plain pointers method
other_count = refl

-- with their own 110 and 111 always succeed, and 89 answers the receiver with any number of arguments
always : responds 1 (Ref 5) (Ref 5) 110 ∷ responds 1 (Ref 5) (Small 5) 110 ∷ responds 0 nil (Ref 25) 111 ∷ responds 0 nil (Ref 33) 111 ∷ responds 0 nil (Small 6) 89 ∷ responds 1 nil (Small 6) 89 ∷ []
    ≡ answered 1 (Ref 3) (Ref 5) ∷ answered 1 (Ref 2) (Small 5) ∷ answered 2 nil (Ref 6) ∷ answered 2 nil (Ref 28) ∷ answered 2 nil (Small 6) ∷ answered 1 nil (Small 6) ∷ []
unfolding opened responds answered called state in_sender objects active plain pointers method
always = refl

-- the first and the last of each run of numbers that fail always
failing : map (responds 1 (Small 5) (Small 6)) (0 ∷ 19 ∷ 20 ∷ 38 ∷ 39 ∷ 40 ∷ 54 ∷ 55 ∷ 59 ∷ 103 ∷ 104 ∷ 106 ∷ 109 ∷ 117 ∷ 127 ∷ 129 ∷ 255 ∷ [])
    ≡ replicate 17 (failed (Small 5) (Small 6))
unfolding opened responds failed called state in_sender objects active plain pointers method
failing = refl

-- 97, 113 and 114 ask for something, and the receiver stays; with an argument they fail
asking : responds 0 nil (Small 6) 97 ∷ responds 0 nil (Small 6) 113 ∷ responds 0 nil (Small 6) 114 ∷ []
    ≡ asked_at outcome.Snapshot ∷ asked_at outcome.Quit ∷ asked_at outcome.Debugger ∷ []
unfolding opened responds asked_at called state in_sender objects active plain pointers method
asking = refl

asking_less : map (responds 1 (Small 5) (Small 6)) (97 ∷ 113 ∷ 114 ∷ []) ≡ replicate 3 (failed (Small 5) (Small 6))
unfolding opened responds failed called state in_sender objects active plain pointers method
asking_less = refl

-- special sends alone, with so many words on the stack
alone : ℕ → Value → Value → ℕ → State Table
unfolding state in_sender objects active plain pointers method
alone depth x y code = state 32767 (in_sender (pos 4) (5 + depth)) (objects 33 None None None (active 5 0 x y) (Small 1 ∷ Small 16383 ∷ []) (code ∷ []))

done_alone : ℕ → Value → Value → ℕ → Transition (State Table) Ending
unfolding state in_sender objects active plain pointers method
done_alone depth x y code = Went (With outcome.Went) (state 32767 (in_sender (pos 5) (5 + depth)) (objects 33 None None None (active 5 0 x y) (Small 1 ∷ Small 16383 ∷ []) (code ∷ [])))

-- with too few words on the stack they die
short : map (run table 1) (alone 0 nil nil 199 ∷ alone 1 (Small 1) (Small 1) 198 ∷ alone 1 (Small 1) (Small 1) 176 ∷ alone 0 (Small 1) (Small 1) 191 ∷ []) ≡ replicate 4 (Died dead.Sp)
unfolding opened alone state in_sender objects active plain pointers method
short = refl

-- where the primitive isn't tried or fails, the table is asked, which here has no selector for these: a receiver or an argument
-- that is no SmallInteger, and -16384 by -1
asked : map (run table 1) (alone 2 (Small 5) nil 191 ∷ alone 2 nil (Small 5) 177 ∷ alone 2 (Small 16384) (Small 32767) 189 ∷ []) ≡ replicate 3 (Died dead.Field)
unfolding opened alone state in_sender objects active plain pointers method
asked = refl

-- -16384 by -1 leaves 0; -7 by 2 leaves 1 and is -4, and -7 shifted by -1 is -4
rounded_down : map (run table 1) (alone 2 (Small 16384) (Small 32767) 186 ∷ alone 2 (Small 32761) (Small 2) 186 ∷ alone 2 (Small 32761) (Small 2) 189 ∷ alone 2 (Small 32761) (Small 32767) 188 ∷ [])
    ≡ done_alone 1 (Small 0) (Small 32767) 186 ∷ done_alone 1 (Small 1) (Small 2) 186 ∷ done_alone 1 (Small 32764) (Small 2) 189 ∷ done_alone 1 (Small 32764) (Small 32767) 188 ∷ []
unfolding opened alone done_alone state in_sender objects active plain pointers method
rounded_down = refl

-- a method with these fields is executed, on 5 and 6
executes : List Value → Transition (State Table) Outcome
unfolding state in_sender objects active plain pointers method
executes literals = (execute table (record { method = Ref 32; arguments = 1 })).run (state 32767 (in_sender (pos 4) 7) (objects 33 None None None (active 5 0 (Small 5) (Small 6)) literals (0 ∷ [])))

-- flag 7 wants two literals, the first of them a SmallInteger; of that 8 bits are the number, here 1
extensions : executes (Small 28672 ∷ []) ∷ executes (Small 28673 ∷ Small 1 ∷ []) ∷ executes (Small 28674 ∷ nil ∷ nil ∷ []) ∷ executes (Small 28674 ∷ Small 257 ∷ nil ∷ []) ∷ []
    ≡ Died dead.Field ∷ Died dead.Field ∷ Died dead.NotSmall ∷ Went outcome.Went (state 32767 (in_sender (pos 4) 6) (objects 33 None None None (active 5 0 (Small 11) (Small 6)) (Small 28674 ∷ Small 257 ∷ nil ∷ []) (0 ∷ []))) ∷ []
unfolding opened executes state in_sender objects active plain pointers method
extensions = refl
