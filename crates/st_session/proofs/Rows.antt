-- Worked sessions.
use Rattle.std.proofs.Common.{◌≡◌, List, [], ◌∷◌, ℕ, true, false, refl}
use Rattle.std.specs.Prelude.{codes}
use Rattle.st_model.specs.declared.dead.Dead.TheVariants.{Sp}
use Rattle.st_model.specs.declared.kind.Kind.TheVariants.{Bytes}
use Rattle.st_model.specs.Values.{Ref}
use Rattle.st_model.specs.Outcomes.{With, Say}
use Rattle.st_model.specs.Machine.{State, Went}
use Rattle.st_model.specs.Births.{Births}
use Rattle.st_chunk.specs.Lines.{with_arguments, alone, ask_with, ask_alone, number, line_ask, line_request}
use Rattle.st_chunk.specs.Reading.{read, end_read}
use Rattle.st_chunk.specs.Scripts.{Asked, Defines, asked}
use Rattle.st_protocol.specs.declared.refusal.Refusal.TheVariants.{NoClass}
use Rattle.st_protocol.specs.declared.status.Status.TheVariants.{Done, Script}
use Rattle.st_protocol.specs.Courses.{Course, Reply, Goes, Ends, replies}
use Rattle.st_protocol.specs.Installing.{Install, Refused}
use Rattle.st_session.specs.Points.{Point, alive, gone}
use Rattle.st_session.specs.Keeping.{keeps_nothing}
use Rattle.st_session.specs.Answers.{cycle_course}
use Rattle.st_model.specs.Text.{dead_text, ran_text}
use Rattle.st_session.specs.FirstLines.{opening_text}
use Rattle.st_session.specs.Sessions.{session}

-- without any class
no_class : Install
no_class d s = Refused NoClass

-- over a machine that died of a stack pointer
abbrev over_the_dead : List ℕ → Course (Unit {0}) (Point (Unit {0}))
over_the_dead script = session keeps_nothing no_class 0 [] (gone Sp tt) script

no_line : over_the_dead [] ≡ Ends (Reply (opening_text 0 []) ∷ []) Done
unfolding session end_read line_request line_ask ask_alone
no_line = refl

out_of_the_grammar : over_the_dead (codes "hop") ≡ Ends (Reply (opening_text 0 []) ∷ []) (Script 1)
unfolding session read end_read line_request line_ask alone ask_alone
out_of_the_grammar = refl

the_dead_answer : over_the_dead (codes "used\n!Point methodsFor: 'a'!\nx ^x! !\nrun 5\nclasses\nend\nhop")
    ≡ Ends (Reply (opening_text 0 []) ∷ Reply (dead_text 0 Sp) ∷ Reply (dead_text 0 Sp) ∷ Reply (dead_text 0 Sp) ∷ Reply (dead_text 0 Sp) ∷ []) Done
unfolding session read end_read line_request line_ask alone with_arguments ask_alone ask_with number
the_dead_answer = refl

-- a method that ends with the script is answered, and the chunk that is cut off behind it starts in the third line
cut_off : over_the_dead (codes "used\n!Point methodsFor: 'a'!\nx ^x!")
    ≡ Ends (Reply (opening_text 0 []) ∷ Reply (dead_text 0 Sp) ∷ Reply (dead_text 0 Sp) ∷ []) (Script 3)
unfolding session read end_read line_request line_ask alone with_arguments ask_alone ask_with number
cut_off = refl

-- a method that begins at the mark of the one before it has all of its bytes
abbrev method : List ℕ → Asked
method text = Defines (record { class = codes "Point"; meta = false; category = codes "a"; text = text })

methods_without_blanks : asked (codes "!Point methodsFor: 'a'!x ^x!y ^y! !") ≡ method (codes "x ^x") ∷ method (codes "y ^y") ∷ []
unfolding read end_read line_request line_ask alone with_arguments ask_alone ask_with number
methods_without_blanks = refl

-- the book's machine with one object, a String of the letter H
abbrev with_a_letter : State Births → State Births
with_a_letter s = record s { memory = record { object = record { class = 7; kind = Bytes; fields = []; units = 72 ∷ [] }; pointer = 8; kept = true } ∷ [] }

-- what a bytecode says comes before the line of the run's end, and the run goes on
said_first : (s : State Births)
    → cycle_course keeps_nothing 0 (Went (With (Say (Ref 0))) (with_a_letter s)) (λ t c. replies (ran_text 2) (alive t c)) tt
    ≡ Goes (Reply (codes "say H\n") ∷ Reply (ran_text 2) ∷ []) (alive (with_a_letter s) tt)
said_first s = refl
