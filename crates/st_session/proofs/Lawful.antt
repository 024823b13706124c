-- A session acknowledges each commit that it makes, and nothing else.
use Rattle.std.proofs.Common.{◌≡◌, ℕ, zero, suc, Bool, true, false, List, [], ◌∷◌, length, map, refl}
use Rattle.std.specs.Prelude.{codes, nat_le, take, Option, Some, None, if◌then◌else◌}
use Rattle.st_model.specs.declared.dead.Dead.{Dead}
use Rattle.st_model.specs.declared.event.Event.TheVariants as event
use Rattle.st_model.specs.Outcomes.{Ending, With, Space}
use Rattle.st_model.specs.Outcomes as outcome
use Rattle.st_model.specs.Machine.{State, Transition, Died, Went}
use Rattle.st_model.specs.Births.{Births, births}
use Rattle.st_model.specs.Table.{Table, total_used}
use Rattle.st_model.specs.Values.{Value}
use Rattle.st_model.specs.Objects.{one, words_of}
use Rattle.st_model.specs.Cycles.{cycle}
use Rattle.st_model.specs.Events as events
use Rattle.st_model.specs.Saving.{save}
use Rattle.st_model.specs.Show.{show}
use Rattle.st_model.specs.Text.{ran_text, dead_text, space_text, quit_text, debugger_text, said_value, used_text}
use Rattle.st_chunk.specs.Definitions.{Definition, IsDefinition}
use Rattle.st_chunk.specs.declared.request.Request.{Request}
use Rattle.st_chunk.specs.declared.request.Request.TheVariants.{Run, Trace, Input, Mouse, Clock, Tick, State as ShowState, Used, Stack, Snapshot, Browse, End, Define, Wrong}
use Rattle.st_chunk.specs.Asks.{Ask, Object, Display, Classes, Methods, Source, Bytecodes, Senders, Until}
use Rattle.st_chunk.specs.Reading.{Reading, line_from}
use Rattle.st_chunk.specs.Scripts.{Asked, Asks, Browses, Defines, IsSound, asked_from, told_from}
use Rattle.st_chunk.proofs.Asking.{AreGood, IsGood, asked_good, told_good}
use Rattle.st_protocol.specs.Acknowledged.{IsLines, AcknowledgesEach}
use Rattle.st_protocol.proofs.Lawful.{IsLawful, lawful_preceded, lawful_then, law_of}
use Rattle.st_protocol.specs.Courses.{Deed, Reply, Course, deeds_of, preceded, and_then, replies}
use Rattle.st_protocol.specs.Installing.{Installed, Refused, Accepted, Install}
use Rattle.st_install.specs.Defining.{installed}
use Rattle.st_install.proofs.Selectors.{IsInLine, accepted_selector}
use Rattle.st_recover.specs.Commits.{Commit, fits, accepted_if}
use Rattle.st_recover.specs.Replays.{Loss}
use Rattle.st_session.specs.Points.{Being, Alive, Gone, Point, alive}
use Rattle.st_session.specs.Keeping.{Keeping, image_of, saved, in_a_store}
use Rattle.st_session.specs.Browsing.{asked_text, memory_of}
use Rattle.st_call.specs.Replies.{ok_text, full_text, missing_text, machine_text, accepted_text, refused_text}
use Rattle.st_session.specs.FirstLines.{opening_text}
use Rattle.st_session.specs.Answers.{dead_line, browse_course, event_course, going_on, cycle_course, run_course, looked, look_at, watched_course, until_course, named_course, living_line, line_course, defined_course, definition_course, answer}
use Rattle.st_session.specs.Sessions.{longest, follow, follow_rest, follow_script, session, session_so_far, session_of}
use Rattle.st_machine.specs.Prepared.{prepared}
use Rattle.st_debug.specs.Stack.{stack_text}
use Rattle.st_debug.specs.Watched.{At, watched, is_entered}
use Rattle.st_browse.specs.Asked.{method_of_side}
use Rattle.st_session.specs.Watching.{Look, Says, Stops, nothing_seen, bytecode_texts, bytecode_seen, entry_seen, stopped_text}
use Rattle.st_session.proofs.BrowsedLines.{asked_lines}
use Rattle.st_session.proofs.SeenLines.{at_lines, stack_said, missing_lines}
use Rattle.st_session.proofs.WholeLines.{numbers_lines, dead_lines, machine_lines, said_value_lines, accepted_lines, refused_lines, opening_lines, snapshot_lines}

-- COURSES

abbrev Any : {X : Type 0} → X → Type 0
Any x = Unit {0}

-- what a course does keeps the law
abbrev pub KeepsLaw : {C X : Type 0} → Course C X → Type 0
KeepsLaw c = IsLawful Any c

preceded_law : {C X : Type 0} (ds : List (Deed C)) (c : Course C X) → AcknowledgesEach ds → KeepsLaw c → KeepsLaw (preceded ds c)
preceded_law ds c h k = lawful_preceded Any ds c h k

then_law : {C X Y : Type 0} (c : Course C X) (f : X → Course C Y) → KeepsLaw c → ((x : X) → KeepsLaw (f x)) → KeepsLaw (and_then c f)
then_law c f h k = lawful_then Any Any c f h (λ x any. k x)

-- such a text is all that a course says
said : (text : List ℕ) → IsLines 0 text → (IsLines 0 text × Unit {0}) × Unit {0}
said text h = ((h, tt), tt)

-- WHAT IS KEPT

-- what is kept is acknowledged by what is said next
pub record KeepsLawfully {C : Type 0} (keeping : Keeping C) : Type 0 where
  pub accepts : (c : C) (d : Definition) (text : List ℕ) (t : State Births) → IsLines 1 text → KeepsLaw (and_then (keeping.accepts c d) (λ k. replies text (alive t k)))
  pub snapshot : (n : ℕ) (s : State Births) (c : C) → KeepsLaw (keeping.snapshot n s c)

-- the selectors of what is accepted have no line's end
abbrev pub InstallsInLine : Install → Type 0
InstallsInLine install = (d : Definition) (s : State Births) (selector : List ℕ) (t : State Births) → install d s ≡ Accepted selector t → IsInLine selector

-- texts are whole lines
abbrev AreLines : List (List ℕ) → Type 0
AreLines [] = Unit {0}
AreLines (t ∷ texts) = IsLines 0 t × AreLines texts

-- what is seen is said in whole lines
abbrev SaysLines : Look → Type 0
SaysLines (Says texts) = AreLines texts
SaysLines Stops = Unit {0}

seen_lines : (o : Option At) → AreLines (bytecode_texts o)
seen_lines None = tt
seen_lines (Some at) = (at_lines at, tt)

trace_lines : (n : ℕ) (d : State Table) → SaysLines (bytecode_seen n d)
trace_lines n d = seen_lines (watched d)

stop_lines : (b : Bool) → SaysLines (if b then Stops else Says [])
stop_lines true = tt
stop_lines false = tt

entry_lines : (method : Value) (n : ℕ) (d : State Table) → SaysLines (entry_seen method n d)
entry_lines method zero d = tt
entry_lines method (suc n) d = stop_lines (is_entered d method)

module _ {C : Type 0} where
  dead_lawful : (cause : Dead) (c : C) (request : Request) → KeepsLaw (dead_line cause c request)
  dead_lawful cause c End = tt
  dead_lawful cause c (Wrong line) = tt
  dead_lawful cause c request = said (dead_text 0 cause) (dead_lines 0 cause)

  event_lawful : (s : State Births) (c : C) (o : Option (State Births)) → KeepsLaw (event_course s c o)
  event_lawful s c None = said full_text (record { whole = refl; count = refl })
  event_lawful s c (Some t) = said ok_text (record { whole = refl; count = refl })

  module _ (keeping : Keeping C) (laws : KeepsLawfully keeping) where
    going_lawful : (f : State Births → C → Course C (Point C)) (b : Being) (c : C) → ((t : State Births) (d : C) → KeepsLaw (f t d)) → KeepsLaw (going_on keeping f b c)
    going_lawful f (Alive s) c h = h s c
    going_lawful f (Gone cause) c h = (tt, tt)

    cycle_lawful : (n : ℕ) (o : Transition (State Births) Ending) (f : State Births → C → Course C (Point C)) (c : C) → ((t : State Births) (d : C) → KeepsLaw (f t d)) → KeepsLaw (cycle_course keeping n o f c)
    cycle_lawful n (Died cause) f c h = said (dead_text n cause) (dead_lines n cause)
    cycle_lawful n (Went (With outcome.Went) s) f c h = h s c
    cycle_lawful n (Went (With outcome.Snapshot) s) f c h = then_law (keeping.snapshot (suc n) s c) _ (laws.snapshot (suc n) s c) (λ p. going_lawful f p.being p.kept h)
    cycle_lawful n (Went (With outcome.Quit) s) f c h = said (quit_text (suc n)) (numbers_lines 0 (codes "quit") (suc n ∷ []) refl refl)
    cycle_lawful n (Went (With outcome.Debugger) s) f c h = said (debugger_text (suc n)) (numbers_lines 0 (codes "debugger") (suc n ∷ []) refl refl)
    cycle_lawful n (Went (With (outcome.Say v)) s) f c h = preceded_law (Reply (said_value s.memory v) ∷ []) (f s c) (said_value_lines s.memory v, tt) (h s c)
    cycle_lawful n (Went (Space demand left) s) f c h = said (space_text n demand left) (numbers_lines 0 (codes "space") (n ∷ demand.entries ∷ demand.words ∷ left.entries ∷ left.words ∷ []) refl refl)

    replies_law : (texts : List (List ℕ)) → AreLines texts → AcknowledgesEach {C = C} (map Reply texts)
    replies_law [] h = tt
    replies_law (x ∷ texts) h = (h.0, replies_law texts h.1)

    looked_lawful : (l : Look) (n : ℕ) (t : State Births) (c : C) (rest : Course C (Point C)) → SaysLines l → KeepsLaw rest → KeepsLaw (looked keeping l n t c rest)
    looked_lawful (Says texts) n t c rest lines h = preceded_law (map Reply texts) rest (replies_law texts lines) h
    looked_lawful Stops n t c rest lines h = said (stopped_text n) (numbers_lines 0 (codes "stopped") (n ∷ []) refl refl)

    look_lawful : (look : State Table → Look) (n : ℕ) (p : Transition (State Births) Unit) (c : C) (rest : Course C (Point C)) → ((d : State Table) → SaysLines (look d)) → KeepsLaw rest → KeepsLaw (look_at keeping look n p c rest)
    look_lawful look n (Died cause) c rest lines h = h
    look_lawful look n (Went u t) c rest lines h = looked_lawful (look (show t)) n t c rest (lines (show t)) h

    watched_lawful : (look : ℕ → State Table → Look) → ((n : ℕ) (d : State Table) → SaysLines (look n d)) → (k n : ℕ) (s : State Births) (c : C) → KeepsLaw (watched_course keeping look n k s c)
    unfolding watched_course
    watched_lawful look lines zero n s c = said (ran_text n) (numbers_lines 0 (codes "ran") (n ∷ []) refl refl)
    watched_lawful look lines (suc k) n s c =
        look_lawful (look n) n (prepared s) c (cycle_course keeping n (cycle births s) (watched_course keeping look (suc n) k) c) (lines n)
        (cycle_lawful n (cycle births s) (watched_course keeping look (suc n) k) c (λ t d. watched_lawful look lines k (suc n) t d))

    run_lawful : (k n : ℕ) (s : State Births) (c : C) → KeepsLaw (run_course keeping n k s c)
    run_lawful k n s c = watched_lawful nothing_seen (λ m d. tt) k n s c

    until_lawful : (cycles : ℕ) (s : State Births) (c : C) (o : Option Value) → KeepsLaw (until_course keeping cycles s c o)
    until_lawful cycles s c None = said missing_text missing_lines
    until_lawful cycles s c (Some method) = watched_lawful (entry_seen method) (entry_lines method) cycles 0 s c

    looks_lawful : (s : State Births) (c : C) (ask : Ask) → KeepsLaw (replies {C = C} (asked_text (memory_of (show s)) (keeping.source (memory_of (show s)) c) ask) (alive s c))
    looks_lawful s c ask = let m = memory_of (show s) in said (asked_text m (keeping.source m c) ask) (asked_lines m (keeping.source m c) ask)

    named_lawful : (s : State Births) (c : C) (ask : Ask) → KeepsLaw (named_course keeping s c ask)
    named_lawful s c (Until cycles side selector) = until_lawful cycles s c (method_of_side (memory_of (show s)) side selector)
    named_lawful s c (Object n) = looks_lawful s c (Object n)
    named_lawful s c Display = looks_lawful s c Display
    named_lawful s c Classes = looks_lawful s c Classes
    named_lawful s c (Methods side) = looks_lawful s c (Methods side)
    named_lawful s c (Source side selector) = looks_lawful s c (Source side selector)
    named_lawful s c (Bytecodes side selector) = looks_lawful s c (Bytecodes side selector)
    named_lawful s c (Senders selector) = looks_lawful s c (Senders selector)

    browse_lawful : (b : Being) (c : C) (ask : Ask) → KeepsLaw (browse_course keeping b c ask)
    browse_lawful (Alive s) c ask = named_lawful s c ask
    browse_lawful (Gone cause) c ask = said (dead_text 0 cause) (dead_lines 0 cause)

    living_lawful : (s : State Births) (c : C) (request : Request) → KeepsLaw (living_line keeping s c request)
    living_lawful s c (Run n) = run_lawful n 0 s c
    living_lawful s c (Trace n) = watched_lawful bytecode_seen trace_lines n 0 s c
    living_lawful s c (Input word) = event_lawful s c (events.event births (event.Word word) s)
    living_lawful s c (Mouse x y) = event_lawful s c (events.event births (event.Mouse x y) s)
    living_lawful s c (Clock time) = event_lawful s c (events.event births (event.Clock time) s)
    living_lawful s c (Tick time) = event_lawful s c (events.event births (event.Tick time) s)
    living_lawful s c ShowState = said (machine_text (show s)) (machine_lines (show s))
    living_lawful s c Used = said (used_text (show s).memory) (numbers_lines 0 (codes "used") (total_used one (show s).memory ∷ total_used words_of (show s).memory ∷ []) refl refl)
    living_lawful s c Stack = said (stack_text (show s).memory (show s).registers.active) (stack_said (show s).memory (show s).registers.active)
    living_lawful s c Snapshot = laws.snapshot 0 s c
    living_lawful s c Browse = (tt, tt)
    living_lawful s c End = tt
    living_lawful s c Define = (tt, tt)
    living_lawful s c (Wrong line) = tt

    line_lawful : (b : Being) (c : C) (request : Request) → KeepsLaw (line_course keeping b c request)
    line_lawful (Alive s) c request = living_lawful s c request
    line_lawful (Gone cause) c request = dead_lawful cause c request

    defined_lawful : (s : State Births) (c : C) (d : Definition) (o : Installed) → IsDefinition d → ((selector : List ℕ) (t : State Births) → o ≡ Accepted selector t → IsInLine selector) → KeepsLaw (defined_course keeping s c d o)
    defined_lawful s c d (Refused why) good h = said (refused_text why) (refused_lines why)
    defined_lawful s c d (Accepted selector t) good h = laws.accepts c d (accepted_text d selector) t (accepted_lines d selector good.named (h selector t refl))

    module _ (install : Install) (in_line : InstallsInLine install) where
      definition_lawful : (b : Being) (c : C) (d : Definition) → IsDefinition d → KeepsLaw (definition_course keeping install b c d)
      definition_lawful (Alive s) c d good = defined_lawful s c d (install d s) good (in_line d s)
      definition_lawful (Gone cause) c d good = said (dead_text 0 cause) (dead_lines 0 cause)

      answer_lawful : (p : Point C) (a : Asked) → IsGood a → KeepsLaw (answer keeping install p a)
      answer_lawful p (Asks request) good = line_lawful p.being p.kept request
      answer_lawful p (Browses ask) good = browse_lawful p.being p.kept ask
      answer_lawful p (Defines d) good = definition_lawful p.being p.kept d good

      follow_lawful : (p : Point C) (all : List Asked) → AreGood all → KeepsLaw (follow keeping install p all)
      follow_lawful p [] good = (tt, tt)
      follow_lawful p (a ∷ rest) good = then_law (answer keeping install p a) _ (answer_lawful p a good.0) (λ q. follow_lawful q rest good.1)

      rest_lawful : (r : Reading) (left : ℕ) (p : Point C) (rest : List ℕ) (t : Bool) → IsSound r.place → KeepsLaw (follow_rest keeping install r left p rest t)
      rest_lawful r left p rest true sound = then_law (follow keeping install p (asked_from r rest)) _ (follow_lawful p (asked_from r rest) (asked_good r rest sound)) (λ q. tt)
      rest_lawful r left p rest false sound = then_law (follow keeping install p (told_from r (take left rest))) _ (follow_lawful p (told_from r (take left rest)) (told_good r (take left rest) sound)) (λ q. tt)

      pub follow_law : (p : Point C) (script : List ℕ) → KeepsLaw (follow_script keeping install p script)
      follow_law p script = rest_lawful (line_from 1) longest p script (nat_le (length script) longest) tt

      pub any_session_law : (replayed : ℕ) (lost : List Loss) (p : Point C) (script : List ℕ) → AcknowledgesEach (deeds_of (session keeping install replayed lost p script))
      unfolding session
      any_session_law replayed lost p script =
          law_of Any _ (preceded_law (Reply (opening_text replayed lost) ∷ []) (follow_script keeping install p script) (opening_lines replayed lost, tt) (follow_law p script))

      pub any_session_of_law : (replayed : ℕ) (lost : List Loss) (p : Point C) (all : List Asked) → AreGood all → AcknowledgesEach (deeds_of (session_of keeping install replayed lost p all))
      any_session_of_law replayed lost p all good =
          law_of Any _ (preceded_law (Reply (opening_text replayed lost) ∷ []) (follow keeping install p all) (opening_lines replayed lost, tt) (follow_lawful p all good))

      pub any_session_so_far_law : (replayed : ℕ) (lost : List Loss) (p : Point C) (front : List ℕ) → AcknowledgesEach (deeds_of (session_so_far keeping install replayed lost p front))
      any_session_so_far_law replayed lost p front =
          let all = told_from (line_from 1) front in
          law_of Any _ (preceded_law (Reply (opening_text replayed lost) ∷ []) (follow keeping install p all) (opening_lines replayed lost, tt) (follow_lawful p all (told_good (line_from 1) front tt)))

-- IN A STORE

accepting_lawful : (c : Commit) (d : Definition) (text : List ℕ) (t : State Births) (b : Bool) → IsLines 1 text → KeepsLaw (and_then (accepted_if c d b) (λ k. replies text (alive t k)))
accepting_lawful c d text t true h = ((h, tt), tt)
accepting_lawful c d text t false h = tt

saved_lawful : (n : ℕ) (o : Transition (State Births) Unit) (c : Commit) → KeepsLaw (saved n o c)
saved_lawful n (Died cause) c = said (dead_text n cause) (dead_lines n cause)
saved_lawful n (Went u s) c = ((snapshot_lines (length (image_of s)), tt), tt)

store_laws : KeepsLawfully in_a_store
store_laws = record {
  accepts = λ c d text t h. accepting_lawful c d text t (fits c d) h;
  snapshot = λ n s c. saved_lawful n (save births s) c;
}

pub session_law : (replayed : ℕ) (lost : List Loss) (p : Point Commit) (script : List ℕ) → AcknowledgesEach (deeds_of (session in_a_store installed replayed lost p script))
session_law = any_session_law in_a_store store_laws installed accepted_selector

pub session_so_far_law : (replayed : ℕ) (lost : List Loss) (p : Point Commit) (front : List ℕ) → AcknowledgesEach (deeds_of (session_so_far in_a_store installed replayed lost p front))
session_so_far_law = any_session_so_far_law in_a_store store_laws installed accepted_selector

pub session_of_law : (replayed : ℕ) (lost : List Loss) (p : Point Commit) (all : List Asked) → AreGood all → AcknowledgesEach (deeds_of (session_of in_a_store installed replayed lost p all))
session_of_law = any_session_of_law in_a_store store_laws installed accepted_selector
