-- What a session answers to a line, and to a method of a group.
use Rattle.std.specs.Prelude.{ℕ, zero, suc, [], ◌∷◌, Option, Some, None, map}
use Rattle.st_model.specs.declared.dead.Dead.{Dead}
use Rattle.st_model.specs.declared.event.Event.TheVariants as event
use Rattle.st_model.specs.Outcomes.{Ending, With, Space}
use Rattle.st_model.specs.Outcomes as outcome
use Rattle.st_model.specs.Machine.{State, Transition, Died, Went}
use Rattle.st_model.specs.Births.{Births, births}
use Rattle.st_model.specs.Cycles.{cycle}
use Rattle.st_model.specs.Events as events
use Rattle.st_model.specs.Values.{Value}
use Rattle.st_model.specs.Table.{Table}
use Rattle.st_model.specs.Show.{show}
use Rattle.st_model.specs.Text.{ran_text, dead_text, space_text, quit_text, debugger_text, said_value, used_text}
use Rattle.st_chunk.specs.Definitions.{Definition}
use Rattle.st_chunk.specs.declared.request.Request.{Request}
use Rattle.st_chunk.specs.declared.request.Request.TheVariants.{Run, Trace, Input, Mouse, Clock, Tick, State as ShowState, Used, Stack, Snapshot, Browse, End, Define, Wrong}
use Rattle.st_chunk.specs.Asks.{Ask, Until}
use Rattle.st_chunk.specs.Scripts.{Asked, Asks, Browses, Defines}
use Rattle.st_protocol.specs.declared.status.Status.TheVariants as status
use Rattle.st_protocol.specs.Courses.{Course, Reply, Goes, Ends, preceded, and_then, replies}
use Rattle.st_protocol.specs.Installing.{Installed, Refused, Accepted, Install}
use Rattle.st_session.specs.Points.{Being, Alive, Gone, Point, alive, gone}
use Rattle.st_session.specs.Keeping.{Keeping}
use Rattle.st_machine.specs.Prepared.{prepared}
use Rattle.st_debug.specs.Stack.{stack_text}
use Rattle.st_browse.specs.Asked.{method_of_side}
use Rattle.st_session.specs.Watching.{Look, Says, Stops, nothing_seen, bytecode_seen, entry_seen, stopped_text}
use Rattle.st_session.specs.Browsing.{asked_text, memory_of}
use Rattle.st_call.specs.Replies.{ok_text, full_text, missing_text, machine_text, accepted_text, refused_text}

module _ {C : Type 0} where
  -- a dead machine shows nothing but its cause
  abbrev pub dead_line : Dead → C → Request → Course C (Point C)
  dead_line cause c End = Ends [] status.Done
  dead_line cause c (Wrong line) = Ends [] (status.Script line)
  dead_line cause c request = replies (dead_text 0 cause) (gone cause c)

  -- an event, which none is where the input is full
  abbrev pub event_course : State Births → C → Option (State Births) → Course C (Point C)
  event_course s c None = replies full_text (alive s c)
  event_course s c (Some t) = replies ok_text (alive t c)

  module _ (keeping : Keeping C) where
    -- where the machine is alive, the run goes on
    abbrev pub going_on : (State Births → C → Course C (Point C)) → Being → C → Course C (Point C)
    going_on f (Alive s) c = f s c
    going_on f (Gone cause) c = Goes [] (gone cause c)

    -- what a cycle says, where so many were finished before it, and all that follow
    abbrev pub cycle_course : ℕ → Transition (State Births) Ending → (State Births → C → Course C (Point C)) → C → Course C (Point C)
    cycle_course n (Died cause) f c = replies (dead_text n cause) (gone cause c)
    cycle_course n (Went (With outcome.Went) s) f c = f s c
    cycle_course n (Went (With outcome.Snapshot) s) f c = and_then (keeping.snapshot (suc n) s c) (λ p. going_on f p.being p.kept)
    cycle_course n (Went (With outcome.Quit) s) f c = replies (quit_text (suc n)) (alive s c)
    cycle_course n (Went (With outcome.Debugger) s) f c = replies (debugger_text (suc n)) (alive s c)
    cycle_course n (Went (With (outcome.Say v)) s) f c = preceded (Reply (said_value s.memory v) ∷ []) (f s c)
    cycle_course n (Went (Space demand left) s) f c = replies (space_text n demand left) (alive s c)

    -- what is seen before a cycle, and what follows
    abbrev pub looked : Look → ℕ → State Births → C → Course C (Point C) → Course C (Point C)
    looked (Says texts) n t c rest = preceded (map (λ text. Reply text) texts) rest
    looked Stops n t c rest = replies (stopped_text n) (alive t c)

    -- where what comes before the bytecode dies nothing is seen, and the cycle dies of the same
    abbrev pub look_at : (State Table → Look) → ℕ → Transition (State Births) Unit → C → Course C (Point C) → Course C (Point C)
    look_at look n (Died cause) c rest = rest
    look_at look n (Went u t) c rest = looked (look (show t)) n t c rest

    -- so many cycles of a line that looks before each, after others that were finished
    unfoldable pub watched_course : (ℕ → State Table → Look) → ℕ → ℕ → State Births → C → Course C (Point C)
    watched_course look n zero s c = replies (ran_text n) (alive s c)
    watched_course look n (suc k) s c = look_at (look n) n (prepared s) c (cycle_course n (cycle births s) (watched_course look (suc n) k) c)

    -- those of a line that sees nothing
    abbrev pub run_course : ℕ → ℕ → State Births → C → Course C (Point C)
    run_course = watched_course nothing_seen

    -- a run up to the first bytecode of a method, where there is one
    abbrev pub until_course : ℕ → State Births → C → Option Value → Course C (Point C)
    until_course cycles s c None = replies missing_text (alive s c)
    until_course cycles s c (Some method) = watched_course (entry_seen method) 0 cycles s c

    -- a line that names what it asks for, where the machine isn't dead
    abbrev pub named_course : State Births → C → Ask → Course C (Point C)
    named_course s c (Until cycles side selector) = until_course cycles s c (method_of_side (memory_of (show s)) side selector)
    named_course s c ask = replies (asked_text (memory_of (show s)) (keeping.source (memory_of (show s)) c) ask) (alive s c)

    abbrev pub browse_course : Being → C → Ask → Course C (Point C)
    browse_course (Alive s) c ask = named_course s c ask
    browse_course (Gone cause) c ask = replies (dead_text 0 cause) (gone cause c)

    -- a line, where the machine isn't dead
    abbrev pub living_line : State Births → C → Request → Course C (Point C)
    living_line s c (Run n) = run_course 0 n s c
    living_line s c (Trace n) = watched_course bytecode_seen 0 n s c
    living_line s c (Input word) = event_course s c (events.event births (event.Word word) s)
    living_line s c (Mouse x y) = event_course s c (events.event births (event.Mouse x y) s)
    living_line s c (Clock time) = event_course s c (events.event births (event.Clock time) s)
    living_line s c (Tick time) = event_course s c (events.event births (event.Tick time) s)
    living_line s c ShowState = replies (machine_text (show s)) (alive s c)
    living_line s c Used = replies (used_text (show s).memory) (alive s c)
    living_line s c Stack = replies (stack_text (show s).memory (show s).registers.active) (alive s c)
    living_line s c Snapshot = keeping.snapshot 0 s c
    living_line s c Browse = Goes [] (alive s c)
    living_line s c End = Ends [] status.Done
    living_line s c Define = Goes [] (alive s c)
    living_line s c (Wrong line) = Ends [] (status.Script line)

    abbrev pub line_course : Being → C → Request → Course C (Point C)
    line_course (Alive s) c request = living_line s c request
    line_course (Gone cause) c request = dead_line cause c request

    -- a method of a group; it is kept before it is acknowledged
    abbrev pub defined_course : State Births → C → Definition → Installed → Course C (Point C)
    defined_course s c d (Refused why) = replies (refused_text why) (alive s c)
    defined_course s c d (Accepted selector t) = and_then (keeping.accepts c d) (λ k. replies (accepted_text d selector) (alive t k))

    module _ (install : Install) where
      abbrev pub definition_course : Being → C → Definition → Course C (Point C)
      definition_course (Alive s) c d = defined_course s c d (install d s)
      definition_course (Gone cause) c d = replies (dead_text 0 cause) (gone cause c)

      abbrev pub answer : Point C → Asked → Course C (Point C)
      answer p (Asks request) = line_course p.being p.kept request
      answer p (Browses ask) = browse_course p.being p.kept ask
      answer p (Defines d) = definition_course p.being p.kept d
