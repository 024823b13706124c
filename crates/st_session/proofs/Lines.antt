-- Lines that are answered.
use Rattle.std.proofs.Common.{◌≡◌, ◌⊎◌, inl, inr, ℕ, List, [], refl, sym, ap}
use Rattle.std.specs.Prelude.{Option, Some, None, Result, Ok, Err}
use Rattle.st_model.specs.declared.dead.Dead.{Dead}
use Rattle.st_model.specs.declared.event.Event.TheVariants as event
use Rattle.st_model.specs.declared.event.InputFull.{InputFull}
use Rattle.st_model.specs.Events as events
use Rattle.st_model.specs.Machine.{State}
use Rattle.st_model.specs.Births.{Births, births}
use Rattle.st_model.specs.Table.{Table}
use Rattle.st_model.specs.Show.{Shows, show}
use Rattle.st_model.specs.Text.{dead_text}
use Rattle.st_model.specs.View.{View}
use Rattle.st_host.specs.declared.host.Host.{Ghosts}
use Rattle.st_host.specs.declared.host.SayFault.{SayFault}
use Rattle.st_call.specs.inside.Saying.{Pushes}
use Rattle.st_machine.specs.inside.Asked.{TakenAs}
use Rattle.st_chunk.specs.declared.request.Request.{Request}
use Rattle.st_chunk.specs.declared.request.Request.TheVariants as request
use Rattle.st_chunk.specs.Asks.{Side, Ask, ask_of}
use Rattle.st_chunk.specs.declared.ask.LentAsk.{LentAsk as DeclaredAsk}
use Rattle.st_chunk.specs.declared.ask.LentAsk.TheVariants as declared
use Rattle.st_chunk.specs.Reading.{Place, Browsed, Defined, CutOff}
use Rattle.st_chunk.specs.Scripts.{Asks, Browses, Defines, IsBrowsed, HasAsk, IsDefined, HasDefinition, asked_at}
use Rattle.st_chunk.specs.Definitions.{Definition}
use Rattle.st_protocol.specs.Courses.{Goes, replies}
use Rattle.st_protocol.specs.Installing.{Install}
use Rattle.st_session.specs.Points.{Point, alive, gone}
use Rattle.st_session.specs.Keeping.{Keeping}
use Rattle.st_call.specs.Replies.{ok_text, full_text}
use Rattle.st_session.specs.Answers.{dead_line, event_course, named_course, living_line, answer}
use Rattle.st_session.specs.Browsing.{asked_text, memory_of}
use Rattle.st_session.specs.inside.Asking.{IsSaying}
use Rattle.st_session.specs.inside.Pushing.{PushesCourse}
use Rattle.st_session.proofs.Saying.{KeepsNone}
use Rattle.st_session.proofs.Stretches.{all_ok, course_replies}

module _ {D C : Type 0} (host : Ghosts D) (at : Point C → Type 0) (s : State Births) (k : C) (c : State Table) where
  -- an event that came
  pub came : (o : Option (State Births)) {old new : D} {p q : List ℕ} {result : Result Unit SayFault} → TakenAs (Ok tt) c o → ((t : State Births) → Shows c t → at (alive t k))
      → Pushes host ok_text old new p q result → PushesCourse host at (event_course s k o) old new p q result
  came None taken stands run = absurd taken
  came (Some t) {result = result} taken stands run = course_replies host at ok_text (alive t k) run (all_ok result (stands t taken))

  -- one that found the input full
  pub full : (o : Option (State Births)) (f : InputFull) {old new : D} {p q : List ℕ} {result : Result Unit SayFault} → TakenAs (Err f) c o → at (alive s k)
      → Pushes host full_text old new p q result → PushesCourse host at (event_course s k o) old new p q result
  full None f {result = result} taken stands run = course_replies host at full_text (alive s k) run (all_ok result stands)
  full (Some t) f taken stands run = absurd taken

-- what asks neither for a run, watched or not, the stack, a snapshot, the end nor a definition, nor to look at something, and isn't wrong, asks for lines
pub says_lines : (r : Request) → ((n : ℕ) → r ≡ request.Run n → ⊥) → ((n : ℕ) → r ≡ request.Trace n → ⊥) → (r ≡ request.Stack → ⊥) → (r ≡ request.Snapshot → ⊥) → (r ≡ request.End → ⊥) → ((line : ℕ) → r ≡ request.Wrong line → ⊥) → (r ≡ request.Define → ⊥) → (r ≡ request.Browse → ⊥) → IsSaying r
says_lines (request.Run n) u t k v e w d b = u n refl
says_lines (request.Trace n) u t k v e w d b = t n refl
says_lines request.Stack u t k v e w d b = k refl
says_lines (request.Input word) u t k v e w d b = tt
says_lines (request.Mouse x y) u t k v e w d b = tt
says_lines (request.Clock time) u t k v e w d b = tt
says_lines (request.Tick time) u t k v e w d b = tt
says_lines request.State u t k v e w d b = tt
says_lines request.Used u t k v e w d b = tt
says_lines request.Snapshot u t k v e w d b = v refl
says_lines request.Browse u t k v e w d b = b refl
says_lines request.End u t k v e w d b = e refl
says_lines request.Define u t k v e w d b = d refl
says_lines (request.Wrong line) u t k v e w d b = w line refl

-- lines keep nothing
module _ {C : Type 0} (keeping : Keeping C) (s : State Births) (k : C) where
  event_keeps : (o : Option (State Births)) → KeepsNone (λ (q : Point C). q.kept) k (event_course s k o)
  event_keeps None = (refl, refl)
  event_keeps (Some t) = (refl, refl)

  pub lines_keep : (r : Request) → IsSaying r → KeepsNone (λ (q : Point C). q.kept) k (living_line keeping s k r)
  lines_keep (request.Run n) h = absurd h
  lines_keep (request.Trace n) h = absurd h
  lines_keep request.Stack h = absurd h
  lines_keep (request.Input word) h = event_keeps (events.event births (event.Word word) s)
  lines_keep (request.Mouse x y) h = event_keeps (events.event births (event.Mouse x y) s)
  lines_keep (request.Clock time) h = event_keeps (events.event births (event.Clock time) s)
  lines_keep (request.Tick time) h = event_keeps (events.event births (event.Tick time) s)
  lines_keep request.State h = (refl, refl)
  lines_keep request.Used h = (refl, refl)
  lines_keep request.Snapshot h = absurd h
  lines_keep request.Browse h = absurd h
  lines_keep request.End h = absurd h
  lines_keep request.Define h = absurd h
  lines_keep (request.Wrong line) h = absurd h

  -- where a reader has what is asked for, the line alone asks for nothing
  pub stays_alive : (r : Request) → (r ≡ request.Browse) ⊎ (r ≡ request.Define) → living_line keeping s k r ≡ Goes [] (alive s k)
  stays_alive r (inl e) = rw e refl
  stays_alive r (inr e) = rw e refl

-- what is no definition, and isn't to be looked at, is asked for by a line
pub asked_line : (place : Place) (r : Request) → (r ≡ request.Browse → ⊥) → (r ≡ request.Define → ⊥) → asked_at place r ≡ Asks r
asked_line (Browsed ask) request.Browse look other = absurd (look refl)
asked_line (Browsed ask) r look other = refl
asked_line (Defined h s) request.Define look other = absurd (other refl)
asked_line (Defined h s) r look other = refl
asked_line (CutOff h s) request.Define look other = absurd (other refl)
asked_line (CutOff h s) r look other = refl
asked_line place r look other = refl

-- what the reader was asked to look at
pub asked_look : (place : Place) (ask : Ask) → IsBrowsed place → HasAsk place ask → asked_at place request.Browse ≡ Browses ask
asked_look (Browsed a) ask there is = ap Browses (sym is)
asked_look place ask there is = absurd there

-- the definition that the reader has
pub asked_definition : (place : Place) (d : Definition) → IsDefined place → HasDefinition place d → asked_at place request.Define ≡ Defines d
asked_definition (Defined h s) d there is = ap Defines (sym is)
asked_definition (CutOff h s) d there is = ap Defines (sym is)
asked_definition place d there is = absurd there

-- a dead machine shows nothing but its cause
pub dead_is : {C : Type 0} (cause : Dead) (k : C) (r : Request) → (r ≡ request.End → ⊥) → ((line : ℕ) → r ≡ request.Wrong line → ⊥) → dead_line cause k r ≡ replies (dead_text 0 cause) (gone cause k)
dead_is cause k request.End e w = absurd (e refl)
dead_is cause k (request.Wrong line) e w = absurd (w line refl)
dead_is cause k r e w = refl

-- whatever a dead machine is asked for but to end, it answers so
pub dead_asked : {C : Type 0} (keeping : Keeping C) (install : Install) (cause : Dead) (k : C) (place : Place) (r : Request) → (r ≡ request.End → ⊥) → ((line : ℕ) → r ≡ request.Wrong line → ⊥)
    → answer keeping install (gone cause k) (asked_at place r) ≡ replies (dead_text 0 cause) (gone cause k)
dead_asked keeping install cause k (Browsed ask) request.Browse e w = refl
dead_asked keeping install cause k (Defined h s) request.Define e w = refl
dead_asked keeping install cause k (CutOff h s) request.Define e w = refl
dead_asked keeping install cause k place r e w = dead_is cause k r e w

-- what isn't to be run up to is looked at
pub look_is : {C : Type 0} (keeping : Keeping C) (s : State Births) (k : C) (a : DeclaredAsk) → ((n : ℕ) (x : _) (y : _) → a ≡ declared.Until n x y → ⊥)
    → named_course keeping s k (ask_of a) ≡ replies (asked_text (memory_of (show s)) (keeping.source (memory_of (show s)) k) (ask_of a)) (alive s k)
look_is keeping s k (declared.Object n) other = refl
look_is keeping s k declared.Display other = refl
look_is keeping s k declared.Classes other = refl
look_is keeping s k (declared.Methods side) other = refl
look_is keeping s k (declared.Source side selector) other = refl
look_is keeping s k (declared.Bytecodes side selector) other = refl
look_is keeping s k (declared.Senders selector) other = refl
look_is keeping s k (declared.Until n side selector) other = absurd (other n side selector refl)

-- but where a method's text is asked for, what is shown of one doesn't matter
pub unsourced : (v : View) (f g : Side → List ℕ → Option (List ℕ)) (a : DeclaredAsk) → ((x : _) (y : _) → a ≡ declared.Source x y → ⊥) → asked_text v f (ask_of a) ≡ asked_text v g (ask_of a)
unsourced v f g (declared.Object n) other = refl
unsourced v f g declared.Display other = refl
unsourced v f g declared.Classes other = refl
unsourced v f g (declared.Methods side) other = refl
unsourced v f g (declared.Source side selector) other = absurd (other side selector refl)
unsourced v f g (declared.Bytecodes side selector) other = refl
unsourced v f g (declared.Senders selector) other = refl
unsourced v f g (declared.Until n side selector) other = refl
