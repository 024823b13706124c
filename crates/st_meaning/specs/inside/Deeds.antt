-- Deeds and answers in the code, as definitions see them, and how a run that has ended is told.
use Rattle.std.specs.Prelude.{◌≡◌, List, map}
use Rattle.st_meaning.specs.declared.deed.Answer.{Answer}
use Rattle.st_meaning.specs.declared.deed.Deed.{Deed}
use Rattle.st_meaning.specs.declared.deed.Deed.TheVariants.{Send, Assign, Block, Return, Unsure}
use Rattle.st_meaning.specs.declared.deed.Value.{Value}
use Rattle.st_meaning.specs.declared.fault.MeaningFault.{MeaningFault}
use Rattle.st_meaning.specs.declared.fault.MeaningFault.TheVariants.{Long, OutOfMemory}
use Rattle.st_meaning.specs.inside.Values.{AnswerView, DeedView, sent, assigned, made, returned, unsure}
use Rattle.st_meaning.specs.inside.Runs.{Outcome, over, long, stuck}

abbrev pub answer_view : Answer → AnswerView
answer_view a = record { value = a.value; changes = a.changes.items }

abbrev pub answers_view : List Answer → List AnswerView
answers_view list = map answer_view list

abbrev pub deed_view : Deed → DeedView
deed_view (Send receiver selector arguments above) = sent receiver selector.items arguments.items above
deed_view (Assign p v) = assigned p v
deed_view (Block n) = made n
deed_view (Return v) = returned v
deed_view (Unsure v) = unsure v

abbrev pub deeds_view : List Deed → List DeedView
deeds_view deeds = map deed_view deeds

-- a run that is over, or where the code can't go on, has this list of deeds
abbrev pub Lists : Outcome Value → List DeedView → Type 0
Lists (over g) deeds = deeds ≡ g.deeds
Lists (stuck g) deeds = deeds ≡ g.deeds
Lists _ deeds = ⊥

-- a fault of this run: it is too long; memory may always be wanting
abbrev pub IsFault : Outcome Value → MeaningFault → Type 0
IsFault o Long = o ≡ long
IsFault o OutOfMemory = Unit {0}
