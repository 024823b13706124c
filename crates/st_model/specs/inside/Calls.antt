-- What a function of the code does, as a step over the table.
use Rattle.std.specs.Prelude.{◌≡◌, Result, Ok, Err}
use Rattle.st_model.specs.declared.dead.Dead.{Dead}
use Rattle.st_model.specs.Machine.{Head, State, Transition, Died, Went, Step}
use Rattle.st_model.specs.Table.{Table}

-- the transition that a result of the code stands for, where f gives what a value of the code means
abbrev pub transition_of : {A B : Type 0} → (B → A) → Result B Dead → State Table → Transition (State Table) A
transition_of f (Ok v) new = Went (f v) new
transition_of f (Err cause) new = Died cause

-- the function is this step: it answers what its result means, or dies of the cause in its error
abbrev pub Does : {A B : Type 0} → Step Table A → (B → A) → State Table → Result B Dead → State Table → Type 0
Does m f old result new = m.run old ≡ transition_of f result new

-- a result that means itself
abbrev pub itself : {A : Type 0} → A → A
itself a = a

-- the function only reads a table: from each state over it, it is this step
abbrev pub Reads : {A B : Type 0} → Step Table A → (B → A) → Table → Result B Dead → Type 0
Reads m f t result = (s : State Table) → s.memory ≡ t → Does m f s result s

-- the function changes one table into another: from each state over the first, with this head, it is this step
abbrev pub Changes : {A B : Type 0} → Step Table A → (B → A) → Table → Head → Result B Dead → Table → Type 0
Changes m f old head result new = (s : State Table) → s.memory ≡ old → s.head ≡ head → Does m f s result (record s { memory = new })
