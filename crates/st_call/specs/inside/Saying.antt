-- What a call does that adds a text to what is still to be said.
use Rattle.std.specs.Prelude.{◌≡◌, ℕ, List, [], ◌++◌, Result, OnOk, OnErr}
use Rattle.st_host.specs.Counts.{HasCause}
use Rattle.st_host.specs.Runs.{SaysAll}
use Rattle.st_host.specs.inside.Telling.{Says}
use Rattle.st_host.specs.declared.host.Host.{Ghosts}
use Rattle.st_model.specs.Values.{Value, Small, Ref}
use Rattle.st_model.specs.Table.{Table, entry}
use Rattle.st_model.specs.Text.{said_text}

-- Some bytes were said whole: with those that are held back now they are those that were held back, and
-- then the text.
pub record Adds {D : Type 0} (host : Ghosts D) (text : List ℕ) (old new : D) (before after : List ℕ)
    : Type 0 where
  pub said : List ℕ
  pub joined : before ++ text ≡ said ++ after
  pub all : SaysAll host said old new
  pub says : Says host said old new

-- A run of calls that adds a text to the bytes that are held back, or fails. Where it failed, no more was
-- said than some first bytes of those that were held back and of the text.
pub record Pushes {D E : Type 0} (host : Ghosts D) (text : List ℕ) (old new : D) (before after : List ℕ)
    (result : Result Unit E) : Type 0 where
  pub adds : OnOk result (Adds host text old new before after)
  pub cut : OnErr result (Says host (before ++ text) old new)
  pub cause : HasCause (host.say_faults old) (host.say_faults new) result

-- the line that says the bytes of a table's object
abbrev pub said_in : Table → Value → List ℕ
said_in t (Small n) = []
said_in t (Ref n) = said_text (entry t n)
