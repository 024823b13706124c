-- What a session says of what it is asked to look at.
use Rattle.std.specs.Prelude.{ℕ, List, Option, unwrap_or}
use Rattle.st_model.specs.Machine.{State}
use Rattle.st_model.specs.Table.{Table}
use Rattle.st_model.specs.View.{Held, View}
use Rattle.st_frames.specs.Naming.{filled}
use Rattle.st_chunk.specs.Asks.{Side, Ask}
use Rattle.st_browse.specs.Asked.{reply}
use Rattle.st_call.specs.Replies.{missing_text}
use Rattle.st_session.specs.Sources.{text_for}

-- what a memory shows of it, and such texts of a method, or that it is missing
abbrev pub asked_text : View → (Side → List ℕ → Option (List ℕ)) → Ask → List ℕ
asked_text v source ask = unwrap_or (reply v (text_for source ask) ask) missing_text

-- a state as its memory has it: the registers and what the world names are held
abbrev pub held_by : State Table → Held
held_by s = record {
  active = s.registers.active;
  home = s.registers.home;
  method = s.registers.method;
  receiver = s.registers.receiver;
  devices = filled s.world.devices;
}

abbrev pub memory_of : State Table → View
memory_of s = record { objects = s.memory; held = held_by s; head = s.head }
