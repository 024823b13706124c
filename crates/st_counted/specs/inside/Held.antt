-- What is held, by the words.
use Rattle.std.specs.Prelude.{List, map}
use Rattle.st_model.specs.declared.oop.Oop.{Oop}
use Rattle.st_model.specs.Values.{value}
use Rattle.st_model.specs.View.{Held}
use Rattle.st_counted.specs.declared.roots.Places.{Places}
use Rattle.st_counted.specs.declared.roots.Roots.{Roots}

abbrev pub held_words : Places → List Oop → Held
held_words p pending = record {
  active = value p.active;
  home = value p.home;
  method = value p.method;
  receiver = value p.receiver;
  devices = record {
    new_process = value p.new_process;
    display = value p.display;
    cursor = value p.cursor;
    input_semaphore = value p.input_semaphore;
    timer = value p.timer;
    low_space = value p.low_space;
    pending = map value pending;
  };
}

abbrev pub held_of : Roots → Held
held_of r = held_words r.places r.pending.items
