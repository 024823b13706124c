use Rattle.std.proofs.Common.{◌+◌, length, true, IsTrue, rules, refl}
use Rattle.st_memory_host.specs.inside.Deeds.{Wrote, Tore, Cut, Synced}
use Rattle.st_memory_host.proofs.Doing.{write_written, write_stops, write_time, cut_cut, cut_stops, cut_time, sync_stops, write_others, cut_others, sync_others, sync_time, nothing_said, no_say_fault, say_part, say_alike, say_stops, say_time}
use Rattle.st_memory_host.proofs.memory.MemHostHost.TheImpl.Goals as goal

pub write_at-tells : goal.write_at-tells
write_at-tells c =
    let name = c.args.name.now in
    let bytes = c.args.bytes.now in
    let size = length name + length bytes in
    let end = c.args.at + length bytes in
    record {
      written = write_written name bytes c.args.at size end c.args.self.now c.new.self.now c.result (IsTrue true) c.ensures.exactly;
      others = λ told. write_others name bytes c.args.at size end c.args.self.now c.new.self.now c.result c.ensures.exactly;
      quiet = λ told. nothing_said (Wrote name c.args.at bytes) (Tore name c.args.at bytes) size end c.args.self.now c.new.self.now c.result c.ensures.exactly refl (λ b. refl);
      stops = λ told. write_stops name bytes c.args.at size end c.args.self.now c.new.self.now c.result c.ensures.exactly;
      time = λ told. write_time name bytes c.args.at size end c.args.self.now c.new.self.now c.result c.ensures.exactly;
      cause = c.ensures.cause;
      say_count = no_say_fault (Wrote name c.args.at bytes) (Tore name c.args.at bytes) size end c.args.self.now c.new.self.now c.result c.ensures.exactly;
    }

pub cut-tells : goal.cut-tells
cut-tells c =
    let name = c.args.name.now in
    record {
      cut = cut_cut name c.args.len (length name) c.args.len c.args.self.now c.new.self.now c.result (IsTrue true) c.ensures.exactly;
      others = λ told. cut_others name c.args.len (length name) c.args.len c.args.self.now c.new.self.now c.result c.ensures.exactly;
      quiet = λ told. nothing_said (Cut name c.args.len) (λ b. Cut name c.args.len) (length name) c.args.len c.args.self.now c.new.self.now c.result c.ensures.exactly refl (λ b. refl);
      stops = λ told. cut_stops name c.args.len (length name) c.args.len c.args.self.now c.new.self.now c.result c.ensures.exactly;
      time = λ told. cut_time name c.args.len (length name) c.args.len c.args.self.now c.new.self.now c.result c.ensures.exactly;
      cause = c.ensures.cause;
      say_count = no_say_fault (Cut name c.args.len) (λ b. Cut name c.args.len) (length name) c.args.len c.args.self.now c.new.self.now c.result c.ensures.exactly;
    }

pub sync-tells : goal.sync-tells
sync-tells c = record {
  synced = search rules;
  alike = search rules;
  others = λ told. sync_others c.args.name.now (length c.args.name.now) 0 c.args.self.now c.new.self.now c.result c.ensures.exactly;
  quiet = λ told. nothing_said (Synced c.args.name.now) (λ b. Synced c.args.name.now) (length c.args.name.now) 0 c.args.self.now c.new.self.now c.result c.ensures.exactly refl (λ b. refl);
  stops = λ told. sync_stops c.args.name.now (length c.args.name.now) 0 c.args.self.now c.new.self.now c.result c.ensures.exactly;
  time = λ told. sync_time c.args.name.now (length c.args.name.now) 0 c.args.self.now c.new.self.now c.result c.ensures.exactly;
  cause = c.ensures.cause;
  say_count = no_say_fault (Synced c.args.name.now) (λ b. Synced c.args.name.now) (length c.args.name.now) 0 c.args.self.now c.new.self.now c.result c.ensures.exactly;
}

pub say-tells : goal.say-tells
say-tells c =
    let bytes = c.args.bytes.now in
    let old = c.args.self.now in
    let new = c.new.self.now in
    record {
      said = search rules;
      part = λ told. say_part bytes old new c.result c.ensures.exactly;
      alike = λ told n. say_alike bytes old new c.result c.ensures.exactly n;
      stops = λ told. say_stops bytes old new c.result c.ensures.exactly;
      time = λ told. say_time bytes old new c.result c.ensures.exactly;
      cause = c.ensures.cause;
      disk_count = search rules;
    }
