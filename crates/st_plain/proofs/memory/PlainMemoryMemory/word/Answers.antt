use Rattle.st_model.specs.Values.{value}
use Rattle.st_plain.specs.inside.Plain.{plain_view}
use Rattle.st_plain.proofs.Filled.{word_within}
use Rattle.st_plain.proofs.memory.PlainMemoryMemory.word.Goals as goal

pub unit-requires : goal.unit-requires
unit-requires c =
    let m = c.args.self.now in
    let r = c.requires in record { live = r.live; range = word_within (plain_view m.contents) (value c.args.o) c.args.at m.whole r.live r.kind r.range }
