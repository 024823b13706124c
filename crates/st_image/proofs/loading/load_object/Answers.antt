use Rattle.std.proofs.Common.{◌<◌, length, arith}
use Rattle.st_image.specs.inside.Loads.{fresh_in, filled_in}
use Rattle.st_image.proofs.Tables.{at_puts, puts_puts}
use Rattle.st_image.proofs.loading.load_object.Goals as goal

pub load_fields-requires-clause-at : goal.load_fields-requires-clause-at
load_fields-requires-clause-at g c =
    let k_in : c.args.k < length (g.L.Loader.loaded c.args.loader.now).objects = let a = c.requires.room.places in let t = c.requires.sound.in_table in let sized = c.args.image.now.sized.few in omega arith in
    at_puts (g.L.Loader.loaded c.args.loader.now) (g.L.Loader.loaded c.place_object.new.loader) c.args.k (fresh_in c.args.image.now.head c.args.image.now.bytes.now c.args.k) k_in c.place_object.ensures

pub load_words-requires-clause-at : goal.load_words-requires-clause-at
load_words-requires-clause-at g c =
    let k_in : c.args.k < length (g.L.Loader.loaded c.args.loader.now).objects = let a = c.requires.room.places in let t = c.requires.sound.in_table in let sized = c.args.image.now.sized.few in omega arith in
    let placed = at_puts (g.L.Loader.loaded c.args.loader.now) (g.L.Loader.loaded c.place_object.new.loader) c.args.k (fresh_in c.args.image.now.head c.args.image.now.bytes.now c.args.k) k_in c.place_object.ensures in
    at_puts (g.L.Loader.loaded c.place_object.new.loader) (g.L.Loader.loaded c.load_fields.new.loader) c.args.k (filled_in c.args.image.now.head c.args.image.now.bytes.now c.args.k) placed.place c.load_fields.ensures

pub load_bytes-requires-clause-at : goal.load_bytes-requires-clause-at
load_bytes-requires-clause-at g c =
    let k_in : c.args.k < length (g.L.Loader.loaded c.args.loader.now).objects = let a = c.requires.room.places in let t = c.requires.sound.in_table in let sized = c.args.image.now.sized.few in omega arith in
    let placed = at_puts (g.L.Loader.loaded c.args.loader.now) (g.L.Loader.loaded c.place_object.new.loader) c.args.k (fresh_in c.args.image.now.head c.args.image.now.bytes.now c.args.k) k_in c.place_object.ensures in
    at_puts (g.L.Loader.loaded c.place_object.new.loader) (g.L.Loader.loaded c.load_fields.new.loader) c.args.k (filled_in c.args.image.now.head c.args.image.now.bytes.now c.args.k) placed.place c.load_fields.ensures

pub returns-then-is_words : goal.returns-then-is_words
returns-then-is_words g c =
    puts_puts (g.L.Loader.loaded c.args.loader.now) (g.L.Loader.loaded c.load_fields.new.loader) (g.L.Loader.loaded c.load_words.new.loader) c.args.k (filled_in c.args.image.now.head c.args.image.now.bytes.now c.args.k) _
    (puts_puts (g.L.Loader.loaded c.args.loader.now) (g.L.Loader.loaded c.place_object.new.loader) (g.L.Loader.loaded c.load_fields.new.loader) c.args.k (fresh_in c.args.image.now.head c.args.image.now.bytes.now c.args.k) (filled_in c.args.image.now.head c.args.image.now.bytes.now c.args.k) c.place_object.ensures c.load_fields.ensures) c.load_words.ensures

pub returns-else-is_words : goal.returns-else-is_words
returns-else-is_words g c =
    puts_puts (g.L.Loader.loaded c.args.loader.now) (g.L.Loader.loaded c.load_fields.new.loader) (g.L.Loader.loaded c.load_bytes.new.loader) c.args.k (filled_in c.args.image.now.head c.args.image.now.bytes.now c.args.k) _
    (puts_puts (g.L.Loader.loaded c.args.loader.now) (g.L.Loader.loaded c.place_object.new.loader) (g.L.Loader.loaded c.load_fields.new.loader) c.args.k (fresh_in c.args.image.now.head c.args.image.now.bytes.now c.args.k) (filled_in c.args.image.now.head c.args.image.now.bytes.now c.args.k) c.place_object.ensures c.load_fields.ensures) c.load_bytes.ensures
