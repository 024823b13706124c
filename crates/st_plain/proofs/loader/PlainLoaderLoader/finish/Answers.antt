use Rattle.st_model.proofs.LoadingLemmas.{whole_loaded}
use Rattle.st_plain.specs.inside.Plain.{plain_view}
use Rattle.st_plain.proofs.loader.PlainLoaderLoader.finish.Goals as goal

pub new-requires : goal.new-requires
new-requires c =
    let l = c.args.self in
    record {
      whole = whole_loaded (plain_view l.contents) l.loading c.requires;
      long = record { objects = record { fields = l.room.fields; units = l.room.units }; spare = l.spare };
    }
