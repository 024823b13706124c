use Rattle.std.proofs.Common.{length, refl}
use Rattle.st_model.specs.Image.{image_head}
use Rattle.st_image.proofs.Begun.{begun}
use Rattle.st_recover.specs.Replays.{replay}
use Rattle.st_recover.proofs.laws.opened_reopens.Goals as goal

pub returns : goal.returns
returns c install name commit f opens =
    let b = begun (image_head commit.image) commit.image opens.readable.formed in
    (replay install b.0 (length commit.before) commit.definitions, record { readable = opens.readable; births = b.0; begins = b.1; replays = refl })
