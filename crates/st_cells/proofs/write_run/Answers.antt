use Rattle.std.proofs.Common.{◌∙◌, length, refl, arith}
use Rattle.std.proofs.lemmas.Slice.{put_mid-paste}
use Rattle.std.proofs.lemmas.List.Edits.{paste_all}
use Rattle.st_cells.proofs.Written.{run_is}
use Rattle.st_cells.proofs.write_run.Goals as goal

pub returns-clause-words : goal.returns-clause-words
returns-clause-words c =
    let list = c.args.list.now in
    let run = c.args.run.now in
    put_mid-paste c.args.at _ list _ run (length run) c.copy_from_slice.ensures.after (omega arith) refl
    ∙ paste_all list c.args.at run (length run) refl
    ∙ run_is list c.args.at run c.requires
