use Rattle.std.proofs.Common.{◌∙◌, ap, sym}
use Rattle.st_model.specs.Values.{word, value}
use Rattle.st_model.specs.View.{View}
use Rattle.st_bitblt.proofs.Told.{copied-told, copied-table, refused-told, refused-table}
use Rattle.st_bitblt.proofs.copying.copy_bits.Goals as goal

pub returns-in-Ok-clause-told : goal.returns-in-Ok-clause-told
returns-in-Ok-clause-told g c =
    copied-told (g.M.Memory.view c.args.m.now).objects (value c.args.bit_blt) (word c.from.result) c.from.ensures c.in-Ok.told c.in-Ok.ensures.does

pub returns-in-Ok-clause-objects : goal.returns-in-Ok-clause-objects
returns-in-Ok-clause-objects g c =
    ap (λ (v : View). v.objects) c.paint.ensures
    ∙ sym (copied-table (g.M.Memory.view c.args.m.now).objects (value c.args.bit_blt) (word c.from.result) c.from.ensures c.in-Ok.told c.in-Ok.ensures.does _ c.in-Ok.ensures.bits c.in-Ok.ensures.is.destination.bits)

pub returns-in-Err-clause-told : goal.returns-in-Err-clause-told
returns-in-Err-clause-told g c =
    refused-told (g.M.Memory.view c.args.m.now).objects (value c.args.bit_blt) (word c.from.result) c.from.ensures c.in-Err.field-0 c.in-Err.ensures.does

pub returns-in-Err-clause-objects : goal.returns-in-Err-clause-objects
returns-in-Err-clause-objects g c =
    refused-table (g.M.Memory.view c.args.m.now).objects (value c.args.bit_blt) (word c.from.result) c.from.ensures c.in-Err.field-0 c.in-Err.ensures.does
