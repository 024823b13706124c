use Rattle.st_model.specs.Values.{value}
use Rattle.st_browse.proofs.Forms.{form_short, forms}
use Rattle.std.proofs.Common.{arith}
use Rattle.st_browse.proofs.display.form_at.Goals as goal

pub returns-else-height-row_words-clause-form : goal.returns-else-height-row_words-clause-form
returns-else-height-row_words-clause-form g c =
    form_short (g.M.Memory.view c.args.m.now).objects (value c.args.o) (value c.in_ok-bits.bits) c.in_ok-width.width c.in_ok-bits.ensures.field c.in_ok-width.ensures.number
    c.in_ok-height.height c.in_ok-height.ensures.number c.in_ok-count.ensures.words c.in_ok-count.count c.row_words.result c.in_ok-count.ensures.all c.row_words.ensures.words c.if-height-row_words.false

pub returns-in_err-bits-clause-form : goal.returns-in_err-bits-clause-form
returns-in_err-bits-clause-form g c = grind (arith, forms)

pub returns-in_err-width-clause-form : goal.returns-in_err-width-clause-form
returns-in_err-width-clause-form g c = grind (arith, forms)

pub returns-in_err-height-clause-form : goal.returns-in_err-height-clause-form
returns-in_err-height-clause-form g c = grind (arith, forms)

pub returns-in_err-count-clause-form : goal.returns-in_err-count-clause-form
returns-in_err-count-clause-form g c = grind (arith, forms)

pub returns-then-height-row_words-clause-form : goal.returns-then-height-row_words-clause-form
returns-then-height-row_words-clause-form g c = grind (arith, forms)

pub returns-then-height-row_words-clause-there : goal.returns-then-height-row_words-clause-there
returns-then-height-row_words-clause-there g c = grind (arith, forms)
