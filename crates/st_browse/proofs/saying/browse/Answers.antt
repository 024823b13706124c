use Rattle.std.proofs.Common.{ℕ, List, sym, subst}
use Rattle.std.specs.Prelude.{Ok, Err}
use Rattle.st_chunk.specs.Asks.{Ask}
use Rattle.st_browse.specs.declared.saying.BrowseFault.{BrowseFault}
use Rattle.st_browse.specs.declared.saying.BrowseFault.TheVariants as fault
use Rattle.st_browse.specs.inside.Answering.{Answers}
use Rattle.st_browse.specs.Asked.{IsTextFor, reply}
use Rattle.st_browse.proofs.saying.browse.Goals as goal

pub returns-in-Ok-clause-answers : goal.returns-in-Ok-clause-answers
returns-in-Ok-clause-answers g c = λ text is.
    let asked = c.lend.ensures in
    let said = c.in-Ok.ensures.answers text (subst (λ (q : Ask). IsTextFor c.args.changes.now.listed q text) (sym asked) is) in
    subst (λ (q : Ask). Answers {E = BrowseFault} g.H.Host (reply (g.M.Memory.view c.args.m.now) text q) c.args.host.now c.browse_line.new.host (Ok c.in-Ok.found)) asked
    (record { there = said.there; all = said.all; says = said.says })

pub returns-in-Err-clause-answers : goal.returns-in-Err-clause-answers
returns-in-Err-clause-answers g c = λ text is.
    let asked = c.lend.ensures in
    let said = c.in-Err.ensures.answers text (subst (λ (q : Ask). IsTextFor c.args.changes.now.listed q text) (sym asked) is) in
    subst (λ (q : Ask). Answers {E = BrowseFault} g.H.Host (reply (g.M.Memory.view c.args.m.now) text q) c.args.host.now c.browse_line.new.host (Err fault.Say)) asked
    (record { there = said.there; all = said.all; says = said.says })
