use Rattle.std.proofs.Common.{◌<◌, length, length-set, ◌∙◌, arith}
use Rattle.st_draft.proofs.Renaming.{exchanged_more, of_more, even_more}
use Rattle.st_draft.proofs.exchanges.Exchanges.add.Goals as goal

pub returns-clause-more : goal.returns-clause-more
returns-clause-more c =
    let e = c.args.self.now in
    let within : e.count < length e.pairs = let a = e.sizes in let b = c.requires.room in omega (arith, a, b) in
    exchanged_more e.pairs e.count c.args.pair within

pub returns-clause-of : goal.returns-clause-of
returns-clause-of c =
    let e = c.args.self.now in
    let within : e.count < length e.pairs = let a = e.sizes in let b = c.requires.room in omega (arith, a, b) in
    of_more e.pairs e.count c.args.pair within

pub invariant_of-self : goal.invariant_of-self
invariant_of-self c =
    let e = c.args.self.now in
    let within : e.count < length e.pairs = let a = e.sizes in let b = c.requires.room in omega (arith, a, b) in
    record {
      few = let b = c.requires.room in omega (arith, b);
      sizes = length-set e.pairs e.count c.args.pair ∙ e.sizes;
      even = even_more e.pairs e.count c.args.pair within e.even c.requires.first c.requires.second;
    }
