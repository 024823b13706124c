use Rattle.std.proofs.Common.{arith}
use Rattle.std.proofs.lemmas.Result.{err_from_is_err_and}
use Rattle.st_model.specs.Values.{word}
use Rattle.st_draft.specs.inside.Noted.{drafted}
use Rattle.st_draft.proofs.Moved.{lacks_now, few_now, has_now}
use Rattle.st_draft.proofs.draft.Draft.check_fields.Goals as goal

pub returns-in_err-fields-clause-lacks : goal.returns-in_err-fields-clause-lacks
returns-in_err-fields-clause-lacks g c =
    let d = c.args.self.now in
    let now = drafted (g.M.Memory.view d.base.now).objects d.notes d.exchanges in
    let p = err_from_is_err_and c.from_residual.result c.from_residual.ensures.1 in
    rw (p.1, p.2) (lacks_now now (word c.args.o) _ c.args.from c.args.n c.in_err-fields.ensures.counts)

pub returns-then-fields-from-clause-lacks : goal.returns-then-fields-from-clause-lacks
returns-then-fields-from-clause-lacks g c =
    let d = c.args.self.now in
    let now = drafted (g.M.Memory.view d.base.now).objects d.notes d.exchanges in
    let l = c.if-fields-from.true in
    few_now now (word c.args.o) c.in_ok-fields.fields c.args.from c.args.n c.in_ok-fields.ensures.counts (omega (arith, l))

pub returns-then-fields-from-2-clause-lacks : goal.returns-then-fields-from-2-clause-lacks
returns-then-fields-from-2-clause-lacks g c =
    let d = c.args.self.now in
    let now = drafted (g.M.Memory.view d.base.now).objects d.notes d.exchanges in
    let l = c.if-fields-from.false in
    let m = c.if-fields-from-2.true in
    few_now now (word c.args.o) c.in_ok-fields.fields c.args.from c.args.n c.in_ok-fields.ensures.counts (omega (arith, l, m))

pub returns-clause-has : goal.returns-clause-has
returns-clause-has g c =
    let d = c.args.self.now in
    let now = drafted (g.M.Memory.view d.base.now).objects d.notes d.exchanges in
    let l = c.if-fields-from.false in
    let m = c.if-fields-from-2.false in
    has_now now (word c.args.o) c.in_ok-fields.fields c.args.from c.args.n c.in_ok-fields.ensures.counts (omega (arith, l, m))
