use Rattle.std.proofs.Common.{◌≡◌, Err, rules}
use Rattle.st_scope.specs.declared.unread.Unread.TheVariants.{Dies}
use Rattle.st_install.proofs.Growth.{grow_dies, grow_not, grow_then}
use Rattle.st_install.proofs.growing.grown_for.Goals as goal

pub returns-in_err-grows_for : goal.returns-in_err-grows_for
returns-in_err-grows_for g c =
    let e : c.from_residual.result ≡ Err (Dies c.in_err-grows_for.field-0.0) = search rules in
    rw e (grow_dies c.args.dictionary c.args.next (g.M.Memory.view c.args.m.now).objects c.args.selector c.in_err-grows_for.field-0.0 c.in_err-grows_for.ensures)

pub returns-then-branch : goal.returns-then-branch
returns-then-branch g c =
    grow_then c.args.dictionary c.args.next (g.M.Memory.view c.args.m.now).objects c.args.selector c.in_ok-grows_for.field-0 c.in_ok-grows_for.ensures
    c.grown_objects.result c.if-branch.true c.grown_objects.ensures.tells c.grown_objects.ensures.count

pub returns-else-branch : goal.returns-else-branch
returns-else-branch g c =
    grow_not c.args.dictionary c.args.next (g.M.Memory.view c.args.m.now).objects c.args.selector c.in_ok-grows_for.field-0 c.in_ok-grows_for.ensures
    c.new.result.items c.if-branch.false c.new.ensures.items
