use Rattle.std.proofs.Common.{◌≡◌, ◌==◌, Bool, true, false, Option, Some, None, Err, length, sym, ap, ◌∙◌, rules}
use Rattle.st_meaning.specs.inside.Meanings.{most}
use Rattle.st_meaning.specs.inside.Courses.{boolean, IsLongTest}
use Rattle.st_meaning.proofs.Continuing.{on_true, on_false, on_none, on_none_long, faulted}
use Rattle.st_meaning.proofs.walking.test.Goals as goal

pub returns-then-holds-clause-jumps : goal.returns-then-holds-clause-jumps
returns-then-holds-clause-jumps c =
    let is : boolean c.args.value ≡ Some true = sym c.in-Some.ensures ∙ ap (λ (b : Bool). Some b) c.if-holds.true in
    on_true c.args.on c.args.value c.args.course.now is

pub returns-else-holds-clause-jumps : goal.returns-else-holds-clause-jumps
returns-else-holds-clause-jumps c =
    let is : boolean c.args.value ≡ Some false = sym c.in-Some.ensures ∙ ap (λ (b : Bool). Some b) c.if-holds.false in
    on_false c.args.on c.args.value c.args.course.now is

pub returns-in_default-clause-jumps : goal.returns-in_default-clause-jumps
returns-in_default-clause-jumps c =
    let is : boolean c.args.value ≡ None = search (rules, c.in_default.ensures, c.in_default.is) in
    on_none c.args.on c.args.value c.args.course.now c.did.new.self is c.in_ok-did.ensures.few c.in_ok-did.ensures.went

pub returns-in_err-did-clause-long : goal.returns-in_err-did-clause-long
returns-in_err-did-clause-long c =
    let is : boolean c.args.value ≡ None = search (rules, c.in_default.ensures, c.in_default.is) in
    let fault = c.in_err-did.field-0.0 in
    let e : c.from_residual.result ≡ Err fault = search rules in
    faulted (Option Bool) ((length c.args.course.now.deeds.items == most) ≡ true) (IsLongTest c.args.on c.args.value c.args.course.now) c.from_residual.result fault e
    (λ h. on_none_long c.args.on c.args.value c.args.course.now is h) c.in_err-did.ensures.long
