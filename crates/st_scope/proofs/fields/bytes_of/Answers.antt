use Rattle.std.proofs.Common.{◌≡◌, true, false, rules, subst, sym}
use Rattle.st_model.specs.Values.{value}
use Rattle.st_model.specs.Objects.{is_bytes}
use Rattle.st_model.specs.Machine.{Went}
use Rattle.st_model.specs.Table.{table}
use Rattle.st_model.specs.View.{object_of}
use Rattle.st_scope.specs.Tables.{bytes_of}
use Rattle.st_scope.specs.inside.Findings.{text_of}
use Rattle.st_scope.proofs.Finding.{first_dies}
use Rattle.st_scope.proofs.TextsOf.{no_bytes, its_bytes}
use Rattle.st_scope.proofs.fields.bytes_of.Goals as goal

pub returns-in_err-check_live : goal.returns-in_err-check_live
unfolding bytes_of
returns-in_err-check_live g c = first_dies text_of (λ (u : Unit {0}). object_of (g.M.Memory.view c.args.m.now).objects (value c.args.o)) _ _ _ _ c.in_err-check_live.field-0.0 (search rules) c.in_err-check_live.ensures.object

pub returns-then-not-is_bytes : goal.returns-then-not-is_bytes
returns-then-not-is_bytes g c =
    let t = (g.M.Memory.view c.args.m.now).objects in
    let d = c.kind.ensures.kind in
    let e = c.is_bytes.ensures in
    let f = c.if-not-is_bytes.true in
    let kind : is_bytes (object_of t (value c.args.o)).kind ≡ false = cc in
    no_bytes (value c.args.o) t tt c.in_ok-check_live.ensures.object kind

pub returns : goal.returns
returns g c =
    let t = (g.M.Memory.view c.args.m.now).objects in
    let d = c.kind.ensures.kind in
    let e = c.is_bytes.ensures in
    let f = c.if-not-is_bytes.false in
    let kind : is_bytes (object_of t (value c.args.o)).kind ≡ true = cc in
    λ s q. subst (λ us. (bytes_of table (value c.args.o)).run s ≡ Went us s) (sym c.in_ok-text.ensures) (its_bytes (value c.args.o) t tt c.in_ok-check_live.ensures.object kind s q)
