use Rattle.std.proofs.Common.{◌≡◌, true}
use Rattle.st_model.specs.Values.{value}
use Rattle.st_model.specs.Objects.{is_bytes}
use Rattle.st_model.specs.View.{is_live, object_of}
use Rattle.st_scope.proofs.TextsAt.{text-there}
use Rattle.st_scope.proofs.reading.is_text.Goals as goal

pub returns : goal.returns
returns g c =
    let t = (g.M.Memory.view c.args.m.now).objects in
    let a = c.live.ensures in
    let b = c.if-not-live.false in
    let live : is_live t (value c.args.o) ≡ true = cc in
    let d = c.kind.ensures.kind in
    let e = c.is_bytes.ensures in
    let f = c.if-not-is_bytes.false in
    let kind : is_bytes (object_of t (value c.args.o)).kind ≡ true = cc in
    text-there t (value c.args.o) c.args.text.now c.has_bytes.result live kind c.has_bytes.ensures.same c.has_bytes.ensures.other
