use Rattle.std.proofs.Common.{rules, ◌≡◌, ◌∙◌, Err, length, subst, sym, ap, arith}
use Rattle.std.specs.Prelude.{IfErr}
use Rattle.std.proofs.Math.ListN.{length-map}
use Rattle.st_model.specs.Objects.{nil}
use Rattle.st_model.specs.Machine.{empty_world}
use Rattle.st_frames.specs.inside.Shown.{shown}
use Rattle.st_install.specs.Defining.{installed}
use Rattle.st_kernel_text.specs.Definitions.{AreDefinitions}
use Rattle.st_kernel_text.specs.Texts.{Account}
use Rattle.st_kernel_text.specs.inside.Views.{account_of, part_of}
use Rattle.st_kernel_text.proofs.Account.{few_parts, good_parts}
use Rattle.st_kernel.specs.Built.{built, no_side}
use Rattle.st_kernel.specs.inside.Answered.{IsBuilt, IsFaultOf}
use Rattle.st_kernel.proofs.Whole.{first_quiet, first_underway, followed, with_room, roomless}
use Rattle.st_kernel.proofs.image.build.Goals as goal

pub install_methods-requires-clause-good : goal.install_methods-requires-clause-good
install_methods-requires-clause-good g c =
    subst (λ (a : Account). AreDefinitions no_side a.parts) (sym c.in_ok-kernel.ensures) (good_parts c.args.text.now no_side)

pub install_methods-requires-clause-short : goal.install_methods-requires-clause-short
install_methods-requires-clause-short g c =
    let same = ap (λ (a : Account). length a.parts) c.in_ok-kernel.ensures in
    let long = length-map c.in_ok-kernel.kernel.parts.items part_of in
    omega (arith, same, long, few_parts c.args.text.now, c.requires.short)

pub install_methods-requires-clause-quiet : goal.install_methods-requires-clause-quiet
install_methods-requires-clause-quiet g c =
    let a = account_of c.in_ok-kernel.kernel in
    first_quiet (g.L.Done.Memory.view c.in-Ok.m) a c.in-Ok.ensures.made

pub returns-in_err-install_methods-in-Ok-clause-refused : goal.returns-in_err-install_methods-in-Ok-clause-refused
returns-in_err-install_methods-in-Ok-clause-refused g c =
    let a = account_of c.in_ok-kernel.kernel in
    let v = g.L.Done.Memory.view c.in-Ok.m in
    let view = c.in-Ok.ensures.made in
    let room = c.in-Ok.ensures.room in
    let e : c.from_residual-in_err-install_methods-in-Ok.result ≡ Err c.in_err-install_methods-in-Ok.field-0.0 = search rules in
    let fault = c.in_err-install_methods-in-Ok.ensures.follows (followed installed a) (first_underway installed a v (g.met.L.Done.Memory.whole c.in-Ok.m) view) in
    subst (λ r. IfErr r (IsFaultOf (built installed c.args.text.now))) (sym e)
    (subst (λ w. IsFaultOf w c.in_err-install_methods-in-Ok.field-0.0) (with_room installed a c.args.text.now c.in_ok-kernel.ensures room) fault)

pub returns-in-Ok-clause-built : goal.returns-in-Ok-clause-built
returns-in-Ok-clause-built g c =
    let a = account_of c.in_ok-kernel.kernel in
    let v = g.L.Done.Memory.view c.in-Ok.m in
    let view = c.in-Ok.ensures.made in
    let room = c.in-Ok.ensures.room in
    let image = c.in_ok-install_methods-in-Ok.ensures.follows (followed installed a) (first_underway installed a v (g.met.L.Done.Memory.whole c.in-Ok.m) view) in
    subst (λ w. IsBuilt w (g.L.Done.Memory.view c.install_methods.new.m)) (with_room installed a c.args.text.now c.in_ok-kernel.ensures room) image

pub returns-in-Ok-clause-starts : goal.returns-in-Ok-clause-starts
returns-in-Ok-clause-starts g c =
    let begun = c.in_ok-install_methods-in-Ok.ensures.begun in
    (shown (g.L.Done.Memory.view c.install_methods.new.m) begun.frame (empty_world nil), begun.fetched)

pub without_room-requires : goal.without_room-requires
without_room-requires g c =
    let same = ap (λ (a : Account). length a.parts) c.in_ok-kernel.ensures in
    let long = length-map c.in_ok-kernel.kernel.parts.items part_of in
    omega (arith, same, long, few_parts c.args.text.now, c.requires.short)

pub returns-in-Err-NoRoom-clause-refused : goal.returns-in-Err-NoRoom-clause-refused
returns-in-Err-NoRoom-clause-refused g c =
    let a = account_of c.in_ok-kernel.kernel in
    let none = c.in-Err-NoRoom.ensures.refused c.in-Err-NoRoom.field-0-is in
    subst (λ w. IsFaultOf w c.without_room.result) (roomless installed a c.args.text.now c.in_ok-kernel.ensures none) c.without_room.ensures
