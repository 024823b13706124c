use Rattle.std.proofs.Common.{◌≡◌, ◌-◌, ◌∷◌, ◌∙◌, length, take, drop, subst, sym, ap}
use Rattle.st_kernel_text.specs.inside.Views.{part_of, parts_of}
use Rattle.st_kernel.specs.Built.{without_room, unfinished}
use Rattle.st_kernel.specs.inside.Answered.{IsFaultOf}
use Rattle.st_kernel.proofs.Rests.{rest_parts, rest_none}
use Rattle.st_kernel.proofs.image.without_room.Goals as goal

pub returns-in-Err : goal.returns-in-Err
returns-in-Err c =
    let cause = c.args.kernel.now.cause in
    let rest = c.loop-rest.rest.now in
    let later = parts_of (take (length rest - 1) (drop 1 rest)) in
    let all : without_room cause 0 1 (parts_of c.args.kernel.now.parts.items) ≡ without_room cause c.loop-rest.opened c.loop-rest.chunk (part_of c.part-item.result ∷ later) =
    c.loop-rest.invariant.is
    ∙ ap (without_room cause c.loop-rest.opened c.loop-rest.chunk) (rest_parts rest c.part-item.result c.in-len1-up.len_at_least c.part-item.is) in
    subst (λ x. IsFaultOf x c.in-Err.fault) (sym all) (c.in-Err.ensures cause later)

pub returns : goal.returns
unfolding without_room
returns c =
    let cause = c.args.kernel.now.cause in
    let all : without_room cause 0 1 (parts_of c.args.kernel.now.parts.items) ≡ unfinished c.loop-rest.chunk cause =
    c.loop-rest.invariant.is ∙ ap (without_room cause c.loop-rest.opened c.loop-rest.chunk) (rest_none c.loop-rest.rest.now c.in_default.len_below) in
    subst (λ x. IsFaultOf x c.unfinished.result) (sym all) c.unfinished.ensures
