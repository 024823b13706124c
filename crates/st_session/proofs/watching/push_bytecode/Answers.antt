use Rattle.std.proofs.Common.{refl, sym, ap, ◌∙◌, append-nil}
use Rattle.std.specs.Prelude.{option_map}
use Rattle.st_call.proofs.Pushing.{push_none, push_as}
use Rattle.st_debug.specs.Watched.{at_of, at_text}
use Rattle.st_session.specs.inside.Stretches.{words_of}
use Rattle.st_session.specs.Watching.{bytecode_texts}
use Rattle.st_session.proofs.Looking.{same_watched}
use Rattle.st_session.proofs.watching.push_bytecode.Goals as goal

pub returns-in-Ok : goal.returns-in-Ok
returns-in-Ok g c =
    let w = c.args.machine.now.world in
    let seen = ap (option_map at_of) (sym c.in-Some.is) ∙ (c.watch.ensures w ∙ same_watched g.M.Memory.view w c.memory.ensures c.frame.ensures) in
    record { pushes = push_as c.in-Ok.ensures (sym (append-nil (at_text (at_of c.in-Some.at))) ∙ ap (λ o. words_of (bytecode_texts o)) seen); stops = refl }

pub returns-in-Err : goal.returns-in-Err
returns-in-Err g c =
    let w = c.args.machine.now.world in
    let seen = ap (option_map at_of) (sym c.in-Some.is) ∙ (c.watch.ensures w ∙ same_watched g.M.Memory.view w c.memory.ensures c.frame.ensures) in
    record { pushes = push_as c.in-Err.ensures (sym (append-nil (at_text (at_of c.in-Some.at))) ∙ ap (λ o. words_of (bytecode_texts o)) seen); stops = tt }

pub returns-in-None : goal.returns-in-None
returns-in-None g c =
    let w = c.args.machine.now.world in
    let seen = ap (option_map at_of) (sym c.in-None.is) ∙ (c.watch.ensures w ∙ same_watched g.M.Memory.view w c.memory.ensures c.frame.ensures) in
    record { pushes = push_as (push_none g.H.Host c.args.host.now (g.met.H.Host.only_now c.args.host.now)) (ap (λ o. words_of (bytecode_texts o)) seen); stops = refl }
