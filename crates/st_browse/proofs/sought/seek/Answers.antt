use Rattle.std.proofs.Common.{Some, refl, ap, sym, ◌∙◌}
use Rattle.std.specs.Prelude.{option_map}
use Rattle.st_chunk.specs.Asks.{ask_of}
use Rattle.st_browse.specs.Asked.{reply}
use Rattle.st_browse.proofs.Found.{classes_listed, classes_asked}
use Rattle.st_browse.proofs.sought.seek.Goals as goal

pub returns-in-Classes-clause-sought : goal.returns-in-Classes-clause-sought
unfolding reply
returns-in-Classes-clause-sought g c =
    let v = g.M.Memory.view c.args.m.now in
    ap Some (classes_listed v.objects c.globals.result v.head.globals c.globals.ensures.globals) ∙ ap (λ a. reply v (option_map (λ t. t.now) c.args.text) (ask_of a)) (sym c.in-Classes.is)

pub returns-in-Senders-clause-sought : goal.returns-in-Senders-clause-sought
unfolding reply
returns-in-Senders-clause-sought g c =
    let v = g.M.Memory.view c.args.m.now in
    let selector = c.in-Senders.selector.now in
    ap Some (classes_asked v.objects selector selector c.globals-in-Senders.result v.head.globals c.globals-in-Senders.ensures.globals refl)
    ∙ ap (λ a. reply v (option_map (λ t. t.now) c.args.text) (ask_of a)) (sym c.in-Senders.is)
