use Rattle.std.proofs.Common.{sym, ap, ◌∙◌}
use Rattle.std.specs.List.{list_any}
use Rattle.st_model.specs.Values.{value}
use Rattle.st_model.specs.View.{object_of}
use Rattle.st_parts.specs.Cutting.{codes_of}
use Rattle.st_browse.specs.Senders.{is_sent, is_special}
use Rattle.st_browse.proofs.Parting.{none_special}
use Rattle.st_browse.proofs.sending.is_sent.Goals as goal

pub returns-in-None : goal.returns-in-None
unfolding is_sent
returns-in-None g c =
    let us = (object_of (g.M.Memory.view c.args.m.now).objects (value c.args.body.method)).units in
    sym (none_special (codes_of us)) ∙ ap (λ k. list_any (is_special k) (codes_of us)) (sym c.in-None.is ∙ c.special_selector.ensures.place)
