use Rattle.std.proofs.Common.{Some, ap, ◌∙◌}
use Rattle.std.specs.Prelude.{option_map}
use Rattle.st_model.specs.Values.{value}
use Rattle.st_browse.specs.Replies.{methods_text}
use Rattle.st_browse.proofs.Found.{methods_listed}
use Rattle.st_browse.proofs.sought.seek_methods.Goals as goal

pub returns-clause-sought : goal.returns-clause-sought
returns-clause-sought g c =
    let t = (g.M.Memory.view c.args.m.now).objects in
    ap Some (methods_listed t c.methods_of.result (value c.in_ok-class.class) c.methods_of.ensures.methods) ∙ ap (option_map (methods_text t)) c.in_ok-class.ensures
