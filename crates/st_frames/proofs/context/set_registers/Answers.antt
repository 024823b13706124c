use Rattle.std.proofs.Common.{rules, ◌≡◌, true}
use Rattle.st_model.specs.Steps.{are_there}
use Rattle.st_frames.specs.inside.Rows.{fetched_in}
use Rattle.st_frames.proofs.Homes.{active-narrow, home-narrow, method-narrow, receiver-narrow}
use Rattle.st_frames.proofs.context.set_registers.Goals as goal

pub invariant_of-r : goal.invariant_of-r
invariant_of-r g c =
    let m = g.O.Objects.names in
    let t = g.O.Objects.table c.args._m.now in
    let f = c.args.new.now in
    let there : are_there m t (fetched_in f) ≡ true = search rules in
    record {
      active_narrow = active-narrow m t f there;
      home_narrow = home-narrow m t f there;
      method_narrow = method-narrow m t f there;
      receiver_narrow = receiver-narrow m t f there;
      ip_low = search rules;
      ip_high = search rules;
      sp_low = search rules;
      sp_high = search rules;
    }
