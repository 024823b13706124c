use Rattle.std.proofs.Common.{Some, rules}
use Rattle.st_emit.specs.inside.LiteralPlaces.{IsNoted}
use Rattle.st_emit.proofs.LiteralPlaces.{noted_put}
use Rattle.st_emit.proofs.literal_table.put_noted.Goals as goal
use Rattle.st_emit.proofs.literal_table.put_noted.Goals.{in-Ok, in-Err}

pub returns-clause-places : goal.returns-clause-places
returns-clause-places c =
    elim c.match-insert.branch [
      | in-Ok w ↦
          let put : IsNoted c.args.key c.len-place.result c.args.places.now.entries c.insert.new.self.entries = λ l. noted_put c.args.places.now c.insert.new.self c.args.key (Some c.len-place.result) w.in-Ok.ensures.updates l in
          search (rules, put)
      | in-Err w ↦ search rules
    ]
