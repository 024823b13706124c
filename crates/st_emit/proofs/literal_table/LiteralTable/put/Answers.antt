use Rattle.std.proofs.Common.{sym, ap, ◌∙◌, subst}
use Rattle.std.specs.Prelude.{is_some}
use Rattle.st_emit.specs.inside.Views.{literal_view}
use Rattle.st_emit.specs.inside.LiteralPlaces.{IsKeyOf}
use Rattle.st_emit.proofs.Noting.{is_none_of}
use Rattle.st_emit.proofs.LiteralPlaces.{put_either, put_again, put_keyless}
use Rattle.st_emit.proofs.literal_table.LiteralTable.put.Goals as goal
use Rattle.st_emit.proofs.literal_table.LiteralTable.put.Goals.{in_default-via-in-Some+else-is_none, in_default-via-in_default}

pub invariant_of-self : goal.invariant_of-self
invariant_of-self c =
    let put = c.put_noted.ensures in
    let is = subst (IsKeyOf (literal_view c.args.literal)) c.in-Some.is c.in_ok-key.ensures in
    let absent = sym c.noted.ensures ∙ is_none_of c.noted.result c.if-is_none.ensures in
    put_either c.put_noted.result c.self.inside.literals.items c.put_noted.new.literals.items c.self.inside.places.entries c.put_noted.new.places.entries c.in-Some.key c.args.literal c.self.invariant is absent
    put.literals put.places put.same put.same_places

pub invariant_of-self-in_ok-push-in_default : goal.invariant_of-self-in_ok-push-in_default
invariant_of-self-in_ok-push-in_default c =
    let key = IsKeyOf (literal_view c.args.literal) in
    let put = c.in_ok-push-in_default.ensures.items in
    let list = c.self.inside.literals.items in
    let entries = c.self.inside.places.entries in
    elim c.in_default.branch [
      | in_default-via-in-Some+else-is_none w ↦
          put_again list c.push.new.self.items entries w.in-Some.key c.args.literal c.self.invariant (subst key w.in-Some.is c.in_ok-key.ensures) (ap is_some (sym w.noted.ensures) ∙ w.if-is_none.ensures) put
      | in_default-via-in_default w ↦
          put_keyless list c.push.new.self.items entries c.args.literal c.self.invariant (subst key w.in_default.is c.in_ok-key.ensures) put
    ]
