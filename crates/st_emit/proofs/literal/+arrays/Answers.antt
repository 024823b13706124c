use Rattle.std.proofs.Common.{◌≡◌, map, refl, arith}
use Rattle.std.proofs.lemmas.Grind.{common_steps}
use Rattle.st_scan.specs.Views.{content_view}
use Rattle.st_emit.specs.Literals.{literal_of}
use Rattle.st_emit.specs.inside.Views.{literals_view}
use Rattle.st_emit.proofs.Members.{members_same}
use Rattle.st_emit.proofs.literal.+arrays.Goals as goal

pub members_of-returns : goal.members_of-returns
members_of-returns t c =
    let each : literals_view c.loop-element.members.items ≡ map (λ e. literal_of (content_view e.what)) c.args.elements.now = grind (arith, common_steps) in
    members_same c.loop-element.members.items c.args.elements.now each

pub literal_of-returns-in-Number : goal.literal_of-returns-in-Number
literal_of-returns-in-Number t c = rw c.in-Number.is refl

pub literal_of-returns-in-Character : goal.literal_of-returns-in-Character
literal_of-returns-in-Character t c = rw c.in-Character.is refl

pub literal_of-returns-in-Nil : goal.literal_of-returns-in-Nil
literal_of-returns-in-Nil t c = rw c.in-Nil.is refl

pub literal_of-returns-in-False : goal.literal_of-returns-in-False
literal_of-returns-in-False t c = rw c.in-False.is refl

pub literal_of-returns-in-True : goal.literal_of-returns-in-True
literal_of-returns-in-True t c = rw c.in-True.is refl
