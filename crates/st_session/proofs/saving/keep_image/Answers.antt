use Rattle.std.proofs.Common.{subst}
use Rattle.st_store.specs.Names.{IsNoFileOf}
use Rattle.st_recover.specs.inside.Archives.{Holds}
use Rattle.st_recover.specs.Commits.{OpensAs, imaged, image_with}
use Rattle.st_call.specs.Replies.{snapshot_text}
use Rattle.st_call.specs.inside.Telling.{Tells}
use Rattle.st_session.proofs.Holding.{holds_said}
use Rattle.st_session.proofs.Saying.{when_ok}
use Rattle.st_session.proofs.Snapshots.{image_said, image_unkept}
use Rattle.st_session.proofs.Starving.{never_starved}
use Rattle.st_session.proofs.saving.keep_image.Goals as goal

pub returns-in-Ok-clause-obeys : goal.returns-in-Ok-clause-obeys
returns-in-Ok-clause-obeys g c = λ k holds.
    let v = g.M.Memory.view c.args.m.now in
    let image = image_with v.objects v.head in
    let name = c.args.archive.now.name in
    let tells = subst (λ n. Tells g.H.Host (snapshot_text n) c.snapshot.new.host c.say_reply.new.host c.say_reply.result) c.in-Ok.ensures.length c.say_reply.ensures in
    image_said g.H.Host (OpensAs name) (IsNoFileOf name) (Holds g.H.Host c.say_reply.new.host c.snapshot.new.self) k image c.args.host.now c.snapshot.new.host c.say_reply.new.host _ c.say_reply.result
    (λ told. c.in-Ok.ensures.makes k told holds) c.in-Ok.ensures.spares tells
    (when_ok c.say_reply.result (holds_said g.H.Host c.snapshot.new.self (imaged k image) tells.says (c.in-Ok.ensures.holds k holds)))

pub returns-in-Err-clause-obeys : goal.returns-in-Err-clause-obeys
returns-in-Err-clause-obeys g c = λ k holds.
    let v = g.M.Memory.view c.args.m.now in
    let image = image_with v.objects v.head in
    let name = c.args.archive.now.name in
    image_unkept g.H.Host (OpensAs name) (IsNoFileOf name) (Holds g.H.Host c.snapshot.new.host c.snapshot.new.self) k image name c.args.host.now c.snapshot.new.host _
    (λ told. c.in-Err.ensures.makes k told holds) (λ told. c.in-Err.ensures.broken k told holds) c.in-Err.ensures.spares

pub returns-in-Ok-clause-ample : goal.returns-in-Ok-clause-ample
returns-in-Ok-clause-ample g c = λ none. never_starved c.say_reply.result c.say_reply.ensures.fault none
