use Rattle.std.proofs.Common.{Err, refl, subst}
use Rattle.st_protocol.specs.declared.status.Status.TheVariants as status
use Rattle.st_chunk.specs.inside.ScriptDefinitions.{definition_of}
use Rattle.st_install.specs.Defining.{installed}
use Rattle.st_install.specs.inside.Prepareds.{PreparesAs}
use Rattle.st_session.specs.Answers.{definition_course, defined_course}
use Rattle.st_session.specs.Keeping.{in_a_store}
use Rattle.st_session.specs.inside.Standing.{shown_by}
use Rattle.st_session.proofs.Accepting.{refused_said}
use Rattle.st_session.proofs.Points.{living_answers}
use Rattle.st_session.proofs.Responding.{fails_now}
use Rattle.st_session.proofs.Served.{served_end, served_said}
use Rattle.st_session.proofs.serving.define.Goals as goal

pub returns-in-Refused : goal.returns-in-Refused
returns-in-Refused g c =
    let m = c.args.kept.now.machine in
    let d = definition_of c.args.definition.now in
    let why = c.in-Refused.why in
    let new = c.say_reply.new.host in
    served_said c.requires.go_on refl c.say_reply.ensures (living_answers g.M.Memory.view g.H.Host m c.args.kept.now.archive c.args.host.now m c.args.kept.now.archive new (λ being k. definition_course in_a_store installed being k d) c.say_reply.result c.requires.alive
    (λ s k shows holds.
    let refuses = subst (λ u. PreparesAs (g.M.Memory.view m.memory) d (Err u)) c.in-Refused.is (subst (λ x. PreparesAs (g.M.Memory.view x) d (Err c.in-Err.unprepared)) c.memory.ensures c.in-Err.ensures) in
    refused_said g.M.Memory.view g.H.Host m c.args.kept.now.archive s k d (installed d s) why c.args.host.now new c.say_reply.result (refuses (shown_by g.M.Memory.view m) s (record { objects = refl; head = refl }) shows) c.requires.alive shows holds c.say_reply.ensures))

pub returns-in-OutOfMemory : goal.returns-in-OutOfMemory
returns-in-OutOfMemory g c =
    let m = c.args.kept.now.machine in
    let d = definition_of c.args.definition.now in
    let h = c.args.host.now in
    served_end tt tt (λ none. refl) (living_answers g.M.Memory.view g.H.Host m c.args.kept.now.archive h m c.args.kept.now.archive h (λ being k. definition_course in_a_store installed being k d) (Err status.OutOfMemory) c.requires.alive
    (λ s k shows holds. fails_now g.M.Memory.view g.H.Host m c.args.kept.now.archive k (defined_course in_a_store s k d (installed d s)) status.OutOfMemory h tt (g.met.H.Host.only_now h) holds))
