use Rattle.std.proofs.Common.{ap}
use Rattle.std.specs.Prelude.{Err}
use Rattle.st_store.specs.Names.{roots_file, changes_file, IsNoFileOf}
use Rattle.st_changes.specs.Condensing.{turned}
use Rattle.st_host.specs.declared.file_fault.FileFault.{FileFault}
use Rattle.st_protocol.specs.declared.status.Status.TheVariants.{DiskFault, OutOfMemory}
use Rattle.st_recover.specs.Commits.{stored_of}
use Rattle.st_recover.proofs.Making.{both_spare}
use Rattle.st_session.proofs.Condensed.{where_ok, condensed_told, does_unmade, rests_same, unless_gate}
use Rattle.st_session.proofs.Exported.{counts_behind, told_kind, names_said}
use Rattle.st_session.proofs.condensing.condense_store.Goals as goal

pub returns-in-Ok-clause-does : goal.returns-in-Ok-clause-does
returns-in-Ok-clause-does g c k told kept =
    let host = g.H.Host in
    let st = c.args.store in
    let did = c.condense.ensures in
    let x = stored_of st.root.slot k in
    let z = where_ok c.condense.result c.in-Ok.condensed c.in-Ok.is (did.either x told kept.kept) in
    condensed_told host c.args.host.now st c.args.changes.now.listed k kept c.requires.list_of.good c.condense.new.host c.condense.result z (did.makes x z told kept.kept) c.in-Ok.condensed
    c.in-Ok.condensed.before c.in-Ok.condensed.after c.say_reply.new.host c.say_reply.result told c.in-Ok.is c.in-Ok.ensures.before (c.in-Ok.ensures.after z) c.say_reply.ensures

pub returns-in-Ok-clause-counts : goal.returns-in-Ok-clause-counts
returns-in-Ok-clause-counts g c =
    counts_behind g.H.Host c.args.store.name c.args.host.now c.condense.new.host c.say_reply.new.host c.say_reply.result c.condense.ensures.cause.later c.condense.ensures.files.say c.say_reply.ensures.counts

pub returns-in-Ok-clause-kind : goal.returns-in-Ok-clause-kind
returns-in-Ok-clause-kind g c = told_kind g.H.Host c.args.store.name _ c.condense.new.host c.say_reply.new.host c.say_reply.result c.say_reply.ensures

pub returns-in-Ok-clause-spares : goal.returns-in-Ok-clause-spares
returns-in-Ok-clause-spares g c =
    let host = g.H.Host in
    let st = c.args.store in
    let slot = turned st.root.slot in
    names_said host st.name st.name (IsNoFileOf st.name) _ c.args.host.now c.condense.new.host c.say_reply.new.host
    (both_spare host (changes_file st.name slot) (roots_file st.name) (IsNoFileOf st.name) c.args.host.now c.condense.new.host (λ n no. no.changes slot) (λ n no. no.roots) c.condense.ensures.files)
    c.say_reply.ensures.says.alike c.say_reply.ensures.says.part

pub returns-in-Err-Disk-clause-does : goal.returns-in-Err-Disk-clause-does
returns-in-Err-Disk-clause-does g c k told kept =
    let x = stored_of c.args.store.root.slot k in
    does_unmade g.H.Host c.args.host.now c.args.store c.args.changes.now.listed k kept c.requires.list_of.good c.condense.new.host c.condense.result DiskFault (c.condense.ensures.either x told kept.kept) (λ z. c.condense.ensures.makes x z told kept.kept)
    (λ quiet. (quiet, unless_gate g.H.Host c.args.host.now c.args.store c.args.changes.now.listed k kept c.requires.list_of.good c.condense.new.host (c.in-Err-Disk.ensures.broken x told kept.kept)))

pub returns-in-Err-OutOfMemory-clause-does : goal.returns-in-Err-OutOfMemory-clause-does
returns-in-Err-OutOfMemory-clause-does g c k told kept =
    let x = stored_of c.args.store.root.slot k in
    does_unmade g.H.Host c.args.host.now c.args.store c.args.changes.now.listed k kept c.requires.list_of.good c.condense.new.host c.condense.result OutOfMemory (c.condense.ensures.either x told kept.kept) (λ z. c.condense.ensures.makes x z told kept.kept)
    (λ quiet. (
      quiet,
      rests_same g.H.Host c.args.host.now c.args.store c.args.changes.now.listed k kept c.requires.list_of.good c.condense.new.host (c.in-Err-OutOfMemory.ensures.starved x told kept.kept (ap (λ (e : FileFault). Err e) c.in-Err-OutOfMemory.field-0-is)),
    ))
