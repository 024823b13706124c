use Rattle.std.proofs.Common.{◌≡◌, IsTrue}
use Rattle.st_host.specs.Files.{bytes_of}
use Rattle.st_session.specs.Imports.{ReadsAs, IsWrongImage}
use Rattle.st_session.specs.Makings.{contents_in}
use Rattle.st_session.specs.declared.making.Origin.TheVariants as origin
use Rattle.st_session.proofs.Made.{read_ends, unread_ends}
use Rattle.st_session.proofs.Started.{read_as, read_is, image_unread, image_clash, image_cause}
use Rattle.st_session.proofs.importing.import.Goals as goal

pub returns-in-Ok-clause-ends : goal.returns-in-Ok-clause-ends
returns-in-Ok-clause-ends g c =
    let over = c.args.over.now in
    let bytes = bytes_of (g.H.Host.files c.args.host.now c.args.image.now) in
    let read = c.in-Ok.ensures in
    let v = g.L.Done.Memory.view c.in-Ok.loaded.memory in
    let told = IsTrue g.H.Host.is_told in
    read_ends g.H.Host origin.Image (ReadsAs over bytes) (IsWrongImage told over bytes) c.args.store.now c.args.host.now c.read_image.new.host c.make.new.host read.reads read.alike (λ x. x ≡ contents_in v)
    (λ t x is. read_as over bytes v x (read.readable t) (read.start t).objects (read.start t).head is) (λ t x is. read_is over bytes v x (read.start t).objects (read.start t).head is) c.make.result c.make.ensures.ends

pub returns-in-Err-clause-ends : goal.returns-in-Err-clause-ends
returns-in-Err-clause-ends g c =
    let over = c.args.over.now in
    let bytes = bytes_of (g.H.Host.files c.args.host.now c.args.image.now) in
    let read = c.in-Err.ensures in
    let told = IsTrue g.H.Host.is_told in
    let line = c.report_status.ensures in
    unread_ends g.H.Host origin.Image (ReadsAs over bytes) (IsWrongImage told over bytes) c.args.store.now c.args.host.now c.read_image.new.host c.report_status.new.host read.reads c.status-status.result
    (image_unread told over bytes c.in-Err.refusal c.status-status.result c.status-status.ensures read.refused) (λ t x is why. image_clash told over bytes x c.status-status.result t is why)
    (image_cause g.H.Host c.args.host.now c.read_image.new.host c.in-Err.refusal c.status-status.result c.status-status.ensures read.cause) line.line line.reads line.alike line.disk
