use Rattle.std.proofs.Common.{◌≡◌, IsTrue}
use Rattle.st_host.specs.Files.{bytes_of}
use Rattle.st_session.specs.Builds.{Builds, IsWrongKernel}
use Rattle.st_session.specs.Makings.{contents_in}
use Rattle.st_session.specs.declared.making.Origin.TheVariants as origin
use Rattle.st_session.proofs.Built.{built_as, one_built, kernel_clash}
use Rattle.st_session.proofs.Made.{read_ends, unread_ends}
use Rattle.st_session.proofs.building.build.Goals as goal

pub returns-in-Ok-clause-ends : goal.returns-in-Ok-clause-ends
returns-in-Ok-clause-ends g c =
    let text = bytes_of (g.H.Host.files c.args.host.now c.args.kernel.now) in
    let read = c.in-Ok.ensures in
    let v = g.L.Done.Memory.view c.in-Ok.memory in
    read_ends g.H.Host origin.Kernel (Builds text) (IsWrongKernel (IsTrue g.H.Host.is_told) text) c.args.store.now c.args.host.now c.build_memory.new.host c.make.new.host read.reads read.alike (λ x. x ≡ contents_in v)
    (λ t x is. built_as text (contents_in v) x (read.builds t) is) (λ t x is. one_built text x (contents_in v) is (read.builds t)) c.make.result c.make.ensures.ends

pub returns-in-Err-clause-ends : goal.returns-in-Err-clause-ends
returns-in-Err-clause-ends g c =
    let text = bytes_of (g.H.Host.files c.args.host.now c.args.kernel.now) in
    let read = c.in-Err.ensures in
    let told = IsTrue g.H.Host.is_told in
    let line = c.report_status.ensures in
    unread_ends g.H.Host origin.Kernel (Builds text) (IsWrongKernel told text) c.args.store.now c.args.host.now c.build_memory.new.host c.report_status.new.host read.reads c.in-Err.status
    read.refused (λ t x is why. kernel_clash told text x c.in-Err.status t is why) read.cause line.line line.reads line.alike line.disk
