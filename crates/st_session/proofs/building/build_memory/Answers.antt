use Rattle.std.proofs.Common.{◌≤◌, ◌^◌, ◌∙◌, ℕ, List, IsTrue, length, sym, subst}
use Rattle.st_host.specs.Files.{bytes_of}
use Rattle.st_session.proofs.Built.{kernel_wrong, wrong_cause}
use Rattle.st_session.proofs.building.build_memory.Goals as goal

pub returns-clause-refused : goal.returns-clause-refused
returns-clause-refused g c =
    let same = c.deref.ensures.value in
    let short = subst (λ (t : List ℕ). length t ≤ 2 ^ 23) (sym same) c.in-Ok.ensures.short in
    kernel_wrong (IsTrue g.H.Host.is_told) (bytes_of (g.H.Host.files c.args.host.now c.args.name.now)) c.deref.result.now c.in-Err-build.fault c.kernel_status.result c.kernel_status.ensures
    (λ told. same ∙ c.in-Ok.ensures.bytes told) short c.in-Err-build.ensures.refused

pub returns-clause-cause : goal.returns-clause-cause
returns-clause-cause g c = wrong_cause g.H.Host c.args.host.now c.read_file.new.host c.in-Err-build.fault c.kernel_status.result c.kernel_status.ensures
