use Rattle.std.proofs.Common.{◌≡◌, ◌-◌, ℕ, List, Option, subst, ap, ◌∙◌}
use Rattle.st_host.specs.Files.{bytes_of, IsRead}
use Rattle.st_memory_host.specs.inside.Deeds.{files_after}
use Rattle.st_memory_host.specs.inside.HostState.{HostState}
use Rattle.st_memory_host.proofs.Windows.{window_read, length_is}
use Rattle.st_memory_host.proofs.memory.MemHostHost.read_at.Goals as goal

pub returns-clause-read : goal.returns-clause-read
returns-clause-read c =
    let name = c.as_bytes.result.now in
    let into = c.window.new.into in
    let file = files_after c.begin_read.new.self.deeds name in
    let same : file ≡ files_after c.args.self.now.deeds c.args.name.now =
    ap (λ (h : HostState). files_after h.deeds name) c.in_ok-begin_read.ensures.exactly.ok
    ∙ ap (λ (n : List ℕ). files_after c.args.self.now.deeds n) c.as_bytes.ensures.value in
    let long = length_is file c.window.result c.unwrap_or-length.result c.window.ensures.length c.unwrap_or-length.ensures in
    subst (λ (x : Option (List ℕ)). IsRead (bytes_of x) c.args.at c.min.result into) same
    (window_read (bytes_of file) c.args.at c.min.result c.saturating_sub.result into c.min.ensures (c.saturating_sub.ensures ∙ ap (λ (n : ℕ). n - c.args.at) long) c.window.ensures.window)
