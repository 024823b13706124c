use Rattle.std.proofs.Common.{ℕ, List, reverse, ap, ◌∙◌}
use Rattle.st_memory_host.specs.inside.HostState.{HostState}
use Rattle.st_memory_host.specs.inside.Log.{deeds_of}
use Rattle.st_memory_host.specs.inside.Leave.{deeds_left, host_of}
use Rattle.st_memory_host.specs.declared.log.Entry.{Entry}
use Rattle.st_memory_host.proofs.Leaving.{stopped}
use Rattle.st_memory_host.proofs.memory.MemHost.after_stop.Goals as goal

pub returns : goal.returns
returns c =
    let how = c.args.how in
    let arena = c.deref-2.result.now in
    let log = c.self.inside.log.items in
    stopped how c.args.self c.in_ok-host.host
    (c.in_ok-host.ensures
    ∙ ap (λ (x : List Entry). host_of (deeds_left how (reverse (deeds_of x arena)))) c.deref.ensures.value
    ∙ ap (λ (x : List ℕ). host_of (deeds_left how (reverse (deeds_of log x)))) c.deref-2.ensures.value
    ∙ ap (λ (h : HostState). host_of (deeds_left how h.deeds)) c.self.view_is)
