use Rattle.std.proofs.Common.{◌∙◌}
use Rattle.st_host.specs.Files.{bytes_of}
use Rattle.st_memory_host.specs.inside.Deeds.{files_after}
use Rattle.st_memory_host.proofs.Replaying.{copied_done, written_over}
use Rattle.st_memory_host.proofs.memory.MemHost.copy.Goals as goal

pub returns : goal.returns
returns c =
    let file = files_after c.args.from.now.deeds c.args.name.now in
    let shown = c.window-2.new.into in
    copied_done c.args.name.now c.deref.result.now file c.in-Some.length c.args.self.now c.repeat.new.self
    c.in-Some.ensures.length (c.deref.ensures.len ∙ c.in_ok-bytes.ensures.len)
    (written_over (bytes_of file) shown c.in_ok-bytes.bytes.items c.deref.result.now c.in_ok-bytes.bytes.len c.deref.ensures.value
    (c.window-2.auto.into ∙ c.deref_mut.ensures.len) c.window-2.ensures.window)
    c.in_ok-repeat.ensures
