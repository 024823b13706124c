use Rattle.st_memory_host.proofs.Appending.{whole_put}
use Rattle.st_memory_host.proofs.memory.MemHost.put.Goals as goal

pub invariant_of-self-2 : goal.invariant_of-self-2
invariant_of-self-2 c =
    let old = c.self.inside in
    let file = c.in_ok-append_file.ensures in
    whole_put c.as_bytes.result.now c.args.bytes.now old.log c.append_file.new.log old.arena c.append_file.new.arena old.said old.bytes_left old.calls_left
    file.entry file.bytes file.arena_room file.log_room c.self.invariant
