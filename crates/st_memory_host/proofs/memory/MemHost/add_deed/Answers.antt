use Rattle.std.proofs.Common.{rules}
use Rattle.st_memory_host.proofs.Appending.{whole_with}
use Rattle.st_memory_host.proofs.memory.MemHost.add_deed.Goals as goal

pub invariant_of-self : goal.invariant_of-self
invariant_of-self c =
    let old = c.self.inside in
    whole_with c.args.kind c.args.name.now c.args.bytes.now old.log c.append.new.log old.arena c.append.new.arena old.said c.append_said.new.said old.bytes_left old.calls_left
    c.append.ensures.entry c.append.ensures.bytes c.append_said.ensures.said c.append.ensures.log_room c.append.ensures.arena_room c.append_said.ensures.room
    (search rules) (search rules) c.self.invariant
