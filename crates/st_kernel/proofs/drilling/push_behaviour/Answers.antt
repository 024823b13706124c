use Rattle.std.proofs.Common.{◌∙◌}
use Rattle.st_kernel.proofs.Drills.{behaved}
use Rattle.st_kernel.proofs.drilling.push_behaviour.Goals as goal

pub returns-clause-text : goal.returns-clause-text
returns-clause-text c =
    behaved c.args.last c.args.text.now.items c.extend_from_slice.new.self.items c.extend_from_slice-2.new.self.items c.extend_from_slice-3.new.self.items c.as_bytes.result.now c.extend_from_slice-3.result
    c.in_ok-extend_from_slice.ensures.items c.in_ok-extend_from_slice-2.ensures.items (c.as_bytes.ensures.value ∙ c.format.ensures.text) c.extend_from_slice-3.ensures.items
