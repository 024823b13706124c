use Rattle.std.proofs.Common.{◌≡◌}
use Rattle.st_model.specs.Objects.{one}
use Rattle.st_model.specs.Table.{total_used}
use Rattle.st_model.specs.View.{view_roots}
use Rattle.st_model.proofs.Settling.{DropsTo}
use Rattle.st_plain.specs.inside.Plain.{plain_view}
use Rattle.st_plain.proofs.memory.PlainMemoryMemory.settle.Given as goal

-- no object is lost that a set has which supports itself
abbrev pub invariant-loop : goal.invariant-loop
invariant-loop l = record {
  drops : DropsTo (plain_view l.fn.self.contents).objects (plain_view l.self.contents).objects (view_roots (plain_view l.fn.self.contents));
  held : (plain_view l.self.contents).held ≡ (plain_view l.fn.self.contents).held;
  head : (plain_view l.self.contents).head ≡ (plain_view l.fn.self.contents).head;
}

abbrev pub decreases-loop : goal.decreases-loop
decreases-loop l = total_used one (plain_view l.self.contents).objects
