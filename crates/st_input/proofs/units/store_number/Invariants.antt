use Rattle.std.proofs.Common.{◌≡◌, ◌-◌}
use Rattle.st_model.specs.Values.{word}
use Rattle.st_model.specs.Primitives.{bytes_of_number, bytes_within}
use Rattle.st_model.specs.Deeds.{changed_by, bytes_stored}
use Rattle.st_input.proofs.units.store_number.Given as goal

-- with the bytes that are left, the objects are those with all of them
abbrev pub invariant-loop-place : goal.invariant-loop-place
invariant-loop-place g l = record {
  objects : changed_by (bytes_stored l.place (bytes_within (16 - l.place) l.left)) (g.M.Memory.view l.m).objects (word l.object)
      ≡ changed_by (bytes_stored 0 (bytes_of_number l.number)) (g.M.Memory.view l.fn.m).objects (word l.object);
  held : (g.M.Memory.view l.m).held ≡ (g.M.Memory.view l.fn.m).held;
  head : (g.M.Memory.view l.m).head ≡ (g.M.Memory.view l.fn.m).head;
}
