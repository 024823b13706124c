use Rattle.std.proofs.Common.{◌≡◌, ◌≤◌, drop}
use Rattle.st_model.specs.Table.{free_place, without_first}
use Rattle.st_draft.proofs.draft.Draft.free_place.Given as goal

-- what is left to count
abbrev pub invariant-loop-k : goal.invariant-loop-k
invariant-loop-k g l =
    let t = (g.M.Memory.view l.self.base.now).objects in
    record {
      left : l.left ≤ l.fn.number;
      same : free_place (without_first t) 1 l.fn.number ≡ free_place (drop l.k t) l.k l.left;
    }
