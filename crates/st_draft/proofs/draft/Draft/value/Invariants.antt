use Rattle.std.proofs.Common.{◌≡◌, ◌≤◌}
use Rattle.st_model.specs.Values.{word}
use Rattle.st_draft.specs.inside.Drafts.{HasField, with_made, field_value, replayed}
use Rattle.st_draft.proofs.draft.Draft.value.Given as goal

-- what is sought stood there before the changes that are passed
abbrev pub invariant-loop-k : goal.invariant-loop-k
invariant-loop-k g l =
    let d = l.self in
    let start = with_made (g.M.Memory.view d.base.now).objects d.notes.made d.notes.made_count in
    record {
      within : l.k ≤ d.notes.count;
      has : HasField start (word l.o) l.at;
      same : field_value (replayed start d.notes.changes d.notes.count) (word l.fn.o) l.fn.at ≡ field_value (replayed start d.notes.changes l.k) (word l.o) l.at;
    }

abbrev pub decreases-loop-k : goal.decreases-loop-k
decreases-loop-k g l = l.k
