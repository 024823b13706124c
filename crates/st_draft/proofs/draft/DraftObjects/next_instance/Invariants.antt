use Rattle.std.proofs.Common.{◌≡◌, ◌-◌, suc}
use Rattle.st_model.specs.Values.{word}
use Rattle.st_model.specs.Steps.{named_or_not}
use Rattle.st_draft.specs.inside.Bearing.{IsNumberOf}
use Rattle.st_draft.specs.inside.Noted.{drafted}
use Rattle.st_draft.proofs.Bearing.{first_of}
use Rattle.st_draft.proofs.draft.DraftObjects.next_instance.Given as goal

-- before this place there is no instance
abbrev pub invariant-loop-place : goal.invariant-loop-place
invariant-loop-place g l =
    let d = l.self in
    let now = drafted (g.M.Memory.view d.base.now).objects d.notes d.exchanges in
    record {
      number : IsNumberOf (g.M.Memory.view d.base.now).objects d.notes.made_count l.place l.number;
      same : named_or_not (first_of now (word l.class) (suc l.after) (32767 - l.after)) ≡ named_or_not (first_of now (word l.class) l.place (32768 - l.place));
    }
