use Rattle.std.proofs.Common.{◌≡◌, ◌++◌, [], ◌∷◌, refl, ap}
use Rattle.std.specs.Prelude.{codes}
use Rattle.std.specs.List.{flat_map}
use Rattle.st_model.specs.Values.{value}
use Rattle.st_model.specs.Text.{numbers_text}
use Rattle.st_call.proofs.Pushing.{push_then, push_begun, push_as, pushed_all, pushed_says, pushed_part}
use Rattle.st_debug.specs.Stack.{calls, frame_line}
use Rattle.st_debug.proofs.stack.frames.Goals as goal

pub returns-in_err-push_line-clause-says : goal.returns-in_err-push_line-clause-says
returns-in_err-push_line-clause-says g c =
    let lines = flat_map frame_line (calls (g.M.Memory.view c.args.m.now).objects 100 (value c.args.f.now.active)) in
    pushed_part c.new-out.ensures (push_begun lines refl (push_as c.in_err-push_line.ensures (ap (λ n. codes "stack" ++ (numbers_text (n ∷ []) ++ codes "\n")) c.count_calls-count.ensures)))

pub returns-in_err-push_calls-clause-says : goal.returns-in_err-push_calls-clause-says
returns-in_err-push_calls-clause-says g c =
    pushed_part c.new-out.ensures (push_then (push_as c.in_ok-push_line.ensures (ap (λ n. codes "stack" ++ (numbers_text (n ∷ []) ++ codes "\n")) c.count_calls-count.ensures)) c.in_err-push_calls.ensures)

pub returns-in_err-finish-clause-says : goal.returns-in_err-finish-clause-says
returns-in_err-finish-clause-says g c =
    pushed_says c.new-out.ensures (push_then (push_as c.in_ok-push_line.ensures (ap (λ n. codes "stack" ++ (numbers_text (n ∷ []) ++ codes "\n")) c.count_calls-count.ensures)) c.in_ok-push_calls.ensures) c.in_err-finish.ensures.says

pub returns-clause-all : goal.returns-clause-all
returns-clause-all g c =
    pushed_all c.new-out.ensures (push_then (push_as c.in_ok-push_line.ensures (ap (λ n. codes "stack" ++ (numbers_text (n ∷ []) ++ codes "\n")) c.count_calls-count.ensures)) c.in_ok-push_calls.ensures) c.in_ok-finish.ensures.all

pub returns-clause-says : goal.returns-clause-says
returns-clause-says g c =
    pushed_says c.new-out.ensures (push_then (push_as c.in_ok-push_line.ensures (ap (λ n. codes "stack" ++ (numbers_text (n ∷ []) ++ codes "\n")) c.count_calls-count.ensures)) c.in_ok-push_calls.ensures) c.in_ok-finish.ensures.says
