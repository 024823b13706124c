use Rattle.std.proofs.Common.{◌≡◌, ◌+◌, ◌*◌, ◌∷◌, drop, length}
use Rattle.st_meaning.specs.inside.Meanings.{most}
use Rattle.st_meaning.specs.inside.Courses.{going_view, stack_view, IsSound}
use Rattle.st_meaning.specs.inside.Arenas.{each, place_run, act_run, message_run, runs_of}
use Rattle.st_meaning.specs.inside.Traced.{acts_in, messages_in, arguments_in, nodes_in, loop_in, body_in}
use Rattle.st_meaning.specs.inside.Traces.{turns}
use Rattle.st_meaning.proofs.tracing.+tracing.Given as goal

abbrev pub decreases-node : goal.decreases-node
decreases-node l = 16 * length l.nodes.now

abbrev pub decreases-start : goal.decreases-start
decreases-start l = 16 * length l.before.now + 15

abbrev pub decreases-acts : goal.decreases-acts
decreases-acts l = 16 * length l.before.now + 15

abbrev pub decreases-act : goal.decreases-act
decreases-act l = 16 * length l.before.now + 14

abbrev pub decreases-looped : goal.decreases-looped
decreases-looped l = 16 * length l.before.now + 14

abbrev pub decreases-sends : goal.decreases-sends
decreases-sends l = 16 * length l.before.now + 13

abbrev pub decreases-one_sided : goal.decreases-one_sided
decreases-one_sided l = 16 * length l.before.now + 13

abbrev pub decreases-two_sided : goal.decreases-two_sided
decreases-two_sided l = 16 * length l.before.now + 13

abbrev pub decreases-turn : goal.decreases-turn
decreases-turn l = 16 * length l.before.now + 13

abbrev pub decreases-message : goal.decreases-message
decreases-message l = 16 * length l.before.now + 12

abbrev pub decreases-again : goal.decreases-again
decreases-again l = 16 * length l.before.now + 12

abbrev pub decreases-arguments : goal.decreases-arguments
decreases-arguments l = 16 * length l.before.now + 11

abbrev pub decreases-body : goal.decreases-body
decreases-body l = 16 * length l.before.now + 11

abbrev pub decreases-statements : goal.decreases-statements
decreases-statements l = 16 * length l.before.now + 10

abbrev pub invariant-acts-loop-one : goal.invariant-acts-loop-one
invariant-acts-loop-one l = record {
  goes : each (act_run most (runs_of most l.before) l.bound) (drop l.one-index l.acts) l.value (going_view l.course) ≡ acts_in l.before l.bound l.acts l.fn.begun (going_view l.fn.course);
  sound : IsSound l.course;
}

abbrev pub invariant-sends-loop-one : goal.invariant-sends-loop-one
invariant-sends-loop-one l = record {
  goes : each (λ m v. message_run most (runs_of most l.before) l.bound l.above l.receiver m) (drop l.one-index l.messages) l.value (going_view l.course) ≡ messages_in l.before l.bound l.above l.receiver l.messages (going_view l.fn.course);
  sound : IsSound l.course;
}

abbrev pub invariant-arguments-loop-place : goal.invariant-arguments-loop-place
invariant-arguments-loop-place l = record {
  goes : each (place_run most (runs_of most l.before) l.bound (λ vs v. v ∷ vs)) (drop l.place-index l.places) (stack_view l.values.items) (going_view l.course) ≡ arguments_in l.before l.bound l.places (going_view l.fn.course);
  sound : IsSound l.course;
}

abbrev pub invariant-statements-loop-place : goal.invariant-statements-loop-place
invariant-statements-loop-place l = record {
  goes : each (place_run most (runs_of most l.before) l.bound (λ v w. w)) (drop l.place-index l.places) l.value (going_view l.course) ≡ nodes_in l.before l.bound l.places (going_view l.fn.course);
  sound : IsSound l.course;
}

abbrev pub invariant-looped-loop-left : goal.invariant-looped-loop-left
invariant-looped-loop-left l = record {
  goes : turns most l.left l.kind (body_in l.before l.bound l.condition) (body_in l.before l.bound l.repeated) (going_view l.course) ≡ loop_in l.before l.bound l.kind l.condition l.repeated (going_view l.fn.course);
  sound : IsSound l.course;
}

abbrev pub decreases-looped-loop-left : goal.decreases-looped-loop-left
decreases-looped-loop-left l = l.left
