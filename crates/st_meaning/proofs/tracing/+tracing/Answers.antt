use Rattle.std.proofs.Common.{◌≡◌, ℕ, ◌<◌, ◌≤◌, ◌==◌, true, false, List, Option, Err, length, take, refl, sym, ap, ◌∙◌, subst, arith, rules}
use Rattle.std.specs.Prelude.{option_map}
use Rattle.std.specs.Global.{Vec}
use Rattle.st_meaning.specs.declared.deed.Value.{Value}
use Rattle.st_meaning.specs.declared.arena.Start.{Start}
use Rattle.st_meaning.specs.declared.arena.Act.{Act}
use Rattle.st_meaning.specs.declared.arena.Message.{Message}
use Rattle.st_meaning.specs.declared.tracing.TurnEnd.{TurnEnd}
use Rattle.st_meaning.specs.inside.Runs.{long, answer_to, assign_to, make_block}
use Rattle.st_meaning.specs.inside.Meanings.{most}
use Rattle.st_meaning.specs.inside.Courses.{going_view, stack_view, IsLongTest}
use Rattle.st_meaning.specs.inside.Arenas.{act_run, message_run, left, runs_of}
use Rattle.st_meaning.specs.inside.Traced.{IsCut, IsTurnCut, IsRepeatCut, EndsTurn, node_in, start_in, acts_in, act_in, messages_in, message_in, arguments_in, nodes_in, body_in, sided_in, chosen_in, loop_in}
use Rattle.st_meaning.proofs.Continuing.{faulted, still_long}
use Rattle.st_meaning.proofs.Arenas.{each_went, each_over, each_cut, each_end}
use Rattle.st_meaning.proofs.Following.{no_node, node_is, behind_goes, behind_long, behind_none, behind_cut, long_cut, goes_so, long_so, some_went, none_over, message_is, message_over, message_cut, tested, untested, sided_is, sided_over, sided_cut, chosen_is, chosen_over, chosen_cut, ended_is, ended_over, ended_cut, turn_left, turn_over, turn_unsure, turn_again, turn_cut, turn_test_cut, turn_again_cut, again_back, again_over, again_cut, again_long, turned_again, turned_left, turned_over, turned_cut, no_turn, returned_over, returned_long}
use Rattle.st_meaning.proofs.tracing.+tracing.Goals as goal

-- NODES

pub node-returns-then-place-nodes-clause-goes : goal.node-returns-then-place-nodes-clause-goes
node-returns-then-place-nodes-clause-goes t c =
    let past : length c.args.nodes.now ≤ c.args.place = omega arith in
    no_node c.args.nodes.now c.args.place c.args.bound (going_view c.args.course.now) past

pub node-returns-in-Some-clause-goes : goal.node-returns-in-Some-clause-goes
node-returns-in-Some-clause-goes t c =
    let xs = c.args.nodes.now in
    let i = c.args.place in
    let n = c.args.bound in
    let x = c.index-nodes-place.result in
    let old = going_view c.args.course.now in
    let within : i < length xs = omega arith in
    behind_goes (node_in xs n i old) (start_in (take i xs) n x.start old) (acts_in (take i xs) n c.deref.result.now) (node_is xs i n x c.deref.result.now old within c.index-nodes-place.is c.deref.ensures.value)
    _ c.in-Some.value (going_view c.start.new.course) c.acts.result (going_view c.acts.new.course) c.in-Some.is c.in_ok-value.ensures.goes c.acts.ensures.goes

pub node-returns-in-Some-clause-long : goal.node-returns-in-Some-clause-long
node-returns-in-Some-clause-long t c =
    let xs = c.args.nodes.now in
    let i = c.args.place in
    let n = c.args.bound in
    let x = c.index-nodes-place.result in
    let old = going_view c.args.course.now in
    let within : i < length xs = omega arith in
    behind_long (node_in xs n i old) (start_in (take i xs) n x.start old) (acts_in (take i xs) n c.deref.result.now) (node_is xs i n x c.deref.result.now old within c.index-nodes-place.is c.deref.ensures.value)
    _ c.in-Some.value (going_view c.start.new.course) c.acts.result c.in-Some.is c.in_ok-value.ensures.goes c.acts.ensures.long

pub node-returns-in-None-clause-goes : goal.node-returns-in-None-clause-goes
node-returns-in-None-clause-goes t c =
    let xs = c.args.nodes.now in
    let i = c.args.place in
    let n = c.args.bound in
    let x = c.index-nodes-place.result in
    let old = going_view c.args.course.now in
    let within : i < length xs = omega arith in
    behind_none (node_in xs n i old) (start_in (take i xs) n x.start old) (acts_in (take i xs) n x.acts.items) (node_is xs i n x x.acts.items old within c.index-nodes-place.is refl)
    _ (going_view c.start.new.course) c.in-None.is c.in_ok-value.ensures.goes

pub node-returns-in_err-value-clause-long : goal.node-returns-in_err-value-clause-long
node-returns-in_err-value-clause-long t c =
    let xs = c.args.nodes.now in
    let i = c.args.place in
    let n = c.args.bound in
    let x = c.index-nodes-place.result in
    let old = going_view c.args.course.now in
    let within : i < length xs = omega arith in
    let fault = c.in_err-value.field-0.0 in
    let e : c.from_residual.result ≡ Err fault = search rules in
    faulted (Option Value) (IsCut (start_in (take i xs) n x.start) c.args.course.now) (IsCut (node_in xs n i) c.args.course.now) c.from_residual.result fault e
    (λ h. behind_cut (node_in xs n i old) (start_in (take i xs) n x.start old) (acts_in (take i xs) n x.acts.items) (node_is xs i n x x.acts.items old within c.index-nodes-place.is refl) h) c.in_err-value.ensures.long

-- WHAT A NODE BEGINS WITH

pub start-returns-in-Loop-clause-goes : goal.start-returns-in-Loop-clause-goes
start-returns-in-Loop-clause-goes t c =
    let old = going_view c.args.course.now in
    let n = c.args.bound in
    goes_so (start_in c.args.before.now n c.args.start.now old) _ c.looped.result (going_view c.looped.new.course) (ap (λ (s : Start). start_in c.args.before.now n s old) c.in-Loop.is) c.looped.ensures.goes

pub start-returns-in-Loop-clause-long : goal.start-returns-in-Loop-clause-long
start-returns-in-Loop-clause-long t c =
    let old = going_view c.args.course.now in
    let n = c.args.bound in
    long_so (start_in c.args.before.now n c.args.start.now old) _ c.looped.result (ap (λ (s : Start). start_in c.args.before.now n s old) c.in-Loop.is) c.looped.ensures.long

pub start-returns-in_ok-block-in-Block-clause-goes : goal.start-returns-in_ok-block-in-Block-clause-goes
start-returns-in_ok-block-in-Block-clause-goes t c =
    let old = going_view c.args.course.now in
    ap (λ (s : Start). start_in c.args.before.now c.args.bound s old) c.in-Block.is ∙ c.in_ok-block-in-Block.ensures.went

pub start-returns-in_err-block-in-Block-clause-long : goal.start-returns-in_err-block-in-Block-clause-long
start-returns-in_err-block-in-Block-clause-long t c =
    let old = going_view c.args.course.now in
    let w = start_in c.args.before.now c.args.bound c.args.start.now in
    let fault = c.in_err-block-in-Block.field-0.0 in
    let e : c.from_residual.result ≡ Err fault = search rules in
    faulted (Option Value) (make_block most old ≡ long) (IsCut w c.args.course.now) c.from_residual.result fault e
    (λ h. long_cut (w old) (ap (λ (s : Start). start_in c.args.before.now c.args.bound s old) c.in-Block.is ∙ h)) c.in_err-block-in-Block.ensures.long

-- WHAT IS DONE TO A VALUE

pub acts-loop-one-preserved : goal.acts-loop-one-preserved
acts-loop-one-preserved t c =
    let xs = c.args.before.now in
    let old = going_view c.loop-one.course in
    let next = going_view c.act.new.course in
    let did = some_went (act_in xs c.args.bound c.one-item.result c.loop-one.value old) _ c.in-Some.next next c.in-Some.is c.in_ok-next.ensures.goes in
    record {
      goes = each_went (act_run most (runs_of most xs) c.args.bound) c.args.acts.now c.loop-one.one-index c.one-item.result c.loop-one.value c.in-Some.next old next (acts_in xs c.args.bound c.args.acts.now c.args.begun (going_view c.args.course.now))
          c.loop-one-test.true c.one-item.is did c.loop-one.invariant.goes;
      sound = c.act.ensures.sound;
    }

pub acts-returns-in-None-clause-goes : goal.acts-returns-in-None-clause-goes
acts-returns-in-None-clause-goes t c =
    let xs = c.args.before.now in
    let old = going_view c.loop-one.course in
    let next = going_view c.act.new.course in
    let did = none_over (act_in xs c.args.bound c.one-item.result c.loop-one.value old) _ next c.in-None.is c.in_ok-next.ensures.goes in
    each_over (act_run most (runs_of most xs) c.args.bound) c.args.acts.now c.loop-one.one-index c.one-item.result c.loop-one.value old next (acts_in xs c.args.bound c.args.acts.now c.args.begun (going_view c.args.course.now))
    c.loop-one-test.true c.one-item.is did c.loop-one.invariant.goes

pub acts-returns-in_err-next-clause-long : goal.acts-returns-in_err-next-clause-long
acts-returns-in_err-next-clause-long t c =
    let xs = c.args.before.now in
    let old = going_view c.loop-one.course in
    let fault = c.in_err-next.field-0.0 in
    let e : c.from_residual.result ≡ Err fault = search rules in
    faulted (Option Value) (IsCut (act_in xs c.args.bound c.one-item.result c.loop-one.value) c.loop-one.course) (IsCut (acts_in xs c.args.bound c.args.acts.now c.args.begun) c.args.course.now) c.from_residual.result fault e
    (λ h. each_cut (act_run most (runs_of most xs) c.args.bound) c.args.acts.now c.loop-one.one-index c.one-item.result c.loop-one.value old (acts_in xs c.args.bound c.args.acts.now c.args.begun (going_view c.args.course.now))
    c.loop-one-test.true c.one-item.is h c.loop-one.invariant.goes) c.in_err-next.ensures.long

pub acts-returns-clause-goes : goal.acts-returns-clause-goes
acts-returns-clause-goes t c =
    let xs = c.args.before.now in
    each_end (act_run most (runs_of most xs) c.args.bound) c.args.acts.now c.loop-one.one-index c.loop-one.value (going_view c.loop-one.course) (acts_in xs c.args.bound c.args.acts.now c.args.begun (going_view c.args.course.now))
    c.loop-one-test.false c.loop-one.invariant.goes

pub act-returns-in_ok-assign-in-Assign-clause-goes : goal.act-returns-in_ok-assign-in-Assign-clause-goes
act-returns-in_ok-assign-in-Assign-clause-goes t c =
    ap (λ (a : Act). act_in c.args.before.now c.args.bound a c.args.value (going_view c.args.course.now)) c.in-Assign.is ∙ c.in_ok-assign-in-Assign.ensures.went

pub act-returns-in_err-assign-in-Assign-clause-long : goal.act-returns-in_err-assign-in-Assign-clause-long
act-returns-in_err-assign-in-Assign-clause-long t c =
    let old = going_view c.args.course.now in
    let w = act_in c.args.before.now c.args.bound c.args.act.now c.args.value in
    let fault = c.in_err-assign-in-Assign.field-0.0 in
    let e : c.from_residual.result ≡ Err fault = search rules in
    faulted (Option Value) (assign_to most c.in-Assign.variable c.args.value old ≡ long) (IsCut w c.args.course.now) c.from_residual.result fault e
    (λ h. long_cut (w old) (ap (λ (a : Act). act_in c.args.before.now c.args.bound a c.args.value old) c.in-Assign.is ∙ h)) c.in_err-assign-in-Assign.ensures.long

pub act-returns-in-Send-clause-goes : goal.act-returns-in-Send-clause-goes
act-returns-in-Send-clause-goes t c =
    let old = going_view c.args.course.now in
    goes_so (act_in c.args.before.now c.args.bound c.args.act.now c.args.value old) (messages_in c.args.before.now c.args.bound c.in-Send.above c.args.value c.deref.result.now old) c.sends.result (going_view c.sends.new.course)
    (ap (λ (a : Act). act_in c.args.before.now c.args.bound a c.args.value old) c.in-Send.is ∙ ap (λ (l : List Message). messages_in c.args.before.now c.args.bound c.in-Send.above c.args.value l old) (sym c.deref.ensures.value)) c.sends.ensures.goes

pub act-returns-in-Send-clause-long : goal.act-returns-in-Send-clause-long
act-returns-in-Send-clause-long t c =
    let old = going_view c.args.course.now in
    long_so (act_in c.args.before.now c.args.bound c.args.act.now c.args.value old) (messages_in c.args.before.now c.args.bound c.in-Send.above c.args.value c.deref.result.now old) c.sends.result
    (ap (λ (a : Act). act_in c.args.before.now c.args.bound a c.args.value old) c.in-Send.is ∙ ap (λ (l : List Message). messages_in c.args.before.now c.args.bound c.in-Send.above c.args.value l old) (sym c.deref.ensures.value)) c.sends.ensures.long

pub act-returns-in-One-clause-goes : goal.act-returns-in-One-clause-goes
act-returns-in-One-clause-goes t c =
    let old = going_view c.args.course.now in
    goes_so (act_in c.args.before.now c.args.bound c.args.act.now c.args.value old) (sided_in c.args.before.now c.args.bound c.in-One.side c.args.value c.in-One.inside old) c.one_sided.result (going_view c.one_sided.new.course)
    (ap (λ (a : Act). act_in c.args.before.now c.args.bound a c.args.value old) c.in-One.is) c.one_sided.ensures.goes

pub act-returns-in-One-clause-long : goal.act-returns-in-One-clause-long
act-returns-in-One-clause-long t c =
    let old = going_view c.args.course.now in
    long_so (act_in c.args.before.now c.args.bound c.args.act.now c.args.value old) (sided_in c.args.before.now c.args.bound c.in-One.side c.args.value c.in-One.inside old) c.one_sided.result
    (ap (λ (a : Act). act_in c.args.before.now c.args.bound a c.args.value old) c.in-One.is) c.one_sided.ensures.long

pub act-returns-in-Two-clause-goes : goal.act-returns-in-Two-clause-goes
act-returns-in-Two-clause-goes t c =
    let old = going_view c.args.course.now in
    goes_so (act_in c.args.before.now c.args.bound c.args.act.now c.args.value old) (chosen_in c.args.before.now c.args.bound c.in-Two.side c.args.value c.in-Two.first c.in-Two.second old) c.two_sided.result (going_view c.two_sided.new.course)
    (ap (λ (a : Act). act_in c.args.before.now c.args.bound a c.args.value old) c.in-Two.is) c.two_sided.ensures.goes

pub act-returns-in-Two-clause-long : goal.act-returns-in-Two-clause-long
act-returns-in-Two-clause-long t c =
    let old = going_view c.args.course.now in
    long_so (act_in c.args.before.now c.args.bound c.args.act.now c.args.value old) (chosen_in c.args.before.now c.args.bound c.in-Two.side c.args.value c.in-Two.first c.in-Two.second old) c.two_sided.result
    (ap (λ (a : Act). act_in c.args.before.now c.args.bound a c.args.value old) c.in-Two.is) c.two_sided.ensures.long

-- MESSAGES

pub sends-loop-one-preserved : goal.sends-loop-one-preserved
sends-loop-one-preserved t c =
    let xs = c.args.before.now in
    let old = going_view c.loop-one.course in
    let next = going_view c.message.new.course in
    let each = λ (m : Message) (v : Value). message_run most (runs_of most xs) c.args.bound c.args.above c.args.receiver m in
    let did = some_went (message_in xs c.args.bound c.args.above c.args.receiver c.one-item.result old) _ c.in-Some.answer next c.in-Some.is c.in_ok-answer.ensures.goes in
    record {
      goes = each_went each c.args.messages.now c.loop-one.one-index c.one-item.result c.loop-one.value c.in-Some.answer old next (messages_in xs c.args.bound c.args.above c.args.receiver c.args.messages.now (going_view c.args.course.now))
          c.loop-one-test.true c.one-item.is did c.loop-one.invariant.goes;
      sound = c.message.ensures.sound;
    }

pub sends-returns-in-None-clause-goes : goal.sends-returns-in-None-clause-goes
sends-returns-in-None-clause-goes t c =
    let xs = c.args.before.now in
    let old = going_view c.loop-one.course in
    let next = going_view c.message.new.course in
    let each = λ (m : Message) (v : Value). message_run most (runs_of most xs) c.args.bound c.args.above c.args.receiver m in
    let did = none_over (message_in xs c.args.bound c.args.above c.args.receiver c.one-item.result old) _ next c.in-None.is c.in_ok-answer.ensures.goes in
    each_over each c.args.messages.now c.loop-one.one-index c.one-item.result c.loop-one.value old next (messages_in xs c.args.bound c.args.above c.args.receiver c.args.messages.now (going_view c.args.course.now))
    c.loop-one-test.true c.one-item.is did c.loop-one.invariant.goes

pub sends-returns-in_err-answer-clause-long : goal.sends-returns-in_err-answer-clause-long
sends-returns-in_err-answer-clause-long t c =
    let xs = c.args.before.now in
    let old = going_view c.loop-one.course in
    let each = λ (m : Message) (v : Value). message_run most (runs_of most xs) c.args.bound c.args.above c.args.receiver m in
    let fault = c.in_err-answer.field-0.0 in
    let e : c.from_residual.result ≡ Err fault = search rules in
    faulted (Option Value) (IsCut (message_in xs c.args.bound c.args.above c.args.receiver c.one-item.result) c.loop-one.course) (IsCut (messages_in xs c.args.bound c.args.above c.args.receiver c.args.messages.now) c.args.course.now) c.from_residual.result fault e
    (λ h. each_cut each c.args.messages.now c.loop-one.one-index c.one-item.result c.loop-one.value old (messages_in xs c.args.bound c.args.above c.args.receiver c.args.messages.now (going_view c.args.course.now))
    c.loop-one-test.true c.one-item.is h c.loop-one.invariant.goes) c.in_err-answer.ensures.long

pub sends-returns-clause-goes : goal.sends-returns-clause-goes
sends-returns-clause-goes t c =
    let xs = c.args.before.now in
    let each = λ (m : Message) (v : Value). message_run most (runs_of most xs) c.args.bound c.args.above c.args.receiver m in
    each_end each c.args.messages.now c.loop-one.one-index c.loop-one.value (going_view c.loop-one.course) (messages_in xs c.args.bound c.args.above c.args.receiver c.args.messages.now (going_view c.args.course.now))
    c.loop-one-test.false c.loop-one.invariant.goes

pub message-returns-in-Some-clause-goes : goal.message-returns-in-Some-clause-goes
message-returns-in-Some-clause-goes t c =
    let xs = c.args.before.now in
    let old = going_view c.args.course.now in
    let mid = going_view c.arguments.new.course in
    let m = c.args.message.now in
    let given = some_went (arguments_in xs c.args.bound c.deref.result.now old) _ (stack_view c.in-Some.values.items) mid (ap (option_map (λ (vs : Vec Value). stack_view vs.items)) c.in-Some.is) c.in_ok-values.ensures.goes in
    let same = message_is xs c.args.bound c.args.above c.args.receiver m c.deref.result.now c.in-Some.values.items old mid c.deref.ensures.value given in
    goes_so (message_in xs c.args.bound c.args.above c.args.receiver m old) (answer_to most c.args.receiver c.deref-in-Some.result.now c.in-Some.values.items c.args.above mid) c.answer.result (going_view c.answer.new.self)
    (same ∙ ap (λ (text : List ℕ). answer_to most c.args.receiver text c.in-Some.values.items c.args.above mid) (sym c.deref-in-Some.ensures.value)) c.answer.ensures.went

pub message-returns-in-Some-clause-long : goal.message-returns-in-Some-clause-long
message-returns-in-Some-clause-long t c =
    let xs = c.args.before.now in
    let old = going_view c.args.course.now in
    let mid = going_view c.arguments.new.course in
    let m = c.args.message.now in
    let given = some_went (arguments_in xs c.args.bound c.deref.result.now old) _ (stack_view c.in-Some.values.items) mid (ap (option_map (λ (vs : Vec Value). stack_view vs.items)) c.in-Some.is) c.in_ok-values.ensures.goes in
    let same = message_is xs c.args.bound c.args.above c.args.receiver m c.deref.result.now c.in-Some.values.items old mid c.deref.ensures.value given in
    let w = message_in xs c.args.bound c.args.above c.args.receiver m in
    still_long (Option Value) (answer_to most c.args.receiver c.deref-in-Some.result.now c.in-Some.values.items c.args.above mid ≡ long) (IsCut w c.args.course.now) c.answer.result
    (λ h. long_cut (w old) (same ∙ ap (λ (text : List ℕ). answer_to most c.args.receiver text c.in-Some.values.items c.args.above mid) (sym c.deref-in-Some.ensures.value) ∙ h)) c.answer.ensures.long

pub message-returns-in-None-clause-goes : goal.message-returns-in-None-clause-goes
message-returns-in-None-clause-goes t c =
    let xs = c.args.before.now in
    let old = going_view c.args.course.now in
    let mid = going_view c.arguments.new.course in
    let m = c.args.message.now in
    let none = none_over (arguments_in xs c.args.bound c.deref.result.now old) _ mid (ap (option_map (λ (vs : Vec Value). stack_view vs.items)) c.in-None.is) c.in_ok-values.ensures.goes in
    message_over xs c.args.bound c.args.above c.args.receiver m c.deref.result.now mid old c.deref.ensures.value none

pub message-returns-in_err-values-clause-long : goal.message-returns-in_err-values-clause-long
message-returns-in_err-values-clause-long t c =
    let xs = c.args.before.now in
    let old = going_view c.args.course.now in
    let m = c.args.message.now in
    let fault = c.in_err-values.field-0.0 in
    let e : c.from_residual.result ≡ Err fault = search rules in
    faulted (Option Value) (IsCut (arguments_in xs c.args.bound c.deref.result.now) c.args.course.now) (IsCut (message_in xs c.args.bound c.args.above c.args.receiver m) c.args.course.now) c.from_residual.result fault e
    (λ h. message_cut xs c.args.bound c.args.above c.args.receiver m c.deref.result.now old c.deref.ensures.value h) c.in_err-values.ensures.long

-- FORMS

pub one_sided-returns-then-passes-clause-goes : goal.one_sided-returns-then-passes-clause-goes
one_sided-returns-then-passes-clause-goes t c =
    let made = tested c.passed-on.result.0 true c.args.value c.args.course.now c.test.new.course _ c.in-Some.passes c.in-Some.is c.if-passes.true c.in_ok-passes.ensures.jumps in
    sided_is c.args.before.now c.args.bound c.args.side c.passed-on.result.0 true c.passed-on.result.1 c.args.value c.args.inside.now c.args.course.now c.test.new.course c.passed-on.ensures made

pub one_sided-returns-else-passes-clause-goes : goal.one_sided-returns-else-passes-clause-goes
one_sided-returns-else-passes-clause-goes t c =
    let made = tested c.passed-on.result.0 false c.args.value c.args.course.now c.test.new.course _ c.in-Some.passes c.in-Some.is c.if-passes.false c.in_ok-passes.ensures.jumps in
    goes_so (sided_in c.args.before.now c.args.bound c.args.side c.args.value c.args.inside.now (going_view c.args.course.now)) (body_in c.args.before.now c.args.bound c.args.inside.now (going_view c.test.new.course)) c.body.result (going_view c.body.new.course)
    (sided_is c.args.before.now c.args.bound c.args.side c.passed-on.result.0 false c.passed-on.result.1 c.args.value c.args.inside.now c.args.course.now c.test.new.course c.passed-on.ensures made) c.body.ensures.goes

pub one_sided-returns-else-passes-clause-long : goal.one_sided-returns-else-passes-clause-long
one_sided-returns-else-passes-clause-long t c =
    let made = tested c.passed-on.result.0 false c.args.value c.args.course.now c.test.new.course _ c.in-Some.passes c.in-Some.is c.if-passes.false c.in_ok-passes.ensures.jumps in
    long_so (sided_in c.args.before.now c.args.bound c.args.side c.args.value c.args.inside.now (going_view c.args.course.now)) (body_in c.args.before.now c.args.bound c.args.inside.now (going_view c.test.new.course)) c.body.result
    (sided_is c.args.before.now c.args.bound c.args.side c.passed-on.result.0 false c.passed-on.result.1 c.args.value c.args.inside.now c.args.course.now c.test.new.course c.passed-on.ensures made) c.body.ensures.long

pub one_sided-returns-in-None-clause-goes : goal.one_sided-returns-in-None-clause-goes
one_sided-returns-in-None-clause-goes t c =
    sided_over c.args.before.now c.args.bound c.args.side c.passed-on.result.0 c.passed-on.result.1 c.args.value c.args.inside.now c.args.course.now c.test.new.course c.passed-on.ensures
    (untested c.passed-on.result.0 c.args.value c.args.course.now c.test.new.course _ c.in-None.is c.in_ok-passes.ensures.jumps)

pub one_sided-returns-in_err-passes-clause-long : goal.one_sided-returns-in_err-passes-clause-long
one_sided-returns-in_err-passes-clause-long t c =
    let fault = c.in_err-passes.field-0.0 in
    let e : c.from_residual.result ≡ Err fault = search rules in
    faulted (Option Value) (IsLongTest c.passed-on.result.0 c.args.value c.args.course.now) (IsCut (sided_in c.args.before.now c.args.bound c.args.side c.args.value c.args.inside.now) c.args.course.now) c.from_residual.result fault e
    (λ h. sided_cut c.args.before.now c.args.bound c.args.side c.passed-on.result.0 c.passed-on.result.1 c.args.value c.args.inside.now c.args.course.now c.passed-on.ensures h) c.in_err-passes.ensures.long

pub two_sided-returns-then-is_first-clause-goes : goal.two_sided-returns-then-is_first-clause-goes
two_sided-returns-then-is_first-clause-goes t c =
    let made = tested c.first_on.result true c.args.value c.args.course.now c.test.new.course _ c.in-Some.is_first c.in-Some.is c.if-is_first.true c.in_ok-is_first.ensures.jumps in
    goes_so (chosen_in c.args.before.now c.args.bound c.args.side c.args.value c.args.first.now c.args.second.now (going_view c.args.course.now)) (body_in c.args.before.now c.args.bound c.args.first.now (going_view c.test.new.course)) c.body.result (going_view c.body.new.course)
    (chosen_is c.args.before.now c.args.bound c.args.side c.first_on.result true c.args.value c.args.first.now c.args.second.now c.args.course.now c.test.new.course c.first_on.ensures made) c.body.ensures.goes

pub two_sided-returns-then-is_first-clause-long : goal.two_sided-returns-then-is_first-clause-long
two_sided-returns-then-is_first-clause-long t c =
    let made = tested c.first_on.result true c.args.value c.args.course.now c.test.new.course _ c.in-Some.is_first c.in-Some.is c.if-is_first.true c.in_ok-is_first.ensures.jumps in
    long_so (chosen_in c.args.before.now c.args.bound c.args.side c.args.value c.args.first.now c.args.second.now (going_view c.args.course.now)) (body_in c.args.before.now c.args.bound c.args.first.now (going_view c.test.new.course)) c.body.result
    (chosen_is c.args.before.now c.args.bound c.args.side c.first_on.result true c.args.value c.args.first.now c.args.second.now c.args.course.now c.test.new.course c.first_on.ensures made) c.body.ensures.long

pub two_sided-returns-else-is_first-clause-goes : goal.two_sided-returns-else-is_first-clause-goes
two_sided-returns-else-is_first-clause-goes t c =
    let made = tested c.first_on.result false c.args.value c.args.course.now c.test.new.course _ c.in-Some.is_first c.in-Some.is c.if-is_first.false c.in_ok-is_first.ensures.jumps in
    goes_so (chosen_in c.args.before.now c.args.bound c.args.side c.args.value c.args.first.now c.args.second.now (going_view c.args.course.now)) (body_in c.args.before.now c.args.bound c.args.second.now (going_view c.test.new.course)) c.body-else-is_first.result (going_view c.body-else-is_first.new.course)
    (chosen_is c.args.before.now c.args.bound c.args.side c.first_on.result false c.args.value c.args.first.now c.args.second.now c.args.course.now c.test.new.course c.first_on.ensures made) c.body-else-is_first.ensures.goes

pub two_sided-returns-else-is_first-clause-long : goal.two_sided-returns-else-is_first-clause-long
two_sided-returns-else-is_first-clause-long t c =
    let made = tested c.first_on.result false c.args.value c.args.course.now c.test.new.course _ c.in-Some.is_first c.in-Some.is c.if-is_first.false c.in_ok-is_first.ensures.jumps in
    long_so (chosen_in c.args.before.now c.args.bound c.args.side c.args.value c.args.first.now c.args.second.now (going_view c.args.course.now)) (body_in c.args.before.now c.args.bound c.args.second.now (going_view c.test.new.course)) c.body-else-is_first.result
    (chosen_is c.args.before.now c.args.bound c.args.side c.first_on.result false c.args.value c.args.first.now c.args.second.now c.args.course.now c.test.new.course c.first_on.ensures made) c.body-else-is_first.ensures.long

pub two_sided-returns-in-None-clause-goes : goal.two_sided-returns-in-None-clause-goes
two_sided-returns-in-None-clause-goes t c =
    chosen_over c.args.before.now c.args.bound c.args.side c.first_on.result c.args.value c.args.first.now c.args.second.now c.args.course.now c.test.new.course c.first_on.ensures
    (untested c.first_on.result c.args.value c.args.course.now c.test.new.course _ c.in-None.is c.in_ok-is_first.ensures.jumps)

pub two_sided-returns-in_err-is_first-clause-long : goal.two_sided-returns-in_err-is_first-clause-long
two_sided-returns-in_err-is_first-clause-long t c =
    let fault = c.in_err-is_first.field-0.0 in
    let e : c.from_residual.result ≡ Err fault = search rules in
    faulted (Option Value) (IsLongTest c.first_on.result c.args.value c.args.course.now) (IsCut (chosen_in c.args.before.now c.args.bound c.args.side c.args.value c.args.first.now c.args.second.now) c.args.course.now) c.from_residual.result fault e
    (λ h. chosen_cut c.args.before.now c.args.bound c.args.side c.first_on.result c.args.value c.args.first.now c.args.second.now c.args.course.now c.first_on.ensures h) c.in_err-is_first.ensures.long

-- BLOCKS

pub body-returns-in_ok-did-in-Some-clause-goes : goal.body-returns-in_ok-did-in-Some-clause-goes
body-returns-in_ok-did-in-Some-clause-goes t c =
    let mid = c.statements.new.course in
    let given = some_went (nodes_in c.args.before.now c.args.bound c.deref.result.now (going_view c.args.course.now)) _ c.in-Some.value (going_view mid) c.in-Some.is c.in_ok-value.ensures.goes in
    ended_is c.args.before.now c.args.bound (left most (runs_of most c.args.before.now) c.args.bound) c.args.inside.now c.deref.result.now (going_view c.args.course.now) c.deref.ensures.value true c.in-Some.value (going_view mid) c.if-inside.true given
    ∙ returned_over c.in-Some.value mid c.did.new.self c.in_ok-did-in-Some.ensures.few c.in_ok-did-in-Some.ensures.went

pub body-returns-in_err-did-in-Some-clause-long : goal.body-returns-in_err-did-in-Some-clause-long
body-returns-in_err-did-in-Some-clause-long t c =
    let mid = c.statements.new.course in
    let w = body_in c.args.before.now c.args.bound c.args.inside.now in
    let given = some_went (nodes_in c.args.before.now c.args.bound c.deref.result.now (going_view c.args.course.now)) _ c.in-Some.value (going_view mid) c.in-Some.is c.in_ok-value.ensures.goes in
    let fault = c.in_err-did-in-Some.field-0.0 in
    let e : c.from_residual-in_err-did-in-Some.result ≡ Err fault = search rules in
    faulted (Option Value) ((length mid.deeds.items == most) ≡ true) (IsCut w c.args.course.now) c.from_residual-in_err-did-in-Some.result fault e
    (λ h. long_cut (w (going_view c.args.course.now)) (ended_is c.args.before.now c.args.bound (left most (runs_of most c.args.before.now) c.args.bound) c.args.inside.now c.deref.result.now (going_view c.args.course.now) c.deref.ensures.value true c.in-Some.value (going_view mid) c.if-inside.true given ∙ returned_long c.in-Some.value mid h)) c.in_err-did-in-Some.ensures.long

pub body-returns-else-inside-clause-goes : goal.body-returns-else-inside-clause-goes
body-returns-else-inside-clause-goes t c =
    let mid = c.statements.new.course in
    let given = some_went (nodes_in c.args.before.now c.args.bound c.deref.result.now (going_view c.args.course.now)) _ c.in-Some.value (going_view mid) c.in-Some.is c.in_ok-value.ensures.goes in
    ended_is c.args.before.now c.args.bound (left most (runs_of most c.args.before.now) c.args.bound) c.args.inside.now c.deref.result.now (going_view c.args.course.now) c.deref.ensures.value false c.in-Some.value (going_view mid) c.if-inside.false given

pub body-returns-in-None-clause-goes : goal.body-returns-in-None-clause-goes
body-returns-in-None-clause-goes t c =
    let old = going_view c.args.course.now in
    let mid = going_view c.statements.new.course in
    let ended = none_over (nodes_in c.args.before.now c.args.bound c.deref.result.now old) _ mid c.in-None.is c.in_ok-value.ensures.goes in
    ended_over c.args.before.now c.args.bound (left most (runs_of most c.args.before.now) c.args.bound) c.args.inside.now c.deref.result.now old c.deref.ensures.value mid ended

pub body-returns-in_err-value-clause-long : goal.body-returns-in_err-value-clause-long
body-returns-in_err-value-clause-long t c =
    let old = going_view c.args.course.now in
    let fault = c.in_err-value.field-0.0 in
    let e : c.from_residual.result ≡ Err fault = search rules in
    faulted (Option Value) (IsCut (nodes_in c.args.before.now c.args.bound c.deref.result.now) c.args.course.now) (IsCut (body_in c.args.before.now c.args.bound c.args.inside.now) c.args.course.now) c.from_residual.result fault e
    (λ h. ended_cut c.args.before.now c.args.bound (left most (runs_of most c.args.before.now) c.args.bound) c.args.inside.now c.deref.result.now old c.deref.ensures.value h) c.in_err-value.ensures.long

-- LOOPS

pub looped-loop-left-preserved : goal.looped-loop-left-preserved
looped-loop-left-preserved t c = record {
  goes = turned_again c.args.before.now c.args.bound c.args.kind c.args.condition.now c.args.repeated.now (loop_in c.args.before.now c.args.bound c.args.kind c.args.condition.now c.args.repeated.now (going_view c.args.course.now)) c.loop-left.left c.loop-left.course c.turn.new.course (omega arith) (subst (EndsTurn c.args.before.now c.args.bound c.args.kind c.args.condition.now c.args.repeated.now c.loop-left.course c.turn.new.course) c.in-Again.is c.in_ok-turn.ensures.goes) c.loop-left.invariant.goes;
  sound = c.turn.ensures.sound;
}

pub looped-returns-in-Left-clause-goes : goal.looped-returns-in-Left-clause-goes
looped-returns-in-Left-clause-goes t c = turned_left c.args.before.now c.args.bound c.args.kind c.args.condition.now c.args.repeated.now (loop_in c.args.before.now c.args.bound c.args.kind c.args.condition.now c.args.repeated.now (going_view c.args.course.now)) c.loop-left.left c.loop-left.course c.turn.new.course (omega arith) (subst (EndsTurn c.args.before.now c.args.bound c.args.kind c.args.condition.now c.args.repeated.now c.loop-left.course c.turn.new.course) c.in-Left.is c.in_ok-turn.ensures.goes) c.loop-left.invariant.goes

pub looped-returns-in-Over-clause-goes : goal.looped-returns-in-Over-clause-goes
looped-returns-in-Over-clause-goes t c = turned_over c.args.before.now c.args.bound c.args.kind c.args.condition.now c.args.repeated.now (loop_in c.args.before.now c.args.bound c.args.kind c.args.condition.now c.args.repeated.now (going_view c.args.course.now)) c.loop-left.left c.loop-left.course c.turn.new.course (omega arith) (subst (EndsTurn c.args.before.now c.args.bound c.args.kind c.args.condition.now c.args.repeated.now c.loop-left.course c.turn.new.course) c.in-Over.is c.in_ok-turn.ensures.goes) c.loop-left.invariant.goes

pub looped-returns-in_err-turn-clause-long : goal.looped-returns-in_err-turn-clause-long
looped-returns-in_err-turn-clause-long t c =
    let xs = c.args.before.now in
    let n = c.args.bound in
    let whole = loop_in xs n c.args.kind c.args.condition.now c.args.repeated.now in
    let some : 0 < c.loop-left.left = omega arith in
    let fault = c.in_err-turn.field-0.0 in
    let e : c.from_residual.result ≡ Err fault = search rules in
    faulted (Option Value) (IsTurnCut xs n c.args.kind c.args.condition.now c.args.repeated.now c.loop-left.course) (IsCut whole c.args.course.now) c.from_residual.result fault e
    (λ h. turned_cut xs n c.args.kind c.args.condition.now c.args.repeated.now (whole (going_view c.args.course.now)) c.loop-left.left c.loop-left.course some h c.loop-left.invariant.goes) c.in_err-turn.ensures.long

pub looped-returns-clause-long : goal.looped-returns-clause-long
looped-returns-clause-long t c =
    let none : c.loop-left.left ≡ 0 = omega arith in
    no_turn c.args.before.now c.args.bound c.args.kind c.args.condition.now c.args.repeated.now (loop_in c.args.before.now c.args.bound c.args.kind c.args.condition.now c.args.repeated.now (going_view c.args.course.now))
    c.loop-left.left c.loop-left.course none c.loop-left.invariant.goes

pub turn-returns-then-leaves-clause-goes : goal.turn-returns-then-leaves-clause-goes
turn-returns-then-leaves-clause-goes t c =
    let xs = c.args.before.now in
    let n = c.args.bound in
    let mid = c.body.new.course in
    let on = c.leaves_on.result in
    let given = some_went (body_in xs n c.args.condition.now (going_view c.args.course.now)) _ c.in-Some.value (going_view mid) c.in-Some.is c.in_ok-value.ensures.goes in
    let made = tested on true c.in-Some.value mid c.test.new.course _ c.in-Some-2.leaves c.in-Some-2.is c.if-leaves.true c.in_ok-leaves-in-Some.ensures.jumps in
    turn_left xs n c.args.kind c.args.condition.now c.args.repeated.now on c.in-Some.value c.args.course.now mid c.test.new.course c.leaves_on.ensures given made

pub turn-returns-else-leaves-clause-goes : goal.turn-returns-else-leaves-clause-goes
turn-returns-else-leaves-clause-goes t c =
    let xs = c.args.before.now in
    let n = c.args.bound in
    let mid = c.body.new.course in
    let on = c.leaves_on.result in
    let given = some_went (body_in xs n c.args.condition.now (going_view c.args.course.now)) _ c.in-Some.value (going_view mid) c.in-Some.is c.in_ok-value.ensures.goes in
    let made = tested on false c.in-Some.value mid c.test.new.course _ c.in-Some-2.leaves c.in-Some-2.is c.if-leaves.false c.in_ok-leaves-in-Some.ensures.jumps in
    turn_again xs n c.args.kind c.args.condition.now c.args.repeated.now on c.in-Some.value c.args.course.now mid c.test.new.course c.again.new.course c.again.result c.leaves_on.ensures given made c.again.ensures.goes

pub turn-returns-else-leaves-clause-long : goal.turn-returns-else-leaves-clause-long
turn-returns-else-leaves-clause-long t c =
    let xs = c.args.before.now in
    let n = c.args.bound in
    let mid = c.body.new.course in
    let on = c.leaves_on.result in
    let given = some_went (body_in xs n c.args.condition.now (going_view c.args.course.now)) _ c.in-Some.value (going_view mid) c.in-Some.is c.in_ok-value.ensures.goes in
    let made = tested on false c.in-Some.value mid c.test.new.course _ c.in-Some-2.leaves c.in-Some-2.is c.if-leaves.false c.in_ok-leaves-in-Some.ensures.jumps in
    turn_again_cut xs n c.args.kind c.args.condition.now c.args.repeated.now on c.in-Some.value c.args.course.now mid c.test.new.course c.again.result c.leaves_on.ensures given made c.again.ensures.long

pub turn-returns-in-None-2-clause-goes : goal.turn-returns-in-None-2-clause-goes
turn-returns-in-None-2-clause-goes t c =
    let xs = c.args.before.now in
    let n = c.args.bound in
    let mid = c.body.new.course in
    let on = c.leaves_on.result in
    let given = some_went (body_in xs n c.args.condition.now (going_view c.args.course.now)) _ c.in-Some.value (going_view mid) c.in-Some.is c.in_ok-value.ensures.goes in
    let made = untested on c.in-Some.value mid c.test.new.course _ c.in-None-2.is c.in_ok-leaves-in-Some.ensures.jumps in
    turn_unsure xs n c.args.kind c.args.condition.now c.args.repeated.now on c.in-Some.value c.args.course.now mid c.test.new.course c.leaves_on.ensures given made

pub turn-returns-in_err-leaves-in-Some-clause-long : goal.turn-returns-in_err-leaves-in-Some-clause-long
turn-returns-in_err-leaves-in-Some-clause-long t c =
    let xs = c.args.before.now in
    let n = c.args.bound in
    let mid = c.body.new.course in
    let on = c.leaves_on.result in
    let given = some_went (body_in xs n c.args.condition.now (going_view c.args.course.now)) _ c.in-Some.value (going_view mid) c.in-Some.is c.in_ok-value.ensures.goes in
    let fault = c.in_err-leaves-in-Some.field-0.0 in
    let e : c.from_residual-in_err-leaves-in-Some.result ≡ Err fault = search rules in
    faulted TurnEnd (IsLongTest on c.in-Some.value mid) (IsTurnCut xs n c.args.kind c.args.condition.now c.args.repeated.now c.args.course.now) c.from_residual-in_err-leaves-in-Some.result fault e
    (λ h. turn_test_cut xs n c.args.kind c.args.condition.now c.args.repeated.now on c.in-Some.value c.args.course.now mid c.leaves_on.ensures given h) c.in_err-leaves-in-Some.ensures.long

pub turn-returns-in-None-clause-goes : goal.turn-returns-in-None-clause-goes
turn-returns-in-None-clause-goes t c =
    let xs = c.args.before.now in
    let n = c.args.bound in
    turn_over xs n c.args.kind c.args.condition.now c.args.repeated.now c.args.course.now c.body.new.course
    (none_over (body_in xs n c.args.condition.now (going_view c.args.course.now)) _ (going_view c.body.new.course) c.in-None.is c.in_ok-value.ensures.goes)

pub turn-returns-in_err-value-clause-long : goal.turn-returns-in_err-value-clause-long
turn-returns-in_err-value-clause-long t c =
    let xs = c.args.before.now in
    let n = c.args.bound in
    let fault = c.in_err-value.field-0.0 in
    let e : c.from_residual.result ≡ Err fault = search rules in
    faulted TurnEnd (IsCut (body_in xs n c.args.condition.now) c.args.course.now) (IsTurnCut xs n c.args.kind c.args.condition.now c.args.repeated.now c.args.course.now) c.from_residual.result fault e
    (λ h. turn_cut xs n c.args.kind c.args.condition.now c.args.repeated.now c.args.course.now h) c.in_err-value.ensures.long

pub again-returns-in_ok-back-in-Some-clause-goes : goal.again-returns-in_ok-back-in-Some-clause-goes
again-returns-in_ok-back-in-Some-clause-goes t c =
    let xs = c.args.before.now in
    let n = c.args.bound in
    let mid = c.body.new.course in
    let given = some_went (body_in xs n c.args.repeated.now (going_view c.args.course.now)) _ c.in-Some.field-0 (going_view mid) c.in-Some.is c.in_ok-body.ensures.goes in
    again_back xs n c.args.repeated.now c.in-Some.field-0 c.args.course.now mid c.back.new.self given c.in_ok-back-in-Some.ensures.few c.in_ok-back-in-Some.ensures.went

pub again-returns-in_err-back-in-Some-clause-long : goal.again-returns-in_err-back-in-Some-clause-long
again-returns-in_err-back-in-Some-clause-long t c =
    let xs = c.args.before.now in
    let n = c.args.bound in
    let mid = c.body.new.course in
    let given = some_went (body_in xs n c.args.repeated.now (going_view c.args.course.now)) _ c.in-Some.field-0 (going_view mid) c.in-Some.is c.in_ok-body.ensures.goes in
    let fault = c.in_err-back-in-Some.field-0.0 in
    let e : c.from_residual-in_err-back-in-Some.result ≡ Err fault = search rules in
    faulted TurnEnd ((mid.backs == most) ≡ true) (IsRepeatCut xs n c.args.repeated.now c.args.course.now) c.from_residual-in_err-back-in-Some.result fault e
    (λ h. again_long xs n c.args.repeated.now c.in-Some.field-0 c.args.course.now mid given h) c.in_err-back-in-Some.ensures.long

pub again-returns-in-None-clause-goes : goal.again-returns-in-None-clause-goes
again-returns-in-None-clause-goes t c =
    let xs = c.args.before.now in
    let n = c.args.bound in
    again_over xs n c.args.repeated.now c.args.course.now c.body.new.course
    (none_over (body_in xs n c.args.repeated.now (going_view c.args.course.now)) _ (going_view c.body.new.course) c.in-None.is c.in_ok-body.ensures.goes)

pub again-returns-in_err-body-clause-long : goal.again-returns-in_err-body-clause-long
again-returns-in_err-body-clause-long t c =
    let xs = c.args.before.now in
    let n = c.args.bound in
    let fault = c.in_err-body.field-0.0 in
    let e : c.from_residual.result ≡ Err fault = search rules in
    faulted TurnEnd (IsCut (body_in xs n c.args.repeated.now) c.args.course.now) (IsRepeatCut xs n c.args.repeated.now c.args.course.now) c.from_residual.result fault e
    (λ h. again_cut xs n c.args.repeated.now c.args.course.now h) c.in_err-body.ensures.long
