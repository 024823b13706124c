use Rattle.std.proofs.Common.{rules, ◌≡◌, ◌≢◌, ◌≤◌, true, Ok, Err, Some, None, refl, sym, subst, ap, ◌∙◌, arith}
use Rattle.std.specs.Prelude.{if◌then◌else◌, nat_le}
use Rattle.std.proofs.lemmas.Bool.Decides.{nat_tests}
use Rattle.st_model.specs.declared.outcome.Outcome.TheVariants as code_outcome
use Rattle.st_model.specs.Deeds.{with_deed}
use Rattle.st_model.specs.Cycles.{free_space}
use Rattle.st_model.specs.Machine.{used}
use Rattle.st_model.specs.Table.{table}
use Rattle.st_model.specs.View.{View}
use Rattle.st_frames.specs.declared.ending.RowEnd.TheVariants as rows
use Rattle.st_frames.specs.inside.Rows.{outcome_in, deed_in}
use Rattle.st_frames.specs.inside.Shown.{shown}
use Rattle.st_control.proofs.Borrowed.{same_name}
use Rattle.st_at_once.specs.inside.Room.{room_of}
use Rattle.st_at_once.proofs.OverMemory.{quick_ready, still_ready}
use Rattle.st_at_once.proofs.Rooms.{room_as}
use Rattle.st_machine.specs.declared.doing.StretchEnd.TheVariants.{Warns}
use Rattle.st_machine.specs.inside.Cycling.{GoesBy, GoesCalmly, Finishes, foreseen_step, warns}
use Rattle.st_machine.proofs.Calm.{calmly_finished}
use Rattle.st_machine.proofs.RowDone.{row_dies, row_there, row_leaves, row_ends, row_goes, row_asks}
use Rattle.st_machine.proofs.doing.do_straight.Goals as goal

pub returns-in_err-end-clause-step : goal.returns-in_err-end-clause-step
returns-in_err-end-clause-step g c =
    let v = g.M.Memory.view c.args.near.now.memory.now in
    let f = c.args.f.now in
    let start = c.args.r.now in
    let k = c.in_err-end.field-0.0 in
    let e : c.from_residual.result ≡ Err k = search rules in
    subst (λ y. GoesCalmly (shown v f start.world.now) c.bytecode.new.r.left y (shown (g.M.Memory.view c.bytecode.new.m.memory.now) f start.world.now)) (sym e)
    (row_dies v f start.world.now (g.met.M.Memory.whole c.args.near.now.memory.now) c.requires.ready c.args.code start c.requires.fetched refl k c.in_err-end.ensures.does.does)

pub returns-in_err-end-clause-same_memory : goal.returns-in_err-end-clause-same_memory
returns-in_err-end-clause-same_memory g c =
    same_name (g.M.Memory.view c.args.near.now.memory.now) (g.M.Memory.view c.bytecode.new.m.memory.now) c.args.near.now.memory.ghost_name c.bytecode.new.m.memory.ghost_name
    c.in_err-end.ensures.takes.fixed

pub hold_moved-requires-clause-there : goal.hold_moved-requires-clause-there
hold_moved-requires-clause-there g c =
    let row = c.in_ok-end.ensures in
    let start = c.args.r.now in
    row_there (g.M.Memory.view c.args.near.now.memory.now) c.args.f.now start.world.now (g.met.M.Memory.whole c.args.near.now.memory.now) c.requires.ready c.args.code start c.requires.fetched refl
    (g.M.Memory.view c.bytecode.new.m.memory.now) c.bytecode.new.r c.in_ok-end.end (g.met.M.Memory.whole c.bytecode.new.m.memory.now) (ap (λ (x : View). x.head) row.takes.fixed) row.does.does

-- where nothing is left to be done

pub returns-in-Went-clause-step : goal.returns-in-Went-clause-step
returns-in-Went-clause-step g c =
    let row = c.in_ok-end.ensures in
    let hold = c.hold_moved.ensures in
    let v = g.M.Memory.view c.args.near.now.memory.now in
    let u = g.M.Memory.view c.bytecode.new.m.memory.now in
    let h = g.M.Memory.view c.hold_moved.new.self.memory.now in
    let k = g.M.Memory.view c.finish_calmly.new.near.memory.now in
    let f = c.args.f.now in
    let q = c.hold_moved.new.f in
    let start = c.args.r.now in
    let w = start.world.now in
    let r = c.bytecode.new.r in
    let goes = row_goes v f w (g.met.M.Memory.whole c.args.near.now.memory.now) c.requires.ready c.args.code start c.requires.fetched refl u r c.in_ok-end.end
    (g.met.M.Memory.whole c.bytecode.new.m.memory.now) (ap (λ (x : View). x.head) row.takes.fixed) row.does.does h q row.does.world hold.same hold.objects hold.head
    (subst (λ y. y ≢ rows.Leaves) (sym c.in-Went.is) (λ e. cc)) code_outcome.Went (sym (ap (outcome_in r) c.in-Went.is)) in
    let ready = quick_ready u h f q w (still_ready v u f f w (ap (λ (x : View). x.held) row.takes.fixed) refl c.requires.ready) hold.frame in
    subst (λ y. GoesCalmly (shown v f w) r.left (Ok y) (shown k q w))
    (sym (subst (λ x. c.finish_calmly.result ≡ (if warns (free_space table (shown k q w)) x then Some Warns else None)) row.does.world c.finish_calmly.ensures.end))
    (calmly_finished (shown v f w) h k q w r.left (warns (free_space table (shown k q w)) w) goes ready c.finish_calmly.ensures.settles refl)

pub returns-in-Went-clause-room : goal.returns-in-Went-clause-room
returns-in-Went-clause-room g c = λ e.
    let hold = c.hold_moved.ensures in
    let u = g.M.Memory.view c.bytecode.new.m.memory.now in
    let h = g.M.Memory.view c.hold_moved.new.self.memory.now in
    let asked : nat_le 71 (room_of (g.M.Memory.view c.args.near.now.memory.now)) ≡ true = sym c.if-not-has_room.ensures in
    let held : room_of h ≡ room_of u = room_as u h (ap (used table) hold.objects) hold.head in
    let takes = c.in_ok-end.ensures.takes.room in
    let settled = c.finish_calmly.ensures.room in
    let least : 71 ≤ room_of (g.M.Memory.view c.args.near.now.memory.now) = grind (arith, nat_tests, asked) in
    omega (arith, least, takes, held, settled)

pub returns-in-Went-clause-same_memory : goal.returns-in-Went-clause-same_memory
returns-in-Went-clause-same_memory g c =
    c.finish_calmly.ensures.same_memory
    ∙ (c.hold_moved.ensures.same_memory
    ∙ same_name (g.M.Memory.view c.args.near.now.memory.now) (g.M.Memory.view c.bytecode.new.m.memory.now) c.args.near.now.memory.ghost_name c.bytecode.new.m.memory.ghost_name
    c.in_ok-end.ensures.takes.fixed)

-- where a deed is left

pub returns-in-Leaves-clause-step : goal.returns-in-Leaves-clause-step
returns-in-Leaves-clause-step g c =
    let row = c.in_ok-end.ensures in
    let hold = c.hold_moved.ensures in
    let v = g.M.Memory.view c.args.near.now.memory.now in
    let h = g.M.Memory.view c.hold_moved.new.self.memory.now in
    let f = c.args.f.now in
    let q = c.hold_moved.new.f in
    let start = c.args.r.now in
    let w = start.world.now in
    let r = c.bytecode.new.r in
    subst (λ y. GoesBy (foreseen_step (shown v f w)) (outcome_in r y) (Finishes (with_deed (deed_in r y) (shown h q w)))) c.in-Leaves.is
    (row_leaves v f w (g.met.M.Memory.whole c.args.near.now.memory.now) c.requires.ready c.args.code start c.requires.fetched refl (g.M.Memory.view c.bytecode.new.m.memory.now) r c.in_ok-end.end
    (g.met.M.Memory.whole c.bytecode.new.m.memory.now) (ap (λ (x : View). x.head) row.takes.fixed) row.does.does h q row.does.world hold.same hold.objects hold.head)

pub returns-in-Leaves-clause-same_memory : goal.returns-in-Leaves-clause-same_memory
returns-in-Leaves-clause-same_memory g c =
    c.hold_moved.ensures.same_memory
    ∙ same_name (g.M.Memory.view c.args.near.now.memory.now) (g.M.Memory.view c.bytecode.new.m.memory.now) c.args.near.now.memory.ghost_name c.bytecode.new.m.memory.ghost_name
    c.in_ok-end.ensures.takes.fixed

-- where it asks for something besides

pub outcome_near-requires-clause-ended : goal.outcome_near-requires-clause-ended
outcome_near-requires-clause-ended g c =
    let row = c.in_ok-end.ensures in
    let hold = c.hold_moved.ensures in
    let v = g.M.Memory.view c.args.near.now.memory.now in
    let f = c.args.f.now in
    let start = c.args.r.now in
    let w = start.world.now in
    let went =
    row_ends v f w (g.met.M.Memory.whole c.args.near.now.memory.now) c.requires.ready c.args.code start c.requires.fetched refl (g.M.Memory.view c.bytecode.new.m.memory.now) c.bytecode.new.r c.in_ok-end.end
    (g.met.M.Memory.whole c.bytecode.new.m.memory.now) (ap (λ (x : View). x.head) row.takes.fixed) row.does.does (g.M.Memory.view c.hold_moved.new.self.memory.now) c.hold_moved.new.f
    row.does.world hold.same hold.objects hold.head c.in_default.not-Leaves in
    (c.bytecode.new.r, (w, shown v f w, went))

pub returns-in_default-clause-step : goal.returns-in_default-clause-step
returns-in_default-clause-step g c =
    let row = c.in_ok-end.ensures in
    let hold = c.hold_moved.ensures in
    let start = c.args.r.now in
    row_asks (g.M.Memory.view c.args.near.now.memory.now) c.args.f.now start.world.now (g.met.M.Memory.whole c.args.near.now.memory.now) c.requires.ready c.args.code start c.requires.fetched refl
    (g.M.Memory.view c.bytecode.new.m.memory.now) c.bytecode.new.r c.in_ok-end.end (g.met.M.Memory.whole c.bytecode.new.m.memory.now) (ap (λ (x : View). x.head) row.takes.fixed) row.does.does
    (g.M.Memory.view c.hold_moved.new.self.memory.now) c.hold_moved.new.f row.does.world hold.same hold.objects hold.head c.in_default.not-Leaves c.outcome_near.result (c.outcome_near.ensures c.bytecode.new.r)

pub returns-in_default-clause-same_memory : goal.returns-in_default-clause-same_memory
returns-in_default-clause-same_memory g c =
    c.hold_moved.ensures.same_memory
    ∙ same_name (g.M.Memory.view c.args.near.now.memory.now) (g.M.Memory.view c.bytecode.new.m.memory.now) c.args.near.now.memory.ghost_name c.bytecode.new.m.memory.ghost_name
    c.in_ok-end.ensures.takes.fixed
