use Rattle.std.proofs.Common.{rules, arith, w32, to_z, of_z, ◌≡◌, false, true, Ok, Err, Some, None, refl, sym, subst, ap, ◌∙◌}
use Rattle.std.specs.Prelude.{if◌then◌else◌}
use Rattle.std.proofs.lemmas.Int.{to_z-of_z}
use Rattle.st_model.specs.Outcomes as outcome
use Rattle.st_model.specs.Bytecodes.{bytecode, step}
use Rattle.st_model.specs.Cycles.{free_space}
use Rattle.st_model.specs.Machine.{Went}
use Rattle.st_model.specs.Table.{table}
use Rattle.st_model.specs.View.{View}
use Rattle.st_frames.specs.inside.Shown.{shown, registers_of}
use Rattle.st_control.proofs.Borrowed.{same_name}
use Rattle.st_frames.specs.inside.Rows.{row_state, registers_in}
use Rattle.st_at_once.specs.inside.AtOnce.{kept, bytecode_at_once}
use Rattle.st_at_once.proofs.InContext.{left_so, names_then, row_stays}
use Rattle.st_at_once.specs.inside.Room.{room_of}
use Rattle.st_at_once.proofs.Kept.{kept_same, put_back}
use Rattle.st_at_once.proofs.OverMemory.{at_once_dies, at_once_done, still_fetched}
use Rattle.st_at_once.proofs.Rooms.{room_as}
use Rattle.st_machine.specs.declared.doing.StretchEnd.TheVariants.{Warns}
use Rattle.st_machine.specs.inside.Cycling.{GoesCalmly, warns}
use Rattle.st_machine.proofs.Calm.{calmly_finished}
use Rattle.st_machine.proofs.Foreseeing.{dies_at_once, cycle_done}
use Rattle.st_machine.proofs.stretch.do_calmly.Goals as goal

pub returns-in_err-bytecode_at_once-clause-step : goal.returns-in_err-bytecode_at_once-clause-step
returns-in_err-bytecode_at_once-clause-step g c =
    let v = g.M.Memory.view c.args.near.now.memory.now in
    let u = g.M.Memory.view c.bytecode_at_once.new.m.memory.now in
    let f = c.args.f.now in
    let w = c.args.r.now.world.now in
    let k = c.in_err-bytecode_at_once.field-0.0 in
    let e : c.from_residual-in_err-bytecode_at_once.result ≡ Err k = search rules in
    let fetched = c.in_ok-code.ensures in
    let start = c.fetch.new.r in
    subst (λ y. GoesCalmly (shown v f w) c.bytecode_at_once.new.r.left y (shown u c.bytecode_at_once.new.f w)) (sym e)
    (dies_at_once (shown v f w) k
    (at_once_dies v f w (g.met.M.Memory.whole c.args.near.now.memory.now) c.requires.ready c.in_ok-code.code start fetched.fetched k c.in_err-bytecode_at_once.ensures.does.does))

pub returns-in_err-bytecode_at_once-clause-same_memory : goal.returns-in_err-bytecode_at_once-clause-same_memory
returns-in_err-bytecode_at_once-clause-same_memory g c =
    same_name (g.M.Memory.view c.args.near.now.memory.now) (g.M.Memory.view c.bytecode_at_once.new.m.memory.now) c.args.near.now.memory.ghost_name
    c.bytecode_at_once.new.m.memory.ghost_name c.in_err-bytecode_at_once.ensures.takes.fixed

-- where it was done

pub returns-then-branch-clause-step : goal.returns-then-branch-clause-step
unfolding row_state
returns-then-branch-clause-step g c =
    let row = c.in_ok-bytecode_at_once.ensures in
    let fetched = c.in_ok-code.ensures in
    let v = g.M.Memory.view c.args.near.now.memory.now in
    let u = g.M.Memory.view c.bytecode_at_once.new.m.memory.now in
    let k = g.M.Memory.view c.finish_calmly.new.near.memory.now in
    let f = c.args.f.now in
    let q = c.bytecode_at_once.new.f in
    let start = c.fetch.new.r in
    let code = c.in_ok-code.code in
    let w = c.args.r.now.world.now in
    let r = c.bytecode_at_once.new.r in
    let world = row.does.world ∙ fetched.world in
    let does = subst (λ y. (bytecode_at_once table code).run (row_state v.objects v.head start) ≡ Went y (row_state u.objects u.head r)) c.if-branch.true row.does.does in
    let names = names_then (registers_of f) (registers_in start) (registers_in r) fetched.names
    (left_so (bytecode_at_once table code) (row_state v.objects v.head start) (row_state u.objects u.head r) true (row_stays code) does).names in
    let done = at_once_done v f w (g.met.M.Memory.whole c.args.near.now.memory.now) c.requires.ready code start fetched.fetched u r q does (g.met.M.Memory.whole c.bytecode_at_once.new.m.memory.now)
    (ap (λ (x : View). x.head) row.takes.fixed) (ap (λ (x : View). x.held) row.takes.fixed) world (subst (λ y. q ≡ kept (Ok y) f r) c.if-branch.true row.frame) names in
    subst (λ y. GoesCalmly (shown v f w) r.left (Ok y) (shown k q w))
    (sym (subst (λ x. c.finish_calmly.result ≡ (if warns (free_space table (shown k q w)) x then Some Warns else None)) world c.finish_calmly.ensures.end))
    (calmly_finished (shown v f w) u k q w r.left (warns (free_space table (shown k q w)) w) (λ d l. cycle_done (shown v f w) outcome.Went (shown u q w) d done.goes.0 done.goes.1 l) done.ready
    c.finish_calmly.ensures.settles refl)

pub returns-then-branch-clause-same : goal.returns-then-branch-clause-same
unfolding row_state
returns-then-branch-clause-same g c = λ e.
    let row = c.in_ok-bytecode_at_once.ensures in
    let fetched = c.in_ok-code.ensures in
    let v = g.M.Memory.view c.args.near.now.memory.now in
    let u = g.M.Memory.view c.bytecode_at_once.new.m.memory.now in
    let f = c.args.f.now in
    let start = c.fetch.new.r in
    let code = c.in_ok-code.code in
    let r = c.bytecode_at_once.new.r in
    let names = names_then (registers_of f) (registers_in start) (registers_in r) fetched.names
    (left_so (bytecode_at_once table code) (row_state v.objects v.head start) (row_state u.objects u.head r) _ (row_stays code) row.does.does).names in
    sym (kept_same f r names) ∙ ap registers_of (sym (subst (λ y. c.bytecode_at_once.new.f ≡ kept (Ok y) f r) c.if-branch.true row.frame))

pub returns-then-branch-clause-room : goal.returns-then-branch-clause-room
unfolding row_state
returns-then-branch-clause-room g c = λ e.
    let row = c.in_ok-bytecode_at_once.ensures in
    let v = g.M.Memory.view c.args.near.now.memory.now in
    let u = g.M.Memory.view c.bytecode_at_once.new.m.memory.now in
    let start = c.fetch.new.r in
    let code = c.in_ok-code.code in
    let uses = (left_so (bytecode_at_once table code) (row_state v.objects v.head start) (row_state u.objects u.head c.bytecode_at_once.new.r) _ (row_stays code) row.does.does).used in
    let same : room_of u ≡ room_of v = room_as v u uses (ap (λ (x : View). x.head) row.takes.fixed) in
    let before = c.requires.room in
    let settled = c.finish_calmly.ensures.room in
    omega (arith, before, same, settled)

pub returns-then-branch-clause-same_memory : goal.returns-then-branch-clause-same_memory
returns-then-branch-clause-same_memory g c =
    c.finish_calmly.ensures.same_memory
    ∙ same_name (g.M.Memory.view c.args.near.now.memory.now) (g.M.Memory.view c.bytecode_at_once.new.m.memory.now) c.args.near.now.memory.ghost_name c.bytecode_at_once.new.m.memory.ghost_name
    c.in_ok-bytecode_at_once.ensures.takes.fixed

-- where it wasn't

pub do_straight-requires-clause-fetched : goal.do_straight-requires-clause-fetched
unfolding row_state
do_straight-requires-clause-fetched g c =
    let row = c.in_ok-bytecode_at_once.ensures in
    let fetched = c.in_ok-code.ensures in
    let v = g.M.Memory.view c.args.near.now.memory.now in
    let u = g.M.Memory.view c.bytecode_at_once.new.m.memory.now in
    let f = c.args.f.now in
    let q = c.bytecode_at_once.new.f in
    let start = c.fetch.new.r in
    let r = c.bytecode_at_once.new.r in
    let code = c.in_ok-code.code in
    let names = (left_so (bytecode_at_once table code) (row_state v.objects v.head start) (row_state u.objects u.head r) _ (row_stays code) row.does.does).names in
    let still = row.still c.if-branch.false in
    let again = record r { ip = start.ip; sp = start.sp; ip_low = start.ip_low; ip_high = start.ip_high; sp_low = start.sp_low; sp_high = start.sp_high } in
    let low = start.ip_low in
    let high = start.ip_high in
    let read : to_z w32 (of_z w32 start.ip) ≡ start.ip = grind (arith, to_z-of_z, low, high) in
    subst
    (λ z. (step table).run (shown u q r.world.now)
    ≡ (bytecode table code).run (record { memory = u.objects; registers = record (registers_in r) { ip = z; sp = start.sp }; world = r.world.now; head = u.head })) (sym read)
    (still_fetched v u f q c.args.r.now.world.now r.world.now code start again still.0 still.1 (subst (λ y. q ≡ kept (Ok y) f r) c.if-branch.false row.frame) (row.does.world ∙ fetched.world)
    (put_back (registers_in start) (registers_in r) names) row.does.world fetched.fetched)

pub returns-clause-same_memory : goal.returns-clause-same_memory
returns-clause-same_memory g c =
    c.do_straight.ensures.same_memory
    ∙ same_name (g.M.Memory.view c.args.near.now.memory.now) (g.M.Memory.view c.bytecode_at_once.new.m.memory.now) c.args.near.now.memory.ghost_name c.bytecode_at_once.new.m.memory.ghost_name
    c.in_ok-bytecode_at_once.ensures.takes.fixed
