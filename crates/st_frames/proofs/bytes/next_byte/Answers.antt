use Rattle.std.proofs.Common.{rules, ◌≡◌, Err, w32, arith, subst, refl}
use Rattle.std.specs.Prelude.{ℤ, FitsSigned}
use Rattle.std.proofs.lemmas.Int.{ints, to_z-of_z}
use Rattle.st_model.specs.Values.{word}
use Rattle.st_model.specs.Machine.{State, Died, Went}
use Rattle.st_model.specs.Steps.{byte_at}
use Rattle.st_model.specs.Table.{Table}
use Rattle.st_frames.specs.inside.Rows.{row_state}
use Rattle.st_frames.proofs.Doing.{row-memory}
use Rattle.st_frames.proofs.CodeBytes.{byte-went, byte-died, byte_place}
use Rattle.st_frames.proofs.bytes.next_byte.Goals as goal

pub returns-in_err-byte : goal.returns-in_err-byte
returns-in_err-byte g c =
    let e : c.from_residual.result ≡ Err c.in_err-byte.field-0.0 = search rules in
    let fits : FitsSigned w32 c.args.r.now.ip = record { sfits = omega (arith, ints) } in
    let z = to_z-of_z w32 c.args.r.now.ip fits in
    let reads = subst (λ (i : ℤ). (s : State Table) → s.memory ≡ g.O.Objects.table c.args.m.now → (byte_at g.O.Objects.names (word c.args.r.now.method) i).run s ≡ Died c.in_err-byte.field-0.0) z c.in_err-byte.ensures in
    rw e (record { does = record { does = byte-died g.O.Objects.names (g.O.Objects.table c.args.m.now) (g.O.Objects.head c.args.m.now) c.args.r.now c.in_err-byte.field-0.0 reads; world = refl } })

pub invariant_of-r : goal.invariant_of-r
invariant_of-r g c =
    let s = row_state (g.O.Objects.table c.args.m.now) (g.O.Objects.head c.args.m.now) c.args.r.now in
    let fits : FitsSigned w32 c.args.r.now.ip = record { sfits = omega (arith, ints) } in
    let z = to_z-of_z w32 c.args.r.now.ip fits in
    let reads = subst (λ (i : ℤ). (s : State Table) → s.memory ≡ g.O.Objects.table c.args.m.now → (byte_at g.O.Objects.names (word c.args.r.now.method) i).run s ≡ Went c.in_ok-byte.byte s) z c.in_ok-byte.ensures in
    let place = byte_place g.O.Objects.names (word c.args.r.now.method) c.args.r.now.ip c.in_ok-byte.byte s s (reads s (row-memory (g.O.Objects.table c.args.m.now) (g.O.Objects.head c.args.m.now) c.args.r.now)) in
    record { active_narrow = c.args.r.now.active_narrow; home_narrow = c.args.r.now.home_narrow; method_narrow = c.args.r.now.method_narrow; receiver_narrow = c.args.r.now.receiver_narrow; ip_low = omega (arith, ints, place.low); ip_high = omega (arith, ints, place.high); sp_low = c.args.r.now.sp_low; sp_high = c.args.r.now.sp_high }

pub returns : goal.returns
unfolding row_state
returns g c =
    let fits : FitsSigned w32 c.args.r.now.ip = record { sfits = omega (arith, ints) } in
    let z = to_z-of_z w32 c.args.r.now.ip fits in
    let reads = subst (λ (i : ℤ). (s : State Table) → s.memory ≡ g.O.Objects.table c.args.m.now → (byte_at g.O.Objects.names (word c.args.r.now.method) i).run s ≡ Went c.in_ok-byte.byte s) z c.in_ok-byte.ensures in
    record { does = record { does = byte-went g.O.Objects.names (g.O.Objects.table c.args.m.now) (g.O.Objects.head c.args.m.now) c.args.r.now c.in_ok-byte.byte _ reads (omega (arith, ints)); world = refl } }
