-- Steps one after the other, as the calls of a row.
use Rattle.std.proofs.Common.{◌≡◌, true, refl, sym, ap}
use Rattle.std.specs.Prelude.{ℤ, pos, ◌+ℤ◌, ◌≤ℤ◌, int_le}
use Rattle.st_model.specs.declared.dead.Dead.TheVariants as dead
use Rattle.st_model.specs.declared.deed.Deed.{Deed}
use Rattle.st_model.specs.declared.page.PageObject.{PageObject}
use Rattle.st_model.specs.declared.word.Word.{Word}
use Rattle.st_model.specs.Values.{Ref, word}
use Rattle.st_model.specs.Objects.{place_of}
use Rattle.st_model.specs.Machine.{ObjectMemory, Head, State, Went}
use Rattle.st_model.specs.Steps.{get_active, get_home, get_method, get_receiver, get_ip, get_sp, of_page, jump}
use Rattle.st_model.specs.Table.{Table, IsTabular}
use Rattle.st_model.proofs.Runs.{tests, run-set_ip, run-then, run-next, after-went, after-died, run-answer, run-die, run-passed, run-failed}
use Rattle.st_frames.specs.declared.registers.Registers.{Registers as Words}
use Rattle.st_frames.specs.inside.Rows.{row_state, registers_in}
use Rattle.st_model.proofs.IntegerTests.{le_true}

pub row-memory : (t : Table) (a : Head) (r : Words) → (row_state t a r).memory ≡ t
unfolding row_state
row-memory t a r = refl

pub row-head : (t : Table) (a : Head) (r : Words) → (row_state t a r).head ≡ a
unfolding row_state
row-head t a r = refl

-- what a row leaves is no part of the state

pub row-left : (t : Table) (a : Head) (r : Words) (d : Deed) → row_state t a (record r { left = d }) ≡ row_state t a r
unfolding row_state
row-left t a r d = refl

pub row-said : (t : Table) (a : Head) (r : Words) (w : Word) → row_state t a (record r { said = w }) ≡ row_state t a r
unfolding row_state
row-said t a r w = refl

pub row-stored : (t u : Table) (a b : Head) (r : Words) → b ≡ a → record (row_state t a r) { memory = u } ≡ row_state u b r
unfolding row_state
row-stored t u a b r e = rw e refl

module _ (t : Table) (a : Head) (r : Words) where
  pub row-active : get_active.run (row_state t a r) ≡ Went (word r.active) (row_state t a r)
  unfolding get_active row_state
  row-active = refl

  pub row-home : get_home.run (row_state t a r) ≡ Went (word r.home) (row_state t a r)
  unfolding get_home row_state
  row-home = refl

  pub row-method : get_method.run (row_state t a r) ≡ Went (word r.method) (row_state t a r)
  unfolding get_method row_state
  row-method = refl

  pub row-receiver : get_receiver.run (row_state t a r) ≡ Went (word r.receiver) (row_state t a r)
  unfolding get_receiver row_state
  row-receiver = refl

  pub row-ip : get_ip.run (row_state t a r) ≡ Went r.ip (row_state t a r)
  unfolding get_ip row_state
  row-ip = refl

  pub row-sp : get_sp.run (row_state t a r) ≡ Went r.sp (row_state t a r)
  unfolding get_sp row_state
  row-sp = refl

-- an object of the root page, over a memory that names it as the table does
pub row-page : (m : ObjectMemory Table) → IsTabular m → (q : PageObject) (s : State Table) → (of_page m q).run s ≡ Went (Ref (place_of q)) s
unfolding of_page
row-page m h q s = rw h.named refl

pub ruleset pages = (row-page)

-- what a row is made of
pub ruleset rows = (row-memory, row-head, row-left, row-said, row-stored, row-active, row-home, row-method, row-receiver, row-ip, row-sp, run-then, run-next, after-went, after-died, run-answer, run-die)

-- a row with checks of numbers
pub ruleset checks = (tests, row-memory, row-head, row-left, row-said, row-stored, row-active, row-home, row-method, row-receiver, row-ip, row-sp, run-then, run-next, after-went, after-died, run-answer, run-die)

pub ruleset jumps = (row-ip, run-passed, run-failed, run-then, run-next, after-went, after-died)

pub jump-went : (t : Table) (a : Head) (r : Words) (d i : ℤ) → i ≡ r.ip +ℤ d → pos 0 ≤ℤ i → i ≤ℤ pos 16382
    → (jump d).run (row_state t a r) ≡ Went tt (record (row_state t a r) { registers = record (registers_in r) { ip = i } })
unfolding jump row_state
jump-went t a r d i e low high =
    let p : int_le (pos 0) (r.ip +ℤ d) ≡ true = rw (← e) (le_true (pos 0) i low) in
    let q : int_le (r.ip +ℤ d) (pos 16382) ≡ true = rw (← e) (le_true i (pos 16382) high) in
    simp (run-then, run-next, after-went, row-ip t a r, run-passed dead.Ip (int_le (pos 0) (r.ip +ℤ d)) (row_state t a r) p, run-passed dead.Ip (int_le (r.ip +ℤ d) (pos 16382)) (row_state t a r) q, run-set_ip) (ap (λ x. Went tt (record (row_state t a r) { registers = record (registers_in r) { ip = x } })) (sym e))

pub ruleset bytes = (run-then, run-next, after-went, after-died, run-answer)
