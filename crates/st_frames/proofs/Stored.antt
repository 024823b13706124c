-- Registers that a row has, and that are stored in the active context.
use Rattle.std.proofs.Common.{◌≡◌, ℕ, Ok, Err, refl, sym, ap, ◌∙◌, subst}
use Rattle.std.specs.Prelude.{Result, pos, ◌-◌, ◌+ℤ◌}
use Rattle.st_model.specs.declared.dead.Dead.{Dead}
use Rattle.st_model.specs.Values.{Value, Small, value, small_integer}
use Rattle.st_model.specs.Machine.{World, State, Step, Died, Went, ◌>>=◌, ◌>>◌}
use Rattle.st_model.specs.Steps.{store_field, get_active, get_ip, get_sp}
use Rattle.st_model.specs.Contexts.{store_context_registers}
use Rattle.st_model.specs.Table.{Table, table, bounded_table}
use Rattle.st_model.specs.inside.Calls.{Changes, transition_of, itself}
use Rattle.st_model.specs.View.{View}
use Rattle.st_model.proofs.Runs.{run-then, run-next, after-went, after-died}
use Rattle.st_model.proofs.Tabular.{store_field-as}
use Rattle.st_memory.specs.inside.Tabular.{bounded_tabular}
use Rattle.st_frames.specs.declared.registers.Registers.{Registers as Words}
use Rattle.st_frames.specs.inside.Rows.{row_state, registers_in}
use Rattle.st_frames.specs.declared.frame.Frame.{Frame}
use Rattle.st_frames.specs.inside.Shown.{FrameDoes, shown, registers_of}
use Rattle.st_frames.proofs.Shown.{shown-active, shown-ip, shown-sp, shown_stored}

-- what a row begins with
pub loaded : (v : View) (f : Frame) (w : World) (r : Words) → registers_in r ≡ registers_of f → r.world.now ≡ w → row_state v.objects v.head r ≡ shown v f w
unfolding row_state
loaded v f w r e q = λ i. record { memory = v.objects; registers = e i; world = q i; head = v.head }

store-same : store_context_registers bounded_table ≡ store_context_registers table
unfolding store_context_registers
store-same = λ i. do
  c ← get_active
  ip ← get_ip
  sp ← get_sp
  store_field-as bounded_tabular c 1 (small_integer (ip +ℤ pos 1)) i
  store_field-as bounded_tabular c 2 (Small (sp - 5)) i

stored_as : (v u : View) (f : Frame) (x : Result (Unit {0}) Dead) → FrameDoes (store_context_registers bounded_table) itself v f x u f → FrameDoes (store_context_registers table) itself v f x u f
stored_as v u f x h = subst (λ (step : Step Table (Unit {0})). FrameDoes step itself v f x u f) store-same h

-- the store of one value into a field
abbrev Stores : View → Value → ℕ → Value → Result (Unit {0}) Dead → View → Type 0
Stores v c k x result u = Changes (store_field bounded_table c k x) itself v.objects v.head result u.objects

same_store : (v u : View) (c d x y : Value) (k : ℕ) (result : Result (Unit {0}) Dead) → c ≡ d → x ≡ y → Stores v c k x result u → Stores v d k y result u
same_store v u c d x y k result p q h = subst (λ (b : Value). Stores v d k b result u) q (subst (λ (a : Value). Stores v a k x result u) p h)

module _ (v u : View) (f : Frame) where
  dies : (cause : Dead) (w : World) → Stores v (value f.active) 1 (small_integer (f.ip +ℤ pos 1)) (Err cause) u → (store_context_registers bounded_table).run (shown v f w) ≡ Died cause
  unfolding store_context_registers
  dies cause w k = simp (run-then, run-next, after-went, after-died, shown-active, shown-ip, shown-sp, k (shown v f w) refl refl) refl

  -- the first store dies
  pub store_dies : (c x : Value) (cause : Dead) → c ≡ value f.active → x ≡ small_integer (f.ip +ℤ pos 1) → Stores v c 1 x (Err cause) u
      → FrameDoes (store_context_registers table) itself v f (Err cause) u f
  store_dies c x cause p q k =
      stored_as v u f (Err cause) (λ w. dies cause w (same_store v u c (value f.active) x (small_integer (f.ip +ℤ pos 1)) 1 (Err cause) p q k))

  last : (z : View) (w : World) (y : Result (Unit {0}) Dead) → z.head ≡ u.head → transition_of itself y (record (shown u f w) { memory = z.objects }) ≡ transition_of itself y (shown z f w)
  last z w (Ok e) b = ap (λ (s : State Table). Went e s) (sym (shown_stored u z f w z.objects refl b))
  last z w (Err cause) b = refl

  goes : (z : View) (x : Result (Unit {0}) Dead) (w : World) → Stores v (value f.active) 1 (small_integer (f.ip +ℤ pos 1)) (Ok tt) u → u.head ≡ v.head → Stores u (value f.active) 2 (Small (f.sp - 5)) x z → z.head ≡ u.head
      → (store_context_registers bounded_table).run (shown v f w) ≡ transition_of itself x (shown z f w)
  unfolding store_context_registers
  goes z x w k a l b =
      let first : (store_field bounded_table (value f.active) 1 (small_integer (f.ip +ℤ pos 1))).run (shown v f w) ≡ Went tt (shown u f w) =
      k (shown v f w) refl refl ∙ ap (λ (s : State Table). Went tt s) (sym (shown_stored v u f w u.objects refl a)) in
      simp (run-then, run-next, after-went, shown-active, shown-ip, shown-sp, first) (l (shown u f w) refl refl ∙ last z w x b)

  -- the first store is followed by the second
  pub store_goes : (z : View) (c x y : Value) (result : Result (Unit {0}) Dead) → c ≡ value f.active → x ≡ small_integer (f.ip +ℤ pos 1) → y ≡ Small (f.sp - 5)
      → Stores v c 1 x (Ok tt) u → u.head ≡ v.head → Stores u c 2 y result z → z.head ≡ u.head → FrameDoes (store_context_registers table) itself v f result z f
  store_goes z c x y result p q r k a l b =
      let first = same_store v u c (value f.active) x (small_integer (f.ip +ℤ pos 1)) 1 (Ok tt) p q k in
      let second = same_store u z c (value f.active) y (Small (f.sp - 5)) 2 result p r l in
      stored_as v z f result (λ w. goes z result w first a second b)
