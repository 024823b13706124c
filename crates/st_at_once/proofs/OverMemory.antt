-- A bytecode that was fetched and done at once, over a memory.
use Rattle.std.proofs.Common.{◌≡◌, Bool, true, Ok, refl, sym, ap, ◌∙◌, subst}
use Rattle.st_model.specs.declared.dead.Dead.{Dead}
use Rattle.st_model.specs.Outcomes as outcome
use Rattle.st_model.specs.Machine.{World, State, Transition, Died, Went}
use Rattle.st_model.specs.Table.{Table, table, apart, bounded_table}
use Rattle.st_model.specs.declared.bytecode.Bytecode.{Bytecode}
use Rattle.st_model.specs.Bytecodes.{bytecode, step}
use Rattle.st_model.specs.View.{View, Held, IsWhole}
use Rattle.st_frames.specs.declared.frame.Frame.{Frame}
use Rattle.st_frames.specs.declared.registers.Registers.{Registers as Words}
use Rattle.st_frames.specs.inside.Rows.{row_state, registers_in}
use Rattle.st_frames.specs.inside.Shown.{shown, registers_of, IsReady, StaysFrame}
use Rattle.st_frames.proofs.Stored.{loaded}
use Rattle.st_control.specs.inside.Foreseen.{IsForeseen}
use Rattle.st_control.proofs.Framed.{frame_held}
use Rattle.st_control.proofs.Suffices.{dies, foreseen, bounded}
use Rattle.st_at_once.specs.inside.AtOnce.{NamesSame, kept, bytecode_at_once, IsFetched}
use Rattle.st_at_once.proofs.Kept.{kept_same, kept_frame}
use Rattle.st_at_once.proofs.AtOnce.{As, bytecode-as}

-- the registers are held again, and so is what the world names
pub quick_ready : (u v : View) (f g : Frame) (w : World) → IsReady u f w → StaysFrame u v g → IsReady v g w
quick_ready u v f g w ready stays = record { frame = stays.frame; devices = stays.devices ∙ ready.devices }

-- if it wasn't done, nothing was changed

pub still_ready : (v u : View) (f g : Frame) (w : World) → u.held ≡ v.held → g ≡ f → IsReady v f w → IsReady u g w
still_ready v u f g w held frame ready =
    subst (λ x. IsReady u x w) (sym frame) (record { frame = frame_held v u f held ready.frame; devices = ap (λ (x : Held). x.devices) held ∙ ready.devices })

-- and its row still begins with the registers, once they are put back
pub still_fetched : (v u : View) (f g : Frame) (w x : World) (code : Bytecode) (start r : Words) → u.objects ≡ v.objects → u.head ≡ v.head → g ≡ f → x ≡ w → registers_in r ≡ registers_in start
    → r.world.now ≡ start.world.now → IsFetched v f w code start → IsFetched u g x code r
unfolding row_state
still_fetched v u f g w x code start r objects head frame round same world fetched =
    ap (λ (s : State Table). (step table).run s) (λ i. record { memory = objects i; registers = registers_of (frame i); world = round i; head = head i })
    ∙ (fetched ∙ ap (λ (s : State Table). (bytecode table code).run s) (λ i. record { memory = sym objects i; registers = sym same i; world = sym world i; head = sym head i }))

-- if it was done, the bytecode would have been foreseen, and goes on; and the frame has the registers
pub record Done (c : State Table) (u : View) (g : Frame) (w : World) (r : Words) : Type 0 where
  pub goes : IsForeseen c × ((step bounded_table).run c ≡ Went outcome.Went (shown u g w))
  pub ready : IsReady u g w
  pub same : registers_in r ≡ registers_of g

module _ (v : View) (f : Frame) (w : World) (whole : IsWhole v) (ready : IsReady v f w) (code : Bytecode) (start : Words) (fetched : IsFetched v f w code start) where
  over_table : (o : Transition (State Table) Bool) → (bytecode_at_once table code).run (row_state v.objects v.head start) ≡ o → As outcome.Went o ((step table).run (shown v f w))
  over_table o e =
      let s = row_state v.objects v.head start in
      subst (λ x. As outcome.Went o x) (sym fetched) (subst (λ x. As outcome.Went x ((bytecode table code).run s)) e (bytecode-as table code s))

  pub at_once_dies : (cause : Dead) → (bytecode_at_once table code).run (row_state v.objects v.head start) ≡ Died cause → (step apart).run (shown v f w) ≡ Died cause
  at_once_dies cause e = dies v f w whole ready cause (over_table (Died cause) e)

  pub at_once_done : (u : View) (r : Words) (g : Frame) → (bytecode_at_once table code).run (row_state v.objects v.head start) ≡ Went true (row_state u.objects u.head r)
      → IsWhole u → u.head ≡ v.head → u.held ≡ v.held → r.world.now ≡ w → g ≡ kept (Ok true) f r → NamesSame (registers_of f) (registers_in r) → Done (shown v f w) u g w r
  unfolding row_state
  at_once_done u r g e whole_then head held world frame names =
      let d : State Table = row_state u.objects u.head r in
      let goes = over_table (Went true d) e in
      let holds : registers_in r ≡ registers_of g = sym (kept_same f r names) ∙ ap registers_of (sym frame) in
      record {
        goes = (
          foreseen v f w whole ready outcome.Went d u goes whole_then refl head,
          bounded v f w whole ready outcome.Went d u goes whole_then refl head ∙ ap (λ s. Went outcome.Went s) (loaded u g w r holds world),
        );
        ready = subst (λ y. IsReady u y w) (sym frame)
            (record { frame = kept_frame u f r (frame_held v u f held ready.frame); devices = ap (λ (x : Held). x.devices) held ∙ ready.devices });
        same = holds;
      }
