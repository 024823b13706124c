-- 96 as a row: objects and registers stay, and what copies the bits is left.
use Rattle.std.proofs.Common.{◌≡◌, true, refl, sym, ◌∙◌, Ok, Err}
use Rattle.std.specs.Prelude.{nat_le}
use Rattle.st_model.specs.declared.dead.Dead.{Dead}
use Rattle.st_model.specs.declared.deed.Deed.TheVariants.{CopyBits}
use Rattle.st_model.specs.declared.word.Word.{Word}
use Rattle.st_model.specs.Values.{word}
use Rattle.st_model.specs.Machine.{ObjectMemory, State, Died, Went, after, ◌>>=◌}
use Rattle.st_model.specs.Table.{Table, IsTabular}
use Rattle.st_model.specs.inside.Calls.{Reads}
use Rattle.st_model.specs.Steps.{top}
use Rattle.st_model.specs.Deeds.{with_deed}
use Rattle.st_model.specs.BitBlt.{Copy, read_copy, primitive_copy_bits}
use Rattle.st_simulation.proofs.BitBltLeft.{bits-copied, bits-failed}
use Rattle.st_memory.specs.declared.objects.Objects.{Ghosts}
use Rattle.st_frames.specs.declared.tried.Tried.TheVariants.{Failed, Leaves}
use Rattle.st_frames.specs.declared.registers.Registers.{Registers as Words}
use Rattle.st_frames.specs.inside.Rows.{row_state, state_of, RowTries}

pub bits-unseen : (m : ObjectMemory Table) (cause : Dead) (s : State Table) → (top m).run s ≡ Died cause → (primitive_copy_bits m).run s ≡ Died cause
unfolding primitive_copy_bits ◌>>=◌ after
bits-unseen m cause s e = rw e refl

module _ {M B : Type 0} (o : Ghosts M) (m : M) (r : Words) (v : Word) (on : (top o.names).run (state_of o m r) ≡ Went (word v) (state_of o m r)) (f : B → Copy) where
  pub copy-left : IsTabular o.names → (b : B) → Reads (read_copy o.names (word v)) f (o.table m) (Ok b) → nat_le r.sp 16388 ≡ true
      → (q : Words) → q.left ≡ CopyBits v → state_of o m q ≡ state_of o m r → q.world.now ≡ r.world.now
      → RowTries o (primitive_copy_bits o.names) m r (Ok Leaves) m q
  unfolding row_state
  copy-left tabular b reads low q left same world = record {
    does = bits-copied o.names tabular v (f b) (state_of o m r) on (reads (state_of o m r) refl) low
        ∙ (λ i. Went true (with_deed (sym left i) (sym same i)));
    world = world;
  }

  pub copy-refused : (cause : Dead) → Reads (read_copy o.names (word v)) f (o.table m) (Err cause) → RowTries o (primitive_copy_bits o.names) m r (Ok Failed) m r
  unfolding row_state
  copy-refused cause reads = record { does = bits-failed o.names (word v) cause (state_of o m r) on (reads (state_of o m r) refl); world = refl }
