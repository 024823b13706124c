-- 96 as the code does it: where the copy can be read, objects and registers stay, and a deed is left that copies the bits.
use Rattle.std.proofs.Common.{◌≡◌, true, false, refl, sym, ◌∙◌, ap}
use Rattle.std.specs.Prelude.{nat_le, Ok}
use Rattle.st_model.specs.declared.dead.Dead.{Dead}
use Rattle.st_model.specs.declared.dead.Dead.TheVariants as dead
use Rattle.st_model.specs.declared.word.Word.{Word}
use Rattle.st_model.specs.declared.deed.Deed.TheVariants.{CopyBits}
use Rattle.st_model.specs.Values.{Value, Ref, word}
use Rattle.st_model.specs.Machine.{ObjectMemory, World, State, Transition, Died, Went, is_there, answer, after, tried, ◌>>=◌, ◌>>◌}
use Rattle.st_model.specs.Table.{Table, table, IsTabular}
use Rattle.st_model.specs.inside.Calls.{Reads, itself}
use Rattle.st_model.specs.Steps.{top}
use Rattle.st_model.specs.Primitives.{answer_with, succeed, primitive}
use Rattle.st_model.specs.Deeds.{changed_by, over_both, with_deed}
use Rattle.st_model.specs.BitBlt.{Copy, painted, read_copy, store_painted, paint_and_answer, primitive_copy_bits}
use Rattle.st_model.proofs.Tabular.{read_copy-as, store_painted-as}
use Rattle.st_model.proofs.CopyingBits.{read_copy-looks, from_each, store_painted-does, table-painted}
use Rattle.st_simulation.proofs.Deeds.{moved, answer_with-commutes, kept_leaves, words_replaced, words_keep, painting, painted-by}
use Rattle.st_model.proofs.Resting.{receiver-answered, receiver-not_answered, field_there}

module _ (m : ObjectMemory Table) (tabular : IsTabular m) (r : Word) (c : Copy) (s : State Table) (on : (top m).run s ≡ Went (word r) s) (read : (read_copy m (word r)).run s ≡ Went c s) where
  reads : Reads (read_copy table (word r)) itself s.memory (Ok c)
  reads = from_each (read_copy-looks (word r)) s c (ap (λ step. step.run s) (sym (read_copy-as tabular (word r))) ∙ read)

  there : is_there table s.memory (word r) ≡ true
  there = field_there (word r) 0 s s (painting s.memory (word r) c reads).form ((painting s.memory (word r) c reads).destination s refl)

  abbrev painted_table : Table → Table
  painted_table t = changed_by (words_replaced (painted c)) t (Ref (painting s.memory (word r) c reads).place)

  abbrev same_world : Table → World → World
  same_world t w = w

  left : State Table
  left = with_deed (CopyBits r) s

  is_left : over_both painted_table same_world s ≡ left
  unfolding left
  is_left = λ j. record s { memory = sym (painted-by s.memory (word r) c reads) j }

  stored : (store_painted m (word r) c).run s ≡ Went tt left
  unfolding left
  stored =
      ap (λ step. step.run s) (store_painted-as tabular (word r) c)
      ∙ store_painted-does s.memory (word r) c (painting s.memory (word r) c reads) s refl
      ∙ ap (λ (t : Table). Went tt (record s { memory = t })) (sym (table-painted s.memory (word r) c (painting s.memory (word r) c reads) reads))

  answered : (x : Transition (State Table) (Unit {0})) → (answer_with m 0 (word r)).run s ≡ x → (answer_with m 0 (word r)).run left ≡ moved painted_table same_world x
  answered x e =
      let q = (answer_with-commutes painted_table same_world m tabular (kept_leaves (words_replaced (painted c)) (words_keep (painted c)) (Ref (painting s.memory (word r) c reads).place)) 0 (word r)).go s in
      ap (λ t. (answer_with m 0 (word r)).run t) (sym is_left) ∙ q ∙ ap (moved painted_table same_world) e

  pub bits-copied : nat_le s.registers.sp 16388 ≡ true → (primitive_copy_bits m).run s ≡ Went true (with_deed (CopyBits r) s)
  unfolding primitive_copy_bits primitive tried succeed paint_and_answer left ◌>>=◌ ◌>>◌ after answer
  bits-copied low = rw (on, read, stored, answered (Went tt s) (receiver-answered m tabular s (word r) on there low)) (ap (λ t. Went true t) is_left)

  -- the stack is too high for an answer to be pushed
  pub bits-stuck : nat_le s.registers.sp 16388 ≡ false → (primitive_copy_bits m).run s ≡ Died dead.Sp
  unfolding primitive_copy_bits primitive tried succeed paint_and_answer left ◌>>=◌ ◌>>◌ after answer
  bits-stuck high = rw (on, read, stored, answered (Died dead.Sp) (receiver-not_answered m tabular s (word r) on there high)) refl

-- where the copy can't be read, the primitive fails
pub bits-failed : (m : ObjectMemory Table) (v : Value) (cause : Dead) (s : State Table) → (top m).run s ≡ Went v s → (read_copy m v).run s ≡ Died cause → (primitive_copy_bits m).run s ≡ Went false s
unfolding primitive_copy_bits primitive tried succeed ◌>>=◌ after answer
bits-failed m v cause s on read = rw (on, read) refl

pub ruleset bits = (bits-copied, bits-stuck, bits-failed)
