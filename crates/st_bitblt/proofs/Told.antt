-- What the copy of a BitBlt does to a table.
use Rattle.std.proofs.Common.{◌≡◌, ℕ, List, length, Option, Some, None, true, false, Ok, Err, refl, sym, is_some}
use Rattle.std.specs.Prelude.{unwrap_or}
use Rattle.st_model.specs.declared.dead.Dead.{Dead}
use Rattle.st_model.specs.Values.{Value, Small, Ref, word}
use Rattle.st_model.specs.Objects.{Object}
use Rattle.st_model.specs.Machine.{State, after, ◌>>=◌}
use Rattle.st_model.specs.Table.{Table, table, bounded_table, entry}
use Rattle.st_model.specs.Steps.{set_units, fetch_field}
use Rattle.st_model.specs.View.{is_live, object_of, nothing}
use Rattle.st_model.specs.inside.Calls.{Reads, itself}
use Rattle.st_model.specs.Deeds.{over_table, table_left, table_after}
use Rattle.st_model.specs.BitBlt.{painted, read_copy, store_painted, copy_bits}
use Rattle.st_model.proofs.CopyingBits.{set_units-does, table-refused}
use Rattle.st_model.proofs.Painting.{length-painted}
use Rattle.st_model.proofs.Tabular.{read_copy-as, fetch_field-as}
use Rattle.st_memory.specs.inside.Copied.{with_units_in}
use Rattle.st_memory.specs.inside.Tabular.{bounded_tabular}
use Rattle.st_bitblt.specs.declared.bit_blt.BitBlt.{BitBlt}
use Rattle.st_bitblt.specs.inside.Reading.{units_in, HasBits, HasWordsIn, copy_in, has_gone}

stored_some : (t : Table) (n : ℕ) (us : List ℕ) (e : Option Object) → entry t n ≡ e → is_some e ≡ true → length us ≡ length (unwrap_or e nothing).units
    → table_left t ((set_units table (Ref n) us).run (over_table t)) ≡ with_units_in t (Ref n) us
unfolding with_units_in object_of
stored_some t n us None e live l = cc
stored_some t n us (Some o) e live l = rw (set_units-does n us (over_table t) o e l, e) refl

stored : (t : Table) (v : Value) (us : List ℕ) → is_live t v ≡ true → length us ≡ length (units_in t v) → table_left t ((set_units table v us).run (over_table t)) ≡ with_units_in t v us
unfolding is_live object_of
stored t (Small n) us live l = cc
stored t (Ref n) us live l = stored_some t n us (entry t n) refl live l

module _ (t : Table) (v w : Value) (is : w ≡ v) where
  module _ (b : BitBlt) (r : Reads (read_copy bounded_table w) (copy_in t) t (Ok b)) where
    read_ok : Reads (read_copy table v) (copy_in t) t (Ok b)
    read_ok = rw (is, read_copy-as bounded_tabular v) at r

    pub copied-told : true ≡ has_gone ((read_copy table v).run (over_table t))
    copied-told = rw (read_ok (over_table t) refl) refl

    pub copied-table : (n : ℕ) → HasBits bounded_table t w b.destination.bits → HasWordsIn t (word b.destination.bits) n
        → table_after (copy_bits table v) t ≡ with_units_in t (word b.destination.bits) (painted (copy_in t b))
    unfolding table_after copy_bits store_painted ◌>>=◌ after
    copied-table n h has =
        let s : State Table = over_table t in
        let e : Reads (fetch_field table v 0) word t (Ok h.form) = rw (is, fetch_field-as bounded_tabular v 0) at h.destination in
        let f : Reads (fetch_field table (word h.form) 0) word t (Ok b.destination.bits) = rw (fetch_field-as bounded_tabular (word h.form) 0) at h.bits in
        rw (read_ok s refl, e s refl, f s refl) (stored t (word b.destination.bits) (painted (copy_in t b)) has.live (length-painted (copy_in t b)))

  module _ (cause : Dead) (r : Reads (read_copy bounded_table w) (copy_in t) t (Err cause)) where
    read_err : Reads (read_copy table v) itself t (Err cause)
    read_err = rw (is, read_copy-as bounded_tabular v) at r

    pub refused-told : false ≡ has_gone ((read_copy table v).run (over_table t))
    refused-told = rw (read_err (over_table t) refl) refl

    pub refused-table : t ≡ table_after (copy_bits table v) t
    refused-table = sym (table-refused t v cause read_err)
