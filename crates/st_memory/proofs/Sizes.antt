-- The kind and the size of an object, and what the capacities leave.
use Rattle.std.proofs.Common.{◌≡◌, Bool, true, Ok, refl, sym, ap, ◌∙◌}
use Rattle.std.specs.Prelude.{Some}
use Rattle.st_model.specs.declared.dead.Dead.TheVariants as dead
use Rattle.st_model.specs.declared.kind.Kind.{Kind}
use Rattle.st_model.specs.declared.demand.Demand.{Demand}
use Rattle.st_model.specs.Values.{Value}
use Rattle.st_model.specs.Objects.{Object, size_of}
use Rattle.st_model.specs.Machine.{ObjectMemory, State, Head, Went, answer, ◌>>=◌, ◌>>◌, after, capacity_of, less, used}
use Rattle.st_model.specs.Steps.{check, or_die, fetch_kind, fetch_size, get_free}
use Rattle.st_model.specs.Table.{Table, table, bounded_table, IsTabular}
use Rattle.st_model.specs.inside.Calls.{Changes, itself}
use Rattle.st_model.proofs.Tabular.{object-as}
use Rattle.st_memory.specs.inside.Tabular.{bounded_tabular}
use Rattle.st_memory.proofs.Looking.{Looks, look_at, step_looks, some_state}

-- whatever the kind
abbrev pub any_kind : Kind → Bool
any_kind k = true

pub kind_looks : (v : Value) → Looks (fetch_kind table v) (look_at any_kind (λ (o : Object). Some o.kind) dead.Kind v)
unfolding fetch_kind check or_die ◌>>◌ ◌>>=◌ after answer
kind_looks v = step_looks any_kind (λ (o : Object). Some o.kind) dead.Kind v

pub size_looks : (v : Value) → Looks (fetch_size table v) (look_at any_kind (λ (o : Object). Some (size_of o)) dead.Kind v)
unfolding fetch_size check or_die ◌>>◌ ◌>>=◌ after answer
size_looks v = step_looks any_kind (λ (o : Object). Some (size_of o)) dead.Kind v

pub fetch_kind-as : {m : ObjectMemory Table} (h : IsTabular m) (v : Value) → fetch_kind m v ≡ fetch_kind table v
unfolding fetch_kind
fetch_kind-as h v = rw (object-as h v) refl

pub fetch_size-as : {m : ObjectMemory Table} (h : IsTabular m) (v : Value) → fetch_size m v ≡ fetch_size table v
unfolding fetch_size
fetch_size-as h v = rw (object-as h v) refl

pub fetch_kind-bounded : (v : Value) → fetch_kind bounded_table v ≡ fetch_kind table v
fetch_kind-bounded v = fetch_kind-as bounded_tabular v

pub fetch_size-bounded : (v : Value) → fetch_size bounded_table v ≡ fetch_size table v
fetch_size-bounded v = fetch_size-as bounded_tabular v

pub ruleset kinds = (fetch_kind-bounded, fetch_size-bounded)

-- what the capacities leave
pub frees : (m : ObjectMemory Table) (t : Table) (a : Head) (r : Demand) → r ≡ less (capacity_of a) (used m t) → Changes (get_free m) itself t a (Ok r) t
unfolding get_free
frees m t a r e = λ s over head.
    ap (λ (h : Head). Went (less (capacity_of h) (used m s.memory)) s) head
    ∙ ap (λ (u : Table). Went (less (capacity_of a) (used m u)) (record s { memory = u })) over
    ∙ ap (λ d. Went d (record s { memory = t })) (sym e)

pub freed : (m : ObjectMemory Table) (t : Table) (a : Head) (r : Demand) → Changes (get_free m) itself t a (Ok r) t → r ≡ less (capacity_of a) (used m t)
unfolding get_free
freed m t a r h =
    let s : State Table = record (some_state t) { head = a } in
    let e = h s refl refl in
    let q : less (capacity_of a) (used m t) ≡ r = cc in
    sym q
