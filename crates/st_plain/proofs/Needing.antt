-- What is marked where the roots and what the objects refer to are marked.
use Rattle.std.proofs.Common.{◌≡◌, ℕ, Bool, true, false, ◌++◌, length, refl, sym, ap, ◌∙◌, inl, inr, ◌⊎◌}
use Rattle.std.specs.Prelude.{Some, IsTrue, ◌==◌}
use Rattle.st_model.specs.Objects.{Object, one}
use Rattle.st_model.specs.Machine.{table_root, head_roots, device_roots}
use Rattle.st_model.specs.Table.{Table, table, entry, settled_table, total_used}
use Rattle.st_model.specs.Settled.{Refers, IsRoot, or, any_names, object_names, is_root}
use Rattle.st_model.specs.View.{View, SettlesTo, view_roots}
use Rattle.st_model.proofs.SettledIs.{or_cases, below_true, object_is, is_object, root_is, is_root-of, or_left, or_right, true_below}
use Rattle.st_model.proofs.SettledLemmas.{is_some-of, some_is}
use Rattle.st_model.proofs.Settling.{DropsTo, left, left_is, settled}
use Rattle.st_model.proofs.Rounds.{KeepsNeeded, all_kept, settled_all}
use Rattle.st_plain.specs.inside.Held.{register_roots, names_held}
use Rattle.st_plain.specs.inside.Marked.{is_of_page}
use Rattle.st_plain.specs.inside.ListsPlain.{is_referred}
use Rattle.st_plain.specs.inside.Plain.{is_needed}
use Rattle.st_plain.proofs.Marking.{any_names-append, or_step}
use Rattle.st_plain.proofs.Holding.{twice}
use Rattle.st_counted.proofs.Dropping.{moved_root}
use Rattle.st_model.proofs.Reclaiming.{table_finite}

is_referred-of : (t : Table) (m : ℕ) (o : Object) (n : ℕ) → entry t m ≡ Some o → Refers o n → IsTrue (is_referred t n)
unfolding is_referred
is_referred-of t m o n e r = true_below (length t) m (λ j. object_names (entry t j) n) (table_finite t m (is_some-of (entry t m) o e)) (is_object (entry t m) o n e r)

module _ (v : View) where
  -- the roots and what the objects refer to are needed
  pub keeps_needed : KeepsNeeded v.objects (view_roots v) (is_needed v)
  unfolding is_needed
  keeps_needed = record {
    root = λ n r. or_left (is_root table v.objects (view_roots v) n) (is_referred v.objects n) (is_root-of table v.objects (view_roots v) n r);
    referred = λ m o n e r. or_right (is_root table v.objects (view_roots v) n) (is_referred v.objects n) (is_referred-of v.objects m o n e r);
  }

  -- and nothing else is
  pub needed_is : (n : ℕ) → IsTrue (is_needed v n) → IsRoot table v.objects (view_roots v) n ⊎ ((m : ℕ) × (o : Object) × (entry v.objects m ≡ Some o) × Refers o n)
  unfolding is_needed is_referred
  needed_is n h = elim (or_cases (is_root table v.objects (view_roots v) n) (is_referred v.objects n) h) [
    | inl r ↦ inl (root_is table v.objects (view_roots v) n r)
    | inr r ↦
        let b = below_true (length v.objects) (λ j. object_names (entry v.objects j) n) r in
        let o = object_is (entry v.objects b.0) n b.1 in
        inr (b.0, o.0, o.1, o.2)
  ]

or_comm : (a b : Bool) → or a b ≡ or b a
or_comm true true = refl
or_comm true false = refl
or_comm false true = refl
or_comm false false = refl

or_swap : (a b c : Bool) → or a (or b c) ≡ or b (or a c)
or_swap true true c = refl
or_swap true false c = refl
or_swap false b c = refl

module _ (op : Bool → Bool → Bool) (assoc : (a b c : Bool) → op (op a b) c ≡ op a (op b c)) (comm : (a b : Bool) → op a b ≡ op b a) (swap : (a b c : Bool) → op a (op b c) ≡ op b (op a c)) where
  turned : (objects registers devices nil symbols globals root_page : Bool) → op objects (op (op registers (op devices nil)) (op symbols (op globals root_page))) ≡ op (op (op registers (op (op globals symbols) devices)) (op nil root_page)) objects
  turned objects registers devices nil symbols globals root_page = simp (assoc, comm, swap)

module _ (v : View) (n : ℕ) where
  abbrev globals : Bool
  globals = any_names (table_root v.head.globals) n

  abbrev symbols : Bool
  symbols = any_names (table_root v.head.symbols) n

  abbrev registers : Bool
  registers = any_names (register_roots v.held) n

  abbrev devices : Bool
  devices = any_names (device_roots v.held.devices) n

  named_roots : any_names (view_roots v) n ≡ or registers (or (or globals symbols) devices)
  named_roots =
      any_names-append (register_roots v.held) (head_roots v.head ++ device_roots v.held.devices) n
      ∙ ap (or registers) (any_names-append (head_roots v.head) (device_roots v.held.devices) n)
      ∙ ap (λ b. or registers (or b devices)) (any_names-append (table_root v.head.globals) (table_root v.head.symbols) n)

  -- marks of all these are marks of what is needed
  pub needed_parts : or (is_referred v.objects n) (or (names_held v.held n) (or symbols (or globals (is_of_page n)))) ≡ is_needed v n
  unfolding is_needed is_root
  needed_parts =
      turned or (λ a b c. sym (or_step a b c)) or_comm or_swap (is_referred v.objects n) registers devices (n == 1) symbols globals (is_of_page n)
      ∙ ap (λ b. or (or (or registers (or (or globals symbols) devices)) b) (is_referred v.objects n)) (twice (n == 1) _)
      ∙ ap (λ b. or (or b (is_of_page n)) (is_referred v.objects n)) (sym named_roots)

-- where a round takes nothing away, what is left is the largest set that supports itself
pub settles_to : (first v w : View) → DropsTo first.objects v.objects (view_roots first) → v.held ≡ first.held → v.head ≡ first.head
    → w.objects ≡ settled_table v.objects (is_needed v) → w.held ≡ v.held → w.head ≡ v.head → total_used one w.objects ≡ total_used one v.objects → SettlesTo first w
settles_to first v w drops held head objects same_held same_head total = record {
  set = left v.objects;
  is_settled = settled first.objects v.objects (view_roots first) drops (λ n h.
      let o = some_is (entry v.objects n) h in
      elim (needed_is v n (kept n o.0 o.1)) [
        | inl r ↦ inl (moved_root first v n held head r)
        | inr r ↦ inr r
      ]);
  objects = objects ∙ settled_all v.objects (is_needed v) kept ∙ left_is first.objects v.objects drops.as_long drops.same;
  held = same_held ∙ held;
  head = same_head ∙ head;
}
  where
    kept : (n : ℕ) (o : Object) → entry v.objects n ≡ Some o → IsTrue (is_needed v n)
    kept = all_kept v.objects (is_needed v) (sym (ap (total_used one) objects) ∙ total)
