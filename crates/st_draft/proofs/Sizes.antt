-- The kind and the size of an object, over a draft.
use Rattle.std.proofs.Common.{◌≡◌, ℕ, ◌+◌, ◌-◌, ◌*◌, ◌/◌, true, List, length, Result, Ok, refl, ap, ◌∙◌, arith}
use Rattle.std.specs.Prelude.{Option, Some, if◌then◌else◌}
use Rattle.std.proofs.lemmas.List.{length-replicate}
use Rattle.st_model.specs.declared.dead.Dead.{Dead}
use Rattle.st_model.specs.declared.dead.Dead.TheVariants as dead
use Rattle.st_model.specs.declared.kind.Kind.{Kind}
use Rattle.st_model.specs.declared.kind.Kind.TheVariants as kind
use Rattle.st_model.specs.Values.{Value}
use Rattle.st_model.specs.Objects.{Object, nil, is_pointers, size_of}
use Rattle.st_model.specs.Formed.{fresh, IsMakeable}
use Rattle.st_model.specs.Machine.{Went}
use Rattle.st_model.specs.Steps.{fetch_kind, fetch_size}
use Rattle.st_model.specs.Table.{Table, table, bounded_table, apart}
use Rattle.st_model.specs.inside.Calls.{Reads, itself}
use Rattle.st_memory.specs.inside.Tabular.{apart_tabular, bounded_tabular}
use Rattle.st_memory.specs.declared.made.Made.{Made}
use Rattle.st_draft.specs.declared.change.Change.{Change}
use Rattle.st_draft.specs.inside.Drafts.{with_made, draft_table, named_object, IsLike, Names}
use Rattle.st_memory.specs.inside.Making.{made_object, IsMade}
use Rattle.st_memory.proofs.Fresh.{kind_fresh}
use Rattle.st_draft.proofs.Drafted.{moved, given, look_base, look_made}
use Rattle.st_draft.proofs.Moved.{read_names, look_names}
use Rattle.st_memory.proofs.Sizes.{any_kind, kind_looks, size_looks, fetch_kind-as, fetch_size-as}

kind_same : (x y : Object) → IsLike x y → any_kind y.kind ≡ true → ◌≡◌ {A = Option Kind} (Some x.kind) (Some y.kind)
kind_same x y like e = ap (λ k. Some k) like.kind

size_same : (x y : Object) → IsLike x y → any_kind y.kind ≡ true → ◌≡◌ {A = Option ℕ} (Some (size_of x)) (Some (size_of y))
size_same x y like e =
    ap (λ k. Some (if is_pointers k then length x.fields else 2 * length x.fields + length x.units)) like.kind
    ∙ ap (λ n. Some (if is_pointers y.kind then n else 2 * n + length x.units)) like.count
    ∙ ap (λ us. Some (if is_pointers y.kind then length y.fields else 2 * length y.fields + length us)) like.units

size_fresh : (c : ℕ) (k : Kind) (n l : ℕ) → IsMakeable c k n l → size_of (fresh c k n l) ≡ n
size_fresh c kind.Pointers n l m = length-replicate n nil
size_fresh c kind.Words n l m = let e = length-replicate {A = ℕ} n 0 in omega (arith, e)
size_fresh c kind.Bytes n l m = let e = length-replicate {A = ℕ} n 0 in omega (arith, e)
size_fresh c kind.Method n l m =
    let e = length-replicate {A = ℕ} (n - 2 * (l + 1)) 0 in
    let f = length-replicate l nil in
    let h = m.header refl in
    omega (arith, e, f, h)

module _ (t : Table) (ms : List Made) (n : ℕ) (cs : List Change) (k : ℕ) (v : Value) where
  pub kind_base : (r : Result Kind Dead) → named_object (with_made t ms n) v ≡ named_object t v → Reads (fetch_kind bounded_table v) itself t r → Reads (fetch_kind apart v) itself (draft_table t ms n cs k) r
  kind_base r e h = moved (fetch_kind bounded_table v) (fetch_kind apart v) (fetch_kind table v) itself _ (kind_looks v) (fetch_kind-as apart_tabular v) t (draft_table t ms n cs k) r (fetch_kind-as bounded_tabular v)
      (look_base t ms n cs k v any_kind (λ (o : Object). Some o.kind) dead.Kind kind_same e) h

  pub kind_made : (m : Made) → named_object (with_made t ms n) v ≡ Some (made_object m) → Reads (fetch_kind apart v) itself (draft_table t ms n cs k) (Ok m.kind)
  kind_made m e = given (fetch_kind apart v) (fetch_kind apart v) (fetch_kind table v) itself _ (kind_looks v) (fetch_kind-as apart_tabular v) t (draft_table t ms n cs k) (Ok m.kind)
      (look_made t ms n cs k v any_kind (λ (o : Object). Some o.kind) dead.Kind kind_same m e ∙ ap (λ x. Went x tt) (kind_fresh (m.class.0 / 2) m.kind m.size m.literals))

  pub size_base : (r : Result ℕ Dead) → named_object (with_made t ms n) v ≡ named_object t v → Reads (fetch_size bounded_table v) itself t r → Reads (fetch_size apart v) itself (draft_table t ms n cs k) r
  size_base r e h = moved (fetch_size bounded_table v) (fetch_size apart v) (fetch_size table v) itself _ (size_looks v) (fetch_size-as apart_tabular v) t (draft_table t ms n cs k) r (fetch_size-as bounded_tabular v)
      (look_base t ms n cs k v any_kind (λ (o : Object). Some (size_of o)) dead.Kind size_same e) h

  pub size_made : (m : Made) → IsMade m → named_object (with_made t ms n) v ≡ Some (made_object m) → Reads (fetch_size apart v) itself (draft_table t ms n cs k) (Ok m.size)
  size_made m can e = given (fetch_size apart v) (fetch_size apart v) (fetch_size table v) itself _ (size_looks v) (fetch_size-as apart_tabular v) t (draft_table t ms n cs k) (Ok m.size)
      (look_made t ms n cs k v any_kind (λ (o : Object). Some (size_of o)) dead.Kind size_same m e ∙ ap (λ x. Went x tt) (size_fresh (m.class.0 / 2) m.kind m.size m.literals can))

module _ {t u : Table} {v w : Value} (names : Names t u v w) where
  pub kind_names : (r : Result Kind Dead) → Reads (fetch_kind apart w) itself u r → Reads (fetch_kind apart v) itself t r
  kind_names r h = read_names names (fetch_kind apart v) (fetch_kind apart w) (fetch_kind table v) (fetch_kind table w) itself _ _ (kind_looks v) (kind_looks w) (fetch_kind-as apart_tabular v) (fetch_kind-as apart_tabular w) (look_names names any_kind (λ (o : Object). Some o.kind) dead.Kind) r h

  pub size_names : (r : Result ℕ Dead) → Reads (fetch_size apart w) itself u r → Reads (fetch_size apart v) itself t r
  size_names r h = read_names names (fetch_size apart v) (fetch_size apart w) (fetch_size table v) (fetch_size table w) itself _ _ (size_looks v) (size_looks w) (fetch_size-as apart_tabular v) (fetch_size-as apart_tabular w) (look_names names any_kind (λ (o : Object). Some (size_of o)) dead.Kind) r h
