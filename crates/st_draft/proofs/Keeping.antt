-- What stands in fields is there, and stays there whatever is changed or made.
use Rattle.std.proofs.Common.{◌≡◌, ℕ, ◌+◌, ◌/◌, ◌<◌, ◌≤◌, ◌⊎◌, inl, inr, zero, suc, true, false, Bool, List, [], ◌∷◌, length, take, drop, refl, sym, ap, ◌∙◌, subst, arith, is_some}
use Rattle.std.specs.Prelude.{slice_get, unwrap_or, Option, Some, None, if◌then◌else◌}
use Rattle.std.proofs.lemmas.Bool.{cases_eq, cases_lt}
use Rattle.std.proofs.lemmas.List.{append-nil}
use Rattle.st_model.specs.declared.word.Word.{Word}
use Rattle.st_model.specs.Values.{Value, Small, Ref, word}
use Rattle.st_model.specs.Objects.{Object, is_pointers, nil}
use Rattle.st_model.specs.declared.page.PageObject.TheVariants.{NilObject}
use Rattle.st_model.specs.Machine.{is_there}
use Rattle.st_model.specs.Table.{Table, table, apart, entry, joined}
use Rattle.st_model.specs.View.{View, IsWhole, nothing, is_live, object_of, with_stored}
use Rattle.st_model.proofs.Runs.{known_there}
use Rattle.st_model.proofs.WholeLemmas.{field_known, formed_live}
use Rattle.st_memory.specs.declared.made.Made.{Made}
use Rattle.st_draft.specs.declared.change.Change.{Change}
use Rattle.st_draft.specs.declared.change.Change.TheVariants.{Field, Fields}
use Rattle.st_draft.specs.inside.Drafts.{AllThere, AreLike, HasField, with_made, field_value, written, all_written, pointer_fields, after_change, replayed, draft_table}
use Rattle.st_memory.specs.inside.Making.{made_object}
use Rattle.st_memory.proofs.Fresh.{there_fresh}
use Rattle.st_draft.proofs.Writing.{written_like, written_here, written_else}
use Rattle.st_draft.proofs.Replaying.{got_take, got_drop, replayed_like}
use Rattle.st_draft.proofs.Behind.{entry_joined, base_entry}
use Rattle.st_draft.proofs.Exchanged.{small_written}
use Rattle.st_memory.proofs.Bodies.{got_below}
use Rattle.st_model.proofs.TableLemmas.{entry_past}

-- what is there in a table is there in one like it
pub there_like : (t u : Table) (x : Value) → AreLike t u → is_there table t x ≡ is_there table u x
unfolding is_live
there_like t u (Small n) like = refl
there_like t u (Ref n) like = like.live (Ref n)

written_not : (t : Table) (v : Value) (i : ℕ) (x : Value) → is_pointers (object_of t v).kind ≡ false → written t v i x ≡ t
unfolding written
written_not t v i x h = ap (λ b. if b then with_stored t v i x else t) h

module _ (t : Table) (n i : ℕ) (x : Value) (closed : AllThere t) (known : is_there table t x ≡ true) where
  at_place : (b : Bool) → is_pointers (object_of t (Ref n)).kind ≡ b → (y : Value) → field_value (written t (Ref n) i x) (Ref n) i ≡ Some y → is_there table t y ≡ true
  at_place true k y e =
      let l = got_below (object_of (written t (Ref n) i x) (Ref n)).fields i y e in
      let c = ((written_like t (Ref n) i x).objects (Ref n)).count in
      let has : HasField t (Ref n) i = record { pointers = k; place = omega (arith, l, c) } in
      let q = sym (written_here t n i x has) ∙ e in
      let same : x ≡ y = cc in
      subst (λ z. is_there table t z ≡ true) same known
  at_place false k y e =
      closed (Ref n) i y (sym (ap (λ u. field_value u (Ref n) i) (written_not t (Ref n) i x k)) ∙ e)

  at_object : (j : ℕ) (y : Value) → field_value (written t (Ref n) i x) (Ref n) j ≡ Some y → is_there table t y ≡ true
  at_object j y e = elim (cases_eq j i) [
    | inl same ↦ at_place (is_pointers (object_of t (Ref n)).kind) refl y (subst (λ m. field_value (written t (Ref n) i x) (Ref n) m ≡ Some y) same e)
    | inr d ↦ closed (Ref n) j y (sym (written_else t (Ref n) (Ref n) j i x (inr d)) ∙ e)
  ]

  at_any : (w : Value) (j : ℕ) (y : Value) → field_value (written t (Ref n) i x) w j ≡ Some y → is_there table t y ≡ true
  unfolding object_of
  at_any (Small m) j y e = cc
  at_any (Ref m) j y e = elim (cases_eq m n) [
    | inl same ↦ at_object j y (subst (λ k. field_value (written t (Ref n) i x) (Ref k) j ≡ Some y) same e)
    | inr d ↦ closed (Ref m) j y (sym (written_else t (Ref m) (Ref n) j i x (inl (λ q. d (let p : m ≡ n = cc in p)))) ∙ e)
  ]

pub closed_written : (t : Table) (v : Value) (i : ℕ) (x : Value) → AllThere t → is_there table t x ≡ true → AllThere (written t v i x)
closed_written t (Small n) i x closed known = subst AllThere (sym (small_written t n i x)) closed
closed_written t (Ref n) i x closed known = λ w j y e.
    there_like (written t (Ref n) i x) t y (written_like t (Ref n) i x) ∙ at_any t n i x closed known w j y e

-- all of these are there
abbrev AreThere : Table → List Value → Type 0
AreThere t xs = (j : ℕ) (x : Value) → slice_get xs j ≡ Some x → is_there table t x ≡ true

closed_all : (xs : List Value) (t : Table) (v : Value) (i : ℕ) → AllThere t → AreThere t xs → AllThere (all_written t v i xs)
unfolding all_written
closed_all [] t v i closed known = closed
closed_all (x ∷ xs) t v i closed known =
    closed_all xs (written t v i x) v (suc i) (closed_written t v i x closed (known 0 x refl))
    (λ j y e. there_like (written t v i x) t y (written_like t v i x) ∙ known (suc j) y e)

taken_there : (t : Table) (xs : List Value) (n : ℕ) → AreThere t xs → AreThere t (take n xs)
taken_there t xs n known j y e = elim (cases_lt j n) [
  | inl l ↦ known j y (sym (got_take xs n j l) ∙ e)
  | inr l ↦ absurd (let m = got_below (take n xs) j y e in past xs n j l m)
]
  where
    past : (xs : List Value) (n j : ℕ) → n ≤ j → j < length (take n xs) → ⊥
    past [] zero j l m = omega (arith, m)
    past [] (suc n) j l m = omega (arith, m)
    past (x ∷ xs) zero j l m = omega (arith, m)
    past (x ∷ xs) (suc n) zero l m = omega (arith, l)
    past (x ∷ xs) (suc n) (suc j) l m = past xs n j (omega (arith, l)) (omega (arith, m))

dropped_there : (t : Table) (xs : List Value) (n : ℕ) → AreThere t xs → AreThere t (drop n xs)
dropped_there t xs n known j y e = known (n + j) y (sym (got_drop xs n j) ∙ e)

fields_there : (t : Table) (v : Value) → AllThere t → AreThere t (pointer_fields t v)
fields_there t v closed = by_kind (is_pointers (object_of t v).kind)
  where
    by_kind : (b : Bool) → AreThere t (if b then (object_of t v).fields else [])
    by_kind true = closed v
    by_kind false = λ j y e. cc

pub closed_field : (t : Table) (object : Word) (at : ℕ) (value : Word) → AllThere t → is_there table t (word value) ≡ true → AllThere (after_change t (Field object at value))
unfolding after_change
closed_field t object at value closed known = closed_written t (word object) at (word value) closed known

pub closed_fields : (t : Table) (n from to : ℕ) (source target : Word) → AllThere t → AllThere (after_change t (Fields n source from target to))
unfolding after_change
closed_fields t n from to source target closed =
    closed_all (take n (drop from (pointer_fields t (word source)))) t (word target) to closed
    (taken_there t (drop from (pointer_fields t (word source))) n (dropped_there t (pointer_fields t (word source)) from (fields_there t (word source) closed)))

-- one object more, with fields of nil

module _ (t : Table) (o : Object) where
  entry_new : entry (joined t o) (length t) ≡ Some o
  entry_new = new t
    where
      new : (u : Table) → entry (joined u o) (length u) ≡ Some o
      new [] = refl
      new (e ∷ u) = new u

  length_joined : (u : Table) → length (joined u o) ≡ suc (length u)
  length_joined [] = refl
  length_joined (e ∷ u) = let q = length_joined u in omega (arith, q)

  there_joined : (x : Value) → is_there table t x ≡ true → is_there table (joined t o) x ≡ true
  there_joined (Small n) h = h
  there_joined (Ref n) h = elim (cases_lt n (length t)) [
    | inl l ↦ ap is_some (entry_joined t o n l) ∙ h
    | inr l ↦ let e = ap is_some (entry_past t n l) in absurd (cc)
  ]

  pub live_joined : (v : Value) → is_live t v ≡ true → is_live (joined t o) v ≡ true
  unfolding is_live
  live_joined (Small n) h = cc
  live_joined (Ref n) h = there_joined (Ref n) h

  fields_joined : (n : ℕ) (j : ℕ) (y : Value) → field_value (joined t o) (Ref n) j ≡ Some y → (n ≡ length t) × (slice_get o.fields j ≡ Some y) ⊎ (field_value t (Ref n) j ≡ Some y)
  unfolding object_of
  fields_joined n j y e = elim (cases_lt n (length t)) [
    | inl l ↦ inr (sym (ap (λ a. slice_get (unwrap_or a nothing).fields j) (entry_joined t o n l)) ∙ e)
    | inr l ↦ elim (cases_eq n (length t)) [
      | inl same ↦ inl (same, sym (ap (λ a. slice_get (unwrap_or a nothing).fields j) (ap (entry (joined t o)) same ∙ entry_new)) ∙ e)
      | inr d ↦ let long = length_joined t in
          absurd (none (ap (λ a. slice_get (unwrap_or a nothing).fields j) (entry_past (joined t o) n (omega (arith, l, d, long)))) e)
    ]
  ]
    where
      none : {b : Option Value} → b ≡ None → b ≡ Some y → ⊥
      none p q = cc

pub closed_joined : (t : Table) (m : Made) → m.literals ≤ 63 → AllThere t → is_there table t nil ≡ true → AllThere (joined t (made_object m))
unfolding object_of
closed_joined t m few closed known v j y e = there_joined t (made_object m) y (there v e)
  where
    there : (v : Value) → field_value (joined t (made_object m)) v j ≡ Some y → is_there table t y ≡ true
    there (Small n) e = cc
    there (Ref n) e = elim (fields_joined t (made_object m) n j y e) [
      | inl p ↦ there_fresh t known (m.class.0 / 2) m.kind m.size m.literals j y few p.1
      | inr f ↦ closed (Ref n) j y f
    ]

-- the table of a memory

whole_there : (v : View) → IsWhole v → (x : Value) → is_live v.objects x ≡ true → (j : ℕ) (y : Value) → field_value v.objects x j ≡ Some y → is_there table v.objects y ≡ true
whole_there v w x live j y e = known_there v.objects y (field_known v w x live j y e) ((formed_live v w x live).values j y e)

pub closed_whole : (v : View) → IsWhole v → AllThere v.objects
unfolding object_of is_live
closed_whole v w (Small n) j y e = cc
closed_whole v w (Ref n) j y e = by_entry (is_some (entry v.objects n)) refl
  where
    none : (b : Option Object) → is_some b ≡ false → slice_get (unwrap_or b nothing).fields j ≡ Some y → ⊥
    none None h q = cc
    none (Some o) h q = cc

    by_entry : (b : Bool) → is_some (entry v.objects n) ≡ b → is_there table v.objects y ≡ true
    by_entry true h = whole_there v w (Ref n) h j y e
    by_entry false h = absurd (none (entry v.objects n) h e)

-- nil is there in every draft over a memory
pub nil_there : (v : View) (ms : List Made) (n : ℕ) (cs : List Change) (k : ℕ) → IsWhole v → n ≤ length ms → is_there table (draft_table v.objects ms n cs k) nil ≡ true
unfolding is_live
nil_there v ms n cs k w few =
    let long = w.places in
    there_like (draft_table v.objects ms n cs k) (with_made v.objects ms n) nil (replayed_like (with_made v.objects ms n) cs k)
    ∙ ap is_some (base_entry v.objects ms n few 1 (omega (arith, long)))
    ∙ w.complete.page NilObject

pub nothing_made : (t : Table) (ms : List Made) (cs : List Change) → draft_table t ms 0 cs 0 ≡ t
unfolding replayed
nothing_made t ms cs = append-nil t

pub there_apart : (t : Table) (x : Value) → is_there table t x ≡ is_there apart t x
there_apart t (Small n) = refl
there_apart t (Ref n) = refl
