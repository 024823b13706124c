-- What the objects of the lists refer to.
use Rattle.std.proofs.Common.{◌≡◌, ℕ, ◌+◌, ◌<◌, ◌≤◌, ◌-◌, zero, suc, Bool, false, List, length, take, drop, map, ap, ◌∙◌, sym, arith, inl, inr, add-one}
use Rattle.std.specs.Prelude.{Option, Some, None}
use Rattle.std.specs.Option.{option_map}
use Rattle.std.proofs.lemmas.List.{length-map}
use Rattle.st_model.specs.declared.oop.Oop.{Oop}
use Rattle.st_model.specs.Values.{value, is_small}
use Rattle.std.proofs.lemmas.Bool.{cases_lt}
use Rattle.st_model.specs.Objects.{Object}
use Rattle.st_model.specs.Table.{entry}
use Rattle.st_model.specs.Settled.{or, names, any_names, object_names, any_below}
use Rattle.st_model.proofs.Pointers.{names-even}
use Rattle.st_plain.specs.declared.entry.Entry.{Entry}
use Rattle.st_plain.specs.inside.Lists.{listed_table, entry_object, slot}
use Rattle.st_plain.specs.inside.ListsPlain.{is_referred}
use Rattle.st_plain.proofs.Slots.{entry-listed, entry-slot}
use Rattle.st_plain.proofs.Marking.{or_step}

module _ (p : List Oop) (u : List ℕ) (es : List (Option Entry)) (k n : ℕ) where
  -- the class and the fields of the object at a place
  pub object_names-some : (e : Entry) → slot es k ≡ Some e → is_small (value e.class) ≡ false
      → object_names (entry (listed_table p u es) k) n ≡ or (names (value e.class) n) (any_names (map value (take e.fields (drop e.fields_at p))) n)
  object_names-some e h even =
      ap (λ x. object_names x n) (entry-slot p u es k e h)
      ∙ ap (λ b. or b (any_names (map value (take e.fields (drop e.fields_at p))) n)) (sym (names-even e.class.0 n even))

  pub object_names-none : slot es k ≡ None → object_names (entry (listed_table p u es) k) n ≡ false
  object_names-none h = ap (λ x. object_names x n) (entry-listed p u es k ∙ ap (option_map (entry_object p u)) h)

-- a test that fails from a on holds nowhere that it does not below a
any_below-end : (a more : ℕ) (f : ℕ → Bool) → ((j : ℕ) → a ≤ j → f j ≡ false) → any_below (more + a) f ≡ any_below a f
any_below-end a zero f h = let e : 0 + a ≡ a = omega arith in ap (λ m. any_below m f) e
any_below-end a (suc more) f h =
    let e : suc more + a ≡ suc (more + a) = omega arith in
    ap (λ m. any_below m f) e ∙ ap (λ b. or b (any_below (more + a) f)) (h (more + a) (omega arith)) ∙ any_below-end a more f h

pub is_referred-end : (p : List Oop) (u : List ℕ) (es : List (Option Entry)) (end n : ℕ) → end ≤ length es → ((j : ℕ) → end ≤ j → slot es j ≡ None)
    → is_referred (listed_table p u es) n ≡ any_below end (λ k. object_names (entry (listed_table p u es) k) n)
unfolding is_referred
is_referred-end p u es end n within empty =
    let f = λ (k : ℕ). object_names (entry (listed_table p u es) k) n in
    let long : length (listed_table p u es) ≡ (length es - end) + end = length-map es (option_map (entry_object p u)) ∙ omega arith in
    ap (λ m. any_below m f) long ∙ any_below-end end (length es - end) f (λ j l. object_names-none p u es j n (empty j l))

pub any_below-more : (k : ℕ) (f : ℕ → Bool) (b : Bool) → or (f k) (or (any_below k f) b) ≡ or (any_below (k + 1) f) b
any_below-more k f b = or_step (f k) (any_below k f) b ∙ ap (λ m. or (any_below m f) b) (sym (add-one k))

-- each object has its place before the end of the table
pub entry_within : (p : List Oop) (u : List ℕ) (es : List (Option Entry)) (end k : ℕ) (o : Object) → ((j : ℕ) → end ≤ j → slot es j ≡ None) → entry (listed_table p u es) k ≡ Some o → k < end
entry_within p u es end k o empty h = elim (cases_lt k end) [
  | inl l ↦ l
  | inr l ↦ let e = entry-listed p u es k ∙ ap (option_map (entry_object p u)) (empty k l) in absurd (cc)
]
