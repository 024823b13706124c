use Rattle.std.proofs.Common.{◌≡◌, ◌≢◌, ℕ, ◌+◌, ◌*◌, ◌/◌, ◌<◌, ◌≤◌, Bool, true, false, cond, List, Option, Some, None, length, get_or, set, replicate, is_some, IsSome, refl, sym, ap, ◌∙◌, arith, length-set}
use Rattle.std.specs.Prelude.{◌==◌, nat_lt}
use Rattle.std.proofs.lemmas.List.{get_or-set_same, get_or-set_other, get_or-replicate, length-replicate, get_or_past}
use Rattle.st_model.specs.declared.oop.Oop.{Oop}
use Rattle.st_table.specs.declared.entry.Entry.{Entry}
use Rattle.st_table.specs.inside.Bits.{bit, IsLeast}
use Rattle.st_table.specs.inside.Entries.{HasEntry, IsFree, IsLeastFree}
use Rattle.st_table.specs.inside.Mapped.{IsMapped}

-- a place gets an entry or loses it, and its bit goes with it
pub mapped_set : (ws ws' : List ℕ) (es : List (Option Entry)) (k : ℕ) (x : Option Entry) → IsMapped ws es → 0 < k → k < length es → bit ws' k ≡ cond (is_some x) 1 0 → ((i : ℕ) → i ≢ k → bit ws' i ≡ bit ws i) → IsMapped ws' (set es k x)
mapped_set ws ws' es k x h above below here others =
    let size : length (set es k x) ≡ length es = length-set es k x in
    let some = h.some in
    let few = h.few in
    record {
      some = omega (arith, size, some);
      few = omega (arith, size, few);
      first = get_or-set_other es k 0 x None (omega (arith, above)) ∙ h.first;
      first_bit = others 0 (omega (arith, above)) ∙ h.first_bit;
      served = λ i up down. served i up (omega (arith, size, down)) (i == k) refl;
      others = λ i up down. others i (omega (arith, size, up, below)) ∙ h.others i (omega (arith, size, up)) down;
    }
  where
    served : (i : ℕ) → 0 < i → i < length es → (b : Bool) → (i == k) ≡ b → bit ws' i ≡ cond (is_some (get_or (set es k x) i None)) 1 0
    served i up down true q =
        let at : i ≡ k = grind (arith, q) in
        ap (bit ws') at ∙ here ∙ ap (λ y. cond (is_some y) 1 0) (sym (get_or-set_same es k x None below)) ∙ ap (λ j. cond (is_some (get_or (set es k x) j None)) 1 0) (sym at)
    served i up down false q =
        let ne : i ≢ k = λ z. grind (arith, q, z) in
        others i ne ∙ h.served i up down ∙ ap (λ y. cond (is_some y) 1 0) (sym (get_or-set_other es k i x None ne))

-- a table without entries
pub mapped_new : (ws : List ℕ) (n : ℕ) → n < 32768 → ((k : ℕ) → 0 < k → k ≤ n → bit ws k ≡ 0) → bit ws 0 ≡ 1 → ((k : ℕ) → n < k → k < 32768 → bit ws k ≡ 1) → IsMapped ws (replicate (n + 1) None)
mapped_new ws n few free first others =
    let size : length (replicate {A = Option Entry} (n + 1) None) ≡ n + 1 = length-replicate (n + 1) None in
    record {
      some = omega (arith, size);
      few = omega (arith, size, few);
      first = get_or-replicate (n + 1) 0 None None (omega arith);
      first_bit = first;
      served = λ k up down. free k up (omega (arith, size, down)) ∙ ap (λ y. cond (is_some y) 1 0) (sym (get_or-replicate {A = Option Entry} (n + 1) k None None (omega (arith, size, down))));
      others = λ k up down. others k (omega (arith, size, up)) down;
    }

-- a bit that is clear at a place that is served tells that there is no entry
absent : (x : Option Entry) → ◌≡◌ {A = ℕ} 0 (cond (is_some x) 1 0) → x ≡ None
absent None e = refl
absent (Some x) e = absurd (omega (arith, e))

-- the bit of a free pointer is clear
pub free_bit : (ws : List ℕ) (es : List (Option Entry)) (p : Oop) → IsMapped ws es → IsFree es p → bit ws (p.0 / 2) ≡ 0
free_bit ws es p h free =
    let first = free.first in
    h.served (p.0 / 2) (omega (arith, first)) free.last ∙ ap (λ y. cond (is_some y) 1 0) free.absent

-- where every bit is set no pointer is free
pub none_free : (ws : List ℕ) (es : List (Option Entry)) → IsMapped ws es → ((k : ℕ) → k < 32768 → bit ws k ≡ 1) → (p : Oop) → IsFree es p → ⊥
none_free ws es h full p free =
    let last = free.last in
    let few = h.few in
    let no : 0 ≡ 1 = sym (free_bit ws es p h free) ∙ full (p.0 / 2) (omega (arith, last, few)) in absurd (omega (arith, no))

-- the least place whose bit is clear gives the least free pointer
pub least_pointer : (ws : List ℕ) (es : List (Option Entry)) (k : ℕ) (o : Oop) → IsMapped ws es → IsLeast ws k → k < 32768 → o.0 ≡ 2 * k → IsLeastFree es o
least_pointer ws es k o h lowest within is =
    let half : o.0 / 2 ≡ k = omega (arith, is) in
    let above : 0 < k = not_first (k == 0) refl in
    let below : k < length es = served (nat_lt k (length es)) refl in
    record {
      free = record {
        even = omega (arith, is);
        first = omega (arith, is, above);
        last = omega (arith, half, below);
        absent = ap (λ j. get_or es j None) half ∙ absent (get_or es k None) (sym lowest.free ∙ h.served k above below);
      };
      least = λ p free. least p free (nat_lt (p.0 / 2) k) refl;
    }
  where
    not_first : (b : Bool) → (k == 0) ≡ b → 0 < k
    not_first true q = let at : k ≡ 0 = grind (arith, q) in let no : 0 ≡ 1 = sym lowest.free ∙ ap (bit ws) at ∙ h.first_bit in absurd (omega (arith, no))
    not_first false q = let ne : k ≢ 0 = λ z. grind (arith, q, z) in omega (arith, ne)

    served : (b : Bool) → nat_lt k (length es) ≡ b → k < length es
    served true q = grind (arith, q)
    served false q =
        let up : length es ≤ k = grind (arith, q) in
        let no : 0 ≡ 1 = sym lowest.free ∙ h.others k up within in absurd (omega (arith, no))

    least : (p : Oop) → IsFree es p → (b : Bool) → nat_lt (p.0 / 2) k ≡ b → o.0 ≤ p.0
    least p free true q =
        let under : p.0 / 2 < k = grind (arith, q) in
        let no : 0 ≡ 1 = sym (free_bit ws es p h free) ∙ lowest.lower (p.0 / 2) under in absurd (omega (arith, no))
    least p free false q =
        let over : k ≤ p.0 / 2 = grind (arith, q) in omega (arith, is, over)

none_there : (x : Option Entry) → x ≡ None → IsSome x → ⊥
none_there x e h = cc

-- a pointer with an entry is one that the table serves
pub entered_within : (ws : List ℕ) (es : List (Option Entry)) (o : Oop) → IsMapped ws es → HasEntry es o → (0 < o.0 / 2) × (o.0 / 2 < length es)
entered_within ws es o h has = (above (o.0 / 2 == 0) refl, below (nat_lt (o.0 / 2) (length es)) refl)
  where
    above : (b : Bool) → (o.0 / 2 == 0) ≡ b → 0 < o.0 / 2
    above true q =
        let at : o.0 / 2 ≡ 0 = grind (arith, q) in
        absurd (none_there (get_or es (o.0 / 2) None) (ap (λ j. get_or es j None) at ∙ h.first) has.entered)
    above false q = let ne : o.0 / 2 ≢ 0 = λ z. grind (arith, q, z) in omega (arith, ne)

    below : (b : Bool) → nat_lt (o.0 / 2) (length es) ≡ b → o.0 / 2 < length es
    below true q = grind (arith, q)
    below false q =
        let up : length es ≤ o.0 / 2 = grind (arith, q) in
        absurd (none_there (get_or es (o.0 / 2) None) (get_or_past es (o.0 / 2) None up) has.entered)
