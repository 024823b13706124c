-- Entries that are left where those of unmarked names leave.
use Rattle.std.proofs.Common.{◌≡◌, ◌≢◌, ℕ, ◌+◌, ◌≤◌, min, zero, suc, Bool, true, false, List, [], ◌∷◌, set, refl, sym, ap, ◌∙◌, subst, arith, inl, inr, is_some, length-set}
use Rattle.std.specs.Prelude.{slice_get, nat_le, Option, Some, None, if◌then◌else◌}
use Rattle.std.specs.Option.{option_map}
use Rattle.std.proofs.lemmas.Bool.{cases_eq, cases_lt}
use Rattle.std.proofs.lemmas.Bool.Decides.{nat_tests}
use Rattle.st_model.specs.declared.oop.Oop.{Oop}
use Rattle.st_model.specs.Table.{settled_table}
use Rattle.st_model.specs.Settled.{or}
use Rattle.st_plain.specs.declared.entry.Entry.{Entry}
use Rattle.st_plain.specs.inside.Lists.{listed_table, entry_object, slot, kept_entries, IsLaidOut, IsFull}
use Rattle.st_plain.proofs.Placing.{slot-set_other}

-- the names that are marked, or not reached yet
abbrev pub kept_from : (ℕ → Bool) → ℕ → ℕ → Bool
kept_from marked k j = or (marked j) (nat_le k j)

le_next : (j k : ℕ) → j ≢ k → nat_le (k + 1) j ≡ nat_le k j
le_next j k n = grind (arith, nat_tests)

le_zero : (j : ℕ) → nat_le 0 j ≡ true
le_zero j = grind (arith, nat_tests)

or_true : (a b : Bool) → b ≡ true → or a b ≡ true
or_true true b h = refl
or_true false b h = h

or_false : (a b : Bool) → b ≡ false → or a b ≡ a
or_false true b h = refl
or_false false b h = h

le_self : (k : ℕ) → nat_le k k ≡ true
le_self k = grind (arith, nat_tests)

le_past : (k : ℕ) → nat_le (k + 1) k ≡ false
le_past k = grind (arith, nat_tests)

kept_all : (es : List (Option Entry)) (keep : ℕ → Bool) → ((j : ℕ) → keep j ≡ true) → kept_entries es keep ≡ es
kept_all [] keep f = refl
kept_all (e ∷ es) keep f = λ i. head (keep 0) (f 0) i ∷ kept_all es (λ j. keep (suc j)) (λ j. f (suc j)) i
  where
    head : (b : Bool) → b ≡ true → (if b then e else None) ≡ e
    head true h = refl
    head false h = cc

kept_none : (b : Bool) (x : Option Entry) → x ≡ None → (if b then x else None) ≡ None
kept_none true x h = h
kept_none false x h = refl

-- tests that agree wherever there is an entry keep the same
pub kept_same : (es : List (Option Entry)) (f g : ℕ → Bool) → ((j : ℕ) → is_some (slot es j) ≡ true → f j ≡ g j) → kept_entries es f ≡ kept_entries es g
kept_same [] f g h = refl
kept_same (None ∷ es) f g h = λ i. (kept_none (f 0) None refl ∙ sym (kept_none (g 0) None refl)) i ∷ kept_same es (λ j. f (suc j)) (λ j. g (suc j)) (λ j. h (suc j)) i
kept_same (Some e ∷ es) f g h = λ i. (if h 0 refl i then Some e else None) ∷ kept_same es (λ j. f (suc j)) (λ j. g (suc j)) (λ j. h (suc j)) i

-- a test that fails at k, and agrees elsewhere, keeps the same but for the entry there
pub kept_but : (es : List (Option Entry)) (f g : ℕ → Bool) (k : ℕ) → f k ≡ false → ((j : ℕ) → j ≢ k → f j ≡ g j) → kept_entries es f ≡ set (kept_entries es g) k None
kept_but [] f g k fails same = refl
kept_but (e ∷ es) f g zero fails same = λ i. (if fails i then e else None) ∷ rest es (λ j. f (suc j)) (λ j. g (suc j)) (λ j. same (suc j) (λ q. absurd (omega (arith, q)))) i
  where
    rest : (ds : List (Option Entry)) (a b : ℕ → Bool) → ((j : ℕ) → a j ≡ b j) → kept_entries ds a ≡ kept_entries ds b
    rest [] a b h = refl
    rest (d ∷ ds) a b h = λ i. (if h 0 i then d else None) ∷ rest ds (λ j. a (suc j)) (λ j. b (suc j)) (λ j. h (suc j)) i
kept_but (e ∷ es) f g (suc k) fails same = λ i. (if same 0 (λ q. absurd (omega (arith, q))) i then e else None) ∷ kept_but es (λ j. f (suc j)) (λ j. g (suc j)) k fails (λ j ne. same (suc j) (λ q. ne (omega (arith, q)))) i

-- before the first place all entries are left
pub kept_from_none : (es : List (Option Entry)) (marked : ℕ → Bool) → es ≡ kept_entries es (kept_from marked 0)
kept_from_none es marked = sym (kept_all es (kept_from marked 0) (λ j. or_true (marked j) (nat_le 0 j) (le_zero j)))

module _ (es : List (Option Entry)) (marked : ℕ → Bool) (k : ℕ) where
  other : (j : ℕ) → j ≢ k → kept_from marked (k + 1) j ≡ kept_from marked k j
  other j n = ap (or (marked j)) (le_next j k n)

  -- an unmarked entry leaves
  pub kept_from-unmarked : marked k ≡ false → set (kept_entries es (kept_from marked k)) k None ≡ kept_entries es (kept_from marked (k + 1))
  kept_from-unmarked h = sym (kept_but es (kept_from marked (k + 1)) (kept_from marked k) k (ap (λ b. or b (nat_le (k + 1) k)) h ∙ le_past k) other)

  -- a marked one stays
  pub kept_from-marked : marked k ≡ true → kept_entries es (kept_from marked k) ≡ kept_entries es (kept_from marked (k + 1))
  kept_from-marked h = kept_same es (kept_from marked k) (kept_from marked (k + 1)) (λ j there. elim (cases_eq j k) [
    | inl e ↦ subst (λ i. kept_from marked k i ≡ kept_from marked (k + 1) i) (sym e) (ap (λ b. or b (nat_le k k)) h ∙ ap (λ b. or b (nat_le (k + 1) k)) (sym h))
    | inr n ↦ sym (other j n)
  ])

-- past the last entry there is nothing to keep
pub kept_from_end : (es : List (Option Entry)) (marked : ℕ → Bool) (end : ℕ) → ((j : ℕ) → end ≤ j → slot es j ≡ None) → kept_entries es (kept_from marked end) ≡ kept_entries es marked
kept_from_end es marked end empty = kept_same es (kept_from marked end) marked (λ j there. elim (cases_lt j end) [
  | inl l ↦ or_false (marked j) (nat_le end j) (grind (arith, nat_tests))
  | inr l ↦ let e = ap is_some (empty j l) in absurd (cc)
])

module _ (p : List Oop) (u : List ℕ) where
  pub kept-listed : (es : List (Option Entry)) (keep : ℕ → Bool) → listed_table p u (kept_entries es keep) ≡ settled_table (listed_table p u es) keep
  kept-listed [] keep = refl
  kept-listed (e ∷ es) keep = λ i. head (keep 0) i ∷ kept-listed es (λ k. keep (suc k)) i
    where
      head : (b : Bool) → option_map (entry_object p u) (if b then e else None) ≡ (if b then option_map (entry_object p u) e else None)
      head true = refl
      head false = refl

-- where the entry at a place leaves, the others stay as they are

set_none_still : (es : List (Option Entry)) (k j : ℕ) (d : Entry) → slice_get (set es k None) j ≡ Some (Some d) → slice_get es j ≡ Some (Some d)
set_none_still [] k j d h = h
set_none_still (e ∷ es) zero zero d h = cc
set_none_still (e ∷ es) zero (suc j) d h = h
set_none_still (e ∷ es) (suc k) zero d h = h
set_none_still (e ∷ es) (suc k) (suc j) d h = set_none_still es k j d h

slot-set_none : (es : List (Option Entry)) (k j : ℕ) → slot es j ≡ None → slot (set es k None) j ≡ None
slot-set_none [] k j h = h
slot-set_none (e ∷ es) zero zero h = refl
slot-set_none (e ∷ es) zero (suc j) h = h
slot-set_none (e ∷ es) (suc k) zero h = h
slot-set_none (e ∷ es) (suc k) (suc j) h = slot-set_none es k j h

pub removed_laid_out : (es : List (Option Entry)) (fields units end nf nu k : ℕ) → IsLaidOut es fields units end nf nu → IsLaidOut (set es k None) fields units end nf nu
removed_laid_out es fields units end nf nu k laid = record {
  places = length-set es k None ∙ laid.places;
  within = laid.within;
  empty = λ j l. slot-set_none es k j (laid.empty j l);
  placed = λ i e h. laid.placed i e (set_none_still es k i e h);
  apart = λ i j d e ne hi hj. laid.apart i j d e ne (set_none_still es k i d hi) (set_none_still es k j e hj);
  fields_end = laid.fields_end;
  units_end = laid.units_end;
  bounded = laid.bounded;
}

-- places before the one that is emptied are as full as they were
pub full_less : (es : List (Option Entry)) (k end : ℕ) → IsFull es end → IsFull (set es k None) (min end k)
full_less es k end full = λ j low high.
    let other : j ≢ k = omega (arith, high) in
    ap is_some (slot-set_other es k j None other) ∙ full j low (omega (arith, high))

-- emptying an empty place changes nothing
pub set_none_same : (es : List (Option Entry)) (k : ℕ) → slot es k ≡ None → set es k None ≡ es
set_none_same [] k h = refl
set_none_same (e ∷ es) zero h = ap (λ x. x ∷ es) (sym h)
set_none_same (e ∷ es) (suc k) h = ap (λ xs. e ∷ xs) (set_none_same es k h)
