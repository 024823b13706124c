-- What is found while a list of names grows.
use Rattle.std.proofs.Common.{◌≡◌, ◌⊎◌, inl, inr, ℕ, zero, suc, ◌+◌, ◌<◌, List, [], ◌∷◌, ◌++◌, Bool, true, false, Some, length, take, set, refl, sym, ap, ◌∙◌, subst, arith, length-append, get_or-set_same, get_or-set_other}
use Rattle.std.specs.Prelude.{slice_get}
use Rattle.std.proofs.lemmas.Bool.Decides.{eqb_tells}
use Rattle.std.proofs.lemmas.List.{take_more}
use Rattle.std.proofs.lemmas.Option.{slice_get_within, get_or_from_slice_get}
use Rattle.st_model.specs.declared.oop.Oop.{Oop}
use Rattle.st_model.specs.Values.{Value, Small, Ref, value, is_small}
use Rattle.st_model.specs.Settled.{AnyRefTo, is_marked}
use Rattle.st_model.proofs.Roots.{any_either, any_left, any_right}
use Rattle.st_clean.specs.declared.state.Found.{Found}
use Rattle.st_clean.specs.inside.Found.{Notes, left, Has, IsOneOf}

-- MARKS

pub marked_same : (marks : List Bool) (k : ℕ) → k < length marks → is_marked (set marks k true) k ≡ true
marked_same marks k l = get_or-set_same marks k true false l

pub marked_still : (marks : List Bool) (k n : ℕ) → k < length marks → is_marked marks n ≡ true → is_marked (set marks k true) n ≡ true
marked_still marks k n l e = elim (eqb_tells n k) [
  | inl q ↦ subst (λ x. is_marked (set marks k true) x ≡ true) (sym q.1) (marked_same marks k l)
  | inr q ↦ get_or-set_other marks k n true false q.1 ∙ e
]

pub marked_or : (marks : List Bool) (k n : ℕ) → is_marked (set marks k true) n ≡ true → (is_marked marks n ≡ true) ⊎ (n ≡ k)
marked_or marks k n e = elim (eqb_tells n k) [
  | inl q ↦ inr q.1
  | inr q ↦ inl (sym (get_or-set_other marks k n true false q.1) ∙ e)
]

-- one mark more is one less to be made
pub left_less : (marks : List Bool) (k : ℕ) → k < length marks → is_marked marks k ≡ false → left (set marks k true) + 1 ≡ left marks
left_less [] k l e = omega (arith, l)
left_less (true ∷ bs) zero l e = cc
left_less (false ∷ bs) zero l e = omega arith
left_less (true ∷ bs) (suc k) l e = left_less bs k (omega (arith, l)) e
left_less (false ∷ bs) (suc k) l e = let h = left_less bs k (omega (arith, l)) e in omega (arith, h)

-- LISTS

pub get_front : {X : Type 0} (xs ys : List X) (i : ℕ) (x : X) → slice_get xs i ≡ Some x → slice_get (xs ++ ys) i ≡ Some x
get_front [] ys i x e = cc
get_front (y ∷ xs) ys zero x e = e
get_front (y ∷ xs) ys (suc i) x e = get_front xs ys i x e

pub get_last : {X : Type 0} (xs : List X) (y : X) → slice_get (xs ++ y ∷ []) (length xs) ≡ Some y
get_last [] y = refl
get_last (x ∷ xs) y = get_last xs y

pub get_either : {X : Type 0} (xs : List X) (y : X) (i : ℕ) (x : X) → slice_get (xs ++ y ∷ []) i ≡ Some x → (slice_get xs i ≡ Some x) ⊎ (x ≡ y)
get_either [] y zero x e = inr cc
get_either [] y (suc i) x e = cc
get_either (z ∷ xs) y zero x e = inl e
get_either (z ∷ xs) y (suc i) x e = get_either xs y i x e

-- NOTES

-- what these name was found before
pub notes_nothing : (vs : List Value) (f : Found) → ((n : ℕ) → AnyRefTo n vs → is_marked f.marks.items n ≡ true) → Notes vs f f
notes_nothing vs f h = record { kept = λ n e. e; added = h; first = λ i x e. e; behind = λ i x e. inl e; listed = λ n e. inl e; total = refl }

pub notes_none : (f : Found) → Notes [] f f
notes_none f = notes_nothing [] f (λ n h. absurd h)

pub notes_small : (v : Value) (f : Found) → is_small v ≡ true → Notes (v ∷ []) f f
notes_small (Small k) f e = notes_nothing (Small k ∷ []) f none
  where
    none : (n : ℕ) → AnyRefTo n (Small k ∷ []) → is_marked f.marks.items n ≡ true
    none n (inl h) = absurd h
    none n (inr h) = absurd h
notes_small (Ref k) f e = cc

pub notes_again : (k : ℕ) (f : Found) → is_marked f.marks.items k ≡ true → Notes (Ref k ∷ []) f f
notes_again k f e = notes_nothing (Ref k ∷ []) f there
  where
    there : (n : ℕ) → AnyRefTo n (Ref k ∷ []) → is_marked f.marks.items n ≡ true
    there n (inl h) = subst (λ x. is_marked f.marks.items x ≡ true) (sym h) e
    there n (inr h) = absurd h

-- a name more
module _ (f g : Found) (o : Oop) (k : ℕ) (is : value o ≡ Ref k) (below : k < length f.marks.items) (new : is_marked f.marks.items k ≡ false)
    (marks : g.marks.items ≡ set f.marks.items k true) (list : g.list.items ≡ f.list.items ++ o ∷ []) where
  one_added : (n : ℕ) → AnyRefTo n (Ref k ∷ []) → is_marked g.marks.items n ≡ true
  one_added n (inl h) = ap (λ bs. is_marked bs n) marks ∙ subst (λ x. is_marked (set f.marks.items k true) x ≡ true) (sym h) (marked_same f.marks.items k below)
  one_added n (inr h) = absurd h

  one_behind : (i : ℕ) (x : Oop) → slice_get g.list.items i ≡ Some x → (slice_get f.list.items i ≡ Some x) ⊎ IsOneOf (Ref k ∷ []) x
  one_behind i x e = elim (get_either f.list.items o i x (sym (ap (λ xs. slice_get xs i) list) ∙ e)) [
    | inl h ↦ inl h
    | inr h ↦ inr (k, ap value h ∙ is, inl refl)
  ]

  one_listed : (n : ℕ) → is_marked g.marks.items n ≡ true → (is_marked f.marks.items n ≡ true) ⊎ Has g.list.items n
  one_listed n e = elim (marked_or f.marks.items k n (sym (ap (λ bs. is_marked bs n) marks) ∙ e)) [
    | inl h ↦ inl h
    | inr h ↦ inr (length f.list.items, o, ap (λ xs. slice_get xs (length f.list.items)) list ∙ get_last f.list.items o, is ∙ ap (λ x. Ref x) (sym h))
  ]

  one_total : left g.marks.items + length g.list.items ≡ left f.marks.items + length f.list.items
  one_total =
      let a : left g.marks.items ≡ left (set f.marks.items k true) = ap left marks in
      let b : length g.list.items ≡ length f.list.items + 1 = ap length list ∙ length-append f.list.items (o ∷ []) in
      let c = left_less f.marks.items k below new in
      omega (arith, a, b, c)

  notes_named : Notes (Ref k ∷ []) f g
  notes_named = record {
    kept = λ n e. ap (λ bs. is_marked bs n) marks ∙ marked_still f.marks.items k n below e;
    added = one_added;
    first = λ i x e. ap (λ xs. slice_get xs i) list ∙ get_front f.list.items (o ∷ []) i x e;
    behind = one_behind;
    listed = one_listed;
    total = one_total;
  }

  pub notes_one : Notes (value o ∷ []) f g
  notes_one = subst (λ v. Notes (v ∷ []) f g) (sym is) notes_named

-- one after the other
pub notes_join : (vs ws : List Value) (f g h : Found) → Notes vs f g → Notes ws g h → Notes (vs ++ ws) f h
notes_join vs ws f g h a b = record {
  kept = λ n e. b.kept n (a.kept n e);
  added = λ n e. elim (any_either n vs ws e) [ inl k ↦ b.kept n (a.added n k) | inr k ↦ b.added n k ];
  first = λ i x e. b.first i x (a.first i x e);
  behind = λ i x e. elim (b.behind i x e) [
    | inl k ↦ elim (a.behind i x k) [ inl j ↦ inl j | inr j ↦ inr (j.0, j.1, any_left j.0 vs ws j.2) ]
    | inr k ↦ inr (k.0, k.1, any_right k.0 vs ws k.2)
  ];
  listed = λ n e. elim (b.listed n e) [
    | inl k ↦ elim (a.listed n k) [ inl j ↦ inl j | inr j ↦ inr (j.0, j.1, b.first j.0 j.1 j.2, j.3) ]
    | inr k ↦ inr k
  ];
  total = b.total ∙ a.total;
}

-- a value more of a list
pub taken_more : (vs : List Value) (i : ℕ) (x : Value) → slice_get vs i ≡ Some x → take (i + 1) vs ≡ take i vs ++ x ∷ []
taken_more vs i x e = take_more vs i x (slice_get_within vs i x e) ∙ ap (λ y. take i vs ++ y ∷ []) (get_or_from_slice_get vs i x x e)

pub notes_more : (vs : List Value) (i : ℕ) (x : Value) (f g h : Found) → slice_get vs i ≡ Some x → Notes (take i vs) f g → Notes (x ∷ []) g h → Notes (take (i + 1) vs) f h
notes_more vs i x f g h e a b = subst (λ ws. Notes ws f h) (sym (taken_more vs i x e)) (notes_join (take i vs) (x ∷ []) f g h a b)
