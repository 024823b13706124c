-- Names in order: the first one, and those behind it.
use Rattle.std.proofs.Common.{◌≡◌, ℕ, List, [], ◌∷◌, Bool, true, false, Option, Some, None, refl, sym, ap, ◌∙◌, subst}
use Rattle.std.specs.Prelude.{if◌then◌else◌}
use Rattle.std.specs.List.{filter, cons_option}
use Rattle.std.specs.declared.cmp.Ordering.{Ordering}
use Rattle.std.specs.declared.cmp.Ordering.TheVariants.{Less, Equal, Greater}
use Rattle.std.specs.Ordering.{is_lt, ordering_reverse}
use Rattle.std.proofs.lemmas.Cmp.{nat_list_cmp_total}
use Rattle.st_browse.specs.Naming.{Named, compared, placed, placed_beside, in_order, is_behind}
use Rattle.st_browse.specs.inside.Listing.{behind, first, those_left, lesser, lesser_by, taken, is_left}

less : (o : Ordering) → is_lt o ≡ true → o ≡ Less
less Less e = refl
less Equal e = cc
less Greater e = cc

behind_both : (a b c : List ℕ) → is_behind a b ≡ true → is_behind b c ≡ true → is_behind a c ≡ true
behind_both a b c e f = ap is_lt (nat_list_cmp_total.trans a b c (less (compared a b) e) (less (compared b c) f))

turned : (a b : List ℕ) → compared a b ≡ Greater → is_behind b a ≡ true
turned a b e = ap is_lt (nat_list_cmp_total.antisymm b a ∙ ap ordering_reverse e)

behind_same : (a b c : List ℕ) → compared b c ≡ Equal → is_behind a b ≡ is_behind a c
behind_same a b c e =
    ap is_lt (nat_list_cmp_total.antisymm a b ∙ (ap ordering_reverse (nat_list_cmp_total.congr b c a e) ∙ sym (nat_list_cmp_total.antisymm a c)))

-- THOSE BEHIND A TEXT

module _ (a : List ℕ) (x y : Named) (ys zs : List Named) where
  abbrev With : Bool → List Named → List Named
  With b xs = if b then placed x xs else xs

  kept_less : (b c : Bool) → behind a x ≡ b → behind a y ≡ c → (b ≡ true → c ≡ true) → compared x.name y.name ≡ Less → filter (behind a) (x ∷ y ∷ ys) ≡ With b (filter (behind a) (y ∷ ys))
  kept_less true true e f g h = rw (e, f, h) refl
  kept_less true false e f g h = let z = g refl in cc
  kept_less false c e f g h = rw e refl

  kept_equal : (b : Bool) → behind a x ≡ b → behind a y ≡ b → compared x.name y.name ≡ Equal → filter (behind a) (x ∷ ys) ≡ With b (filter (behind a) (y ∷ ys))
  kept_equal true e f h = rw (e, f, h) refl
  kept_equal false e f h = rw (e, f) refl

  kept_greater : (b c : Bool) → behind a x ≡ b → behind a y ≡ c → (c ≡ true → b ≡ true) → compared x.name y.name ≡ Greater → filter (behind a) zs ≡ With b (filter (behind a) ys)
      → filter (behind a) (y ∷ zs) ≡ With b (filter (behind a) (y ∷ ys))
  kept_greater true true e f g h k = rw (f, h, k) refl
  kept_greater true false e f g h k = rw (f, k) refl
  kept_greater false true e f g h k = let z = g refl in cc
  kept_greater false false e f g h k = rw (f, k) refl

  kept_beside : (o : Ordering) → compared x.name y.name ≡ o → filter (behind a) zs ≡ With (behind a x) (filter (behind a) ys)
      → filter (behind a) (placed_beside o x y ys zs) ≡ With (behind a x) (filter (behind a) (y ∷ ys))
  kept_beside Less h k = kept_less (behind a x) (behind a y) refl refl (λ e. behind_both a x.name y.name e (ap is_lt h)) h
  kept_beside Equal h k = kept_equal (behind a x) refl (sym (behind_same a x.name y.name h)) h
  kept_beside Greater h k = kept_greater (behind a x) (behind a y) refl refl (λ e. behind_both a y.name x.name e (turned x.name y.name h)) h k

kept_placed : (a : List ℕ) (x : Named) (ys : List Named) → filter (behind a) (placed x ys) ≡ (if behind a x then placed x (filter (behind a) ys) else filter (behind a) ys)
kept_placed a x [] = kept_one (behind a x) refl
  where
    kept_one : (b : Bool) → behind a x ≡ b → filter (behind a) (x ∷ []) ≡ (if b then x ∷ [] else [])
    kept_one true e = rw e refl
    kept_one false e = rw e refl
kept_placed a x (y ∷ ys) = kept_beside a x y ys (placed x ys) (compared x.name y.name) refl (kept_placed a x ys)

-- those behind a text are in the same order
pub kept_in_order : (a : List ℕ) (xs : List Named) → in_order (filter (behind a) xs) ≡ filter (behind a) (in_order xs)
kept_in_order a [] = refl
kept_in_order a (x ∷ xs) = kept_more (behind a x) refl (kept_in_order a xs)
  where
    kept_more : (b : Bool) → behind a x ≡ b → in_order (filter (behind a) xs) ≡ filter (behind a) (in_order xs)
        → in_order (filter (behind a) (x ∷ xs)) ≡ filter (behind a) (placed x (in_order xs))
    kept_more true e same = rw (e, kept_placed a x (in_order xs), e) (ap (placed x) same)
    kept_more false e same = rw (e, kept_placed a x (in_order xs), e) same

-- ASCENDING

abbrev AllBehind : List ℕ → List Named → Type 0
AllBehind a [] = Unit {0}
AllBehind a (x ∷ xs) = (behind a x ≡ true) × AllBehind a xs

abbrev IsAscending : List Named → Type 0
IsAscending [] = Unit {0}
IsAscending (x ∷ xs) = AllBehind x.name xs × IsAscending xs

all_behind : (a b : List ℕ) (xs : List Named) → is_behind a b ≡ true → AllBehind b xs → AllBehind a xs
all_behind a b [] e all = all
all_behind a b (x ∷ xs) e all = (behind_both a b x.name e all.0, all_behind a b xs e all.1)

all_placed : (a : List ℕ) (x : Named) (ys : List Named) → behind a x ≡ true → AllBehind a ys → AllBehind a (placed x ys)
all_placed a x [] e all = (e, all)
all_placed a x (y ∷ ys) e all = beside (compared x.name y.name) (placed x ys) (all_placed a x ys e all.1)
  where
    beside : (o : Ordering) (zs : List Named) → AllBehind a zs → AllBehind a (placed_beside o x y ys zs)
    beside Less zs more = (e, all)
    beside Equal zs more = (e, all.1)
    beside Greater zs more = (all.0, more)

ascending_placed : (x : Named) (ys : List Named) → IsAscending ys → IsAscending (placed x ys)
ascending_placed x [] asc = (tt, tt)
ascending_placed x (y ∷ ys) asc = beside (compared x.name y.name) refl (ascending_placed x ys asc.1)
  where
    beside : (o : Ordering) → compared x.name y.name ≡ o → IsAscending (placed x ys) → IsAscending (placed_beside o x y ys (placed x ys))
    beside Less h more = ((ap is_lt h, all_behind x.name y.name ys (ap is_lt h) asc.0), asc)
    beside Equal h more = (same_behind ys asc.0, asc.1)
      where
        same_behind : (zs : List Named) → AllBehind y.name zs → AllBehind x.name zs
        same_behind [] all = all
        same_behind (z ∷ zs) all = (ap is_lt (nat_list_cmp_total.congr x.name y.name z.name h) ∙ all.0, same_behind zs all.1)
    beside Greater h more = (all_placed y.name x ys (turned x.name y.name h) asc.0, more)

ascending : (xs : List Named) → IsAscending (in_order xs)
ascending [] = tt
ascending (x ∷ xs) = ascending_placed x (in_order xs) (ascending xs)

all_kept : (a : List ℕ) (xs : List Named) → AllBehind a xs → filter (behind a) xs ≡ xs
all_kept a [] all = refl
all_kept a (x ∷ xs) all = rw (all.0, all_kept a xs all.1) refl

not_itself : (a : List ℕ) → is_behind a a ≡ false
not_itself a = turned_too (compared a a) refl
  where
    turned_too : (o : Ordering) → compared a a ≡ o → is_lt o ≡ false
    turned_too Less h = let e : Less ≡ Greater = sym h ∙ (nat_list_cmp_total.antisymm a a ∙ ap ordering_reverse h) in cc
    turned_too Equal h = refl
    turned_too Greater h = refl

-- THE FIRST ONE

-- behind the first one come those behind it
after_first : (y : Named) (xs : List Named) → IsAscending xs → first xs ≡ Some y → xs ≡ y ∷ filter (behind y.name) xs
after_first y [] asc e = cc
after_first y (x ∷ xs) asc e =
    let same : x ≡ y = cc in
    rw same (ap (λ zs. y ∷ zs) (rw (not_itself y.name) (sym (all_kept y.name xs (subst (λ z. AllBehind z.name xs) same asc.0)))))

narrower : (a b : List ℕ) (xs : List Named) → is_behind a b ≡ true → filter (behind b) (filter (behind a) xs) ≡ filter (behind b) xs
narrower a b [] e = refl
narrower a b (x ∷ xs) e = kept (behind a x) (behind b x) refl refl (narrower a b xs e)
  where
    kept : (c d : Bool) → behind a x ≡ c → behind b x ≡ d → filter (behind b) (filter (behind a) xs) ≡ filter (behind b) xs
        → filter (behind b) (filter (behind a) (x ∷ xs)) ≡ filter (behind b) (x ∷ xs)
    kept true true f g same = rw (f, g, same) refl
    kept true false f g same = rw (f, g, same) refl
    kept false true f g same = let z : false ≡ true = sym f ∙ behind_both a b x.name e g in cc
    kept false false f g same = rw (f, g, same) refl

first_kept : (a : List ℕ) (y : Named) (xs : List Named) → first (filter (behind a) xs) ≡ Some y → is_behind a y.name ≡ true
first_kept a y [] e = cc
first_kept a y (x ∷ xs) e = kept (behind a x) refl (first_kept a y xs)
  where
    kept : (b : Bool) → behind a x ≡ b → (first (filter (behind a) xs) ≡ Some y → is_behind a y.name ≡ true) → is_behind a y.name ≡ true
    kept true f more = let q : Some x ≡ Some y = sym (rw f refl) ∙ e in let same : x ≡ y = cc in ap (λ z. behind a z) (sym same) ∙ f
    kept false f more = more (sym (rw f refl) ∙ e)

-- the first of those that are left, and those that are left then
pub next_is : (after : Option (List ℕ)) (xs : List Named) (y : Named) → first (in_order (those_left after xs)) ≡ Some y
    → in_order (those_left after xs) ≡ y ∷ in_order (those_left (Some y.name) xs)
next_is None xs y e = after_first y (in_order xs) (ascending xs) e ∙ ap (λ zs. y ∷ zs) (sym (kept_in_order y.name xs))
next_is (Some a) xs y e =
    let later : is_behind a y.name ≡ true = first_kept a y (in_order xs) (ap first (sym (kept_in_order a xs)) ∙ e) in
    after_first y (in_order (filter (behind a) xs)) (ascending (filter (behind a) xs)) e
    ∙ ap (λ zs. y ∷ zs) (sym (kept_in_order y.name (filter (behind a) xs)) ∙ ap in_order (narrower a y.name xs later))

pub none_left : (xs : List Named) → first (in_order xs) ≡ None → in_order xs ≡ []
none_left xs e = empty (in_order xs) e
  where
    empty : (ys : List Named) → first ys ≡ None → ys ≡ []
    empty [] f = refl
    empty (y ∷ ys) f = cc

-- ONE MORE

first_placed : (x : Named) (ys : List Named) → first (placed x ys) ≡ Some (lesser x (first ys))
first_placed x [] = refl
first_placed x (y ∷ ys) = beside (compared x.name y.name) (placed x ys)
  where
    beside : (o : Ordering) (zs : List Named) → first (placed_beside o x y ys zs) ≡ Some (lesser_by o x y)
    beside Less zs = refl
    beside Equal zs = refl
    beside Greater zs = refl

left_more : (after : Option (List ℕ)) (n : Named) (zs : List Named) (b : Bool) → is_left after n ≡ b
    → first (in_order (those_left after (n ∷ zs))) ≡ (if b then Some (lesser n (first (in_order (those_left after zs)))) else first (in_order (those_left after zs)))
left_more None n zs true e = first_placed n (in_order zs)
left_more None n zs false e = cc
left_more (Some a) n zs true e = rw e (first_placed n (in_order (filter (behind a) zs)))
left_more (Some a) n zs false e = rw e refl

-- the first one, with one place more before the others
pub first_with : (after : Option (List ℕ)) (e : Option Named) (zs : List Named)
    → first (in_order (those_left after (cons_option e zs))) ≡ taken after e (first (in_order (those_left after zs)))
first_with None None zs = refl
first_with (Some a) None zs = refl
first_with after (Some n) zs = left_more after n zs (is_left after n) refl
