-- Definitions that later ones supersede.
use Rattle.std.proofs.Common.{◌≡◌, ◌≢◌, ◌⊎◌, inl, inr, ℕ, zero, suc, ◌+◌, ◌-◌, ◌<◌, ◌≤◌, Bool, true, false, List, [], ◌∷◌, ◌++◌, length, take, drop, get_or, refl, sym, ap, ◌∙◌, subst, append_assoc, arith, length-append, length-take}
use Rattle.std.specs.Prelude.{All, not, nat_eq, if◌then◌else◌}
use Rattle.std.proofs.Math.ListN.{length-map}
use Rattle.std.proofs.lemmas.List.{map-append, take-append-drop, drop-take, append-nil}
use Rattle.std.proofs.lemmas.Bool.Decides.{nat_tests}
use Rattle.st_chunk.specs.Definitions.{Definition, entry, entries}
use Rattle.st_changes.specs.declared.definition.Definition as declared
use Rattle.st_changes.specs.inside.Views.{definition_of, definitions_of}
use Rattle.st_changes.specs.Last.{HasSelector, IsOf, IsNowhere, IsLast}
use Rattle.st_changes.specs.Condensing.{IsSuperseded, IsNewest, Tells, Stays, kept_by}
use Rattle.st_changes.specs.Condensing as stays
use Rattle.st_changes.proofs.Lasts.{one_selector, entry_parts}
use Rattle.st_changes.proofs.ListTexts.{entries_append, item_more, item_within}

-- PLACES IN A LIST

head_of : {X : Type 0} (x y : X) (xs ys : List X) → x ∷ xs ≡ y ∷ ys → x ≡ y
head_of x y xs ys e = ap (λ zs. get_or zs 0 x) e

tail_of : {X : Type 0} (x y : X) (xs ys : List X) → x ∷ xs ≡ y ∷ ys → xs ≡ ys
tail_of x y xs ys e = ap (λ zs. drop 1 zs) e

-- the second place stands behind the first one, or before it
pub record IsBehind {X : Type 0} (xs us : List X) (a b : X) (ys vs : List X) : Type 0 where
  pub between : List X
  pub front : us ≡ xs ++ a ∷ between
  pub back : ys ≡ between ++ b ∷ vs

pub record IsSame {X : Type 0} (xs us : List X) (a b : X) (ys vs : List X) : Type 0 where
  pub front : xs ≡ us
  pub is : a ≡ b
  pub back : ys ≡ vs

places : {X : Type 0} (xs us : List X) (a b : X) (ys vs : List X) → xs ++ a ∷ ys ≡ us ++ b ∷ vs → IsSame xs us a b ys vs ⊎ (IsBehind xs us a b ys vs ⊎ IsBehind us xs b a vs ys)
places [] [] a b ys vs e = inl (record { front = refl; is = head_of a b ys vs e; back = tail_of a b ys vs e })
places [] (u ∷ us) a b ys vs e = inr (inl (record { between = us; front = ap (λ x. x ∷ us) (sym (head_of a u ys (us ++ b ∷ vs) e)); back = tail_of a u ys (us ++ b ∷ vs) e }))
places (x ∷ xs) [] a b ys vs e = inr (inr (record { between = xs; front = ap (λ z. z ∷ xs) (head_of x b (xs ++ a ∷ ys) vs e); back = sym (tail_of x b (xs ++ a ∷ ys) vs e) }))
places (x ∷ xs) (u ∷ us) a b ys vs e =
    let h = head_of x u (xs ++ a ∷ ys) (us ++ b ∷ vs) e in
    elim (places xs us a b ys vs (tail_of x u (xs ++ a ∷ ys) (us ++ b ∷ vs) e)) [
      | inl s ↦ inl (record { front = (λ t. h t ∷ s.front t); is = s.is; back = s.back })
      | inr (inl s) ↦ inr (inl (record { between = s.between; front = (λ t. sym h t ∷ s.front t); back = s.back }))
      | inr (inr s) ↦ inr (inr (record { between = s.between; front = (λ t. h t ∷ s.front t); back = s.back }))
    ]

pub member : (P : Definition → Type 0) (ds es : List Definition) (d : Definition) → All P (ds ++ d ∷ es) → P d
member P ds es d all = subst P (found ds es d) (all (length ds) d (omega (arith, length-append ds (d ∷ es))))
  where
    found : (ds es : List Definition) (d : Definition) → get_or (ds ++ d ∷ es) (length ds) d ≡ d
    found [] es d = refl
    found (x ∷ ds) es d = found ds es d

-- A TEST BY THE LAST NUMBER

module _ (before behind : List Definition) (d : Definition) (selector : List ℕ) (has : HasSelector d.text selector) where
  abbrev itself : IsOf d.class d.meta selector d
  itself = record { class_is = refl; side = refl; named = has }

  at_itself : (n : ℕ) (l : IsLast (before ++ d ∷ behind) d.class d.meta selector n) → IsSame before l.before d l.last behind l.behind → (n ≡ length before) × IsNewest d behind
  at_itself n l s = (
    l.place ∙ ap length (sym s.front),
    λ other named. subst (λ x. IsNowhere behind d.class d.meta x) (one_selector d.text selector other has named) (subst (λ x. IsNowhere x d.class d.meta selector) (sym s.back) l.none),
  )

  at_later : (n : ℕ) (l : IsLast (before ++ d ∷ behind) d.class d.meta selector n) → IsBehind before l.before d l.last behind l.behind → (n ≢ length before) × IsSuperseded d behind
  at_later n l s = (
    λ e. absurd (omega (arith, e, l.place, ap length s.front, length-append before (d ∷ s.between))),
    record { selector = selector; named = has; between = s.between; later = l.last; after = l.behind; is = s.back; of = l.of },
  )

  not_earlier : (n : ℕ) (l : IsLast (before ++ d ∷ behind) d.class d.meta selector n) → IsBehind l.before before l.last d l.behind behind → ⊥
  not_earlier n l s = member (λ e. IsOf d.class d.meta selector e → ⊥) s.between behind d (subst (λ x. IsNowhere x d.class d.meta selector) s.back l.none) itself

  pub tested : (n : ℕ) → IsLast (before ++ d ∷ behind) d.class d.meta selector n → (is : Bool) → (is ≡ true → n ≢ length before) → (is ≡ false → n ≡ length before) → Tells is d behind
  tested n l is apart same = elim (places before l.before d l.last behind l.behind l.is) [
    | inl s ↦ by_newest is (at_itself n l s) apart
    | inr (inl s) ↦ by_later is (at_later n l s) same
    | inr (inr s) ↦ absurd (not_earlier n l s)
  ]
    where
      by_newest : (is : Bool) → (n ≡ length before) × IsNewest d behind → (is ≡ true → n ≢ length before) → Tells is d behind
      by_newest true h apart = absurd (apart refl h.0)
      by_newest false h apart = h.1

      by_later : (is : Bool) → (n ≢ length before) × IsSuperseded d behind → (is ≡ false → n ≡ length before) → Tells is d behind
      by_later true h same = h.1
      by_later false h same = absurd (h.0 (same refl))

  pub not_nowhere : IsNowhere (before ++ d ∷ behind) d.class d.meta selector → ⊥
  not_nowhere none = member (λ e. IsOf d.class d.meta selector e → ⊥) before behind d none itself

-- ONE MORE

pub stays_one : (rest ds ks js : List Definition) → Stays rest ds ks → Stays rest ds js → ks ≡ js
stays_one rest _ _ _ stays.none stays.none = refl
stays_one rest _ _ _ (stays.drops d ds ks s k) (stays.drops e es js t j) = stays_one rest ds ks js k j
stays_one rest _ _ _ (stays.drops d ds ks s k) (stays.keeps e es js t j) = absurd (never d ds s t)
  where
    never : (d : Definition) (ds : List Definition) → IsSuperseded d (ds ++ rest) → IsNewest d (ds ++ rest) → ⊥
    never d ds s t = member (λ e. IsOf d.class d.meta s.selector e → ⊥) s.between s.after s.later (subst (λ x. IsNowhere x d.class d.meta s.selector) s.is (t s.selector s.named)) s.of
stays_one rest _ _ _ (stays.keeps d ds ks s k) (stays.drops e es js t j) = absurd (never d ds t s)
  where
    never : (d : Definition) (ds : List Definition) → IsSuperseded d (ds ++ rest) → IsNewest d (ds ++ rest) → ⊥
    never d ds s t = member (λ e. IsOf d.class d.meta s.selector e → ⊥) s.between s.after s.later (subst (λ x. IsNowhere x d.class d.meta s.selector) s.is (t s.selector s.named)) s.of
stays_one rest _ _ _ (stays.keeps d ds ks s k) (stays.keeps e es js t j) = ap (λ x. d ∷ x) (stays_one rest ds ks js k j)

behind_one : (d : Definition) (ds rest : List Definition) → (ds ++ d ∷ []) ++ rest ≡ ds ++ d ∷ rest
behind_one d ds rest = append_assoc ds (d ∷ []) rest

pub one_dropped : (d : Definition) (rest ds ks : List Definition) → Stays (d ∷ rest) ds ks → IsSuperseded d rest → Stays rest (ds ++ d ∷ []) ks
one_dropped d rest _ _ stays.none s = stays.drops d [] [] s stays.none
one_dropped d rest _ _ (stays.drops e ds ks t k) s = stays.drops e (ds ++ d ∷ []) ks (subst (IsSuperseded e) (sym (behind_one d ds rest)) t) (one_dropped d rest ds ks k s)
one_dropped d rest _ _ (stays.keeps e ds ks t k) s = stays.keeps e (ds ++ d ∷ []) ks (subst (IsNewest e) (sym (behind_one d ds rest)) t) (one_dropped d rest ds ks k s)

pub one_kept : (d : Definition) (rest ds ks : List Definition) → Stays (d ∷ rest) ds ks → IsNewest d rest → Stays rest (ds ++ d ∷ []) (ks ++ d ∷ [])
one_kept d rest _ _ stays.none s = stays.keeps d [] [] s stays.none
one_kept d rest _ _ (stays.drops e ds ks t k) s = stays.drops e (ds ++ d ∷ []) (ks ++ d ∷ []) (subst (IsSuperseded e) (sym (behind_one d ds rest)) t) (one_kept d rest ds ks k s)
one_kept d rest _ _ (stays.keeps e ds ks t k) s = stays.keeps e (ds ++ d ∷ []) (ks ++ d ∷ []) (subst (IsNewest e) (sym (behind_one d ds rest)) t) (one_kept d rest ds ks k s)

-- marks, one more
pub kept_true : (bs : List Bool) (ds : List Definition) (d : Definition) → length bs ≡ length ds → kept_by (bs ++ true ∷ []) (ds ++ d ∷ []) ≡ kept_by bs ds ++ d ∷ []
kept_true [] [] d e = refl
kept_true [] (x ∷ ds) d e = absurd (omega (arith, e))
kept_true (b ∷ bs) [] d e = absurd (omega (arith, e))
kept_true (true ∷ bs) (x ∷ ds) d e = ap (λ y. x ∷ y) (kept_true bs ds d (omega (arith, e)))
kept_true (false ∷ bs) (x ∷ ds) d e = kept_true bs ds d (omega (arith, e))

pub kept_false : (bs : List Bool) (ds : List Definition) (d : Definition) → length bs ≡ length ds → kept_by (bs ++ false ∷ []) (ds ++ d ∷ []) ≡ kept_by bs ds
kept_false [] [] d e = refl
kept_false [] (x ∷ ds) d e = absurd (omega (arith, e))
kept_false (b ∷ bs) [] d e = absurd (omega (arith, e))
kept_false (true ∷ bs) (x ∷ ds) d e = ap (λ y. x ∷ y) (kept_false bs ds d (omega (arith, e)))
kept_false (false ∷ bs) (x ∷ ds) d e = kept_false bs ds d (omega (arith, e))

pub told_more : (is b : Bool) (bs : List Bool) (d : Definition) (rest ds : List Definition) → length bs ≡ length ds → Stays (d ∷ rest) ds (kept_by bs ds) → Tells is d rest
    → b ≡ not is → Stays rest (ds ++ d ∷ []) (kept_by (bs ++ b ∷ []) (ds ++ d ∷ []))
told_more true b bs d rest ds e s t same =
    subst (Stays rest (ds ++ d ∷ [])) (sym (ap (λ x. kept_by (bs ++ x ∷ []) (ds ++ d ∷ [])) same ∙ kept_false bs ds d e)) (one_dropped d rest ds (kept_by bs ds) s t)
told_more false b bs d rest ds e s t same =
    subst (Stays rest (ds ++ d ∷ [])) (sym (ap (λ x. kept_by (bs ++ x ∷ []) (ds ++ d ∷ [])) same ∙ kept_true bs ds d e)) (one_kept d rest ds (kept_by bs ds) s t)

-- TESTS OF NUMBERS

pub apart_by : (a b c : ℕ) → b ≡ c → not (nat_eq a b) ≡ true → a ≢ c
apart_by a b c e h same = grind (arith, nat_tests, e, h, same)

pub same_by : (a b c : ℕ) → b ≡ c → not (nat_eq a b) ≡ false → a ≡ c
same_by a b c e h = grind (arith, nat_tests, e, h)

-- THE ITEMS OF A LIST

dropped_one : {X : Type 0} (xs : List X) (i : ℕ) (x : X) → i < length xs → x ≡ get_or xs i x → drop i xs ≡ x ∷ drop (suc i) xs
dropped_one [] i x less is = absurd (omega (arith, less))
dropped_one (y ∷ xs) zero x less is = ap (λ z. z ∷ xs) (sym is)
dropped_one (y ∷ xs) (suc i) x less is = dropped_one xs i x (omega (arith, less)) is

module _ (listed : List declared.Definition) (i : ℕ) (x : declared.Definition) (less : i < length listed) (is : x ≡ get_or listed i x) where
  pub behind_is : definitions_of (drop i listed) ≡ definition_of x ∷ definitions_of (drop (i + 1) listed)
  behind_is = ap definitions_of (dropped_one listed i x less is ∙ ap (λ n. x ∷ drop n listed) (more i))
    where
      more : (i : ℕ) → suc i ≡ i + 1
      more i = omega arith

  pub all_is : definitions_of listed ≡ definitions_of (take i listed) ++ definition_of x ∷ definitions_of (drop (i + 1) listed)
  unfolding behind_is
  all_is = ap definitions_of (sym (take-append-drop i listed)) ∙ (map-append definition_of (take i listed) (drop i listed) ∙ ap (λ (ds : List Definition). definitions_of (take i listed) ++ ds) behind_is)

  -- the entries are those before this one, it, and those behind it
  pub item_parts : length (entries (definitions_of listed)) ≡ length (entries (definitions_of (take i listed))) + length (entry (definition_of x)) + length (entries (definitions_of (drop (i + 1) listed)))
  item_parts =
      let front : List Definition = definitions_of (take i listed) in
      let back : List Definition = definitions_of (drop (i + 1) listed) in
      let whole = ap (λ (ds : List Definition). length (entries ds)) all_is ∙ ap length (entries_append front (definition_of x ∷ back)) in
      omega (arith, whole, length-append (entries front) (entries (definition_of x ∷ back)), length-append (entry (definition_of x)) (entries back))

pub taken_on : {X : Type 0} (xs : List X) (i j : ℕ) → i ≤ j → take j xs ≡ take i xs ++ take (j - i) (drop i xs)
taken_on xs i j later =
    let n : i + (j - i) ≡ j = omega (arith, later) in
    let first : take i (take (i + (j - i)) xs) ≡ take i xs = take_less xs i (i + (j - i)) (omega arith) in
    ap (λ m. take m xs) (sym n) ∙ (sym (take-append-drop i (take (i + (j - i)) xs)) ∙ (λ t. first t ++ drop-take i (j - i) xs t))
  where
    take_less : {X : Type 0} (xs : List X) (i m : ℕ) → i ≤ m → take i (take m xs) ≡ take i xs
    take_less xs zero m l = refl
    take_less [] (suc i) zero l = refl
    take_less [] (suc i) (suc m) l = refl
    take_less (x ∷ xs) (suc i) zero l = absurd (omega (arith, l))
    take_less (x ∷ xs) (suc i) (suc m) l = ap (λ ys. x ∷ ys) (take_less xs i m (omega (arith, l)))

-- by the mark
pub kept_none : (bs : List Bool) → kept_by bs [] ≡ []
kept_none [] = refl
kept_none (b ∷ bs) = refl

pub kept_at : (bs : List Bool) (ds : List Definition) (d : Definition) (b : Bool) → get_or bs (length ds) true ≡ b → kept_by bs (ds ++ d ∷ []) ≡ kept_by bs ds ++ (if b then d ∷ [] else [])
kept_at [] ds d true e = refl
kept_at [] ds d false e = absurd cc
kept_at (true ∷ bs) [] d true e = ap (λ ds. d ∷ ds) (kept_none bs)
kept_at (true ∷ bs) [] d false e = absurd cc
kept_at (false ∷ bs) [] d true e = absurd cc
kept_at (false ∷ bs) [] d false e = kept_none bs
kept_at (true ∷ bs) (x ∷ ds) d b e = ap (λ es. x ∷ es) (kept_at bs ds d b e)
kept_at (false ∷ bs) (x ∷ ds) d b e = kept_at bs ds d b e

pub kept_short : (bs : List Bool) (ds : List Definition) → length (entries (kept_by bs ds)) ≤ length (entries ds)
kept_short [] ds = omega arith
kept_short (b ∷ bs) [] = omega arith
kept_short (true ∷ bs) (d ∷ ds) =
    let l = kept_short bs ds in
    let a = length-append (entry d) (entries ds) in
    let b = length-append (entry d) (entries (kept_by bs ds)) in
    omega (arith, l, a, b)
kept_short (false ∷ bs) (d ∷ ds) =
    let l = kept_short bs ds in
    let a = length-append (entry d) (entries ds) in
    omega (arith, l, a)

pub many_bytes : (ds : List Definition) → length ds ≤ length (entries ds)
many_bytes [] = omega arith
many_bytes (d ∷ ds) = let l = many_bytes ds in let p = entry_parts d in let a = length-append (entry d) (entries ds) in omega (arith, l, p, a)

module _ (bs : List Bool) (listed : List declared.Definition) (i : ℕ) (x : declared.Definition) (less : i < length listed) (is : x ≡ get_or listed i x) where
  abbrev front : List Definition
  front = definitions_of (take i listed)

  long_front : length front ≡ i
  long_front = omega (arith, length-map (take i listed) definition_of, length-take i listed, less)

  pub more_kept : get_or bs i true ≡ true → kept_by bs (definitions_of (take (i + 1) listed)) ≡ kept_by bs front ++ definition_of x ∷ []
  more_kept e = ap (kept_by bs) (item_more listed i x less is) ∙ kept_at bs front (definition_of x) true (ap (λ n. get_or bs n true) long_front ∙ e)

  pub none_kept : get_or bs i true ≡ false → kept_by bs (definitions_of (take (i + 1) listed)) ≡ kept_by bs front
  none_kept e = ap (kept_by bs) (item_more listed i x less is) ∙ (kept_at bs front (definition_of x) false (ap (λ n. get_or bs n true) long_front ∙ e) ∙ append-nil (kept_by bs front))

  pub kept_within : length (entries (kept_by bs front)) + length (entry (definition_of x)) ≤ length (entries (definitions_of listed))
  kept_within = let l = kept_short bs front in let m = item_within listed i x less is in omega (arith, l, m)

item_at : {X : Type 0} (xs : List X) (i : ℕ) → i < length xs → (x : X) × (x ≡ get_or xs i x)
item_at [] i less = absurd (omega (arith, less))
item_at (x ∷ xs) zero less = (x, refl)
item_at (x ∷ xs) (suc i) less = item_at xs i (omega (arith, less))

pub none_kept_at : (bs : List Bool) (listed : List declared.Definition) (i : ℕ) → i < length listed → get_or bs i true ≡ false → kept_by bs (definitions_of (take (i + 1) listed)) ≡ kept_by bs (definitions_of (take i listed))
none_kept_at bs listed i less e = let x = item_at listed i less in none_kept bs listed i x.0 less x.1 e
