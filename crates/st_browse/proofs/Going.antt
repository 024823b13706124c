-- Names one after the other: how many there are, and their lines.
use Rattle.std.proofs.Common.{◌≡◌, ℕ, zero, suc, ◌+◌, ◌<◌, ◌≤◌, List, [], ◌∷◌, ◌++◌, length, Option, Some, None, Bool, true, false, refl, sym, ap, ◌∙◌, arith, append_assoc, append-nil, Ok, Err}
use Rattle.std.specs.Prelude.{if◌then◌else◌, Result, IsErr}
use Rattle.std.specs.List.{filter, filter_map, flat_map, range_with_len, cons_option}
use Rattle.std.specs.declared.cmp.Ordering.{Ordering}
use Rattle.std.specs.declared.cmp.Ordering.TheVariants.{Less, Equal, Greater}
use Rattle.st_host.specs.declared.host.Host.{Ghosts}
use Rattle.st_host.specs.declared.host.SayFault.{SayFault}
use Rattle.st_host.proofs.Telling.{OnlyNow}
use Rattle.st_call.specs.inside.Saying.{Pushes}
use Rattle.st_call.proofs.Pushing.{push_none, push_then, push_begun, push_as}
use Rattle.st_browse.specs.Naming.{Named, compared, in_order, placed, placed_beside}
use Rattle.st_browse.specs.inside.Listing.{behind, first, next_in_order}
use Rattle.st_browse.proofs.Ordered.{next_is, none_left}

-- HOW MANY

placed_short : (x : Named) (ys : List Named) → length (placed x ys) ≤ suc (length ys)
placed_short x [] = omega arith
placed_short x (y ∷ ys) = beside (compared x.name y.name) (placed x ys) (placed_short x ys)
  where
    beside : (o : Ordering) (zs : List Named) → length zs ≤ suc (length ys) → length (placed_beside o x y ys zs) ≤ suc (suc (length ys))
    beside Less zs l = omega arith
    beside Equal zs l = omega arith
    beside Greater zs l = omega (arith, l)

order_short : (xs : List Named) → length (in_order xs) ≤ length xs
order_short [] = omega arith
order_short (x ∷ xs) = let a = placed_short x (in_order xs) in let b = order_short xs in omega (arith, a, b)

filter_short : (p : Named → Bool) (xs : List Named) → length (filter p xs) ≤ length xs
filter_short p [] = omega arith
filter_short p (x ∷ xs) = kept (p x) (filter_short p xs)
  where
    kept : (b : Bool) → length (filter p xs) ≤ length xs → length (if b then x ∷ filter p xs else filter p xs) ≤ suc (length xs)
    kept true l = omega (arith, l)
    kept false l = omega (arith, l)

named_short : (f : ℕ → Option Named) (a n : ℕ) → length (filter_map f (range_with_len a n)) ≤ n
named_short f a zero = omega arith
named_short f a (suc n) = there (f a) (filter_map f (range_with_len (a + 1) n)) (named_short f (a + 1) n)
  where
    there : (e : Option Named) (xs : List Named) → length xs ≤ n → length (cons_option e xs) ≤ suc n
    there None xs l = omega (arith, l)
    there (Some x) xs l = omega (arith, l)

pub order_few : (f : ℕ → Option Named) (n : ℕ) → length (in_order (filter_map f (range_with_len 0 n))) ≤ n
order_few f n =
    let a = order_short (filter_map f (range_with_len 0 n)) in let b = named_short f 0 n in omega (arith, a, b)

pub listed_few : (p : Named → Bool) (f : ℕ → Option Named) (n : ℕ) → length (filter p (in_order (filter_map f (range_with_len 0 n)))) ≤ n
listed_few p f n =
    let a = filter_short p (in_order (filter_map f (range_with_len 0 n))) in let b = order_few f n in omega (arith, a, b)

-- ONE AFTER THE OTHER

split_filter : (p : Named → Bool) (x : Named) (xs : List Named) → filter p (x ∷ xs) ≡ filter p (x ∷ []) ++ filter p xs
split_filter p x xs = kept (p x)
  where
    kept : (b : Bool) → (if b then x ∷ filter p xs else filter p xs) ≡ (if b then x ∷ [] else []) ++ filter p xs
    kept true = refl
    kept false = refl

split_length : (p : Named → Bool) (x : Named) (xs : List Named) → length (filter p (x ∷ xs)) ≡ length (filter p (x ∷ [])) + length (filter p xs)
split_length p x xs = kept (p x)
  where
    kept : (b : Bool) → length (if b then x ∷ filter p xs else filter p xs) ≡ length (if b then x ∷ [] else []) + length (filter p xs)
    kept true = omega arith
    kept false = omega arith

module _ (p : Named → Bool) (xs : List Named) where
  -- so many were counted of those that are chosen, and no more than there are
  pub record IsCounted (after : Option (List ℕ)) (count : ℕ) : Type 0 where
    pub is : count + length (filter p (next_in_order after xs)) ≡ length (filter p (in_order xs))

  pub counted_none : IsCounted None 0
  counted_none = record { is = omega arith }

  pub counted_more : (after : Option (List ℕ)) (count k : ℕ) (y : Named) → first (next_in_order after xs) ≡ Some y → k ≡ length (filter p (y ∷ []))
      → IsCounted after count → IsCounted (Some y.name) (count + k)
  counted_more after count k y e f c =
      let a = c.is in
      let b : length (filter p (next_in_order after xs)) ≡ length (filter p (y ∷ next_in_order (Some y.name) xs)) = ap (λ zs. length (filter p zs)) (next_is after xs y e) in
      let d = split_length p y (next_in_order (Some y.name) xs) in
      record { is = omega (arith, a, b, d, f) }

  pub counted_within : (after : Option (List ℕ)) (count k : ℕ) (y : Named) → first (next_in_order after xs) ≡ Some y → k ≡ length (filter p (y ∷ []))
      → IsCounted after count → count + k ≤ length (filter p (in_order xs))
  counted_within after count k y e f c = let a = (counted_more after count k y e f c).is in omega (arith, a)

  pub none_next : (after : Option (List ℕ)) → None ≡ first (next_in_order after xs) → next_in_order after xs ≡ []
  none_next None e = none_left xs (sym e)
  none_next (Some a) e = none_left (filter (behind a) xs) (sym e)

  pub counted_all : (after : Option (List ℕ)) (count : ℕ) → None ≡ first (next_in_order after xs) → IsCounted after count → count ≡ length (filter p (in_order xs))
  counted_all after count e c =
      let a = c.is in
      let b : length (filter p (next_in_order after xs)) ≡ 0 = ap (λ zs. length (filter p zs)) (none_next after e) in
      omega (arith, a, b)

  pub fewer : (after : Option (List ℕ)) (y : Named) → first (next_in_order after xs) ≡ Some y → length (next_in_order (Some y.name) xs) < length (next_in_order after xs)
  fewer after y e = let a = ap length (next_is after xs y e) in omega (arith, a)

  -- LINES

  module _ {D : Type 0} (host : Ghosts D) (line : Named → List ℕ) where
    -- the lines of the names so far were added
    pub record IsSaid (after : Option (List ℕ)) (old new : D) (before behind : List ℕ) : Type 0 where
      pub done : List ℕ
      pub is : done ++ flat_map line (filter p (next_in_order after xs)) ≡ flat_map line (filter p (in_order xs))
      pub pushes : Pushes {E = SayFault} host done old new before behind (Ok tt)

    pub said_none : (old : D) (before : List ℕ) → OnlyNow host old → IsSaid None old old before before
    said_none old before now = record { done = []; is = refl; pushes = push_none host old now }

    map_append : (ys zs : List Named) → flat_map line (ys ++ zs) ≡ flat_map line ys ++ flat_map line zs
    map_append [] zs = refl
    map_append (y ∷ ys) zs = ap (λ t. line y ++ t) (map_append ys zs) ∙ sym (append_assoc (line y) (flat_map line ys) (flat_map line zs))

    lines_next : (after : Option (List ℕ)) (y : Named) → first (next_in_order after xs) ≡ Some y
        → flat_map line (filter p (next_in_order after xs)) ≡ flat_map line (filter p (y ∷ [])) ++ flat_map line (filter p (next_in_order (Some y.name) xs))
    lines_next after y e =
        ap (λ zs. flat_map line (filter p zs)) (next_is after xs y e)
        ∙ (ap (flat_map line) (split_filter p y (next_in_order (Some y.name) xs)) ∙ map_append (filter p (y ∷ [])) (filter p (next_in_order (Some y.name) xs)))

    pub said_more : {after : Option (List ℕ)} {old mid new : D} {before between behind : List ℕ} (y : Named) → first (next_in_order after xs) ≡ Some y
        → IsSaid after old mid before between → Pushes {E = SayFault} host (flat_map line (filter p (y ∷ []))) mid new between behind (Ok tt) → IsSaid (Some y.name) old new before behind
    said_more {after = after} y e s run = record {
      done = s.done ++ flat_map line (filter p (y ∷ []));
      is = append_assoc s.done (flat_map line (filter p (y ∷ []))) (flat_map line (filter p (next_in_order (Some y.name) xs)))
          ∙ (ap (λ t. s.done ++ t) (sym (lines_next after y e)) ∙ s.is);
      pushes = push_then s.pushes run;
    }

    pub said_stopped : {after : Option (List ℕ)} {old mid new : D} {before between behind : List ℕ} {fault : SayFault} {result : Result Unit SayFault} (y : Named)
        → first (next_in_order after xs) ≡ Some y → IsErr result → IsSaid after old mid before between
        → Pushes {E = SayFault} host (flat_map line (filter p (y ∷ []))) mid new between behind (Err fault)
        → Pushes host (flat_map line (filter p (in_order xs))) old new before behind result
    said_stopped {after = after} y e err s run =
        push_as (push_then s.pushes (push_begun (flat_map line (filter p (next_in_order (Some y.name) xs))) err run))
        (ap (λ t. s.done ++ t) (sym (lines_next after y e)) ∙ s.is)

    pub said_all : {after : Option (List ℕ)} {old new : D} {before behind : List ℕ} → None ≡ first (next_in_order after xs) → IsSaid after old new before behind
        → Pushes {E = SayFault} host (flat_map line (filter p (in_order xs))) old new before behind (Ok tt)
    said_all {after = after} e s =
        push_as s.pushes (sym (append-nil s.done) ∙ (ap (λ zs. s.done ++ flat_map line (filter p zs)) (sym (none_next after e)) ∙ s.is))

pub none_chosen : (p : Named → Bool) (line : Named → List ℕ) (x : Named) (b : Bool) → b ≡ p x → b ≡ false → [] ≡ flat_map line (filter p (x ∷ []))
none_chosen p line x b e f = rw (sym e ∙ f) refl

pub one_chosen : (p : Named → Bool) (line : Named → List ℕ) (x : Named) (b : Bool) → b ≡ p x → b ≡ true → line x ≡ flat_map line (filter p (x ∷ []))
one_chosen p line x b e f = rw (sym e ∙ f) (sym (append-nil (line x)))

pub all_chosen : (xs : List Named) → filter (λ n. true) xs ≡ xs
all_chosen [] = refl
all_chosen (x ∷ xs) = ap (λ ys. x ∷ ys) (all_chosen xs)
