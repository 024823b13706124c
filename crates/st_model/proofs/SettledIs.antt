-- The computed set supports itself, and each set of kept objects that supports itself lies within it.
use Rattle.std.proofs.Common.{◌≡◌, ◌≢◌, ℕ, ◌+◌, ◌<◌, ◌≤◌, List, [], ◌∷◌, ◌++◌, length, length-append, zero, suc, Option, Some, None, Bool, true, false, refl, sym, ap, ◌∙◌, subst, arith, inl, inr, ◌⊎◌}
use mathlib.Core.Path.{fun_ext}
use Rattle.std.specs.Prelude.{◌&&◌, ◌==◌, IsTrue, not}
use Rattle.std.proofs.lemmas.Bool.Decides.{nat_tests}
use Rattle.st_model.specs.Values.{Value, Small, Ref}
use Rattle.st_model.specs.Objects.{Object, PageObject, page, NilObject, FalseObject, TrueObject, SchedulerAssociation, SmallIntegerClass, StringClass, ArrayClass, MethodContextClass, BlockContextClass, PointClass, LargeClass, MessageClass, MethodClass, CharacterClass, NotUnderstood, CannotReturn, Selectors, Characters, MustBeBoolean, SymbolClass}
use Rattle.st_model.specs.Machine.{ObjectMemory}
use Rattle.st_model.specs.Settled.{IsRefTo, AnyRefTo, Refers, IsRoot, held_root, page_root, IsReferredFrom, SupportsItself, IsSettled, or, names, any_names, object_names, any_below, any_of_page, is_root, is_supported, marks_below, is_marked, next_round, round, settled_set}

pub or_cases : (a b : Bool) → IsTrue (or a b) → IsTrue a ⊎ IsTrue b
or_cases true b h = inl refl
or_cases false b h = inr h

pub or_left : (a b : Bool) → IsTrue a → IsTrue (or a b)
or_left true b h = refl
or_left false b h = cc

pub or_right : (a b : Bool) → IsTrue b → IsTrue (or a b)
or_right true b h = refl
or_right false b h = h

pub both : (a b : Bool) → IsTrue (a && b) → IsTrue a × IsTrue b
both true b h = (refl, h)
both false b h = cc

pub and_true : (a b : Bool) → IsTrue a → IsTrue b → IsTrue (a && b)
and_true true b h k = k
and_true false b h k = cc

equal_if : (a b : ℕ) → IsTrue (a == b) → a ≡ b
equal_if a b h = grind (arith, nat_tests)

if_equal : (a b : ℕ) → a ≡ b → IsTrue (a == b)
if_equal a b h = grind (arith, nat_tests)

pub below_true : (n : ℕ) (f : ℕ → Bool) → IsTrue (any_below n f) → (k : ℕ) × IsTrue (f k)
below_true zero f h = cc
below_true (suc n) f h = elim (or_cases (f n) (any_below n f) h) [ inl k ↦ (n, k) | inr k ↦ below_true n f k ]

pub last_case : (k n : ℕ) → k < suc n → (k ≡ n) ⊎ (k < n)
last_case k n l = grind arith

pub true_below : (n k : ℕ) (f : ℕ → Bool) → k < n → IsTrue (f k) → IsTrue (any_below n f)
true_below zero k f l h = absurd (omega arith)
true_below (suc n) k f l h = elim (last_case k n l) [
  | inl e ↦ or_left (f n) (any_below n f) (subst (λ x. IsTrue (f x)) e h)
  | inr m ↦ or_right (f n) (any_below n f) (true_below n k f m h)
]

test_cases : (b : Bool) → IsTrue b ⊎ (b ≡ false)
test_cases true = inl refl
test_cases false = inr refl

pub bool_cases : (b : Bool) → (b ≡ true) ⊎ (b ≡ false)
bool_cases true = inl refl
bool_cases false = inr refl

not_true : (b : Bool) → IsTrue (not b) → b ≡ false
not_true true h = cc
not_true false h = refl

same_bool : (a b : Bool) → (IsTrue a → IsTrue b) → (IsTrue b → IsTrue a) → a ≡ b
same_bool true b f g = sym (f refl)
same_bool false true f g = g refl
same_bool false false f g = refl

first_below : (n : ℕ) (f : ℕ → Bool) → any_below n f ≡ true → (k : ℕ) × (k < n) × IsTrue (f k)
first_below zero f h = cc
first_below (suc n) f h = elim (or_cases (f n) (any_below n f) h) [
  | inl k ↦ (n, omega arith, k)
  | inr k ↦ let r = first_below n f k in (r.0, omega (arith, r.1), r.2)
]

number : Bool → ℕ
number true = 1
number false = 0

count : ℕ → (ℕ → Bool) → ℕ
count zero set = 0
count (suc n) set = number (set n) + count n set

number-most : (b : Bool) → number b ≤ 1
unfolding number
number-most true = omega arith
number-most false = omega arith

number-le : (a b : Bool) → (IsTrue a → IsTrue b) → number a ≤ number b
unfolding number
number-le true true f = omega arith
number-le true false f = let e = f refl in cc
number-le false b f = omega arith

count-most : (n : ℕ) (set : ℕ → Bool) → count n set ≤ n
unfolding count
count-most zero set = omega arith
count-most (suc n) set = let a = count-most n set in let b = number-most (set n) in omega (arith, a, b)

count-le : (n : ℕ) (a b : ℕ → Bool) → ((k : ℕ) → IsTrue (b k) → IsTrue (a k)) → count n b ≤ count n a
unfolding count
count-le zero a b f = omega arith
count-le (suc n) a b f = let p = count-le n a b f in let q = number-le (b n) (a n) (f n) in omega (arith, p, q)

count-fewer : (n : ℕ) (a b : ℕ → Bool) → ((k : ℕ) → IsTrue (b k) → IsTrue (a k)) → (k : ℕ) → k < n → IsTrue (a k) → b k ≡ false → count n b < count n a
unfolding count number
count-fewer zero a b f k l h e = absurd (omega arith)
count-fewer (suc n) a b f k l h e = elim (last_case k n l) [
  | inl q ↦
      let p = count-le n a b f in
      let x : a n ≡ true = subst (λ y. a y ≡ true) q h in
      let y : b n ≡ false = subst (λ y. b y ≡ false) q e in
      rw (x, y) (omega (arith, p))
  | inr q ↦ let p = count-fewer n a b f k q h e in let r = number-le (b n) (a n) (f n) in omega (arith, p, r)
]

named_is : (v : Value) (n : ℕ) → IsTrue (names v n) → IsRefTo n v
named_is (Small x) n h = cc
named_is (Ref x) n h = equal_if n x h

is_named : (v : Value) (n : ℕ) → IsRefTo n v → IsTrue (names v n)
is_named (Small x) n h = absurd h
is_named (Ref x) n h = if_equal n x h

any_is : (vs : List Value) (n : ℕ) → IsTrue (any_names vs n) → AnyRefTo n vs
any_is [] n h = cc
any_is (v ∷ vs) n h = elim (or_cases (names v n) (any_names vs n) h) [ inl k ↦ inl (named_is v n k) | inr k ↦ inr (any_is vs n k) ]

is_any : (vs : List Value) (n : ℕ) → AnyRefTo n vs → IsTrue (any_names vs n)
is_any [] n h = absurd h
is_any (v ∷ vs) n (inl h) = or_left (names v n) (any_names vs n) (is_named v n h)
is_any (v ∷ vs) n (inr h) = or_right (names v n) (any_names vs n) (is_any vs n h)

pub object_is : (o : Option Object) (n : ℕ) → IsTrue (object_names o n) → (a : Object) × (o ≡ Some a) × Refers a n
object_is None n h = cc
object_is (Some a) n h = elim (or_cases (n == a.class) (any_names a.fields n) h) [
  | inl k ↦ (a, refl, inl (equal_if n a.class k))
  | inr k ↦ (a, refl, inr (any_is a.fields n k))
]

pub is_object : (o : Option Object) (a : Object) (n : ℕ) → o ≡ Some a → Refers a n → IsTrue (object_names o n)
is_object o a n e (inl h) = rw e (or_left (n == a.class) (any_names a.fields n) (if_equal n a.class h))
is_object o a n e (inr h) = rw e (or_right (n == a.class) (any_names a.fields n) (is_any a.fields n h))

abbrev Among : List PageObject → PageObject → Type 0
Among [] q = ⊥
Among (p ∷ qs) q = (p ≡ q) ⊎ Among qs q

among_page : (q : PageObject) → Among page q
among_page NilObject = inl refl
among_page FalseObject = inr (inl refl)
among_page TrueObject = inr (inr (inl refl))
among_page SchedulerAssociation = inr (inr (inr (inl refl)))
among_page SmallIntegerClass = inr (inr (inr (inr (inl refl))))
among_page StringClass = inr (inr (inr (inr (inr (inl refl)))))
among_page ArrayClass = inr (inr (inr (inr (inr (inr (inl refl))))))
among_page MethodContextClass = inr (inr (inr (inr (inr (inr (inr (inl refl)))))))
among_page BlockContextClass = inr (inr (inr (inr (inr (inr (inr (inr (inl refl))))))))
among_page PointClass = inr (inr (inr (inr (inr (inr (inr (inr (inr (inl refl)))))))))
among_page LargeClass = inr (inr (inr (inr (inr (inr (inr (inr (inr (inr (inl refl))))))))))
among_page MessageClass = inr (inr (inr (inr (inr (inr (inr (inr (inr (inr (inr (inl refl)))))))))))
among_page MethodClass = inr (inr (inr (inr (inr (inr (inr (inr (inr (inr (inr (inr (inl refl))))))))))))
among_page CharacterClass = inr (inr (inr (inr (inr (inr (inr (inr (inr (inr (inr (inr (inr (inl refl)))))))))))))
among_page NotUnderstood = inr (inr (inr (inr (inr (inr (inr (inr (inr (inr (inr (inr (inr (inr (inl refl))))))))))))))
among_page CannotReturn = inr (inr (inr (inr (inr (inr (inr (inr (inr (inr (inr (inr (inr (inr (inr (inl refl)))))))))))))))
among_page Selectors = inr (inr (inr (inr (inr (inr (inr (inr (inr (inr (inr (inr (inr (inr (inr (inr (inl refl))))))))))))))))
among_page Characters = inr (inr (inr (inr (inr (inr (inr (inr (inr (inr (inr (inr (inr (inr (inr (inr (inr (inl refl)))))))))))))))))
among_page MustBeBoolean = inr (inr (inr (inr (inr (inr (inr (inr (inr (inr (inr (inr (inr (inr (inr (inr (inr (inr (inl refl))))))))))))))))))
among_page SymbolClass = inr (inr (inr (inr (inr (inr (inr (inr (inr (inr (inr (inr (inr (inr (inr (inr (inr (inr (inr (inl refl)))))))))))))))))))

page_is : (qs : List PageObject) (test : PageObject → Bool) → IsTrue (any_of_page qs test) → (q : PageObject) × IsTrue (test q)
page_is [] test h = cc
page_is (q ∷ qs) test h = elim (or_cases (test q) (any_of_page qs test) h) [ inl k ↦ (q, k) | inr k ↦ page_is qs test k ]

is_page : (qs : List PageObject) (test : PageObject → Bool) (q : PageObject) → Among qs q → IsTrue (test q) → IsTrue (any_of_page qs test)
is_page [] test q a h = absurd a
is_page (p ∷ qs) test q (inl e) h = or_left (test p) (any_of_page qs test) (subst (λ x. IsTrue (test x)) (sym e) h)
is_page (p ∷ qs) test q (inr a) h = or_right (test p) (any_of_page qs test) (is_page qs test q a h)

pub not_so : (b : Bool) → (IsTrue b → ⊥) → b ≡ false
not_so true f = absurd (f refl)
not_so false f = refl

length-marks : (n : ℕ) (test : ℕ → Bool) → length (marks_below n test) ≡ n
length-marks zero test = refl
length-marks (suc n) test = simp (length-append, length-marks n test) (omega arith)

marked_last : (xs : List Bool) (b : Bool) → is_marked (xs ++ b ∷ []) (length xs) ≡ b
marked_last [] b = refl
marked_last (x ∷ xs) b = marked_last xs b

marked_other : (xs : List Bool) (b : Bool) (n : ℕ) → n ≢ length xs → is_marked (xs ++ b ∷ []) n ≡ is_marked xs n
marked_other [] b zero d = absurd (d refl)
marked_other [] b (suc n) d = refl
marked_other (x ∷ xs) b zero d = refl
marked_other (x ∷ xs) b (suc n) d = marked_other xs b n (λ e. d (ap (λ k. suc k) e))

number_cases : (m n : ℕ) → (m ≡ n) ⊎ (m ≢ n)
number_cases m n = grind arith

-- the marks say what the test says, where it fails of all later names
marked_below : (size : ℕ) (test : ℕ → Bool) (n : ℕ) → (size ≤ n → test n ≡ false) → is_marked (marks_below size test) n ≡ test n
marked_below zero test n past = sym (past (omega arith))
marked_below (suc size) test n past = elim (number_cases n size) [
  | inl e ↦ subst (λ k. is_marked (marks_below size test ++ test size ∷ []) k ≡ test k) (sym e) (subst (λ k. is_marked (marks_below size test ++ test size ∷ []) k ≡ test size) (length-marks size test) (marked_last (marks_below size test) (test size)))
  | inr d ↦ marked_other (marks_below size test) (test size) n (λ e. d (e ∙ length-marks size test)) ∙ marked_below size test n (λ l. past (omega arith))
]

module _ {H : Type 0} (m : ObjectMemory H) (h : H) (roots : List Value) where
  -- the rounds as tests on names
  abbrev pub rounds : ℕ → ℕ → Bool
  rounds zero n = m.kept h n
  rounds (suc k) n = rounds k n && is_supported m h roots (rounds k) n

  pub root_is : (n : ℕ) → IsTrue (is_root m h roots n) → IsRoot m h roots n
  unfolding is_root
  root_is n t = elim (or_cases (any_names roots n) _ t) [
    | inl k ↦ held_root (any_is roots n k)
    | inr k ↦ let q = page_is page (λ q. n == m.named h q) k in page_root q.0 (equal_if n (m.named h q.0) q.1)
  ]

  pub is_root-of : (n : ℕ) → IsRoot m h roots n → IsTrue (is_root m h roots n)
  unfolding is_root
  is_root-of n (held_root k) = or_left (any_names roots n) _ (is_any roots n k)
  is_root-of n (page_root q e) = or_right (any_names roots n) _ (is_page page (λ q. n == m.named h q) q (among_page q) (if_equal n (m.named h q) e))

  supported_is : (set : ℕ → Bool) (n : ℕ) → IsTrue (is_supported m h roots set n) → IsRoot m h roots n ⊎ IsReferredFrom m h set n
  unfolding is_supported
  supported_is set n hh = elim (or_cases _ _ hh) [
    | inl k ↦ inl (root_is n k)
    | inr k ↦
        let b = below_true (m.size h) (λ k. set k && object_names (m.read h k) n) k in
        let p = both (set b.0) (object_names (m.read h b.0) n) b.1 in
        let o = object_is (m.read h b.0) n p.1 in
        inr (record { from = b.0; object = o.0; member = p.0; is = o.1; refers = o.2 })
  ]

  module _ (finite : (n : ℕ) → IsTrue (m.kept h n) → n < m.size h) where
    is_supported-of : (set other : ℕ → Bool) → ((n : ℕ) → IsTrue (other n) → IsTrue (m.kept h n)) → ((n : ℕ) → IsTrue (other n) → IsTrue (set n))
        → (n : ℕ) → IsRoot m h roots n ⊎ IsReferredFrom m h other n → IsTrue (is_supported m h roots set n)
    unfolding is_supported
    is_supported-of set other k w n (inl hh) = or_left (is_root m h roots n) _ (is_root-of n hh)
    is_supported-of set other k w n (inr hh) = or_right (is_root m h roots n) _
        (true_below (m.size h) hh.from (λ k. set k && object_names (m.read h k) n) (finite hh.from (k hh.from hh.member))
        (and_true (set hh.from) (object_names (m.read h hh.from) n) (w hh.from hh.member) (is_object (m.read h hh.from) hh.object n hh.is hh.refers)))

    rounds-kept : (k n : ℕ) → IsTrue (rounds k n) → IsTrue (m.kept h n)
    rounds-kept zero n hh = hh
    rounds-kept (suc k) n hh = rounds-kept k n (both (rounds k n) (is_supported m h roots (rounds k) n) hh).0

    others_stay : (other : ℕ → Bool) → SupportsItself m h roots other → (k n : ℕ) → IsTrue (other n) → IsTrue (rounds k n)
    others_stay other sup zero n hh = sup.kept n hh
    others_stay other sup (suc k) n hh =
        and_true (rounds k n) (is_supported m h roots (rounds k) n) (others_stay other sup k n hh)
        (is_supported-of (rounds k) other sup.kept (others_stay other sup k) n (sup.supported n hh))

    -- in each round that changes something a member leaves
    unchanged : ℕ → Type 0
    unchanged k = (n : ℕ) → IsTrue (rounds k n) → IsTrue (rounds (suc k) n)

    unchanged_next : (k : ℕ) → unchanged k → unchanged (suc k)
    unfolding unchanged
    unchanged_next k u n hh =
        let p = both (rounds k n) (is_supported m h roots (rounds k) n) hh in
        and_true (rounds (suc k) n) (is_supported m h roots (rounds (suc k)) n) hh
        (is_supported-of (rounds (suc k)) (rounds k) (rounds-kept k) u n (supported_is (rounds k) n p.1))

    leaves : (k n : ℕ) → Bool
    leaves k n = rounds k n && not (rounds (suc k) n)

    none_leaves : (k : ℕ) → any_below (m.size h) (leaves k) ≡ false → unchanged k
    unfolding unchanged leaves
    none_leaves k e n hh = elim (test_cases (rounds (suc k) n)) [
      | inl t ↦ t
      | inr f ↦
          let a = true_below (m.size h) n (leaves k) (finite n (rounds-kept k n hh)) (and_true (rounds k n) (not (rounds (suc k) n)) hh (rw f refl)) in
          cc
    ]

    one_leaves : (k : ℕ) → any_below (m.size h) (leaves k) ≡ true → count (m.size h) (rounds (suc k)) < count (m.size h) (rounds k)
    unfolding leaves
    one_leaves k e =
        let b = first_below (m.size h) (leaves k) e in
        let p = both (rounds k b.0) (not (rounds (suc k) b.0)) b.2 in
        count-fewer (m.size h) (rounds k) (rounds (suc k)) (λ n hh. (both (rounds k n) (is_supported m h roots (rounds k) n) hh).0) b.0 b.1 p.0 (not_true (rounds (suc k) b.0) p.1)

    progress : (k : ℕ) → unchanged k ⊎ (count (m.size h) (rounds k) + k ≤ m.size h)
    progress zero = inr (let a = count-most (m.size h) (rounds 0) in omega (arith, a))
    progress (suc k) = elim (progress k) [
      | inl u ↦ inl (unchanged_next k u)
      | inr l ↦ elim (bool_cases (any_below (m.size h) (leaves k))) [
        | inl t ↦ let a = one_leaves k t in inr (omega (arith, a, l))
        | inr f ↦ inl (unchanged_next k (none_leaves k f))
      ]
    ]

    past_none : (test : ℕ → Bool) → ((n : ℕ) → IsTrue (test n) → IsTrue (m.kept h n)) → (n : ℕ) → m.size h ≤ n → test n ≡ false
    past_none test kept n past = not_so (test n) (λ t. let l = finite n (kept n t) in absurd (omega arith))

    marked_is : (k : ℕ) → is_marked (round m h roots k) ≡ rounds k
    unfolding next_round
    marked_is zero = fun_ext (λ n. marked_below (m.size h) (m.kept h) n (past_none (m.kept h) (λ j t. t) n))
    marked_is (suc k) =
        let before : (n : ℕ) → IsTrue (is_marked (round m h roots k) n) → IsTrue (m.kept h n) = λ n t. rounds-kept k n (subst (λ f. IsTrue (f n)) (marked_is k) t) in
        let test : ℕ → Bool = λ j. is_marked (round m h roots k) j && is_supported m h roots (is_marked (round m h roots k)) j in
        let kept : (n : ℕ) → IsTrue (test n) → IsTrue (m.kept h n) = λ n t. before n (both (is_marked (round m h roots k) n) _ t).0 in
        fun_ext (λ n. marked_below (m.size h) test n (past_none test kept n) ∙ (λ i. marked_is k i n && is_supported m h roots (marked_is k i) n))

    rounds_settled : IsSettled m h roots (rounds (suc (m.size h)))
    unfolding unchanged
    rounds_settled = record {
      supports = record {
        kept = rounds-kept (suc (m.size h));
        supported = λ n hh. elim (progress (suc (m.size h))) [
          | inl u ↦ supported_is (rounds (suc (m.size h))) n
              (both (rounds (suc (m.size h)) n) (is_supported m h roots (rounds (suc (m.size h))) n) (u n hh)).1
          | inr l ↦ absurd (omega arith)
        ];
      };
      largest = λ other sup n hh. others_stay other sup (suc (m.size h)) n hh;
    }

    pub settled_is : IsSettled m h roots (settled_set m h roots)
    unfolding settled_set
    settled_is = subst (λ (set : ℕ → Bool). IsSettled m h roots set) (sym (marked_is (suc (m.size h)))) rounds_settled

-- two settled sets are the same
pub settled_once : {H : Type 0} (m : ObjectMemory H) (h : H) (roots : List Value) (a b : ℕ → Bool) → IsSettled m h roots a → IsSettled m h roots b → (n : ℕ) → a n ≡ b n
settled_once m h roots a b p k n = same_bool (a n) (b n) (λ t. k.largest a p.supports n t) (λ t. p.largest b k.supports n t)
