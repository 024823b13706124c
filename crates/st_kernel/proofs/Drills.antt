-- The classes of a drill, one after the other.
use Rattle.std.proofs.Common.{◌≡◌, ℕ, zero, suc, ◌+◌, List, ◌++◌, sym, ap, ◌∙◌, append-nil, append_assoc, arith}
use Rattle.std.specs.Prelude.{Result, Ok, Err, OnOk, is_ok, if◌then◌else◌}
use Rattle.std.specs.Fmt.{decimal}
use Rattle.std.specs.List.{flat_map, range_with_len}
use Rattle.st_kernel.specs.Drills.{declarations, class_behind, methods, start, behaviour, drill_of}

-- one more stands behind those before it
one_more : (f : ℕ → List ℕ) (n a : ℕ) → flat_map f (range_with_len a (suc n)) ≡ flat_map f (range_with_len a n) ++ f (a + n)
one_more f zero a = let e : a ≡ a + 0 = omega arith in append-nil (f a) ∙ ap f e
one_more f (suc n) a =
    let e : a + 1 + n ≡ a + suc n = omega arith in
    ap (λ t. f a ++ t) (one_more f n (a + 1) ∙ ap (λ i. flat_map f (range_with_len (a + 1) n) ++ f i) e)
    ∙ sym (append_assoc (f a) (flat_map f (range_with_len (a + 1) n)) (f (a + suc n)))

pub declared_behind : (i : ℕ) (text : List ℕ) → text ≡ declarations ++ flat_map class_behind (range_with_len 0 i)
    → text ++ class_behind i ≡ declarations ++ flat_map class_behind (range_with_len 0 (i + 1))
declared_behind i text e =
    let f : suc i ≡ i + 1 = omega arith in
    let g : 0 + i ≡ i = omega arith in
    ap (λ t. t ++ class_behind i) e
    ∙ (append_assoc declarations (flat_map class_behind (range_with_len 0 i)) (class_behind i)
    ∙ (ap (λ t. declarations ++ t) (sym (one_more class_behind i 0 ∙ ap (λ k. flat_map class_behind (range_with_len 0 i) ++ class_behind k) g)) ∙ ap (λ n. declarations ++ flat_map class_behind (range_with_len 0 n)) f))

-- all of them, and then the methods
pub drilled : (i last : ℕ) (text : List ℕ) → i ≡ last → text ≡ declarations ++ flat_map class_behind (range_with_len 0 i) → text ++ behaviour last ≡ drill_of last
drilled i last text same e =
    ap (λ t. t ++ behaviour last) (e ∙ ap (λ n. declarations ++ flat_map class_behind (range_with_len 0 n)) same)
    ∙ append_assoc declarations (flat_map class_behind (range_with_len 0 last)) (behaviour last)

-- the methods, the class that is asked for instances, and the start
pub behaved : {E : Type 0} (i : ℕ) (old a b new digits : List ℕ) (r : Result Unit E) → a ≡ old ++ methods → b ≡ a ++ digits → digits ≡ decimal i → new ≡ (if is_ok r then b ++ start else b)
    → OnOk r (new ≡ old ++ behaviour i)
behaved i old a b new digits (Err e) first second number third = tt
behaved i old a b new digits (Ok u) first second number third =
    third
    ∙ (ap (λ t. t ++ start) (second ∙ ap (λ t. t ++ digits) first ∙ ap (λ d. (old ++ methods) ++ d) number)
    ∙ (append_assoc (old ++ methods) (decimal i) start ∙ append_assoc old methods (decimal i ++ start)))
