-- Lists of things that are wanted one after another.
use Rattle.std.proofs.Common.{◌≡◌, ℕ, suc, ◌+◌, ◌-◌, ◌<◌, false, List, [], ◌∷◌, ◌++◌, length, nat_eq, Vec, Global, refl, ap, ◌∙◌, arith}
use Rattle.std.proofs.lemmas.Bool.{both_ways}
use Rattle.st_kernel_text.specs.inside.Lists.{texts_of}
use Rattle.st_first_objects.specs.Classes.{is_none}
use Rattle.st_first_objects.specs.Things.{Thing, numbered}
use Rattle.st_first_objects.specs.declared.thing.What.{What}
use Rattle.st_first_objects.specs.Orders.{Order, want, want_all, numbered_from}

pub want_more : (o : Order) (xs ys : List Thing) → want_all (want_all o xs) ys ≡ want_all o (xs ++ ys)
want_more o [] ys = refl
want_more o (x ∷ xs) ys = want_more (want o x) xs ys

pub want_three : (o : Order) (xs ys : List Thing) (z : Thing) → want_all (want_all (want_all o xs) ys) (z ∷ []) ≡ want_all o (xs ++ (ys ++ z ∷ []))
want_three o xs ys z = want_more (want_all o xs) ys (z ∷ []) ∙ want_more o xs (ys ++ z ∷ [])

pub some_names : (ts : List (Vec ℕ Global)) → false ≡ nat_eq (length ts) 0 → is_none (texts_of ts) ≡ false
some_names [] e = absurd (both_ways false refl e)
some_names (t ∷ ts) e = refl

pub numbered_next : (w : What) (from count : ℕ) → from < count → numbered_from w from (count - from) ≡ numbered w from ∷ numbered_from w (from + 1) (count - (from + 1))
unfolding numbered_from
numbered_next w from count lt =
    let m : count - from ≡ suc (count - (from + 1)) = omega arith in
    let s : suc from ≡ from + 1 = omega arith in
    ap (numbered_from w from) m ∙ ap (λ n. numbered w from ∷ numbered_from w n (count - (from + 1))) s

pub numbered_none : (w : What) (from count : ℕ) → count - from ≡ 0 → numbered_from w from (count - from) ≡ []
unfolding numbered_from
numbered_none w from count e = ap (numbered_from w from) e
