-- Words that are written one behind the other.
use Rattle.std.proofs.Common.{◌≡◌, ℕ, zero, suc, ◌+◌, ◌/◌, ◌≤◌, List, [], ◌∷◌, ◌++◌, length, take, drop, get_or, set, refl, sym, ap, ◌∙◌, arith, length-set}
use Rattle.st_cells.specs.inside.Words.{with_run, with_byte, with_bytes}

pub length-with_run : (us : List ℕ) (at : ℕ) (ws : List ℕ) → length (with_run us at ws) ≡ length us
length-with_run us at [] = refl
length-with_run us at (w ∷ ws) = length-with_run (set us at w) (suc at) ws ∙ length-set us at w

pub run_behind : (u : ℕ) (us : List ℕ) (at : ℕ) (ws : List ℕ) → with_run (u ∷ us) (suc at) ws ≡ u ∷ with_run us at ws
run_behind u us at [] = refl
run_behind u us at (w ∷ ws) = run_behind u (set us at w) (suc at) ws

run_first : (us ws : List ℕ) → length ws ≤ length us → with_run us 0 ws ≡ ws ++ drop (length ws) us
run_first us [] l = refl
run_first [] (w ∷ ws) l = absurd (omega (arith, l))
run_first (u ∷ us) (w ∷ ws) l = run_behind w us 0 ws ∙ ap (λ q. w ∷ q) (run_first us ws (omega (arith, l)))

pub run_is : (us : List ℕ) (at : ℕ) (ws : List ℕ) → at + length ws ≤ length us → take at us ++ (ws ++ drop (at + length ws) us) ≡ with_run us at ws
run_is us zero ws l =
    let e : 0 + length ws ≡ length ws = omega arith in
    ap (λ n. ws ++ drop n us) e ∙ sym (run_first us ws (omega (arith, l)))
run_is [] (suc at) ws l = absurd (omega (arith, l))
run_is (u ∷ us) (suc at) ws l =
    let e : suc at + length ws ≡ suc (at + length ws) = omega arith in
    ap (λ n. u ∷ (take at us ++ (ws ++ drop n (u ∷ us)))) e ∙ ap (λ q. u ∷ q) (run_is us at ws (omega (arith, l))) ∙ sym (run_behind u us at ws)

pub length-with_bytes : (us : List ℕ) (at i : ℕ) (bs : List ℕ) → length (with_bytes us at i bs) ≡ length us
length-with_bytes us at i [] = refl
length-with_bytes us at i (b ∷ bs) =
    length-with_bytes (set us (at + i / 2) (with_byte (get_or us (at + i / 2) 0) i b)) at (suc i) bs ∙ length-set us (at + i / 2) (with_byte (get_or us (at + i / 2) 0) i b)
