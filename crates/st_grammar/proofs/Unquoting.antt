-- A string's bytes, one after the other; and where tokens begin.
use Rattle.std.proofs.Common.{◌≡◌, ℕ, suc, zero, ◌+◌, ◌<◌, ◌≤◌, Bool, true, false, eqb, List, [], ◌∷◌, ◌++◌, length, get_or, drop, add-one, drop-cons, refl, sym, ap, ◌∙◌, append_assoc, arith}
use Rattle.st_scan.specs.declared.token.Token.{Token}
use Rattle.st_scan.specs.Scans.{AreSpans}
use Rattle.st_grammar.specs.Trees.{undoubled}

pub skipped : (bs total items more : List ℕ) (i : ℕ) (second behind : Bool) → i < length bs → second ≡ true → more ≡ items → behind ≡ false → items ++ undoubled second (drop i bs) ≡ total → more ++ undoubled behind (drop (i + 1) bs) ≡ total
skipped bs total items more i second behind lt is same none so_far =
    let first : drop i bs ≡ get_or bs i 0 ∷ drop (i + 1) bs = rw (add-one, drop-cons bs i 0) refl in
    ap (λ (l : List ℕ). l ++ undoubled behind (drop (i + 1) bs)) same
    ∙ ap (λ (b : Bool). items ++ undoubled b (drop (i + 1) bs)) none
    ∙ ap (λ (l : List ℕ). items ++ undoubled true l) (sym first)
    ∙ ap (λ (b : Bool). items ++ undoubled b (drop i bs)) (sym is)
    ∙ so_far

pub kept : (bs total items more : List ℕ) (i : ℕ) (second behind : Bool) → i < length bs → second ≡ false → more ≡ items ++ get_or bs i 0 ∷ [] → behind ≡ eqb (get_or bs i 0) 39 → items ++ undoubled second (drop i bs) ≡ total → more ++ undoubled behind (drop (i + 1) bs) ≡ total
kept bs total items more i second behind lt is pushed quote so_far =
    let first : drop i bs ≡ get_or bs i 0 ∷ drop (i + 1) bs = rw (add-one, drop-cons bs i 0) refl in
    ap (λ (l : List ℕ). l ++ undoubled behind (drop (i + 1) bs)) pushed
    ∙ append_assoc items (get_or bs i 0 ∷ []) (undoubled behind (drop (i + 1) bs))
    ∙ ap (λ (b : Bool). items ++ get_or bs i 0 ∷ undoubled b (drop (i + 1) bs)) quote
    ∙ ap (λ (l : List ℕ). items ++ undoubled false l) (sym first)
    ∙ ap (λ (b : Bool). items ++ undoubled b (drop i bs)) (sym is)
    ∙ so_far

pub span_begins : (ts : List Token) (from to i : ℕ) (d : Token) → AreSpans from ts to → i < length ts → (get_or ts i d).start < to
span_begins [] from to i d s lt = absurd (omega arith)
span_begins (t ∷ ts) from to zero d s lt = omega (arith, s.1, last ts t.end to s.2)
  where
    last : (ts : List Token) (from to : ℕ) → AreSpans from ts to → from ≤ to
    last [] from to s = s
    last (t ∷ ts) from to s = omega (arith, s.0, s.1, last ts t.end to s.2)
span_begins (t ∷ ts) from to (suc i) d s lt = span_begins ts t.end to i d s.2 (omega arith)
