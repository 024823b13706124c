-- A line that is read byte by byte asks for what the line does.
use Rattle.std.proofs.Common.{◌≡◌, ℕ, ◌+◌, ◌≤◌, Bool, true, false, List, [], ◌∷◌, ◌++◌, length, refl, sym, ap, ◌∙◌, arith, append_assoc, length-append}
use Rattle.std.specs.Prelude.{◌==◌, ◌&&◌, not, None}
use Rattle.std.specs.List.{list_all}
use Rattle.std.proofs.lemmas.Bool.{le-leb, ne_eqb, and_parts}
use Rattle.std.proofs.lemmas.List.{append-nil}
use Rattle.st_chunk.specs.Texts.{mark, most}
use Rattle.st_chunk.specs.Groups.{begins}
use Rattle.st_chunk.specs.Reading.{InLine, Reading, Told, line_from, read}
use Rattle.st_chunk.specs.Scripts.{asked_by, asked_from, IsWholeLine, line_read}

abbrev line_at : ℕ → List ℕ → Reading
line_at n text = record { place = InLine text; line = n; start = n }

pub no_feed : (t : Bool) → not t ≡ true → t ≡ false
no_feed true e = cc
no_feed false e = refl

and_false : (t : Bool) → (t && false) ≡ false
and_false true = refl
and_false false = refl

not_opening : (before : List ℕ) (b : ℕ) (text : List ℕ) → begins (λ c. c == mark) (before ++ b ∷ text) ≡ false → ((b == mark) && (length before == 0)) ≡ false
not_opening [] b text e = rw e refl
not_opening (c ∷ before) b text e =
    let there : (length (c ∷ before) == 0) ≡ false = ne_eqb (length (c ∷ before)) 0 (λ z. omega arith) in
    rw there (and_false (b == mark))

kept : (n : ℕ) (before : List ℕ) (b : ℕ) → (b == 10) ≡ false → ((b == mark) && (length before == 0)) ≡ false → length before ≤ most → read (line_at n before) b ≡ (line_at n (before ++ b ∷ []), None)
unfolding read
kept n before b e f short = rw (e, f, le-leb (length before) most short) refl

further : (n : ℕ) (before text rest : List ℕ) → list_all (λ b. not (b == 10)) text ≡ true → begins (λ c. c == mark) (before ++ text) ≡ false → length before + length text ≤ most + 1
    → asked_from (line_at n before) (text ++ 10 ∷ rest) ≡ asked_from (line_at n (before ++ text)) (10 ∷ rest)
further n before [] rest no_ends first short = ap (λ (x : List ℕ). asked_from (line_at n x) (10 ∷ rest)) (sym (append-nil before))
further n before (b ∷ text) rest no_ends first short =
    let parts = and_parts (not (b == 10)) (list_all (λ c. not (c == 10)) text) no_ends in
    let step = kept n before b (no_feed (b == 10) parts.0) (not_opening before b text first) (omega arith) in
    ap (λ (t : Told). asked_by t ++ asked_from t.0 (text ++ 10 ∷ rest)) step
    ∙ further n (before ++ b ∷ []) text rest parts.1 (ap (begins (λ c. c == mark)) (append_assoc before (b ∷ []) text) ∙ first) (omega (arith, length-append before (b ∷ [])))
    ∙ ap (λ (x : List ℕ). asked_from (line_at n x) (10 ∷ rest)) (append_assoc before (b ∷ []) text)

pub whole_line : (n : ℕ) (text rest : List ℕ) → IsWholeLine text → asked_from (line_from n) (text ++ 10 ∷ rest) ≡ asked_by (line_read n text) ++ asked_from (line_read n text).0 rest
unfolding read
whole_line n text rest is = further n [] text rest is.inside is.first (omega (arith, is.short))
