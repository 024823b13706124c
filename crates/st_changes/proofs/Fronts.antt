-- What a text begins with.
use Rattle.std.proofs.Common.{◌≡◌, ◌-◌, arith, length-drop, true, List, ℕ, ◌++◌, length, take, drop, sym, ap, ◌∙◌, subst}
use Rattle.std.specs.List.{starts_with}
use Rattle.std.specs.Prelude.{nat_eq, Option, None}
use Rattle.st_changes.specs.inside.Runs.{FindsRun, IsRun}
use Rattle.st_changes.specs.declared.run.Run.{Run}
use Rattle.std.specs.Cmp.Lexicographic.{bytes_decides}
use Rattle.std.proofs.lemmas.List.{take-append-drop, take_all}

pub begins_is : (text front : List ℕ) → true ≡ starts_with nat_eq text front → text ≡ front ++ drop (length front) text
begins_is text front e =
    sym (take-append-drop (length front) text) ∙ ap (λ (x : List ℕ). x ++ drop (length front) text) (sym ((bytes_decides front (take (length front) text)).0 (sym e)))

-- what a slice up to the end has
pub tail_is : (text : List ℕ) (k : ℕ) → take (length text - k) (drop k text) ≡ drop k text
tail_is text k = take_all (length text - k) (drop k text) (omega (arith, length-drop k text))

-- where none was found there is none
pub no_run_there : (q : ℕ) (text : List ℕ) (found : Option Run) → found ≡ None → FindsRun q text found → (bytes behind : List ℕ) → IsRun q text bytes behind → ⊥
no_run_there q text found is finds = subst (FindsRun q text) is finds
