use Rattle.std.proofs.Common.{◌≡◌, ℕ, List, ◌∷◌, ◌++◌, length, drop, sym, ap, ◌∙◌, subst, arith, length-drop, codes, true≢false}
use Rattle.std.specs.Prelude.{nat_eq}
use Rattle.std.specs.List.{starts_with}
use Rattle.std.proofs.lemmas.List.{drop-drop}
use Rattle.st_chunk.specs.Texts.{doubled}
use Rattle.st_changes.specs.inside.Runs.{FindsRun, IsFoundRun}
use Rattle.st_changes.specs.Entries.{is_text}
use Rattle.st_changes.proofs.Fronts.{no_run_there, tail_is, begins_is}
use Rattle.st_changes.proofs.Marks.{doubled_is}
use Rattle.st_changes.proofs.EntryTexts.{method_run, method_same}
use Rattle.st_changes.proofs.entry.find_method.Goals as goal
use Rattle.st_changes.proofs.entry.find_method.Goals.{then-not-is_text-via-then-not-is_text, then-not-is_text-via-else-not-is_text+then-not-starts_with}

pub returns-in_default : goal.returns-in_default
returns-in_default c bytes behind method = no_run_there 33 c.args.text.now c.in_ok-run.field-0 c.in_default.is c.in_ok-run.ensures bytes (32 ∷ 33 ∷ 10 ∷ behind) (method_run c.args.text.now bytes behind method)

pub returns-then-not-is_text : goal.returns-then-not-is_text
returns-then-not-is_text c bytes behind method =
    let text = c.args.text.now in
    let found : IsFoundRun 33 text c.in-Some.run' = subst (FindsRun 33 text) c.in-Some.is c.in_ok-run.ensures in
    let same = method_same text bytes behind c.in-Some.run'.bytes.items (drop c.in-Some.run'.length text) method found.is in
    elim c.then-not-is_text.branch [
      | then-not-is_text-via-then-not-is_text w ↦ true≢false (sym method.good ∙ ap is_text (sym same.0 ∙ sym c.deref.ensures.value) ∙ sym w.if-not-is_text.ensures)
      | then-not-is_text-via-else-not-is_text+then-not-starts_with w ↦
          true≢false (sym (ap (λ (x : List ℕ). starts_with nat_eq x (codes " !\n")) (tail_is text c.in-Some.run'.length ∙ same.1)) ∙ sym w.if-not-starts_with.ensures.value)
    ]

pub returns : goal.returns
returns c =
    let text = c.args.text.now in
    let n = c.in-Some.run'.length in
    let found : IsFoundRun 33 text c.in-Some.run' = subst (FindsRun 33 text) c.in-Some.is c.in_ok-run.ensures in
    let tail : drop n text ≡ codes " !\n" ++ drop 3 (drop n text) = begins_is (drop n text) (codes " !\n") (c.if-not-starts_with.ensures.value ∙ ap (λ (x : List ℕ). starts_with nat_eq x (codes " !\n")) (tail_is text n)) in
    record {
      is = record {
        is =
            found.is.is
            ∙ ap (λ (x : List ℕ). x ++ 33 ∷ drop n text) (sym (doubled_is c.in-Some.run'.bytes.items))
            ∙ ap (λ (x : List ℕ). doubled c.in-Some.run'.bytes.items ++ 33 ∷ x) (tail ∙ ap (λ (x : List ℕ). codes " !\n" ++ x) (drop-drop 3 n text));
        good = sym (c.if-not-is_text.ensures ∙ ap is_text c.deref.ensures.value);
      };
      within = omega (arith, ap length tail, length-drop n text, found.within);
    }
