use Rattle.std.proofs.Common.{◌≡◌, ℕ, ◌+◌, ◌-◌, List, ◌∷◌, length, take, drop, sym, ap, ◌∙◌, subst, arith, length-drop, get_or}
use Rattle.std.proofs.lemmas.List.{drop-drop, get_or-drop}
use Rattle.st_chunk.specs.Groups.{header_text}
use Rattle.st_changes.specs.inside.Runs.{FindsRun, IsFoundRun}
use Rattle.st_changes.specs.Entries.{FindsHeader}
use Rattle.st_changes.proofs.Fronts.{no_run_there, tail_is}
use Rattle.st_changes.proofs.EntryTexts.{head_run, head_same}
use Rattle.st_changes.proofs.entry.find_head.Goals as goal
use Rattle.st_changes.proofs.entry.find_head.Goals.{then-len-gt-MOST-via-then-len-gt-MOST, then-len-gt-MOST-via-else-len-gt-MOST+then-end-text, then-len-gt-MOST-via-else-len-gt-MOST+else-end-text+then-text-end-ne10}

pub returns-in_default : goal.returns-in_default
returns-in_default c h behind head =
    let text = c.args.text.now in
    let run = head_run text h behind head in
    no_run_there 33 _ c.in_ok-run.field-0 c.in_default.is c.in_ok-run.ensures (header_text h) (10 ∷ behind) (record { is = tail_is text 1 ∙ run.is; alone = run.alone })

pub returns-then-len-gt-MOST : goal.returns-then-len-gt-MOST
returns-then-len-gt-MOST c h behind head =
    let text = c.args.text.now in
    let found : IsFoundRun 33 (drop 1 text) c.in-Some.run' =
    subst (λ (x : List ℕ). IsFoundRun 33 x c.in-Some.run') (tail_is text 1) (subst (FindsRun 33 (take (length text - 1) (drop 1 text))) c.in-Some.is c.in_ok-run.ensures) in
    let same = head_same text h behind c.in-Some.run'.bytes.items (drop c.in-Some.run'.length (drop 1 text)) head found.is in
    let n = c.in-Some.run'.length in
    let l = ap length same.1 in
    let place : 1 + n + 0 ≡ 1 + n = omega arith in
    let b : get_or text (1 + n) 0 ≡ 10 =
    ap (λ k. get_or text k 0) (sym place) ∙ sym (get_or-drop (1 + n) text 0 0) ∙ ap (λ (x : List ℕ). get_or x 0 0) (sym (drop-drop n 1 text) ∙ same.1) in
    elim c.then-len-gt-MOST.branch [
      | then-len-gt-MOST-via-then-len-gt-MOST w ↦ omega (arith, w.if-len-gt-MOST.true, ap length same.0, head.short, c.in-Some.run'.bytes.ok)
      | then-len-gt-MOST-via-else-len-gt-MOST+then-end-text w ↦ omega (arith, w.if-end-text.true, l, length-drop n (drop 1 text), length-drop 1 text)
      | then-len-gt-MOST-via-else-len-gt-MOST+else-end-text+then-text-end-ne10 w ↦ w.if-text-end-ne10.true b
    ]

pub returns-in_default-2 : goal.returns-in_default-2
returns-in_default-2 c h behind head =
    let text = c.args.text.now in
    let found : IsFoundRun 33 (drop 1 text) c.in-Some.run' =
    subst (λ (x : List ℕ). IsFoundRun 33 x c.in-Some.run') (tail_is text 1) (subst (FindsRun 33 (take (length text - 1) (drop 1 text))) c.in-Some.is c.in_ok-run.ensures) in
    let same = head_same text h behind c.in-Some.run'.bytes.items (drop c.in-Some.run'.length (drop 1 text)) head found.is in
    subst (FindsHeader c.deref.result.now) c.in_default-2.is c.in_ok-header.ensures h (record { is = c.deref.ensures.value ∙ same.0; named = head.named })
