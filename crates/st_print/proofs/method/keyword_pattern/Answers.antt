use Rattle.std.proofs.Common.{ℕ, ◌+◌, List, [], ◌∷◌, ◌++◌, drop, ap, ◌∙◌}
use Rattle.st_scan.specs.Views.{names_view}
use Rattle.st_print.specs.Words.{keyword, name, spaced, first_keyword, other_keywords}
use Rattle.st_print.specs.Printed.{keyword_pattern}
use Rattle.st_print.proofs.Turning.{put_two, turn, drop_at}
use Rattle.st_print.proofs.method.keyword_pattern.Goals as goal

pub loop-name-preserved : goal.loop-name-preserved
loop-name-preserved c =
    let ns = c.args.names.now in
    let i = c.loop-name.name-index in
    let n = c.name-item.result in
    let selector = c.loop-name.rest.now in
    let k = first_keyword selector in
    let put = put_two _ _ _ (keyword k) (name n.text.items) (rw c.split_keyword.ensures.first at c.in_ok-put.ensures) (rw c.deref.ensures.value at c.in_ok-put-2.ensures) in
    let step = turn _ _ _ (keyword_pattern selector (names_view (drop i ns))) (keyword k ∷ name n.text.items ∷ []) (keyword_pattern (other_keywords selector) (names_view (drop (i + 1) ns)))
    c.loop-name.invariant (ap (λ xs. keyword_pattern selector (names_view xs)) (drop_at ns i n c.loop-name-test.true c.name-item.is)) put in
    ap (λ (x : List ℕ). c.put-in-loop-name.new.out.items ++ spaced (keyword_pattern x (names_view (drop (i + 1) ns)))) c.split_keyword.ensures.others ∙ step
