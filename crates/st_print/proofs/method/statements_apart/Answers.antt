use Rattle.std.proofs.Common.{ℕ, ◌-◌, List, ◌∷◌, ◌++◌, length, take, drop, min, sym, ap, ◌∙◌}
use Rattle.std.specs.Str.{byte}
use Rattle.st_scan.specs.Views.{statements_view}
use Rattle.st_print.specs.Words.{number_text, spaced}
use Rattle.st_print.specs.Printed.{statements_words}
use Rattle.st_print.proofs.Signed.{put_apart}
use Rattle.st_print.proofs.method.statements_apart.Goals as goal

pub returns : goal.returns
returns c =
    let out = c.args.out.now.items in
    let ws = statements_words (statements_view c.args.body.now) in
    let n = c.in-Some.number in
    let first = c.put_number.new.out.items in
    let all = c.statements-2.new.out.items in
    let three = c.put-2.new.out.items in
    put_apart out c.put.new.out.items c.extend_from_slice.new.self.items three c.extend_from_slice-2.new.self.items first all ws n c.min.result
    (sym c.in-Some.is ∙ c.in_ok-number.ensures)
    (c.in_ok-put_number.ensures ∙ ap (λ (x : List ℕ). x ++ byte " " ∷ number_text n) c.new-first.ensures.items)
    (c.in_ok-statements.ensures ∙ ap (λ (x : List ℕ). x ++ spaced ws) c.new-all.ensures.items)
    c.in_ok-put.ensures
    (c.in_ok-extend_from_slice.ensures.items ∙ ap (λ (x : List ℕ). c.put.new.out.items ++ x) c.deref.ensures.value)
    c.in_ok-put-2.ensures
    (c.min.ensures ∙ ap (λ k. min k c.len-2.result) (c.len.ensures ∙ c.put_number.new.out.ok.0) ∙ ap (λ k. min (length first) k) (c.len-2.ensures ∙ c.statements-2.new.out.ok.0))
    (c.in_ok-extend_from_slice-2.ensures.items ∙ ap (λ (x : List ℕ). three ++ take (length x - c.min.result) (drop c.min.result x)) c.deref-2.ensures.value)
