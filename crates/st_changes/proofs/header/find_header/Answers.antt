use Rattle.std.proofs.Common.{◌≡◌, refl, ℕ, ◌+◌, ◌-◌, List, [], ◌++◌, length, take, drop, sym, ap, ◌∙◌, subst, arith, length-drop}
use Rattle.std.proofs.lemmas.List.{drop_all}
use Rattle.st_changes.specs.inside.Runs.{FindsRun, IsFoundRun, IsRun}
use Rattle.st_changes.specs.Entries.{IsSide, IsHeader}
use Rattle.st_changes.proofs.HeaderTexts.{word, ended, behind_class, behind_side, nothing_behind, name_read, header_read}
use Rattle.st_changes.proofs.Fronts.{no_run_there, tail_is}
use Rattle.st_changes.proofs.header.find_header.Goals as goal

pub returns-in_default : goal.returns-in_default
returns-in_default c h is =
    let text = c.args.text.now in
    c.in_default.ensures h.meta (ended h.category) (tail_is text c.word_length-end.result ∙ ap (λ k. drop k text) c.word_length-end.ensures.exact ∙ behind_class text h is)

pub returns-in_default-2 : goal.returns-in_default-2
returns-in_default-2 c h is =
    let text = c.args.text.now in
    let w = c.word_length-end.ensures.exact in
    let side : IsSide (drop (word text) text) c.in-Some.meta c.in-Some.length =
    subst (λ (x : List ℕ). IsSide x c.in-Some.meta c.in-Some.length) (tail_is text c.word_length-end.result ∙ ap (λ k. drop k text) w) c.in-Some.ensures in
    let start = c.word_length-end.result + c.in-Some.length in
    let e : drop start text ≡ ended h.category = ap (λ k. drop (k + c.in-Some.length) text) w ∙ behind_side text h c.in-Some.meta c.in-Some.length is side in
    no_run_there 39 _ c.in_ok-category.field-0 c.in_default-2.is c.in_ok-category.ensures h.category [] (record { is = tail_is text start ∙ e; alone = refl })

pub returns-then-start-category : goal.returns-then-start-category
returns-then-start-category c h is =
    let text = c.args.text.now in
    let w = c.word_length-end.ensures.exact in
    let start = c.word_length-end.result + c.in-Some.length in
    let side : IsSide (drop (word text) text) c.in-Some.meta c.in-Some.length =
    subst (λ (x : List ℕ). IsSide x c.in-Some.meta c.in-Some.length) (tail_is text c.word_length-end.result ∙ ap (λ k. drop k text) w) c.in-Some.ensures in
    let e : drop start text ≡ ended h.category = ap (λ k. drop (k + c.in-Some.length) text) w ∙ behind_side text h c.in-Some.meta c.in-Some.length is side in
    let found : IsFoundRun 39 (drop start text) c.in-Some-2.category =
    subst (λ (x : List ℕ). IsFoundRun 39 x c.in-Some-2.category) (tail_is text start) (subst (FindsRun 39 (take (length text - start) (drop start text))) c.in-Some-2.is c.in_ok-category.ensures) in
    let none = nothing_behind (drop start text) h.category c.in-Some-2.category.bytes.items (drop c.in-Some-2.category.length (drop start text)) e found.is in
    let l = ap length none in
    omega (arith, l, length-drop c.in-Some-2.category.length (drop start text), length-drop start text, c.if-start-category.true)

pub returns : goal.returns
returns c =
    let text = c.args.text.now in
    let w = c.word_length-end.ensures.exact in
    let end = c.word_length-end.result in
    let start = end + c.in-Some.length in
    let side : IsSide (drop (word text) text) c.in-Some.meta c.in-Some.length =
    subst (λ (x : List ℕ). IsSide x c.in-Some.meta c.in-Some.length) (tail_is text end ∙ ap (λ k. drop k text) w) c.in-Some.ensures in
    let found : IsFoundRun 39 (drop start text) c.in-Some-2.category =
    subst (λ (x : List ℕ). IsFoundRun 39 x c.in-Some-2.category) (tail_is text start) (subst (FindsRun 39 (take (length text - start) (drop start text))) c.in-Some-2.is c.in_ok-category.ensures) in
    let run = subst (λ k. IsRun 39 (drop (k + c.in-Some.length) text) c.in-Some-2.category.bytes.items (drop c.in-Some-2.category.length (drop start text))) w found.is in
    let none : drop c.in-Some-2.category.length (drop start text) ≡ [] = drop_all c.in-Some-2.category.length (drop start text) (omega (arith, length-drop start text, c.if-start-category.false)) in
    let named = name_read text (λ zero. c.if-end-eq0.false (w ∙ zero)) (sym c.if-not-is_ascii_alphabetic.ensures.value) in
    let class : c.extend_from_slice.new.self.items ≡ take (word text) text = c.in_ok-extend_from_slice.ensures.items ∙ ap (λ (x : List ℕ). x ++ take end text) c.new-class.ensures.items ∙ ap (λ k. take k text) w in
    subst (λ (x : List ℕ). IsHeader text (record { class = x; meta = c.in-Some.meta; category = c.in-Some-2.category.bytes.items })) (sym class)
    (header_read text c.in-Some-2.category.bytes.items (drop c.in-Some-2.category.length (drop start text)) c.in-Some.meta c.in-Some.length named side run none)
