use Rattle.std.proofs.Common.{ℕ, List, ◌∷◌, length, take, drop, sym, ap, ◌∙◌, arith, length-drop}
use Rattle.std.specs.List.{prefix_len}
use Rattle.st_chunk.proofs.Blanks.{tail_whole}
use Rattle.st_kernel_text.specs.Words.{words, no_blank}
use Rattle.st_kernel_text.proofs.Splitting.{words_behind_blanks, nothing_left, first_is, after_short}
use Rattle.st_kernel_text.proofs.words.first_word.Goals as goal

pub returns-then-end-eq0-clause-found : goal.returns-then-end-eq0-clause-found
returns-then-end-eq0-clause-found c =
    let rest = c.after_blanks-rest.ensures in
    let none = ap (prefix_len no_blank) (sym rest) ∙ sym c.word_length-end.ensures.exact ∙ c.if-end-eq0.true in
    sym (words_behind_blanks c.args.text.now) ∙ ap words (nothing_left c.args.text.now none)

pub returns-clause-found : goal.returns-clause-found
returns-clause-found c =
    let rest = c.after_blanks-rest.result.now in
    let n = c.word_length-end.result in
    let exact = c.word_length-end.ensures.exact in
    sym (words_behind_blanks c.args.text.now)
    ∙ ap words (sym c.after_blanks-rest.ensures)
    ∙ first_is rest (λ e. c.if-end-eq0.false (exact ∙ e))
    ∙ ap (λ (k : ℕ). take k rest ∷ words (drop k rest)) (sym exact)
    ∙ ap (λ (x : List ℕ). take n rest ∷ words x) (sym (tail_whole rest n))

pub returns-clause-shorter : goal.returns-clause-shorter
returns-clause-shorter c =
    let rest = c.after_blanks-rest.result.now in
    let n = c.word_length-end.result in
    let less = after_short c.args.text.now in
    let same = ap length c.after_blanks-rest.ensures in
    let tail = ap length (tail_whole rest n) in
    omega (arith, less, same, tail, length-drop n rest, c.if-end-eq0.false, c.word_length-end.ensures.within)
