use Rattle.std.proofs.Common.{◌≡◌, ℕ, ◌-◌, List, ◌++◌, length, take, drop, sym, ap, ◌∙◌, arith, length-append, length-drop}
use Rattle.std.specs.Prelude.{Some, None}
use Rattle.st_chunk.specs.Groups.{GroupHeader, word_of, behind_word, behind_blanks, header_in}
use Rattle.st_chunk.proofs.Blanks.{tail_whole}
use Rattle.st_chunk.proofs.Words.{word_front, word_behind}
use Rattle.st_chunk.proofs.Headers.{no_blank, by_side, no_category, in_quotes, held_is, taken_long}
use Rattle.st_chunk.proofs.Sound.{blanks_short, trimmed_short, category_short}
use Rattle.st_chunk.proofs.heading.read_heading.Goals as goal

pub returns-in_default : goal.returns-in_default
returns-in_default c =
    let t = c.trimmed-text.result.now in
    let k = c.word_length-class_length.result in
    let rest : take (length t - k) (drop k t) ≡ behind_word t = tail_whole t k ∙ ap (λ (n : ℕ). drop n t) c.word_length-class_length.ensures.exact ∙ word_behind t in
    sym (ap header_in c.trimmed-text.ensures) ∙ no_blank t (ap behind_blanks (sym rest) ∙ sym c.in_default.ensures)

pub returns-in_default-category : goal.returns-in_default-category
returns-in_default-category c =
    let t = c.trimmed-text.result.now in
    let k = c.word_length-class_length.result in
    let rest : take (length t - k) (drop k t) ≡ behind_word t = tail_whole t k ∙ ap (λ (n : ℕ). drop n t) c.word_length-class_length.ensures.exact ∙ word_behind t in
    let blank = ap behind_blanks (sym rest) ∙ sym c.in-Some.ensures in
    let side = c.side-meta.ensures.is (word_of t) in
    sym (ap header_in c.trimmed-text.ensures)
    ∙ by_side t c.in-Some.others.now c.side-meta.result.1.now c.side-meta.result.0 (sym c.if-not-has_name.ensures) blank side
    ∙ no_category (word_of t) c.side-meta.result.0 c.side-meta.result.1.now (sym c.in_default-category.ensures)

pub hold-requires : goal.hold-requires
hold-requires c =
    let t = c.trimmed-text.result.now in
    let k = c.word_length-class_length.result in
    let long = ap length c.trimmed-text.ensures in
    omega (arith, taken_long k t c.word_length-class_length.ensures.within, long, trimmed_short c.args.chunk.now, c.word_length-class_length.ensures.within)

pub unquote-requires : goal.unquote-requires
unquote-requires c =
    let t = c.trimmed-text.result.now in
    let k = c.word_length-class_length.result in
    let long = ap length c.trimmed-text.ensures in
    let held = ap length c.hold.ensures in
    let tail = ap length (tail_whole t k) in
    let others = blanks_short (take (length t - k) (drop k t)) c.in-Some.others.now (sym c.in-Some.ensures) in
    let category = category_short c.side-meta.result.1.now c.in-Some-category.category.now c.in-Some-category.ensures in
    omega (arith, taken_long k t c.word_length-class_length.ensures.within, long, trimmed_short c.args.chunk.now, held, tail, length-drop k t, others, category, c.side-meta.ensures.within)

pub returns-then-unquote : goal.returns-then-unquote
returns-then-unquote c =
    let t = c.trimmed-text.result.now in
    let k = c.word_length-class_length.result in
    let rest : take (length t - k) (drop k t) ≡ behind_word t = tail_whole t k ∙ ap (λ (n : ℕ). drop n t) c.word_length-class_length.ensures.exact ∙ word_behind t in
    let word : take k t ≡ word_of t = ap (λ (n : ℕ). take n t) c.word_length-class_length.ensures.exact ∙ word_front t in
    let blank = ap behind_blanks (sym rest) ∙ sym c.in-Some.ensures in
    let side = c.side-meta.ensures.is (word_of t) in
    let category = c.if-unquote.ensures.category in
    let held : c.unquote.new.held ≡ word_of t ++ category = c.if-unquote.ensures.held ∙ ap (λ (x : List ℕ). x ++ category) (c.hold.ensures ∙ word) in
    let long : k ≡ length (word_of t) = sym (taken_long k t c.word_length-class_length.ensures.within) ∙ ap length word in
    let all = ap length held in
    record {
      is =
          sym (ap header_in c.trimmed-text.ensures)
          ∙ by_side t c.in-Some.others.now c.side-meta.result.1.now c.side-meta.result.0 (sym c.if-not-has_name.ensures) blank side
          ∙ in_quotes (word_of t) c.side-meta.result.0 c.side-meta.result.1.now c.in-Some-category.category.now (Some category) (sym c.in-Some-category.ensures) c.if-unquote.ensures.is
          ∙ ap (λ (h : GroupHeader). Some h) (held_is (word_of t) category c.unquote.new.held c.side-meta.result.0 k held long);
      within = omega (arith, all, length-append (word_of t) category, long);
    }

pub returns-else-unquote : goal.returns-else-unquote
returns-else-unquote c =
    let t = c.trimmed-text.result.now in
    let k = c.word_length-class_length.result in
    let rest : take (length t - k) (drop k t) ≡ behind_word t = tail_whole t k ∙ ap (λ (n : ℕ). drop n t) c.word_length-class_length.ensures.exact ∙ word_behind t in
    let blank = ap behind_blanks (sym rest) ∙ sym c.in-Some.ensures in
    let side = c.side-meta.ensures.is (word_of t) in
    sym (ap header_in c.trimmed-text.ensures)
    ∙ by_side t c.in-Some.others.now c.side-meta.result.1.now c.side-meta.result.0 (sym c.if-not-has_name.ensures) blank side
    ∙ in_quotes (word_of t) c.side-meta.result.0 c.side-meta.result.1.now c.in-Some-category.category.now None (sym c.in-Some-category.ensures) c.if-unquote.ensures
