use Rattle.std.proofs.Common.{◌≡◌, ℕ, ◌∙◌, ap, List, arith, length, take, drop, get_or, inl, inr}
use Rattle.std.proofs.lemmas.Bool.{cases_lt}
use Rattle.std.proofs.lemmas.List.{get_or_append_left, length-take-le}
use Rattle.st_model.specs.Values.{value}
use Rattle.st_bitblt.specs.inside.Words.{words}
use Rattle.st_bitblt.proofs.Stretches.{read_word, zero_past}
use Rattle.st_bitblt.proofs.stretch.read_from.Goals as goal
use Rattle.st_bitblt.proofs.stretch.read_from.Goals.{then-there-gt0, else-there-gt0}

pub returns : goal.returns
returns g c k h =
    let us = words (g.M.Memory.view c.args.m.now) (value c.args.object) in
    let into = c.args.into.now in
    let there = c.min-there.result in
    let left = c.saturating_sub.ensures in
    let is = c.min-there.ensures in
    elim c.if-there-gt0.branch [
      | then-there-gt0 w ↦
          let n : length (take there into) ≡ there = length-take-le there into (omega (arith, is)) in
          let long = w.read_words.auto.into in
          elim (cases_lt k there) [
            | inl lt ↦
                c.clear.ensures.kept k lt ∙ ap (λ (l : List ℕ). get_or l k 0) w.into-is
                ∙ get_or_append_left w.read_words.new.into (drop there into) 0 k (omega (arith, lt, n, long)) ∙ ap (λ (l : List ℕ). get_or l k 0) w.read_words.ensures
                ∙ read_word (length (take there into)) c.args.from k us (omega (arith, lt, n))
            | inr ge ↦ c.clear.ensures.zeros k ge ∙ zero_past us c.args.size c.args.from (length into) there k c.requires.size (omega (arith, left, is)) h ge
          ]
      | else-there-gt0 w ↦
          let none = w.if-there-gt0.false in
          c.clear.ensures.zeros k (omega (arith, none)) ∙ zero_past us c.args.size c.args.from (length into) there k c.requires.size (omega (arith, left, is)) h (omega (arith, none))
    ]
