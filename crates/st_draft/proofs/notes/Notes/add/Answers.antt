use Rattle.std.proofs.Common.{take, ◌+◌, ◌<◌, inl, inr, length, sym, ap, ◌∙◌, subst, arith, length-set, get_or-set_same, get_or-set_other}
use Rattle.std.specs.Prelude.{slice_set, slice_index_or}
use Rattle.std.proofs.lemmas.Bool.{cases_eq}
use Rattle.st_model.specs.Objects.{words_of}
use Rattle.st_model.specs.Table.{total_used}
use Rattle.st_draft.specs.inside.Drafts.{no_made, made_table}
use Rattle.st_memory.specs.inside.Making.{IsMade}
use Rattle.st_draft.proofs.Behind.{total_more}
use Rattle.st_draft.proofs.notes.Notes.add.Goals as goal

pub invariant_of-self : goal.invariant_of-self
invariant_of-self c =
    let d = c.args.self.now in
    let m = c.args.made in
    let within : d.made_count < length d.made = let s = d.sizes.0 in let b = c.requires.room in omega (arith, s, b) in
    record {
      few = let b = c.requires.room in omega (arith, b);
      sizes = (length-set d.made d.made_count m ∙ d.sizes.0, d.sizes.1);
      named = λ k l. let h = d.named k l in omega (arith, h);
      counted = ap (λ w. w + c.words-words.result) d.counted ∙ ap (λ w. total_used words_of (made_table (take d.made_count d.made)) + w) c.words-words.ensures.words ∙ sym (total_more d.made d.made_count m within);
      small = let h = d.small in let s = c.words-words.ensures.small in omega (arith, h, s);
      sized = λ k l. elim (cases_eq k d.made_count) [
        | inl e ↦ subst IsMade
            (sym (ap (λ j. slice_index_or (slice_set d.made d.made_count m) j no_made) e ∙ get_or-set_same d.made d.made_count m no_made within))
            c.requires.sized
        | inr n ↦ subst IsMade
            (sym (get_or-set_other d.made d.made_count k m no_made n))
            (d.sized k (omega (arith, l, n)))
      ];
    }
