use Rattle.std.proofs.Common.{◌+◌, ◌<◌, inl, inr, length, sym, ap, ◌∙◌, subst, arith, length-set, get_or-set_same, get_or-set_other}
use Rattle.std.specs.Prelude.{◌*◌, slice_set, slice_index_or}
use Rattle.std.proofs.lemmas.Bool.{cases_eq}
use Rattle.st_draft.specs.inside.Drafts.{no_change, highest}
use Rattle.st_draft.proofs.notes.Notes.note.Goals as goal

pub invariant_of-self : goal.invariant_of-self
invariant_of-self c =
    let d = c.args.self.now in
    let within : d.count < length d.changes = let a = d.sizes.1 in let b = c.requires.room in omega (arith, a, b) in
    record {
      few = let b = c.requires.room in omega (arith, b);
      sizes = (d.sizes.0, length-set d.changes d.count c.args.change ∙ d.sizes.1);
      named = λ k l. elim (cases_eq k d.count) [
        | inl e ↦ subst (λ n. n < 65536 + 2 * d.made_count)
            (sym (ap (λ j. highest (slice_index_or (slice_set d.changes d.count c.args.change) j no_change)) e ∙ ap highest (get_or-set_same d.changes d.count c.args.change no_change within)))
            c.requires.named
        | inr n ↦ subst (λ h. h < 65536 + 2 * d.made_count)
            (sym (ap highest (get_or-set_other d.changes d.count k c.args.change no_change n)))
            (d.named k (omega (arith, l, n)))
      ];
      counted = d.counted;
      small = d.small;
      sized = d.sized;
    }
