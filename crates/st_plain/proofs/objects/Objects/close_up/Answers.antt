use Rattle.std.proofs.Common.{◌≡◌, length, sym, ap, ◌∙◌, inl, inr, subst, arith}
use Rattle.std.proofs.lemmas.Bool.{cases_eq}
use Rattle.st_model.specs.Table.{entry}
use Rattle.st_model.specs.declared.demand.Demand.{Demand}
use Rattle.st_plain.specs.inside.Lists.{entry_words}
use Rattle.st_plain.specs.inside.ListsPlain.{Extent, objects_of, extent_of}
use Rattle.st_plain.proofs.Closed.{all_copied, next_fits, still_taken, slot_none}
use Rattle.st_plain.proofs.Counting.{used_is}
use Rattle.st_plain.proofs.Looking.{total_rest}
use Rattle.st_plain.proofs.objects.Objects.close_up.Goals as goal

pub loop-k-init : goal.loop-k-init
loop-k-init c =
    let e = c.clear.ensures.extent in
    let fields = ap (λ (g : Extent). g.next_field) e in
    let units = ap (λ (g : Extent). g.next_unit) e in
    record {
      below = λ j l. absurd (omega (arith, l));
      above = λ j l. c.clear.ensures.empty j;
      taken = omega (arith, fields, units);
      fields = ap (λ (g : Extent). g.fields) e;
      units = ap (λ (g : Extent). g.units) e;
    }

pub copy_from-requires : goal.copy_from-requires
copy_from-requires c =
    let l = c.loop-k.self in
    let i = c.loop-k.invariant in
    let fits = next_fits c.args.other.now c.loop-k.k l.next_field l.next_unit c.loop-k-test.true i.taken (length c.args.self.now.pointers.items) c.requires.fits in
    record {
      within = let w = c.args.other.now.laid_out.within in let t = c.loop-k-test.true in omega (arith, w, t);
      free = slot_none l c.loop-k.k (i.above c.loop-k.k (omega arith));
      fields_end = omega (arith, fits.0, i.fields);
      units_end = omega (arith, fits.1, i.units, c.requires.long);
    }

pub loop-k-preserved : goal.loop-k-preserved
loop-k-preserved c =
    let l = c.loop-k.self in
    let k = c.loop-k.k in
    let new = c.copy_from.new.self in
    let other = c.args.other.now in
    let i = c.loop-k.invariant in
    let e = c.copy_from.ensures in
    record {
      below = λ j low. elim (cases_eq j k) [
        | inl q ↦ subst (λ n. entry (objects_of new) n ≡ entry (objects_of other) n) (sym q) e.here
        | inr d ↦ e.others j d ∙ i.below j (omega (arith, low, d))
      ];
      above = λ j high. e.others j (omega (arith, high)) ∙ i.above j (omega (arith, high));
      taken = still_taken other k l.next_field l.next_unit c.loop-k-test.true i.taken (extent_of l) (extent_of new) (λ t. l.next_field) (λ t. l.next_unit) e.extent;
      fields = ap (λ (g : Extent). g.fields) e.extent ∙ i.fields;
      units = ap (λ (g : Extent). g.units) e.extent ∙ i.units;
    }

pub returns-clause-objects : goal.returns-clause-objects
returns-clause-objects c =
    let end = c.loop-k-test.false in
    all_copied c.loop-k.self c.args.other.now c.loop-k.k end c.loop-k.invariant.below c.loop-k.invariant.above

pub returns-clause-enough : goal.returns-clause-enough
returns-clause-enough c =
    let other = c.args.other.now in
    let i = c.loop-k.invariant in
    let end = c.loop-k-test.false in
    let all = total_rest entry_words other.entries.items c.loop-k.k (λ j l. other.laid_out.empty j (omega (arith, l, end))) in
    let counted = other.counted.words in
    let used = ap (λ (m : Demand). m.words) (used_is other) in
    let taken = i.taken in
    record {
      fields = i.fields;
      units = i.units ∙ c.requires.long;
      taken = omega (arith, all, counted, used, taken);
    }
