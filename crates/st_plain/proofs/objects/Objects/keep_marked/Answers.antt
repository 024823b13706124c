use Rattle.std.proofs.Common.{◌≡◌, true, false, refl, ap, ◌∙◌, set, arith}
use Rattle.std.specs.Prelude.{None}
use Rattle.std.proofs.lemmas.Grind.{common_steps}
use Rattle.st_model.specs.declared.demand.Demand.{Demand}
use Rattle.st_model.specs.Settled.{is_marked}
use Rattle.st_plain.specs.declared.objects.Objects.{Objects}
use Rattle.st_plain.specs.inside.Lists.{listed_table, kept_entries}
use Rattle.st_plain.specs.inside.ListsPlain.{extent_of}
use Rattle.st_plain.proofs.Counting.{used_is}
use Rattle.st_plain.proofs.Sweeping.{kept_from, kept_from_none, kept_from-unmarked, kept_from-marked, kept_from_end, kept-listed}
use Rattle.st_plain.proofs.objects.Objects.keep_marked.Goals as goal
use Rattle.st_plain.proofs.objects.Objects.keep_marked.Goals.{then-not-has, else-not-has}

pub loop-k-init : goal.loop-k-init
loop-k-init c = record {
  entries = kept_from_none c.args.self.now.entries.items (is_marked c.args.marks.now.names.items);
  pointers = refl;
  units = refl;
  extent = refl;
  end = refl;
  fewer = omega arith;
}

pub loop-k-preserved : goal.loop-k-preserved
loop-k-preserved c =
    let first = c.args.self.now.entries.items in
    let marked = is_marked c.args.marks.now.names.items in
    let k = c.loop-k.k in
    let was = c.loop-k.invariant in
    elim c.if-not-has.branch [
      | then-not-has w ↦
          let e = w.remove.ensures in
          let unmarked : marked k ≡ false = grind (arith, common_steps) in
          let fewer = e.fewer in
          let before = was.fewer in
          let used = ap (λ (o : Objects). o.used.entries) w.self-is in
          record {
            entries = ap (λ (o : Objects). o.entries.items) w.self-is ∙ e.entries ∙ ap (λ es. set es k None) was.entries ∙ kept_from-unmarked first marked k unmarked;
            pointers = ap (λ (o : Objects). o.pointers) w.self-is ∙ e.pointers ∙ was.pointers;
            units = ap (λ (o : Objects). o.units) w.self-is ∙ e.units ∙ was.units;
            extent = ap extent_of w.self-is ∙ e.extent ∙ was.extent;
            end = ap (λ (o : Objects). o.table_end) w.self-is ∙ e.end ∙ was.end;
            fewer = omega (arith, fewer, before, used);
          }
      | else-not-has w ↦
          let is_kept : marked k ≡ true = grind (arith, common_steps) in
          let before = was.fewer in
          let used = ap (λ (o : Objects). o.used.entries) w.self-is in
          record {
            entries = ap (λ (o : Objects). o.entries.items) w.self-is ∙ was.entries ∙ kept_from-marked first marked k is_kept;
            pointers = ap (λ (o : Objects). o.pointers) w.self-is ∙ was.pointers;
            units = ap (λ (o : Objects). o.units) w.self-is ∙ was.units;
            extent = ap extent_of w.self-is ∙ was.extent;
            end = ap (λ (o : Objects). o.table_end) w.self-is ∙ was.end;
            fewer = omega (arith, before, used);
          }
    ]

pub returns-clause-objects : goal.returns-clause-objects
returns-clause-objects c =
    let o = c.args.self.now in
    let l = c.loop-k.self in
    let marked = is_marked c.args.marks.now.names.items in
    let i = c.loop-k.invariant in
    let past : c.loop-k.k ≡ o.table_end = omega arith in
    ap (λ p. listed_table p l.units.items l.entries.items) (ap (λ (v : _). v.items) i.pointers)
    ∙ ap (λ u. listed_table o.pointers.items u l.entries.items) (ap (λ (v : _). v.items) i.units)
    ∙ ap (listed_table o.pointers.items o.units.items) (i.entries ∙ ap (λ n. kept_entries o.entries.items (kept_from marked n)) past ∙ kept_from_end o.entries.items marked o.table_end o.laid_out.empty)
    ∙ kept-listed o.pointers.items o.units.items o.entries.items marked

pub returns-clause-gone : goal.returns-clause-gone
returns-clause-gone c =
    let now = ap (λ (m : Demand). m.entries) (used_is c.loop-k.self) in
    let was = ap (λ (m : Demand). m.entries) (used_is c.args.self.now) in
    let fewer = c.loop-k.invariant.fewer in
    omega (arith, now, was, fewer)
