use Rattle.std.proofs.Common.{◌≡◌, ◌+◌, true, false, [], refl, sym, ap, ◌∙◌, subst, is_some, arith}
use Rattle.st_model.specs.Table.{Table, entry}
use Rattle.st_table.specs.inside.Entries.{place}
use Rattle.st_heap.specs.inside.Tables.{objects_of}
use Rattle.st_counted.specs.declared.contents.Contents.{Contents}
use Rattle.st_counted.specs.inside.Counts.{is_unused}
use Rattle.st_counted.specs.inside.Links.{Holds}
use Rattle.st_counted.specs.inside.References.{all_roots, references, IsTallied}
use Rattle.st_counted.specs.inside.Counted.{counted_view, numbers_of, SameButLinks}
use Rattle.st_counted.proofs.ZeroList.{holds_nothing}
use Rattle.st_counted.proofs.Dropping.{no_reference}
use Rattle.st_counted.proofs.Listing.{tally_stored}
use Rattle.st_counted.proofs.Below.{unused_below, below_none, below_out, listed_used, listed_more, listed_all, below_end}
use Rattle.st_counted.proofs.contents.Contents.list_unused.Goals as goal
use Rattle.st_counted.proofs.contents.Contents.list_unused.Goals.{then-is_unused, else-is_unused}

pub list-requires-clause-stored : goal.list-requires-clause-stored
list-requires-clause-stored c =
    let v = counted_view c.args.self.now in
    let i = c.loop-k.invariant in
    let unused : is_unused (numbers_of c.args.self.now) c.loop-k.k ≡ true = ap (λ ns. is_unused ns c.loop-k.k) (sym i.numbers) ∙ sym c.is_unused.ensures ∙ c.if-is_unused.true in
    ap (λ (t : Table). is_some (entry t c.loop-k.k)) i.rest.objects ∙ (no_reference v.objects (references v.objects (all_roots v) []) (numbers_of c.args.self.now) c.loop-k.k c.requires.counted.tallied unused).0

pub list-requires-clause-head : goal.list-requires-clause-head
list-requires-clause-head c =
    let m = c.loop-k.self in
    let v = counted_view c.args.self.now in
    let i = c.loop-k.invariant in
    below_end m.objects v.objects (references v.objects (all_roots v) []) (numbers_of c.args.self.now) (place m.counts.first) c.loop-k.k i.rest.objects c.requires.counted.tallied i.list

pub loop-k-init : goal.loop-k-init
loop-k-init c =
    let m = c.args.self.now in
    record {
      list = ∣ holds_nothing m.objects.store 0 (unused_below (numbers_of m) 0) refl (below_none (numbers_of m)) ∣₁;
      numbers = refl;
      rest = record { objects = refl; room = refl; roots = refl; head = refl };
    }

pub loop-k-preserved : goal.loop-k-preserved
loop-k-preserved c =
    let m = c.args.self.now in
    let l = c.loop-k.self in
    let k = c.loop-k.k in
    let cs = numbers_of m in
    let i = c.loop-k.invariant in
    let test : c.is_unused.result ≡ is_unused cs k = c.is_unused.ensures ∙ ap (λ ns. is_unused ns k) i.numbers in
    elim c.if-is_unused.branch [
      | then-is_unused w ↦
          let unused : is_unused cs k ≡ true = sym test ∙ w.if-is_unused.true in
          let e = w.list.ensures in
          record {
            list = subst (λ (y : Contents). Holds y.objects.store (place y.counts.first) (unused_below cs (k + 1))) (sym w.self-is)
                (listed_more w.list.new.objects.store (place w.list.new.self.first) cs k unused (e.holds (unused_below cs k) i.list (below_out cs k)));
            numbers = ap numbers_of w.self-is ∙ e.counts ∙ i.numbers;
            rest = subst (λ (y : Contents). SameButLinks m y) (sym w.self-is) (record { objects = e.rest.objects ∙ i.rest.objects; room = e.rest.room ∙ i.rest.room; roots = i.rest.roots; head = i.rest.head });
          }
      | else-is_unused w ↦
          let used : is_unused cs k ≡ false = sym test ∙ w.if-is_unused.false in
          record {
            list = subst (λ (y : Contents). Holds y.objects.store (place y.counts.first) (unused_below cs (k + 1))) (sym w.self-is) (listed_used l.objects.store (place l.counts.first) cs k used i.list);
            numbers = ap numbers_of w.self-is ∙ i.numbers;
            rest = subst (λ (y : Contents). SameButLinks m y) (sym w.self-is) i.rest;
          }
    ]

pub returns-clause-listed : goal.returns-clause-listed
returns-clause-listed c =
    let m = c.args.self.now in
    let v = counted_view m in
    let l = c.loop-k.self in
    let cs = numbers_of m in
    let i = c.loop-k.invariant in
    let end = c.loop-k-test.false in
    let last = c.loop-k.auto.k-end in
    let at : c.loop-k.k ≡ 32768 = omega (arith, end, last) in
    let f = references v.objects (all_roots v) [] in
    record {
      list = subst (λ ns. Holds l.objects.store (place l.counts.first) (is_unused ns)) (sym i.numbers)
          (listed_all l.objects.store (place l.counts.first) cs 32768 m.counts.places (subst (λ n. Holds l.objects.store (place l.counts.first) (unused_below cs n)) at i.list));
      stored = tally_stored l.objects f (numbers_of l) (subst (λ ns. IsTallied (objects_of l.objects) f ns) (sym i.numbers) (subst (λ (t : Table). IsTallied t f cs) (sym i.rest.objects) c.requires.counted.tallied));
    }
