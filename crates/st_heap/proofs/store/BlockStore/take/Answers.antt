use Rattle.std.proofs.Common.{◌≡◌, ◌≢◌, ℕ, None, get_or, ◌+◌, ◌<◌, ◌/◌, List, Option, Some, length, set, refl, sym, ap, ◌∙◌, arith, length-set}
use Rattle.st_model.specs.declared.demand.Demand.{Demand}
use Rattle.st_table.specs.declared.entry.Entry.{Entry}
use Rattle.st_heap.specs.declared.block.Block.{Block}
use Rattle.st_heap.specs.inside.Heaps.{words_of, blocks_of}
use Rattle.st_heap.specs.inside.Stored.{stored_at, stored_all, used_of}
use Rattle.st_heap.proofs.Runs.{length-run}
use Rattle.st_heap.proofs.Storing.{keeps_all, set_all, same_all, length-all}
use Rattle.st_heap.proofs.Totals.{total_count, used_new}
use Rattle.st_heap.proofs.Tying.{are_tied}
use Rattle.std.proofs.lemmas.List.{get_or-set_other}
use Rattle.st_heap.specs.inside.Links.{next_in, before_in}
use Rattle.st_heap.proofs.Linking.{next_moved, before_moved}
use Rattle.st_heap.proofs.store.BlockStore.take.Goals as goal

pub overflow_add-self : goal.overflow_add-self
overflow_add-self c =
    let s = c.args.self.now in
    let count = ap (λ (d : Demand). d.entries) s.counted in
    let few = total_count (stored_all (words_of s.heap) (blocks_of s.heap) s.table) in
    let long = length-all (words_of s.heap) (blocks_of s.heap) s.table in
    let places = s.places in
    record { fits = omega (arith, count, few, long, places) }

pub invariant_of-self : goal.invariant_of-self
invariant_of-self c =
    let s = c.args.self.now in
    let k = c.args.o.0 / 2 in
    let all = stored_all (words_of s.heap) (blocks_of s.heap) s.table in
    let ws = words_of c.take-at.new.self in
    let bs = blocks_of c.take-at.new.self in
    let t = c.take-at.new.t in
    let e : Entry = record { at = c.take-at.result; kind = c.args.kind; odd = c.args.odd; next = record { 0 = 0 }; before = record { 0 = 0 } } in
    let kept = keeps_all (words_of s.heap) ws (blocks_of s.heap) bs s.table t c.take-at.ensures.keeps in
    let now : stored_all ws bs c.take_entry.new.self ≡ set all k (Some (stored_at ws bs e)) =
    same_all ws ws bs bs (set t k (Some e)) c.take_entry.new.self refl refl c.take_entry.ensures ∙ set_all ws bs t k (Some e) ∙ ap (λ xs. set xs k (Some (stored_at ws bs e))) kept
    in
    let long : length (stored_at ws bs e).cells ≡ c.args.n = length-run _ _ ∙ ap (λ (b : Block). b.len) c.take-at.ensures.block in
    let size = length-all (words_of s.heap) (blocks_of s.heap) s.table in
    let places = s.places in
    let inside : k < length all = omega (arith, size, places) in
    let more = used_new all k (stored_at ws bs e) inside c.requires.unused.absent in
    record {
      tied = are_tied c.take_entry.new.self bs (rw c.take_entry.ensures (c.take-at.ensures.tied e refl));
      places = ap (λ (es : List (Option Entry)). length es) c.take_entry.ensures ∙ length-set t k (Some e) ∙ c.take-at.ensures.keeps.size ∙ s.places;
      counted = (λ i. record { entries = (s.counted i).entries + 1; words = (s.counted i).words + c.args.n }) ∙ (λ i. record { entries = (used_of all).entries + 1; words = (used_of all).words + sym long i }) ∙ sym more ∙ sym (ap used_of now);
      held = c.take-at.ensures.held ∙ ap (λ n. n + c.args.n) s.held;
    }

pub returns-clause-stored : goal.returns-clause-stored
returns-clause-stored c =
    let s = c.args.self.now in
    let k = c.args.o.0 / 2 in
    let ws = words_of c.take-at.new.self in
    let bs = blocks_of c.take-at.new.self in
    let t = c.take-at.new.t in
    let e : Entry = record { at = c.take-at.result; kind = c.args.kind; odd = c.args.odd; next = record { 0 = 0 }; before = record { 0 = 0 } } in
    let kept = keeps_all (words_of s.heap) ws (blocks_of s.heap) bs s.table t c.take-at.ensures.keeps in
    record {
      cells = (stored_at ws bs e).cells;
      long = length-run _ _ ∙ ap (λ (b : Block). b.len) c.take-at.ensures.block;
      is = same_all ws ws bs bs (set t k (Some e)) c.take_entry.new.self refl refl c.take_entry.ensures ∙ set_all ws bs t k (Some e) ∙ ap (λ xs. set xs k (Some (stored_at ws bs e))) kept;
    }

pub returns-clause-links : goal.returns-clause-links
returns-clause-links c =
    let s = c.args.self.now in
    let k = c.args.o.0 / 2 in
    let t = c.take-at.new.t in
    let e : Entry = record { at = c.take-at.result; kind = c.args.kind; odd = c.args.odd; next = record { 0 = 0 }; before = record { 0 = 0 } } in
    let was = λ (j : ℕ). c.take-at.ensures.keeps.entry j in
    let now = λ (j : ℕ) (ne : j ≢ k). ap (λ (es : List (Option Entry)). get_or es j None) c.take_entry.ensures ∙ get_or-set_other t k j (Some e) None ne ∙ was j in
    record {
      next = λ j ne. ap next_in (now j ne) ∙ next_moved (get_or s.table j None) _;
      before = λ j ne. ap before_in (now j ne) ∙ before_moved (get_or s.table j None) _;
    }
