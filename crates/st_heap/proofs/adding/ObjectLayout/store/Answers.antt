use Rattle.std.proofs.Common.{◌≡◌, ◌≢◌, ℕ, ◌+◌, ◌/◌, ◌<◌, Bool, true, false, List, Some, None, length, get_or, set, refl, sym, ap, ◌∙◌, arith, length-set}
use Rattle.std.specs.Prelude.{◌==◌, unwrap_or}
use Rattle.std.proofs.lemmas.List.{set-set, get_or-set_same, get_or-set_other}
use Rattle.std.proofs.lemmas.List.FromFn.{fill_by_all}
use Rattle.st_heap.specs.inside.Stored.{Stored, stored, nothing_stored, with_cell}
use Rattle.st_heap.specs.inside.Stores.{stored_of}
use Rattle.st_heap.specs.inside.Fresh.{new_cell}
use Rattle.st_heap.proofs.adding.ObjectLayout.store.Goals as goal

-- one more word is written
more : (f : ℕ → ℕ) (cells : List ℕ) (i w : ℕ) → i < length cells → w ≡ f i → ((j : ℕ) → j < i → get_or cells j 0 ≡ f j) → (j : ℕ) → j < i + 1 → get_or (set cells i w) j 0 ≡ f j
more f cells i w within is below j l = by_place (j == i) refl
  where
    by_place : (b : Bool) → (j == i) ≡ b → get_or (set cells i w) j 0 ≡ f j
    by_place true m = let z : j ≡ i = grind (arith, m) in ap (λ n. get_or (set cells i w) n 0) z ∙ get_or-set_same cells i w 0 within ∙ is ∙ ap f (sym z)
    by_place false m = let ne : j ≢ i = λ z. grind (arith, m, z) in get_or-set_other cells i j w 0 ne ∙ below j (omega (arith, l, ne))

pub loop-i-preserved : goal.loop-i-preserved
loop-i-preserved c =
    let k = c.args.at.0 / 2 in
    let all = stored_of c.args.store.now in
    let was = c.loop-i.invariant in
    let t = was.taken in
    let s : Stored = record { kind = c.args.self.now.kind; odd = c.args.self.now.odd; cells = t.cells } in
    let here : stored (stored_of c.loop-i.store) k ≡ s = ap (λ x. unwrap_or x nothing_stored) (ap (λ xs. get_or xs k None) t.is ∙ get_or-set_same all k (Some s) None c.requires.unused.last) in
    let long = t.long in
    let within : c.loop-i.i < length t.cells = omega (arith, long) in
    record {
      taken = record {
        cells = set t.cells c.loop-i.i c.word.result;
        long = length-set t.cells c.loop-i.i c.word.result ∙ t.long;
        is = c.set_word.ensures.stored ∙ (λ x. set (t.is x) k (Some (with_cell (here x) c.loop-i.i c.word.result))) ∙ set-set all k (Some s) (Some (with_cell s c.loop-i.i c.word.result));
      };
      written = more (new_cell c.args.self.now) t.cells c.loop-i.i c.word.result within c.word.ensures was.written;
      capacity = c.set_word.ensures.capacity ∙ was.capacity;
      links = record { next = λ j ne. c.set_word.ensures.links.next j ∙ was.links.next j ne; before = λ j ne. c.set_word.ensures.links.before j ∙ was.links.before j ne };
    }

pub returns-clause-stored : goal.returns-clause-stored
returns-clause-stored c =
    let k = c.args.at.0 / 2 in
    let all = stored_of c.args.store.now in
    let f = c.args.self.now in
    let t = c.loop-i.invariant.taken in
    let end : c.loop-i.i ≡ f.words = omega arith in
    let cells = fill_by_all (new_cell f) t.cells f.words 0 t.long (λ j l. c.loop-i.invariant.written j (omega (arith, l, end))) in
    t.is ∙ (λ x. set all k (Some (record { kind = f.kind; odd = f.odd; cells = cells x })))
