-- Owners of blocks and entries, as a store keeps them and as the heap asks for them.
use Rattle.std.proofs.Common.{◌≡◌, ◌≢◌, ℕ, ◌/◌, ◌*◌, List, Option, Some, None, Bool, true, false, zero, suc, get_or, set, replicate, is_some, refl, sym, ap, ◌∙◌, arith}
use Rattle.std.specs.Prelude.{◌==◌}
use Rattle.std.proofs.lemmas.List.{get_or-set_same, get_or-set_other}
use Rattle.st_table.specs.declared.entry.Entry.{Entry}
use Rattle.st_heap.specs.declared.block.Block.{Block}
use Rattle.st_heap.specs.inside.Blocks.{none, block, held, block_at, entry_at, IsTied}
use Rattle.st_heap.proofs.Laying.{entry_inside}
use Rattle.st_heap.specs.inside.Stored.{AreTied}

pub entered_of : (x : Option Entry) (at : ℕ) → is_some x ≡ true → entry_at x ≡ at → (e : Entry) × (x ≡ Some e) × (e.at ≡ at)
entered_of None at h p = cc
entered_of (Some e) at h p = (e, refl, p)

pub tied_of : (es : List (Option Entry)) (bs : List Block) → AreTied es bs → IsTied es bs
tied_of es bs tied = record {
  first = tied.first;
  placed = tied.placed;
  even = tied.even;
  entered = λ k owned. let old = tied.entered k owned in entered_of (get_or es ((block bs k).owner.0 / 2) None) (block bs k).at old.0 old.1;
}

pub are_tied : (es : List (Option Entry)) (bs : List Block) → IsTied es bs → AreTied es bs
are_tied es bs tied = record {
  first = tied.first;
  placed = tied.placed;
  even = tied.even;
  entered = λ k owned. let old = tied.entered k owned in (ap is_some old.1, ap entry_at old.1 ∙ old.2);
}

-- an entry that keeps its place keeps the owners tied
pub tied_entry : (es : List (Option Entry)) (bs : List Block) (k : ℕ) (e f : Entry) → IsTied es bs → get_or es k None ≡ Some e → f.at ≡ e.at → IsTied (set es k (Some f)) bs
tied_entry es bs k e f tied is same = record {
  first = first (0 == k) refl;
  placed = λ q g is'. placed q g is' (q == k) refl;
  even = tied.even;
  entered = λ j owned. entered j (tied.entered j owned) ((block bs j).owner.0 / 2 == k) refl;
}
  where
    here : get_or (set es k (Some f)) k None ≡ Some f
    here = get_or-set_same es k (Some f) None (entry_inside es k e is)

    first : (c : Bool) → (0 == k) ≡ c → get_or (set es k (Some f)) 0 None ≡ None
    first true z =
        let at : 0 ≡ k = grind (arith, z) in
        let no : Some e ≡ None = sym is ∙ ap (λ i. get_or es i None) (sym at) ∙ tied.first in cc
    first false z = let ne : 0 ≢ k = λ w. grind (arith, z, w) in get_or-set_other es k 0 (Some f) None ne ∙ tied.first

    placed : (q : ℕ) (g : Entry) → get_or (set es k (Some f)) q None ≡ Some g → (b : Bool) → (q == k) ≡ b → ((block_at bs g.at).owner.0 ≡ 2 * q) × ((block_at bs g.at).at ≡ g.at)
    placed q g is' true m =
        let z : q ≡ k = grind (arith, m) in
        let it : Some f ≡ Some g = sym here ∙ ap (λ i. get_or (set es k (Some f)) i None) (sym z) ∙ is' in
        let at : e.at ≡ g.at = sym same ∙ ap entry_at it in
        let old = tied.placed k e is in
        (ap (λ i. (block_at bs i).owner.0) (sym at) ∙ old.0 ∙ ap (λ i. 2 * i) (sym z), ap (λ i. (block_at bs i).at) (sym at) ∙ old.1 ∙ at)
    placed q g is' false m =
        let ne : q ≢ k = λ w. grind (arith, m, w) in
        tied.placed q g (sym (get_or-set_other es k q (Some f) None ne) ∙ is')

    entered : (j : ℕ) → (g : Entry) × (get_or es ((block bs j).owner.0 / 2) None ≡ Some g) × (g.at ≡ (block bs j).at) → (b : Bool) → ((block bs j).owner.0 / 2 == k) ≡ b
        → (g : Entry) × (get_or (set es k (Some f)) ((block bs j).owner.0 / 2) None ≡ Some g) × (g.at ≡ (block bs j).at)
    entered j old true m =
        let z : (block bs j).owner.0 / 2 ≡ k = grind (arith, m) in
        let it : Some old.0 ≡ Some e = sym old.1 ∙ ap (λ i. get_or es i None) z ∙ is in
        (f, ap (λ i. get_or (set es k (Some f)) i None) z ∙ here, same ∙ sym (ap entry_at it) ∙ old.2)
    entered j old false m =
        let ne : (block bs j).owner.0 / 2 ≢ k = λ w. grind (arith, m, w) in
        (old.0, get_or-set_other es k ((block bs j).owner.0 / 2) (Some f) None ne ∙ old.1, old.2)

pub no_blocks : (m k : ℕ) → block (replicate m none) k ≡ none
no_blocks zero k = refl
no_blocks (suc m) zero = refl
no_blocks (suc m) (suc k) = no_blocks m k

pub no_entries : (n k : ℕ) → get_or (replicate {A = Option Entry} n None) k None ≡ None
no_entries zero k = refl
no_entries (suc n) zero = refl
no_entries (suc n) (suc k) = no_entries n k

-- nothing is tied to nothing
pub tied_empty : (es : List (Option Entry)) (bs : List Block) → ((k : ℕ) → get_or es k None ≡ None) → ((k : ℕ) → block bs k ≡ none) → AreTied es bs
tied_empty es bs no_entry no_block = record {
  first = no_entry 0;
  placed = λ k e is. let clash : Some e ≡ None = sym is ∙ no_entry k in cc;
  even = λ k some. absurd (some (ap (λ (b : Block). b.owner.0) (no_block k)));
  entered = λ k some. absurd (some (ap (λ (b : Block). b.owner.0) (no_block k)));
}

pub held_none : (m : ℕ) → held (replicate m none) ≡ 0
held_none zero = refl
held_none (suc m) = let below = held_none m in omega (arith, below)
