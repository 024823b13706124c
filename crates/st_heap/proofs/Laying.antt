-- Steps that change one place of the list of blocks.
use Rattle.std.proofs.Common.{◌≡◌, ◌≢◌, ℕ, ◌+◌, ◌*◌, ◌/◌, ◌%◌, ◌^◌, ◌<◌, ◌≤◌, Bool, true, false, cond, List, [], ◌∷◌, zero, suc, Option, Some, None, length, get_or, set, replicate, refl, sym, ap, ◌∙◌, subst, arith, length-set}
use Rattle.std.specs.Prelude.{◌==◌, nat_lt}
use Rattle.std.proofs.lemmas.List.{get_or-set_same, get_or-set_other, get_or-replicate, length-replicate, get_or_past}
use Rattle.st_model.specs.declared.oop.Oop.{Oop}
use Rattle.st_table.specs.declared.entry.Entry.{Entry}
use Rattle.st_heap.specs.declared.block.Block.{Block}
use Rattle.st_heap.specs.inside.Blocks.{none, block, block_at, taken, held, IsLaid, IsTied, IsClosedBelow, KeepsBlocks, entry_at, moved_entry}

-- what holds of the place that was set and of the others holds of each
pub by_set : (bs : List Block) (k : ℕ) (x : Block) (j : ℕ) (P : Block → Type 0) → k < length bs → (j ≡ k → P x) → (j ≢ k → P (block bs j)) → P (block (set bs k x) j)
by_set bs k x j P within here there = split (j == k) refl
  where
    split : (b : Bool) → (j == k) ≡ b → P (block (set bs k x) j)
    split true q = let at : j ≡ k = grind (arith, q) in subst P (sym (ap (block (set bs k x)) at ∙ get_or-set_same bs k x none within)) (here at)
    split false q = let ne : j ≢ k = λ z. grind (arith, q, z) in subst P (sym (get_or-set_other bs k j x none ne)) (there ne)

pub taken_unowned : (b : Block) → b.owner.0 ≡ 0 → taken b ≡ 0
taken_unowned b e = ap (λ n. cond (n == 0) 0 b.len) e

pub taken_owned : (b : Block) → b.owner.0 ≢ 0 → taken b ≡ b.len
taken_owned b ne = by_test (b.owner.0 == 0) refl
  where
    by_test : (t : Bool) → (b.owner.0 == 0) ≡ t → taken b ≡ b.len
    by_test true q = absurd (ne (grind (arith, q)))
    by_test false q = ap (λ t. cond t 0 b.len) q

exchanged_sum : (a b c : ℕ) → (a + b) + c ≡ (c + b) + a
exchanged_sum a b c = omega arith

carried_sum : (t a b c d : ℕ) → a + b ≡ c + d → (t + a) + b ≡ (t + c) + d
carried_sum t a b c d e = omega (arith, e)

-- a place that is set changes the words that are held by its own
pub held_set : (bs : List Block) (k : ℕ) (x : Block) → k < length bs → held (set bs k x) + taken (block bs k) ≡ held bs + taken x
held_set [] k x within = absurd (omega (arith, within))
held_set (b ∷ bs) zero x within = exchanged_sum (taken x) (held bs) (taken b)
held_set (b ∷ bs) (suc k) x within = carried_sum (taken b) (held (set bs k x)) (taken (block bs k)) (held bs) (taken x) (held_set bs k x (omega (arith, within)))

-- a block or hole fits at place k of the list
pub record FitsAt (bs : List Block) (end k : ℕ) (x : Block) : Type 0 where
  pub owned : x.owner.0 ≢ 0 → 0 < x.len
  pub half : 0 < x.len → x.at / 2 ≡ k
  pub long : 0 < x.len → 2 ≤ x.len
  pub within : 0 < x.len → x.at + x.len ≤ end
  pub before : (j : ℕ) → j < k → 0 < (block bs j).len → 0 < x.len → (block bs j).at + (block bs j).len ≤ x.at
  pub after : (j : ℕ) → k < j → 0 < (block bs j).len → 0 < x.len → x.at + x.len ≤ (block bs j).at

pub laid_set : (ws : List ℕ) (bs : List Block) (end free k : ℕ) (x : Block) (end' free' : ℕ) → IsLaid ws bs end free → k < length bs → end ≤ end' → end' ≤ length ws → FitsAt bs end' k x → free' + held (set bs k x) ≡ length ws → IsLaid ws (set bs k x) end' free'
laid_set ws bs end free k x end' free' laid inside more last fits sum =
    let size = laid.size in
    let same : length (set bs k x) ≡ length bs = length-set bs k x in
    record {
      size = omega (arith, size, same);
      small = laid.small;
      last = last;
      owned = λ j. by_set bs k x j (λ y. y.owner.0 ≢ 0 → 0 < y.len) inside (λ at. fits.owned) (λ ne. laid.owned j);
      half = λ j. by_set bs k x j (λ y. 0 < y.len → y.at / 2 ≡ j) inside (λ at some. fits.half some ∙ sym at) (λ ne. laid.half j);
      long = λ j. by_set bs k x j (λ y. 0 < y.len → 2 ≤ y.len) inside (λ at. fits.long) (λ ne. laid.long j);
      within = λ j. by_set bs k x j (λ y. 0 < y.len → y.at + y.len ≤ end') inside (λ at. fits.within) (λ ne some. let old = laid.within j some in omega (arith, old, more));
      apart = λ i j lower.
          by_set bs k x i (λ y. 0 < y.len → 0 < (block (set bs k x) j).len → y.at + y.len ≤ (block (set bs k x) j).at) inside
          (λ at some. by_set bs k x j (λ z. 0 < z.len → x.at + x.len ≤ z.at) inside (λ at'. absurd (omega (arith, lower, at, at'))) (λ ne' some'. fits.after j (omega (arith, lower, at)) some' some))
          (λ ne some. by_set bs k x j (λ z. 0 < z.len → (block bs i).at + (block bs i).len ≤ z.at) inside (λ at' some'. fits.before i (omega (arith, lower, at')) some some') (λ ne'. laid.apart i j lower some));
      sum = sum;
    }

-- nothing fits anywhere
pub none_fits : (bs : List Block) (end k : ℕ) → FitsAt bs end k none
none_fits bs end k = record {
  owned = λ no. absurd (no refl);
  half = λ no. absurd (omega (arith, no));
  long = λ no. absurd (omega (arith, no));
  within = λ no. absurd (omega (arith, no));
  before = λ j lower some no. absurd (omega (arith, no));
  after = λ j upper some no. absurd (omega (arith, no));
}

-- what stands at a place fits there with another owner
pub owner_fits : (ws : List ℕ) (bs : List Block) (end free k : ℕ) (o : Oop) → IsLaid ws bs end free → (o.0 ≢ 0 → 0 < (block bs k).len) → FitsAt bs end k (record { owner = o; at = (block bs k).at; len = (block bs k).len })
owner_fits ws bs end free k o laid some = record {
  owned = some;
  half = laid.half k;
  long = laid.long k;
  within = laid.within k;
  before = λ j lower other here. laid.apart j k lower other here;
  after = λ j upper other here. laid.apart k j upper here other;
}

-- at the end a block fits
pub end_fits : (ws : List ℕ) (bs : List Block) (end free n : ℕ) (o : Oop) → IsLaid ws bs end free → 2 ≤ n → FitsAt bs (end + n) (end / 2) (record { owner = o; at = end; len = n })
end_fits ws bs end free n o laid many = record {
  owned = λ no. omega (arith, many);
  half = λ some. refl;
  long = λ some. many;
  within = λ some. omega arith;
  before = λ j lower other some. laid.within j other;
  after = λ j upper other some. let half = laid.half j other in let long = laid.long j other in let within = laid.within j other in absurd (omega (arith, upper, half, long, within));
}

-- at the half of the end nothing stands
pub end_unowned : (ws : List ℕ) (bs : List Block) (end free : ℕ) → IsLaid ws bs end free → (block bs (end / 2)).owner.0 ≡ 0
end_unowned ws bs end free laid = by_owner (block bs (end / 2)).owner.0 refl
  where
    by_owner : (n : ℕ) → n ≡ (block bs (end / 2)).owner.0 → (block bs (end / 2)).owner.0 ≡ 0
    by_owner zero e = sym e
    by_owner (suc n) e =
        let some = laid.owned (end / 2) (λ z. omega (arith, e, z)) in
        let half = laid.half (end / 2) some in
        let long = laid.long (end / 2) some in
        let within = laid.within (end / 2) some in absurd (omega (arith, half, long, within))

-- an entry's pointer is not 0
pub entered_owner : (es : List (Option Entry)) (bs : List Block) (q : ℕ) (e : Entry) → IsTied es bs → get_or es q None ≡ Some e → (block_at bs e.at).owner.0 ≢ 0
entered_owner es bs zero e tied is z = let no : Some e ≡ None = sym is ∙ tied.first in cc
entered_owner es bs (suc q) e tied is z = let two = (tied.placed (suc q) e is).0 in omega (arith, two, z)

-- the block of an entry is not at a place without an owner
pub entry_elsewhere : (es : List (Option Entry)) (bs : List Block) (k q : ℕ) (e : Entry) → IsTied es bs → (block bs k).owner.0 ≡ 0 → get_or es q None ≡ Some e → e.at / 2 ≢ k
entry_elsewhere es bs k q e tied free is z = entered_owner es bs q e tied is (ap (λ j. (block bs j).owner.0) z ∙ free)

-- an entry is within the list
pub entry_inside : (es : List (Option Entry)) (q : ℕ) (e : Entry) → get_or es q None ≡ Some e → q < length es
entry_inside es q e is = by_test (nat_lt q (length es)) refl
  where
    by_test : (t : Bool) → nat_lt q (length es) ≡ t → q < length es
    by_test true m = grind (arith, m)
    by_test false m =
        let past : length es ≤ q = grind (arith, m) in
        let none_there : get_or es q None ≡ None = get_or_past es q None past in
        let clash : Some e ≡ None = sym is ∙ none_there in cc

pub same_entry : (x : Option Entry) → x ≡ moved_entry x (entry_at x)
same_entry None = refl
same_entry (Some e) = refl

-- a change at a place without an owner keeps all blocks
pub keeps_set : (ws : List ℕ) (bs : List Block) (es : List (Option Entry)) (k : ℕ) (x : Block) → IsTied es bs → (block bs k).owner.0 ≡ 0 → KeepsBlocks ws bs es ws (set bs k x) es
keeps_set ws bs es k x tied free = record {
  size = refl;
  entry = λ q. same_entry (get_or es q None);
  long = λ q e is. ap (λ y. (block_at (set bs k x) (entry_at y)).len) is ∙ ap (λ (b : Block). b.len) (get_or-set_other bs k (e.at / 2) x none (entry_elsewhere es bs k q e tied free is));
  word = λ q e i is below. ap (λ y. get_or ws (entry_at y + i) 0) is;
}

-- a hole that is forgotten leaves the owners tied
pub tied_forget : (es : List (Option Entry)) (bs : List Block) (k : ℕ) → IsTied es bs → k < length bs → (block bs k).owner.0 ≡ 0 → IsTied es (set bs k none)
tied_forget es bs k tied within free = record {
  first = tied.first;
  placed = λ q e is. let other = get_or-set_other bs k (e.at / 2) none none (entry_elsewhere es bs k q e tied free is) in let old = tied.placed q e is in (ap (λ (b : Block). b.owner.0) other ∙ old.0, ap (λ (b : Block). b.at) other ∙ old.1);
  even = λ j. by_set bs k none j (λ y. y.owner.0 ≢ 0 → y.owner.0 % 2 ≡ 0) within (λ at no. absurd (no refl)) (λ ne. tied.even j);
  entered = λ j. by_set bs k none j (λ y. y.owner.0 ≢ 0 → (e : Entry) × (get_or es (y.owner.0 / 2) None ≡ Some e) × (e.at ≡ y.at)) within (λ at no. absurd (no refl)) (λ ne. tied.entered j);
}

-- a block whose owner gets an entry with its place
pub tied_taken : (es : List (Option Entry)) (bs : List Block) (k : ℕ) (x : Block) (e : Entry) → IsTied es bs → k < length bs → (block bs k).owner.0 ≡ 0 → x.owner.0 % 2 ≡ 0 → x.owner.0 ≢ 0 → x.owner.0 / 2 < length es → get_or es (x.owner.0 / 2) None ≡ None → x.at / 2 ≡ k → e.at ≡ x.at → IsTied (set es (x.owner.0 / 2) (Some e)) (set bs k x)
tied_taken es bs k x e tied within free even owned inside absent half at = record {
  first = get_or-set_other es (x.owner.0 / 2) 0 (Some e) None (omega (arith, even, owned)) ∙ tied.first;
  placed = λ q f is. placed q f is (q == x.owner.0 / 2) refl;
  even = λ j. by_set bs k x j (λ y. y.owner.0 ≢ 0 → y.owner.0 % 2 ≡ 0) within (λ at no. even) (λ ne. tied.even j);
  entered = λ j. by_set bs k x j (λ y. y.owner.0 ≢ 0 → (f : Entry) × (get_or (set es (x.owner.0 / 2) (Some e)) (y.owner.0 / 2) None ≡ Some f) × (f.at ≡ y.at)) within
      (λ at' no. (e, get_or-set_same es (x.owner.0 / 2) (Some e) None inside, at))
      (λ ne no. let old = tied.entered j no in (old.0, get_or-set_other es (x.owner.0 / 2) ((block bs j).owner.0 / 2) (Some e) None (λ z. let no' : Some old.0 ≡ None = sym old.1 ∙ ap (λ i. get_or es i None) z ∙ absent in cc) ∙ old.1, old.2));
}
  where
    placed : (q : ℕ) (f : Entry) → get_or (set es (x.owner.0 / 2) (Some e)) q None ≡ Some f → (b : Bool) → (q == x.owner.0 / 2) ≡ b → ((block_at (set bs k x) f.at).owner.0 ≡ 2 * q) × ((block_at (set bs k x) f.at).at ≡ f.at)
    placed q f is true m =
        let same : q ≡ x.owner.0 / 2 = grind (arith, m) in
        let is' : Some e ≡ Some f = sym (ap (λ i. get_or (set es (x.owner.0 / 2) (Some e)) i None) same ∙ get_or-set_same es (x.owner.0 / 2) (Some e) None inside) ∙ is in
        let there : f.at ≡ x.at = sym (ap entry_at is') ∙ at in
        let here : block_at (set bs k x) f.at ≡ x = ap (λ i. block (set bs k x) (i / 2)) there ∙ ap (block (set bs k x)) half ∙ get_or-set_same bs k x none within in
        (ap (λ (b : Block). b.owner.0) here ∙ omega (arith, same, even), ap (λ (b : Block). b.at) here ∙ sym there)
    placed q f is false m =
        let ne : q ≢ x.owner.0 / 2 = λ z. grind (arith, m, z) in
        let is' : get_or es q None ≡ Some f = sym (get_or-set_other es (x.owner.0 / 2) q (Some e) None ne) ∙ is in
        let other = get_or-set_other bs k (f.at / 2) x none (entry_elsewhere es bs k q f tied free is') in
        let old = tied.placed q f is' in (ap (λ (b : Block). b.owner.0) other ∙ old.0, ap (λ (b : Block). b.at) other ∙ old.1)

-- only the number of words is told of
pub laid_words : (ws v : List ℕ) (bs : List Block) (end free : ℕ) → length v ≡ length ws → IsLaid ws bs end free → IsLaid v bs end free
laid_words ws v bs end free same laid =
    let size = laid.size in
    let small = laid.small in
    let last = laid.last in
    let sum = laid.sum in
    record {
      size = omega (arith, size, same);
      small = omega (arith, small, same);
      last = omega (arith, last, same);
      owned = laid.owned;
      half = laid.half;
      long = laid.long;
      within = laid.within;
      apart = laid.apart;
      sum = omega (arith, sum, same);
    }

-- what has words stands in the list
pub long_inside : (bs : List Block) (j : ℕ) → 0 < (block bs j).len → j < length bs
long_inside bs j some = by_test (nat_lt j (length bs)) refl
  where
    by_test : (t : Bool) → nat_lt j (length bs) ≡ t → j < length bs
    by_test true m = grind (arith, m)
    by_test false m =
        let past : length bs ≤ j = grind (arith, m) in
        let nothing : (block bs j).len ≡ 0 = ap (λ (b : Block). b.len) (get_or_past bs j none past) in absurd (omega (arith, some, nothing))

-- what has an owner stands in the list
pub owned_inside : (ws : List ℕ) (bs : List Block) (end free j : ℕ) → IsLaid ws bs end free → (block bs j).owner.0 ≢ 0 → j < length bs
owned_inside ws bs end free j laid owned = long_inside bs j (laid.owned j owned)

-- where all ends at a place, that is an end
pub laid_closed : (ws : List ℕ) (bs : List Block) (end free to : ℕ) → IsLaid ws bs end free → IsClosedBelow bs (length bs) to → to ≤ length ws → IsLaid ws bs to free
laid_closed ws bs end free to laid closed last = record {
  size = laid.size;
  small = laid.small;
  last = last;
  owned = laid.owned;
  half = laid.half;
  long = laid.long;
  within = λ k some. closed k (long_inside bs k some) some;
  apart = laid.apart;
  sum = laid.sum;
}

-- a heap without blocks
pub laid_new : (ws : List ℕ) (n m : ℕ) → length ws ≡ n → n < 2 ^ 32 → m ≡ n / 2 + 1 → IsLaid ws (replicate m none) 0 n
laid_new ws n m size small halves =
    let empty = nothing m in
    let count = length-replicate m none in
    let sum = held_nothing m in
    record {
      size = omega (arith, size, halves, count);
      small = omega (arith, size, small);
      last = omega arith;
      owned = λ k no'. absurd (no' (ap (λ (b : Block). b.owner.0) (empty k)));
      half = λ k some. let e = ap (λ (b : Block). b.len) (empty k) in absurd (omega (arith, some, e));
      long = λ k some. let e = ap (λ (b : Block). b.len) (empty k) in absurd (omega (arith, some, e));
      within = λ k some. let e = ap (λ (b : Block). b.len) (empty k) in absurd (omega (arith, some, e));
      apart = λ j k lower some here. let e = ap (λ (b : Block). b.len) (empty j) in absurd (omega (arith, some, e));
      sum = omega (arith, size, sum);
    }
  where
    nothing : (m k : ℕ) → block (replicate m none) k ≡ none
    nothing m k = by_test (nat_lt k m) refl
      where
        by_test : (t : Bool) → nat_lt k m ≡ t → block (replicate m none) k ≡ none
        by_test true q = get_or-replicate m k none none (grind (arith, q))
        by_test false q =
            let count = length-replicate m none in
            let past : m ≤ k = grind (arith, q) in get_or_past (replicate m none) k none (omega (arith, count, past))

    held_nothing : (m : ℕ) → held (replicate m none) ≡ 0
    held_nothing zero = refl
    held_nothing (suc m) = let below = held_nothing m in omega (arith, below)

abbrev at_place : Entry → ℕ → Entry
at_place e at = record { at = at; kind = e.kind; odd = e.odd; next = e.next; before = e.before }

-- what is kept twice is kept
pub keeps_through : (w1 : List ℕ) (b1 : List Block) (e1 : List (Option Entry)) (w2 : List ℕ) (b2 : List Block) (e2 : List (Option Entry)) (w3 : List ℕ) (b3 : List Block) (e3 : List (Option Entry)) → KeepsBlocks w1 b1 e1 w2 b2 e2 → KeepsBlocks w2 b2 e2 w3 b3 e3 → KeepsBlocks w1 b1 e1 w3 b3 e3
keeps_through w1 b1 e1 w2 b2 e2 w3 b3 e3 first second = record {
  size = second.size ∙ first.size;
  entry = λ k. second.entry k ∙ ap (λ x. moved_entry x (entry_at (get_or e3 k None))) (first.entry k) ∙ moved_twice (get_or e1 k None) (entry_at (get_or e2 k None)) (entry_at (get_or e3 k None));
  long = λ k e is. second.long k (at_place e (entry_at (get_or e2 k None))) (is_there k e is) ∙ first.long k e is;
  word = λ k e i is under.
      second.word k (at_place e (entry_at (get_or e2 k None))) i (is_there k e is) (let size = first.long k e is in omega (arith, size, under)) ∙ first.word k e i is under;
}
  where
    moved_twice : (x : Option Entry) (m n : ℕ) → moved_entry (moved_entry x m) n ≡ moved_entry x n
    moved_twice None m n = refl
    moved_twice (Some e) m n = refl

    is_there : (k : ℕ) (e : Entry) → get_or e1 k None ≡ Some e → get_or e2 k None ≡ Some (at_place e (entry_at (get_or e2 k None)))
    is_there k e is = first.entry k ∙ ap (λ x. moved_entry x (entry_at (get_or e2 k None))) is

pub keeps_same : (ws : List ℕ) (bs : List Block) (es : List (Option Entry)) → KeepsBlocks ws bs es ws bs es
keeps_same ws bs es = record {
  size = refl;
  entry = λ k. same_entry (get_or es k None);
  long = λ k e is. ap (λ x. (block_at bs (entry_at x)).len) is;
  word = λ k e i is under. ap (λ x. get_or ws (entry_at x + i) 0) is;
}

-- the words of a block are among those that are held
pub held_above : (bs : List Block) (k : ℕ) → k < length bs → taken (block bs k) ≤ held bs
held_above bs k within = let change = held_set bs k none within in omega (arith, change)

-- a hole becomes a block, or a block a hole
pub laid_owner : (ws : List ℕ) (bs : List Block) (end free k : ℕ) (o : Oop) (free' : ℕ) → IsLaid ws bs end free → k < length bs → 0 < (block bs k).len → free' + taken (record { owner = o; at = (block bs k).at; len = (block bs k).len }) ≡ free + taken (block bs k) → IsLaid ws (set bs k (record { owner = o; at = (block bs k).at; len = (block bs k).len })) end free'
laid_owner ws bs end free k o free' laid within some change =
    let sum = laid.sum in
    let step = held_set bs k (record { owner = o; at = (block bs k).at; len = (block bs k).len }) within in
    laid_set ws bs end free k (record { owner = o; at = (block bs k).at; len = (block bs k).len }) end free' laid within (omega arith) laid.last (owner_fits ws bs end free k o laid (λ other. some)) (omega (arith, sum, step, change))
