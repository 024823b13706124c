-- What changes of the heap and the table leave of what is stored.
use Rattle.std.proofs.Common.{◌≡◌, ◌≢◌, ℕ, zero, suc, ◌+◌, ◌/◌, ◌<◌, Bool, true, false, List, [], ◌∷◌, Option, Some, None, length, get_or, set, map, refl, sym, ap, ◌∙◌, arith, inl, inr, length-set, is_some}
use Rattle.std.specs.Prelude.{◌==◌, unwrap_or}
use Rattle.std.specs.Option.{option_map}
use Rattle.std.proofs.lemmas.Bool.{cases_lt}
use Rattle.std.proofs.lemmas.List.{length-map, map-set, ext_get_or, get_or-set_same, get_or-set_other}
use Rattle.st_table.specs.declared.entry.Entry.{Entry}
use Rattle.st_heap.specs.declared.block.Block.{Block}
use Rattle.st_heap.specs.inside.Blocks.{block, block_at, entry_at, moved_entry, IsLaid, IsTied, KeepsBlocks, HoldsPlace}
use Rattle.st_heap.specs.declared.heap.Heap.{Heap}
use Rattle.st_heap.specs.inside.Heaps.{words_of, blocks_of}
use Rattle.st_heap.proofs.Laying.{entered_owner, entry_inside}
use Rattle.st_heap.specs.inside.Stored.{Stored, run, stored_at, stored_all, slot, stored, nothing_stored, with_cell}
use Rattle.st_heap.proofs.Runs.{run_same, run_set, length-run}

pub slot-all : (ws : List ℕ) (bs : List Block) (es : List (Option Entry)) (k : ℕ) → slot (stored_all ws bs es) k ≡ option_map (stored_at ws bs) (get_or es k None)
slot-all ws bs [] k = refl
slot-all ws bs (e ∷ es) zero = refl
slot-all ws bs (e ∷ es) (suc k) = slot-all ws bs es k

pub length-all : (ws : List ℕ) (bs : List Block) (es : List (Option Entry)) → length (stored_all ws bs es) ≡ length es
length-all ws bs es = length-map es (option_map (stored_at ws bs))

pub all_same : (xs ys : List (Option Stored)) → length xs ≡ length ys → ((k : ℕ) → slot xs k ≡ slot ys k) → xs ≡ ys
all_same xs ys long same = ext_get_or None xs ys long (λ k l. same k)

-- the same kind, mark and words
stored_same : (ws ws' : List ℕ) (bs bs' : List Block) (e e' : Entry) → e'.kind ≡ e.kind → e'.odd ≡ e.odd → (block_at bs' e'.at).len ≡ (block_at bs e.at).len → ((i : ℕ) → i < (block_at bs e.at).len → get_or ws' (e'.at + i) 0 ≡ get_or ws (e.at + i) 0) → stored_at ws' bs' e' ≡ stored_at ws bs e
stored_same ws ws' bs bs' e e' kind odd long words =
    let cells : run (λ i. get_or ws' (e'.at + i) 0) (block_at bs' e'.at).len ≡ run (λ i. get_or ws (e.at + i) 0) (block_at bs e.at).len =
    ap (run (λ i. get_or ws' (e'.at + i) 0)) long ∙ run_same (λ i. get_or ws' (e'.at + i) 0) (λ i. get_or ws (e.at + i) 0) (block_at bs e.at).len words in
    λ i. record { kind = kind i; odd = odd i; cells = cells i }

-- what stands through moves
pub keeps_all : (ws ws' : List ℕ) (bs bs' : List Block) (es es' : List (Option Entry)) → KeepsBlocks ws bs es ws' bs' es' → stored_all ws' bs' es' ≡ stored_all ws bs es
keeps_all ws ws' bs bs' es es' keeps =
    all_same (stored_all ws' bs' es') (stored_all ws bs es) (length-all ws' bs' es' ∙ keeps.size ∙ sym (length-all ws bs es)) (λ k.
    slot-all ws' bs' es' k ∙ by_entry (get_or es k None) (get_or es' k None) (keeps.entry k) (λ e is. keeps.long k e is) (λ e i is. keeps.word k e i is) ∙ sym (slot-all ws bs es k))
  where
    by_entry : (x x' : Option Entry) → x' ≡ moved_entry x (entry_at x') → ((e : Entry) → x ≡ Some e → (block_at bs' (entry_at x')).len ≡ (block_at bs e.at).len)
        → ((e : Entry) (i : ℕ) → x ≡ Some e → i < (block_at bs e.at).len → get_or ws' (entry_at x' + i) 0 ≡ get_or ws (e.at + i) 0)
        → option_map (stored_at ws' bs') x' ≡ option_map (stored_at ws bs) x
    by_entry None x' is long words = ap (option_map (stored_at ws' bs')) is
    by_entry (Some e) x' is long words =
        let moved : Entry = record { at = entry_at x'; kind = e.kind; odd = e.odd; next = e.next; before = e.before } in
        ap (option_map (stored_at ws' bs')) is ∙ ap Some (stored_same ws ws' bs bs' e moved refl refl (long e refl) (λ i. words e i refl))

-- owners are no part of what is stored
pub lengths_all : (ws : List ℕ) (bs bs' : List Block) (es : List (Option Entry)) → ((j : ℕ) → (block bs' j).len ≡ (block bs j).len) → stored_all ws bs' es ≡ stored_all ws bs es
lengths_all ws bs bs' es same = λ i. map (option_map (λ (e : Entry). record { kind = e.kind; odd = e.odd; cells = run (λ j. get_or ws (e.at + j) 0) (same (e.at / 2) i) })) es

pub set_all : (ws : List ℕ) (bs : List Block) (es : List (Option Entry)) (k : ℕ) (x : Option Entry) → stored_all ws bs (set es k x) ≡ set (stored_all ws bs es) k (option_map (stored_at ws bs) x)
set_all ws bs es k x = map-set (option_map (stored_at ws bs)) es k x

module _ (ws : List ℕ) (bs : List Block) (end free : ℕ) (es : List (Option Entry)) (laid : IsLaid ws bs end free) (tied : IsTied es bs) where
  -- the words of an entry are held
  pub holds_entry : (k : ℕ) (e : Entry) (i : ℕ) → get_or es k None ≡ Some e → i < (block_at bs e.at).len → HoldsPlace bs (e.at + i)
  holds_entry k e i is below =
      let there = (tied.placed k e is).1 in
      (e.at / 2, entered_owner es bs k e tied is, omega (arith, there), omega (arith, there, below))

  pub within_words : (k : ℕ) (e : Entry) (i : ℕ) → get_or es k None ≡ Some e → i < (block_at bs e.at).len → e.at + i < length ws
  within_words k e i is below =
      let there = (tied.placed k e is).1 in
      let some = laid.owned (e.at / 2) (entered_owner es bs k e tied is) in
      let within = laid.within (e.at / 2) some in
      let last = laid.last in
      omega (arith, there, below, within, last)

  -- words of two entries lie apart
  words_apart : (k q : ℕ) (e f : Entry) (i j : ℕ) → k ≢ q → get_or es k None ≡ Some e → get_or es q None ≡ Some f → i < (block_at bs e.at).len → j < (block_at bs f.at).len → f.at + j ≢ e.at + i
  words_apart k q e f i j ne is is' below below' same =
      let one = tied.placed k e is in
      let two = tied.placed q f is' in
      let owner = one.0 in
      let owner' = two.0 in
      let there = one.1 in
      let there' = two.1 in
      let some = laid.owned (e.at / 2) (entered_owner es bs k e tied is) in
      let some' = laid.owned (f.at / 2) (entered_owner es bs q f tied is') in
      let differ : e.at / 2 ≢ f.at / 2 = λ z. let both : (block_at bs e.at).owner.0 ≡ (block_at bs f.at).owner.0 = ap (λ n. (block bs n).owner.0) z in ne (omega (arith, owner, owner', both)) in
      elim (cases_lt (e.at / 2) (f.at / 2)) [
        | inl l ↦ let apart = laid.apart (e.at / 2) (f.at / 2) l some some' in omega (arith, apart, there, there', below, below', same)
        | inr l ↦ let apart = laid.apart (f.at / 2) (e.at / 2) (omega (arith, l, differ)) some' some in omega (arith, apart, there, there', below, below', same)
      ]

  pub stored_set : (k : ℕ) (e : Entry) (i w : ℕ) → get_or es k None ≡ Some e → i < (block_at bs e.at).len → stored_at (set ws (e.at + i) w) bs e ≡ with_cell (stored_at ws bs e) i w
  stored_set k e i w is below =
      let c = run_set (λ j. get_or ws (e.at + j) 0) (λ j. get_or (set ws (e.at + i) w) (e.at + j) 0) (block_at bs e.at).len i w below
      (get_or-set_same ws (e.at + i) w 0 (within_words k e i is below))
      (λ j l ne. get_or-set_other ws (e.at + i) (e.at + j) w 0 (λ z. ne (omega (arith, z)))) in
      λ t. record { kind = e.kind; odd = e.odd; cells = c t }

  -- a word that is written in a block
  pub word_set : (k : ℕ) (e : Entry) (i w : ℕ) → get_or es k None ≡ Some e → i < (block_at bs e.at).len → stored_all (set ws (e.at + i) w) bs es ≡ set (stored_all ws bs es) k (Some (with_cell (stored_at ws bs e) i w))
  word_set k e i w is below =
      all_same (stored_all (set ws (e.at + i) w) bs es) (set (stored_all ws bs es) k (Some (with_cell (stored_at ws bs e) i w)))
      (length-all (set ws (e.at + i) w) bs es ∙ sym (length-all ws bs es) ∙ sym (length-set (stored_all ws bs es) k (Some (with_cell (stored_at ws bs e) i w))))
      (λ q. at q (q == k) refl)
    where
      other : (q : ℕ) → q ≢ k → (x : Option Entry) → get_or es q None ≡ x → option_map (stored_at (set ws (e.at + i) w) bs) x ≡ option_map (stored_at ws bs) x
      other q ne None is' = refl
      other q ne (Some f) is' = ap Some (stored_same ws (set ws (e.at + i) w) bs bs f f refl refl refl (λ j l. get_or-set_other ws (e.at + i) (f.at + j) w 0 (words_apart k q e f i j (λ z. ne (sym z)) is is' below l)))

      at : (q : ℕ) (b : Bool) → (q == k) ≡ b → slot (stored_all (set ws (e.at + i) w) bs es) q ≡ slot (set (stored_all ws bs es) k (Some (with_cell (stored_at ws bs e) i w))) q
      at q true m =
          let z : q ≡ k = grind (arith, m) in
          let inside = entry_inside es k e is in
          let long = length-all ws bs es in
          slot-all (set ws (e.at + i) w) bs es q ∙ ap (λ n. option_map (stored_at (set ws (e.at + i) w) bs) (get_or es n None)) z ∙ ap (option_map (stored_at (set ws (e.at + i) w) bs)) is ∙ ap Some (stored_set k e i w is below)
          ∙ sym (get_or-set_same (stored_all ws bs es) k (Some (with_cell (stored_at ws bs e) i w)) None (omega (arith, inside, long)))
          ∙ ap (slot (set (stored_all ws bs es) k (Some (with_cell (stored_at ws bs e) i w)))) (sym z)
      at q false m =
          let ne : q ≢ k = λ z. grind (arith, m, z) in
          slot-all (set ws (e.at + i) w) bs es q ∙ other q ne (get_or es q None) refl ∙ sym (slot-all ws bs es q)
          ∙ sym (get_or-set_other (stored_all ws bs es) k q (Some (with_cell (stored_at ws bs e) i w)) None ne)

-- what is stored at the place of an entry
pub stored_entry : (ws : List ℕ) (bs : List Block) (es : List (Option Entry)) (k : ℕ) (e : Entry) → get_or es k None ≡ Some e → stored (stored_all ws bs es) k ≡ stored_at ws bs e
stored_entry ws bs es k e is = ap (λ x. unwrap_or x nothing_stored) (slot-all ws bs es k ∙ ap (option_map (stored_at ws bs)) is)

pub slot_entry : (ws : List ℕ) (bs : List Block) (es : List (Option Entry)) (k : ℕ) (e : Entry) → get_or es k None ≡ Some e → slot (stored_all ws bs es) k ≡ Some (stored_at ws bs e)
slot_entry ws bs es k e is = slot-all ws bs es k ∙ ap (option_map (stored_at ws bs)) is

-- its words are as many as those of its block
pub length_entry : (ws : List ℕ) (bs : List Block) (es : List (Option Entry)) (k : ℕ) (e : Entry) → get_or es k None ≡ Some e → length (stored (stored_all ws bs es) k).cells ≡ (block_at bs e.at).len
length_entry ws bs es k e is = ap (λ (s : Stored). length s.cells) (stored_entry ws bs es k e is) ∙ length-run (λ i. get_or ws (e.at + i) 0) (block_at bs e.at).len

pub none_entry : (ws : List ℕ) (bs : List Block) (es : List (Option Entry)) (k : ℕ) → slot (stored_all ws bs es) k ≡ None → get_or es k None ≡ None
none_entry ws bs es k h = by_entry (get_or es k None) (sym (slot-all ws bs es k) ∙ h)
  where
    by_entry : (x : Option Entry) → option_map (stored_at ws bs) x ≡ None → x ≡ None
    by_entry None q = refl
    by_entry (Some e) q = cc

pub some_entry : (ws : List ℕ) (bs : List Block) (es : List (Option Entry)) (k : ℕ) → is_some (get_or es k None) ≡ is_some (slot (stored_all ws bs es) k)
some_entry ws bs es k = by_entry (get_or es k None) ∙ ap is_some (sym (slot-all ws bs es k))
  where
    by_entry : (x : Option Entry) → is_some x ≡ is_some (option_map (stored_at ws bs) x)
    by_entry None = refl
    by_entry (Some e) = refl

-- a place within what is stored is one within the block
pub entry_below : (ws : List ℕ) (bs : List Block) (es : List (Option Entry)) (k : ℕ) (e : Entry) (i : ℕ) → get_or es k None ≡ Some e → i < length (stored (stored_all ws bs es) k).cells → i < (block_at bs e.at).len
entry_below ws bs es k e i is below = let long = length_entry ws bs es k e is in omega (arith, below, long)

-- where there is no entry, nothing is stored
pub none_stored : (ws : List ℕ) (bs : List Block) (es : List (Option Entry)) (k : ℕ) → get_or es k None ≡ None → slot (stored_all ws bs es) k ≡ None
none_stored ws bs es k is = slot-all ws bs es k ∙ ap (option_map (stored_at ws bs)) is

-- the same of two heaps
pub words_set : (h h' : Heap) (es : List (Option Entry)) (e : Entry) (i w : ℕ) → words_of h' ≡ set (words_of h) (e.at + i) w → blocks_of h' ≡ blocks_of h → stored_all (words_of h') (blocks_of h') es ≡ stored_all (set (words_of h) (e.at + i) w) (blocks_of h) es
words_set h h' es e i w words blocks = λ t. stored_all (words t) (blocks t) es

pub same_all : (ws ws' : List ℕ) (bs bs' : List Block) (es es' : List (Option Entry)) → ws' ≡ ws → bs' ≡ bs → es' ≡ es → stored_all ws' bs' es' ≡ stored_all ws bs es
same_all ws ws' bs bs' es es' words blocks entries = λ t. stored_all (words t) (blocks t) (entries t)
