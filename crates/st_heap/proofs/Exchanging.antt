-- Two pointers exchange their blocks.
use Rattle.std.proofs.Common.{◌≡◌, ◌≢◌, ℕ, ◌*◌, ◌/◌, ◌%◌, ◌<◌, Bool, true, false, List, Option, Some, None, length, get_or, set, refl, sym, ap, ◌∙◌, subst, arith, length-set}
use Rattle.std.specs.Prelude.{◌==◌}
use Rattle.std.proofs.lemmas.List.{get_or-set_same, get_or-set_other}
use Rattle.st_model.specs.declared.oop.Oop.{Oop}
use Rattle.st_table.specs.declared.entry.Entry.{Entry}
use Rattle.st_heap.specs.declared.block.Block.{Block}
use Rattle.st_heap.specs.inside.Blocks.{block, block_at, with_owner, IsLaid, IsTied, entry_at}
use Rattle.st_heap.proofs.Laying.{by_set, taken_owned, laid_owner, entered_owner, entry_inside, owned_inside}

module _ (ws : List ℕ) (bs : List Block) (end free : ℕ) (laid : IsLaid ws bs end free) (es : List (Option Entry)) (tied : IsTied es bs) (a b : Oop) (e f : Entry) (even_a : a.0 % 2 ≡ 0) (even_b : b.0 % 2 ≡ 0) (is_e : get_or es (a.0 / 2) None ≡ Some e) (is_f : get_or es (b.0 / 2) None ≡ Some f) where
  abbrev to_f : Entry
  to_f = record { at = f.at; kind = e.kind; odd = e.odd; next = e.next; before = e.before }

  abbrev to_e : Entry
  to_e = record { at = e.at; kind = f.kind; odd = f.odd; next = f.next; before = f.before }

  abbrev new_entries : List (Option Entry)
  new_entries = set (set es (a.0 / 2) (Some to_f)) (b.0 / 2) (Some to_e)

  abbrev first_owned : List Block
  first_owned = set bs (e.at / 2) (with_owner b (block_at bs e.at))

  abbrev new_blocks : List Block
  new_blocks = set first_owned (f.at / 2) (with_owner a (block_at bs f.at))

  owner_e : (block_at bs e.at).owner.0 ≢ 0
  owner_e = entered_owner es bs (a.0 / 2) e tied is_e

  owner_f : (block_at bs f.at).owner.0 ≢ 0
  owner_f = entered_owner es bs (b.0 / 2) f tied is_f

  pub inside_e : e.at / 2 < length bs
  inside_e = owned_inside ws bs end free (e.at / 2) laid owner_e

  pub inside_f : f.at / 2 < length bs
  inside_f = owned_inside ws bs end free (f.at / 2) laid owner_f

  inside_first : f.at / 2 < length first_owned
  inside_first = let size = length-set bs (e.at / 2) (with_owner b (block_at bs e.at)) in omega (arith, inside_f, size)

  some_a : a.0 ≢ 0
  some_a z = let two = (tied.placed (a.0 / 2) e is_e).0 in owner_e (omega (arith, z, two))

  some_b : b.0 ≢ 0
  some_b z = let two = (tied.placed (b.0 / 2) f is_f).0 in owner_f (omega (arith, z, two))

  -- the same place, the same pointer
  same_pointer : e.at / 2 ≡ f.at / 2 → a.0 ≡ b.0
  same_pointer z =
      let one = (tied.placed (a.0 / 2) e is_e).0 in
      let two = (tied.placed (b.0 / 2) f is_f).0 in
      let both : (block_at bs e.at).owner.0 ≡ (block_at bs f.at).owner.0 = ap (λ i. (block bs i).owner.0) z in omega (arith, one, two, both, even_a, even_b)

  same_place : a.0 / 2 ≡ b.0 / 2 → e.at ≡ f.at
  same_place z = ap entry_at (sym is_e ∙ ap (λ i. get_or es i None) z ∙ is_f)

  -- the second block as it is once the first has its new owner
  second_same : with_owner a (block first_owned (f.at / 2)) ≡ with_owner a (block_at bs f.at)
  second_same = by_set bs (e.at / 2) (with_owner b (block_at bs e.at)) (f.at / 2) (λ y. with_owner a y ≡ with_owner a (block_at bs f.at)) inside_e (λ z. ap (λ i. with_owner a (block bs i)) (sym z)) (λ ne. refl)

  laid_first : IsLaid ws first_owned end free
  laid_first =
      let before = taken_owned (block_at bs e.at) owner_e in
      let after = taken_owned (with_owner b (block_at bs e.at)) some_b in
      laid_owner ws bs end free (e.at / 2) b free laid inside_e (laid.owned (e.at / 2) owner_e) (omega (arith, before, after))

  second_owned : (block first_owned (f.at / 2)).owner.0 ≢ 0
  second_owned = by_set bs (e.at / 2) (with_owner b (block_at bs e.at)) (f.at / 2) (λ y. y.owner.0 ≢ 0) inside_e (λ z. some_b) (λ ne. owner_f)

  pub laid_exchanged : IsLaid ws new_blocks end free
  laid_exchanged =
      let before = taken_owned (block first_owned (f.at / 2)) second_owned in
      let after = taken_owned (with_owner a (block first_owned (f.at / 2))) some_a in
      let P : Block → Type 0 = λ y. IsLaid ws (set first_owned (f.at / 2) y) end free in
      subst P second_same (laid_owner ws first_owned end free (f.at / 2) a free laid_first inside_first (laid_first.owned (f.at / 2) second_owned) (omega (arith, before, after)))

  at_b : get_or new_entries (b.0 / 2) None ≡ Some to_e
  at_b = let size = length-set es (a.0 / 2) (Some to_f) in get_or-set_same (set es (a.0 / 2) (Some to_f)) (b.0 / 2) (Some to_e) None (let within = entry_inside es (b.0 / 2) f is_f in omega (arith, size, within))

  at_a : a.0 / 2 ≢ b.0 / 2 → get_or new_entries (a.0 / 2) None ≡ Some to_f
  at_a ne = get_or-set_other (set es (a.0 / 2) (Some to_f)) (b.0 / 2) (a.0 / 2) (Some to_e) None ne ∙ get_or-set_same es (a.0 / 2) (Some to_f) None (entry_inside es (a.0 / 2) e is_e)

  at_other : (k : ℕ) → k ≢ a.0 / 2 → k ≢ b.0 / 2 → get_or new_entries k None ≡ get_or es k None
  at_other k ne ne' = get_or-set_other (set es (a.0 / 2) (Some to_f)) (b.0 / 2) k (Some to_e) None ne' ∙ get_or-set_other es (a.0 / 2) k (Some to_f) None ne

  by_exchange : (m : ℕ) (P : Block → Type 0) → (m ≡ f.at / 2 → P (with_owner a (block_at bs f.at))) → (m ≢ f.at / 2 → m ≡ e.at / 2 → P (with_owner b (block_at bs e.at))) → (m ≢ f.at / 2 → m ≢ e.at / 2 → P (block bs m)) → P (block new_blocks m)
  by_exchange m P second first others = by_set first_owned (f.at / 2) (with_owner a (block_at bs f.at)) m P inside_first second (λ ne. by_set bs (e.at / 2) (with_owner b (block_at bs e.at)) m P inside_e (first ne) (others ne))

  pub tied_exchanged : IsTied new_entries new_blocks
  tied_exchanged = record {
    first = at_other 0 (λ z. some_a (omega (arith, z, even_a))) (λ z. some_b (omega (arith, z, even_b))) ∙ tied.first;
    placed = λ k g is. placed k g is (k == b.0 / 2) refl (k == a.0 / 2) refl;
    even = λ m. by_exchange m (λ y. y.owner.0 ≢ 0 → y.owner.0 % 2 ≡ 0) (λ z some. even_a) (λ ne z some. even_b) (λ ne ne'. tied.even m);
    entered = λ m. by_exchange m (λ y. y.owner.0 ≢ 0 → (g : Entry) × (get_or new_entries (y.owner.0 / 2) None ≡ Some g) × (g.at ≡ y.at))
        (λ z some. entered_a (a.0 / 2 == b.0 / 2) refl)
        (λ ne z some. (to_e, at_b, sym (tied.placed (a.0 / 2) e is_e).1))
        (λ ne ne' some. let old = tied.entered m some in (old.0, at_other ((block bs m).owner.0 / 2) (other_owner m (a.0 / 2) e ne' some is_e) (other_owner m (b.0 / 2) f ne some is_f) ∙ old.1, old.2));
  }
    where
      -- what has another place has another owner
      other_owner : (m k : ℕ) (g : Entry) → m ≢ g.at / 2 → (block bs m).owner.0 ≢ 0 → get_or es k None ≡ Some g → (block bs m).owner.0 / 2 ≢ k
      other_owner m k g ne some is z =
          let old = tied.entered m some in
          let place : old.0.at ≡ g.at = ap entry_at (sym old.1 ∙ ap (λ i. get_or es i None) z ∙ is) in
          let mine = laid.half m (laid.owned m some) in
          let there = old.2 in ne (omega (arith, mine, there, place))

      entered_a : (t : Bool) → (a.0 / 2 == b.0 / 2) ≡ t → (g : Entry) × (get_or new_entries (a.0 / 2) None ≡ Some g) × (g.at ≡ (block_at bs f.at).at)
      entered_a true q =
          let z : a.0 / 2 ≡ b.0 / 2 = grind (arith, q) in
          (to_e, ap (λ i. get_or new_entries i None) z ∙ at_b, same_place z ∙ sym (tied.placed (b.0 / 2) f is_f).1)
      entered_a false q = let ne : a.0 / 2 ≢ b.0 / 2 = λ z. grind (arith, q, z) in (to_f, at_a ne, sym (tied.placed (b.0 / 2) f is_f).1)

      -- the block at the first place is the second pointer's
      first_place : ((block_at new_blocks e.at).owner.0 ≡ b.0) × ((block_at new_blocks e.at).at ≡ e.at)
      first_place = by_exchange (e.at / 2) (λ y. (y.owner.0 ≡ b.0) × (y.at ≡ e.at))
          (λ z. (same_pointer z, ap (λ i. (block bs i).at) (sym z) ∙ (tied.placed (a.0 / 2) e is_e).1))
          (λ ne z. (refl, (tied.placed (a.0 / 2) e is_e).1))
          (λ ne ne'. absurd (ne' refl))

      second_place : ((block_at new_blocks f.at).owner.0 ≡ a.0) × ((block_at new_blocks f.at).at ≡ f.at)
      second_place = by_exchange (f.at / 2) (λ y. (y.owner.0 ≡ a.0) × (y.at ≡ f.at)) (λ z. (refl, (tied.placed (b.0 / 2) f is_f).1)) (λ ne z. absurd (ne refl)) (λ ne ne'. absurd (ne refl))

      third_place : (k : ℕ) (g : Entry) → k ≢ a.0 / 2 → k ≢ b.0 / 2 → get_or es k None ≡ Some g → ((block_at new_blocks g.at).owner.0 ≡ 2 * k) × ((block_at new_blocks g.at).at ≡ g.at)
      third_place k g ne ne' is =
          let old = tied.placed k g is in
          let mine = old.0 in
          let one = (tied.placed (a.0 / 2) e is_e).0 in
          let two = (tied.placed (b.0 / 2) f is_f).0 in
          by_exchange (g.at / 2) (λ y. (y.owner.0 ≡ 2 * k) × (y.at ≡ g.at))
          (λ z. let same : (block_at bs g.at).owner.0 ≡ (block_at bs f.at).owner.0 = ap (λ i. (block bs i).owner.0) z in absurd (ne' (omega (arith, mine, two, same))))
          (λ no z. let same : (block_at bs g.at).owner.0 ≡ (block_at bs e.at).owner.0 = ap (λ i. (block bs i).owner.0) z in absurd (ne (omega (arith, mine, one, same))))
          (λ no no'. old)

      placed : (k : ℕ) (g : Entry) → get_or new_entries k None ≡ Some g → (t : Bool) → (k == b.0 / 2) ≡ t → (s : Bool) → (k == a.0 / 2) ≡ s → ((block_at new_blocks g.at).owner.0 ≡ 2 * k) × ((block_at new_blocks g.at).at ≡ g.at)
      placed k g is true q s r =
          let z : k ≡ b.0 / 2 = grind (arith, q) in
          let place : g.at ≡ e.at = sym (ap entry_at (sym at_b ∙ ap (λ i. get_or new_entries i None) (sym z) ∙ is)) in
          (ap (λ i. (block_at new_blocks i).owner.0) place ∙ first_place.0 ∙ omega (arith, z, even_b), ap (λ i. (block_at new_blocks i).at) place ∙ first_place.1 ∙ sym place)
      placed k g is false q true r =
          let z : k ≡ a.0 / 2 = grind (arith, r) in
          let ne : a.0 / 2 ≢ b.0 / 2 = λ w. grind (arith, q, z, w) in
          let place : g.at ≡ f.at = sym (ap entry_at (sym (at_a ne) ∙ ap (λ i. get_or new_entries i None) (sym z) ∙ is)) in
          (ap (λ i. (block_at new_blocks i).owner.0) place ∙ second_place.0 ∙ omega (arith, z, even_a), ap (λ i. (block_at new_blocks i).at) place ∙ second_place.1 ∙ sym place)
      placed k g is false q false r =
          let ne : k ≢ b.0 / 2 = λ w. grind (arith, q, w) in
          let ne' : k ≢ a.0 / 2 = λ w. grind (arith, r, w) in
          third_place k g ne' ne (sym (at_other k ne' ne) ∙ is)
