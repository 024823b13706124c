-- Heights of nodes, and of what is read of them.
use Rattle.std.proofs.Common.{◌≡◌, ℕ, suc, ◌≤◌, max, Bool, true, List, ◌∷◌, Some, None, ap, arith}
use Rattle.std.proofs.lemmas.Bool.Decides.{nat_tests}
use Rattle.std.specs.Prelude.{if◌then◌else◌}
use Rattle.st_emit.specs.Nodes.{Node, small, literal, Messages, only, also}
use Rattle.st_resolved.specs.Instructions.{on_some}
use Rattle.st_resolved.specs.inside.Placed.{IsCount}
use Rattle.st_expression_stack.specs.Items.{Piece, Item, piece, most_high, is_low}
use Rattle.st_decompile.specs.Reading.{passes}
use Rattle.st_decompile.specs.Back.{high, messages_high, nodes_high}

pub low_is : (h : ℕ) → h ≤ most_high → is_low h ≡ true
low_is h e = grind (arith, nat_tests, e)

-- a piece that a text may have
pub passes_is : (skip : ℕ) (p : Piece) (items : List Item) → p.height ≤ most_high → passes skip p items ≡ Some (record { skip = skip; items = piece p ∷ items })
passes_is skip p items e = ap (λ (b : Bool). on_some (if b then Some (piece p ∷ items) else None) (λ made. Some (record { skip = skip; items = made }))) (low_is p.height e)

-- so many arguments and blocks are no more than regions may stand in one another, and these no more than a text may have
abbrev pub Fits : (h f : ℕ) → Type 0
Fits h f = (h ≤ f) × (f ≤ most_high)

pub fits_both : (a b f : ℕ) → Fits (max a b) f → Fits a f × Fits b f
fits_both a b f h = ((omega (arith, h.0), h.1), (omega (arith, h.0), h.1))

pub fits_within : (h f : ℕ) → Fits (suc h) (suc f) → Fits h f
fits_within h f e = (omega (arith, e.0), omega (arith, e.1))

-- how high the messages of a node are
pub messages_max : (ms : Messages) (h : ℕ) → messages_high h ms ≡ max h (messages_high 0 ms)
messages_max (only s ns) h = omega arith
messages_max (also s ns ms) h = omega (arith, messages_max ms (max h (nodes_high ns 0)), messages_max ms (max 0 (nodes_high ns 0)))

pub fits_messages : (h : ℕ) (ms : Messages) (f : ℕ) → Fits (messages_high h ms) f → Fits h f × Fits (messages_high 0 ms) f
fits_messages h ms f e = let m = messages_max ms h in ((omega (arith, m, e.0), e.1), (omega (arith, m, e.0), e.1))

-- the count of a block's arguments
pub fits_count : (n : Node) → IsCount n → (f : ℕ) → f ≤ most_high → Fits (high n) f
fits_count (small k) i f g = (omega arith, g)
fits_count (literal x place) i f g = (omega arith, g)
fits_count n i f g = absurd i
