-- Keys of literals: those that are compared as the same share a place, and literals that share one are the same.
use Rattle.std.proofs.Common.{◌≡◌, ℕ, Bool, true, false, not, ◌&&◌, ◌==◌, refl, sym, ap, true≢false}
use Rattle.std.specs.Prelude.{if◌then◌else◌}
use Rattle.std.specs.Ordering.{is_eq, nat_cmp}
use Rattle.std.specs.Cmp.{unsigned_ties}
use Rattle.std.specs.Cmp.Lexicographic.{bytes_decides}
use Rattle.std.proofs.lemmas.Bool.{eqb-true}
use Rattle.std.proofs.lemmas.Map.Text.{is_eq-slice_cmp}
use Rattle.st_emit.specs.contracts.literal_table.KeyOrd.TheImpl.{cmp-value}
use Rattle.st_emit.specs.declared.literal_table.Key.{Key}
use Rattle.st_emit.specs.declared.literal_table.Key.TheVariants.{Number, Character, Symbol, Named}
use Rattle.st_emit.specs.Literals.{LiteralView, number, character, bytes, symbol, array, named, owner, shares}
use Rattle.st_emit.specs.inside.LiteralPlaces.{key_view}

same_size : (x y : ℕ) → is_eq (nat_cmp x y) ≡ (x == y)
same_size x y = sym (unsigned_ties x y)

pub same_cmp : (a b : Key) → is_eq (cmp-value.it a b) ≡ shares (key_view a) (key_view b)
same_cmp (Number true x) (Number true y) = same_size x y
same_cmp (Number true x) (Number false y) = refl
same_cmp (Number false x) (Number true y) = refl
same_cmp (Number false x) (Number false y) = same_size x y
same_cmp (Number m x) (Character c) = refl
same_cmp (Number m x) (Symbol c) = refl
same_cmp (Number m x) (Named c) = refl
same_cmp (Character b) (Number n y) = refl
same_cmp (Character b) (Character c) = same_size b c
same_cmp (Character b) (Symbol c) = refl
same_cmp (Character b) (Named c) = refl
same_cmp (Symbol b) (Number n y) = refl
same_cmp (Symbol b) (Character c) = refl
same_cmp (Symbol b) (Symbol c) = is_eq-slice_cmp b.items c.items
same_cmp (Symbol b) (Named c) = refl
same_cmp (Named b) (Number n y) = refl
same_cmp (Named b) (Character c) = refl
same_cmp (Named b) (Symbol c) = refl
same_cmp (Named b) (Named c) = same_size b c

same_signed : (m n : Bool) (x y : ℕ) → ((if m then n else not n) && x == y) ≡ true → number (record { minus = m; size = x }) ≡ number (record { minus = n; size = y })
same_signed true true x y h = ap (λ (z : ℕ). number (record { minus = true; size = z })) (eqb-true x y h)
same_signed true false x y h = absurd (true≢false (sym h))
same_signed false true x y h = absurd (true≢false (sym h))
same_signed false false x y h = ap (λ (z : ℕ). number (record { minus = false; size = z })) (eqb-true x y h)

-- literals that share a place are the same
pub shares_same : (l m : LiteralView) → shares l m ≡ true → l ≡ m
shares_same (number m) (number n) h = same_signed m.minus n.minus m.size n.size h
shares_same (number m) (character c) h = absurd (true≢false (sym h))
shares_same (number m) (bytes c) h = absurd (true≢false (sym h))
shares_same (number m) (symbol c) h = absurd (true≢false (sym h))
shares_same (number m) (named c) h = absurd (true≢false (sym h))
shares_same (number m) owner h = absurd (true≢false (sym h))
shares_same (number m) (array ls) h = absurd (true≢false (sym h))
shares_same (character b) (character c) h = ap character (eqb-true b c h)
shares_same (symbol s) (symbol t) h = ap symbol ((bytes_decides s t).0 h)
shares_same (named p) (named q) h = ap named (eqb-true p q h)
shares_same _ _ h = absurd (true≢false (sym h))
