-- Readers of lists of leaves, and small laws of tests.
use Rattle.std.proofs.Common.{◌≡◌, ℕ, ◌<◌, ◌≤◌, Bool, true, false, ◌||◌, ◌&&◌, List, [], ◌∷◌, ◌++◌, ◌⊎◌, inl, inr, length, refl, sym, ap, ◌∙◌, arith}
use Rattle.st_grammar.specs.declared.leaf.Leaf.{Leaf}
use Rattle.st_grammar.specs.declared.leaf.Kind.{Kind}
use Rattle.st_grammar.specs.Leaves.{among}
use Rattle.st_grammar.specs.Phrases.{One, one_text, ones_text}
use Rattle.st_grammar.specs.Reading.{Read, first, many}
use Rattle.st_grammar.proofs.KindSets.{are_neutral}
use Rattle.st_grammar.proofs.Balanced.{ones_balanced}
use Rattle.st_grammar.proofs.Readers.{Reads, nothing, is_nil, renamed}
use Rattle.st_grammar.proofs.Repeats.{IsRepeat, IsMore, repeated}

pub and_false : (b : Bool) → (b && false) ≡ false
and_false true = refl
and_false false = refl

pub or_false : (b : Bool) → (b || false) ≡ b
or_false true = refl
or_false false = refl

pub or_and_false : (a b : Bool) → (a || (b && false)) ≡ a
or_and_false a b = ap (λ (c : Bool). a || c) (and_false b) ∙ or_false a

-- lists of phrases, none of which goes on
module _ {A P : Type 0} (looks : Leaf → Bool) (text : P → List Leaf) (after : P → A → A) (texts : List P → List Leaf) (afters : List P → A → A)
    (some : (p : P) → 0 < length (text p)) (none : texts [] ≡ []) (parts : (p : P) (l : List P) → texts (p ∷ l) ≡ text p ++ texts l) (starts : (p : P) (k : List Leaf) → first looks (text p ++ k) ≡ true)
    (nil_is : (a : A) → afters [] a ≡ a) (cons_is : (p : P) (l : List P) (a : A) → afters (p ∷ l) a ≡ afters l (after p a)) where
  pub lists_repeat : IsRepeat (λ (b : A). looks) text after (λ p. nothing) (λ b k. Unit {0}) texts afters (λ k. nothing)
  lists_repeat = record {
    some = some;
    nil = [];
    nil_valid = λ a. tt;
    nil_text = none;
    nil_is = nil_is;
    nil_last = λ x. refl;
    cons = λ p l. p ∷ l;
    cons_more = λ a p l x e v. (tt, parts p l, cons_is p l a);
    cons_last = λ a p l x v. sym (and_false (is_nil (texts l)));
    uncons = uncons;
  }
    where
      uncons : (a : A) (l : List P) → Unit {0} → ((texts l ≡ []) × (afters l a ≡ a)) ⊎ IsMore (λ (b : A). looks) text after (λ p. nothing) (λ b k. Unit {0}) texts afters (λ k. nothing) a l
      uncons a [] v = inl (none, nil_is a)
      uncons a (p ∷ l) v = inr (record { p = p; rest = l; valid = tt; parts = parts p l; is = cons_is p l a; last_is = λ x. sym (and_false (is_nil (texts l))); starts = starts p; ends = λ x e. refl })

module _ {A : Type 0} (ks : List Kind) (after : One ks → A → A) (afters : List (One ks) → A → A)
    (nil_is : (a : A) → afters [] a ≡ a) (cons_is : (o : One ks) (l : List (One ks)) (a : A) → afters (o ∷ l) a ≡ afters l (after o a)) where
  ones_repeat : IsRepeat (λ (b : A). among ks) (one_text {kinds = ks}) after (λ p. nothing) (λ b k. Unit {0}) (ones_text {kinds = ks}) afters (λ k. nothing)
  ones_repeat = lists_repeat (among ks) one_text after ones_text afters (λ p. omega arith) refl (λ p l. refl) (λ o k. o.fits) nil_is cons_is

  -- a loop over leaves of these kinds
  pub ones_reads : (e : are_neutral ks ≡ true) (n m : ℕ) (le : n ≤ m) (step : A → List Leaf → Read A)
      (S : (a : A) → Reads (one_text {kinds = ks}) (λ o. after o a) (λ o. nothing) (among ks) n m (step a) (step a)) (a : A)
      → Reads (ones_text {kinds = ks}) (λ l. afters l a) (λ l. among ks) (among ks) n m (λ ts. many (λ b. among ks) step (length ts) a ts) (λ ts. many (λ b. among ks) step (length ts) a ts)
  ones_reads e n m le step S a =
      renamed (repeated ones_repeat n m le step step S (λ l. ones_balanced ks l e) a)
      (ones_text {kinds = ks}) (λ l. afters l a) (λ l. among ks)
      (λ l. l.0) (λ l. refl) (λ l. refl) (λ l x. sym (or_false (among ks x)))
      (λ l. (l, tt)) (λ l. refl) (λ l. refl) (λ l x. or_false (among ks x))
