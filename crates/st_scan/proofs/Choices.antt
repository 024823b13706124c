-- Where the front of a text is looked for, by its first byte.
use Rattle.std.proofs.Common.{◌≡◌, ℕ, Bool, true, false, eqb, ◌&&◌, List, ◌∷◌, refl}
use Rattle.std.specs.Prelude.{position}
use Rattle.std.specs.Str.{byte}
use Rattle.std.specs.Char.{is_ascii_digit, is_ascii_alphabetic}
use Rattle.st_scan.specs.declared.fault.Cause.TheVariants as causes
use Rattle.st_scan.specs.Bytes.{is_blank, begins_operator, is_mark}
use Rattle.st_scan.specs.Pieces.{blank, operator, begins}
use Rattle.st_scan.specs.inside.Faults.{begins_piece}
use Rattle.st_scan.specs.Fronts.{piece, fault, front_of, comment_to, word_at, number_at, operator_of, mark_at, character_at, string_of, inside_of, hash_at}
use Rattle.st_scan.proofs.Classes.{letter-inked, digit-inked, operator-sign, mark-sign, nothing_of}

module _ (signs : Bool) (bs : List ℕ) where
  pub front-blank : (b : ℕ) → is_blank b ≡ true → front_of signs (b ∷ bs) ≡ piece (blank b)
  unfolding front_of
  front-blank b e = rw e refl

  pub front-comment : front_of signs (byte "\"" ∷ bs) ≡ comment_to (position (λ c. eqb c (byte "\"")) bs) bs
  unfolding front_of
  front-comment = refl

  pub front-word : (b : ℕ) → is_ascii_alphabetic b ≡ true → front_of signs (b ∷ bs) ≡ word_at (b ∷ bs)
  unfolding front_of
  front-word b e = let i = letter-inked b e in rw (i.blank, i.comment, e) refl

  pub front-number : (b : ℕ) → is_ascii_digit b ≡ true → front_of signs (b ∷ bs) ≡ number_at false (b ∷ bs)
  unfolding front_of
  front-number b e = let i = digit-inked b e in rw (i.0.blank, i.0.comment, i.1, e) refl

  pub front-minus : begins is_ascii_digit bs ≡ true → signs ≡ true → front_of signs (byte "-" ∷ bs) ≡ number_at true bs
  unfolding front_of
  front-minus e f = rw (e, f) refl

  pub front-operator : (b : ℕ) → begins_operator b ≡ true → (eqb b (byte "-") && begins is_ascii_digit bs && signs) ≡ false → front_of signs (b ∷ bs) ≡ piece (operator (operator_of (b ∷ bs)))
  unfolding front_of
  front-operator b e f = let s = operator-sign b e in rw (s.inked.blank, s.inked.comment, s.letter, s.digit, f, e) refl

  pub front-mark : (b : ℕ) → is_mark b ≡ true → front_of signs (b ∷ bs) ≡ mark_at b bs
  unfolding front_of
  front-mark b e = let s = mark-sign b e in rw (s.0.inked.blank, s.0.inked.comment, s.0.letter, s.0.digit, s.2, s.1, e) refl

  pub front-character : front_of signs (byte "$" ∷ bs) ≡ character_at bs
  unfolding front_of
  front-character = refl

  pub front-string : front_of signs (byte "'" ∷ bs) ≡ string_of (inside_of bs)
  unfolding front_of
  front-string = refl

  pub front-hash : front_of signs (byte "#" ∷ bs) ≡ hash_at bs
  unfolding front_of
  front-hash = refl

  pub front-nothing : (b : ℕ) → begins_piece b ≡ false → front_of signs (b ∷ bs) ≡ fault causes.Character
  unfolding front_of
  front-nothing b e =
      let n = nothing_of b e in
      rw (n.sign.inked.blank, n.sign.inked.comment, n.sign.letter, n.sign.digit, n.operator, n.mark, n.minus, n.character, n.string, n.hash) refl
