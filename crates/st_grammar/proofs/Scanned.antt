-- The pieces that are found one after the other are those of a text.
use Rattle.std.proofs.Common.{◌≡◌, ℕ, zero, suc, ◌+◌, ◌<◌, ◌≤◌, List, [], ◌∷◌, ◌++◌, length, drop, refl, sym, ap, ◌∙◌, subst, arith, append_assoc, length-append}
use Rattle.std.proofs.lemmas.List.{drop_at}
use Rattle.st_scan.specs.Pieces.{Piece, spelling, Stands}
use Rattle.st_scan.specs.Fronts.{Found, piece, fault, front_of}
use Rattle.st_scan.specs.Scans.{Context, start, signs, after, after_all, joined, AllStand, tokens_from}
use Rattle.st_scan.specs.inside.Scanned.{EndsBy, ScansTo}
use Rattle.st_scan.proofs.Sound.{IsFront, sound}
use Rattle.st_scan.proofs.Scanning.{has_bytes}
use Rattle.st_grammar.specs.Syntax.{Scan, with_found, scan_from, scan_of}

-- these are the pieces of a text, up to its end or its first fault
record Reaches (c : Context) (at : ℕ) (text : List ℕ) (s : Scan) : Type 0 where
  rest : List ℕ
  parts : joined s.pieces ++ rest ≡ text
  stand : AllStand c s.pieces rest
  ends : EndsBy (after_all c s.pieces) (at + length (joined s.pieces)) rest s.fault

reaches_fault : (c : Context) (at : ℕ) (text : List ℕ) (f : Found) (next : Piece → Scan) → IsFront (signs c) text f
    → ((p : Piece) (rest : List ℕ) → spelling p ++ rest ≡ text → length rest < length text → Reaches (after c p) (at + length (spelling p)) rest (next p)) → Reaches c at text (with_found at f next)
reaches_fault c at text (fault cause) next s more = record { rest = text; parts = refl; stand = tt; ends = (let e : at + 1 ≡ at + 0 + 1 = omega arith in e, s) }
reaches_fault c at text (piece p) next s more =
    let n = length (spelling p) in
    let m = more p s.rest s.parts (omega (arith, ap length s.parts, length-append (spelling p) s.rest, has_bytes (signs c) p s.rest s.stands)) in
    let behind = (next p).pieces in
    let further : (at + n) + length (joined behind) ≡ at + length (spelling p ++ joined behind) = omega (arith, length-append (spelling p) (joined behind)) in
    record {
      rest = m.rest;
      parts = append_assoc (spelling p) (joined behind) m.rest ∙ ap (λ (l : List ℕ). spelling p ++ l) m.parts ∙ s.parts;
      stand = (subst (Stands (signs c) p) (sym m.parts) s.stands, m.stand);
      ends = subst (λ (k : ℕ). EndsBy (after_all (after c p) behind) k m.rest (next p).fault) further m.ends;
    }

reaches : (n : ℕ) (c : Context) (at : ℕ) (text : List ℕ) → length text ≤ n → Reaches c at text (scan_from n c at text)
reaches n c at [] le = record { rest = []; parts = refl; stand = tt; ends = refl }
reaches zero c at (b ∷ text) le = absurd (omega arith)
reaches (suc n) c at (b ∷ text) le =
    reaches_fault c at (b ∷ text) (front_of (signs c) (b ∷ text)) (λ p. scan_from n (after c p) (at + length (spelling p)) (drop (length (spelling p)) (b ∷ text))) (sound (signs c) (b ∷ text) (omega arith))
    (λ p rest parts shorter. subst (λ (l : List ℕ). Reaches (after c p) (at + length (spelling p)) rest (scan_from n (after c p) (at + length (spelling p)) l)) (behind p rest parts) (reaches n (after c p) (at + length (spelling p)) rest (omega arith)))
  where
    behind : (p : Piece) (rest : List ℕ) → spelling p ++ rest ≡ b ∷ text → rest ≡ drop (length (spelling p)) (b ∷ text)
    behind p rest parts = sym (drop_at (spelling p) rest (length (spelling p)) refl) ∙ ap (drop (length (spelling p))) parts

pub scans : (text : List ℕ) → ScansTo text (tokens_from 0 (scan_of text).pieces) (scan_of text).fault
scans text =
    let r = reaches (length text) start 0 text (omega arith) in
    let s = scan_of text in
    let none : 0 + length (joined s.pieces) ≡ length (joined s.pieces) = omega arith in
    record {
      pieces = s.pieces;
      rest = r.rest;
      parts = r.parts;
      stand = r.stand;
      are_tokens = refl;
      ends = subst (λ (k : ℕ). EndsBy (after_all start s.pieces) k r.rest s.fault) none r.ends;
    }
