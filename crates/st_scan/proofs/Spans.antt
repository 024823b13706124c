-- Where the tokens of a text lie, and what stands there.
use Rattle.std.proofs.Common.{◌≡◌, ℕ, ◌+◌, ◌-◌, ◌<◌, ◌≤◌, Bool, List, [], ◌∷◌, ◌++◌, length, take, drop, Option, Some, None, refl, sym, ap, ◌∙◌, subst, arith, append_assoc, length-append}
use Rattle.std.specs.Prelude.{All}
use Rattle.std.proofs.Math.Seq.{take-append_seam, drop-append_seam}
use Rattle.std.proofs.lemmas.List.{append-nil, drop-drop}
use Rattle.std.proofs.lemmas.List.Elements.{All-nil, All-cons}
use Rattle.st_scan.specs.declared.token.Token.{Token}
use Rattle.st_scan.specs.declared.token.Sort.{Sort}
use Rattle.st_scan.specs.declared.fault.Fault.{Fault}
use Rattle.st_scan.specs.Pieces.{Piece, spelling, Stands}
use Rattle.st_scan.specs.Scans.{Context, start, signs, after, joined, AllStand, sort_of, with_token, tokens_from, AreSpans, IsToken, IsJoined}
use Rattle.st_scan.specs.inside.Scanned.{ScansTo, HasTokens}
use Rattle.st_scan.proofs.Scanning.{has_bytes}

-- what lies behind a place lies behind an earlier one
spans_earlier : (from later to : ℕ) (ts : List Token) → from ≤ later → AreSpans later ts to → AreSpans from ts to
spans_earlier from later to [] le s = omega arith
spans_earlier from later to (t ∷ ts) le s = (omega (arith, s.0), s.1, s.2)

spans_piece : (at n to : ℕ) (o : Option Sort) (ts : List Token) → 0 < n → AreSpans (at + n) ts to → AreSpans at (with_token at n o ts) to
spans_piece at n to None ts pos rest = spans_earlier at (at + n) to ts (omega arith) rest
spans_piece at n to (Some sort) ts pos rest = (omega arith, omega arith, rest)

spans_from : (c : Context) (at : ℕ) (ps : List Piece) (rest : List ℕ) → AllStand c ps rest → AreSpans at (tokens_from at ps) (at + length (joined ps ++ rest))
spans_from c at [] rest all = omega arith
spans_from c at (p ∷ ps) rest all =
    let n = length (spelling p) in
    let to : (at + n) + length (joined ps ++ rest) ≡ at + length ((spelling p ++ joined ps) ++ rest) = omega (arith, ap length (append_assoc (spelling p) (joined ps) rest), length-append (spelling p) (joined ps ++ rest)) in
    let more = subst (AreSpans (at + n) (tokens_from (at + n) ps)) to (spans_from (after c p) (at + n) ps rest all.1) in
    spans_piece at n _ (sort_of p) (tokens_from (at + n) ps) (has_bytes (signs c) p (joined ps ++ rest) all.0) more

pub spans : (text : List ℕ) (ts : List Token) (e : Option Fault) → ScansTo text ts e → AreSpans 0 ts (length text)
spans text ts e s =
    let to : 0 + length (joined s.pieces ++ s.rest) ≡ length text = omega (arith, ap length s.parts) in
    subst (λ us. AreSpans 0 us (length text)) s.are_tokens (subst (AreSpans 0 (tokens_from 0 s.pieces)) to (spans_from start 0 s.pieces s.rest s.stand))

-- WHAT STANDS THERE

token_first : (text : List ℕ) (at n : ℕ) (p : Piece) (sign : Bool) (o : Option Sort) (ts : List Token) → sort_of p ≡ o → Stands sign p (drop (at + n) text) → spelling p ≡ take n (drop at text)
    → All (IsToken text) ts → All (IsToken text) (with_token at n o ts)
token_first text at n p sign None ts is s parts all = all
token_first text at n p sign (Some sort) ts is s parts all =
    let span : (at + n) - at ≡ n = omega arith in
    All-cons (IsToken text) _ ts (record { which = p; sign = sign; stands = s; is_sort = is; is_text = parts ∙ ap (λ (k : ℕ). take k (drop at text)) (sym span) }) all

tokens_at : (text : List ℕ) (c : Context) (at : ℕ) (ps : List Piece) (rest : List ℕ) → joined ps ++ rest ≡ drop at text → AllStand c ps rest → All (IsToken text) (tokens_from at ps)
tokens_at text c at [] rest parts all = All-nil (IsToken text)
tokens_at text c at (p ∷ ps) rest parts all =
    let n = length (spelling p) in
    let flat : spelling p ++ (joined ps ++ rest) ≡ drop at text = sym (append_assoc (spelling p) (joined ps) rest) ∙ parts in
    let behind : joined ps ++ rest ≡ drop (at + n) text = sym (drop-append_seam (spelling p) (joined ps ++ rest)) ∙ ap (drop n) flat ∙ drop-drop n at text in
    let front : spelling p ≡ take n (drop at text) = sym (take-append_seam (spelling p) (joined ps ++ rest)) ∙ ap (take n) flat in
    token_first text at n p (signs c) (sort_of p) (tokens_from (at + n) ps) refl (subst (Stands (signs c) p) behind all.0) front (tokens_at text (after c p) (at + n) ps rest behind all.1)

pub are_tokens : (text : List ℕ) (ts : List Token) (e : Option Fault) → ScansTo text ts e → All (IsToken text) ts
are_tokens text ts e s = subst (All (IsToken text)) s.are_tokens (tokens_at text start 0 s.pieces s.rest s.parts s.stand)

-- nothing is left behind the last piece
pub whole : (text : List ℕ) (ts : List Token) → HasTokens text ts → IsJoined text ts
whole text ts s = record {
  pieces = s.pieces;
  whole = sym (append-nil (joined s.pieces)) ∙ ap (λ (l : List ℕ). joined s.pieces ++ l) (sym s.ends) ∙ s.parts;
  are_tokens = s.are_tokens;
}
