-- A text has one scan.
use Rattle.std.proofs.Common.{◌≡◌, ℕ, zero, suc, ◌+◌, ◌<◌, ◌≤◌, Bool, true, List, [], ◌∷◌, ◌++◌, length, drop, Option, Some, None, refl, sym, ap, ◌∙◌, subst, arith, inl, inr, append_assoc, length-append}
use Rattle.st_scan.specs.declared.token.Token.{Token}
use Rattle.st_scan.specs.declared.fault.Fault.{Fault}
use Rattle.st_scan.specs.declared.fault.Cause.{Cause}
use Rattle.st_scan.specs.declared.fault.Cause.TheVariants as causes
use Rattle.st_scan.specs.Pieces.{Digits, Piece, spelling, number, sign_text, digits_text, are_digits, Stands}
use Rattle.st_scan.specs.inside.Faults.{IsFaulty}
use Rattle.st_scan.specs.Scans.{Context, start, signs, after, after_all, joined, AllStand, tokens_from}
use Rattle.st_scan.specs.inside.Scanned.{EndsBy, ScansTo, HasScan}
use Rattle.st_scan.specs.Fronts.{Found, piece, fault, front_of}
use Rattle.st_scan.proofs.Sound.{IsFront, sound}
use Rattle.st_scan.proofs.Complete.{complete, complete_fault}
use Rattle.st_scan.proofs.Scanning.{has_bytes, digits_some}

-- a fault has a byte
number_bytes : (minus : Bool) (ds : Digits) (rest : List ℕ) → are_digits ds ≡ true → 0 < length (spelling (number minus ds) ++ rest)
number_bytes minus ds rest e = omega (arith, digits_some ds e, length-append (sign_text minus) (digits_text ds), length-append (spelling (number minus ds)) rest)

fault_bytes : (sign : Bool) (cause : Cause) (text : List ℕ) → IsFaulty sign cause text → 0 < length text
fault_bytes sign causes.Character [] f = absurd cc
fault_bytes sign causes.Character (b ∷ text) f = omega arith
fault_bytes sign causes.Unclosed text f = elim f [ inl c ↦ omega (arith, ap length c.1) | inr s ↦ omega (arith, ap length s.1) ]
fault_bytes sign causes.Number text f = omega (arith, ap length f.2.parts, number_bytes f.2.minus f.0 f.1 f.2.stands.0)
fault_bytes sign causes.Float text f = omega (arith, ap length f.2.parts, number_bytes f.2.minus f.0 f.1 f.2.stands.0)
fault_bytes sign _ text f = absurd f

-- a piece that stands is no end and no fault
piece_goes_on : (c : Context) (at : ℕ) (p : Piece) (rest : List ℕ) (e : Option Fault) → Stands (signs c) p rest → EndsBy c at (spelling p ++ rest) e → ⊥
piece_goes_on c at p rest None s ends = absurd (omega (arith, has_bytes (signs c) p rest s, length-append (spelling p) rest, ap length ends))
piece_goes_on c at p rest (Some f) s ends =
    let one = complete (signs c) p rest s in
    let two = complete_fault (signs c) f.cause (spelling p ++ rest) ends.1 in
    cc

-- the same pieces, and the same rest
record Same (ps qs : List Piece) (r s : List ℕ) : Type 0 where
  pieces : ps ≡ qs
  rest : r ≡ s

cancel : (p : List ℕ) (r s : List ℕ) → p ++ r ≡ p ++ s → r ≡ s
cancel [] r s e = e
cancel (b ∷ p) r s e = cancel p r s (ap (drop 1) e)

same : (c : Context) (at to : ℕ) (ps qs : List Piece) (r s : List ℕ) (e f : Option Fault) → joined ps ++ r ≡ joined qs ++ s → AllStand c ps r → AllStand c qs s → EndsBy (after_all c ps) at r e → EndsBy (after_all c qs) to s f → Same ps qs r s
same c at to [] [] r s e f whole all all' ends ends' = record { pieces = refl; rest = whole }
same c at to [] (q ∷ qs) r s e f whole all all' ends ends' = absurd (piece_goes_on c at q (joined qs ++ s) e all'.0 (subst (λ (l : List ℕ). EndsBy c at l e) (whole ∙ append_assoc (spelling q) (joined qs) s) ends))
same c at to (p ∷ ps) [] r s e f whole all all' ends ends' = absurd (piece_goes_on c to p (joined ps ++ r) f all.0 (subst (λ (l : List ℕ). EndsBy c to l f) (sym whole ∙ append_assoc (spelling p) (joined ps) r) ends'))
same c at to (p ∷ ps) (q ∷ qs) r s e f whole all all' ends ends' =
    let flat : spelling p ++ (joined ps ++ r) ≡ spelling q ++ (joined qs ++ s) = sym (append_assoc (spelling p) (joined ps) r) ∙ whole ∙ append_assoc (spelling q) (joined qs) s in
    let one = complete (signs c) p (joined ps ++ r) all.0 in
    let two = complete (signs c) q (joined qs ++ s) all'.0 in
    let found : piece p ≡ piece q = sym one ∙ ap (front_of (signs c)) flat ∙ two in
    let first : p ≡ q = cc in
    let behind : joined ps ++ r ≡ joined qs ++ s = cancel (spelling q) _ _ (ap (λ x. spelling x ++ (joined ps ++ r)) (sym first) ∙ flat) in
    let context : after c q ≡ after c p = ap (after c) (sym first) in
    let more = same (after c p) at to ps qs r s e f behind all.1 (subst (λ d. AllStand d qs s) context all'.1) ends (subst (λ d. EndsBy (after_all d qs) to s f) context ends') in
    record { pieces = ap (λ x. x ∷ ps) first ∙ ap (λ xs. q ∷ xs) more.pieces; rest = more.rest }

abbrev fault_at : ℕ → Cause → Fault
fault_at place cause = record { place = place; cause = cause }

-- the same end
same_end : (c : Context) (at : ℕ) (r : List ℕ) (e f : Option Fault) → EndsBy c at r e → EndsBy c at r f → e ≡ f
same_end c at r None None one two = refl
same_end c at r None (Some f) one two = absurd (omega (arith, ap length one, fault_bytes (signs c) f.cause r two.1))
same_end c at r (Some e) None one two = absurd (omega (arith, ap length two, fault_bytes (signs c) e.cause r one.1))
same_end c at r (Some e) (Some f) one two =
    let found : fault e.cause ≡ fault f.cause = sym (complete_fault (signs c) e.cause r one.1) ∙ complete_fault (signs c) f.cause r two.1 in
    let cause : e.cause ≡ f.cause = cc in
    let place : e.place ≡ f.place = one.0 ∙ sym two.0 in
    ap (λ (k : ℕ). Some (fault_at k e.cause)) place ∙ ap (λ (x : Cause). Some (fault_at f.place x)) cause

pub one : (text : List ℕ) (ts us : List Token) (e f : Option Fault) → ScansTo text ts e → ScansTo text us f → (ts ≡ us) × (e ≡ f)
one text ts us e f x y =
    let s = same start _ _ x.pieces y.pieces x.rest y.rest e f (x.parts ∙ sym y.parts) x.stand y.stand x.ends y.ends in
    let ends = subst (λ ps. EndsBy (after_all start ps) (length (joined ps)) y.rest f) (sym s.pieces) (y.ends) in (
      sym x.are_tokens ∙ ap (tokens_from 0) s.pieces ∙ y.are_tokens,
      same_end (after_all start x.pieces) (length (joined x.pieces)) y.rest e f (subst (λ (l : List ℕ). EndsBy (after_all start x.pieces) (length (joined x.pieces)) l e) s.rest x.ends) ends,
    )

-- EVERY TEXT HAS ONE

-- pieces of a text up to its end or a fault
record Reaches (c : Context) (at : ℕ) (text : List ℕ) : Type 0 where
  pieces : List Piece
  rest : List ℕ
  end : Option Fault
  parts : joined pieces ++ rest ≡ text
  stand : AllStand c pieces rest
  ends : EndsBy (after_all c pieces) (at + length (joined pieces)) rest end

reaches_fault : (c : Context) (at : ℕ) (text : List ℕ) (cause : Cause) → IsFaulty (signs c) cause text → Reaches c at text
reaches_fault c at text cause f = record { pieces = []; rest = text; end = Some (fault_at (at + 0 + 1) cause); parts = refl; stand = tt; ends = (refl, f) }

reaches_found : (c : Context) (at : ℕ) (text : List ℕ) (f : Found) → IsFront (signs c) text f
    → ((p : Piece) (rest : List ℕ) → length rest < length text → Reaches (after c p) (at + length (spelling p)) rest) → Reaches c at text
reaches_found c at text (fault cause) s more = reaches_fault c at text cause s
reaches_found c at text (piece p) s more =
    let n = length (spelling p) in
    let m = more p s.rest (omega (arith, ap length s.parts, length-append (spelling p) s.rest, has_bytes (signs c) p s.rest s.stands)) in
    let further : (at + n) + length (joined m.pieces) ≡ at + length (spelling p ++ joined m.pieces) = omega (arith, length-append (spelling p) (joined m.pieces)) in
    record {
      pieces = p ∷ m.pieces;
      rest = m.rest;
      end = m.end;
      parts = append_assoc (spelling p) (joined m.pieces) m.rest ∙ ap (λ (l : List ℕ). spelling p ++ l) m.parts ∙ s.parts;
      stand = (subst (Stands (signs c) p) (sym m.parts) s.stands, m.stand);
      ends = subst (λ (k : ℕ). EndsBy (after_all (after c p) m.pieces) k m.rest m.end) further m.ends;
    }

reaches : (n : ℕ) (c : Context) (at : ℕ) (text : List ℕ) → length text ≤ n → Reaches c at text
reaches n c at [] le = record { pieces = []; rest = []; end = None; parts = refl; stand = tt; ends = refl }
reaches zero c at (b ∷ text) le = absurd (omega arith)
reaches (suc n) c at (b ∷ text) le =
    reaches_found c at (b ∷ text) (front_of (signs c) (b ∷ text)) (sound (signs c) (b ∷ text) (omega arith)) (λ p rest shorter. reaches n (after c p) (at + length (spelling p)) rest (omega arith))

-- pieces that go from the start of a text to its end or its fault are its scan
pub scanned : (text rest : List ℕ) (pieces : List Piece) (end : Option Fault) → joined pieces ++ rest ≡ text → AllStand start pieces rest → EndsBy (after_all start pieces) (0 + length (joined pieces)) rest end
    → ScansTo text (tokens_from 0 pieces) end
scanned text rest pieces end parts stand ends =
    let none : 0 + length (joined pieces) ≡ length (joined pieces) = omega arith in
    record { pieces = pieces; rest = rest; parts = parts; stand = stand; are_tokens = refl; ends = subst (λ (k : ℕ). EndsBy (after_all start pieces) k rest end) none ends }

pub some : (text : List ℕ) → HasScan text
some text =
    let r = reaches (length text) start 0 text (omega arith) in
    record { tokens = tokens_from 0 r.pieces; fault = r.end; scan = scanned text r.rest r.pieces r.end r.parts r.stand r.ends }
