-- What the loop over a text keeps.
use Rattle.std.proofs.Common.{◌≡◌, ℕ, ◌+◌, ◌-◌, ◌<◌, ◌≤◌, Bool, true, false, cond, eqb, ltb, ◌&&◌, List, [], ◌∷◌, ◌++◌, length, get_or, drop, Option, Some, None, refl, sym, ap, ◌∙◌, subst, arith, append_assoc, length-append, length-drop}
use Rattle.std.specs.Str.{byte}
use Rattle.std.proofs.lemmas.Bool.{ltb-true, and_parts}
use Rattle.std.proofs.lemmas.List.{append-nil, drop-drop, nil_from_length}
use Rattle.std.proofs.Math.Seq.{drop-append_seam}
use Rattle.st_scan.specs.declared.token.Token.{Token}
use Rattle.st_scan.specs.declared.token.Sort.{Sort}
use Rattle.st_scan.specs.declared.token.Sort.TheVariants as sorts
use Rattle.st_scan.specs.declared.fault.Cause.{Cause}
use Rattle.st_scan.specs.declared.front.Front.{Front}
use Rattle.st_scan.specs.declared.front.Front.TheVariants as fronts
use Rattle.st_scan.specs.Pieces.{Digits, decimal, radix, Piece, blank, comment, name, keyword, operator, number, character, string, symbol, opening, mark, digits_text, sign_text, spelling, size, are_digits, begins, Stands}
use Rattle.st_scan.specs.Scans.{Context, start, signs, after, after_all, depth_after, joined, AllStand, sort_of, with_token, tokens_from}
use Rattle.st_scan.specs.inside.Scanned.{ScansTo}
use Rattle.st_scan.specs.inside.Faults.{IsFaulty}
use Rattle.st_scan.specs.inside.Contexts.{is_operand_token, depth_behind}
use Rattle.st_scan.specs.Fronts.{Found, piece, fault, shown, shown_piece, front_of, IsWithin}
use Rattle.st_scan.proofs.Sound.{StandsFirst, IsFront, sound}

-- PIECES HAVE BYTES

pub digits_some : (ds : Digits) → are_digits ds ≡ true → 0 < length (digits_text ds)
digits_some (decimal ds) e = ltb-true 0 (length ds) (and_parts (ltb 0 (length ds)) _ e).0
digits_some (radix rs ds) e = omega (arith, length-append rs (114 ∷ ds))

-- what stands in a text has a first byte
pub has_bytes : (signs : Bool) (p : Piece) (rest : List ℕ) → Stands signs p rest → 0 < length (spelling p)
has_bytes signs (blank b) rest s = omega arith
has_bytes signs (comment inside) rest s = omega arith
has_bytes signs (name []) rest s = absurd cc
has_bytes signs (name (b ∷ n)) rest s = omega arith
has_bytes signs (keyword n) rest s = omega (arith, length-append n (58 ∷ []))
has_bytes signs (operator []) rest s = absurd cc
has_bytes signs (operator (b ∷ o)) rest s = omega arith
has_bytes signs (number minus ds) rest s = omega (arith, digits_some ds s.0.0, length-append (sign_text minus) (digits_text ds))
has_bytes signs (character b) rest s = omega arith
has_bytes signs (string inside) rest s = omega arith
has_bytes signs (symbol s') rest s = omega arith
has_bytes signs opening rest s = omega arith
has_bytes signs (mark []) rest s = absurd cc
has_bytes signs (mark (b ∷ m)) rest s = omega arith

-- THE FRONT

-- a front with a length is a piece of that length
pub record Shows (f : Found) (sort : Option Sort) (n : ℕ) : Type 0 where
  pub which : Piece
  pub is : f ≡ piece which
  pub sort_is : sort_of which ≡ sort
  pub size : length (spelling which) ≡ n

gap_is : (o : Option Sort) (m n : ℕ) → fronts.Gap n ≡ shown_piece o m → (o ≡ None) × (m ≡ n)
gap_is None m n e = (refl, cc)
gap_is (Some sort) m n e = absurd cc

token_is : (o : Option Sort) (m n : ℕ) (sort : Sort) → fronts.Token n sort ≡ shown_piece o m → (o ≡ Some sort) × (m ≡ n)
token_is None m n sort e = absurd cc
token_is (Some other) m n sort e = (cc, cc)

pub gap_shows : (f : Found) (n : ℕ) → fronts.Gap n ≡ shown f → Shows f None n
gap_shows (piece p) n e = let parts = gap_is (sort_of p) (length (spelling p)) n e in record { which = p; is = refl; sort_is = parts.0; size = parts.1 }
gap_shows (fault cause) n e = absurd cc

pub token_shows : (f : Found) (n : ℕ) (sort : Sort) → fronts.Token n sort ≡ shown f → Shows f (Some sort) n
token_shows (piece p) n sort e = let parts = token_is (sort_of p) (length (spelling p)) n sort e in record { which = p; is = refl; sort_is = parts.0; size = parts.1 }
token_shows (fault cause) n sort e = absurd cc

fault_of : (o : Option Sort) (m : ℕ) (cause : Cause) → fronts.Fault cause ≡ shown_piece o m → ⊥
fault_of None m cause e = absurd cc
fault_of (Some sort) m cause e = absurd cc

pub fault_shows : (f : Found) (cause : Cause) → fronts.Fault cause ≡ shown f → f ≡ fault cause
fault_shows (piece p) cause e = absurd (fault_of (sort_of p) (length (spelling p)) cause e)
fault_shows (fault other) cause e = cc

-- the piece that is found stands first
pub stands_first : (signs : Bool) (text : List ℕ) (sort : Option Sort) (n : ℕ) → 0 < length text → (s : Shows (front_of signs text) sort n) → StandsFirst signs text s.which
stands_first signs text sort n some s = subst (IsFront signs text) s.is (sound signs text some)

within_piece : (signs : Bool) (text : List ℕ) (p : Piece) → StandsFirst signs text p → (0 < length (spelling p)) × (length (spelling p) ≤ length text)
within_piece signs text p s = (has_bytes signs p s.rest s.stands, omega (arith, ap length s.parts, length-append (spelling p) s.rest))

within_shown : (o : Option Sort) (n most : ℕ) → 0 < n → n ≤ most → IsWithin most (shown_piece o n)
within_shown None n most pos le = (pos, le)
within_shown (Some sort) n most pos le = (pos, le)

within_found : (signs : Bool) (text : List ℕ) (f : Found) → IsFront signs text f → IsWithin (length text) (shown f)
within_found signs text (piece p) s = let w = within_piece signs text p s in within_shown (sort_of p) _ _ w.0 w.1
within_found signs text (fault cause) s = tt

pub within : (signs : Bool) (text : List ℕ) (f : Front) → 0 < length text → f ≡ shown (front_of signs text) → IsWithin (length text) f
within signs text f some e = subst (IsWithin (length text)) (sym e) (within_found signs text (front_of signs text) (sound signs text some))

-- ONE MORE PIECE

joined-push : (ps : List Piece) (p : Piece) → joined (ps ++ p ∷ []) ≡ joined ps ++ spelling p
joined-push [] p = append-nil (spelling p)
joined-push (q ∷ ps) p = ap (λ (l : List ℕ). spelling q ++ l) (joined-push ps p) ∙ sym (append_assoc (spelling q) (joined ps) (spelling p))

after_all-push : (c : Context) (ps : List Piece) (p : Piece) → after_all c (ps ++ p ∷ []) ≡ after (after_all c ps) p
after_all-push c [] p = refl
after_all-push c (q ∷ ps) p = after_all-push (after c q) ps p

stand-push : (c : Context) (ps : List Piece) (p : Piece) (rest : List ℕ) → AllStand c ps (spelling p ++ rest) → Stands (signs (after_all c ps)) p rest → AllStand c (ps ++ p ∷ []) rest
stand-push c [] p rest all s = (s, tt)
stand-push c (q ∷ ps) p rest all s =
    let same : joined ps ++ (spelling p ++ rest) ≡ joined (ps ++ p ∷ []) ++ rest = sym (append_assoc (joined ps) (spelling p) rest) ∙ ap (λ (l : List ℕ). l ++ rest) (sym (joined-push ps p)) in
    (subst (Stands (signs c) q) same all.0, stand-push (after c q) ps p rest all.1 s)

with_token-append : (at n : ℕ) (o : Option Sort) (ts us : List Token) → with_token at n o (ts ++ us) ≡ with_token at n o ts ++ us
with_token-append at n None ts us = refl
with_token-append at n (Some sort) ts us = refl

tokens-push : (at : ℕ) (ps : List Piece) (p : Piece) → tokens_from at (ps ++ p ∷ []) ≡ tokens_from at ps ++ with_token (at + length (joined ps)) (length (spelling p)) (sort_of p) []
tokens-push at [] p = let same : at ≡ at + 0 = omega arith in ap (λ (k : ℕ). with_token k (length (spelling p)) (sort_of p) []) same
tokens-push at (q ∷ ps) p =
    let n = length (spelling q) in
    let same : (at + n) + length (joined ps) ≡ at + length (spelling q ++ joined ps) = omega (arith, length-append (spelling q) (joined ps)) in
    ap (with_token at n (sort_of q)) (tokens-push (at + n) ps p ∙ ap (λ (k : ℕ). tokens_from (at + n) ps ++ with_token k (length (spelling p)) (sort_of p) []) same)
    ∙ with_token-append at n (sort_of q) (tokens_from (at + n) ps) _

-- WHAT THE LOOP KEEPS

pub record Kept (text : List ℕ) (tokens : List Token) (c : Context) (at : ℕ) : Type 0 where
  pub pieces : List Piece
  pub parts : joined pieces ++ drop at text ≡ text
  pub place : length (joined pieces) ≡ at
  pub stand : AllStand start pieces (drop at text)
  pub are_tokens : tokens_from 0 pieces ≡ tokens
  pub context : after_all start pieces ≡ c
  pub shallow : c.depth ≤ at

pub kept_first : (text : List ℕ) → Kept text [] start 0
kept_first text = record { pieces = []; parts = refl; place = refl; stand = tt; are_tokens = refl; context = refl; shallow = omega arith }

cond_most : (t : Bool) (m n most : ℕ) → m ≤ most → n ≤ most → cond t m n ≤ most
cond_most true m n most e f = e
cond_most false m n most e f = f

-- one token opens one array at most
depth_grows : (n : ℕ) (p : Piece) → depth_after n p ≤ n + 1
depth_grows n opening = omega arith
depth_grows n (mark m) = cond_most (begins (λ b. eqb b (byte "(")) m && ltb 0 n) (n + 1) _ (n + 1) (omega arith) (cond_most (begins (λ b. eqb b (byte ")")) m) (n - 1) n (n + 1) (omega arith) (omega arith))
depth_grows n _ = omega arith

context_grows : (c : Context) (p : Piece) → (after c p).depth ≤ c.depth + 1
context_grows c (blank b) = omega arith
context_grows c (comment inside) = omega arith
context_grows c (name n) = depth_grows c.depth (name n)
context_grows c (keyword n) = depth_grows c.depth (keyword n)
context_grows c (operator o) = depth_grows c.depth (operator o)
context_grows c (number minus ds) = depth_grows c.depth (number minus ds)
context_grows c (character b) = depth_grows c.depth (character b)
context_grows c (string inside) = depth_grows c.depth (string inside)
context_grows c (symbol s) = depth_grows c.depth (symbol s)
context_grows c opening = depth_grows c.depth opening
context_grows c (mark m) = depth_grows c.depth (mark m)

-- what is kept of equal parts
moved : {text : List ℕ} {tokens tokens' : List Token} {c d : Context} {at at' : ℕ} → c ≡ d → tokens ≡ tokens' → at ≡ at' → Kept text tokens c at → Kept text tokens' d at'
moved {text = text} {tokens = tokens} {tokens' = tokens'} {c = c} {d = d} {at = at} {at' = at'} same_context same_tokens same_place kept =
    subst (λ k. Kept text tokens' d k) same_place (subst (λ ts. Kept text ts d at) same_tokens (subst (λ x. Kept text tokens x at) same_context kept))

-- blanks and comments say nothing of signs
after-gap : (c : Context) (p : Piece) → sort_of p ≡ None → after c p ≡ c
after-gap c (blank b) e = refl
after-gap c (comment inside) e = refl
after-gap c (name n) e = absurd cc
after-gap c (keyword n) e = absurd cc
after-gap c (operator o) e = absurd cc
after-gap c (number minus ds) e = absurd cc
after-gap c (character b) e = absurd cc
after-gap c (string inside) e = absurd cc
after-gap c (symbol s) e = absurd cc
after-gap c opening e = absurd cc
after-gap c (mark m) e = absurd cc

-- what a token says of signs is told by its sort and its first byte
abbrev behind_token : Context → Sort → ℕ → Context
behind_token c sort b = record { operand = is_operand_token sort b; depth = depth_behind c.depth sort b }

abbrev Tells : Context → Piece → List ℕ → Sort → Type 0
Tells c p rest sort = after c p ≡ behind_token c sort (get_or (spelling p ++ rest) 0 0)

after-token : (c : Context) (p : Piece) (rest : List ℕ) (sort : Sort) (signs : Bool) → Stands signs p rest → sort_of p ≡ Some sort → Tells c p rest sort
after-token c (blank b) rest sort signs s e = absurd cc
after-token c (comment inside) rest sort signs s e = absurd cc
after-token c (name n) rest sort signs s e = let same : sorts.Name ≡ sort = cc in subst (Tells c (name n) rest) same refl
after-token c (keyword n) rest sort signs s e = let same : sorts.Keyword ≡ sort = cc in subst (Tells c (keyword n) rest) same refl
after-token c (operator o) rest sort signs s e = let same : sorts.Operator ≡ sort = cc in subst (Tells c (operator o) rest) same refl
after-token c (number minus ds) rest sort signs s e = let same : sorts.Number (record { minus = minus; size = size ds }) ≡ sort = cc in subst (Tells c (number minus ds) rest) same refl
after-token c (character b) rest sort signs s e = let same : sorts.Character b ≡ sort = cc in subst (Tells c (character b) rest) same refl
after-token c (string inside) rest sort signs s e = let same : sorts.Bytes ≡ sort = cc in subst (Tells c (string inside) rest) same refl
after-token c (symbol s') rest sort signs s e = let same : sorts.Symbol ≡ sort = cc in subst (Tells c (symbol s') rest) same refl
after-token c opening rest sort signs s e = let same : sorts.Opening ≡ sort = cc in subst (Tells c opening rest) same refl
after-token c (mark []) rest sort signs s e = absurd cc
after-token c (mark (b ∷ m)) rest sort signs s e = let same : sorts.Mark ≡ sort = cc in subst (Tells c (mark (b ∷ m)) rest) same refl

module _ (text : List ℕ) (tokens : List Token) (c : Context) (at : ℕ) (kept : Kept text tokens c at) where
  kept_piece : (p : Piece) → StandsFirst (signs c) (drop at text) p → Kept text (tokens ++ with_token at (length (spelling p)) (sort_of p) []) (after c p) (at + length (spelling p))
  kept_piece p s =
      let n = length (spelling p) in
      let behind : s.rest ≡ drop (at + n) text = sym (drop-append_seam (spelling p) s.rest) ∙ ap (drop n) s.parts ∙ drop-drop n at text in
      let pieces = kept.pieces in
      let stand = stand-push start pieces p s.rest (subst (AllStand start pieces) (sym s.parts) kept.stand) (subst (λ d. Stands (signs d) p s.rest) (sym kept.context) s.stands) in
      record {
        pieces = pieces ++ p ∷ [];
        parts =
            ap (λ (l : List ℕ). joined (pieces ++ p ∷ []) ++ l) (sym behind)
            ∙ ap (λ (l : List ℕ). l ++ s.rest) (joined-push pieces p)
            ∙ append_assoc (joined pieces) (spelling p) s.rest
            ∙ ap (λ (l : List ℕ). joined pieces ++ l) s.parts
            ∙ kept.parts;
        place = ap length (joined-push pieces p) ∙ length-append (joined pieces) (spelling p) ∙ ap (λ (k : ℕ). k + n) kept.place;
        stand = subst (AllStand start (pieces ++ p ∷ [])) behind stand;
        are_tokens =
            let here : 0 + length (joined pieces) ≡ at = omega (arith, kept.place) in
            tokens-push 0 pieces p
            ∙ ap (λ ts. ts ++ with_token (0 + length (joined pieces)) n (sort_of p) []) kept.are_tokens
            ∙ ap (λ (k : ℕ). tokens ++ with_token k n (sort_of p) []) here;
        context = after_all-push start pieces p ∙ ap (λ d. after d p) kept.context;
        shallow = omega (arith, context_grows c p, kept.shallow, has_bytes (signs c) p s.rest s.stands);
      }

  some_left : at < length text → 0 < length (drop at text)
  some_left lt = omega (arith, length-drop at text)

  pub kept_gap : (n : ℕ) → at < length text → fronts.Gap n ≡ shown (front_of (signs c) (drop at text)) → Kept text tokens c (at + n)
  kept_gap n lt e =
      let s = gap_shows (front_of (signs c) (drop at text)) n e in
      let kept' = kept_piece s.which (stands_first (signs c) (drop at text) None n (some_left lt) s) in
      let same : tokens ++ with_token at (length (spelling s.which)) (sort_of s.which) [] ≡ tokens =
      ap (λ (o : Option Sort). tokens ++ with_token at (length (spelling s.which)) o []) s.sort_is ∙ append-nil tokens in
      moved (after-gap c s.which s.sort_is) same (ap (λ (k : ℕ). at + k) s.size) kept'

  pub kept_token : (n : ℕ) (sort : Sort) (more : List Token) (operand : Bool) (depth : ℕ) → at < length text → fronts.Token n sort ≡ shown (front_of (signs c) (drop at text))
      → more ≡ tokens ++ record { start = at; end = at + n; sort = sort } ∷ []
      → operand ≡ is_operand_token sort (get_or (drop at text) 0 0)
      → depth ≡ depth_behind c.depth sort (get_or (drop at text) 0 0)
      → Kept text more (record { operand = operand; depth = depth }) (at + n)
  kept_token n sort more operand depth lt e pushed operand_is depth_is =
      let s = token_shows (front_of (signs c) (drop at text)) n sort e in
      let first = stands_first (signs c) (drop at text) (Some sort) n (some_left lt) s in
      let kept' = kept_piece s.which first in
      let same : tokens ++ with_token at (length (spelling s.which)) (sort_of s.which) [] ≡ tokens ++ record { start = at; end = at + n; sort = sort } ∷ [] =
      ap (λ (o : Option Sort). tokens ++ with_token at (length (spelling s.which)) o []) s.sort_is ∙ ap (λ (k : ℕ). tokens ++ with_token at k (Some sort) []) s.size in
      let behind = after-token c s.which first.rest sort (signs c) first.stands s.sort_is ∙ ap (λ (l : List ℕ). behind_token c sort (get_or l 0 0)) first.parts in
      let context : behind_token c sort (get_or (drop at text) 0 0) ≡ record { operand = operand; depth = depth } =
      ap (λ (o : Bool). record { operand = o; depth = depth_behind c.depth sort (get_or (drop at text) 0 0) }) (sym operand_is) ∙ ap (λ (k : ℕ). record { operand = operand; depth = k }) (sym depth_is) in
      moved (behind ∙ context) (same ∙ sym pushed) (ap (λ (k : ℕ). at + k) s.size) kept'

  pub kept_fault : (cause : Cause) (place : ℕ) → at < length text → place ≡ at + 1 → fronts.Fault cause ≡ shown (front_of (signs c) (drop at text)) → ScansTo text tokens (Some (record { place = place; cause = cause }))
  kept_fault cause place lt here e =
      let faulty = subst (IsFront (signs c) (drop at text)) (fault_shows (front_of (signs c) (drop at text)) cause e) (sound (signs c) (drop at text) (some_left lt)) in
      record {
        pieces = kept.pieces;
        rest = drop at text;
        parts = kept.parts;
        stand = kept.stand;
        are_tokens = kept.are_tokens;
        ends = (here ∙ ap (λ (k : ℕ). k + 1) (sym kept.place), subst (λ d. IsFaulty (signs d) cause (drop at text)) (sym kept.context) faulty);
      }

  pub kept_end : length text ≤ at → ScansTo text tokens None
  kept_end le = record {
    pieces = kept.pieces;
    rest = drop at text;
    parts = kept.parts;
    stand = kept.stand;
    are_tokens = kept.are_tokens;
    ends = nil_from_length (drop at text) (omega (arith, length-drop at text));
  }
