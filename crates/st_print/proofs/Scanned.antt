-- Words with one space between two of them are scanned as those words, and have their kinds.
use Rattle.std.proofs.Common.{◌≡◌, ℕ, ◌+◌, ◌-◌, ◌<◌, ◌≤◌, Bool, false, eqb, List, [], ◌∷◌, ◌++◌, length, take, drop, Option, Some, None, inl, inr, refl, sym, ap, ◌∙◌, subst, arith}
use Rattle.std.specs.Prelude.{codes, bytes_eq}
use Rattle.std.specs.Str.{byte}
use Rattle.std.proofs.lemmas.Bool.{cases_Bool, ne_eqb, and_right}
use Rattle.std.proofs.lemmas.List.{append-nil, drop-drop}
use Rattle.std.proofs.Math.Seq.{take-append_seam, drop-append_seam}
use Rattle.st_scan.specs.declared.token.Token.{Token}
use Rattle.st_scan.specs.declared.token.Sort.{Sort}
use Rattle.st_scan.specs.Pieces.{Piece, IsFormed, Stands, spelling}
use Rattle.st_scan.specs.Pieces as pieces
use Rattle.st_scan.specs.Scans.{Context, start, signs, joined, AllStand, with_token, tokens_from}
use Rattle.st_scan.specs.inside.Scanned.{HasTokens}
use Rattle.st_scan.proofs.Formed.{before_end, before_blank}
use Rattle.st_grammar.specs.declared.leaf.Leaf.{Leaf}
use Rattle.st_grammar.specs.declared.leaf.Kind.{Kind}
use Rattle.st_grammar.specs.Leaves.{bytes_of, kind_of_sort, ends_keyword, is_joined, leaf_of, leaves_behind, leaves_of, operator_kind, keyword_kind}
use Rattle.st_grammar.specs.Faults.{level, highest}
use Rattle.st_grammar.proofs.KindSets.{sample}
use Rattle.st_print.specs.Words.{Word, name, keyword, operator, number, character, string, symbol, opening, mark, word_text, spaced, text_of}
use Rattle.st_print.proofs.Going.{word_sort, word_kind, after_word, word_level, Goes}
use Rattle.st_print.proofs.WordPieces.{IsPiece, word_piece}
use Rattle.st_print.proofs.Spelled.{IsWord, Spells}

-- pieces with a blank before each
abbrev spaced_pieces : List Piece → List Piece
spaced_pieces [] = []
spaced_pieces (p ∷ ps) = pieces.blank 32 ∷ p ∷ spaced_pieces ps

stands_spaced : (s : Bool) (p : Piece) (ps : List Piece) → IsFormed s p → Stands s p (joined (spaced_pieces ps) ++ [])
stands_spaced s p [] f = before_end s p f
stands_spaced s p (q ∷ ps) f = before_blank s p ((spelling q ++ joined (spaced_pieces ps)) ++ []) f

-- the token before ends before a place
abbrev EndsBefore : Option Token → ℕ → Type 0
EndsBefore None at = Unit {0}
EndsBefore (Some b) at = b.end < at

abbrev token_at : ℕ → Piece → Word → Token
token_at at p w = record { start = at; end = at + length (spelling p); sort = word_sort w }

not_joined : (b : Option Token) (t : Token) → EndsBefore b t.start → is_joined b t ≡ false
not_joined None t e = refl
not_joined (Some b) t e = and_right (ends_keyword b.sort) (eqb b.end t.start) (ne_eqb b.end t.start (λ s. omega arith))

module _ (text : List ℕ) where
  word_leaf : (s : Bool) (at : ℕ) (w : Word) (p : IsPiece s w) (rest : List ℕ) (b : Option Token) → EndsBefore b at → drop at text ≡ spelling p.piece ++ rest → IsWord text w (leaf_of text b (token_at at p.piece w))
  word_leaf s at w p rest b far lies =
      let n = length (spelling p.piece) in
      let span : (at + n) - at ≡ n = omega arith in
      let front : bytes_of text (token_at at p.piece w) ≡ word_text w =
      ap (λ (k : ℕ). take k (drop at text)) span ∙ ap (take n) lies ∙ take-append_seam (spelling p.piece) rest ∙ p.spelled in
      record {
        bytes_are = front;
        sort_is = refl;
        kind_is = ap (λ (j : Bool). kind_of_sort j (bytes_of text (token_at at p.piece w)) (word_sort w)) (not_joined b (token_at at p.piece w) far) ∙ ap (λ (l : List ℕ). kind_of_sort false l (word_sort w)) front;
      }

-- the pieces of words, with a blank before each
record Pieces (c : Context) (ws : List Word) : Type 0 where
  all : List Piece
  stand : AllStand c (spaced_pieces all) []
  spelled : joined (spaced_pieces all) ≡ spaced ws
  leaves : (text : List ℕ) (at : ℕ) (b : Option Token) → EndsBefore b (at + 1) → drop at text ≡ joined (spaced_pieces all) → Spells text (leaves_behind text b (tokens_from at (spaced_pieces all))) ws

module _ (c : Context) (w : Word) (ws : List Word) (p : IsPiece (signs c) w) (more : Pieces (after_word c w) ws) where
  -- a word, before others
  stands : AllStand c (p.piece ∷ spaced_pieces more.all) []
  stands = (stands_spaced (signs c) p.piece more.all p.formed, subst (λ (d : Context). AllStand d (spaced_pieces more.all) []) (sym (p.context c)) more.stand)

  text_is : joined (p.piece ∷ spaced_pieces more.all) ≡ word_text w ++ spaced ws
  text_is = ap (λ (l : List ℕ). l ++ joined (spaced_pieces more.all)) p.spelled ∙ ap (λ (l : List ℕ). word_text w ++ l) more.spelled

  leaves_are : (text : List ℕ) (at : ℕ) (b : Option Token) → EndsBefore b at → drop at text ≡ joined (p.piece ∷ spaced_pieces more.all) → Spells text (leaves_behind text b (tokens_from at (p.piece ∷ spaced_pieces more.all))) (w ∷ ws)
  leaves_are text at b far lies =
      let n = length (spelling p.piece) in
      let rest = joined (spaced_pieces more.all) in
      let behind : drop (at + n) text ≡ rest = sym (drop-drop n at text) ∙ ap (drop n) lies ∙ drop-append_seam (spelling p.piece) rest in
      let others = more.leaves text (at + n) (Some (token_at at p.piece w)) (omega arith) behind in
      subst (λ (o : Option Sort). Spells text (leaves_behind text b (with_token at n o (tokens_from (at + n) (spaced_pieces more.all)))) (w ∷ ws)) (sym p.sort_is)
      (word_leaf text (signs c) at w p rest b far lies, others)

  with_blank : Pieces c (w ∷ ws)
  with_blank = record {
    all = p.piece ∷ more.all;
    stand = (refl, stands);
    spelled = ap (λ (l : List ℕ). 32 ∷ l) text_is;
    leaves = λ text at b far lies.
        let behind : drop (at + 1) text ≡ joined (p.piece ∷ spaced_pieces more.all) = sym (drop-drop 1 at text) ∙ ap (drop 1) lies in
        leaves_are text (at + 1) b far behind;
  }

pieces_of : (m : ℕ) (c : Context) (h : ℕ) (ws : List Word) (d : Context) (k : ℕ) → Goes m c h ws d k → Pieces c ws
pieces_of m c h [] d k g = record { all = []; stand = tt; spelled = refl; leaves = λ text at b far lies. tt }
pieces_of m c h (w ∷ ws) d k g = with_blank c w ws (word_piece (signs c) w g.0) (pieces_of m (after_word c w) (word_level h w) ws d k g.2)

-- the tokens of words, and their leaves
pub record Scanned (ws : List Word) : Type 0 where
  pub tokens : List Token
  pub scan : HasTokens (text_of ws) tokens
  pub spells : Spells (text_of ws) (leaves_of (text_of ws) tokens) ws

pub scanned : (m h k : ℕ) (ws : List Word) (d : Context) → Goes m start h ws d k → Scanned ws
scanned m h k [] d g = record { tokens = []; scan = record { pieces = []; rest = []; parts = refl; stand = tt; are_tokens = refl; ends = refl }; spells = tt }
scanned m h k (w ∷ ws) d g =
    let p = word_piece (signs start) w g.0 in
    let more = pieces_of m (after_word start w) (word_level h w) ws d k g.2 in
    let all = p.piece ∷ spaced_pieces more.all in
    let text : joined all ≡ text_of (w ∷ ws) = text_is start w ws p more in
    record {
      tokens = tokens_from 0 all;
      scan = record { pieces = all; rest = []; parts = append-nil (joined all) ∙ text; stand = stands start w ws p more; are_tokens = refl; ends = refl };
      spells = leaves_are start w ws p more (text_of (w ∷ ws)) 0 None tt (sym text);
    }

-- BRACKETS

level_of_keyword : (h : ℕ) (b : List ℕ) → level h (sample (keyword_kind false b)) ≡ h
level_of_keyword h b = elim (cases_Bool (bytes_eq b (codes "primitive:"))) [ inl t ↦ rw t refl | inr f ↦ rw f refl ]

level_of_operator : (h : ℕ) (o : List ℕ) → level h (sample (operator_kind o)) ≡ h
level_of_operator h [] = refl
level_of_operator h (b ∷ []) = elim (cases_Bool (eqb b (byte "|"))) [
  | inl t ↦ rw t refl
  | inr f ↦ elim (cases_Bool (eqb b (byte "<"))) [
    | inl t ↦ rw (f, t) refl
    | inr g ↦ elim (cases_Bool (eqb b (byte ">"))) [ inl t ↦ rw (f, g, t) refl | inr e ↦ rw (f, g, e) refl ]
  ]
]
level_of_operator h (b ∷ c ∷ o) = refl

level_of_word : (h : ℕ) (w : Word) → level h (sample (word_kind w)) ≡ word_level h w
level_of_word h (name text) = refl
level_of_word h (keyword text) = level_of_keyword h text
level_of_word h (operator text) = level_of_operator h text
level_of_word h (number n) = refl
level_of_word h (character b) = refl
level_of_word h (string text) = refl
level_of_word h (symbol text) = refl
level_of_word h opening = refl
level_of_word h (mark b) = refl

module _ (text : List ℕ) where
  leaf_level : (h : ℕ) (w : Word) (x : Leaf) → IsWord text w x → level h x ≡ word_level h w
  leaf_level h w x is = ap (λ (k : Kind). level h (sample k)) is.kind_is ∙ level_of_word h w

  -- no more brackets are open than words say
  pub open_brackets : (m : ℕ) (c : Context) (h : ℕ) (ws : List Word) (d : Context) (k : ℕ) (ts : List Leaf) → h ≤ m → Goes m c h ws d k → Spells text ts ws → highest h ts ≤ m
  open_brackets m c h [] d k [] le g s = le
  open_brackets m c h [] d k (x ∷ ts) le g s = absurd s
  open_brackets m c h (w ∷ ws) d k [] le g s = absurd s
  open_brackets m c h (w ∷ ws) d k (x ∷ ts) le g s =
      let same = leaf_level h w x s.0 in
      let more = open_brackets m (after_word c w) (word_level h w) ws d k ts g.1 g.2 s.1 in
      omega (arith, ap (λ (j : ℕ). highest j ts) same)
