-- The number with a sign that words begin with.
use Rattle.std.proofs.Common.{◌≡◌, ℕ, ◌-◌, Bool, true, false, List, [], ◌∷◌, ◌++◌, length, take, drop, min, refl, sym, ap, ◌∙◌, append_assoc, inl, inr, ⊎_elim, arith, length-append}
use Rattle.std.specs.Prelude.{◌==◌, ◌⊎◌, if◌then◌else◌, Option, Some, None}
use Rattle.std.specs.Str.{byte}
use Rattle.std.proofs.lemmas.List.{append-nil}
use Rattle.std.proofs.lemmas.Bool.{eqb-true, eq-eqb}
use Rattle.std.proofs.Math.Seq.{drop-append_seam}
use Rattle.st_scan.specs.declared.token.Signed.{Signed}
use Rattle.st_scan.specs.Views.{ContentView, number, character, bytes, symbol, array, nil_object, false_object, true_object, ExpressionView, variable, literal, block, assign, send}
use Rattle.st_scan.specs.declared.chain.Link.{Link}
use Rattle.st_scan.specs.inside.Chains.{LinkView, assigned, sent, linked, links_view, IsStart}
use Rattle.st_print.specs.declared.rank.Rank.{Rank}
use Rattle.st_print.specs.declared.rank.Rank.TheVariants.{Any}
use Rattle.st_print.specs.Words.{Word, number_text, spaced, grouped, wrapped, mark}
use Rattle.st_print.specs.Words as words
use Rattle.st_print.specs.Printed.{is_loose, rank_of, receiver_rank, content_words, expression_words, messages_words, first_signed, apart, behind_pattern}
use Rattle.st_print.specs.inside.Chained.{rank_of_link, wanted_by, opened, target_words, before_link, before_links, behind_links, signed_content, signed_start}
use Rattle.st_print.proofs.Turning.{put_word, put_then, take_rest}
use Rattle.st_print.proofs.Chained.{chained}

content_first : (what : ContentView) (more : List Word) → first_signed (content_words what ++ more) ≡ signed_content what
content_first (number n) more = refl
content_first (character b) more = refl
content_first (bytes text) more = refl
content_first (symbol text) more = refl
content_first (array es) more = refl
content_first nil_object more = refl
content_first false_object more = refl
content_first true_object more = refl

start_first : (e : ExpressionView) (more : List Word) → IsStart e → first_signed (expression_words e ++ more) ≡ signed_start e
start_first (variable n) more h = refl
start_first (literal e) more h = content_first e.what more
start_first (block names body) more h = refl
start_first (assign target e) more h = absurd h
start_first (send r ms) more h = absurd h

abbrev BeginsOtherwise : List Word → Type 0
BeginsOtherwise ws = (more : List Word) → first_signed (ws ++ more) ≡ None

link_first : (b : Bool) (l : LinkView) → (opened b ++ target_words l ≡ []) ⊎ BeginsOtherwise (opened b ++ target_words l)
link_first true l = inr (λ more. refl)
link_first false (assigned target) = inr (λ more. refl)
link_first false (sent ms) = inl refl

links_first : (outer : Rank) (ls : List LinkView) → (before_links outer ls ≡ []) ⊎ BeginsOtherwise (before_links outer ls)
links_first outer [] = inl refl
links_first outer (l ∷ ls) =
    let here = before_link (wanted_by outer ls) l in
    ⊎_elim
    (λ none. ⊎_elim
    (λ empty. inl (ap (λ (x : List Word). x ++ here) none ∙ empty))
    (λ otherwise. inr (λ more. ap (λ (x : List Word). first_signed ((x ++ here) ++ more)) none ∙ otherwise more))
    (link_first (is_loose (wanted_by outer ls) (rank_of_link l)) l))
    (λ otherwise. inr (λ more. ap (λ (x : List Word). first_signed x) (append_assoc (before_links outer ls) here more) ∙ otherwise (here ++ more)))
    (links_first outer ls)

-- where nothing stands before the start
pub signed_bare : (e whole : ExpressionView) (ls : List LinkView) → IsStart e → linked e ls ≡ whole → before_links Any ls ≡ [] → first_signed (expression_words whole) ≡ signed_start e
signed_bare e whole ls h is none =
    ap first_signed (chained Any e whole ls h is)
    ∙ ap (λ (x : List Word). first_signed ((x ++ expression_words e) ++ behind_links Any ls)) none
    ∙ start_first e (behind_links Any ls) h

-- where something does
pub signed_never : (e whole : ExpressionView) (ls : List LinkView) → IsStart e → linked e ls ≡ whole → (before_links Any ls ≡ [] → ⊥) → first_signed (expression_words whole) ≡ None
signed_never e whole ls h is some =
    ap first_signed (chained Any e whole ls h is)
    ∙ ap first_signed (append_assoc (before_links Any ls) (expression_words e) (behind_links Any ls))
    ∙ ⊎_elim (λ none. absurd (some none)) (λ otherwise. otherwise (expression_words e ++ behind_links Any ls)) (links_first Any ls)

-- what was put before a start, where nothing stood before
pub put_before : (made out : List ℕ) (held ls : List Link) → made ≡ [] → held ≡ ls → out ≡ made ++ spaced (before_links Any (links_view held)) → out ≡ spaced (before_links Any (links_view ls))
put_before made out held ls none same put = put ∙ ap (λ (x : List ℕ). x ++ spaced (before_links Any (links_view held))) none ∙ ap (λ (x : List Link). spaced (before_links Any (links_view x))) same

pub no_words : (ws : List Word) → true ≡ (length (spaced ws) == 0) → ws ≡ []
no_words [] e = refl
no_words (w ∷ ws) e = let none = eqb-true (length (spaced (w ∷ ws))) 0 (sym e) in absurd (omega arith)

pub some_words : (ws : List Word) → false ≡ (length (spaced ws) == 0) → ws ≡ [] → ⊥
some_words [] e none = cc
some_words (w ∷ ws) e none = cc

-- such a number is the first word
signed_word : (n m : Signed) (b : Bool) (ws : List Word) → Some n ≡ (if b then Some m else None) → words.number m ∷ ws ≡ words.number n ∷ ws
signed_word n m true ws e = let same : n ≡ m = cc in ap (λ (x : Signed). words.number x ∷ ws) (sym same)
signed_word n m false ws e = absurd cc

pub signed_first : (ws : List Word) (n : Signed) → Some n ≡ first_signed ws → ws ≡ words.number n ∷ drop 1 ws
signed_first [] n e = absurd cc
signed_first (words.number m ∷ ws) n e = signed_word n m m.minus ws e
signed_first (words.name t ∷ ws) n e = absurd cc
signed_first (words.keyword t ∷ ws) n e = absurd cc
signed_first (words.operator t ∷ ws) n e = absurd cc
signed_first (words.character b ∷ ws) n e = absurd cc
signed_first (words.string t ∷ ws) n e = absurd cc
signed_first (words.symbol t ∷ ws) n e = absurd cc
signed_first (words.opening ∷ ws) n e = absurd cc
signed_first (words.mark b ∷ ws) n e = absurd cc

-- the words behind it
behind_number : (n : Signed) (rest : List Word) (k : ℕ) → k ≡ min (length (byte " " ∷ number_text n)) (length (spaced (words.number n ∷ rest))) → drop k (spaced (words.number n ∷ rest)) ≡ spaced rest
behind_number n rest k e =
    let long = length-append (byte " " ∷ number_text n) (spaced rest) in
    let same : k ≡ length (byte " " ∷ number_text n) = omega (arith, long) in
    ap (λ i. drop i (spaced (words.number n ∷ rest))) same ∙ drop-append_seam (byte " " ∷ number_text n) (spaced rest)

-- the number in parentheses, and the words behind it
pub put_apart : (out one two three end first all : List ℕ) (ws : List Word) (n : Signed) (k : ℕ) → Some n ≡ first_signed ws → first ≡ byte " " ∷ number_text n → all ≡ spaced ws
    → one ≡ out ++ byte " " ∷ byte "(" ∷ [] → two ≡ one ++ first → three ≡ two ++ byte " " ∷ byte ")" ∷ [] → k ≡ min (length first) (length all)
    → end ≡ three ++ take (length all - k) (drop k all) → end ≡ out ++ spaced (apart (first_signed ws) ws)
put_apart out one two three end first all ws n k is number_is all_is one_is two_is three_is k_is end_is =
    let rest = drop 1 ws in
    let parts : ws ≡ words.number n ∷ rest = signed_first ws n is in
    let whole : all ≡ spaced (words.number n ∷ rest) = all_is ∙ ap spaced parts in
    let bound : k ≡ min (length (byte " " ∷ number_text n)) (length (spaced (words.number n ∷ rest))) = k_is ∙ ap (λ (x : List ℕ). min (length x) (length all)) number_is ∙ ap (λ (x : List ℕ). min (length (byte " " ∷ number_text n)) (length x)) whole in
    let tail : take (length all - k) (drop k all) ≡ spaced rest = take_rest all k ∙ ap (drop k) whole ∙ behind_number n rest k bound in
    let a = put_word out one (mark (byte "(")) one_is in
    let b = put_then out one two (mark (byte "(") ∷ []) (words.number n ∷ []) a (put_word one two (words.number n) (two_is ∙ ap (λ (x : List ℕ). one ++ x) number_is)) in
    let c = put_then out two three (mark (byte "(") ∷ words.number n ∷ []) (mark (byte ")") ∷ []) b (put_word two three (mark (byte ")")) three_is) in
    put_then out three end (grouped (words.number n ∷ [])) rest c (end_is ∙ ap (λ (x : List ℕ). three ++ x) tail)
    ∙ ap (λ (x : List Word). out ++ spaced x) (sym (ap (λ (x : List Word). apart (first_signed ws) x) parts ∙ ap (λ (o : Option Signed). apart o (words.number n ∷ rest)) (sym is)))

-- OPTIONS

pub no_options : (out new : List ℕ) (options body : List Word) → new ≡ out ++ spaced options → true ≡ (length new == length out) → behind_pattern options body ≡ options ++ apart (first_signed body) body
no_options out new [] body is e = refl
no_options out new (w ∷ options) body is e =
    let long = ap length is in
    let more = length-append out (spaced (w ∷ options)) in
    let same = eqb-true (length new) (length out) (sym e) in
    absurd (omega arith)

pub some_options : (out new : List ℕ) (options body : List Word) → new ≡ out ++ spaced options → false ≡ (length new == length out) → behind_pattern options body ≡ options ++ body
some_options out new [] body is e =
    let same = eq-eqb (length new) (length out) (ap length is ∙ ap length (append-nil out)) in
    absurd cc
some_options out new (w ∷ options) body is e = refl

-- EXPRESSIONS HAVE WORDS

abbrev HasFirst : List Word → Type 0
HasFirst ws = (w : Word) × (vs : List Word) × (ws ≡ w ∷ vs)

content_some : (what : ContentView) → HasFirst (content_words what)
content_some (number n) = (words.number n, [], refl)
content_some (character b) = (words.character b, [], refl)
content_some (bytes text) = (words.string text, [], refl)
content_some (symbol text) = (words.symbol text, [], refl)
content_some (array es) = (words.opening, _, refl)
content_some nil_object = (_, [], refl)
content_some false_object = (_, [], refl)
content_some true_object = (_, [], refl)

wrapped_some : (b : Bool) (ws more : List Word) → HasFirst ws → HasFirst (wrapped b ws ++ more)
wrapped_some true ws more x = (mark (byte "("), _, refl)
wrapped_some false ws more x = (x.0, x.1 ++ more, ap (λ (y : List Word). y ++ more) x.2)

expression_some : (e : ExpressionView) → HasFirst (expression_words e)
expression_some (variable n) = (words.name n.text, [], refl)
expression_some (literal e) = content_some e.what
expression_some (block names body) = (mark (byte "["), _, refl)
expression_some (assign target e) = (words.name target.text, _, refl)
expression_some (send r ms) = wrapped_some (is_loose (receiver_rank ms) (rank_of r)) (expression_words r) (messages_words ms) (expression_some r)

head_signed : (w : Word) (vs more : List Word) → first_signed ((w ∷ vs) ++ more) ≡ first_signed (w ∷ vs)
head_signed (words.number n) vs more = refl
head_signed (words.name t) vs more = refl
head_signed (words.keyword t) vs more = refl
head_signed (words.operator t) vs more = refl
head_signed (words.character b) vs more = refl
head_signed (words.string t) vs more = refl
head_signed (words.symbol t) vs more = refl
head_signed words.opening vs more = refl
head_signed (words.mark b) vs more = refl

-- what an expression begins with, whatever stands behind it
pub signed_more : (e : ExpressionView) (more : List Word) → first_signed (expression_words e ++ more) ≡ first_signed (expression_words e)
signed_more e more =
    let x = expression_some e in
    ap (λ (y : List Word). first_signed (y ++ more)) x.2 ∙ head_signed x.0 x.1 more ∙ sym (ap first_signed x.2)
