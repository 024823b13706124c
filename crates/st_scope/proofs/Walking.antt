-- The names that an expression mentions, along its chain: the targets from the outside in, what the chain starts with, and the
-- messages from the inside out.
use Rattle.std.proofs.Common.{◌≡◌, ℕ, zero, suc, ◌+◌, ◌<◌, List, [], ◌∷◌, ◌++◌, length, take, get_or, Result, Ok, Err, sym, ap, ◌∙◌, arith}
use Rattle.std.specs.Prelude.{OnOk}
use Rattle.std.proofs.lemmas.List.{append_assoc, append-nil}
use Rattle.st_scan.specs.declared.chain.Link.{Link}
use Rattle.st_scan.specs.Views.{ExpressionView}
use Rattle.st_scan.specs.inside.Chains.{LinkView, assigned, sent, with_link, linked, link_view, links_view}
use Rattle.st_scope.specs.Mentions.{mentioned, mentioned_by}
use Rattle.st_scope.specs.inside.Walks.{target_mentioned, targets_mentioned, all_sent_mentioned}

pub chain_mentioned : (e : ExpressionView) (ls : List LinkView) → mentioned (linked e ls) ≡ targets_mentioned ls ++ (mentioned e ++ all_sent_mentioned ls)
chain_mentioned e [] = sym (append-nil (mentioned e))
chain_mentioned e (assigned target ∷ ls) =
    chain_mentioned (with_link (assigned target) e) ls ∙ sym (append_assoc (targets_mentioned ls) (target.text ∷ []) (mentioned e ++ all_sent_mentioned ls))
chain_mentioned e (sent ms ∷ ls) =
    chain_mentioned (with_link (sent ms) e) ls
    ∙ (ap (λ x. targets_mentioned ls ++ x) (append_assoc (mentioned e) (mentioned_by ms) (all_sent_mentioned ls))
    ∙ ap (λ x. x ++ (mentioned e ++ (mentioned_by ms ++ all_sent_mentioned ls))) (sym (append-nil (targets_mentioned ls))))

last_target : (links : List Link) (i : ℕ) (d : Link) → i < length links
    → targets_mentioned (links_view (take (suc i) links)) ≡ target_mentioned (link_view (get_or links i d)) ++ targets_mentioned (links_view (take i links))
last_target [] i d l = absurd (omega (arith, l))
last_target (x ∷ xs) zero d l = sym (append-nil (target_mentioned (link_view x)))
last_target (x ∷ xs) (suc i) d l =
    ap (λ ts. ts ++ target_mentioned (link_view x)) (last_target xs i d (omega (arith, l)))
    ∙ append_assoc (target_mentioned (link_view (get_or xs i d))) (targets_mentioned (links_view (take i xs))) (target_mentioned (link_view x))

-- the outermost link of the first so many
targets_turn : (links : List Link) (i : ℕ) (d : Link) → i < length links
    → targets_mentioned (links_view (take (i + 1) links)) ≡ target_mentioned (link_view (get_or links i d)) ++ targets_mentioned (links_view (take i links))
targets_turn links i d l =
    let n : i + 1 ≡ suc i = omega arith in
    ap (λ k. targets_mentioned (links_view (take k links))) n ∙ last_target links i d l

-- one target more, from the outside in
pub targets_passed : (links : List Link) (i left : ℕ) (x : Link) (old new all : List (List ℕ)) → i + 1 ≡ left → i < length links → x ≡ get_or links i x
    → new ≡ old ++ target_mentioned (link_view x) → old ++ targets_mentioned (links_view (take left links)) ≡ all → new ++ targets_mentioned (links_view (take i links)) ≡ all
targets_passed links i left x old new all one l e added so_far =
    ap (λ ts. ts ++ targets_mentioned (links_view (take i links))) added
    ∙ (append_assoc old (target_mentioned (link_view x)) (targets_mentioned (links_view (take i links)))
    ∙ (ap (λ y. old ++ (target_mentioned (link_view y) ++ targets_mentioned (links_view (take i links)))) e
    ∙ (ap (λ ts. old ++ ts) (sym (targets_turn links i x l))
    ∙ (ap (λ k. old ++ targets_mentioned (links_view (take k links))) one
    ∙ so_far))))

-- a chain, part after part
pub chain_walked : {A E : Type 0} (r : Result A E) (first : ExpressionView) (ls : List LinkView) (old targets start all : List (List ℕ))
    → targets ≡ old ++ targets_mentioned ls → start ≡ targets ++ mentioned first → OnOk r (all ≡ start ++ all_sent_mentioned ls) → OnOk r (all ≡ old ++ mentioned (linked first ls))
chain_walked (Err e) first ls old targets start all a b h = h
chain_walked (Ok x) first ls old targets start all a b h =
    h
    ∙ (ap (λ ts. ts ++ all_sent_mentioned ls) (b ∙ ap (λ ts. ts ++ mentioned first) a)
    ∙ (append_assoc (old ++ targets_mentioned ls) (mentioned first) (all_sent_mentioned ls)
    ∙ (append_assoc old (targets_mentioned ls) (mentioned first ++ all_sent_mentioned ls)
    ∙ ap (λ ts. old ++ ts) (sym (chain_mentioned first ls)))))
