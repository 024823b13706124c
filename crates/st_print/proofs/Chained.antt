-- The words of an expression along its chain.
use Rattle.std.proofs.Common.{◌≡◌, Bool, true, false, List, [], ◌∷◌, ◌++◌, refl, sym, ap, ◌∙◌, append_assoc}
use Rattle.std.specs.Str.{byte}
use Rattle.std.proofs.lemmas.List.{append-nil}
use Rattle.st_scan.specs.Views.{ExpressionView, variable, literal, block, assign, send}
use Rattle.st_scan.specs.inside.Chains.{LinkView, assigned, sent, with_link, linked, IsStart}
use Rattle.st_print.specs.declared.rank.Rank.{Rank}
use Rattle.st_print.specs.declared.rank.Rank.TheVariants.{Unary, Binary, Any}
use Rattle.st_print.specs.Words.{Word, name, mark, wrapped}
use Rattle.st_print.specs.Printed.{is_loose, rank_of, expression_words, placed}
use Rattle.st_print.specs.inside.Chained.{rank_of_link, inner_rank, wanted_by, opened, closed, target_words, link_words, before_link, behind_link, before_links, behind_links}

wrapped_parts : (b : Bool) (ws : List Word) → wrapped b ws ≡ opened b ++ (ws ++ closed b)
wrapped_parts true ws = refl
wrapped_parts false ws = sym (append-nil ws)

regroup : (a b c d e : List Word) → a ++ ((b ++ (c ++ d)) ++ e) ≡ (a ++ b) ++ (c ++ (d ++ e))
regroup a b c d e = simp append_assoc

-- one link
link_rank : (l : LinkView) (e : ExpressionView) → rank_of (with_link l e) ≡ rank_of_link l
link_rank (assigned target) e = refl
link_rank (sent ms) e = refl

link_inside : (l : LinkView) (e : ExpressionView) → expression_words (with_link l e) ≡ target_words l ++ (placed (inner_rank l) e ++ link_words l)
link_inside (assigned target) e = ap (λ (x : List Word). name target.text ∷ mark (byte "_") ∷ x) (sym (append-nil (expression_words e)))
link_inside (sent ms) e = refl

one_link : (wanted : Rank) (l : LinkView) (e : ExpressionView) → placed wanted (with_link l e) ≡ before_link wanted l ++ (placed (inner_rank l) e ++ behind_link wanted l)
one_link wanted l e =
    ap (λ (r : Rank). wrapped (is_loose wanted r) (expression_words (with_link l e))) (link_rank l e)
    ∙ ap (λ (x : List Word). wrapped (is_loose wanted (rank_of_link l)) x) (link_inside l e)
    ∙ wrapped_parts (is_loose wanted (rank_of_link l)) (target_words l ++ (placed (inner_rank l) e ++ link_words l))
    ∙ regroup (opened (is_loose wanted (rank_of_link l))) (target_words l) (placed (inner_rank l) e) (link_words l) (closed (is_loose wanted (rank_of_link l)))

regroup_links : (a b c d e : List Word) → a ++ ((b ++ (c ++ d)) ++ e) ≡ (a ++ b) ++ (c ++ (d ++ e))
regroup_links a b c d e = simp append_assoc

along : (outer : Rank) (e : ExpressionView) (ls : List LinkView) → placed outer (linked e ls) ≡ before_links outer ls ++ (placed (wanted_by outer ls) e ++ behind_links outer ls)
along outer e [] = sym (append-nil (placed outer e))
along outer e (l ∷ ls) =
    let wanted = wanted_by outer ls in
    along outer (with_link l e) ls
    ∙ ap (λ (x : List Word). before_links outer ls ++ (x ++ behind_links outer ls)) (one_link wanted l e)
    ∙ regroup_links (before_links outer ls) (before_link wanted l) (placed (inner_rank l) e) (behind_link wanted l) (behind_links outer ls)

never_loose : (wanted : Rank) → is_loose wanted Unary ≡ false
never_loose Unary = refl
never_loose Binary = refl
never_loose Any = refl

start_placed : (wanted : Rank) (e : ExpressionView) → IsStart e → placed wanted e ≡ expression_words e
start_placed wanted (variable n) h = rw (never_loose wanted) refl
start_placed wanted (literal e) h = rw (never_loose wanted) refl
start_placed wanted (block names body) h = rw (never_loose wanted) refl
start_placed wanted (assign target e) h = absurd h
start_placed wanted (send r ms) h = absurd h

-- what stands before the start, the start, and what stands behind it
pub chained : (outer : Rank) (e whole : ExpressionView) (ls : List LinkView) → IsStart e → linked e ls ≡ whole → placed outer whole ≡ (before_links outer ls ++ expression_words e) ++ behind_links outer ls
chained outer e whole ls h is =
    ap (placed outer) (sym is)
    ∙ along outer e ls
    ∙ ap (λ (x : List Word). before_links outer ls ++ (x ++ behind_links outer ls)) (start_placed (wanted_by outer ls) e h)
    ∙ sym (append_assoc (before_links outer ls) (expression_words e) (behind_links outer ls))
