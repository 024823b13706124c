use Rattle.std.proofs.Common.{◌≡◌, ℕ, ◌+◌, Bool, true, List, [], ◌∷◌, ◌++◌, drop, refl, sym, ap, ◌∙◌, subst, append_assoc, append-nil, arith, Vec, Global}
use Rattle.std.proofs.lemmas.Result.{on_ok_weaker}
use Rattle.std.specs.Str.{byte}
use Rattle.st_scan.specs.declared.tree.Expression.{Expression}
use Rattle.st_scan.specs.declared.tree.Statement.{Statement}
use Rattle.st_scan.specs.declared.tree.Name.{Name}
use Rattle.st_scan.specs.declared.chain.Link.{Link}
use Rattle.st_scan.specs.Views.{names_view, expression_view, expressions_view, statements_view, messages_view, block, ExpressionView}
use Rattle.st_scan.specs.inside.Chains.{IsStart, link_view, links_view}
use Rattle.st_scan.proofs.Views.{expression_view-block}
use Rattle.st_scan.proofs.Chains.{link_within, chain_within}
use Rattle.st_print.specs.declared.rank.Rank.{Rank}
use Rattle.st_print.specs.declared.rank.Rank.TheVariants.{Binary}
use Rattle.st_print.specs.Words.{Word, name, mark, keyword, spaced, first_keyword, other_keywords}
use Rattle.st_print.specs.Printed.{is_loose, parameters_words, return_words, expression_words, statements_words, next_statements, messages_words, next_messages, message_words, keyword_words, placed}
use Rattle.st_print.specs.inside.Chained.{rank_of_link, wanted_by, link_words, closed, behind_link, before_links, behind_links}
use Rattle.st_print.proofs.Turning.{put_word, put_then, turn, turn_at, first_then, drop_at, take_rest}
use Rattle.st_print.proofs.Chained.{chained}
use Rattle.st_print.proofs.Firsts.{some_statements, some_messages}
use Rattle.st_print.proofs.expression.+printing.Goals as goal
use Rattle.st_print.proofs.expression.+printing.Goals.{expression-in-Variable+in_ok-put-in-Variable, expression-in-Literal+in_ok-literal-in-Literal, expression-in-Block+in_ok-block-in-Block, expression-in-Assign, expression-in-Send, behind_link-in-Send+in_ok-messages-in-Send, behind_link-in-Assign}

-- the bytes of a text
abbrev items : Vec ℕ Global → List ℕ
items v = v.items

pub next_statements-loop-next-preserved : goal.next_statements-loop-next-preserved
next_statements-loop-next-preserved t c =
    let s = c.next-item.result in
    let words = return_words s.returns ++ expression_words (expression_view s.value) in
    let assoc = ap (λ (x : List Word). mark (byte ".") ∷ x) (sym (append_assoc (return_words s.returns) (expression_words (expression_view s.value)) (next_statements (statements_view (drop (c.loop-next.next-index + 1) c.args.body.now))))) in
    turn_at (λ ss. next_statements (statements_view ss)) c.args.body.now c.loop-next.next-index s (mark (byte ".") ∷ words) _ _ _ c.loop-next-test.true c.next-item.is assoc c.loop-next.invariant
    (put_then _ _ _ (mark (byte ".") ∷ []) words (put_word _ _ (mark (byte ".")) c.in_ok-put.ensures) c.in_ok-statement.ensures)

pub next_messages-loop-next-preserved : goal.next_messages-loop-next-preserved
next_messages-loop-next-preserved t c =
    let m = c.next-item.result in
    let words = message_words m.selector.items (expressions_view m.arguments.items) in
    turn_at (λ ms. next_messages (messages_view ms)) c.args.sent.now c.loop-next.next-index m (mark (byte ";") ∷ words) _ _ _ c.loop-next-test.true c.next-item.is refl c.loop-next.invariant
    (put_then _ _ _ (mark (byte ";") ∷ []) words (put_word _ _ (mark (byte ";")) c.in_ok-put.ensures) c.in_ok-message.ensures)

pub keywords-loop-argument-preserved : goal.keywords-loop-argument-preserved
keywords-loop-argument-preserved t c =
    let es = c.args.arguments.now in
    let i = c.loop-argument.argument-index in
    let e = c.argument-item.result in
    let selector = c.loop-argument.rest.now in
    let k = first_keyword selector in
    let words = placed Binary (expression_view e) in
    let rest = keyword_words (other_keywords selector) (expressions_view (drop (i + 1) es)) in
    let parts : keyword_words selector (expressions_view (drop i es)) ≡ (keyword k ∷ words) ++ rest =
    ap (λ (xs : List Expression). keyword_words selector (expressions_view xs)) (drop_at es i e c.loop-argument-test.true c.argument-item.is) in
    let first = c.in_ok-put.ensures ∙ ap (λ (x : List ℕ). c.loop-argument.out.items ++ byte " " ∷ x) c.split_keyword.ensures.first in
    let step = turn c.loop-argument.out.items c.expression.new.out.items _ (keyword_words selector (expressions_view (drop i es))) (keyword k ∷ words) rest c.loop-argument.invariant parts
    (put_then c.loop-argument.out.items c.put.new.out.items c.expression.new.out.items (keyword k ∷ []) words (put_word c.loop-argument.out.items c.put.new.out.items (keyword k) first) c.in_ok-expression.ensures) in
    ap (λ (x : List ℕ). c.expression.new.out.items ++ spaced (keyword_words x (expressions_view (drop (i + 1) es)))) c.split_keyword.ensures.others ∙ step

pub statements-returns : goal.statements-returns
statements-returns t c =
    let parts = some_statements c.args.body.now c.index-body-0.result c.if-is_empty.ensures c.index-body-0.is in
    on_ok_weaker c.next_statements.result (first_then (λ ss. statements_words (statements_view ss)) (λ ss. next_statements (statements_view ss)) c.args.body.now _ _ _ _ parts c.in_ok-statement.ensures) c.next_statements.ensures

pub messages-returns : goal.messages-returns
messages-returns t c =
    let parts = some_messages c.args.sent.now c.index-sent-0.result c.if-is_empty.ensures c.index-sent-0.is in
    on_ok_weaker c.next_messages.result (first_then (λ ms. messages_words (messages_view ms)) (λ ms. next_messages (messages_view ms)) c.args.sent.now _ _ _ _ parts c.in_ok-message.ensures) c.next_messages.ensures

pub block-returns : goal.block-returns
block-returns t c =
    let out = c.args.out.now.items in
    let ps = parameters_words (names_view c.args.names.now) in
    let ss = statements_words (statements_view c.args.body.now) in
    let bracket : Word = mark (byte "[") in
    let close : Word = mark (byte "]") in
    let first = put_word out c.put.new.out.items bracket c.in_ok-put.ensures in
    let second = put_then out c.put.new.out.items c.parameters.new.out.items (bracket ∷ []) ps first c.in_ok-parameters.ensures in
    let third = put_then out c.parameters.new.out.items c.statements.new.out.items (bracket ∷ ps) ss second c.in_ok-statements.ensures in
    on_ok_weaker c.put-2.result
    (λ last. put_then out c.statements.new.out.items c.put-2.new.out.items ((bracket ∷ ps) ++ ss) (close ∷ []) third (put_word c.statements.new.out.items c.put-2.new.out.items close last)
    ∙ ap (λ (ws : List Word). out ++ spaced ws) (append_assoc (bracket ∷ ps) ss (close ∷ [])))
    c.put-2.ensures

pub behind_links-behind_link-requires : goal.behind_links-behind_link-requires
behind_links-behind_link-requires t c = (omega (arith, link_within c.args.links.now c.loop-at.at c.index-links-at.result c.loop-at-test.true c.index-links-at.is), tt)

pub behind_links-loop-at-preserved : goal.behind_links-loop-at-preserved
behind_links-loop-at-preserved t c =
    let links = c.args.links.now in
    let at = c.loop-at.at in
    let x = c.index-links-at.result in
    let outer = c.args.outer in
    let rest = links_view (drop (at + 1) links) in
    let parts : behind_links outer (links_view (drop at links)) ≡ behind_link (wanted_by outer rest) (link_view x) ++ behind_links outer rest =
    ap (λ (ls : List Link). behind_links outer (links_view ls)) (drop_at links at x c.loop-at-test.true c.index-links-at.is) in
    let wanted : c.wanted_by.result ≡ wanted_by outer rest = c.wanted_by.ensures ∙ ap (λ (ls : List Link). wanted_by outer (links_view ls)) (take_rest links (at + 1)) in
    turn c.loop-at.out.items c.behind_link.new.out.items _ (behind_links outer (links_view (drop at links))) (behind_link (wanted_by outer rest) (link_view x)) (behind_links outer rest) c.loop-at.invariant parts
    (c.in_ok-behind_link.ensures ∙ ap (λ (r : Rank). c.loop-at.out.items ++ spaced (behind_link r (link_view x))) wanted)

pub behind_link-returns-in_ok-put : goal.behind_link-returns-in_ok-put
behind_link-returns-in_ok-put t c =
    let out = c.args.out.now.items in
    let l = link_view c.args.link in
    let loose : is_loose c.args.wanted (rank_of_link l) ≡ true = ap (is_loose c.args.wanted) (sym c.rank_of_link.ensures) ∙ sym c.is_loose.ensures ∙ c.if-is_loose.true in
    let words : c.match-link.out.items ≡ out ++ spaced (link_words l) = elim c.match-link.branch [
      | behind_link-in-Send+in_ok-messages-in-Send w ↦ ap items w.out-is ∙ w.in_ok-messages-in-Send.ensures ∙ ap (λ (x : Link). out ++ spaced (link_words (link_view x))) (sym w.in-Send.is)
      | behind_link-in-Assign w ↦ ap items w.out-is ∙ sym (append-nil out) ∙ ap (λ (x : Link). out ++ spaced (link_words (link_view x))) (sym w.in-Assign.is)
    ] in
    put_then out c.match-link.out.items c.put.new.out.items (link_words l) (mark (byte ")") ∷ []) words (put_word c.match-link.out.items c.put.new.out.items (mark (byte ")")) c.in_ok-put.ensures)
    ∙ ap (λ (b : Bool). out ++ spaced (link_words l ++ closed b)) (sym loose)

pub expression-behind_links-requires : goal.expression-behind_links-requires
expression-behind_links-requires t c = (omega (arith, chain_within c.args.e.now c.in_ok-chain.chain c.deref-2.result.now c.in_ok-chain.ensures.within c.deref-2.ensures.value), tt)

pub expression-returns : goal.expression-returns
expression-returns t c =
    let out = c.args.out.now.items in
    let wanted = c.args.wanted in
    let e = c.in_ok-chain.chain.start.now in
    let ls = c.in_ok-chain.chain.links.items in
    let before : c.before_links.new.out.items ≡ out ++ spaced (before_links wanted (links_view ls)) = c.in_ok-before_links.ensures ∙ ap (λ (x : List Link). out ++ spaced (before_links wanted (links_view x))) c.deref.ensures.value in
    let start : c.match-chain.out.items ≡ c.before_links.new.out.items ++ spaced (expression_words (expression_view e)) = elim c.match-chain.branch [
      | expression-in-Variable+in_ok-put-in-Variable w ↦
          let n = w.in-Variable.name.text.items in
          ap items w.out-is
          ∙ put_word c.before_links.new.out.items w.put.new.out.items (name n) (w.in_ok-put-in-Variable.ensures ∙ ap (λ (x : List ℕ). c.before_links.new.out.items ++ byte " " ∷ x) w.deref-in-Variable.ensures.value)
          ∙ ap (λ (x : Expression). c.before_links.new.out.items ++ spaced (expression_words (expression_view x))) (sym w.in-Variable.is)
      | expression-in-Literal+in_ok-literal-in-Literal w ↦
          ap items w.out-is ∙ w.in_ok-literal-in-Literal.ensures ∙ ap (λ (x : Expression). c.before_links.new.out.items ++ spaced (expression_words (expression_view x))) (sym w.in-Literal.is)
      | expression-in-Block+in_ok-block-in-Block w ↦
          ap items w.out-is
          ∙ w.in_ok-block-in-Block.ensures
          ∙ ap (λ (ns : List Name). c.before_links.new.out.items ++ spaced (expression_words (block (names_view ns) (statements_view w.deref-in-Block-2.result.now)))) w.deref-in-Block.ensures.value
          ∙ ap (λ (ss : List Statement). c.before_links.new.out.items ++ spaced (expression_words (block (names_view w.in-Block.names.items) (statements_view ss)))) w.deref-in-Block-2.ensures.value
          ∙ ap (λ (x : ExpressionView). c.before_links.new.out.items ++ spaced (expression_words x)) (sym (ap expression_view w.in-Block.is ∙ expression_view-block w.in-Block.names w.in-Block.body))
      | expression-in-Assign w ↦ absurd (subst (λ (x : Expression). IsStart (expression_view x)) w.in-Assign.is c.in_ok-chain.ensures.start)
      | expression-in-Send w ↦ absurd (subst (λ (x : Expression). IsStart (expression_view x)) w.in-Send.is c.in_ok-chain.ensures.start)
    ] in
    on_ok_weaker c.behind_links.result
    (λ last. put_then out c.match-chain.out.items c.behind_links.new.out.items (before_links wanted (links_view ls) ++ expression_words (expression_view e)) (behind_links wanted (links_view ls))
    (put_then out c.before_links.new.out.items c.match-chain.out.items (before_links wanted (links_view ls)) (expression_words (expression_view e)) before start)
    (last ∙ ap (λ (x : List Link). c.match-chain.out.items ++ spaced (behind_links wanted (links_view x))) c.deref-2.ensures.value)
    ∙ ap (λ (ws : List Word). out ++ spaced ws) (sym (chained wanted (expression_view e) (expression_view c.args.e.now) (links_view ls) c.in_ok-chain.ensures.start c.in_ok-chain.ensures.whole)))
    c.behind_links.ensures
