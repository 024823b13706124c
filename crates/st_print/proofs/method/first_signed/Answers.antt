use Rattle.std.proofs.Common.{length, sym, ap, ◌∙◌}
use Rattle.std.specs.Prelude.{◌==◌}
use Rattle.st_scan.specs.Views.{expression_view}
use Rattle.st_scan.specs.inside.Chains.{links_view}
use Rattle.st_print.specs.declared.rank.Rank.TheVariants.{Any}
use Rattle.st_print.specs.inside.Chained.{before_links}
use Rattle.st_print.proofs.Signed.{put_before, signed_bare, signed_never, no_words, some_words}
use Rattle.st_print.proofs.method.first_signed.Goals as goal

pub returns-then-is_empty : goal.returns-then-is_empty
returns-then-is_empty c =
    let ls = c.in_ok-chain.chain.links.items in
    let words = put_before _ _ _ ls c.new-before.ensures.items c.deref.ensures.value c.in_ok-before_links.ensures in
    let none = no_words (before_links Any (links_view ls)) (c.if-is_empty.ensures ∙ ap (λ n. n == 0) (c.before_links.new.out.ok.0 ∙ ap length words)) in
    c.signed_start.ensures ∙ sym (signed_bare (expression_view c.in_ok-chain.chain.start.now) (expression_view c.args.e.now) (links_view ls) c.in_ok-chain.ensures.start c.in_ok-chain.ensures.whole none)

pub returns : goal.returns
returns c =
    let ls = c.in_ok-chain.chain.links.items in
    let words = put_before _ _ _ ls c.new-before.ensures.items c.deref.ensures.value c.in_ok-before_links.ensures in
    let some = some_words (before_links Any (links_view ls)) (c.if-is_empty.ensures ∙ ap (λ n. n == 0) (c.before_links.new.out.ok.0 ∙ ap length words)) in
    sym (signed_never (expression_view c.in_ok-chain.chain.start.now) (expression_view c.args.e.now) (links_view ls) c.in_ok-chain.ensures.start c.in_ok-chain.ensures.whole some)
