use Rattle.std.proofs.Common.{◌≡◌, ◌+◌, ◌-◌, ◌∷◌, ◌++◌, drop, sym, ap, ◌∙◌, arith}
use Rattle.st_scan.specs.inside.Chains.{link_view, links_view}
use Rattle.st_print.specs.declared.rank.Rank.{Rank}
use Rattle.st_print.specs.Words.{spaced}
use Rattle.st_print.specs.inside.Chained.{wanted_by, before_link, before_links}
use Rattle.st_print.proofs.Turning.{put_then, drop_at, take_rest}
use Rattle.st_print.proofs.expression.before_links.Goals as goal

pub loop-at-preserved : goal.loop-at-preserved
loop-at-preserved c =
    let links = c.args.links.now in
    let at = c.loop-at.at in
    let x = c.index-links-inner.result in
    let below : at - 1 + 1 ≡ at = omega arith in
    let parts : drop (at - 1) links ≡ x ∷ drop at links = drop_at links (at - 1) x (omega arith) c.index-links-inner.is ∙ ap (λ n. x ∷ drop n links) below in
    let wanted : c.wanted_by.result ≡ wanted_by c.args.outer (links_view (drop at links)) = c.wanted_by.ensures ∙ ap (λ ls. wanted_by c.args.outer (links_view ls)) (take_rest links at) in
    record {
      within = omega arith;
      so_far = put_then c.args.out.now.items c.loop-at.out.items c.before_link.new.out.items (before_links c.args.outer (links_view (drop at links))) (before_link (wanted_by c.args.outer (links_view (drop at links))) (link_view x))
          c.loop-at.invariant.so_far (c.in_ok-before_link.ensures ∙ ap (λ (r : Rank). c.loop-at.out.items ++ spaced (before_link r (link_view x))) wanted)
          ∙ ap (λ ls. c.args.out.now.items ++ spaced (before_links c.args.outer (links_view ls))) (sym parts);
    }
