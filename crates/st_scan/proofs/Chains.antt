-- One more link at the outer end; and how deep the parts of a chain are.
use Rattle.std.proofs.Common.{◌≡◌, ℕ, zero, suc, ◌<◌, ◌≤◌, List, [], ◌∷◌, ◌++◌, length, get_or, take, reverse, refl, ap, ◌∙◌, arith, All}
use Rattle.std.specs.Global.{Vec, Box}
use Rattle.std.proofs.lemmas.List.{reverse-append}
use denote.Param.Weighed.{most}
use Rattle.st_scan.specs.declared.chain.Chain.{Chain}
use Rattle.st_scan.specs.declared.chain.Link.{Link}
use Rattle.st_scan.specs.declared.tree.Expression.{Expression, size-Expression}
use Rattle.st_scan.specs.declared.tree.Expression.TheVariants.{Send}
use Rattle.st_scan.specs.declared.tree.Expression.TheViews.{sized-Send}
use Rattle.st_scan.specs.declared.tree.Message.{Message, size-Message}
use Rattle.st_scan.specs.Views.{ExpressionView}
use Rattle.st_scan.specs.declared.chain.Link.TheVariants as links
use Rattle.st_scan.specs.inside.Chains.{linked, links_view, link_view, with_link, link_size, links_size, IsBelow, IsWithin}

pub linked_turn : (e inner whole : ExpressionView) (links more : List Link) (link : Link)
    → more ≡ links ++ link ∷ [] → with_link (link_view link) inner ≡ e → linked e (links_view (reverse links)) ≡ whole → linked inner (links_view (reverse more)) ≡ whole
linked_turn e inner whole links more link added step so_far =
    ap (λ ls. linked inner (links_view (reverse ls))) added
    ∙ ap (λ ls. linked inner (links_view ls)) (reverse-append links (link ∷ []))
    ∙ ap (λ x. linked x (links_view (reverse links))) step
    ∙ so_far

-- the parts of a message are less deep
pub size-receiver : (receiver : Box Expression) (messages : Vec Message) → size-Expression receiver.value < size-Expression (Send receiver messages)
size-receiver receiver messages = omega (arith, sized-Send receiver messages)

pub size-messages : (receiver : Box Expression) (messages : Vec Message) → most size-Message messages.items < size-Expression (Send receiver messages)
size-messages receiver messages = omega (arith, sized-Send receiver messages)

size_below : (n : ℕ) (l : Link) → IsBelow n l → link_size l ≤ n
size_below n (links.Assign target) h = omega arith
size_below n (links.Send messages) h = omega arith

-- links whose messages are less deep than n
pub links_within : (n : ℕ) (ls : List Link) → All (IsBelow n) ls → links_size ls ≤ n
links_within n [] h = omega arith
links_within n (l ∷ ls) h =
    let first = size_below n l (h 0 l (omega arith)) in
    let others = links_within n ls (λ k d less. h (suc k) d (omega (arith, less))) in
    omega (arith, first, others)

-- one of these links is no deeper than the deepest
pub link_within : (ls : List Link) (i : ℕ) (x : Link) → i < length ls → x ≡ get_or ls i x → link_size x ≤ links_size ls
link_within [] i x less is = absurd (omega arith)
link_within (l ∷ ls) zero x less is = let same = ap link_size is in omega (arith, same)
link_within (l ∷ ls) (suc i) x less is = let later = link_within ls i x (omega arith) is in omega (arith, later)

-- what a chain starts with and its links, wherever these are held, are no deeper than the expression
pub chain_within : (e : Expression) (c : Chain) (ls : List Link) → IsWithin e c → ls ≡ c.links.items → (size-Expression c.start.now ≤ size-Expression e) × (links_size ls ≤ size-Expression e)
chain_within e c ls w held = (w.start, omega (arith, links_within (size-Expression e) c.links.items w.links, ap links_size held))

-- an expression with one more link of a list
pub linked_take : (e : ExpressionView) (ls : List Link) (i : ℕ) (d : Link) → i < length ls → linked e (links_view (take (suc i) ls)) ≡ with_link (link_view (get_or ls i d)) (linked e (links_view (take i ls)))
linked_take e [] i d less = absurd (omega arith)
linked_take e (l ∷ ls) zero d less = refl
linked_take e (l ∷ ls) (suc i) d less = linked_take (with_link (link_view l) e) ls i d (omega arith)
