-- The names that a walk along the chains of a tree comes to.
use Rattle.std.specs.Prelude.{◌≡◌, ℕ, List, [], ◌∷◌, ◌++◌, map}
use Rattle.std.specs.Borrow.{Bor}
use Rattle.std.specs.Global.{Vec}
use Rattle.st_scan.specs.declared.tree.Name.{Name}
use Rattle.st_scan.specs.declared.tree.Expression.{Expression}
use Rattle.st_scan.specs.declared.chain.Link.{Link}
use Rattle.st_scan.specs.Views.{ExpressionView, expression_view}
use Rattle.st_scan.specs.inside.Chains.{LinkView, assigned, sent, links_view, linked}
use Rattle.st_scope.specs.Mentions.{mentioned_by}

-- the texts of names
abbrev pub mentions_of : List (Bor Name) → List (List ℕ)
mentions_of names = map (λ n. n.now.text.items) names

-- names of these texts were put behind the others
abbrev pub Mentions : List (List ℕ) → (old new : Vec (Bor Name)) → Type 0
Mentions texts old new = mentions_of new.items ≡ mentions_of old.items ++ texts

-- ALONG A CHAIN

abbrev pub target_mentioned : LinkView → List (List ℕ)
target_mentioned (assigned target) = target.text ∷ []
target_mentioned (sent ms) = []

abbrev pub sent_mentioned : LinkView → List (List ℕ)
sent_mentioned (assigned target) = []
sent_mentioned (sent ms) = mentioned_by ms

-- of links from the inside out
abbrev pub targets_mentioned : List LinkView → List (List ℕ)
targets_mentioned [] = []
targets_mentioned (l ∷ ls) = targets_mentioned ls ++ target_mentioned l

abbrev pub all_sent_mentioned : List LinkView → List (List ℕ)
all_sent_mentioned [] = []
all_sent_mentioned (l ∷ ls) = sent_mentioned l ++ all_sent_mentioned ls

-- the expression of a chain
abbrev pub chained : Expression → List Link → ExpressionView
chained first links = linked (expression_view first) (links_view links)
