-- An expression from the inside out.
use Rattle.std.specs.Prelude.{ℕ, ◌<◌, ◌≤◌, max, List, [], ◌∷◌, map, All}
use denote.Param.Weighed.{most}
use Rattle.st_scan.specs.declared.chain.Chain.{Chain}
use Rattle.st_scan.specs.declared.chain.Link.{Link}
use Rattle.st_scan.specs.declared.chain.Link.TheVariants.{Assign, Send}
use Rattle.st_scan.specs.declared.tree.Expression.{Expression, size-Expression}
use Rattle.st_scan.specs.declared.tree.Message.{size-Message}
use Rattle.st_scan.specs.Views.{NameView, name_view, ExpressionView, variable, literal, block, assign, send, MessagesView, messages_view}

-- what is done to an expression
pub data LinkView : Type 0 where
  assigned : NameView → LinkView
  sent : MessagesView → LinkView

abbrev pub link_view : Link → LinkView
link_view (Assign target) = assigned (name_view target.now)
link_view (Send messages) = sent (messages_view messages.now)

abbrev pub links_view : List Link → List LinkView
links_view links = map link_view links

-- an expression to which that was done
abbrev pub with_link : LinkView → ExpressionView → ExpressionView
with_link (assigned target) e = assign target e
with_link (sent messages) e = send e messages

-- an expression to which all of that was done, the first first
abbrev pub linked : ExpressionView → List LinkView → ExpressionView
linked e [] = e
linked e (link ∷ links) = linked (with_link link e) links

-- nothing is done to it
abbrev pub IsStart : ExpressionView → Type 0
IsStart (variable n) = Unit {0}
IsStart (literal e) = Unit {0}
IsStart (block names body) = Unit {0}
IsStart (assign target value) = ⊥
IsStart (send receiver ms) = ⊥

-- the greatest depth of a link's messages
abbrev pub link_size : Link → ℕ
link_size (Assign target) = 0
link_size (Send messages) = most size-Message messages.now

abbrev pub links_size : List Link → ℕ
links_size [] = 0
links_size (l ∷ ls) = max (link_size l) (links_size ls)

-- all messages of a link are less deep than n
abbrev pub IsBelow : ℕ → Link → Type 0
IsBelow n (Assign target) = Unit {0}
IsBelow n (Send messages) = most size-Message messages.now < n

-- the parts of a chain are no deeper than the expression, and those in links less deep: a recursion over them ends
pub record IsWithin (e : Expression) (c : Chain) : Type 0 where
  pub start : size-Expression c.start.now ≤ size-Expression e
  pub links : All (IsBelow (size-Expression e)) c.links.items
