-- Nodes whose tree a text may have: their literals may stand alone, and selectors fit their arguments.
use Rattle.std.specs.Prelude.{◌≤◌}
use Rattle.st_emit.specs.Nodes.{Node, constant, small, literal, variable, assign, block, send, one_sided, two_sided, loop, Body, nothing, last, next, returned, Messages, only, also, Nodes, none, node, count}
use Rattle.st_grammar.specs.inside.Formed.{LiteralFormed, IsSelector}
use Rattle.st_expression_stack.specs.Choosing.{content_of}

abbrev mutual
  pub Formed : Node → Type 0
  Formed (constant k) = Unit {0}
  Formed (small k) = k ≤ 3
  Formed (literal x place) = LiteralFormed (content_of x)
  Formed (variable p) = Unit {0}
  Formed (assign p n) = Formed n
  Formed (block first arguments n body) = BodyFormed body
  Formed (send above r ms) = Formed r × MessagesWell ms
  Formed (one_sided side x a) = Formed x × BodyFormed a
  Formed (two_sided side x a b) = Formed x × BodyFormed a × BodyFormed b
  Formed (loop kind x a) = BodyFormed x × BodyFormed a

  pub BodyFormed : Body → Type 0
  BodyFormed nothing = Unit {0}
  BodyFormed (last n) = Formed n
  BodyFormed (next n b) = Formed n × BodyFormed b
  BodyFormed (returned n) = Formed n

  pub MessagesWell : Messages → Type 0
  MessagesWell (only s ns) = IsSelector s.selector (count ns) × NodesFormed ns
  MessagesWell (also s ns ms) = IsSelector s.selector (count ns) × NodesFormed ns × MessagesWell ms

  pub NodesFormed : Nodes → Type 0
  NodesFormed none = Unit {0}
  NodesFormed (node n ns) = Formed n × NodesFormed ns
