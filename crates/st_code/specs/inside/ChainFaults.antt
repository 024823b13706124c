-- The faults of an expression along its chain: of the names that it is assigned to, the outermost first, and of its
-- messages from the inside out; and those of a block.
use Rattle.std.specs.Prelude.{List, [], ◌∷◌, Option, None, false, is_some, ◌||◌, if◌then◌else◌}
use Rattle.st_scan.specs.Views.{NameView, StatementsView}
use Rattle.st_scan.specs.inside.Chains.{LinkView, assigned, sent}
use Rattle.st_code.specs.declared.fault.Fault.{Fault}
use Rattle.st_code.specs.declared.fault.Cause.TheVariants.{Twice}
use Rattle.st_emit.specs.Names.{NamesView, Scope, or_else, declared, declared_as, is_among}
use Rattle.st_code.specs.Faults.{fault_at, store_fault, declare_fault, messages_fault, statements_fault}

module _ (names : NamesView) (scope : Scope) where
  abbrev pub target_fault : LinkView → Option Fault
  target_fault (assigned target) = store_fault names scope target
  target_fault (sent ms) = None

  abbrev pub sent_fault : LinkView → Option Fault
  sent_fault (assigned target) = None
  sent_fault (sent ms) = messages_fault names ms scope

  -- of links from the inside out
  abbrev pub targets_fault : List LinkView → Option Fault
  targets_fault [] = None
  targets_fault (l ∷ ls) = or_else (targets_fault ls) (target_fault l)

  abbrev pub all_sent_fault : List LinkView → Option Fault
  all_sent_fault [] = None
  all_sent_fault (l ∷ ls) = or_else (sent_fault l) (all_sent_fault ls)

  -- the arguments of a block, then its statements
  abbrev pub block_fault : List NameView → StatementsView → Option Fault
  block_fault ns ss = or_else (declare_fault 0 ns scope) (statements_fault names ss (declared false 0 ns scope))

-- a name that is declared behind these
abbrev pub among_fault : Scope → List NameView → NameView → Option Fault
among_fault scope before n = if is_some (declared_as scope n.text) || is_among before n.text then fault_at n.place Twice else None
