-- The first fault of an expression along its chain: the targets from the outside in, what the chain starts with, and the
-- messages from the inside out. So the walk is two loops.
use Rattle.std.proofs.Common.{◌≡◌, List, [], ◌∷◌, Option, Some, None, refl, sym, ap, ◌∙◌}
use Rattle.st_scan.specs.Views.{ExpressionView}
use Rattle.st_scan.specs.inside.Chains.{LinkView, assigned, sent, with_link, linked}
use Rattle.st_code.specs.declared.fault.Fault.{Fault}
use Rattle.st_emit.specs.Names.{NamesView, Scope, or_else}
use Rattle.st_code.specs.Faults.{store_fault, expression_fault, messages_fault}
use Rattle.st_code.specs.inside.ChainFaults.{targets_fault, all_sent_fault}

pub or_none : (f : Option Fault) → or_else f None ≡ f
or_none None = refl
or_none (Some f) = refl

pub or_assoc : (f g h : Option Fault) → or_else (or_else f g) h ≡ or_else f (or_else g h)
or_assoc None g h = refl
or_assoc (Some f) g h = refl

-- the fault of a target stands before all that it is a target of, and that of messages behind
before_all : (ts t f ms : Option Fault) → or_else ts (or_else (or_else t f) ms) ≡ or_else (or_else ts t) (or_else f ms)
before_all ts t f ms = ap (or_else ts) (or_assoc t f ms) ∙ sym (or_assoc ts t (or_else f ms))

behind_all : (ts f s ms : Option Fault) → or_else ts (or_else (or_else f s) ms) ≡ or_else (or_else ts None) (or_else f (or_else s ms))
behind_all ts f s ms = ap (or_else ts) (or_assoc f s ms) ∙ ap (λ x. or_else x (or_else f (or_else s ms))) (sym (or_none ts))

pub chain_fault : (names : NamesView) (scope : Scope) (e : ExpressionView) (ls : List LinkView)
    → expression_fault names (linked e ls) scope ≡ or_else (targets_fault names scope ls) (or_else (expression_fault names e scope) (all_sent_fault names scope ls))
chain_fault names scope e [] = sym (or_none (expression_fault names e scope))
chain_fault names scope e (assigned target ∷ ls) =
    chain_fault names scope (with_link (assigned target) e) ls ∙ before_all (targets_fault names scope ls) (store_fault names scope target) (expression_fault names e scope) (all_sent_fault names scope ls)
chain_fault names scope e (sent m ∷ ls) =
    chain_fault names scope (with_link (sent m) e) ls ∙ behind_all (targets_fault names scope ls) (expression_fault names e scope) (messages_fault names m scope) (all_sent_fault names scope ls)
