-- The first of two faults is reported.
use Rattle.std.proofs.Common.{◌≡◌, List, sym, subst, Option, Some, None, Result, Ok, Err}
use Rattle.st_code.specs.declared.fault.Fault.{Fault}
use Rattle.st_code.specs.declared.fault.CodeFault.{CodeFault}
use Rattle.st_code.specs.declared.fault.CodeFault.TheVariants.{At, OutOfMemory}
use Rattle.st_scan.specs.Views.{ExpressionView}
use Rattle.st_scan.specs.inside.Chains.{LinkView, linked}
use Rattle.st_emit.specs.Names.{NamesView, Scope, or_else}
use Rattle.st_code.specs.Faults.{expression_fault}
use Rattle.st_code.specs.inside.ChainFaults.{targets_fault, all_sent_fault}
use Rattle.st_code.proofs.ChainFaults.{chain_fault}
use Rattle.st_code.specs.Reported.{IsFault, Reports}

-- what is reported of the first goes for both
pub fault_first : (f g : Option Fault) (e : CodeFault) → IsFault f e → IsFault (or_else f g) e
fault_first f g OutOfMemory h = tt
fault_first None g (At place cause) h = absurd cc
fault_first (Some x) g (At place cause) h = h

-- where there is no first one, the second
pub fault_second : (f g : Option Fault) (e : CodeFault) → f ≡ None → IsFault g e → IsFault (or_else f g) e
fault_second None g e h k = k
fault_second (Some x) g e h k = absurd cc

pub none_both : (f g : Option Fault) → f ≡ None → g ≡ None → or_else f g ≡ None
none_both None g h k = k
none_both (Some x) g h k = absurd cc

pub reports_then : {A : Type 0} (f g : Option Fault) (r : Result A CodeFault) → f ≡ None → Reports g r → Reports (or_else f g) r
reports_then f g (Ok x) h k = none_both f g h k
reports_then f g (Err e) h k = fault_second f g e h k

-- along a chain
pub chain_targets : (names : NamesView) (scope : Scope) (e : ExpressionView) (ls : List LinkView) (f : CodeFault) → IsFault (targets_fault names scope ls) f → IsFault (expression_fault names (linked e ls) scope) f
chain_targets names scope e ls f h =
    subst (λ (x : Option Fault). IsFault x f) (sym (chain_fault names scope e ls)) (fault_first (targets_fault names scope ls) (or_else (expression_fault names e scope) (all_sent_fault names scope ls)) f h)

pub chain_start : (names : NamesView) (scope : Scope) (e : ExpressionView) (ls : List LinkView) (f : CodeFault) → targets_fault names scope ls ≡ None → IsFault (expression_fault names e scope) f → IsFault (expression_fault names (linked e ls) scope) f
chain_start names scope e ls f n h =
    subst (λ (x : Option Fault). IsFault x f) (sym (chain_fault names scope e ls))
    (fault_second (targets_fault names scope ls) (or_else (expression_fault names e scope) (all_sent_fault names scope ls)) f n (fault_first (expression_fault names e scope) (all_sent_fault names scope ls) f h))

pub chain_sent : {A : Type 0} (names : NamesView) (scope : Scope) (e : ExpressionView) (ls : List LinkView) (r : Result A CodeFault)
    → targets_fault names scope ls ≡ None → expression_fault names e scope ≡ None → Reports (all_sent_fault names scope ls) r → Reports (expression_fault names (linked e ls) scope) r
chain_sent names scope e ls r n m h =
    subst (λ (x : Option Fault). Reports x r) (sym (chain_fault names scope e ls))
    (reports_then (targets_fault names scope ls) (or_else (expression_fault names e scope) (all_sent_fault names scope ls)) r n (reports_then (expression_fault names e scope) (all_sent_fault names scope ls) r m h))

pub ruleset reporting = (fault_first, fault_second, none_both, reports_then, chain_targets, chain_start, chain_sent)
