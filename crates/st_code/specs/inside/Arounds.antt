-- Faults of a part of a tree, by what stands around it.
use Rattle.std.specs.Prelude.{ℕ, List, take, Option}
use Rattle.st_scan.specs.declared.tree.Expression.{Expression}
use Rattle.st_scan.specs.declared.tree.Name.{Name}
use Rattle.st_scan.specs.declared.tree.Statement.{Statement}
use Rattle.st_scan.specs.declared.chain.Link.{Link}
use Rattle.st_scan.specs.Views.{ExpressionView, name_view, names_view as list_view, expression_view, statements_view}
use Rattle.st_scan.specs.inside.Chains.{links_view, linked}
use Rattle.st_emit.specs.declared.names.Around.{Around}
use Rattle.st_emit.specs.declared.declared_names.DeclaredNames.{DeclaredNames}
use Rattle.st_emit.specs.Names.{NamesView, Scope}
use Rattle.st_emit.specs.inside.NameViews.{names_view, scope_view}
use Rattle.st_code.specs.declared.fault.Fault.{Fault}
use Rattle.st_code.specs.inside.ChainFaults.{block_fault, among_fault}

-- a name, a link or a block, under the names of the class and those that are declared there
abbrev pub looked_up : {A : Type 0} → (NamesView → Scope → A) → Around → A
looked_up fault around = fault (names_view around.names.now) (scope_view around.scope.now)

-- a part that is walked through
abbrev pub walked : {A : Type 0} → (NamesView → A → Scope → Option Fault) → Around → A → Option Fault
walked fault around part = fault (names_view around.names.now) part (scope_view around.scope.now)

-- a block, with its arguments and its statements
abbrev pub block_around : Around → List Name → List Statement → Option Fault
block_around around arguments body = looked_up block_fault around (list_view arguments) (statements_view body)

-- a name that is declared, of which as many of its frame stand before it
abbrev pub once_fault : List DeclaredNames → DeclaredNames → (before : ℕ) → Name → Option Fault
once_fault scope frame before n = among_fault (scope_view scope) (list_view (take before frame.names.now)) (name_view n)

-- what a chain's start is with all of its links
abbrev pub chained : Expression → List Link → ExpressionView
chained first links = linked (expression_view first) (links_view links)
