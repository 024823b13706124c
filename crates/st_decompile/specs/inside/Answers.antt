-- What the decompiler answers, and what is known of a method whose code some text has.
use Rattle.std.specs.Prelude.{◌≡◌, ℕ, Bool, true, false, List, Option, Some, None, Ok}
use Rattle.st_scan.specs.declared.tree.MethodTree.{MethodTree}
use Rattle.st_scan.specs.Views.{MethodView, method_view}
use Rattle.st_grammar.specs.inside.Meant.{Means}
use Rattle.st_print.specs.Printed.{printed}
use Rattle.st_print.specs.inside.Printing.{IsPrintedBack}
use Rattle.st_emit.specs.Names.{NamesView}
use Rattle.st_code.specs.Methods.{PartsView, code}
use Rattle.st_expression_stack.specs.Names.{calling_of, name_in}
use Rattle.st_decompile.specs.Whole.{candidate}

-- some text means this tree, and its code in a class with these names is these parts
pub record IsSource (names : NamesView) (p : PartsView) (t : MethodView) : Type 0 where
  pub text : List ℕ
  pub means : Means text t
  pub same : code t names ≡ Ok p

-- a tree is read of the parts; its printed text means it, places aside, and what that text means has this code
pub record IsFound (names : NamesView) (p : PartsView) : Type 0 where
  pub tree : MethodView
  pub is : candidate (name_in (calling_of names p.literals)) p ≡ Some tree
  pub back : IsPrintedBack tree
  pub same : code back.tree names ≡ Ok p

-- WHAT IS ANSWERED

-- this tree is read of the parts, or none
abbrev pub IsCandidate : NamesView → PartsView → Option MethodView → Type 0
IsCandidate names p t = candidate (name_in (calling_of names p.literals)) p ≡ t

-- the one tree that a text means, or it means none
abbrev pub IsMeant : List ℕ → Option MethodTree → Type 0
IsMeant text None = (u : MethodView) → Means text u → ⊥
IsMeant text (Some t) = Means text (method_view t) × ((u : MethodView) → Means text u → u ≡ method_view t)

abbrev pub HasCode : MethodView → NamesView → PartsView → Bool → Type 0
HasCode t names p true = code t names ≡ Ok p
HasCode t names p false = code t names ≡ Ok p → ⊥

-- this text means this tree, which has this code
pub record IsSourceOf (names : NamesView) (p : PartsView) (text : List ℕ) (t : MethodView) : Type 0 where
  pub means : Means text t
  pub same : code t names ≡ Ok p

-- the printed text of the tree that is read
pub record IsPrintedRead (names : NamesView) (p : PartsView) (text : List ℕ) : Type 0 where
  pub tree : MethodView
  pub is : IsCandidate names p (Some tree)
  pub text_is : text ≡ printed tree

-- a tree that its printed text means, which is such a text; or no text means a tree with this code
abbrev pub IsDecompiled : NamesView → PartsView → Option MethodTree → Type 0
IsDecompiled names p None = (t : MethodView) → IsSource names p t → ⊥
IsDecompiled names p (Some t) = IsSourceOf names p (printed (method_view t)) (method_view t) × IsPrintedRead names p (printed (method_view t))
