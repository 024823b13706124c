-- The code of the tree that is read is the code that it was read of.
use Rattle.std.proofs.Common.{◌≡◌, ℕ, ◌+◌, ◌<◌, ◌≤◌, Bool, true, false, not, ◌&&◌, List, [], ◌∷◌, ◌++◌, length, None, refl, sym, ap, ap₂, ◌∙◌, subst, arith}
use Rattle.std.proofs.lemmas.Bool.Decides.{nat_tests}
use Rattle.std.specs.Prelude.{nat_lt, Ok}
use Rattle.st_scan.specs.Views.{NameView, MethodView}
use Rattle.st_emit.specs.declared.instruction.InstructionOperand.{InstructionOperand}
use Rattle.st_emit.specs.declared.instruction.InstructionOperand.TheVariants.{Temporary}
use Rattle.st_emit.specs.Names.{NamesView, Scope, numbered, declared}
use Rattle.st_code.specs.Faults.{declare_fault, method_fault}
use Rattle.st_code.specs.Methods.{scope_from, own_variables, body, literals, last_literals, parts, fault, code}
use Rattle.st_resolved.specs.inside.Seen.{unnumbered, range, AllBelow, numbers, assigns, IsScope, BodySeen}
use Rattle.st_resolved.proofs.Unnumbered.{unnumbered-append, unnumbered-any}
use Rattle.st_resolved.proofs.Seen.{numbers-append, numbers-range, below_more, below_both, below_range, scope_more, statements_seen}
use Rattle.st_resolved.proofs.Wholes.{is_scope, seen}
use Rattle.st_decompile.specs.inside.Calling.{renamed, AreNames}
use Rattle.st_decompile.proofs.Blocks.{names_up}
use Rattle.st_decompile.proofs.Clean.{Declares, own_scope, up_clean, up_declares, statements_clean, or_both}
use Rattle.st_decompile.proofs.Wholes.{tree_again, scope_again, code_again}

module _ (name_of : InstructionOperand → List ℕ) (names : NamesView) (tree : MethodView) (are : AreNames name_of names (literals tree names)) (sound : fault tree names ≡ None) where
  abbrev pub n : ℕ
  n = length tree.arguments

  abbrev pub own : ℕ
  own = own_variables tree names

  abbrev pub scope : Scope
  scope = scope_from (length tree.arguments) tree

  abbrev again : MethodView
  again = tree_again name_of names tree are

  own_of : (s : Scope) → IsScope n own s → own_scope n own name_of names (literals tree names) are (numbers s) ≡ unnumbered (renamed name_of s)
  own_of [] h = refl
  own_of (d ∷ ds) h = ap₂ (λ (b : Bool) (l : Scope). record { text = name_of (Temporary d.number); number = 0; assignable = b } ∷ l) (sym h.0) (own_of ds h.1)

  first_below : AllBelow n (range 0 n)
  first_below = let same : 0 + n ≡ n = omega arith in subst (λ (k : ℕ). AllBelow k (range 0 n)) same (below_range 0 n)

  -- its variables are declared apart
  arguments_clean : declare_fault 0 again.arguments [] ≡ None
  arguments_clean =
      ap (λ (l : List NameView). declare_fault 0 l []) (names_up name_of names (literals tree names) are 0 n)
      ∙ up_clean 0 0 name_of names (literals tree names) are n 0 0 [] [] (omega arith) tt refl

  abbrev with_arguments : Scope
  with_arguments = declared false 0 again.arguments []

  declares_arguments : Declares 0 0 name_of names (literals tree names) are with_arguments (range 0 n)
  declares_arguments =
      ap (λ (l : List NameView). unnumbered (numbered false 0 l)) (names_up name_of names (literals tree names) are 0 n)
      ∙ up_declares 0 0 name_of names (literals tree names) are n 0 0 [] [] (omega arith) refl

  temporaries_clean : declare_fault 0 again.temporaries with_arguments ≡ None
  temporaries_clean =
      ap (λ (l : List NameView). declare_fault 0 l with_arguments) (names_up name_of names (literals tree names) are n (length tree.temporaries))
      ∙ up_clean 0 0 name_of names (literals tree names) are (length tree.temporaries) n 0 (range 0 n) with_arguments (omega arith) first_below declares_arguments

  scope_declares : Declares n own name_of names (literals tree names) are (declared true 0 again.temporaries with_arguments) (numbers scope)
  scope_declares =
      unnumbered-append (numbered false 0 again.arguments) (numbered true 0 again.temporaries)
      ∙ ap (λ (l : Scope). unnumbered (numbered false 0 again.arguments) ++ l) (unnumbered-any true again.temporaries 0 n)
      ∙ sym (unnumbered-append (numbered false 0 again.arguments) (numbered true n again.temporaries))
      ∙ ap unnumbered (scope_again name_of names tree are)
      ∙ sym (own_of scope (is_scope names tree sound))

  -- no fault of names
  pub clean_again : method_fault names again ≡ None
  clean_again =
      or_both (declare_fault 0 again.arguments []) _ arguments_clean
      (or_both (declare_fault 0 again.temporaries with_arguments) _ temporaries_clean
      (statements_clean n own name_of names (literals tree names) are (body tree names).part (numbers scope) (declared true 0 again.temporaries with_arguments) scope_declares (seen names tree sound)))

  -- THE SAME CODE
  pub same_code : code again names ≡ Ok (parts tree names)
  same_code = code_again name_of names tree are sound clean_again
