-- The method that is read of the code of a well formed tree is well formed.
use Rattle.std.proofs.Common.{◌≡◌, ◌≤◌, ℕ, true, false, List, [], length, Option, Some, None, refl, sym, subst}
use Rattle.std.specs.Prelude.{bytes_eq, codes, Result, Ok}
use Rattle.st_scan.specs.Views.{MethodView}
use Rattle.st_emit.specs.declared.instruction.InstructionOperand.{InstructionOperand}
use Rattle.st_emit.specs.Names.{NamesView}
use Rattle.st_code.specs.declared.fault.Fault.{Fault}
use Rattle.st_code.specs.Methods.{PartsView, code, parts, fault, parts_or, context, body, literals}
use Rattle.st_scan.specs.Pieces.{is_name}
use Rattle.st_grammar.specs.Faults.{most}
use Rattle.st_grammar.specs.inside.Formed.{IsSelector, IsWellFormed}
use Rattle.st_resolved.proofs.Arity.{right_tree}
use Rattle.st_decompile.specs.inside.Calling.{AreNames}
use Rattle.st_decompile.specs.Whole.{candidate}
use Rattle.st_decompile.specs.Back.{places_from}
use Rattle.st_decompile.proofs.Wholes.{tree_again, arguments_length}
use Rattle.st_decompile.proofs.Complete.{candidate_is, candidate_code}
use Rattle.st_print.proofs.Nesting.{statements_nesting}
use Rattle.st_decompile.proofs.Making.{statements_make}
use Rattle.st_decompile.proofs.Nested.{read_nests, body_few}
use Rattle.st_decompile.proofs.Written.{names_written, statements_written}

abbrev as_result : PartsView → Result PartsView Fault
as_result p = Ok p

-- all variables are called by names, and none super
pub record AreWords (name_of : InstructionOperand → List ℕ) : Type 0 where
  pub are_names : (p : InstructionOperand) → is_name (name_of p) ≡ true
  pub none_super : (p : InstructionOperand) → bytes_eq (name_of p) (codes "super") ≡ false

module _ (name_of : InstructionOperand → List ℕ) (names : NamesView) (words : AreWords name_of) where
  pub well_again : (tree : MethodView) (are : AreNames name_of names (literals tree names)) → IsWellFormed tree → IsWellFormed (tree_again name_of names tree are)
  well_again tree are well = record {
    selector = subst (λ (n : ℕ). IsSelector tree.selector n) (sym (arguments_length name_of names tree are)) well.selector;
    arguments = names_written name_of words.are_names words.none_super (places_from 0 (length tree.arguments) []);
    temporaries = names_written name_of words.are_names words.none_super (places_from (length tree.arguments) (length tree.temporaries) []);
    primitive = well.primitive;
    body = statements_written name_of words.are_names words.none_super (body tree names).part ((statements_make tree.body (context tree names) well.body).by []);
  }

  -- it nests no deeper
  pub nests_again : (tree : MethodView) (are : AreNames name_of names (literals tree names)) → IsWellFormed tree → statements_nesting (tree_again name_of names tree are).body ≤ statements_nesting tree.body
  nests_again tree are well = read_nests name_of tree.body (context tree names) [] well.body

  -- what is read of these parts: a well formed tree with this code, that nests no deeper than so much
  pub record IsRead (deepest : ℕ) (p : PartsView) : Type 0 where
    pub tree : MethodView
    pub is : candidate name_of p ≡ Some tree
    pub well : IsWellFormed tree
    pub shallow : statements_nesting tree.body ≤ deepest
    pub same : code tree names ≡ Ok p

  -- of all parts that are the code of a well formed tree, which nests no deeper than a text may, one is read
  pub all_read : (tree : MethodView) (p : PartsView) → AreNames name_of names p.literals → IsWellFormed tree → statements_nesting tree.body ≤ most → code tree names ≡ Ok p → IsRead (statements_nesting tree.body) p
  all_read tree p are well shallow h = by_fault (fault tree names) refl h
    where
      by_parts : (q : PartsView) → q ≡ parts tree names → AreNames name_of names q.literals → fault tree names ≡ None → IsRead (statements_nesting tree.body) q
      by_parts q e a sound =
          let there : AreNames name_of names (literals tree names) = subst (λ (x : PartsView). AreNames name_of names x.literals) e a in
          let right = right_tree tree well in
          let low = body_few name_of tree.body (context tree names) [] well.body shallow in
          subst (λ (x : PartsView). IsRead (statements_nesting tree.body) x) (sym e) (record {
            tree = tree_again name_of names tree there;
            is = candidate_is name_of names tree there sound right.0 right.1 low;
            well = well_again tree there well;
            shallow = nests_again tree there well;
            same = candidate_code name_of names tree there sound right.0 right.1 low;
          })

      of_ok : (a b : PartsView) → as_result a ≡ as_result b → b ≡ a
      of_ok a b i = sym cc

      by_fault : (o : Option Fault) → fault tree names ≡ o → parts_or tree names o ≡ Ok p → IsRead (statements_nesting tree.body) p
      by_fault None e i = by_parts p (of_ok (parts tree names) p i) are e
      by_fault (Some f) e i = absurd cc
