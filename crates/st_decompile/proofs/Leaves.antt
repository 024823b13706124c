-- Variables, literals and assignments have their code again.
use Rattle.std.proofs.Common.{◌≡◌, ℕ, Bool, true, false, List, Option, Some, None, refl, sym, ap, ◌∙◌, subst}
use Rattle.std.specs.Prelude.{if◌then◌else◌, is_some, bytes_eq, codes}
use Rattle.st_scan.specs.Views.{NameView, ContentView, ExpressionView}
use Rattle.st_scan.specs.Views as views
use Rattle.st_emit.specs.declared.instruction.Constant.{Constant}
use Rattle.st_emit.specs.declared.instruction.Constant.TheVariants.{Receiver, True, False, Nil, Context as Active}
use Rattle.st_emit.specs.declared.instruction.InstructionOperand.{InstructionOperand}
use Rattle.st_emit.specs.Names.{NamesView, Scope, Variable, constant_named, variable_named}
use Rattle.st_emit.specs.Literals.{LiteralView, Named, small_number}
use Rattle.st_scan.specs.declared.token.Signed.{Signed}
use Rattle.st_emit.specs.Nodes.{Node, constant, small, literal, variable, assign, block}
use Rattle.st_emit.specs.Resolving.{Context, name_node, constant_or, place_named, place_of_name, variable_place, content_node, small_or, expression_node}
use Rattle.st_code.specs.declared.fault.Cause.TheVariants.{Unknown, Store}
use Rattle.st_code.specs.Faults.{fault_at, read_fault, store_fault, stored_fault}
use Rattle.st_resolved.proofs.Grows.{Extends}
use Rattle.st_expression_stack.specs.Choosing.{called}
use Rattle.st_decompile.specs.Back.{tree_of}
use Rattle.st_decompile.specs.inside.Calling.{AreNames}
use Rattle.st_decompile.proofs.Same.{Same, same, same_assign}
use Rattle.st_decompile.proofs.Renamed.{variable_again}
use Rattle.st_decompile.proofs.Contents.{content_again}
use Rattle.st_decompile.proofs.Backs.{Back, at_next, again_at}

-- no pseudo variable is no super
pub not_super : (t : List ℕ) → constant_named t ≡ None → bytes_eq t (codes "super") ≡ false
not_super t h = by_tests (bytes_eq t (codes "self")) (bytes_eq t (codes "super")) refl h
  where
    others : Option Constant
    others = if bytes_eq t (codes "true") then Some True else (if bytes_eq t (codes "false") then Some False else (if bytes_eq t (codes "nil") then Some Nil else (if bytes_eq t (codes "thisContext") then Some Active else None)))

    by_tests : (a b : Bool) → bytes_eq t (codes "super") ≡ b → (if a then Some Receiver else (if b then Some Receiver else others)) ≡ None → bytes_eq t (codes "super") ≡ false
    by_tests true b e h = absurd cc
    by_tests false true e h = absurd cc
    by_tests false false e h = e

module _ (name_of : InstructionOperand → List ℕ) (names : NamesView) (literals : List LiteralView) (are : AreNames name_of names literals) where
  abbrev IsBack : Named Node → ℕ → ℕ → Bool → Context → List LiteralView → Type 0
  IsBack = Back name_of names literals

  -- CONSTANTS AND VARIABLES

  abbrev constant_named' : Constant → List LiteralView → Named Node
  constant_named' k acc = record { part = constant k; literals = acc }

  constant_back : (k : Constant) (next : ℕ) (c : Context) (acc : List LiteralView) → IsBack (constant_named' k acc) 0 next false c acc
  constant_back Receiver next c acc = record { same = same (constant Receiver); ends = refl; counted = refl; block = refl; no_super = refl; lowest = refl }
  constant_back True next c acc = record { same = same (constant True); ends = refl; counted = refl; block = refl; no_super = refl; lowest = refl }
  constant_back False next c acc = record { same = same (constant False); ends = refl; counted = refl; block = refl; no_super = refl; lowest = refl }
  constant_back Nil next c acc = record { same = same (constant Nil); ends = refl; counted = refl; block = refl; no_super = refl; lowest = refl }
  constant_back Active next c acc = record { same = same (constant Active); ends = refl; counted = refl; block = refl; no_super = refl; lowest = refl }

  module _ (n : NameView) (s : Scope) (next other : ℕ) (acc : List LiteralView) where
    abbrev variable_node : Named InstructionOperand → Named Node
    variable_node p = record { part = variable p.part; literals = p.literals }

    by_variable : (o : Option Variable) → variable_named names s n.text ≡ o → constant_named n.text ≡ None → (if is_some o then None else fault_at n.place Unknown) ≡ None → Extends (place_named o acc).literals literals
        → IsBack (variable_node (place_named o acc)) 0 next false (again_at name_of names literals s other) acc
    by_variable None e plain h more = absurd cc
    by_variable (Some v) e plain h more =
        let a = variable_again name_of names literals are s n.text acc v plain more e in
        let p = variable_place v acc in
        let c = again_at name_of names literals s other in
        let t = called (name_of p.part) in
        let now : expression_node (views.variable t) c acc ≡ variable_node p =
        ap (λ (k : Option Constant). constant_or k (place_of_name c t) acc) a.no_constant ∙ ap variable_node a.place in
        record {
          same = subst (λ (x : Named Node). Same x.part (variable p.part)) (sym now) (same (variable p.part));
          ends = ap (λ (x : Named Node). x.literals) now;
          counted = refl;
          block = refl;
          no_super = not_super (name_of p.part) a.no_constant;
          lowest = refl;
        }

    by_constant : (k : Option Constant) → constant_named n.text ≡ k → (if is_some k then None else (if is_some (variable_named names s n.text) then None else fault_at n.place Unknown)) ≡ None
        → Extends (constant_or k (place_of_name (at_next name_of names literals s next) n) acc).literals literals
        → IsBack (constant_or k (place_of_name (at_next name_of names literals s next) n) acc) 0 next false (again_at name_of names literals s other) acc
    by_constant (Some k) e h more = constant_back k next (again_at name_of names literals s other) acc
    by_constant None e h more = by_variable (variable_named names s n.text) refl e h more

    pub name_back : read_fault names s n ≡ None → Extends (name_node (at_next name_of names literals s next) n acc).literals literals
        → IsBack (name_node (at_next name_of names literals s next) n acc) 0 next false (again_at name_of names literals s other) acc
    name_back h more = by_constant (constant_named n.text) refl h more

  -- LITERALS

  abbrev IsLeaf : Node → Type 0
  IsLeaf (small k) = Unit {0}
  IsLeaf (literal l place) = Unit {0}
  IsLeaf _ = ⊥

  small_leaf : (k : Option ℕ) (n : Signed) (acc : List LiteralView) → IsLeaf (small_or k n acc).part
  small_leaf (Some k) n acc = tt
  small_leaf None n acc = tt

  content_leaf : (what : ContentView) (acc : List LiteralView) → IsLeaf (content_node what acc).part
  content_leaf (views.number n) acc = small_leaf (small_number n) n acc
  content_leaf what acc = tt

  module _ (next : ℕ) (c : Context) (acc : List LiteralView) where
    leaf_back : (n : Node) (ls : List LiteralView) → IsLeaf n → expression_node (tree_of name_of n) c acc ≡ record { part = n; literals = ls } → IsBack (record { part = n; literals = ls }) 0 next false c acc
    leaf_back (small k) ls h now = record { same = subst (λ (x : Named Node). Same x.part (small k)) (sym now) (same (small k)); ends = ap (λ (x : Named Node). x.literals) now; counted = refl; block = refl; no_super = refl; lowest = refl }
    leaf_back (literal l place) ls h now =
        record { same = subst (λ (x : Named Node). Same x.part (literal l place)) (sym now) (same (literal l place)); ends = ap (λ (x : Named Node). x.literals) now; counted = refl; block = refl; no_super = refl; lowest = refl }
    leaf_back n ls h now = absurd h

    pub content_back : (what : ContentView) → IsBack (content_node what acc) 0 next false c acc
    content_back what = leaf_back (content_node what acc).part (content_node what acc).literals (content_leaf what acc) (content_again name_of c acc what)

  -- ASSIGNMENTS

  module _ (target : NameView) (s : Scope) (next other : ℕ) (acc : List LiteralView) (e : ExpressionView) (count : ℕ) (plain : Bool) where
    abbrev value : Named Node
    value = expression_node e (at_next name_of names literals s next) acc

    abbrev assigned_node : Named Node → Named InstructionOperand → Named Node
    assigned_node x p = record { part = assign p.part x.part; literals = p.literals }

    by_target : (o : Option Variable) → variable_named names s target.text ≡ o → constant_named target.text ≡ None → stored_fault target.place o ≡ None → Extends (place_named o value.literals).literals literals
        → IsBack value count next plain (again_at name_of names literals s other) acc → IsBack (assigned_node value (place_named o value.literals)) count next false (again_at name_of names literals s other) acc
    by_target None h plain_name f more b = absurd cc
    by_target (Some v) h plain_name f more b =
        let a = variable_again name_of names literals are s target.text value.literals v plain_name more h in
        let p = variable_place v value.literals in
        let c = again_at name_of names literals s other in
        let t = called (name_of p.part) in
        let x = expression_node (tree_of name_of value.part) c acc in
        let there : place_of_name c t x.literals ≡ p = ap (λ (ls : List LiteralView). place_of_name c t ls) b.ends ∙ a.place in
        record {
          same = subst (λ (q : Named InstructionOperand). Same (assign q.part x.part) (assign p.part value.part)) (sym there) (same_assign p.part x.part value.part b.same);
          ends = ap (λ (q : Named InstructionOperand). q.literals) there;
          counted = b.counted;
          block = refl;
          no_super = refl;
          lowest = b.lowest;
        }

    by_store : (k : Option Constant) → constant_named target.text ≡ k → (if is_some k then fault_at target.place Store else stored_fault target.place (variable_named names s target.text)) ≡ None
        → Extends (place_named (variable_named names s target.text) value.literals).literals literals
        → IsBack value count next plain (again_at name_of names literals s other) acc → IsBack (assigned_node value (place_named (variable_named names s target.text) value.literals)) count next false (again_at name_of names literals s other) acc
    by_store (Some k) h f more b = absurd cc
    by_store None h f more b = by_target (variable_named names s target.text) refl h f more b

    pub assign_back : store_fault names s target ≡ None → Extends (expression_node (views.assign target e) (at_next name_of names literals s next) acc).literals literals
        → IsBack value count next plain (again_at name_of names literals s other) acc → IsBack (expression_node (views.assign target e) (at_next name_of names literals s next) acc) count next false (again_at name_of names literals s other) acc
    assign_back f more b = by_store (constant_named target.text) refl f more b
