-- What parsing answers.
use Rattle.std.proofs.Common.{◌≡◌, ℕ, ◌-◌, ◌≤◌, List, length, drop, Option, Some, None, Result, Ok, Err, refl, sym, ap, ◌∙◌, subst}
use Rattle.st_scan.specs.declared.token.Token.{Token}
use Rattle.st_scan.specs.declared.fault.Fault.{Fault}
use Rattle.st_scan.specs.declared.fault.Cause.{Cause}
use Rattle.st_scan.specs.declared.fault.SyntaxFault.{SyntaxFault}
use Rattle.st_scan.specs.declared.fault.SyntaxFault.TheVariants.{At, OutOfMemory}
use Rattle.st_scan.specs.declared.tree.MethodTree.{MethodTree}
use Rattle.st_scan.specs.TreeFaults.{cause_number}
use Rattle.st_scan.specs.Views.{MethodView, method_view}
use Rattle.std.specs.Prelude.{IfOk, IfErr}
use Rattle.st_scan.specs.inside.Scanned.{ScansTo}
use Rattle.st_grammar.specs.declared.leaf.Leaf.{Leaf}
use Rattle.st_grammar.specs.Faults.{highest, most, IsMethodOf}
use Rattle.st_grammar.specs.Reading.{whole_at}
use Rattle.st_grammar.specs.inside.Meant.{Means, HasFirst, IsFaultOf}
use Rattle.st_grammar.specs.Texts.{words, place_at, GrammarFinds, first_fault, IsOnly}
use Rattle.st_grammar.proofs.Theorems.{whole_method, whole_fault}
use Rattle.st_grammar.proofs.Faulty.{tree_determined, tree_or_fault}

pub is_tree : (text : List ℕ) (tokens : List Token) (scanner : Option Fault) (ws : List Leaf) (t : MethodView) → ScansTo text tokens scanner → scanner ≡ None → ws ≡ words text tokens scanner → whole_at text most ws ≡ Ok t → Means text t
is_tree text tokens scanner ws t scan none is read =
    let ws_is : ws ≡ words text tokens None = is ∙ ap (words text tokens) none in
    let m = whole_method text ws t read in
    record {
      tokens = tokens;
      scan = subst (ScansTo text tokens) none scan;
      method = subst (λ (l : List Leaf). IsMethodOf text l t) ws_is m.0;
      shallow = subst (λ (l : List Leaf). highest 0 l ≤ most) ws_is m.1;
    }

is_fault_of : (text : List ℕ) (f : Fault) (e : SyntaxFault) → HasFirst text f → e ≡ At f.place (cause_number f.cause) → IsFaultOf text e
is_fault_of text f e h is = subst (IsFaultOf text) (sym is) (f, h, refl, refl)

pub scanner_fault : (text : List ℕ) (tokens : List Token) (scanner : Option Fault) (ws : List Leaf) (t : MethodView) (f : Fault) (e : SyntaxFault) → ScansTo text tokens scanner → scanner ≡ Some f → ws ≡ words text tokens scanner → whole_at text most ws ≡ Ok t
    → e ≡ At f.place (cause_number f.cause) → IsFaultOf text e
scanner_fault text tokens scanner ws t f e scan some is read at =
    let m = whole_method text ws t read in
    let finds = subst (λ (l : List Leaf). GrammarFinds text l None) is ((m.0.0, m.0.1, m.0.2), m.1) in
    is_fault_of text f e (record { tokens = tokens; scanner = scanner; grammar = None; scan = scan; finds = finds; is_first = ap (λ s. first_fault s None) some }) at

pub grammar_fault : (text : List ℕ) (tokens : List Token) (scanner : Option Fault) (ws : List Leaf) (cause : Cause) (left place : ℕ) (f : Fault) (e : SyntaxFault) → ScansTo text tokens scanner → ws ≡ words text tokens scanner
    → whole_at text most ws ≡ Err (record { cause = cause; left = left }) → place ≡ place_at text (drop (length ws - left) ws) → Some f ≡ first_fault scanner (Some (record { place = place; cause = cause }))
    → e ≡ At f.place (cause_number f.cause) → IsFaultOf text e
grammar_fault text tokens scanner ws cause left place f e scan is read here is_first at =
    let fault = whole_fault text ws (record { cause = cause; left = left }) read in
    let g : Fault = record { place = place; cause = cause } in
    let finds = subst (λ (l : List Leaf). GrammarFinds text l (Some g)) is (left, fault, here) in
    is_fault_of text f e (record { tokens = tokens; scanner = scanner; grammar = Some g; scan = scan; finds = finds; is_first = sym is_first }) at

pub only : (text : List ℕ) (r : Result MethodTree SyntaxFault) → IfOk r (λ t. Means text (method_view t)) → IfErr r (IsFaultOf text) → (t : MethodView) → Means text t → IsOnly t r
only text (Ok u) tree fault t m = tree_determined text (method_view u) t tree m
only text (Err (At place cause)) tree fault t m = tree_or_fault text t place cause m fault
only text (Err OutOfMemory) tree fault t m = tt
