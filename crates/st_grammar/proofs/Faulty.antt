-- A text has one tree or one fault.
use Rattle.std.proofs.Common.{◌≡◌, ℕ, ◌-◌, ◌≤◌, List, length, drop, Option, Some, None, refl, sym, ap, ◌∙◌, subst}
use Rattle.st_scan.specs.declared.fault.Fault.{Fault}
use Rattle.st_scan.specs.declared.fault.Cause.{Cause}
use Rattle.st_scan.specs.TreeFaults.{cause_number}
use Rattle.st_scan.specs.Views.{MethodView}
use Rattle.st_scan.proofs.One.{one}
use Rattle.st_grammar.specs.declared.leaf.Leaf.{Leaf}
use Rattle.st_grammar.specs.Leaves.{leaves_of}
use Rattle.st_grammar.specs.Faults.{highest, most, IsMethod, IsMethodOf}
use Rattle.st_grammar.specs.inside.Meant.{Means, HasFirst, HasFault}
use Rattle.st_grammar.specs.Texts.{words, place_at, GrammarFinds, first_fault}
use Rattle.st_grammar.proofs.Theorems.{one_tree, one_fault, method_no_fault}

pub tree_determined : (text : List ℕ) (t u : MethodView) → Means text t → Means text u → t ≡ u
tree_determined text t u x y =
    let same = (one text x.tokens y.tokens None None x.scan y.scan).0 in
    one_tree text (leaves_of text y.tokens) t u (subst (λ ts. IsMethodOf text (leaves_of text ts) t) same x.method) y.method

fault_equal : (f g : Fault) → f.place ≡ g.place → f.cause ≡ g.cause → f ≡ g
fault_equal f g p q =
    let one : f ≡ record { place = g.place; cause = f.cause } = ap (λ (k : ℕ). record { place = k; cause = f.cause }) p in
    one ∙ ap (λ (c : Cause). record { place = g.place; cause = c }) q

-- what the grammar finds
finds_one : (text : List ℕ) (ws : List Leaf) (f g : Option Fault) → GrammarFinds text ws f → GrammarFinds text ws g → f ≡ g
finds_one text ws None None x y = refl
finds_one text ws None (Some g) x y = absurd (method_no_fault text ws g.cause y.0 x.0 x.1 y.1)
finds_one text ws (Some f) None x y = absurd (method_no_fault text ws f.cause x.0 y.0 y.1 x.1)
finds_one text ws (Some f) (Some g) x y =
    let o = one_fault text ws f.cause g.cause x.0 y.0 x.1 y.1 in
    let place : f.place ≡ g.place = x.2 ∙ ap (λ (l : ℕ). place_at text (drop (length ws - l) ws)) o.1 ∙ sym y.2 in
    ap (λ (k : Fault). Some k) (fault_equal f g place o.0)

pub first_determined : (text : List ℕ) (f g : Fault) → HasFirst text f → HasFirst text g → f ≡ g
first_determined text f g x y =
    let scans = one text x.tokens y.tokens x.scanner y.scanner x.scan y.scan in
    let same : words text x.tokens x.scanner ≡ words text y.tokens y.scanner = ap (λ ts. words text ts x.scanner) scans.0 ∙ ap (words text y.tokens) scans.1 in
    let grammar = finds_one text (words text y.tokens y.scanner) x.grammar y.grammar (subst (λ (ws : List Leaf). GrammarFinds text ws x.grammar) same x.finds) y.finds in
    let both : Some f ≡ Some g = sym x.is_first ∙ ap (λ s. first_fault s x.grammar) scans.1 ∙ ap (first_fault y.scanner) grammar ∙ y.is_first in
    cc

pub fault_determined : (text : List ℕ) (p q c d : ℕ) → HasFault text p c → HasFault text q d → (p ≡ q) × (c ≡ d)
fault_determined text p q c d x y =
    let same = first_determined text x.0 y.0 x.1 y.1 in
    (sym x.2 ∙ ap (λ (f : Fault). f.place) same ∙ y.2, sym x.3 ∙ ap (λ (f : Fault). cause_number f.cause) same ∙ y.3)

pub tree_or_fault : (text : List ℕ) (t : MethodView) (p c : ℕ) → Means text t → HasFault text p c → ⊥
tree_or_fault text t p c x (f, y, _, _) =
    let scans = one text x.tokens y.tokens None y.scanner x.scan y.scan in
    let same : leaves_of text x.tokens ≡ words text y.tokens y.scanner = ap (λ ts. words text ts None) scans.0 ∙ ap (words text y.tokens) scans.1 in
    let method : IsMethod text (words text y.tokens y.scanner) = subst (IsMethod text) same (x.method.0, x.method.1, x.method.2) in
    let low : highest 0 (words text y.tokens y.scanner) ≤ most = subst (λ (ws : List Leaf). highest 0 ws ≤ most) same x.shallow in
    let grammar = finds_one text (words text y.tokens y.scanner) y.grammar None y.finds (method, low) in
    let none : None ≡ Some f = ap (λ s. first_fault s None) scans.1 ∙ sym (ap (first_fault y.scanner) grammar) ∙ y.is_first in
    absurd cc
