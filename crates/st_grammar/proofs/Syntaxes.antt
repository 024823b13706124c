-- A text has one tree or one first fault, which is what `syntax` says.
use Rattle.std.proofs.Common.{◌≡◌, ℕ, List, Option, Some, None, Result, Ok, Err, Bool, true, false, refl, sym, ap, subst}
use Rattle.std.specs.Prelude.{if◌then◌else◌}
use Rattle.st_scan.specs.declared.fault.Fault.{Fault}
use Rattle.st_scan.specs.declared.token.Token.{Token}
use Rattle.st_scan.specs.TreeFaults.{cause_number}
use Rattle.st_scan.specs.Views.{MethodView}
use Rattle.st_scan.specs.inside.Scanned.{ScansTo}
use Rattle.st_scan.specs.Scans.{tokens_from}
use Rattle.st_grammar.specs.Faults.{most}
use Rattle.st_grammar.specs.Reading.{Stop, whole_at}
use Rattle.st_grammar.specs.inside.Meant.{Means, HasFirst, HasFault}
use Rattle.st_grammar.specs.Texts.{words, first_fault, is_before}
use Rattle.st_grammar.proofs.Theorems.{whole_method, whole_fault}
use Rattle.st_grammar.proofs.Faulty.{tree_determined, first_determined, tree_or_fault}
use Rattle.st_grammar.specs.inside.SyntaxMeant.{IsSyntax}
use Rattle.st_grammar.specs.Syntax.{scan_of, words_of, stopped, tree_or_first, syntax}
use Rattle.st_grammar.proofs.Scanned.{scans}

either : (b : Bool) (f g : Fault) → (if b then Some g else Some f) ≡ Some (if b then g else f)
either true f g = refl
either false f g = refl

first_is : (f g : Fault) → first_fault (Some f) (Some g) ≡ Some (if is_before g f then g else f)
first_is f g = either (is_before g f) f g

module _ (text : List ℕ) (tokens : List Token) where
  syntax_is : (scanner : Option Fault) (read : Result MethodView Stop) → ScansTo text tokens scanner → whole_at text most (words text tokens scanner) ≡ read → IsSyntax text (tree_or_first text (words text tokens scanner) scanner read)
  syntax_is None (Ok tree) scan is =
      let m = whole_method text (words text tokens None) tree is in
      record { tokens = tokens; scan = scan; method = m.0; shallow = m.1 }
  syntax_is None (Err s) scan is =
      let ws = words text tokens None in
      record {
        tokens = tokens;
        scanner = None;
        grammar = Some (stopped text ws s);
        scan = scan;
        finds = (s.left, whole_fault text ws s is, refl);
        is_first = refl;
      }
  syntax_is (Some f) (Ok tree) scan is =
      let m = whole_method text (words text tokens (Some f)) tree is in
      record { tokens = tokens; scanner = Some f; grammar = None; scan = scan; finds = ((m.0.0, m.0.1, m.0.2), m.1); is_first = refl }
  syntax_is (Some f) (Err s) scan is =
      let ws = words text tokens (Some f) in
      let g = stopped text ws s in
      record {
        tokens = tokens;
        scanner = Some f;
        grammar = Some g;
        scan = scan;
        finds = (s.left, whole_fault text ws s is, refl);
        is_first = first_is f g;
      }

pub is : (text : List ℕ) → IsSyntax text (syntax text)
unfolding syntax
is text = let s = scan_of text in syntax_is text (tokens_from 0 s.pieces) s.fault (whole_at text most (words_of text s)) (scans text) refl

fault_of : (text : List ℕ) (f : Fault) → HasFirst text f → HasFault text f.place (cause_number f.cause)
fault_of text f h = (f, h, refl, refl)

one : (text : List ℕ) (r s : Result MethodView Fault) → IsSyntax text r → IsSyntax text s → r ≡ s
one text (Ok t) (Ok u) a b = ap Ok (tree_determined text t u a b)
one text (Ok t) (Err f) a b = absurd (tree_or_fault text t f.place (cause_number f.cause) a (fault_of text f b))
one text (Err f) (Ok u) a b = absurd (tree_or_fault text u f.place (cause_number f.cause) b (fault_of text f a))
one text (Err f) (Err g) a b = ap Err (first_determined text f g a b)

pub only : (text : List ℕ) (r : Result MethodView Fault) → IsSyntax text r → r ≡ syntax text
only text r h = one text r (syntax text) h (is text)

-- a tree that is read is meant, and one that is meant is read

pub means_tree : (text : List ℕ) (t : MethodView) → syntax text ≡ Ok t → Means text t
means_tree text t e = subst (IsSyntax text) e (is text)

pub reads_tree : (text : List ℕ) (t : MethodView) → Means text t → syntax text ≡ Ok t
reads_tree text t h = sym (only text (Ok t) h)
