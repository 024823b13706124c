-- One definition more, and what is found then.
use Rattle.std.proofs.Common.{◌≡◌, ℕ, ◌+◌, ◌≤◌, Bool, true, false, true≢false, List, [], ◌∷◌, ◌++◌, length, get_or, refl, sym, ap, ◌∙◌, subst, append_assoc, arith, length-append, codes}
use Rattle.std.specs.Prelude.{◌&&◌, Option, Some, None, MatchOption, All, bytes_eq, unwrap_or, if◌then◌else◌}
use Rattle.std.specs.Bool.{beq}
use Rattle.std.specs.Cmp.{booleans_Decides}
use Rattle.std.specs.Cmp.Lexicographic.{bytes_decides}
use Rattle.std.proofs.lemmas.Bool.{and_parts}
use Rattle.std.proofs.lemmas.Bool.Decides.{Decides-and}
use Rattle.st_scan.specs.Views.{MethodView}
use Rattle.st_grammar.proofs.Faulty.{tree_determined}
use Rattle.st_grammar.proofs.Syntaxes.{means_tree}
use Rattle.st_chunk.specs.Texts.{mark, doubled}
use Rattle.st_chunk.specs.Groups.{header_text}
use Rattle.st_chunk.specs.Definitions.{Definition, IsDefinition, header_for, line_feed, method_part, entry, definitions_in}
use Rattle.st_chunk.proofs.Entries.{read_back}
use Rattle.st_changes.specs.inside.IndexStates.{IndexState, HasName, updated}
use Rattle.st_changes.specs.Last.{HasSelector, FindsSelector, IsOf, IsNowhere, IsLast, Answers, text_place}
use Rattle.st_changes.specs.inside.Prepared.{IsPrepared, IsReady}
use Rattle.st_changes.proofs.ListTexts.{more_of, all_more}

pub one_selector : (text s t : List ℕ) → HasSelector text s → HasSelector text t → s ≡ t
one_selector text s t x y = sym x.is ∙ ap (λ (v : MethodView). v.selector) (tree_determined text x.tree y.tree (means_tree text x.tree x.means) (means_tree text y.tree y.means)) ∙ y.is

pub none_of : (P : Definition → Type 0) → All P []
none_of P k x less = absurd (omega arith)

-- an entry is that of one definition
pub entry_same : (d e : Definition) → IsDefinition d → IsDefinition e → entry d ≡ entry e → d ≡ e
entry_same d e x y is =
    let back : Some (d ∷ []) ≡ Some (e ∷ []) =
    sym (read_back (d ∷ []) (all_more [] d (none_of IsDefinition) x)) ∙ ap (λ (b : List ℕ). definitions_in (b ++ [])) is ∙ read_back (e ∷ []) (all_more [] e (none_of IsDefinition) y) in
    ap (λ (o : Option (List Definition)). get_or (unwrap_or o []) 0 d) back

-- WHERE A TEXT STANDS

pub entry_parts : (d : Definition) → length (entry d) ≡ text_place d + length (doubled d.text) + 4
entry_parts d =
    let l1 = length-append (doubled (header_text (header_for d))) (mark ∷ line_feed ∷ method_part d) in
    let l2 = length-append (doubled d.text) (codes "! !" ++ line_feed ∷ []) in
    omega (arith, l1, l2)

-- ONE MORE

-- one of another class, side or selector
on_other : (o : Option ℕ) (ds : List Definition) (d : Definition) (c : List ℕ) (m : Bool) (s : List ℕ) → (IsOf c m s d → ⊥)
    → MatchOption o (IsNowhere ds c m s) (IsLast ds c m s) → MatchOption o (IsNowhere (ds ++ d ∷ []) c m s) (IsLast (ds ++ d ∷ []) c m s)
on_other None ds d c m s other none = more_of (λ e. IsOf c m s e → ⊥) ds d none other
on_other (Some n) ds d c m s other last = record {
  before = last.before;
  last = last.last;
  behind = last.behind ++ d ∷ [];
  is = ap (λ (x : List Definition). x ++ d ∷ []) last.is ∙ append_assoc last.before (last.last ∷ last.behind) (d ∷ []);
  of = last.of;
  none = more_of (λ e. IsOf c m s e → ⊥) last.behind d last.none other;
  place = last.place;
}

module _ (ds : List Definition) (d : Definition) (f : List ℕ → Bool → List ℕ → Option ℕ) (answers : Answers ds f) where
  pub without : FindsSelector d.text None → Answers (ds ++ d ∷ []) f
  without none c m s = on_other (f c m s) ds d c m s (λ of. none s of.named) (answers c m s)

  module _ (selector : List ℕ) (has : HasSelector d.text selector) (n : ℕ) (place : n ≡ length ds) where
    same_of : (c : List ℕ) (m : Bool) (s : List ℕ) → ((bytes_eq c d.class && beq m d.meta) && bytes_eq s selector) ≡ true → IsOf c m s d
    same_of c m s is =
        let parts = and_parts (bytes_eq c d.class && beq m d.meta) (bytes_eq s selector) is in
        let first = and_parts (bytes_eq c d.class) (beq m d.meta) parts.0 in
        record {
          class_is = sym ((bytes_decides c d.class).0 first.0);
          side = sym ((booleans_Decides m d.meta).0 first.1);
          named = subst (HasSelector d.text) (sym ((bytes_decides s selector).0 parts.1)) has;
        }

    test_of : (c : List ℕ) (m : Bool) (s : List ℕ) → IsOf c m s d → ((bytes_eq c d.class && beq m d.meta) && bytes_eq s selector) ≡ true
    test_of c m s of =
        (Decides-and _ _ (Decides-and _ _ (bytes_decides c d.class) (booleans_Decides m d.meta)) (bytes_decides s selector)).1
        ((sym of.class_is, sym of.side), one_selector d.text s selector of.named has)

    pub with_selector : Answers (ds ++ d ∷ []) (updated f d.class d.meta selector n)
    with_selector c m s = by ((bytes_eq c d.class && beq m d.meta) && bytes_eq s selector) refl
      where
        by : (t : Bool) → ((bytes_eq c d.class && beq m d.meta) && bytes_eq s selector) ≡ t
            → MatchOption (if t then Some n else f c m s) (IsNowhere (ds ++ d ∷ []) c m s) (IsLast (ds ++ d ∷ []) c m s)
        by true is = record { before = ds; last = d; behind = []; is = refl; of = same_of c m s is; none = none_of (λ e. IsOf c m s e → ⊥); place = place }
        by false is = on_other (f c m s) ds d c m s (λ of. true≢false (sym (test_of c m s of) ∙ is)) (answers c m s)

-- one that finds the same
pub answers_same : (ds : List Definition) (f g : List ℕ → Bool → List ℕ → Option ℕ) → ((c : List ℕ) (m : Bool) (s : List ℕ) → g c m s ≡ f c m s) → Answers ds f → Answers ds g
answers_same ds f g same answers c m s = subst (λ (o : Option ℕ). MatchOption o (IsNowhere ds c m s) (IsLast ds c m s)) (sym (same c m s)) (answers c m s)

pub answers_none : (f : List ℕ → Bool → List ℕ → Option ℕ) → ((c : List ℕ) (m : Bool) (s : List ℕ) → f c m s ≡ None) → Answers [] f
answers_none f none c m s = subst (λ (o : Option ℕ). MatchOption o (IsNowhere [] c m s) (IsLast [] c m s)) (sym (none c m s)) (none_of (λ e. IsOf c m s e → ⊥))

-- WHAT IS PREPARED

pub prepared_on : (x y : IndexState) (d : Definition) (selector : Option (List ℕ)) → ((n : List ℕ) → HasName x n → HasName y n) → x.room ≤ y.room → IsPrepared x d selector → IsPrepared y d selector
prepared_on x y d selector keeps room prepared = record {
  finds = prepared.finds;
  place = λ s is. let place = prepared.place s is in
      record { class_named = keeps d.class place.class_named; selector_named = keeps s place.selector_named; room = omega (arith, place.room, room) };
}

pub ready_on : (x y : IndexState) (bytes : List ℕ) (selector : Option (List ℕ)) → ((n : List ℕ) → HasName x n → HasName y n) → x.room ≤ y.room → IsReady x bytes selector → IsReady y bytes selector
ready_on x y bytes selector keeps room ready d good is = prepared_on x y d selector keeps room (ready d good is)

pub ready_of : (x : IndexState) (d : Definition) (bytes : List ℕ) (selector : Option (List ℕ)) → IsDefinition d → bytes ≡ entry d → IsPrepared x d selector → IsReady x bytes selector
ready_of x d bytes selector good is prepared e other same = subst (λ (y : Definition). IsPrepared x y selector) (entry_same d e good other (sym is ∙ same)) prepared
