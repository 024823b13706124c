-- Conditional forms have their code again, whichever form they are read as.
use Rattle.std.proofs.Common.{◌≡◌, ℕ, zero, suc, ◌+◌, ◌≤◌, ◌<◌, Bool, true, false, List, Option, Some, None, inl, inr, ◌⊎◌, refl, sym, ap, ap₂, ◌∙◌, subst, arith}
use Rattle.std.specs.Prelude.{if◌then◌else◌, nat_lt, codes}
use Rattle.st_scan.specs.Views.{ExpressionView, StatementsView, is_super, no_statements, statement}
use Rattle.st_scan.specs.Views as views
use Rattle.st_emit.specs.declared.instruction.Constant.{Constant}
use Rattle.st_emit.specs.declared.instruction.Constant.TheVariants.{Receiver, True, False, Nil, Context as Active}
use Rattle.st_emit.specs.declared.form.OneSided.{OneSided}
use Rattle.st_emit.specs.declared.form.OneSided.TheVariants.{IfTrue, And}
use Rattle.st_emit.specs.declared.form.TwoSided.TheVariants.{TrueFirst}
use Rattle.st_emit.specs.declared.form.Form.TheVariants.{One}
use Rattle.st_emit.specs.Literals.{LiteralView, Named}
use Rattle.st_emit.specs.Nodes.{Node, Body, constant, two_sided, one_sided, last}
use Rattle.st_emit.specs.Emitting.{passes_on, other_side}
use Rattle.st_emit.specs.Resolving.{Context, behind, names_in, names_in_statements, is_plain, constant_or, place_of_name, expression_node, statements_body, form_named}
use Rattle.st_expression_stack.specs.Choosing.{alone, one_sided_by, sides_by, choice_tree, plain_block, with_block, with_blocks}
use Rattle.st_decompile.specs.inside.Calling.{least_in, IsNext}
use Rattle.st_decompile.proofs.Same.{Same, SameBody, same, same_on, same_sided, same_chosen, same_back, same_constant, body_same}
use Rattle.st_decompile.proofs.Sends.{sided_send, true_send, false_send, sided_named, chosen_true, chosen_false}
use Rattle.st_resolved.proofs.Decoding.{below}
use Rattle.st_resolved.proofs.Wholes.{not_more}

-- a constant alone
record IsAlone (b : StatementsView) (k : Constant) (c : Context) (acc : List LiteralView) : Type 0 where
  body : statements_body b c acc ≡ record { part = last (constant k); literals = acc }
  counted : names_in_statements b ≡ 0

alone_is : (b : StatementsView) (k : Constant) (c : Context) (acc : List LiteralView) → alone b ≡ Some k → IsAlone b k c acc
alone_is (views.statement false (views.variable n) views.no_statements) k c acc e =
    let by_name : Option Constant → Named Body = λ o. (let x = constant_or o (place_of_name c n) acc in record { part = last x.part; literals = x.literals }) in
    record { body = ap by_name e; counted = refl }
alone_is b k c acc e = absurd cc

-- THE ORDER OF TWO BLOCKS

-- the second in the code has the less number, though it isn't the first in the text: then the first declares none
no_first : (nf ns kf ks lf ls : ℕ) → ks ≡ kf + nf → kf + nf ≤ 64 → lf ≡ least_in nf kf → ls ≡ least_in ns ks → ls < lf → nf ≡ 0
no_first zero ns kf ks lf ls h fits f s t = refl
no_first (suc nf) zero kf ks lf ls h fits f s t = absurd (omega (arith, h, fits, f, s, t))
no_first (suc nf) (suc ns) kf ks lf ls h fits f s t = absurd (omega (arith, h, fits, f, s, t))

no_second : (nf ns kf ks lf ls : ℕ) → kf ≡ ks + ns → ks + ns ≤ 64 → lf ≡ least_in nf kf → ls ≡ least_in ns ks → lf ≤ ls → ns ≡ 0
no_second nf zero kf ks lf ls h fits f s t = refl
no_second zero (suc ns) kf ks lf ls h fits f s t = absurd (omega (arith, h, fits, f, s, t))
no_second (suc nf) (suc ns) kf ks lf ls h fits f s t = absurd (omega (arith, h, fits, f, s, t))

module _ (at : ℕ → Context) (names_at : (m n : ℕ) → behind (at m) n ≡ at (m + n)) where
  -- a side of a form: its statements, wherever they may stand, are those of a body, behind some literals
  pub record Side (b : StatementsView) (l : ℕ) (was : Named Body) (acc : List LiteralView) (count next : ℕ) : Type 0 where
    pub same : (m : ℕ) → IsNext count next m → SameBody (statements_body b (at m) acc).part was.part
    pub ends : (m : ℕ) → IsNext count next m → (statements_body b (at m) acc).literals ≡ was.literals
    pub counted : names_in_statements b ≡ count
    pub lowest : l ≡ least_in count next
    pub fits : next + count ≤ 64

  -- what a choice has to be
  pub record IsChosen (t : ExpressionView) (other : ℕ) (acc : List LiteralView) (x : Node) (f s : Body) (ls : List LiteralView) (count : ℕ) : Type 0 where
    pub same : Same (expression_node t (at other) acc).part (two_sided TrueFirst x f s)
    pub ends : (expression_node t (at other) acc).literals ≡ ls
    pub counted : names_in t ≡ count
    pub block : is_plain t ≡ false
    pub no_super : is_super t ≡ false

  module _ (e : ExpressionView) (other : ℕ) (acc : List LiteralView) (was : Named Node) (plain : is_super e ≡ false)
      (same_e : Same (expression_node e (at other) acc).part was.part) (ends_e : (expression_node e (at other) acc).literals ≡ was.literals)
      (a : StatementsView) (la : ℕ) (f : Named Body) (nf kf : ℕ) (first : Side a la f was.literals nf kf)
      (b : StatementsView) (lb : ℕ) (s : Named Body) (ns ks : ℕ) (second : Side b lb s f.literals ns ks) where
    abbrev Chosen : ExpressionView → Type 0
    Chosen t = IsChosen t other acc was.part f.part s.part s.literals (names_in e + (nf + ns))

    abbrev now : Named Node
    now = expression_node e (at other) acc

    abbrev start : ℕ
    start = other + names_in e

    -- FORMS WITH ONE BLOCK

    one_chosen : (side : OneSided) (t : List ℕ) → passes_on side ≡ false → form_named t ≡ One side → alone b ≡ Some (other_side side) → IsNext nf kf start → ns ≡ 0 → Chosen (with_block e t a)
    one_chosen side t p form k there none =
        let c = at start in
        let i : IsNext ns ks 0 = inl none in
        let only = alone_is b (other_side side) (at 0) f.literals k in
        let x : SameBody (last (constant (other_side side))) s.part = subst (λ (n : Named Body). SameBody n.part s.part) only.body (second.same 0 i) in
        let ends_b : f.literals ≡ s.literals = sym (ap (λ (n : Named Body). n.literals) only.body) ∙ second.ends 0 i in
        let is : expression_node (with_block e t a) (at other) acc ≡ sided_named side now (statements_body a c) =
        sided_send e t (at other) acc plain side a form ∙ ap (λ (d : Context). sided_named side now (statements_body a d)) (names_at other (names_in e)) in
        let same_a : SameBody (statements_body a c now.literals).part f.part = subst (λ (ls : List LiteralView). SameBody (statements_body a c ls).part f.part) (sym ends_e) (first.same start there) in
        let ends_a : (statements_body a c now.literals).literals ≡ f.literals = ap (λ (ls : List LiteralView). (statements_body a c ls).literals) ends_e ∙ first.ends start there in
        let whole : Same (one_sided side now.part (statements_body a c now.literals).part) (two_sided TrueFirst was.part f.part s.part) =
        same_on _ (one_sided side was.part f.part) _ (same_sided side now.part was.part _ f.part same_e same_a)
        (same_on _ (two_sided TrueFirst was.part f.part (last (constant (other_side side)))) _ (same_constant side was.part f.part p)
        (same_chosen was.part was.part f.part f.part (last (constant (other_side side))) s.part (same was.part) (body_same f.part) x)) in
        record {
          same = subst (λ (n : Named Node). Same n.part (two_sided TrueFirst was.part f.part s.part)) (sym is) whole;
          ends = ap (λ (n : Named Node). n.literals) is ∙ ends_a ∙ ends_b;
          counted = omega (arith, first.counted, none);
          block = refl;
          no_super = refl;
        }

    -- FORMS WITH TWO BLOCKS

    -- the first in the code stands first in the text
    in_order : IsNext nf kf start → IsNext ns ks (start + nf) → Chosen (with_blocks e (codes "ifTrue:ifFalse:") a b)
    in_order there after =
        let c = at start in
        let more : start + names_in (plain_block a) ≡ start + nf = omega (arith, first.counted) in
        let d = at (start + nf) in
        let placed : behind (behind (at other) (names_in e)) (names_in (plain_block a)) ≡ d =
        ap (λ (x : Context). behind x (names_in (plain_block a))) (names_at other (names_in e)) ∙ names_at start (names_in (plain_block a)) ∙ ap at more in
        let is : expression_node (with_blocks e (codes "ifTrue:ifFalse:") a b) (at other) acc ≡ chosen_true now (statements_body a c) (statements_body b d) =
        true_send e (codes "ifTrue:ifFalse:") (at other) acc plain a b refl
        ∙ ap₂ (λ (x y : Context). chosen_true now (statements_body a x) (statements_body b y)) (names_at other (names_in e)) placed in
        let same_a : SameBody (statements_body a c now.literals).part f.part = subst (λ (ls : List LiteralView). SameBody (statements_body a c ls).part f.part) (sym ends_e) (first.same start there) in
        let ends_a : (statements_body a c now.literals).literals ≡ f.literals = ap (λ (ls : List LiteralView). (statements_body a c ls).literals) ends_e ∙ first.ends start there in
        let la' = (statements_body a c now.literals).literals in
        let same_b : SameBody (statements_body b d la').part s.part = subst (λ (ls : List LiteralView). SameBody (statements_body b d ls).part s.part) (sym ends_a) (second.same (start + nf) after) in
        let ends_b : (statements_body b d la').literals ≡ s.literals = ap (λ (ls : List LiteralView). (statements_body b d ls).literals) ends_a ∙ second.ends (start + nf) after in
        record {
          same = subst (λ (n : Named Node). Same n.part (two_sided TrueFirst was.part f.part s.part)) (sym is) (same_chosen now.part was.part _ f.part _ s.part same_e same_a same_b);
          ends = ap (λ (n : Named Node). n.literals) is ∙ ends_b;
          counted = omega (arith, first.counted, second.counted);
          block = refl;
          no_super = refl;
        }

    out_of_order : IsNext ns ks start → IsNext nf kf (start + ns) → Chosen (with_blocks e (codes "ifFalse:ifTrue:") b a)
    out_of_order after there =
        let c = at start in
        let more : start + names_in (plain_block b) ≡ start + ns = omega (arith, second.counted) in
        let d = at (start + ns) in
        let placed : behind (behind (at other) (names_in e)) (names_in (plain_block b)) ≡ d =
        ap (λ (x : Context). behind x (names_in (plain_block b))) (names_at other (names_in e)) ∙ names_at start (names_in (plain_block b)) ∙ ap at more in
        let is : expression_node (with_blocks e (codes "ifFalse:ifTrue:") b a) (at other) acc ≡ chosen_false now (statements_body b c) (statements_body a d) =
        false_send e (codes "ifFalse:ifTrue:") (at other) acc plain b a refl
        ∙ ap₂ (λ (x y : Context). chosen_false now (statements_body b x) (statements_body a y)) (names_at other (names_in e)) placed in
        let same_a : SameBody (statements_body a d now.literals).part f.part = subst (λ (ls : List LiteralView). SameBody (statements_body a d ls).part f.part) (sym ends_e) (first.same (start + ns) there) in
        let ends_a : (statements_body a d now.literals).literals ≡ f.literals = ap (λ (ls : List LiteralView). (statements_body a d ls).literals) ends_e ∙ first.ends (start + ns) there in
        let la' = (statements_body a d now.literals).literals in
        let same_b : SameBody (statements_body b c la').part s.part = subst (λ (ls : List LiteralView). SameBody (statements_body b c ls).part s.part) (sym ends_a) (second.same start after) in
        let ends_b : (statements_body b c la').literals ≡ s.literals = ap (λ (ls : List LiteralView). (statements_body b c ls).literals) ends_a ∙ second.ends start after in
        record {
          same = subst (λ (n : Named Node). Same n.part (two_sided TrueFirst was.part f.part s.part)) (sym is)
              (same_on _ (two_sided TrueFirst now.part (statements_body a d now.literals).part (statements_body b c la').part) _ (same_back now.part (statements_body b c la').part (statements_body a d now.literals).part)
              (same_chosen now.part was.part _ f.part _ s.part same_e same_a same_b));
          ends = ap (λ (n : Named Node). n.literals) is ∙ ends_b;
          counted = omega (arith, first.counted, second.counted);
          block = refl;
          no_super = refl;
        }

    -- WHICHEVER FORM

    module _ (base : ℕ) (there : IsNext (nf + ns) base start) (order : ((kf ≡ base) × (ks ≡ base + nf)) ⊎ ((ks ≡ base) × (kf ≡ base + ns))) where
      by_order : (t : Bool) → nat_lt lb la ≡ t → Chosen (if t then with_blocks e (codes "ifFalse:ifTrue:") b a else with_blocks e (codes "ifTrue:ifFalse:") a b)
      by_order true t = turned order there
        where
          turned : ((kf ≡ base) × (ks ≡ base + nf)) ⊎ ((ks ≡ base) × (kf ≡ base + ns)) → IsNext (nf + ns) base start → Chosen (with_blocks e (codes "ifFalse:ifTrue:") b a)
          turned (inl o) (inl z) = out_of_order (inl (omega (arith, z))) (inl (omega (arith, z)))
          turned (inl o) (inr z) =
              let kept : ks ≡ kf + nf = omega (arith, o.0, o.1) in
              let none = no_first nf ns kf ks la lb kept first.fits first.lowest second.lowest (below lb la t) in
              out_of_order (inr (omega (arith, z, o.0, o.1, none))) (inl none)
          turned (inr o) (inl z) = out_of_order (inl (omega (arith, z))) (inl (omega (arith, z)))
          turned (inr o) (inr z) = out_of_order (inr (omega (arith, z, o.0, o.1))) (inr (omega (arith, z, o.0, o.1)))
      by_order false t = straight order there
        where
          straight : ((kf ≡ base) × (ks ≡ base + nf)) ⊎ ((ks ≡ base) × (kf ≡ base + ns)) → IsNext (nf + ns) base start → Chosen (with_blocks e (codes "ifTrue:ifFalse:") a b)
          straight (inl o) (inl z) = in_order (inl (omega (arith, z))) (inl (omega (arith, z)))
          straight (inl o) (inr z) = in_order (inr (omega (arith, z, o.0, o.1))) (inr (omega (arith, z, o.0, o.1)))
          straight (inr o) (inl z) = in_order (inl (omega (arith, z))) (inl (omega (arith, z)))
          straight (inr o) (inr z) =
              let kept : kf ≡ ks + ns = omega (arith, o.0, o.1) in
              let none = no_second nf ns kf ks la lb kept second.fits first.lowest second.lowest (not_more lb la t) in
              in_order (inr (omega (arith, z, o.0, o.1, none))) (inl none)

      with_one : (side : OneSided) (t : List ℕ) → passes_on side ≡ false → form_named t ≡ One side → alone b ≡ Some (other_side side) → Chosen (with_block e t a)
      with_one side t p form k =
          let none : ns ≡ 0 = sym second.counted ∙ (alone_is b (other_side side) (at 0) f.literals k).counted in
          one_chosen side t p form k (placed none order there) none
        where
          placed : ns ≡ 0 → ((kf ≡ base) × (ks ≡ base + nf)) ⊎ ((ks ≡ base) × (kf ≡ base + ns)) → IsNext (nf + ns) base start → IsNext nf kf start
          placed none (inl o) (inl z) = inl (omega (arith, z))
          placed none (inl o) (inr z) = inr (omega (arith, z, o.0))
          placed none (inr o) (inl z) = inl (omega (arith, z))
          placed none (inr o) (inr z) = inr (omega (arith, z, o.0, o.1, none))

      by_alone : (k : Option Constant) → alone b ≡ k → Chosen (sides_by (one_sided_by false k) e a la b lb)
      by_alone (Some Nil) h = with_one IfTrue (codes "ifTrue:") refl refl h
      by_alone (Some False) h = with_one And (codes "and:") refl refl h
      by_alone (Some True) h = by_order (nat_lt lb la) refl
      by_alone (Some Receiver) h = by_order (nat_lt lb la) refl
      by_alone (Some Active) h = by_order (nat_lt lb la) refl
      by_alone None h = by_order (nat_lt lb la) refl

      pub choice_is : Chosen (choice_tree false e a la b lb)
      choice_is = by_alone (alone b) refl
