-- The statements of a method have their code again.
use Rattle.std.proofs.Common.{◌≡◌, ℕ, ◌+◌, ◌≤◌, min, Bool, true, false, List, [], ◌∷◌, ◌++◌, None, inr, refl, sym, ap, ap₂, ◌∙◌, subst, arith}
use Rattle.std.proofs.lemmas.Slice.Eq.{bytes_eq-Decides}
use Rattle.std.specs.Prelude.{if◌then◌else◌, codes}
use Rattle.st_scan.specs.Views.{ExpressionView, StatementsView, no_statements, statement}
use Rattle.st_scan.specs.Views as views
use Rattle.st_emit.specs.declared.instruction.Constant.TheVariants.{Receiver}
use Rattle.st_emit.specs.declared.instruction.InstructionOperand.{InstructionOperand}
use Rattle.st_emit.specs.declared.instruction.Instruction.{Instruction}
use Rattle.st_emit.specs.declared.instruction.Instruction.TheVariants.{ReturnConstant}
use Rattle.st_emit.specs.declared.level.Level.{Level}
use Rattle.st_emit.specs.Names.{NamesView, Scope, constant_named}
use Rattle.st_emit.specs.Literals.{LiteralView, Named}
use Rattle.st_emit.specs.Nodes.{Node, Body, constant, nothing, last, next as following, returned}
use Rattle.st_emit.specs.Emitting.{for_effect, code_of, method_code}
use Rattle.st_emit.specs.Depths.{level_of, method_level}
use Rattle.st_emit.specs.Resolving.{Context, behind, before, names_in, names_in_statements, constant_or, place_of_name, expression_node, statements_body, is_plain}
use Rattle.st_code.specs.Faults.{expression_fault, statements_fault}
use Rattle.st_resolved.proofs.Grows.{Extends, extends_on, statements_grow}
use Rattle.st_resolved.specs.inside.Seen.{unnumbered}
use Rattle.st_resolved.proofs.Unnumbered.{or_none}
use Rattle.st_expression_stack.specs.Items.{no_arguments}
use Rattle.st_decompile.specs.Back.{tree_of, method_tree, method_least, is_self, without_self, least}
use Rattle.st_decompile.specs.inside.Calling.{AreNames, least_in}
use Rattle.st_decompile.proofs.Same.{Same, before_next}
use Rattle.st_decompile.proofs.Backs.{Back, at_next, again_at, least_both}
use Rattle.st_decompile.proofs.Trees.{expression_is, top_least, last_least, some_body}

pub record SameMethod (x y : Body) : Type 0 where
  pub code : method_code x ≡ method_code y
  pub greatest : (l : Level) → (method_level x l).greatest ≡ (method_level y l).greatest
  pub blocks : (l : Level) → (method_level x l).blocks ≡ (method_level y l).blocks

-- a statement before others, if there are any
before_code : (n : Node) (b : Body) → method_code (before n b) ≡ code_of for_effect n ++ method_code b
before_code n nothing = refl
before_code n (last m) = refl
before_code n (following m b) = refl
before_code n (returned m) = refl

before_level : (n : Node) (b : Body) (l : Level) → method_level (before n b) l ≡ method_level b (level_of for_effect n l)
before_level n nothing l = refl
before_level n (last m) l = refl
before_level n (following m b) l = refl
before_level n (returned m) l = refl

same_before : (x y : Node) (a b : Body) → Same x y → SameMethod a b → SameMethod (before x a) (before y b)
same_before x y a b s h = record {
  code = before_code x a ∙ ap₂ (λ (c d : List Instruction). c ++ d) (s.code for_effect) h.code ∙ sym (before_code y b);
  greatest = λ l. ap (λ (v : Level). v.greatest) (before_level x a l ∙ ap (method_level a) (s.level for_effect l)) ∙ h.greatest (level_of for_effect y l) ∙ sym (ap (λ (v : Level). v.greatest) (before_level y b l));
  blocks = λ l. ap (λ (v : Level). v.blocks) (before_level x a l ∙ ap (method_level a) (s.level for_effect l)) ∙ h.blocks (level_of for_effect y l) ∙ sym (ap (λ (v : Level). v.blocks) (before_level y b l));
}

same_last : (x y : Node) → Same x y → SameMethod (last x) (last y)
same_last x y s = record {
  code = ap (λ (c : List Instruction). c ++ ReturnConstant Receiver ∷ []) (s.code for_effect);
  greatest = λ l. ap (λ (v : Level). v.greatest) (s.level for_effect l);
  blocks = λ l. ap (λ (v : Level). v.blocks) (s.level for_effect l);
}

same_returned : (x y : Node) → Same x y → SameMethod (returned x) (returned y)
same_returned x y s = record { code = s.back; greatest = λ l. ap (λ (v : Level). v.greatest) (s.back_level l); blocks = λ l. ap (λ (v : Level). v.blocks) (s.back_level l) }

same_self : (y : Node) → Same (constant Receiver) y → SameMethod nothing (returned y)
same_self y s = record { code = s.back; greatest = λ l. ap (λ (v : Level). v.greatest) (s.back_level l); blocks = λ l. ap (λ (v : Level). v.blocks) (s.back_level l) }

-- self
record IsReceiver (e : ExpressionView) (c : Context) (acc : List LiteralView) : Type 0 where
  node : expression_node e c acc ≡ record { part = constant Receiver; literals = acc }
  counted : names_in e ≡ 0

self_is : (e : ExpressionView) (c : Context) (acc : List LiteralView) → is_self e ≡ true → IsReceiver e c acc
self_is (views.variable n) c acc h =
    let text : n.text ≡ codes "self" = (bytes_eq-Decides n.text (codes "self")).0 h in
    record { node = ap (λ (x : List ℕ). constant_or (constant_named x) (place_of_name c n) acc) text; counted = refl }
self_is (views.literal e) c acc h = absurd cc
self_is (views.block ns b) c acc h = absurd cc
self_is (views.assign t e) c acc h = absurd cc
self_is (views.send r ms) c acc h = absurd cc

module _ (name_of : InstructionOperand → List ℕ) (names : NamesView) (literals : List LiteralView) (are : AreNames name_of names literals) where
  abbrev ctx : Scope → ℕ → Context
  ctx s n = at_next name_of names literals s n

  abbrev ctx' : Scope → ℕ → Context
  ctx' s n = again_at name_of names literals s n

  abbrev pub method_back : Body → StatementsView
  method_back b = without_self (method_tree name_of b no_statements)

  pub record MethodBack (was : Named Body) (count next : ℕ) (c : Context) (acc : List LiteralView) : Type 0 where
    pub same : SameMethod (statements_body (method_back was.part) c acc).part was.part
    pub ends : (statements_body (method_back was.part) c acc).literals ≡ was.literals
    pub counted : names_in_statements (method_back was.part) ≡ count
    pub lowest : method_least was.part no_arguments ≡ least_in count next

  abbrev returned_named : Named Node → Named Body
  returned_named n = record { part = returned n.part; literals = n.literals }

  returned_case : (n : Named Node) (count next : ℕ) (plain : Bool) (c : Context) (acc : List LiteralView) → next + count ≤ 64 → Back name_of names literals n count next plain c acc → MethodBack (returned_named n) count next c acc
  returned_case n count next plain c acc fits b = by_self (is_self (tree_of name_of n.part)) refl
    where
      low : min (least n.part) 64 ≡ least_in count next
      low = ap (λ (k : ℕ). min k 64) b.lowest ∙ top_least name_of names literals are count next fits

      by_self : (t : Bool) → is_self (tree_of name_of n.part) ≡ t → MethodBack (returned_named n) count next c acc
      by_self true e =
          let i = self_is (tree_of name_of n.part) c acc e in
          let tree : method_back (returned n.part) ≡ no_statements = ap (λ (t : Bool). if t then no_statements else statement true (tree_of name_of n.part) no_statements) e in
          let x : Same (constant Receiver) n.part = subst (λ (m : Named Node). Same m.part n.part) i.node b.same in
          record {
            same = subst (λ (ss : StatementsView). SameMethod (statements_body ss c acc).part (returned n.part)) (sym tree) (same_self n.part x);
            ends = ap (λ (ss : StatementsView). (statements_body ss c acc).literals) tree ∙ sym (ap (λ (m : Named Node). m.literals) i.node) ∙ b.ends;
            counted = ap (λ (ss : StatementsView). names_in_statements ss) tree ∙ sym i.counted ∙ b.counted;
            lowest = low;
          }
      by_self false e =
          let tree : method_back (returned n.part) ≡ statement true (tree_of name_of n.part) no_statements = ap (λ (t : Bool). if t then no_statements else statement true (tree_of name_of n.part) no_statements) e in
          record {
            same = subst (λ (ss : StatementsView). SameMethod (statements_body ss c acc).part (returned n.part)) (sym tree) (same_returned _ n.part b.same);
            ends = ap (λ (ss : StatementsView). (statements_body ss c acc).literals) tree ∙ b.ends;
            counted = ap (λ (ss : StatementsView). names_in_statements ss) tree ∙ b.counted;
            lowest = low;
          }

  last_case : (n : Named Node) (count next : ℕ) (plain : Bool) (c : Context) (acc : List LiteralView) → next + (count + 0) ≤ 64 → Back name_of names literals n count next plain c acc
      → MethodBack (record { part = last n.part; literals = n.literals }) (count + 0) next c acc
  last_case n count next plain c acc fits b =
      record { same = same_last _ n.part b.same; ends = b.ends; counted = omega (arith, b.counted); lowest = last_least name_of names literals are _ count next fits b.lowest }

  next_case : (n : Named Node) (b : Named Body) (na nb next : ℕ) (plain : Bool) (s : Scope) (acc : List LiteralView) → next + (na + nb) ≤ 64 → before n.part b.part ≡ following n.part b.part
      → Back name_of names literals n na next plain (ctx' s next) acc → MethodBack b nb (next + na) (ctx' s (next + na)) n.literals
      → MethodBack (record { part = before n.part b.part; literals = b.literals }) (na + nb) next (ctx' s next) acc
  next_case n b na nb next plain s acc fits same_part x y =
      let t = tree_of name_of n.part in
      let ss = method_back b.part in
      let now_n = expression_node t (ctx' s next) acc in
      let now_b = statements_body ss (ctx' s (next + na)) now_n.literals in
      let there : behind (ctx' s next) (names_in t) ≡ ctx' s (next + na) = ap (λ (k : ℕ). ctx' s (next + k)) x.counted in
      let now : statements_body (statement false t ss) (ctx' s next) acc ≡ record { part = before now_n.part now_b.part; literals = now_b.literals } =
      ap (λ (d : Context). let m = statements_body ss d now_n.literals in record { part = before now_n.part m.part; literals = m.literals }) there in
      let same_b : SameMethod now_b.part b.part = subst (λ (ls : List LiteralView). SameMethod (statements_body ss (ctx' s (next + na)) ls).part b.part) (sym x.ends) y.same in
      let ends_b : now_b.literals ≡ b.literals = ap (λ (ls : List LiteralView). (statements_body ss (ctx' s (next + na)) ls).literals) x.ends ∙ y.ends in
      let whole : SameMethod (before now_n.part now_b.part) (following n.part b.part) = subst (λ (z : Body). SameMethod (before now_n.part now_b.part) z) same_part (same_before now_n.part n.part now_b.part b.part x.same same_b) in
      subst (λ (z : Body). MethodBack (record { part = z; literals = b.literals }) (na + nb) next (ctx' s next) acc) (sym same_part)
      (record {
        same = subst (λ (m : Named Body). SameMethod m.part (following n.part b.part)) (sym now) whole;
        ends = ap (λ (m : Named Body). m.literals) now ∙ ends_b;
        counted = omega (arith, x.counted, y.counted);
        lowest = ap₂ (λ (i j : ℕ). min i j) x.lowest y.lowest ∙ least_both name_of names literals na nb next fits;
      })

  pub method_is : (ss : StatementsView) (f s : Scope) (next : ℕ) (acc : List LiteralView) → unnumbered f ≡ unnumbered s → statements_fault names ss f ≡ None → next + names_in_statements ss ≤ 64
      → Extends (statements_body ss (ctx s next) acc).literals literals → MethodBack (statements_body ss (ctx s next) acc) (names_in_statements ss) next (ctx' s next) acc
  method_is views.no_statements f s next acc u h fits more = record { same = record { code = refl; greatest = λ l. refl; blocks = λ l. refl }; ends = refl; counted = refl; lowest = refl }
  method_is (views.statement true e ss) f s next acc u h fits more =
      returned_case (expression_node e (ctx s next) acc) (names_in e) next (is_plain e) (ctx' s next) acc fits
      (expression_is name_of names literals are e f s next next acc u (or_none (expression_fault names e f) (statements_fault names ss f) h).0 (record { there = inr refl; fits = fits; more = more }))
  method_is (views.statement false e views.no_statements) f s next acc u h fits more =
      last_case (expression_node e (ctx s next) acc) (names_in e) next (is_plain e) (ctx' s next) acc fits
      (expression_is name_of names literals are e f s next next acc u (or_none (expression_fault names e f) None h).0 (record { there = inr refl; fits = omega (arith, fits); more = more }))
  method_is (views.statement false e (views.statement r e' ss)) f s next acc u h fits more =
      let rest = views.statement r e' ss in
      let na = names_in e in
      let x = expression_node e (ctx s next) acc in
      let b = statements_body rest (ctx s (next + na)) x.literals in
      let hs = or_none (expression_fault names e f) (statements_fault names rest f) h in
      let more_x : Extends x.literals literals = extends_on x.literals b.literals literals ((statements_grow rest (ctx s (next + na))).by x.literals) more in
      next_case x b na (names_in_statements rest) next (is_plain e) s acc fits (before_next x.part b.part (some_body r e' ss (ctx s (next + na)) x.literals))
      (expression_is name_of names literals are e f s next next acc u hs.0 (record { there = inr refl; fits = omega (arith, fits); more = more_x }))
      (method_is (views.statement r e' ss) f s (next + na) x.literals u hs.1 (omega (arith, fits)) more)
