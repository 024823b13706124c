-- Blocks have their code again: their arguments under other names, with the same numbers.
use Rattle.std.proofs.Common.{◌≡◌, ℕ, zero, suc, ◌+◌, Bool, false, List, [], ◌∷◌, ◌++◌, length, map, inl, inr, refl, sym, ap, ◌∙◌, subst, arith, append_assoc, append-nil}
use Rattle.st_scan.specs.Views.{NameView, ExpressionView, StatementsView, is_super}
use Rattle.st_scan.specs.Views as views
use Rattle.st_emit.specs.declared.instruction.InstructionOperand.{InstructionOperand}
use Rattle.st_emit.specs.declared.instruction.InstructionOperand.TheVariants.{Temporary}
use Rattle.st_emit.specs.Names.{NamesView, Scope, numbered}
use Rattle.st_emit.specs.Literals.{LiteralView, Named}
use Rattle.st_emit.specs.Nodes.{Node, Body, block}
use Rattle.st_emit.specs.Emitting.{pop_arguments}
use Rattle.st_emit.specs.Resolving.{Context, is_plain, count_node, expression_node, statements_body}
use Rattle.st_emit.proofs.Forms.{inside_is}
use Rattle.st_expression_stack.specs.Items.{no_arguments}
use Rattle.st_expression_stack.specs.Choosing.{called}
use Rattle.st_decompile.specs.Reading.{least_among}
use Rattle.st_decompile.specs.Back.{places_from, body_least}
use Rattle.st_decompile.specs.inside.Calling.{renamed, AreNames, least_in, IsNext}
use Rattle.st_decompile.proofs.Same.{Same, same, same_block}
use Rattle.st_decompile.proofs.Renamed.{renamed-append}
use Rattle.st_decompile.proofs.Backs.{Back, BodyBack, at_next, again_at, body_back}

-- places in their order
abbrev pub places_up : (first n : ℕ) → List InstructionOperand
places_up first zero = []
places_up first (suc n) = Temporary first ∷ places_up (first + 1) n

up_more : (first n : ℕ) → places_up first (suc n) ≡ places_up first n ++ Temporary (first + n) ∷ []
up_more first zero = let same : first ≡ first + 0 = omega arith in ap (λ (k : ℕ). Temporary k ∷ []) same
up_more first (suc n) =
    let same : first + 1 + n ≡ first + suc n = omega arith in
    ap (λ (l : List InstructionOperand). Temporary first ∷ l) (up_more (first + 1) n) ∙ ap (λ (k : ℕ). Temporary first ∷ (places_up (first + 1) n ++ Temporary k ∷ [])) same

from_up : (first n : ℕ) (ps : List InstructionOperand) → places_from first n ps ≡ places_up first n ++ ps
from_up first zero ps = refl
from_up first (suc n) ps =
    from_up first n (Temporary (first + n) ∷ ps) ∙ sym (append_assoc (places_up first n) (Temporary (first + n) ∷ []) ps) ∙ ap (λ (l : List InstructionOperand). l ++ ps) (sym (up_more first n))

pops_again : (first other n : ℕ) → IsNext n first other → pop_arguments other n ≡ pop_arguments first n
pops_again first other zero h = refl
pops_again first other (suc n) (inl e) = absurd (omega (arith, e))
pops_again first other (suc n) (inr e) = ap (λ (k : ℕ). pop_arguments k (suc n)) e

module _ (name_of : InstructionOperand → List ℕ) (names : NamesView) (literals : List LiteralView) (are : AreNames name_of names literals) where
  abbrev pub named' : InstructionOperand → NameView
  named' p = called (name_of p)

  abbrev pub names_of : ℕ → ℕ → List NameView
  names_of first n = map named' (places_from first n [])

  pub names_up : (first n : ℕ) → names_of first n ≡ map named' (places_up first n)
  names_up first n = ap (map named') (from_up first n [] ∙ append-nil (places_up first n))

  up_length : (first n : ℕ) → length (map named' (places_up first n)) ≡ n
  up_length first zero = refl
  up_length first (suc n) = omega (arith, up_length (first + 1) n)

  pub names_length : (first n : ℕ) → length (names_of first n) ≡ n
  names_length first n = ap (λ (l : List NameView). length l) (names_up first n) ∙ up_length first n

  up_numbered : (a : Bool) (first : ℕ) (ns : List NameView) → numbered a first (map named' (places_up first (length ns))) ≡ renamed name_of (numbered a first ns)
  up_numbered a first [] = refl
  up_numbered a first (x ∷ xs) = ap (λ (s : Scope). record { text = name_of (Temporary first); number = first; assignable = a } ∷ s) (up_numbered a (first + 1) xs)

  pub names_numbered : (a : Bool) (first : ℕ) (ns : List NameView) → numbered a first (names_of first (length ns)) ≡ renamed name_of (numbered a first ns)
  names_numbered a first ns = ap (numbered a first) (names_up first (length ns)) ∙ up_numbered a first ns

  scope_again : (ns : List NameView) (s : Scope) (next other : ℕ) → IsNext (length ns) next other → renamed name_of (s ++ numbered false next ns) ≡ renamed name_of s ++ numbered false other (names_of next (length ns))
  scope_again [] s next other h = renamed-append name_of names literals are s []
  scope_again (x ∷ xs) s next other (inl e) = absurd (omega (arith, e))
  scope_again (x ∷ xs) s next other (inr e) =
      renamed-append name_of names literals are s (numbered false next (x ∷ xs))
      ∙ ap (λ (l : Scope). renamed name_of s ++ l) (sym (up_numbered false next (x ∷ xs)))
      ∙ ap (λ (l : List NameView). renamed name_of s ++ numbered false next l) (sym (names_up next (length (x ∷ xs))))
      ∙ ap (λ (k : ℕ). renamed name_of s ++ numbered false k (names_of next (length (x ∷ xs)))) (sym e)

  plain_again : (ns : List NameView) (next : ℕ) (a b : StatementsView) → is_plain (views.block (names_of next (length ns)) a) ≡ is_plain (views.block ns b)
  plain_again [] next a b = refl
  plain_again (x ∷ xs) next a b = ap (λ (l : List NameView). is_plain (views.block l a)) (names_up next (length (x ∷ xs)))

  least_first : (ns : List NameView) (next l : ℕ) → least_among (places_from next (length ns) []) l ≡ least_among (places_up next (length ns)) l
  least_first ns next l = ap (λ (ps : List InstructionOperand). least_among ps l) (from_up next (length ns) [] ∙ append-nil (places_up next (length ns)))

  least_block : (ns : List NameView) (next count l : ℕ) → l ≡ least_in count (next + length ns) → least_among (places_up next (length ns)) l ≡ least_in (length ns + count) next
  least_block [] next count l h = let a : next + 0 ≡ next = omega arith in let b : 0 + count ≡ count = omega arith in h ∙ ap (least_in count) a ∙ ap (λ (k : ℕ). least_in k next) (sym b)
  least_block (x ∷ xs) next count l h = let b : length (x ∷ xs) + count ≡ suc (length xs + count) = omega arith in ap (λ (k : ℕ). least_in k next) (sym b)

  -- BLOCKS

  abbrev block_named : (first count : ℕ) → Context → StatementsView → List LiteralView → Named Node
  block_named first count c body acc = let k = count_node count acc in let b = statements_body body c k.literals in record { part = block first count k.part b.part; literals = b.literals }

  module _ (ns : List NameView) (body : StatementsView) (s : Scope) (next other : ℕ) (acc : List LiteralView) where
    abbrev pub inner : Scope
    inner = s ++ numbered false next ns

    abbrev pub behind_names : ℕ → ℕ
    behind_names k = k + length ns

    abbrev pub counted_at : List LiteralView
    counted_at = (count_node (length ns) acc).literals

    abbrev body_was : Named Body
    body_was = statements_body body (at_next name_of names literals inner (next + length ns)) counted_at

    pub was_is : expression_node (views.block ns body) (at_next name_of names literals s next) acc ≡ block_named next (length ns) (at_next name_of names literals inner (next + length ns)) body acc
    was_is = ap (λ (c : Context). block_named next (length ns) c body acc) (sym (inside_is (at_next name_of names literals s next) ns inner (length ns) (next + length ns) refl refl refl))

    abbrev tree : StatementsView
    tree = body_back name_of names literals body_was.part

    abbrev ns' : List NameView
    ns' = names_of next (length ns)

    now_is : IsNext (length ns) next other → expression_node (views.block ns' tree) (again_at name_of names literals s other) acc ≡ block_named other (length ns) (again_at name_of names literals inner (other + length ns)) tree acc
    now_is h =
        let long = names_length next (length ns) in
        ap (λ (c : Context). block_named other (length ns') c tree acc)
        (sym (inside_is (again_at name_of names literals s other) ns' (renamed name_of inner) (length ns) (other + length ns) (scope_again ns s next other h) (sym long) refl))
        ∙ ap (λ (k : ℕ). block_named other k (again_at name_of names literals inner (other + length ns)) tree acc) long

    pub block_back : (count : ℕ) → IsNext (length ns + count) next other → BodyBack name_of names literals body_was count (next + length ns) (again_at name_of names literals inner (other + length ns)) counted_at
        → Back name_of names literals (expression_node (views.block ns body) (at_next name_of names literals s next) acc) (length ns + count) next (is_plain (views.block ns body)) (again_at name_of names literals s other) acc
    block_back count h b =
        let few : IsNext (length ns) next other = few_of h in
        let now = now_is few in
        let k = count_node (length ns) acc in
        let again = statements_body tree (again_at name_of names literals inner (other + length ns)) k.literals in
        subst (λ (w : Named Node). Back name_of names literals w (length ns + count) next (is_plain (views.block ns body)) (again_at name_of names literals s other) acc) (sym was_is)
        (record {
          same = subst (λ (n : Named Node). Same n.part (block next (length ns) k.part body_was.part)) (sym now)
              (same_block other next (length ns) k.part k.part again.part body_was.part (pops_again next other (length ns) few) (same k.part) b.same);
          ends = ap (λ (n : Named Node). n.literals) now ∙ b.ends;
          counted = omega (arith, names_length next (length ns), b.counted);
          block = plain_again ns next tree body;
          no_super = refl;
          lowest = least_first ns next (body_least body_was.part no_arguments) ∙ least_block ns next count (body_least body_was.part no_arguments) b.lowest;
        })
      where
        few_of : IsNext (length ns + count) next other → IsNext (length ns) next other
        few_of (inl e) = inl (omega (arith, e))
        few_of (inr e) = inr e
