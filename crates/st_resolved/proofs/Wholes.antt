-- What the nodes and instructions of a method without faults are.
use Rattle.std.proofs.Common.{◌≡◌, ℕ, ◌+◌, ◌<◌, ◌≤◌, Bool, true, false, not, ◌&&◌, ◌*◌, List, [], ◌∷◌, ◌++◌, length, Option, None, refl, sym, ap, ap₂, ◌∙◌, subst, arith}
use Rattle.std.proofs.lemmas.Bool.Decides.{nat_tests}
use Rattle.std.specs.Prelude.{nat_lt}
use Rattle.st_scan.specs.Views.{NameView, MethodView}
use Rattle.st_emit.specs.Bounds.{most_literals, most_variables, large_room, most_bytes}
use Rattle.st_emit.specs.Names.{NamesView, Scope, numbered, declared, or_else}
use Rattle.st_emit.specs.Steps.{size, all_reach}
use Rattle.st_code.specs.declared.fault.Fault.{Fault}
use Rattle.st_code.specs.declared.fault.Cause.{Cause}
use Rattle.st_code.specs.declared.fault.Cause.TheVariants.{Literals, Temporaries, Depth, Jump, Size}
use Rattle.st_code.specs.Faults.{declare_fault, statements_fault, method_fault}
use Rattle.st_code.specs.Methods.{scope_from, own_variables, variables, body, steps, depth, literals, last_literals, passes, fault_if, symbols_fault, primitive_fault, bounds_fault, whole_fault, fault}
use Rattle.st_resolved.specs.inside.Right.{RightStatements}
use Rattle.st_resolved.specs.inside.Placed.{BodyPlaced}
use Rattle.st_resolved.specs.inside.Seen.{range, AllBelow, numbers, unnumbered, assigns, IsScope, BodySeen}
use Rattle.st_resolved.specs.Instructions.{AllFit}
use Rattle.st_resolved.proofs.Placing.{statements_put}
use Rattle.st_resolved.proofs.Unnumbered.{or_none, unnumbered-append, unnumbered-any}
use Rattle.st_resolved.proofs.Seen.{numbers-append, numbers-range, below_more, below_both, below_range, scope_more, statements_seen}
use Rattle.st_resolved.proofs.Fitting.{all_fit, method_held}

pub not_more : (m n : ℕ) → nat_lt m n ≡ false → n ≤ m
not_more m n e = grind (arith, nat_tests)

no_fault_if : (b : Bool) (x : Cause) → fault_if b x ≡ None → b ≡ false
no_fault_if true x e = absurd cc
no_fault_if false x e = refl

is_not : (b : Bool) → not b ≡ false → b ≡ true
is_not true e = refl
is_not false e = absurd cc

-- SCOPES

module _ (from to : ℕ) where
  early_scope : (ns : List NameView) (k : ℕ) → k + length ns ≤ from → IsScope from to (numbered false k ns)
  early_scope [] k h = tt
  early_scope (x ∷ ns) k h = (sym early, early_scope ns (k + 1) (omega (arith, h)))
    where
      early : assigns from to k ≡ false
      early = let low : k < from = omega (arith, h) in let e : nat_lt k from ≡ true = grind (arith, nat_tests, low) in ap (λ (b : Bool). not b && nat_lt k to) e

  middle_scope : (ns : List NameView) (k : ℕ) → from ≤ k → k + length ns ≤ to → IsScope from to (numbered true k ns)
  middle_scope [] k l h = tt
  middle_scope (x ∷ ns) k l h = (sym middle, middle_scope ns (k + 1) (omega (arith, l)) (omega (arith, h)))
    where
      middle : assigns from to k ≡ true
      middle =
          let low : k < to = omega (arith, h) in
          let e : nat_lt k from ≡ false = grind (arith, nat_tests, l) in
          let g : nat_lt k to ≡ true = grind (arith, nat_tests, low) in
          ap₂ (λ (a b : Bool). not a && b) e g

module _ (names : NamesView) (tree : MethodView) (sound : fault tree names ≡ None) where
  -- BOUNDS

  abbrev literals_fault : Option Fault
  literals_fault = fault_if (nat_lt most_literals (length (literals tree names))) Literals

  abbrev variables_fault : Option Fault
  variables_fault = fault_if (nat_lt most_variables (variables tree names)) Temporaries

  abbrev depth_fault : Option Fault
  depth_fault = fault_if (passes large_room (variables tree names) (depth tree names)) Depth

  abbrev jump_fault : Option Fault
  jump_fault = fault_if (not (all_reach (steps tree names))) Jump

  abbrev size_fault : Option Fault
  size_fault = fault_if (nat_lt most_bytes (length (literals tree names) * 2 + 2 + size (steps tree names))) Size

  bounds : bounds_fault (length (literals tree names)) (variables tree names) (depth tree names) (steps tree names) ≡ None
  bounds =
      let whole = (or_none (method_fault names tree) (whole_fault tree names) sound).1 in
      let behind = (or_none (symbols_fault names.symbols) _ whole).1 in
      (or_none (primitive_fault tree.primitive) _ behind).1

  behind_literals : or_else variables_fault (or_else depth_fault (or_else jump_fault size_fault)) ≡ None
  behind_literals = (or_none literals_fault (or_else variables_fault (or_else depth_fault (or_else jump_fault size_fault))) bounds).1

  behind_variables : or_else depth_fault (or_else jump_fault size_fault) ≡ None
  behind_variables = (or_none variables_fault (or_else depth_fault (or_else jump_fault size_fault)) behind_literals).1

  behind_depth : or_else jump_fault size_fault ≡ None
  behind_depth = (or_none depth_fault (or_else jump_fault size_fault) behind_variables).1

  pub few_literals : length (literals tree names) ≤ 63
  few_literals =
      let none = (or_none literals_fault (or_else variables_fault (or_else depth_fault (or_else jump_fault size_fault))) bounds).0 in
      not_more most_literals (length (literals tree names)) (no_fault_if (nat_lt most_literals (length (literals tree names))) Literals none)

  pub few_variables : variables tree names ≤ 31
  few_variables =
      let none = (or_none variables_fault (or_else depth_fault (or_else jump_fault size_fault)) behind_literals).0 in
      not_more most_variables (variables tree names) (no_fault_if (nat_lt most_variables (variables tree names)) Temporaries none)

  pub few_words : passes large_room (variables tree names) (depth tree names) ≡ false
  few_words = no_fault_if (passes large_room (variables tree names) (depth tree names)) Depth (or_none depth_fault (or_else jump_fault size_fault) behind_variables).0

  pub they_reach : all_reach (steps tree names) ≡ true
  they_reach = is_not (all_reach (steps tree names)) (no_fault_if (not (all_reach (steps tree names))) Jump (or_none jump_fault size_fault behind_depth).0)

  pub few_bytes : length (literals tree names) * 2 + 2 + size (steps tree names) ≤ 131066
  few_bytes =
      let sizes = length (literals tree names) * 2 + 2 + size (steps tree names) in
      not_more most_bytes sizes (no_fault_if (nat_lt most_bytes sizes) Size (or_none jump_fault size_fault behind_depth).1)

  -- WHAT IS DECLARED

  abbrev from : ℕ
  from = length tree.arguments

  abbrev to : ℕ
  to = own_variables tree names

  abbrev scope : Scope
  scope = scope_from (length tree.arguments) tree

  pub body_fault : statements_fault names tree.body (declared true 0 tree.temporaries (declared false 0 tree.arguments [])) ≡ None
  body_fault =
      let names_clean = (or_none (method_fault names tree) (whole_fault tree names) sound).0 in
      let behind = (or_none (declare_fault 0 tree.arguments []) _ names_clean).1 in
      (or_none (declare_fault 0 tree.temporaries (declared false 0 tree.arguments [])) _ behind).1

  pub same_scopes : unnumbered (declared true 0 tree.temporaries (declared false 0 tree.arguments [])) ≡ unnumbered scope
  same_scopes =
      unnumbered-append (numbered false 0 tree.arguments) (numbered true 0 tree.temporaries)
      ∙ ap (λ (s : Scope). unnumbered (numbered false 0 tree.arguments) ++ s) (unnumbered-any true tree.temporaries 0 (length tree.arguments))
      ∙ sym (unnumbered-append (numbered false 0 tree.arguments) (numbered true (length tree.arguments) tree.temporaries))

  pub is_scope : IsScope from to scope
  is_scope = scope_more from to (numbered false 0 tree.arguments) (numbered true from tree.temporaries) (early_scope from to tree.arguments 0 (omega arith)) (middle_scope from to tree.temporaries from (omega arith) (omega arith))

  pub scope_numbers : numbers scope ≡ range 0 from ++ range from (length tree.temporaries)
  scope_numbers = numbers-append (numbered false 0 tree.arguments) (numbered true from tree.temporaries) ∙ ap₂ (λ (a b : List ℕ). a ++ b) (numbers-range false 0 tree.arguments) (numbers-range true from tree.temporaries)

  first_below : AllBelow from (range 0 from)
  first_below = let same : 0 + from ≡ from = omega arith in subst (λ (k : ℕ). AllBelow k (range 0 from)) same (below_range 0 from)

  pub all_below : AllBelow to (numbers scope)
  all_below = subst (λ (l : List ℕ). AllBelow to l) (sym scope_numbers) (below_both to (range 0 from) (range from (length tree.temporaries)) (below_more from to (range 0 from) (omega arith) first_below) (below_range from (length tree.temporaries)))

  -- NODES AND INSTRUCTIONS

  pub seen : BodySeen from to names (literals tree names) (numbers scope) (body tree names).part
  seen =
      (statements_seen from to names (literals tree names) tree.body (declared true 0 tree.temporaries (declared false 0 tree.arguments [])) scope to
      (record { alike = same_scopes; scope = is_scope; below = all_below; late = omega arith })
      (omega (arith, few_variables))
      body_fault).by [] (record { more = last_literals tree names; is = refl })

  pub placed : RightStatements tree.body → BodyPlaced (literals tree names) (body tree names).part
  placed right = (statements_put (literals tree names) tree.body _ right).by [] (record { more = last_literals tree names; is = refl })

  pub fit : RightStatements tree.body → AllFit (steps tree names)
  fit right =
      all_fit (steps tree names)
      (method_held from to names (literals tree names) few_literals (body tree names).part (numbers scope) (below_more to 64 (numbers scope) (omega (arith, few_variables)) all_below) (placed right) seen)
      they_reach
