-- The tree that is read has no fault of names.
use Rattle.std.proofs.Common.{◌≡◌, ℕ, zero, suc, ◌+◌, ◌≤◌, Bool, true, false, not, ◌&&◌, cond, List, [], ◌∷◌, ◌++◌, Option, Some, None, map, inl, inr, refl, sym, ap, ap₂, ◌∙◌, arith, append-nil, append_assoc}
use Rattle.std.proofs.lemmas.Bool.Decides.{nat_tests}
use Rattle.std.proofs.lemmas.Slice.Eq.{bytes_eq-Decides}
use Rattle.std.specs.Prelude.{if◌then◌else◌, nat_lt, is_some, bytes_eq, option_map, codes}
use Rattle.st_scan.specs.declared.token.Signed.{Signed}
use Rattle.st_scan.specs.Views.{NameView, ContentView, ElementsView, ExpressionView, StatementsView, MessagesView, ExpressionsView, no_statements, statement, no_expressions}
use Rattle.st_scan.specs.Views as views
use Rattle.st_emit.specs.declared.instruction.Constant.{Constant}
use Rattle.st_emit.specs.declared.instruction.Constant.TheVariants.{Receiver, True, False, Nil, Context as Active}
use Rattle.st_emit.specs.declared.instruction.InstructionOperand.{InstructionOperand}
use Rattle.st_emit.specs.declared.instruction.InstructionOperand.TheVariants.{Field, Temporary, Literal, Shared}
use Rattle.st_emit.specs.declared.form.TwoSided.TheVariants.{TrueFirst, FalseFirst}
use Rattle.st_emit.specs.Names.{NamesView, Scope, Declared, Variable, temporary, field, shared, constant_named, declared_as, field_named, shared_named, variable_named, own_variable, or_else, numbered, declared}
use Rattle.st_emit.specs.Literals.{LiteralView, literal_of, members_of}
use Rattle.st_emit.specs.Nodes as nodes
use Rattle.st_emit.specs.Nodes.{Sending, Node, Body, Messages, Nodes}
use Rattle.st_emit.specs.Emitting.{passes_on, other_side, leaves_on}
use Rattle.st_code.specs.declared.fault.Fault.{Fault}
use Rattle.st_code.specs.declared.fault.Cause.TheVariants.{Unknown, Store, Twice, Number}
use Rattle.st_code.specs.Faults.{fault_at, read_fault, store_fault, stored_fault, twice_fault, expression_fault, statements_fault, messages_fault, expressions_fault, declare_fault, content_fault, elements_fault, is_too_low}
use Rattle.st_resolved.specs.inside.Seen.{unnumbered, In, range, AllBelow, assigns, SeenPlace, StoredPlace, Fresh, Seen, BodySeen, MessagesSeen, NodesSeen, IsWritten}
use Rattle.st_resolved.proofs.Unnumbered.{read_unnumbered, stored_unnumbered, unnumbered_as, unnumbered-append, or_none}
use Rattle.st_resolved.proofs.Seen.{below_both, below_more}
use Rattle.st_expression_stack.specs.Items.{no_arguments}
use Rattle.st_expression_stack.specs.Choosing.{called, content_of, elements_of, constant_text, constant_tree, received, alone, one_sided_by, sides_by, choice_tree, loop_selector, with_block, with_blocks}
use Rattle.st_decompile.specs.Back.{tree_of, body_tree, nodes_tree, messages_list, body_least, places_from, method_tree, without_self, is_self}
use Rattle.st_decompile.specs.inside.Calling.{AreNames, IsOutside}
use Rattle.st_decompile.proofs.Blocks.{places_up, names_up}

pub or_both : (a b : Option Fault) → a ≡ None → b ≡ None → or_else a b ≡ None
or_both a b h k = ap (λ (o : Option Fault). or_else o b) h ∙ k

some_or : (o : Option Variable) (v : Variable) → is_some (or_else o (Some v)) ≡ true
some_or None v = refl
some_or (Some w) v = refl

-- a literal of a text without fault has none where it stands again
number_clean : (b : Bool) (place : ℕ) (n : Signed) → (if b then fault_at place Number else None) ≡ None → (if b then fault_at 0 Number else None) ≡ None
number_clean true place n h = absurd cc
number_clean false place n h = refl

mutual
  content_clean : (what : ContentView) (place : ℕ) → content_fault place what ≡ None → content_fault 0 (content_of (literal_of what)) ≡ None
  content_clean (views.number n) place h = number_clean (is_too_low n) place n h
  content_clean (views.character b) place h = refl
  content_clean (views.bytes t) place h = refl
  content_clean (views.symbol t) place h = refl
  content_clean (views.array es) place h = elements_clean es h
  content_clean views.nil_object place h = refl
  content_clean views.false_object place h = refl
  content_clean views.true_object place h = refl

  elements_clean : (es : ElementsView) → elements_fault es ≡ None → elements_fault (elements_of (members_of es)) ≡ None
  elements_clean views.no_elements h = refl
  elements_clean (views.element place what es) h =
      let hs = or_none (content_fault place what) (elements_fault es) h in
      ap (λ (o : Option Fault). or_else o (elements_fault (elements_of (members_of es)))) (content_clean what place hs.0) ∙ elements_clean es hs.1

literal_clean : (l : LiteralView) → IsWritten l → content_fault 0 (content_of l) ≡ None
literal_clean l w = ap (λ (x : LiteralView). content_fault 0 (content_of x)) (sym w.is) ∙ content_clean w.what w.place w.right

module _ (from to : ℕ) (name_of : InstructionOperand → List ℕ) (names : NamesView) (final : List LiteralView) (are : AreNames name_of names final) where
  abbrev own_declared : ℕ → Declared
  own_declared k = record { text = name_of (Temporary k); number = 0; assignable = assigns from to k }

  abbrev pub own_scope : List ℕ → Scope
  own_scope [] = []
  own_scope (k ∷ ks) = own_declared k ∷ own_scope ks

  own-append : (a b : List ℕ) → own_scope (a ++ b) ≡ own_scope a ++ own_scope b
  own-append [] b = refl
  own-append (k ∷ a) b = ap (λ (s : Scope). own_declared k ∷ s) (own-append a b)

  -- these variables are declared
  abbrev pub Declares : Scope → List ℕ → Type 0
  Declares f ks = unnumbered f ≡ own_scope ks

  pub declares_none : (f : Scope) (ks : List ℕ) → Declares f ks → Declares (declared false 0 [] f) ks
  declares_none f ks h = unnumbered-append f [] ∙ append-nil (unnumbered f) ∙ h

  -- WHAT IS FOUND

  own_found : (ks : List ℕ) (k : ℕ) → In ks k → (d : Declared) × (declared_as (own_scope ks) (name_of (Temporary k)) ≡ Some d) × (d.assignable ≡ assigns from to k)
  own_found [] k h = absurd h
  own_found (j ∷ ks) k h = by_test (bytes_eq (name_of (Temporary j)) (name_of (Temporary k))) refl h (λ i. own_found ks k i)
    where
      by_test : (b : Bool) → bytes_eq (name_of (Temporary j)) (name_of (Temporary k)) ≡ b → In (j ∷ ks) k → (In ks k → (d : Declared) × (declared_as (own_scope ks) (name_of (Temporary k)) ≡ Some d) × (d.assignable ≡ assigns from to k)) → (d : Declared) × (declared_as (own_scope (j ∷ ks)) (name_of (Temporary k)) ≡ Some d) × (d.assignable ≡ assigns from to k)
      by_test true e h later = (own_declared j, ap (λ (b : Bool). cond b (Some (own_declared j)) (declared_as (own_scope ks) (name_of (Temporary k)))) e, ap (assigns from to) (are.own_apart j k e))
      by_test false e (inl i) later = absurd (let t : bytes_eq (name_of (Temporary j)) (name_of (Temporary k)) ≡ true = ap (λ (n : ℕ). bytes_eq (name_of (Temporary j)) (name_of (Temporary n))) (sym i) ∙ (bytes_eq-Decides (name_of (Temporary j)) (name_of (Temporary j))).1 refl in cc)
      by_test false e (inr i) later = let r = later i in (r.0, ap (λ (b : Bool). cond b (Some (own_declared j)) (declared_as (own_scope ks) (name_of (Temporary k)))) e ∙ r.1, r.2)

  own_fresh : (ks : List ℕ) (k : ℕ) → AllBelow k ks → declared_as (own_scope ks) (name_of (Temporary k)) ≡ None
  own_fresh [] k h = refl
  own_fresh (j ∷ ks) k h = by_test (bytes_eq (name_of (Temporary j)) (name_of (Temporary k))) refl (own_fresh ks k h.1)
    where
      by_test : (b : Bool) → bytes_eq (name_of (Temporary j)) (name_of (Temporary k)) ≡ b → declared_as (own_scope ks) (name_of (Temporary k)) ≡ None → cond b (Some (own_declared j)) (declared_as (own_scope ks) (name_of (Temporary k))) ≡ None
      by_test true e later = let same : j ≡ k = are.own_apart j k e in absurd (omega (arith, same, h.0))
      by_test false e later = later

  own_outside : (ks : List ℕ) (text : List ℕ) → IsOutside name_of text → declared_as (own_scope ks) text ≡ None
  own_outside [] text o = refl
  own_outside (j ∷ ks) text o = ap (λ (b : Bool). cond b (Some (own_declared j)) (declared_as (own_scope ks) text)) (o.not_own j) ∙ own_outside ks text o

  -- READING AND STORING

  abbrev class_variable : List ℕ → Option Variable
  class_variable text = or_else (option_map field (field_named names text)) (option_map shared (shared_named names text))

  read_known : (ks : List ℕ) (n : NameView) → constant_named n.text ≡ None → is_some (variable_named names (own_scope ks) n.text) ≡ true → (f : Scope) → Declares f ks → read_fault names f n ≡ None
  read_known ks n plain known f h =
      sym (read_unnumbered names f n) ∙ ap (λ (s : Scope). read_fault names s n) h
      ∙ ap (λ (k : Option Constant). if is_some k then None else (if is_some (variable_named names (own_scope ks) n.text) then None else fault_at n.place Unknown)) plain
      ∙ ap (λ (b : Bool). if b then None else fault_at n.place Unknown) known

  place_clean : (p : InstructionOperand) (ks : List ℕ) (f : Scope) → Declares f ks → SeenPlace from to names final ks p → read_fault names f (called (name_of p)) ≡ None
  place_clean (Temporary k) ks f h s =
      let r = own_found ks k s in
      read_known ks (called (name_of (Temporary k))) (are.own_constant k) (ap (λ (o : Option Declared). is_some (or_else (own_variable o) (class_variable (name_of (Temporary k))))) r.1) f h
  place_clean (Field n) ks f h s =
      let r = are.fields s.text n s.plain s.is in
      read_known ks (called (name_of (Field n))) r.outside.no_constant
      (ap (λ (o : Option ℕ). is_some (or_else (own_variable (declared_as (own_scope ks) (name_of (Field n)))) (or_else (option_map field o) (option_map shared (shared_named names (name_of (Field n))))))) r.field
      ∙ some_or (own_variable (declared_as (own_scope ks) (name_of (Field n)))) (field n)) f h
  place_clean (Shared p) ks f h s =
      let r = are.shared s.text s.association p s.plain s.no_field s.is s.there in
      read_known ks (called (name_of (Shared p))) r.outside.no_constant
      (ap₂ (λ (o q : Option ℕ). is_some (or_else (own_variable (declared_as (own_scope ks) (name_of (Shared p)))) (or_else (option_map field o) (option_map shared q)))) r.no_field r.shared
      ∙ some_or (own_variable (declared_as (own_scope ks) (name_of (Shared p)))) (shared s.association)) f h
  place_clean (Literal n) ks f h s = absurd s

  store_known : (ks : List ℕ) (n : NameView) → constant_named n.text ≡ None → stored_fault n.place (variable_named names (own_scope ks) n.text) ≡ None → (f : Scope) → Declares f ks → store_fault names f n ≡ None
  store_known ks n plain known f h =
      ap (λ (k : Option Constant). if is_some k then fault_at n.place Store else stored_fault n.place (variable_named names f n.text)) plain
      ∙ sym (stored_unnumbered names f n) ∙ ap (λ (s : Scope). stored_fault n.place (variable_named names s n.text)) h ∙ known

  target_clean : (p : InstructionOperand) (ks : List ℕ) (f : Scope) → Declares f ks → StoredPlace from to names final ks p → store_fault names f (called (name_of p)) ≡ None
  target_clean (Temporary k) ks f h s =
      let r = own_found ks k s.0 in
      store_known ks (called (name_of (Temporary k))) (are.own_constant k)
      (ap (λ (o : Option Declared). stored_fault 0 (or_else (own_variable o) (class_variable (name_of (Temporary k))))) r.1
      ∙ ap (λ (b : Bool). stored_fault 0 (Some (temporary r.0.number b))) (r.2 ∙ s.1)) f h
  target_clean (Field n) ks f h s =
      let r = are.fields s.text n s.plain s.is in
      store_known ks (called (name_of (Field n))) r.outside.no_constant
      (ap (λ (o : Option Declared). stored_fault 0 (or_else (own_variable o) (class_variable (name_of (Field n))))) (own_outside ks (name_of (Field n)) r.outside)
      ∙ ap (λ (o : Option ℕ). stored_fault 0 (or_else (option_map field o) (option_map shared (shared_named names (name_of (Field n)))))) r.field) f h
  target_clean (Shared p) ks f h s =
      let r = are.shared s.text s.association p s.plain s.no_field s.is s.there in
      store_known ks (called (name_of (Shared p))) r.outside.no_constant
      (ap (λ (o : Option Declared). stored_fault 0 (or_else (own_variable o) (class_variable (name_of (Shared p))))) (own_outside ks (name_of (Shared p)) r.outside)
      ∙ ap₂ (λ (o q : Option ℕ). stored_fault 0 (or_else (option_map field o) (option_map shared q))) r.no_field r.shared) f h
  target_clean (Literal n) ks f h s = absurd s

  -- DECLARING

  late : (k : ℕ) → to ≤ k → assigns from to k ≡ false
  late k h = let e : nat_lt k to ≡ false = grind (arith, nat_tests, h) in none_and (not (nat_lt k from)) (nat_lt k to) e
    where
      none_and : (a b : Bool) → b ≡ false → (a && b) ≡ false
      none_and true b e = e
      none_and false b e = refl

  some_unnumbered : (f : Scope) (text : List ℕ) → is_some (declared_as f text) ≡ is_some (declared_as (unnumbered f) text)
  some_unnumbered f text = by_option (declared_as f text) ∙ sym (ap (λ (o : Option Declared). is_some o) (unnumbered_as f text))
    where
      by_option : (o : Option Declared) → is_some o ≡ is_some (option_map (λ (d : Declared). record d { number = 0 }) o)
      by_option None = refl
      by_option (Some d) = refl

  abbrev named'' : InstructionOperand → NameView
  named'' p = called (name_of p)

  one_more : (f : Scope) (ks : List ℕ) (k i : ℕ) → to ≤ k → Declares f ks → Declares (f ++ numbered false i (called (name_of (Temporary k)) ∷ [])) (ks ++ k ∷ [])
  one_more f ks k i h d =
      unnumbered-append f (numbered false i (called (name_of (Temporary k)) ∷ []))
      ∙ ap₂ (λ (a : Scope) (b : Bool). a ++ record { text = name_of (Temporary k); number = 0; assignable = b } ∷ []) d (sym (late k h))
      ∙ sym (own-append ks (k ∷ []))

  pub up_clean : (n first i : ℕ) (ks : List ℕ) (f : Scope) → to ≤ first → AllBelow first ks → Declares f ks → declare_fault i (map named'' (places_up first n)) f ≡ None
  up_clean zero first i ks f t b d = refl
  up_clean (suc n) first i ks f t b d =
      let fresh : is_some (declared_as f (name_of (Temporary first))) ≡ false = some_unnumbered f (name_of (Temporary first)) ∙ ap (λ (s : Scope). is_some (declared_as s (name_of (Temporary first)))) d ∙ ap (λ (o : Option Declared). is_some o) (own_fresh ks first b) in
      or_both (twice_fault f (called (name_of (Temporary first)))) _ (ap (λ (x : Bool). if x then fault_at 0 Twice else None) fresh)
      (up_clean n (first + 1) (i + 1) (ks ++ first ∷ []) (f ++ numbered false i (called (name_of (Temporary first)) ∷ [])) (omega (arith, t))
      (below_both (first + 1) ks (first ∷ []) (below_more first (first + 1) ks (omega arith) b) (omega arith, tt)) (one_more f ks first i t d))

  pub up_declares : (n first i : ℕ) (ks : List ℕ) (f : Scope) → to ≤ first → Declares f ks → Declares (f ++ numbered false i (map named'' (places_up first n))) (ks ++ range first n)
  up_declares zero first i ks f t d = unnumbered-append f [] ∙ append-nil (unnumbered f) ∙ d ∙ ap own_scope (sym (append-nil ks))
  up_declares (suc n) first i ks f t d =
      let rest = up_declares n (first + 1) (i + 1) (ks ++ first ∷ []) (f ++ numbered false i (called (name_of (Temporary first)) ∷ [])) (omega (arith, t)) (one_more f ks first i t d) in
      ap unnumbered (sym (append_assoc f (numbered false i (called (name_of (Temporary first)) ∷ [])) (numbered false (i + 1) (map named'' (places_up (first + 1) n)))))
      ∙ rest ∙ ap own_scope (append_assoc ks (first ∷ []) (range (first + 1) n))

  -- PARTS OF TREES

  constant_clean : (k : Constant) (f : Scope) → read_fault names f (called (constant_text k)) ≡ None
  constant_clean Receiver f = refl
  constant_clean True f = refl
  constant_clean False f = refl
  constant_clean Nil f = refl
  constant_clean Active f = refl

  small_clean : (k : ℕ) (f : Scope) → expression_fault names (tree_of name_of (nodes.small k)) f ≡ None
  small_clean zero f = refl
  small_clean (suc n) f = refl

  received_clean : (above : Bool) (e : ExpressionView) (f : Scope) → expression_fault names e f ≡ None → expression_fault names (received above e) f ≡ None
  received_clean true e f h = refl
  received_clean false e f h = h

  module _ (e : ExpressionView) (f : Scope) (clean : expression_fault names e f ≡ None) where
    one_block : (s : List ℕ) (a : StatementsView) → statements_fault names a (declared false 0 [] f) ≡ None → expression_fault names (with_block e s a) f ≡ None
    one_block s a h = or_both (expression_fault names e f) _ clean (or_both _ None (or_both (statements_fault names a (declared false 0 [] f)) None h refl) refl)

    two_blocks : (s : List ℕ) (a b : StatementsView) → statements_fault names a (declared false 0 [] f) ≡ None → statements_fault names b (declared false 0 [] f) ≡ None → expression_fault names (with_blocks e s a b) f ≡ None
    two_blocks s a b h k =
        or_both (expression_fault names e f) _ clean
        (or_both _ None (or_both (statements_fault names a (declared false 0 [] f)) _ h (or_both (statements_fault names b (declared false 0 [] f)) None k refl)) refl)

    choice_clean : (on : Bool) (a : StatementsView) (la : ℕ) (b : StatementsView) (lb : ℕ) → statements_fault names a (declared false 0 [] f) ≡ None → statements_fault names b (declared false 0 [] f) ≡ None
        → expression_fault names (choice_tree on e a la b lb) f ≡ None
    choice_clean on a la b lb h k = by_form (one_sided_by on (alone b))
      where
        by_order : (t : Bool) → expression_fault names (if t then with_blocks e (codes "ifFalse:ifTrue:") b a else with_blocks e (codes "ifTrue:ifFalse:") a b) f ≡ None
        by_order true = two_blocks (codes "ifFalse:ifTrue:") b a k h
        by_order false = two_blocks (codes "ifTrue:ifFalse:") a b h k

        by_form : (o : Option (List ℕ)) → expression_fault names (sides_by o e a la b lb) f ≡ None
        by_form (Some s) = one_block s a h
        by_form None = by_order (nat_lt lb la)

  constant_body : (k : Constant) (f : Scope) → statements_fault names (statement false (constant_tree k) no_statements) f ≡ None
  constant_body k f = or_both (read_fault names f (called (constant_text k))) None (constant_clean k f) refl

  abbrev IsSeen : List ℕ → Node → Type 0
  IsSeen ks n = Seen from to names final ks n

  abbrev IsBodySeen : List ℕ → Body → Type 0
  IsBodySeen ks b = BodySeen from to names final ks b

  -- a block declares its arguments
  block_clean : (first n : ℕ) (ks : List ℕ) (f : Scope) (t : StatementsView) → Declares f ks → Fresh from to names final first n ks
      → ((g : Scope) → Declares g (ks ++ range first n) → statements_fault names t g ≡ None)
      → expression_fault names (views.block (map named'' (places_from first n [])) t) f ≡ None
  block_clean first zero ks f t d fresh h = h (declared false 0 [] f) (declares_none f ks d ∙ ap own_scope (sym (append-nil ks)))
  block_clean first (suc n) ks f t d fresh h =
      let up : map named'' (places_from first (suc n) []) ≡ map named'' (places_up first (suc n)) = names_up name_of names final are first (suc n) in
      ap (λ (l : List NameView). expression_fault names (views.block l t) f) up
      ∙ or_both (declare_fault 0 (map named'' (places_up first (suc n))) f) _ (up_clean (suc n) first 0 ks f fresh.1 fresh.0 d)
      (h (declared false 0 (map named'' (places_up first (suc n))) f) (up_declares (suc n) first 0 ks f fresh.1 d))

  mutual
    pub node_clean : (n : Node) (ks : List ℕ) (f : Scope) → Declares f ks → IsSeen ks n → expression_fault names (tree_of name_of n) f ≡ None
    node_clean (nodes.constant k) ks f d s = constant_clean k f
    node_clean (nodes.small k) ks f d s = small_clean k f
    node_clean (nodes.literal l place) ks f d s = literal_clean l s
    node_clean (nodes.variable p) ks f d s = place_clean p ks f d s
    node_clean (nodes.assign p n) ks f d s = or_both (store_fault names f (called (name_of p))) _ (target_clean p ks f d s.0) (node_clean n ks f d s.1)
    node_clean (nodes.block first n c b) ks f d s = block_clean first n ks f (body_tree name_of b no_statements) d s.0 (λ g e. body_clean b (ks ++ range first n) g e s.1)
    node_clean (nodes.send above r ms) ks f d s =
        or_both (expression_fault names (received above (tree_of name_of r)) f) _ (received_clean above (tree_of name_of r) f (node_clean r ks f d s.0)) (messages_clean ms ks f d s.1)
    node_clean (nodes.one_sided side x a) ks f d s =
        choice_clean (tree_of name_of x) f (node_clean x ks f d s.0) (passes_on side) (body_tree name_of a no_statements) (body_least a no_arguments) (statement false (constant_tree (other_side side)) no_statements) no_arguments
        (body_clean a ks (declared false 0 [] f) (declares_none f ks d) s.1) (constant_body (other_side side) (declared false 0 [] f))
    node_clean (nodes.two_sided TrueFirst x a b) ks f d s =
        choice_clean (tree_of name_of x) f (node_clean x ks f d s.0) false (body_tree name_of a no_statements) (body_least a no_arguments) (body_tree name_of b no_statements) (body_least b no_arguments)
        (body_clean a ks (declared false 0 [] f) (declares_none f ks d) s.1) (body_clean b ks (declared false 0 [] f) (declares_none f ks d) s.2)
    node_clean (nodes.two_sided FalseFirst x a b) ks f d s =
        choice_clean (tree_of name_of x) f (node_clean x ks f d s.0) false (body_tree name_of b no_statements) (body_least b no_arguments) (body_tree name_of a no_statements) (body_least a no_arguments)
        (body_clean b ks (declared false 0 [] f) (declares_none f ks d) s.2) (body_clean a ks (declared false 0 [] f) (declares_none f ks d) s.1)
    node_clean (nodes.loop kind x a) ks f d s =
        one_block (views.block [] (body_tree name_of x no_statements)) f (body_clean x ks (declared false 0 [] f) (declares_none f ks d) s.0) (loop_selector (leaves_on kind)) (body_tree name_of a no_statements)
        (body_clean a ks (declared false 0 [] f) (declares_none f ks d) s.1)

    pub body_clean : (b : Body) (ks : List ℕ) (f : Scope) → Declares f ks → IsBodySeen ks b → statements_fault names (body_tree name_of b no_statements) f ≡ None
    body_clean nodes.nothing ks f d s = refl
    body_clean (nodes.last n) ks f d s = or_both (expression_fault names (tree_of name_of n) f) None (node_clean n ks f d s) refl
    body_clean (nodes.next n b) ks f d s = or_both (expression_fault names (tree_of name_of n) f) _ (node_clean n ks f d s.0) (body_clean b ks f d s.1)
    body_clean (nodes.returned n) ks f d s = or_both (expression_fault names (tree_of name_of n) f) None (node_clean n ks f d s) refl

    messages_clean : (ms : Messages) (ks : List ℕ) (f : Scope) → Declares f ks → MessagesSeen from to names final ks ms → messages_fault names (messages_list name_of ms) f ≡ None
    messages_clean (nodes.only t ns) ks f d s = or_both (expressions_fault names (nodes_tree name_of ns no_expressions) f) None (nodes_clean ns ks f d s) refl
    messages_clean (nodes.also t ns ms) ks f d s = or_both (expressions_fault names (nodes_tree name_of ns no_expressions) f) _ (nodes_clean ns ks f d s.0) (messages_clean ms ks f d s.1)

    nodes_clean : (ns : Nodes) (ks : List ℕ) (f : Scope) → Declares f ks → NodesSeen from to names final ks ns → expressions_fault names (nodes_tree name_of ns no_expressions) f ≡ None
    nodes_clean nodes.none ks f d s = refl
    nodes_clean (nodes.node n ns) ks f d s = or_both (expression_fault names (tree_of name_of n) f) _ (node_clean n ks f d s.0) (nodes_clean ns ks f d s.1)

  -- METHODS

  without_clean : (ss : StatementsView) (f : Scope) → statements_fault names ss f ≡ None → statements_fault names (without_self ss) f ≡ None
  without_clean views.no_statements f h = refl
  without_clean (views.statement true e ss) f h = by_self (is_self e)
    where
      by_self : (t : Bool) → statements_fault names (if t then no_statements else statement true e no_statements) f ≡ None
      by_self true = refl
      by_self false = or_both (expression_fault names e f) None (left (expression_fault names e f) (statements_fault names ss f) h) refl
        where
          left : (a b : Option Fault) → or_else a b ≡ None → a ≡ None
          left None b h = refl
          left (Some x) b h = absurd cc
  without_clean (views.statement false e ss) f h = by_fault (expression_fault names e f) h (λ i. without_clean ss f i)
    where
      by_fault : (o : Option Fault) → or_else o (statements_fault names ss f) ≡ None → (statements_fault names ss f ≡ None → statements_fault names (without_self ss) f ≡ None) → or_else o (statements_fault names (without_self ss) f) ≡ None
      by_fault None h k = k h
      by_fault (Some x) h k = absurd cc

  method_clean : (b : Body) (ks : List ℕ) (f : Scope) → Declares f ks → IsBodySeen ks b → statements_fault names (method_tree name_of b no_statements) f ≡ None
  method_clean nodes.nothing ks f d s = refl
  method_clean (nodes.last n) ks f d s = or_both (expression_fault names (tree_of name_of n) f) _ (node_clean n ks f d s) refl
  method_clean (nodes.next n b) ks f d s = or_both (expression_fault names (tree_of name_of n) f) _ (node_clean n ks f d s.0) (method_clean b ks f d s.1)
  method_clean (nodes.returned n) ks f d s = or_both (expression_fault names (tree_of name_of n) f) None (node_clean n ks f d s) refl

  pub statements_clean : (b : Body) (ks : List ℕ) (f : Scope) → Declares f ks → IsBodySeen ks b → statements_fault names (without_self (method_tree name_of b no_statements)) f ≡ None
  statements_clean b ks f d s = without_clean (method_tree name_of b no_statements) f (method_clean b ks f d s)
