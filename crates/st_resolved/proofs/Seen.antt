-- The variables of nodes that a tree without faults gives are seen where they stand.
use Rattle.std.proofs.Common.{◌≡◌, ℕ, zero, suc, ◌+◌, ◌≤◌, Bool, true, false, not, ◌&&◌, cond, List, [], ◌∷◌, ◌++◌, length, Option, Some, None, inl, inr, refl, sym, ap, ◌∙◌, subst, arith, append-nil}
use Rattle.std.proofs.lemmas.Bool.Decides.{nat_tests}
use Rattle.std.specs.Prelude.{if◌then◌else◌, nat_lt, slice_get, is_some, bytes_eq, option_map}
use Rattle.st_scan.specs.declared.token.Signed.{Signed}
use Rattle.st_scan.specs.Views.{is_super, NameView, ContentView, ExpressionView, StatementsView, MessagesView, ExpressionsView}
use Rattle.st_scan.specs.Views as views
use Rattle.st_emit.specs.declared.instruction.Constant.{Constant}
use Rattle.st_emit.specs.declared.instruction.InstructionOperand.{InstructionOperand}
use Rattle.st_emit.specs.declared.instruction.InstructionOperand.TheVariants.{Field, Temporary, Shared}
use Rattle.st_emit.specs.declared.form.TwoSided.TheVariants.{TrueFirst, FalseFirst}
use Rattle.st_emit.specs.declared.form.Form.{Form}
use Rattle.st_emit.specs.declared.form.Form.TheVariants.{One, Two, Repeated}
use Rattle.st_emit.specs.Names.{NamesView, Scope, Declared, Variable, temporary, field, shared, constant_named, declared_as, field_named, shared_named, variable_named, own_variable, or_else, numbered, declared}
use Rattle.st_emit.specs.Literals.{LiteralView, small_number, Naming, given, ◌>>=◌, named_literal, literal_of}
use Rattle.st_emit.specs.Literals as lits
use Rattle.st_emit.specs.Nodes as nodes
use Rattle.st_emit.specs.Nodes.{Sending, Node, Body, Tail, Messages, Nodes, body_of, with_tail}
use Rattle.st_emit.specs.Resolving.{place_named, constant_or, literal_node, small_or, content_node, sending, Message, all_nodes, message_nodes, plain_tail, formed, form_named, no_message, single_tail, sends_tail, tailed, before, Context, behind, inside, names_in, names_in_all, names_in_statements, names_in_messages, place_of_name, assign_tail, count_node, is_plain, all_plain, expression_node, statements_body, messages_of, nodes_of}
use Rattle.st_emit.proofs.Forms.{inside_is}
use Rattle.st_code.specs.declared.fault.Cause.TheVariants.{Unknown, Store}
use Rattle.st_code.specs.Faults.{fault_at, read_fault, store_fault, stored_fault, content_fault, expression_fault, statements_fault, messages_fault, expressions_fault, declare_fault}
use Rattle.st_resolved.proofs.Grows.{Grows, AllGrow, MessagesGrow, grows_then, grows_end, grows_all, grows_sending, grows_messages, grows_place, grows_sends, statements_grow, messages_grow}
use Rattle.st_resolved.proofs.Placing.{Puts, puts_given, puts_then, puts_end, puts_literal}
use Rattle.st_resolved.specs.inside.Seen.{In, range, AllBelow, numbers, unnumbered, assigns, IsScope, SeenPlace, StoredPlace, Fresh, Seen, BodySeen, MessagesSeen, NodesSeen}
use Rattle.st_resolved.proofs.Unnumbered.{or_none, read_alike, store_alike, more_names}
use Rattle.std.proofs.lemmas.Bool.{and_right}

-- NUMBERS

pub numbers-append : (a b : Scope) → numbers (a ++ b) ≡ numbers a ++ numbers b
numbers-append [] b = refl
numbers-append (d ∷ a) b = ap (λ (l : List ℕ). d.number ∷ l) (numbers-append a b)

pub numbers-range : (a : Bool) (first : ℕ) (ns : List NameView) → numbers (numbered a first ns) ≡ range first (length ns)
numbers-range a first [] = refl
numbers-range a first (x ∷ ns) = ap (λ (l : List ℕ). first ∷ l) (numbers-range a (first + 1) ns)

pub below_more : (k m : ℕ) (ns : List ℕ) → k ≤ m → AllBelow k ns → AllBelow m ns
below_more k m [] h b = tt
below_more k m (n ∷ ns) h b = (omega (arith, h, b.0), below_more k m ns h b.1)

pub below_both : (k : ℕ) (a b : List ℕ) → AllBelow k a → AllBelow k b → AllBelow k (a ++ b)
below_both k [] b h i = i
below_both k (n ∷ a) b h i = (h.0, below_both k a b h.1 i)

pub below_range : (first n : ℕ) → AllBelow (first + n) (range first n)
below_range first zero = tt
below_range first (suc n) =
    let more : first + 1 + n ≡ first + suc n = omega arith in
    (omega arith, subst (λ (k : ℕ). AllBelow k (range (first + 1) n)) more (below_range (first + 1) n))

-- the temporaries are those from one number to another
module _ (from to : ℕ) where
  pub scope_more : (a b : Scope) → IsScope from to a → IsScope from to b → IsScope from to (a ++ b)
  scope_more [] b h i = i
  scope_more (d ∷ a) b h i = (h.0, scope_more a b h.1 i)

  pub late_scope : (ns : List NameView) (k : ℕ) → to ≤ k → IsScope from to (numbered false k ns)
  late_scope [] k h = tt
  late_scope (x ∷ ns) k h = (sym (late k h), late_scope ns (k + 1) (omega (arith, h)))
    where
      late : (k : ℕ) → to ≤ k → assigns from to k ≡ false
      late k h = let e : nat_lt k to ≡ false = grind (arith, nat_tests, h) in and_right (not (nat_lt k from)) (nat_lt k to) e

  module _ (names : NamesView) (final : List LiteralView) where
    -- VARIABLES AND LITERALS

    found_in : (s : Scope) (text : List ℕ) (d : Declared) → declared_as s text ≡ Some d → IsScope from to s → In (numbers s) d.number × (d.assignable ≡ assigns from to d.number)
    found_in [] text d e h = absurd cc
    found_in (x ∷ xs) text d e h = by_test (bytes_eq x.text text) e (λ i. found_in xs text d i h.1)
      where
        by_test : (b : Bool) → cond b (Some x) (declared_as xs text) ≡ Some d → (declared_as xs text ≡ Some d → In (numbers xs) d.number × (d.assignable ≡ assigns from to d.number)) → In (numbers (x ∷ xs)) d.number × (d.assignable ≡ assigns from to d.number)
        by_test true i later = let is : x ≡ d = cc in subst (λ (y : Declared). In (numbers (x ∷ xs)) y.number × (y.assignable ≡ assigns from to y.number)) is (inl refl, h.0)
        by_test false i later = let r = later i in (inr r.0, r.1)

    module _ (s : Scope) (text : List ℕ) (is_scope : IsScope from to s) (plain : constant_named text ≡ None) where
      abbrev Stored : InstructionOperand → Type 0
      Stored p = StoredPlace from to names final (numbers s) p

      abbrev IsSeen : InstructionOperand → Type 0
      IsSeen p = SeenPlace from to names final (numbers s) p

      shared_seen : (a : ℕ) → field_named names text ≡ None → shared_named names text ≡ Some a → Puts final IsSeen (place_named (Some (shared a)))
      shared_seen a f e = puts_end final (λ (p : ℕ). slice_get final p ≡ Some (lits.named a)) IsSeen (named_literal (lits.named a)) Shared (puts_literal final (lits.named a)) (λ p i. record { text = text; association = a; plain = plain; no_field = f; is = e; there = i })

      -- what is read
      pub read_seen : (v : Variable) → variable_named names s text ≡ Some v → Puts final IsSeen (place_named (Some v))
      read_seen v h = by_own (declared_as s text) refl h
        where
          by_class : (o : Option ℕ) → field_named names text ≡ o → or_else (option_map field o) (option_map shared (shared_named names text)) ≡ Some v → Puts final IsSeen (place_named (Some v))
          by_class (Some n) e i = let is : field n ≡ v = cc in subst (λ (w : Variable). Puts final IsSeen (place_named (Some w))) is (puts_given final IsSeen (Field n) (record { text = text; plain = plain; is = e }))
          by_class None e i = by_other (shared_named names text) refl i
            where
              by_other : (o : Option ℕ) → shared_named names text ≡ o → option_map shared o ≡ Some v → Puts final IsSeen (place_named (Some v))
              by_other None e' i = absurd cc
              by_other (Some a) e' i = let is : shared a ≡ v = cc in subst (λ (w : Variable). Puts final IsSeen (place_named (Some w))) is (shared_seen a e e')

          by_own : (o : Option Declared) → declared_as s text ≡ o → or_else (own_variable o) (or_else (option_map field (field_named names text)) (option_map shared (shared_named names text))) ≡ Some v → Puts final IsSeen (place_named (Some v))
          by_own (Some d) e i =
              let is : temporary d.number d.assignable ≡ v = cc in
              subst (λ (w : Variable). Puts final IsSeen (place_named (Some w))) is (puts_given final IsSeen (Temporary d.number) (found_in s text d e is_scope).0)
          by_own None e i = by_class (field_named names text) refl i

      -- what is assigned to
      pub stored_seen : (place : ℕ) (v : Variable) → variable_named names s text ≡ Some v → stored_fault place (Some v) ≡ None → Puts final Stored (place_named (Some v))
      stored_seen place (temporary n true) h f = puts_given final Stored (Temporary n) (by_own (declared_as s text) refl h)
        where
          by_own : (o : Option Declared) → declared_as s text ≡ o → or_else (own_variable o) (or_else (option_map field (field_named names text)) (option_map shared (shared_named names text))) ≡ Some (temporary n true) → In (numbers s) n × (assigns from to n ≡ true)
          by_own (Some d) e i =
              let is : temporary d.number d.assignable ≡ temporary n true = cc in
              let k : d.number ≡ n = cc in
              let a : d.assignable ≡ true = cc in
              let r = found_in s text d e is_scope in
              (subst (λ (j : ℕ). In (numbers s) j) k r.0, sym (ap (assigns from to) k) ∙ sym r.1 ∙ a)
          by_own None e i = absurd (by_class (field_named names text) (shared_named names text) i)
            where
              by_class : (o p : Option ℕ) → or_else (option_map field o) (option_map shared p) ≡ Some (temporary n true) → ⊥
              by_class (Some k) p i = cc
              by_class None (Some k) i = cc
              by_class None None i = cc
      stored_seen place (temporary n false) h f = absurd cc
      stored_seen place (field n) h f = record { by = λ ls e. (read_seen (field n) h).by ls e }
      stored_seen place (shared a) h f = record { by = λ ls e. (read_seen (shared a) h).by ls e }

    -- LITERALS

    module _ (ks : List ℕ) where
      abbrev IsSeenNode : Node → Type 0
      IsSeenNode n = Seen from to names final ks n

      clean_literal : (what : ContentView) (place : ℕ) → content_fault place what ≡ None → Puts final IsSeenNode (literal_node (literal_of what))
      clean_literal what place h = puts_end final (λ (p : ℕ). slice_get final p ≡ Some (literal_of what)) IsSeenNode (named_literal (literal_of what)) (nodes.literal (literal_of what)) (puts_literal final (literal_of what)) (λ p e. record { what = what; place = place; right = h; is = refl })

      small_seen : (o : Option ℕ) (n : Signed) (place : ℕ) → content_fault place (views.number n) ≡ None → Puts final IsSeenNode (small_or o n)
      small_seen (Some k) n place h = puts_given final IsSeenNode (nodes.small k) tt
      small_seen None n place h = clean_literal (views.number n) place h

      content_seen : (what : ContentView) (place : ℕ) → content_fault place what ≡ None → Puts final IsSeenNode (content_node what)
      content_seen (views.number n) place h = small_seen (small_number n) n place h
      content_seen (views.character b) place h = clean_literal (views.character b) place h
      content_seen (views.bytes t) place h = clean_literal (views.bytes t) place h
      content_seen (views.symbol t) place h = clean_literal (views.symbol t) place h
      content_seen (views.array es) place h = clean_literal (views.array es) place h
      content_seen views.nil_object place h = clean_literal views.nil_object place h
      content_seen views.false_object place h = clean_literal views.false_object place h
      content_seen views.true_object place h = clean_literal views.true_object place h

      -- MESSAGES AND TAILS

      -- a block without arguments, where one has to stand
      abbrev pub IsInner : Node → Type 0
      IsInner n = BodySeen from to names final ks (body_of n)

      abbrev pub IsSeenArgument : (block : Bool) → Node → Type 0
      IsSeenArgument b n = Seen from to names final ks n × (b ≡ true → IsInner n)

      abbrev pub AllSeen : (blocks : Bool) → List (Naming Node) → Type 0
      AllSeen b [] = Unit {0}
      AllSeen b (m ∷ ms) = Puts final (IsSeenArgument b) m × AllSeen b ms

      abbrev pub MessagesAre : List Message → Type 0
      MessagesAre [] = Unit {0}
      MessagesAre (m ∷ ms) = AllSeen m.all_blocks m.arguments × MessagesAre ms

      abbrev AreSeen : Nodes → Type 0
      AreSeen ns = NodesSeen from to names final ks ns

      abbrev AreSent : Messages → Type 0
      AreSent ms = MessagesSeen from to names final ks ms

      seen_all : (b : Bool) (ms : List (Naming Node)) → AllGrow ms → AllSeen b ms → Puts final AreSeen (all_nodes ms)
      seen_all b [] g h = puts_given final AreSeen nodes.none tt
      seen_all b (m ∷ ms) g h =
          puts_then final (IsSeenArgument b) AreSeen m (λ n. all_nodes ms >>= λ ns. given (nodes.node n ns)) (λ n. grows_end (all_nodes ms) (nodes.node n) (grows_all ms g.1)) h.0
          (λ n p. puts_end final AreSeen AreSeen (all_nodes ms) (nodes.node n) (seen_all b ms g.1 h.1) (λ ns q. (p.0, q)))

      any_sending : (above : Bool) (text : List ℕ) → Puts final (λ (s : Sending). Unit {0}) (sending above text)
      any_sending above text = record { by = λ ls e. tt }

      seen_messages : (above : Bool) (m : Message) (ms : List Message) → AllGrow m.arguments → MessagesGrow ms → MessagesAre (m ∷ ms) → Puts final AreSent (message_nodes above m ms)
      seen_messages above m [] g k h =
          puts_then final AreSeen AreSent (all_nodes m.arguments) (λ ns. sending above m.selector >>= λ s. given (nodes.only s ns))
          (λ ns. grows_end (sending above m.selector) (λ s. nodes.only s ns) (grows_sending above m.selector)) (seen_all m.all_blocks m.arguments g h.0)
          (λ ns q. puts_end final (λ (s : Sending). Unit {0}) AreSent (sending above m.selector) (λ s. nodes.only s ns) (any_sending above m.selector) (λ s r. q))
      seen_messages above m (o ∷ ms) g k h =
          puts_then final AreSeen AreSent (all_nodes m.arguments) (λ ns. sending above m.selector >>= λ s. (message_nodes above o ms >>= λ rest. given (nodes.also s ns rest)))
          (λ ns. grows_then (sending above m.selector) (λ s. message_nodes above o ms >>= λ rest. given (nodes.also s ns rest)) (grows_sending above m.selector) (λ s. grows_end (message_nodes above o ms) (nodes.also s ns) (grows_messages above o ms k.0 k.1)))
          (seen_all m.all_blocks m.arguments g h.0)
          (λ ns q. puts_then final (λ (s : Sending). Unit {0}) AreSent (sending above m.selector) (λ s. message_nodes above o ms >>= λ rest. given (nodes.also s ns rest))
          (λ s. grows_end (message_nodes above o ms) (nodes.also s ns) (grows_messages above o ms k.0 k.1))
          (any_sending above m.selector)
          (λ s r. puts_end final AreSent AreSent (message_nodes above o ms) (nodes.also s ns) (seen_messages above o ms k.0 k.1 h.1) (λ rest t. (q, t))))

      abbrev TailSeen : (is_block : Bool) → Tail → Type 0
      TailSeen b (nodes.assigned p) = StoredPlace from to names final ks p
      TailSeen b (nodes.sent above ms) = MessagesSeen from to names final ks ms
      TailSeen b (nodes.sided side a) = BodySeen from to names final ks a
      TailSeen b (nodes.chosen side a c) = BodySeen from to names final ks a × BodySeen from to names final ks c
      TailSeen b (nodes.looped kind a) = (b ≡ true) × BodySeen from to names final ks a

      tail_seen : (b : Bool) (n : Node) (t : Tail) → IsSeenArgument b n → TailSeen b t → Seen from to names final ks (with_tail n t)
      tail_seen b n (nodes.assigned p) h k = (k, h.0)
      tail_seen b n (nodes.sent above ms) h k = (h.0, k)
      tail_seen b n (nodes.sided side a) h k = (h.0, k)
      tail_seen b n (nodes.chosen side a c) h k = (h.0, k.0, k.1)
      tail_seen b n (nodes.looped kind a) h k = (h.1 k.0, k.1)

      seen_plain : (b above : Bool) (m : Message) (ms : List Message) → AllGrow m.arguments → MessagesGrow ms → MessagesAre (m ∷ ms) → Puts final (TailSeen b) (plain_tail above m ms)
      seen_plain b above m ms g k h = puts_end final AreSent (TailSeen b) (message_nodes above m ms) (nodes.sent above) (seen_messages above m ms g k h) (λ x p. p)

      seen_formed : (form : Form) (b : Bool) (ms : List (Naming Node)) (otherwise : Naming Tail) → AllGrow ms → AllSeen true ms → Puts final (TailSeen b) otherwise → Puts final (TailSeen b) (formed form b ms otherwise)
      seen_formed (One side) b (a ∷ []) otherwise g h k = puts_end final (IsSeenArgument true) (TailSeen b) a (λ n. nodes.sided side (body_of n)) h.0 (λ n p. p.1 refl)
      seen_formed (Two TrueFirst) b (a ∷ c ∷ []) otherwise g h k =
          puts_then final (IsSeenArgument true) (TailSeen b) a (λ n. c >>= λ o. given (nodes.chosen TrueFirst (body_of n) (body_of o))) (λ n. grows_end c (λ o. nodes.chosen TrueFirst (body_of n) (body_of o)) g.1.0) h.0
          (λ n p. puts_end final (IsSeenArgument true) (TailSeen b) c (λ o. nodes.chosen TrueFirst (body_of n) (body_of o)) h.1.0 (λ o q. (p.1 refl, q.1 refl)))
      seen_formed (Two FalseFirst) b (a ∷ c ∷ []) otherwise g h k =
          puts_then final (IsSeenArgument true) (TailSeen b) c (λ n. a >>= λ o. given (nodes.chosen FalseFirst (body_of o) (body_of n))) (λ n. grows_end a (λ o. nodes.chosen FalseFirst (body_of o) (body_of n)) g.0) h.1.0
          (λ n p. puts_end final (IsSeenArgument true) (TailSeen b) a (λ o. nodes.chosen FalseFirst (body_of o) (body_of n)) h.0 (λ o q. (q.1 refl, p.1 refl)))
      seen_formed (Repeated kind) true (a ∷ []) otherwise g h k = puts_end final (IsSeenArgument true) (TailSeen true) a (λ n. nodes.looped kind (body_of n)) h.0 (λ n p. (refl, p.1 refl))
      seen_formed form b ms otherwise g h k = k

      seen_single : (above b : Bool) (m : Message) → AllGrow m.arguments → AllSeen m.all_blocks m.arguments → Puts final (TailSeen b) (single_tail above b m)
      seen_single above b m g h = by_test (not above) m.all_blocks refl
        where
          otherwise : Puts final (TailSeen b) (plain_tail above m [])
          otherwise = seen_plain b above m [] g tt (h, tt)

          by_test : (x y : Bool) → m.all_blocks ≡ y → Puts final (TailSeen b) (if x && y then formed (form_named m.selector) b m.arguments (plain_tail above m []) else plain_tail above m [])
          by_test true true e = seen_formed (form_named m.selector) b m.arguments (plain_tail above m []) g (subst (λ (z : Bool). AllSeen z m.arguments) e h) otherwise
          by_test true false e = otherwise
          by_test false y e = otherwise

      seen_sends : (above b : Bool) (ms : List Message) → MessagesGrow ms → MessagesAre ms → Puts final (TailSeen b) (sends_tail above b ms)
      seen_sends above b [] g h = seen_plain b above no_message [] tt tt (tt, tt)
      seen_sends above b (m ∷ []) g h = seen_single above b m g.0 h.0
      seen_sends above b (m ∷ o ∷ ms) g h = seen_plain b above m (o ∷ ms) g.0 g.1 h

      seen_tailed : (b : Bool) (m : Naming Node) (t : Naming Tail) → Grows t → Puts final (IsSeenArgument b) m → Puts final (TailSeen b) t → Puts final IsSeenNode (tailed m t)
      seen_tailed b m t g h k =
          puts_then final (IsSeenArgument b) IsSeenNode m (λ n. t >>= λ x. given (with_tail n x)) (λ n. grows_end t (with_tail n) g) h
          (λ n p. puts_end final (TailSeen b) IsSeenNode t (with_tail n) k (λ x q. tail_seen b n x p q))

      before_seen : (n : Node) (b : Body) → Seen from to names final ks n → BodySeen from to names final ks b → BodySeen from to names final ks (before n b)
      before_seen n nodes.nothing h k = h
      before_seen n (nodes.last m) h k = (h, k)
      before_seen n (nodes.next m b) h k = (h, k)
      before_seen n (nodes.returned m) h k = (h, k)

    -- TREES

    abbrev ctx : Scope → ℕ → Context
    ctx s n = record { names = names; scope = s; next = n }

    -- what is around a part
    pub record IsAround (f s : Scope) (next : ℕ) : Type 0 where
      pub alike : unnumbered f ≡ unnumbered s
      pub scope : IsScope from to s
      pub below : AllBelow next (numbers s)
      pub late : to ≤ next

    behind_part : (f s : Scope) (next n : ℕ) → IsAround f s next → IsAround f s (next + n)
    behind_part f s next n a = record { alike = a.alike; scope = a.scope; below = below_more next (next + n) (numbers s) (omega arith) a.below; late = omega (arith, a.late) }

    inside_names : (ns : List NameView) (s : Scope) (next : ℕ) → numbers (s ++ numbered false next ns) ≡ numbers s ++ range next (length ns)
    inside_names ns s next = numbers-append s (numbered false next ns) ∙ ap (λ (l : List ℕ). numbers s ++ l) (numbers-range false next ns)

    inside_part : (f s : Scope) (next : ℕ) (ns : List NameView) → IsAround f s next → IsAround (f ++ numbered false 0 ns) (s ++ numbered false next ns) (next + length ns)
    inside_part f s next ns a = record {
      alike = more_names f s ns 0 next a.alike;
      scope = scope_more s (numbered false next ns) a.scope (late_scope ns next a.late);
      below = subst (λ (l : List ℕ). AllBelow (next + length ns) l) (sym (inside_names ns s next))
          (below_both (next + length ns) (numbers s) (range next (length ns)) (below_more next (next + length ns) (numbers s) (omega arith) a.below) (below_range next (length ns)));
      late = omega (arith, a.late);
    }

    fresh_part : (f s : Scope) (next : ℕ) (ns : List NameView) → IsAround f s next → next + length ns ≤ 64 → Fresh from to names final next (length ns) (numbers s)
    fresh_part f s next [] a fits = tt
    fresh_part f s next (x ∷ ns) a fits = (a.below, a.late, omega (arith, fits))

    -- a block without arguments
    block_inner : (ks : List ℕ) (ns : List NameView) (first : ℕ) (b : Body) (body : StatementsView) → BodySeen from to names final (ks ++ range first (length ns)) b → is_plain (views.block ns body) ≡ true → BodySeen from to names final ks b
    block_inner ks [] first b body h p = subst (λ (l : List ℕ). BodySeen from to names final l b) (append-nil ks) h
    block_inner ks (x ∷ ns) first b body h p = absurd cc

    known : (n : NameView) (s : Scope) → (if is_some (variable_named names s n.text) then None else fault_at n.place Unknown) ≡ None → (v : Variable) × (variable_named names s n.text ≡ Some v)
    known n s h = by_variable (variable_named names s n.text) h
      where
        by_variable : (o : Option Variable) → (if is_some o then None else fault_at n.place Unknown) ≡ None → (v : Variable) × (o ≡ Some v)
        by_variable None h = absurd cc
        by_variable (Some v) h = (v, refl)

    name_seen : (n : NameView) (s : Scope) (next : ℕ) → IsScope from to s → read_fault names s n ≡ None → Puts final (Seen from to names final (numbers s)) (constant_or (constant_named n.text) (place_of_name (ctx s next) n))
    name_seen n s next h f = by_constant (constant_named n.text) refl f
      where
        by_constant : (k : Option Constant) → constant_named n.text ≡ k → (if is_some k then None else (if is_some (variable_named names s n.text) then None else fault_at n.place Unknown)) ≡ None
            → Puts final (Seen from to names final (numbers s)) (constant_or k (place_of_name (ctx s next) n))
        by_constant (Some k) e i = puts_given final (Seen from to names final (numbers s)) (nodes.constant k) tt
        by_constant None e i =
            let v = known n s i in
            puts_end final (λ (p : InstructionOperand). SeenPlace from to names final (numbers s) p) (Seen from to names final (numbers s)) (place_of_name (ctx s next) n) nodes.variable
            (subst (λ (o : Option Variable). Puts final (λ (p : InstructionOperand). SeenPlace from to names final (numbers s) p) (place_named o)) (sym v.1) (read_seen s n.text h e v.0 v.1)) (λ p q. q)

    target_seen : (n : NameView) (s : Scope) (next : ℕ) → IsScope from to s → store_fault names s n ≡ None → Puts final (λ (p : InstructionOperand). StoredPlace from to names final (numbers s) p) (place_of_name (ctx s next) n)
    target_seen n s next h f = by_constant (constant_named n.text) refl f
      where
        by_variable : (o : Option Variable) → constant_named n.text ≡ None → variable_named names s n.text ≡ o → stored_fault n.place o ≡ None → Puts final (λ (p : InstructionOperand). StoredPlace from to names final (numbers s) p) (place_named o)
        by_variable None e i g = absurd cc
        by_variable (Some v) e i g = stored_seen s n.text h e n.place v i g

        by_constant : (k : Option Constant) → constant_named n.text ≡ k → (if is_some k then fault_at n.place Store else stored_fault n.place (variable_named names s n.text)) ≡ None
            → Puts final (λ (p : InstructionOperand). StoredPlace from to names final (numbers s) p) (place_of_name (ctx s next) n)
        by_constant (Some k) e i = absurd cc
        by_constant None e i = by_variable (variable_named names s n.text) e refl i

    no_block : (ks : List ℕ) (m : Naming Node) → Puts final (Seen from to names final ks) m → Puts final (IsSeenArgument ks false) m
    no_block ks m h = record { by = λ ls e. (h.by ls e, λ b. absurd cc) }

    where_block : (ks : List ℕ) (a b : Bool) (m : Naming Node) → (b ≡ true → a ≡ true) → Puts final (IsSeenArgument ks a) m → Puts final (IsSeenArgument ks b) m
    where_block ks a b m i h = record { by = λ ls e. ((h.by ls e).0, λ t. (h.by ls e).1 (i t)) }

    both_true : (a b : Bool) → (a && b) ≡ true → (a ≡ true) × (b ≡ true)
    both_true true true e = (refl, refl)
    both_true true false e = absurd cc
    both_true false b e = absurd cc

    body_inside : (ns : List NameView) (body : StatementsView) (s : Scope) (next : ℕ) → Puts final (BodySeen from to names final (numbers (s ++ numbered false next ns))) (statements_body body (ctx (s ++ numbered false next ns) (next + length ns)))
        → Puts final (BodySeen from to names final (numbers s ++ range next (length ns))) (statements_body body (inside (ctx s next) ns))
    body_inside ns body s next h =
        let c = inside_is (ctx s next) ns (s ++ numbered false next ns) (length ns) (next + length ns) refl refl refl in
        subst (λ (d : Context). Puts final (BodySeen from to names final (numbers s ++ range next (length ns))) (statements_body body d)) c
        (subst (λ (l : List ℕ). Puts final (BodySeen from to names final l) (statements_body body (ctx (s ++ numbered false next ns) (next + length ns)))) (inside_names ns s next) h)

    mutual
      pub expression_seen : (e : ExpressionView) (f s : Scope) (next : ℕ) → IsAround f s next → next + names_in e ≤ 64 → expression_fault names e f ≡ None → Puts final (IsSeenArgument (numbers s) (is_plain e)) (expression_node e (ctx s next))
      expression_seen (views.variable n) f s next a fits h = no_block (numbers s) _ (name_seen n s next a.scope (read_alike names f s n a.alike h))
      expression_seen (views.literal e) f s next a fits h = no_block (numbers s) _ (content_seen (numbers s) e.what e.place h)
      expression_seen (views.block ns body) f s next a fits h =
          let inner = body_inside ns body s next (statements_seen body (declared false 0 ns f) (s ++ numbered false next ns) (next + length ns) (inside_part f s next ns a) (omega (arith, fits)) (or_none (declare_fault 0 ns f) (statements_fault names body (declared false 0 ns f)) h).1) in
          puts_then final (λ (n : Node). Unit {0}) (IsSeenArgument (numbers s) (is_plain (views.block ns body))) (count_node (length ns)) (λ n. statements_body body (inside (ctx s next) ns) >>= λ b. given (nodes.block next (length ns) n b))
          (λ n. grows_end (statements_body body (inside (ctx s next) ns)) (nodes.block next (length ns) n) (statements_grow body (inside (ctx s next) ns)))
          (record { by = λ ls e. tt })
          (λ n p. puts_end final (BodySeen from to names final (numbers s ++ range next (length ns))) (IsSeenArgument (numbers s) (is_plain (views.block ns body))) (statements_body body (inside (ctx s next) ns)) (nodes.block next (length ns) n) inner
          (λ b q. ((fresh_part f s next ns a (omega (arith, fits)), q), λ t. block_inner (numbers s) ns next b body q t)))
      expression_seen (views.assign target e) f s next a fits h =
          let hs = or_none _ _ h in
          no_block (numbers s) _ (seen_tailed (numbers s) (is_plain e) (expression_node e (ctx s next)) (assign_tail (ctx s next) target) (grows_end (place_of_name (ctx s next) target) nodes.assigned (grows_place (variable_named names s target.text)))
          (expression_seen e f s next a fits hs.1)
          (puts_end final (λ (p : InstructionOperand). StoredPlace from to names final (numbers s) p) (TailSeen (numbers s) (is_plain e)) (place_of_name (ctx s next) target) nodes.assigned (target_seen target s next a.scope (store_alike names f s target a.alike hs.0)) (λ p q. q)))
      expression_seen (views.send r ms) f s next a fits h =
          let hs = or_none (expression_fault names r f) (messages_fault names ms f) h in
          let d = behind (ctx s next) (names_in r) in
          no_block (numbers s) _ (seen_tailed (numbers s) (is_plain r) (expression_node r (ctx s next)) (sends_tail (is_super r) (is_plain r) (messages_of ms d)) (grows_sends (is_super r) (is_plain r) (messages_of ms d) (messages_grow ms d))
          (expression_seen r f s next a (omega (arith, fits)) hs.0)
          (seen_sends (numbers s) (is_super r) (is_plain r) (messages_of ms d) (messages_grow ms d) (messages_seen ms f s (next + names_in r) (behind_part f s next (names_in r) a) (omega (arith, fits)) hs.1)))

      pub statements_seen : (ss : StatementsView) (f s : Scope) (next : ℕ) → IsAround f s next → next + names_in_statements ss ≤ 64 → statements_fault names ss f ≡ None → Puts final (BodySeen from to names final (numbers s)) (statements_body ss (ctx s next))
      statements_seen views.no_statements f s next a fits h = puts_given final (BodySeen from to names final (numbers s)) nodes.nothing tt
      statements_seen (views.statement true e ss) f s next a fits h =
          puts_end final (IsSeenArgument (numbers s) (is_plain e)) (BodySeen from to names final (numbers s)) (expression_node e (ctx s next)) nodes.returned
          (expression_seen e f s next a fits (or_none (expression_fault names e f) (statements_fault names ss f) h).0) (λ n p. p.0)
      statements_seen (views.statement false e ss) f s next a fits h =
          let hs = or_none (expression_fault names e f) (statements_fault names ss f) h in
          let d = behind (ctx s next) (names_in e) in
          puts_then final (IsSeenArgument (numbers s) (is_plain e)) (BodySeen from to names final (numbers s)) (expression_node e (ctx s next)) (λ n. statements_body ss d >>= λ b. given (before n b))
          (λ n. grows_end (statements_body ss d) (before n) (statements_grow ss d)) (expression_seen e f s next a (omega (arith, fits)) hs.0)
          (λ n p. puts_end final (BodySeen from to names final (numbers s)) (BodySeen from to names final (numbers s)) (statements_body ss d) (before n) (statements_seen ss f s (next + names_in e) (behind_part f s next (names_in e) a) (omega (arith, fits)) hs.1) (λ b q. before_seen (numbers s) n b p.0 q))

      messages_seen : (ms : MessagesView) (f s : Scope) (next : ℕ) → IsAround f s next → next + names_in_messages ms ≤ 64 → messages_fault names ms f ≡ None → MessagesAre (numbers s) (messages_of ms (ctx s next))
      messages_seen views.no_messages f s next a fits h = tt
      messages_seen (views.message t es ms) f s next a fits h =
          let hs = or_none (expressions_fault names es f) (messages_fault names ms f) h in
          (nodes_seen es (all_plain es) f s next (λ t. t) a (omega (arith, fits)) hs.0, messages_seen ms f s (next + names_in_all es) (behind_part f s next (names_in_all es) a) (omega (arith, fits)) hs.1)

      nodes_seen : (es : ExpressionsView) (b : Bool) (f s : Scope) (next : ℕ) → (b ≡ true → all_plain es ≡ true) → IsAround f s next → next + names_in_all es ≤ 64 → expressions_fault names es f ≡ None → AllSeen (numbers s) b (nodes_of es (ctx s next))
      nodes_seen views.no_expressions b f s next i a fits h = tt
      nodes_seen (views.expression e es) b f s next i a fits h =
          let hs = or_none (expression_fault names e f) (expressions_fault names es f) h in (
            where_block (numbers s) (is_plain e) b (expression_node e (ctx s next)) (λ t. (both_true (is_plain e) (all_plain es) (i t)).0) (expression_seen e f s next a (omega (arith, fits)) hs.0),
            nodes_seen es b f s (next + names_in e) (λ t. (both_true (is_plain e) (all_plain es) (i t)).1) (behind_part f s next (names_in e) a) (omega (arith, fits)) hs.1,
          )
