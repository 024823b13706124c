-- As many turns as jumps back are allowed, and one more, are enough for each loop: so each method has a trace.
use Rattle.std.proofs.Common.{◌≡◌, ℕ, zero, suc, ◌+◌, ◌<◌, ◌≤◌, ◌==◌, Bool, true, false, List, [], ◌∷◌, ◌++◌, length, refl, arith}
use Rattle.std.proofs.lemmas.Bool.Decides.{nat_tests}
use Rattle.std.specs.Prelude.{if◌then◌else◌}
use Rattle.st_emit.specs.declared.instruction.Constant.TheVariants.{Receiver, True, False}
use Rattle.st_emit.specs.declared.form.OneSided.{OneSided}
use Rattle.st_emit.specs.declared.form.OneSided.TheVariants.{IfTrue, IfFalse, And, Or}
use Rattle.st_emit.specs.declared.form.TwoSided.{TwoSided}
use Rattle.st_emit.specs.declared.form.TwoSided.TheVariants.{TrueFirst, FalseFirst}
use Rattle.st_emit.specs.declared.form.Loop.{Loop}
use Rattle.st_emit.specs.declared.form.Loop.TheVariants.{WhileTrue, WhileFalse}
use Rattle.st_emit.specs.Nodes as nodes
use Rattle.st_emit.specs.Nodes.{Node, Body, Messages, Nodes}
use Rattle.st_meaning.specs.declared.deed.Variable.{Variable}
use Rattle.st_meaning.specs.declared.deed.Variable.TheVariants.{Temporary}
use Rattle.st_meaning.specs.declared.deed.Value.{Value}
use Rattle.st_meaning.specs.declared.deed.Value.TheVariants as values
use Rattle.st_meaning.specs.inside.Values.{constant_value, AnswerView, DeedView, literal_value, small_value, variable_of}
use Rattle.st_meaning.specs.inside.Values as views
use Rattle.st_meaning.specs.inside.Runs.{Going, Outcome, went, over, long, stuck, unfinished, Run, gives, then_go, ◌>>=◌, did, ends, take_answer, assign_to, answer_to, make_block, return_value, be_unsure, jump_back, decide}
use Rattle.st_meaning.specs.inside.Traces.{nil, sided, chosen, goes_on, turns, value_of, body_value, messages_value, nodes_values, method_value}
use Rattle.st_meaning.specs.inside.Blocks.{take_arguments, block_value, block_trace}
use Rattle.st_meaning.specs.inside.Meanings.{start_of, before_all, IsEnded, trace_of}

module _ (most : ℕ) where
  -- a run that goes on has jumped back no fewer times than b, and not too often; and its bound didn't run out
  abbrev Kept : {A : Type 0} → ℕ → Outcome A → Type 0
  Kept b (went x g) = (b ≤ g.backs) × (g.backs ≤ most)
  Kept b (over d) = Unit {0}
  Kept b long = Unit {0}
  Kept b (stuck d) = ⊥
  Kept b unfinished = ⊥

  kept_lower : {A : Type 0} (b c : ℕ) (o : Outcome A) → b ≤ c → Kept c o → Kept b o
  kept_lower b c (went x g) le k = (omega (arith, k.0), k.1)
  kept_lower b c (over d) le k = tt
  kept_lower b c long le k = tt
  kept_lower b c (stuck d) le k = k
  kept_lower b c unfinished le k = k

  -- n turns are enough for what is left of the jumps back
  record Good {A : Type 0} (n : ℕ) (m : Run A) : Type 0 where
    at : (g : Going) → g.backs ≤ most → most < g.backs + n → Kept g.backs (m g)

  kept_then : {A B : Type 0} (n b : ℕ) (o : Outcome A) (f : A → Run B) → most < b + n → Kept b o → ((x : A) → Good n (f x)) → Kept b (then_go o f)
  kept_then n b (went x g) f e k h = kept_lower b g.backs (f x g) k.0 ((h x).at g k.1 (omega (arith, k.0)))
  kept_then n b (over d) f e k h = tt
  kept_then n b long f e k h = tt
  kept_then n b (stuck d) f e k h = k
  kept_then n b unfinished f e k h = k

  good_then : {A B : Type 0} (n : ℕ) (m : Run A) (f : A → Run B) → Good n m → ((x : A) → Good n (f x)) → Good n (m >>= f)
  good_then n m f h k = record { at = λ g l e. kept_then n g.backs (m g) f e (h.at g l e) k }

  good_gives : {A : Type 0} (n : ℕ) (x : A) → Good n (gives x)
  good_gives n x = record { at = λ g l e. (omega arith, l) }

  good_did : {A : Type 0} (n : ℕ) (d : DeedView) (m : Run A) → Good n m → Good n (did most d m)
  unfolding did
  good_did n d m h = record { at = λ g l e. by_test g l e (length g.deeds == most) }
    where
      by_test : (g : Going) → g.backs ≤ most → most < g.backs + n → (b : Bool) → Kept g.backs (if b then long else m (record g { deeds = g.deeds ++ d ∷ [] }))
      by_test g l e true = tt
      by_test g l e false = h.at (record g { deeds = g.deeds ++ d ∷ [] }) l e

  good_ends : {A : Type 0} (n : ℕ) → Good n (ends {A = A})
  good_ends n = record { at = λ g l e. tt }

  good_return : {A : Type 0} (n : ℕ) (v : Value) → Good n (return_value most {A = A} v)
  unfolding return_value
  good_return n v = good_did n (views.returned v) ends (good_ends n)

  good_unsure : {A : Type 0} (n : ℕ) (v : Value) → Good n (be_unsure most {A = A} v)
  unfolding be_unsure
  good_unsure n v = good_did n (views.unsure v) ends (good_ends n)

  good_assign : (n : ℕ) (p : Variable) (v : Value) → Good n (assign_to most p v)
  unfolding assign_to
  good_assign n p v = good_did n (views.assigned p v) _ (record { at = λ g l e. (omega arith, l) })

  good_answer : (n : ℕ) (r : Value) (text : List ℕ) (vs : List Value) (above : Bool) → Good n (answer_to most r text vs above)
  unfolding answer_to
  good_answer n r text vs above = good_did n (views.sent r text vs above) _ (record { at = λ g l e. by_answers g l g.answers })
    where
      by_answers : (g : Going) → g.backs ≤ most → (answers : List AnswerView) → Kept g.backs (take_answer answers g)
      by_answers g l [] = tt
      by_answers g l (a ∷ rest) = (omega arith, l)

  good_block : (n : ℕ) → Good n (make_block most)
  unfolding make_block
  good_block n = record { at = λ g l e. (good_did n (views.made g.blocks) _ (record { at = λ h l e. (omega arith, l) })).at g l e }

  good_decide : {A : Type 0} (n : ℕ) (v : Value) (a b : Run A) → Good n a → Good n b → Good n (decide most v a b)
  good_decide n (values.Constant (suc zero)) a b h k = h
  good_decide n (values.Constant (suc (suc zero))) a b h k = k
  good_decide n (values.Constant zero) a b h k = good_unsure n (values.Constant zero)
  good_decide n (values.Constant (suc (suc (suc i)))) a b h k = good_unsure n (values.Constant (suc (suc (suc i))))
  good_decide n (values.Number z) a b h k = good_unsure n (values.Number z)
  good_decide n (values.First q) a b h k = good_unsure n (values.First q)
  good_decide n (values.Literal i) a b h k = good_unsure n (values.Literal i)
  good_decide n (values.Block i) a b h k = good_unsure n (values.Block i)
  good_decide n (values.Answer i) a b h k = good_unsure n (values.Answer i)

  good_sided : (n : ℕ) (side : OneSided) (v : Value) (a : Run Value) → Good n a → Good n (sided most side v a)
  good_sided n IfTrue v a h = good_decide n v a (gives nil) h (good_gives n nil)
  good_sided n IfFalse v a h = good_decide n v (gives nil) a (good_gives n nil) h
  good_sided n And v a h = good_decide n v a (gives (constant_value False)) h (good_gives n (constant_value False))
  good_sided n Or v a h = good_decide n v (gives (constant_value True)) a (good_gives n (constant_value True)) h

  good_chosen : (n : ℕ) (side : TwoSided) (v : Value) (a b : Run Value) → Good n a → Good n b → Good n (chosen most side v a b)
  good_chosen n TrueFirst v a b h k = good_decide n v a b h k
  good_chosen n FalseFirst v a b h k = good_decide n v b a k h

  good_goes : (n : ℕ) (kind : Loop) (v : Value) (again leave : Run Value) → Good n again → Good n leave → Good n (goes_on most kind v again leave)
  good_goes n WhileTrue v again leave h k = good_decide n v again leave h k
  good_goes n WhileFalse v again leave h k = good_decide n v leave again k h

  -- a jump back leaves one turn fewer
  good_back : (k : ℕ) (m : Run Value) → Good k m → Good (suc k) (jump_back most m)
  unfolding jump_back
  good_back k m h = record { at = λ g l e. by_test g l e (g.backs == most) refl }
    where
      by_test : (g : Going) → g.backs ≤ most → most < g.backs + suc k → (b : Bool) → (g.backs == most) ≡ b → Kept g.backs (if b then long else m (record g { backs = g.backs + 1 }))
      by_test g l e true t = tt
      by_test g l e false t =
          let less : g.backs + 1 ≤ most = grind (arith, nat_tests) in
          kept_lower g.backs (g.backs + 1) (m (record g { backs = g.backs + 1 })) (omega arith) (h.at (record g { backs = g.backs + 1 }) less (omega arith))

  good_more : {A : Type 0} (k n : ℕ) (m : Run A) → k ≤ n → Good n m → Good k m
  good_more k n m le h = record { at = λ g l e. h.at g l (omega arith) }

  good_turns : (n k : ℕ) (kind : Loop) (x a : Run Value) → k ≤ n → Good n x → Good n a → Good k (turns most k kind x a)
  good_turns n zero kind x a le hx ha = record { at = λ g l e. absurd (omega arith) }
  good_turns n (suc k) kind x a le hx ha =
      good_then (suc k) x (λ v. goes_on most kind v (a >>= λ w. jump_back most (turns most k kind x a)) (gives nil)) (good_more (suc k) n x le hx)
      (λ v. good_goes (suc k) kind v (a >>= λ w. jump_back most (turns most k kind x a)) (gives nil)
      (good_then (suc k) a (λ w. jump_back most (turns most k kind x a)) (good_more (suc k) n a le ha) (λ w. good_back k (turns most k kind x a) (good_turns n k kind x a (omega arith) hx ha)))
      (good_gives (suc k) nil))

  mutual
    good_value : (x : Node) (n : ℕ) → Good n (value_of most x n)
    good_value (nodes.constant k) n = good_gives n (constant_value k)
    good_value (nodes.small k) n = good_gives n _
    good_value (nodes.literal x place) n = good_gives n (literal_value x place)
    good_value (nodes.variable p) n = record { at = λ g l e. (omega arith, l) }
    good_value (nodes.assign p x) n = good_then n (value_of most x n) (λ v. assign_to most (variable_of p) v) (good_value x n) (λ v. good_assign n (variable_of p) v)
    good_value (nodes.block f i c b) n = good_block n
    good_value (nodes.send above r ms) n = good_then n (value_of most r n) (λ v. messages_value most ms above v n) (good_value r n) (λ v. good_messages ms above v n)
    good_value (nodes.one_sided side x a) n = good_then n (value_of most x n) (λ v. sided most side v (body_value most a n)) (good_value x n) (λ v. good_sided n side v (body_value most a n) (good_body a n))
    good_value (nodes.two_sided side x a b) n =
        good_then n (value_of most x n) (λ v. chosen most side v (body_value most a n) (body_value most b n)) (good_value x n) (λ v. good_chosen n side v (body_value most a n) (body_value most b n) (good_body a n) (good_body b n))
    good_value (nodes.loop kind x a) n = good_turns n n kind (body_value most x n) (body_value most a n) (omega arith) (good_body x n) (good_body a n)

    good_body : (b : Body) (n : ℕ) → Good n (body_value most b n)
    good_body nodes.nothing n = good_gives n nil
    good_body (nodes.last x) n = good_value x n
    good_body (nodes.next x b) n = good_then n (value_of most x n) (λ v. body_value most b n) (good_value x n) (λ v. good_body b n)
    good_body (nodes.returned x) n = good_then n (value_of most x n) (λ v. return_value most v) (good_value x n) (λ v. good_return n v)

    good_messages : (ms : Messages) (above : Bool) (r : Value) (n : ℕ) → Good n (messages_value most ms above r n)
    good_messages (nodes.only s ns) above r n = good_then n (nodes_values most ns [] n) _ (good_nodes ns [] n) (λ vs. good_answer n r s.selector _ above)
    good_messages (nodes.also s ns ms) above r n =
        good_then n _ (λ v. messages_value most ms above r n) (good_then n (nodes_values most ns [] n) _ (good_nodes ns [] n) (λ vs. good_answer n r s.selector _ above)) (λ v. good_messages ms above r n)

    good_nodes : (ns : Nodes) (vs : List Value) (n : ℕ) → Good n (nodes_values most ns vs n)
    good_nodes nodes.none vs n = good_gives n vs
    good_nodes (nodes.node x xs) vs n = good_then n (value_of most x n) (λ v. nodes_values most xs (v ∷ vs) n) (good_value x n) (λ v. good_nodes xs (v ∷ vs) n)

  -- a run that is over, or too long
  record Ends (n : ℕ) (m : Run Value) : Type 0 where
    at : (g : Going) → g.backs ≤ most → most < g.backs + n → IsEnded (m g)

  ends_return : (n : ℕ) (v : Value) → Ends n (return_value most v)
  unfolding return_value did
  ends_return n v = record { at = λ g l e. by_test g (length g.deeds == most) }
    where
      by_test : (g : Going) (b : Bool) → IsEnded (if b then long else over (record g { deeds = g.deeds ++ views.returned v ∷ [] }))
      by_test g true = tt
      by_test g false = tt

  ends_then : {A : Type 0} (n : ℕ) (m : Run A) (f : A → Run Value) → Good n m → ((x : A) → Ends n (f x)) → Ends n (m >>= f)
  ends_then n m f h k = record { at = λ g l e. by_outcome g e (m g) (h.at g l e) }
    where
      by_outcome : (g : Going) → most < g.backs + n → (o : Outcome _) → Kept g.backs o → IsEnded (then_go o f)
      by_outcome g e (went x g') q = (k x).at g' q.1 (omega (arith, q.0))
      by_outcome g e (over d) q = tt
      by_outcome g e long q = tt
      by_outcome g e (stuck d) q = q
      by_outcome g e unfinished q = q

  method_ends : (b : Body) (n : ℕ) → Ends n (method_value most b n)
  method_ends nodes.nothing n = ends_return n (constant_value Receiver)
  method_ends (nodes.last x) n = ends_then n (value_of most x n) (λ v. return_value most (constant_value Receiver)) (good_value x n) (λ v. ends_return n (constant_value Receiver))
  method_ends (nodes.next x b) n = ends_then n (value_of most x n) (λ v. method_value most b n) (good_value x n) (λ v. method_ends b n)
  method_ends (nodes.returned x) n = ends_then n (value_of most x n) (λ v. return_value most v) (good_value x n) (λ v. ends_return n v)

-- each method has a trace: so many turns are enough
pub has_trace : (most arguments : ℕ) (answers : List AnswerView) (b : Body) → IsEnded (trace_of most arguments b answers)
has_trace most arguments answers b = (method_ends most b (most + 1)).at (before_all (start_of arguments) answers) (omega arith) (omega arith)

-- and so has each block
arguments_good : (most first i n : ℕ) → Good most n (take_arguments most first i)
arguments_good most first zero n = good_gives most n nil
arguments_good most first (suc i) n = good_then most n (assign_to most (Temporary (first + i)) (values.First (Temporary (first + i)))) (λ v. take_arguments most first i) (good_assign most n (Temporary (first + i)) (values.First (Temporary (first + i)))) (λ v. arguments_good most first i n)

block_ends : (most first i : ℕ) (b : Body) (n : ℕ) → Ends most n (block_value most first i b n)
block_ends most first i b n =
    ends_then most n (take_arguments most first i) (λ v. (body_value most b n >>= λ w. return_value most w)) (arguments_good most first i n)
    (λ v. ends_then most n (body_value most b n) (λ w. return_value most w) (good_body most b n) (λ w. ends_return most n w))

pub block_has_trace : (most first arguments : ℕ) (answers : List AnswerView) (b : Body) → IsEnded (block_trace most first arguments b answers)
block_has_trace most first arguments answers b = (block_ends most first arguments b (most + 1)).at (before_all values.First answers) (omega arith) (omega arith)
