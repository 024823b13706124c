-- Parts of an arena that do what nodes of a tree do.
use Rattle.std.proofs.Common.{◌≡◌, ℕ, Bool, true, false, List, [], ◌∷◌, ◌++◌, Option, refl, sym, ap, ◌∙◌}
use Rattle.st_scan.specs.inside.Chains.{LinkView, assigned as to_name, sent as sent_link}
use Rattle.st_emit.specs.declared.form.OneSided.{OneSided}
use Rattle.st_emit.specs.declared.form.TwoSided.{TwoSided}
use Rattle.st_emit.specs.declared.form.Loop.{Loop as Kind}
use Rattle.st_emit.specs.Nodes.{Node, Body, Tail, assigned, sent, sided as side_of, chosen as sides_of, looped, Messages, only, also, Nodes, none, node, Sending, with_tail}
use Rattle.st_emit.specs.Nodes as nodes
use Rattle.st_emit.specs.Resolving.{before}
use Rattle.st_emit.proofs.NodeKinds.{IsTailOf}
use Rattle.st_meaning.specs.declared.deed.Value.{Value}
use Rattle.st_meaning.specs.declared.arena.Statements.{Statements}
use Rattle.st_meaning.specs.declared.arena.Message.{Message}
use Rattle.st_meaning.specs.declared.arena.Start.{Start}
use Rattle.st_meaning.specs.declared.arena.Start.TheVariants.{Loop}
use Rattle.st_meaning.specs.declared.arena.Act.{Act}
use Rattle.st_meaning.specs.declared.arena.Act.TheVariants.{One, Two}
use Rattle.st_meaning.specs.inside.Runs.{Outcome, went, over, long, stuck, unfinished, Run, gives, then_go, ◌>>=◌, answer_to, return_value, in_order}
use Rattle.st_meaning.specs.inside.Traces.{nil, sided, chosen, turns, value_of, body_value, messages_value, nodes_values, method_value}
use Rattle.st_meaning.specs.inside.Meanings.{most}
use Rattle.st_meaning.specs.inside.Arenas.{Meaning, meant, node_at, start_run, act_run, acts_run, each, place_run, message_run, left, method_end, body_run}
use Rattle.st_meaning.specs.inside.Meant.{tail_value, IsNode, IsStart, IsChain, IsAct, IsArguments, IsMessage, IsMessages, value_behind, IsBehind, IsBody}
use Rattle.st_meaning.proofs.Arenas.{then_gives, then_assoc, each_more}

-- RUNS

then_same : {A B : Type 0} (o : Outcome A) (f h : A → Run B) → ((x : A) → f x ≡ h x) → then_go o f ≡ then_go o h
then_same (went x g) f h same = ap (λ (m : Run _). m g) (same x)
then_same (over d) f h same = refl
then_same long f h same = refl
then_same (stuck d) f h same = refl
then_same unfinished f h same = refl

-- a run behind another
behind_one : {A B : Type 0} (m m' : Run A) (f h : A → Run B) → m ≡ m' → ((x : A) → f x ≡ h x) → (m >>= f) ≡ (m' >>= h)
behind_one m m' f h e same = ap (λ (q : Run _). q >>= f) e ∙ (λ i g. then_same (m' g) f h same i)

behind_assoc : {A B C : Type 0} (m : Run A) (f : A → Run B) (k : B → Run C) → ((m >>= f) >>= k) ≡ (m >>= λ x. f x >>= k)
behind_assoc m f k = λ i g. then_assoc (m g) f k i

-- and behind two others
behind_both : {A B C : Type 0} (m m' : Run A) (f : A → Run B) (k : B → Run C) (h : A → Run C) → m ≡ m' → ((x : A) → (f x >>= k) ≡ h x) → ((m >>= f) >>= k) ≡ (m' >>= h)
behind_both m m' f k h e same = behind_assoc m f k ∙ behind_one m m' (λ x. f x >>= k) h e same

behind_gives : {A : Type 0} (m : Run A) → (m >>= λ x. gives x) ≡ m
behind_gives m = λ i g. then_gives (m g) i

node_means : (i : ℕ) (ms : List Meaning) (x : Node) (n : ℕ) → IsNode i ms x → node_at ms i n ≡ value_of most x n
node_means i ms x n is = ap (λ (o : Option Meaning). meant o n) is

-- WHAT IS DONE TO A NODE

tailed_value : (l : LinkView) (x : Node) (t : Tail) (n : ℕ) → IsTailOf l t → (value_of most x n >>= λ v. tail_value t v n) ≡ value_of most (with_tail x t) n
tailed_value (to_name target) x (assigned p) n h = refl
tailed_value (to_name target) x (sent above ms) n h = absurd h
tailed_value (to_name target) x (side_of side a) n h = absurd h
tailed_value (to_name target) x (sides_of side a b) n h = absurd h
tailed_value (to_name target) x (looped kind a) n h = absurd h
tailed_value (sent_link ms) x (assigned p) n h = absurd h
tailed_value (sent_link ms) x (sent above xs) n h = refl
tailed_value (sent_link ms) x (side_of side a) n h = refl
tailed_value (sent_link ms) x (sides_of side a b) n h = refl
tailed_value (sent_link ms) x (looped kind a) n h = absurd h

pub chain_none : (s : Start) (ms : List Meaning) (x : Node) → IsStart s ms x → IsChain s [] ms x
chain_none s ms x h n = behind_gives (start_run most ms n s) ∙ h n

pub chain_more : (l : LinkView) (s : Start) (acts : List Act) (a : Act) (ms : List Meaning) (x : Node) (t : Tail) → IsTailOf l t → IsChain s acts ms x → IsAct a ms t → IsChain s (acts ++ a ∷ []) ms (with_tail x t)
chain_more l s acts a ms x t kind h k n =
    let start = start_run most ms n s in
    let more : (v : Value) → acts_run most ms n (acts ++ a ∷ []) v ≡ (acts_run most ms n acts v >>= act_run most ms n a) = λ v i g. each_more (act_run most ms n) acts a v g i in
    behind_one start start (acts_run most ms n (acts ++ a ∷ [])) (λ v. acts_run most ms n acts v >>= act_run most ms n a) refl more
    ∙ sym (behind_assoc start (acts_run most ms n acts) (act_run most ms n a))
    ∙ behind_one (start >>= acts_run most ms n acts) (value_of most x n) (act_run most ms n a) (λ v. tail_value t v n) (h n) (k n)
    ∙ tailed_value l x t n kind

-- ARGUMENTS

pub arguments_none : (ms : List Meaning) → IsArguments [] ms none
arguments_none ms n vs = refl

pub arguments_one : (i : ℕ) (is : List ℕ) (ms : List Meaning) (x : Node) (xs : Nodes) → IsNode i ms x → IsArguments is ms xs → IsArguments (i ∷ is) ms (node x xs)
arguments_one i is ms x xs h k n vs =
    behind_both (node_at ms i n) (value_of most x n) (λ v. gives (v ∷ vs)) (each (place_run most ms n (λ vs v. v ∷ vs)) is) (λ v. nodes_values most xs (v ∷ vs) n)
    (node_means i ms x n h) (λ v. k n (v ∷ vs))

-- MESSAGES

pub message_is : (above : Bool) (m : Message) (ms : List Meaning) (s : Sending) (xs : Nodes) → m.selector.items ≡ s.selector → IsArguments m.arguments.items ms xs → IsMessage above m ms (s, xs)
message_is above m ms s xs e h n r =
    behind_one (each (place_run most ms n (λ vs v. v ∷ vs)) m.arguments.items []) (nodes_values most xs [] n) (λ vs. answer_to most r m.selector.items (in_order vs) above) (λ vs. answer_to most r s.selector (in_order vs) above)
    (h n []) (λ vs. ap (λ (t : List ℕ). answer_to most r t (in_order vs) above) e)

pub messages_none : (above : Bool) (ms : List Meaning) → IsMessages above [] ms []
messages_none above ms = tt

pub messages_one : (above : Bool) (m : Message) (list : List Message) (ms : List Meaning) (p : Sending × Nodes) (ps : List (Sending × Nodes)) → IsMessage above m ms p → IsMessages above list ms ps → IsMessages above (m ∷ list) ms (p ∷ ps)
messages_one above m list ms p ps h k = (h, k)

-- a first message and others
abbrev pub messages_made : Sending × Nodes → List (Sending × Nodes) → Messages
messages_made p [] = only p.0 p.1
messages_made p (q ∷ qs) = also p.0 p.1 (messages_made q qs)

messages_are : (above : Bool) (m : Message) (list : List Message) (ms : List Meaning) (p : Sending × Nodes) (ps : List (Sending × Nodes)) → IsMessage above m ms p → IsMessages above list ms ps
    → (n : ℕ) (r v : Value) → each (λ m w. message_run most ms n above r m) (m ∷ list) v ≡ messages_value most (messages_made p ps) above r n
messages_are above m [] ms p [] h k n r v = behind_gives (message_run most ms n above r m) ∙ h n r
messages_are above m [] ms p (q ∷ qs) h k n r v = absurd k
messages_are above m (l ∷ list) ms p [] h k n r v = absurd k
messages_are above m (l ∷ list) ms p (q ∷ qs) h k n r v =
    behind_one (message_run most ms n above r m) (nodes_values most p.1 [] n >>= λ vs. answer_to most r p.0.selector (in_order vs) above)
    (each (λ m w. message_run most ms n above r m) (l ∷ list)) (λ w. messages_value most (messages_made q qs) above r n)
    (h n r) (λ w. messages_are above l list ms q qs k.0 k.1 n r w)

-- messages to one receiver, a first one and others
pub sends_are : (above : Bool) (items : List Message) (ms : List Meaning) (p : Sending × Nodes) (ps : List (Sending × Nodes)) → IsMessages above items ms (p ∷ ps)
    → (n : ℕ) (r : Value) → each (λ m w. message_run most ms n above r m) items r ≡ messages_value most (messages_made p ps) above r n
sends_are above [] ms p ps h n r = absurd h
sends_are above (m ∷ list) ms p ps h n r = messages_are above m list ms p ps h.0 h.1 n r r

-- STATEMENTS

before_value : (x : Node) (b : Body) (n : ℕ) → (value_of most x n >>= λ w. value_behind b w n) ≡ body_value most (before x b) n
before_value x nodes.nothing n = behind_gives (value_of most x n)
before_value x (nodes.last y) n = refl
before_value x (nodes.next y c) n = refl
before_value x (nodes.returned y) n = refl

before_method : (x : Node) (b : Body) (n : ℕ) → (value_of most x n >>= λ w. method_value most b n) ≡ method_value most (before x b) n
before_method x nodes.nothing n = refl
before_method x (nodes.last y) n = refl
before_method x (nodes.next y c) n = refl
before_method x (nodes.returned y) n = refl

some_behind : (x : Node) (b : Body) (v : Value) (n : ℕ) → value_behind (before x b) v n ≡ body_value most (before x b) n
some_behind x nodes.nothing v n = refl
some_behind x (nodes.last y) v n = refl
some_behind x (nodes.next y c) v n = refl
some_behind x (nodes.returned y) v n = refl

pub behind_none : (ms : List Meaning) → IsBehind false [] ms nodes.nothing
behind_none ms = record { inside = λ n v. refl; method = λ n v. refl }

pub behind_before : (returns : Bool) (i : ℕ) (is : List ℕ) (ms : List Meaning) (x : Node) (b : Body) → IsNode i ms x → IsBehind returns is ms b → IsBehind returns (i ∷ is) ms (before x b)
behind_before returns i is ms x b h k =
    let all = λ (n : ℕ). each (place_run most ms n (λ v w. w)) is in
    record {
      inside = λ n v.
          behind_assoc (place_run most ms n (λ v w. w) i v) (all n) (left most ms n returns)
          ∙ behind_both (node_at ms i n) (value_of most x n) (λ w. gives w) (λ w. all n w >>= left most ms n returns) (λ w. value_behind b w n) (node_means i ms x n h) (λ w. k.inside n w)
          ∙ before_value x b n ∙ sym (some_behind x b v n);
      method = λ n v.
          behind_assoc (place_run most ms n (λ v w. w) i v) (all n) (method_end most ms n returns)
          ∙ behind_both (node_at ms i n) (value_of most x n) (λ w. gives w) (λ w. all n w >>= method_end most ms n returns) (λ w. method_value most b n) (node_means i ms x n h) (λ w. k.method n w)
          ∙ before_method x b n;
    }

pub behind_returned : (i : ℕ) (ms : List Meaning) (x : Node) → IsNode i ms x → IsBehind true (i ∷ []) ms (nodes.returned x)
behind_returned i ms x h =
    let one = λ (n : ℕ) (v : Value). behind_gives (place_run most ms n (λ v w. w) i v) ∙ behind_gives (node_at ms i n) ∙ node_means i ms x n h in
    record {
      inside = λ n v. ap (λ (m : Run Value). m >>= return_value most) (one n v);
      method = λ n v. ap (λ (m : Run Value). m >>= return_value most) (one n v);
    }

nothing_behind : (b : Body) (n : ℕ) → value_behind b nil n ≡ body_value most b n
nothing_behind nodes.nothing n = refl
nothing_behind (nodes.last y) n = refl
nothing_behind (nodes.next y c) n = refl
nothing_behind (nodes.returned y) n = refl

pub behind_body : (s : Statements) (ms : List Meaning) (b : Body) → IsBehind s.returns s.nodes.items ms b → IsBody s ms b
behind_body s ms b h = record { inside = λ n. h.inside n nil ∙ nothing_behind b n; method = λ n. h.method n nil }

-- FORMS

pub one_is : (side : OneSided) (s : Statements) (ms : List Meaning) (x : Body) → IsBody s ms x → IsAct (One side s) ms (side_of side x)
one_is side s ms x h n v = ap (λ (a : Run Value). sided most side v a) (h.inside n)

pub two_is : (side : TwoSided) (s t : Statements) (ms : List Meaning) (x y : Body) → IsBody s ms x → IsBody t ms y → IsAct (Two side s t) ms (sides_of side x y)
two_is side s t ms x y h k n v =
    ap (λ (a : Run Value). chosen most side v a (body_run most ms n t)) (h.inside n) ∙ ap (λ (b : Run Value). chosen most side v (body_value most x n) b) (k.inside n)

pub loop_is : (kind : Kind) (s t : Statements) (ms : List Meaning) (x y : Body) → IsBody s ms x → IsBody t ms y → IsStart (Loop kind s t) ms (nodes.loop kind x y)
loop_is kind s t ms x y h k n =
    ap (λ (a : Run Value). turns most n kind a (body_run most ms n t)) (h.inside n) ∙ ap (λ (b : Run Value). turns most n kind (body_value most x n) b) (k.inside n)
