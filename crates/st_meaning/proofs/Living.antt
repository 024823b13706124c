-- A run goes on behind a node only where the node's code goes on.
use Rattle.std.proofs.Common.{◌≡◌, ℕ, zero, suc, ◌+◌, ◌<◌, ◌==◌, Bool, true, false, ◌&&◌, ◌||◌, List, [], ◌∷◌, ◌++◌, length, refl}
use Rattle.std.specs.Prelude.{if◌then◌else◌}
use Rattle.st_emit.specs.declared.form.TwoSided.{TwoSided}
use Rattle.st_emit.specs.declared.form.TwoSided.TheVariants.{TrueFirst, FalseFirst}
use Rattle.st_emit.specs.declared.form.Loop.{Loop}
use Rattle.st_emit.specs.declared.form.Loop.TheVariants.{WhileTrue, WhileFalse}
use Rattle.st_emit.specs.Literals.{LiteralView}
use Rattle.st_emit.specs.Nodes.{Node, constant, small, literal, variable, assign, block, send, one_sided, two_sided, loop, Body, nothing, last, next, returned, Messages, only, also, Nodes, none, node, count}
use Rattle.st_resolved.specs.inside.Placed.{IsCount, Placed, BodyPlaced, MessagesPlaced, NodesPlaced}
use Rattle.st_meaning.specs.declared.deed.Value.{Value}
use Rattle.st_meaning.specs.declared.deed.Value.TheVariants as values
use Rattle.st_meaning.specs.inside.Values.{DeedView, variable_of}
use Rattle.st_meaning.specs.inside.Values as views
use Rattle.st_meaning.specs.inside.Runs.{Going, Outcome, went, over, long, stuck, unfinished, Run, gives, then_go, ◌>>=◌, did, ends, assign_to, make_block, return_value, be_unsure, jump_back, decide}
use Rattle.st_meaning.specs.inside.Traces.{nil, sided, chosen, goes_on, turns, value_of, body_value, messages_value, nodes_values}
use Rattle.std.proofs.lemmas.Bool.{and_from, or_left}
use Rattle.st_scan.proofs.Classes.{or_second}

-- WHAT EACH VALUE IS

-- what each value that a run gives is
abbrev pub Always : {A : Type 0} → (A → Type 0) → Outcome A → Type 0
Always P (went x g) = P x
Always P (over d) = Unit {0}
Always P long = Unit {0}
Always P (stuck d) = Unit {0}
Always P unfinished = Unit {0}

pub always_then : {A B : Type 0} (P : A → Type 0) (Q : B → Type 0) (o : Outcome A) (f : A → Run B) → Always P o → ((x : A) (g : Going) → P x → Always Q (f x g)) → Always Q (then_go o f)
always_then P Q (went x g) f p h = h x g p
always_then P Q (over d) f p h = tt
always_then P Q long f p h = tt
always_then P Q (stuck d) f p h = tt
always_then P Q unfinished f p h = tt

pub always_both : {A : Type 0} (P Q : A → Type 0) (o : Outcome A) → Always P o → Always Q o → Always (λ x. P x × Q x) o
always_both P Q (went x g) p q = (p, q)
always_both P Q (over d) p q = tt
always_both P Q long p q = tt
always_both P Q (stuck d) p q = tt
always_both P Q unfinished p q = tt

-- whatever it gives
abbrev pub Onward : {A : Type 0} → Type 0 → Outcome A → Type 0
Onward P o = Always (λ x. P) o

pub onward : {A : Type 0} (P : Type 0) (o : Outcome A) → P → Onward P o
onward P (went x g) p = p
onward P (over d) p = tt
onward P long p = tt
onward P (stuck d) p = tt
onward P unfinished p = tt

pub onward_then : {A B : Type 0} (P Q : Type 0) (o : Outcome A) (f : A → Run B) → Onward P o → ((x : A) (g : Going) → P → Onward Q (f x g)) → Onward Q (then_go o f)
onward_then P Q o f p h = always_then (λ x. P) (λ x. Q) o f p h

onward_more : {A : Type 0} (P Q : Type 0) (o : Outcome A) → Onward P o → (P → Q) → Onward Q o
onward_more P Q (went x g) p h = h p
onward_more P Q (over d) p h = tt
onward_more P Q long p h = tt
onward_more P Q (stuck d) p h = tt
onward_more P Q unfinished p h = tt

-- WHETHER CODE GOES ON

abbrev mutual
  pub goes : Node → Bool
  goes (constant k) = true
  goes (small n) = true
  goes (literal l place) = true
  goes (variable p) = true
  goes (assign p n) = goes n
  goes (block first arguments n b) = goes n
  goes (send above r ms) = goes r && messages_go ms
  goes (one_sided side x a) = goes x
  goes (two_sided side x a b) = goes x && (body_goes a || body_goes b)
  goes (loop kind x a) = body_goes x

  pub body_goes : Body → Bool
  body_goes nothing = true
  body_goes (last n) = goes n
  body_goes (next n b) = goes n && body_goes b
  body_goes (returned n) = false

  pub messages_go : Messages → Bool
  messages_go (only s ns) = nodes_go ns
  messages_go (also s ns ms) = nodes_go ns && messages_go ms

  pub nodes_go : Nodes → Bool
  nodes_go none = true
  nodes_go (node n ns) = goes n && nodes_go ns

-- Each message that is come to has fewer than 256 arguments.
abbrev mutual
  pub Few : Node → Type 0
  Few (constant k) = Unit {0}
  Few (small n) = Unit {0}
  Few (literal l place) = Unit {0}
  Few (variable p) = Unit {0}
  Few (assign p n) = Few n
  Few (block first arguments n b) = BodyFew b
  Few (send above r ms) = Few r × (goes r ≡ true → MessagesFew ms)
  Few (one_sided side x a) = Few x × (goes x ≡ true → BodyFew a)
  Few (two_sided side x a b) = Few x × (goes x ≡ true → BodyFew a × BodyFew b)
  Few (loop kind x a) = BodyFew x × (body_goes x ≡ true → BodyFew a)

  pub BodyFew : Body → Type 0
  BodyFew nothing = Unit {0}
  BodyFew (last n) = Few n
  BodyFew (next n b) = Few n × (goes n ≡ true → BodyFew b)
  BodyFew (returned n) = Few n

  pub MessagesFew : Messages → Type 0
  MessagesFew (only s ns) = NodesFew ns × (nodes_go ns ≡ true → count ns < 256)
  MessagesFew (also s ns ms) = NodesFew ns × (nodes_go ns ≡ true → (count ns < 256) × MessagesFew ms)

  pub NodesFew : Nodes → Type 0
  NodesFew none = Unit {0}
  NodesFew (node n ns) = Few n × (goes n ≡ true → NodesFew ns)

-- a block's count always gives a value
pub count_goes : (n : Node) → IsCount n → goes n ≡ true
count_goes (small k) c = refl
count_goes (literal l place) c = refl
count_goes (constant k) c = absurd c
count_goes (variable p) c = absurd c
count_goes (assign p n) c = absurd c
count_goes (block f i n b) c = absurd c
count_goes (send above r ms) c = absurd c
count_goes (one_sided side x a) c = absurd c
count_goes (two_sided side x a b) c = absurd c
count_goes (loop kind x a) c = absurd c

module _ (most : ℕ) (literals : List LiteralView) where
  did_onward : {A : Type 0} (P : Type 0) (d : DeedView) (f : Run A) (g : Going) → ((h : Going) → Onward P (f h)) → Onward P (did most d f g)
  unfolding did
  did_onward P d f g k = by_test (length g.deeds == most)
    where
      by_test : (b : Bool) → Onward P (if b then long else f (record g { deeds = g.deeds ++ d ∷ [] }))
      by_test true = tt
      by_test false = k (record g { deeds = g.deeds ++ d ∷ [] })

  unsure_onward : (A : Type 0) (P : Type 0) (v : Value) (g : Going) → Onward P (be_unsure most {A = A} v g)
  unfolding be_unsure
  unsure_onward A P v g = did_onward P (views.unsure v) ends g (λ h. tt)

  return_onward : (A : Type 0) (P : Type 0) (v : Value) (g : Going) → Onward P (return_value most {A = A} v g)
  unfolding return_value
  return_onward A P v g = did_onward P (views.returned v) ends g (λ h. tt)

  back_onward : {A : Type 0} (P : Type 0) (f : Run A) (g : Going) → ((h : Going) → Onward P (f h)) → Onward P (jump_back most f g)
  unfolding jump_back
  back_onward P f g k = by_test (g.backs == most)
    where
      by_test : (b : Bool) → Onward P (if b then long else f (record g { backs = g.backs + 1 }))
      by_test true = tt
      by_test false = k (record g { backs = g.backs + 1 })

  decide_onward : {A : Type 0} (P : Type 0) (v : Value) (a b : Run A) (g : Going) → Onward P (a g) → Onward P (b g) → Onward P (decide most v a b g)
  decide_onward P (values.Constant (suc zero)) a b g h k = h
  decide_onward P (values.Constant (suc (suc zero))) a b g h k = k
  decide_onward P (values.Constant zero) a b g h k = unsure_onward _ P (values.Constant zero) g
  decide_onward P (values.Constant (suc (suc (suc i)))) a b g h k = unsure_onward _ P (values.Constant (suc (suc (suc i)))) g
  decide_onward P (values.Number z) a b g h k = unsure_onward _ P (values.Number z) g
  decide_onward P (values.First q) a b g h k = unsure_onward _ P (values.First q) g
  decide_onward P (values.Literal i) a b g h k = unsure_onward _ P (values.Literal i) g
  decide_onward P (values.Block i) a b g h k = unsure_onward _ P (values.Block i) g
  decide_onward P (values.Answer i) a b g h k = unsure_onward _ P (values.Answer i) g

  chosen_onward : (P : Type 0) (side : TwoSided) (v : Value) (a b : Run Value) (g : Going) → Onward P (a g) → Onward P (b g) → Onward P (chosen most side v a b g)
  chosen_onward P TrueFirst v a b g h k = decide_onward P v a b g h k
  chosen_onward P FalseFirst v a b g h k = decide_onward P v b a g k h

  goes_onward : (P : Type 0) (kind : Loop) (v : Value) (a b : Run Value) (g : Going) → Onward P (a g) → Onward P (b g) → Onward P (goes_on most kind v a b g)
  goes_onward P WhileTrue v a b g h k = decide_onward P v a b g h k
  goes_onward P WhileFalse v a b g h k = decide_onward P v b a g k h

  turns_onward : (P : Type 0) (n : ℕ) (kind : Loop) (x a : Run Value) (g : Going) → ((h : Going) → Onward P (x h)) → Onward P (turns most n kind x a g)
  turns_onward P zero kind x a g h = tt
  turns_onward P (suc n) kind x a g h =
      onward_then P P (x g) (λ v. goes_on most kind v (a >>= λ w. jump_back most (turns most n kind x a)) (gives nil)) (h g)
      (λ v g1 p. goes_onward P kind v (a >>= λ w. jump_back most (turns most n kind x a)) (gives nil) g1
      (onward_then (Unit {0}) P (a g1) (λ w. jump_back most (turns most n kind x a)) (onward (Unit {0}) (a g1) tt) (λ w g2 q. back_onward P (turns most n kind x a) g2 (λ g3. turns_onward P n kind x a g3 h)))
      p)

  mutual
    pub lives : (x : Node) (n : ℕ) (g : Going) → Placed literals x → Onward (goes x ≡ true) (value_of most x n g)
    lives (constant k) n g p = refl
    lives (small k) n g p = refl
    lives (literal l place) n g p = refl
    lives (variable q) n g p = refl
    lives (assign q x) n g p = onward_then (goes x ≡ true) (goes x ≡ true) (value_of most x n g) (λ v. assign_to most (variable_of q) v) (lives x n g p) (λ v g1 h. onward (goes x ≡ true) (assign_to most (variable_of q) v g1) h)
    lives (block f i c b) n g p = onward (goes c ≡ true) (make_block most g) (count_goes c p.1)
    lives (send above r ms) n g p =
        onward_then (goes r ≡ true) ((goes r && messages_go ms) ≡ true) (value_of most r n g) (λ v. messages_value most ms above v n) (lives r n g p.0)
        (λ v g1 h. onward_more (messages_go ms ≡ true) ((goes r && messages_go ms) ≡ true) (messages_value most ms above v n g1) (messages_live ms above v n g1 p.1) (and_from (goes r) (messages_go ms) h))
    lives (one_sided side x a) n g p =
        onward_then (goes x ≡ true) (goes x ≡ true) (value_of most x n g) (λ v. sided most side v (body_value most a n)) (lives x n g p.0) (λ v g1 h. onward (goes x ≡ true) (sided most side v (body_value most a n) g1) h)
    lives (two_sided side x a b) n g p =
        onward_then (goes x ≡ true) ((goes x && (body_goes a || body_goes b)) ≡ true) (value_of most x n g) (λ v. chosen most side v (body_value most a n) (body_value most b n)) (lives x n g p.0)
        (λ v g1 h. onward_more ((body_goes a || body_goes b) ≡ true) ((goes x && (body_goes a || body_goes b)) ≡ true) (chosen most side v (body_value most a n) (body_value most b n) g1)
        (chosen_onward ((body_goes a || body_goes b) ≡ true) side v (body_value most a n) (body_value most b n) g1
        (onward_more (body_goes a ≡ true) ((body_goes a || body_goes b) ≡ true) (body_value most a n g1) (body_lives a n g1 p.1) (or_left (body_goes a) (body_goes b)))
        (onward_more (body_goes b ≡ true) ((body_goes a || body_goes b) ≡ true) (body_value most b n g1) (body_lives b n g1 p.2) (or_second (body_goes a) (body_goes b))))
        (and_from (goes x) (body_goes a || body_goes b) h))
    lives (loop kind x a) n g p = turns_onward (body_goes x ≡ true) n kind (body_value most x n) (body_value most a n) g (λ h. body_lives x n h p.0)

    pub body_lives : (b : Body) (n : ℕ) (g : Going) → BodyPlaced literals b → Onward (body_goes b ≡ true) (body_value most b n g)
    body_lives nothing n g p = refl
    body_lives (last x) n g p = lives x n g p
    body_lives (next x b) n g p =
        onward_then (goes x ≡ true) ((goes x && body_goes b) ≡ true) (value_of most x n g) (λ v. body_value most b n) (lives x n g p.0)
        (λ v g1 h. onward_more (body_goes b ≡ true) ((goes x && body_goes b) ≡ true) (body_value most b n g1) (body_lives b n g1 p.1) (and_from (goes x) (body_goes b) h))
    body_lives (returned x) n g p =
        onward_then (Unit {0}) (false ≡ true) (value_of most x n g) (λ v. return_value most v) (onward (Unit {0}) (value_of most x n g) tt) (λ v g1 h. return_onward Value (false ≡ true) v g1)

    messages_live : (ms : Messages) (above : Bool) (r : Value) (n : ℕ) (g : Going) → MessagesPlaced literals above ms → Onward (messages_go ms ≡ true) (messages_value most ms above r n g)
    messages_live (only s ns) above r n g p =
        onward_then (nodes_go ns ≡ true) (nodes_go ns ≡ true) (nodes_values most ns [] n g) _ (nodes_live ns [] n g p.0) (λ vs g1 h. onward (nodes_go ns ≡ true) _ h)
    messages_live (also s ns ms) above r n g p =
        onward_then (nodes_go ns ≡ true) ((nodes_go ns && messages_go ms) ≡ true) _ (λ v. messages_value most ms above r n)
        (onward_then (nodes_go ns ≡ true) (nodes_go ns ≡ true) (nodes_values most ns [] n g) _ (nodes_live ns [] n g p.0) (λ vs g1 h. onward (nodes_go ns ≡ true) _ h))
        (λ v g1 h. onward_more (messages_go ms ≡ true) ((nodes_go ns && messages_go ms) ≡ true) (messages_value most ms above r n g1) (messages_live ms above r n g1 p.2) (and_from (nodes_go ns) (messages_go ms) h))

    pub nodes_live : (ns : Nodes) (vs : List Value) (n : ℕ) (g : Going) → NodesPlaced literals ns → Onward (nodes_go ns ≡ true) (nodes_values most ns vs n g)
    nodes_live none vs n g p = refl
    nodes_live (node x xs) vs n g p =
        onward_then (goes x ≡ true) ((goes x && nodes_go xs) ≡ true) (value_of most x n g) (λ v. nodes_values most xs (v ∷ vs) n) (lives x n g p.0)
        (λ v g1 h. onward_more (nodes_go xs ≡ true) ((goes x && nodes_go xs) ≡ true) (nodes_values most xs (v ∷ vs) n g1) (nodes_live xs (v ∷ vs) n g1 p.1) (and_from (goes x) (nodes_go xs) h))
