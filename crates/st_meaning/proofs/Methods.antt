-- The walk over a method's code, and over a block's, does what its trace does.
use Rattle.std.proofs.Common.{◌≡◌, ℕ, zero, suc, ◌+◌, Bool, true, false, ◌&&◌, List, [], ◌∷◌, ◌++◌, refl, ap, arith}
use Rattle.st_emit.specs.declared.instruction.Constant.TheVariants.{Receiver}
use Rattle.st_emit.specs.declared.instruction.InstructionOperand.TheVariants as place
use Rattle.st_emit.specs.declared.instruction.Instruction.{Instruction}
use Rattle.st_emit.specs.declared.instruction.Instruction.TheVariants.{PopStore, ReturnBlock}
use Rattle.st_emit.specs.Literals.{LiteralView}
use Rattle.st_emit.specs.Steps.{size, size_of}
use Rattle.st_emit.specs.Nodes.{Body, nothing, last, next, returned, returns}
use Rattle.st_emit.specs.Emitting.{for_value, for_effect, code_of, body_code, block_end, method_code, pop_arguments}
use Rattle.st_resolved.specs.inside.Placed.{BodyPlaced}
use Rattle.st_meaning.specs.inside.Values.{constant_value}
use Rattle.st_meaning.specs.declared.deed.Variable.TheVariants.{Temporary}
use Rattle.st_meaning.specs.declared.deed.Value.{Value}
use Rattle.st_meaning.specs.declared.deed.Value.TheVariants.{First}
use Rattle.st_meaning.specs.inside.Runs.{Going, Outcome, went, over, long, stuck, unfinished, then_go, ◌>>=◌, return_value, assign_to}
use Rattle.st_meaning.specs.inside.Traces.{value_of, body_value, method_value}
use Rattle.st_meaning.specs.inside.Walks.{walk}
use Rattle.st_meaning.specs.inside.Blocks.{arguments_on, take_arguments, block_value}
use Rattle.st_meaning.specs.inside.Meanings.{IsEnded}
use Rattle.st_meaning.proofs.Living.{BodyFew, goes, body_goes, lives, body_lives}
use Rattle.st_meaning.proofs.Leads as leads
use Rattle.st_meaning.proofs.Follows.{node_leads, body_leads, then_leads, leads_where, constant_returns, node_returns, returns_leads, stores, front, back}

module _ (most : ℕ) (literals : List LiteralView) (bytes : List ℕ) where
  abbrev pub Stand : ℕ → List Instruction → Type 0
  Stand at xs = leads.Stand most literals bytes at xs

  abbrev Leads : {A : Type 0} → ℕ → List Value → Going → ℕ → (A → List Value) → Outcome A → Type 0
  Leads at s g at' st o = leads.Leads most literals bytes at s g at' st o

  -- a method ends, so where it would go on doesn't matter
  method_leads : (b : Body) (m at end : ℕ) (g : Going) (st : Value → List Value) → BodyPlaced literals b → BodyFew b → Stand at (method_code b) → Leads at [] g end st (method_value most b m g)
  method_leads nothing m at end g st p few has = constant_returns most literals bytes Receiver at end [] g st has
  method_leads (last n) m at end g st p few has =
      let c = code_of for_effect n in
      then_leads most literals bytes at (at + size c) end [] g (λ (v : Value). []) st (value_of most n m g) (λ v. return_value most (constant_value Receiver))
      (node_leads most literals bytes n for_effect m at [] g p few (front most literals bytes at c _ has))
      (λ v g'. constant_returns most literals bytes Receiver (at + size c) end [] g' st (back most literals bytes at c _ has))
  method_leads (next n b) m at end g st p few has =
      let c = code_of for_effect n in
      leads_where most literals bytes (λ (v : Value). goes n ≡ true) at (at + size c) end [] g (λ (v : Value). []) st (value_of most n m g) (λ v. method_value most b m)
      (lives most literals n m g p.0) (node_leads most literals bytes n for_effect m at [] g p.0 few.0 (front most literals bytes at c _ has))
      (λ v g' alive. method_leads b m (at + size c) end g' st p.1 (few.1 alive) (back most literals bytes at c _ has))
  method_leads (returned n) m at end g st p few has = node_returns most literals bytes n m at end [] g st has (λ h. node_leads most literals bytes n for_value m at [] g p few h)

  -- a block's arguments are popped, the last first
  arguments_lead : (first n at : ℕ) (g : Going) → Stand at (pop_arguments first n) → Leads at (arguments_on first n) g (at + size (pop_arguments first n)) (λ (v : Value). []) (take_arguments most first n g)
  arguments_lead first zero at g has = record { by = λ k. let e : at ≡ at + 0 = omega arith in (k, ap (λ i. walk most literals bytes k i [] g) e) }
  arguments_lead first (suc n) at g has =
      let x = PopStore (place.Temporary (first + n)) in
      let e : at + size_of x + size (pop_arguments first n) ≡ at + size (pop_arguments first (suc n)) = omega arith in
      leads.leads_at most literals bytes at _ _ (arguments_on first (suc n)) g (λ (v : Value). []) (take_arguments most first (suc n) g) e
      (then_leads most literals bytes at (at + size_of x) _ (arguments_on first (suc n)) g (λ (v : Value). arguments_on first n) (λ (v : Value). []) (assign_to most (Temporary (first + n)) (First (Temporary (first + n))) g) (λ v. take_arguments most first n)
      (stores most literals bytes for_effect (place.Temporary (first + n)) at (First (Temporary (first + n))) (arguments_on first n) g (pop_arguments first n) has)
      (λ v g'. arguments_lead first n (at + size_of x) g' has.1))

  -- behind a return no code goes on
  second : (a b : Bool) → (a && b) ≡ true → b ≡ true
  second true b e = e
  second false b e = absurd cc

  ended : (b : Body) → returns b ≡ true → body_goes b ≡ true → ⊥
  ended nothing e alive = cc
  ended (last n) e alive = cc
  ended (next n b) e alive = ended b e (second (goes n) (body_goes b) alive)
  ended (returned n) e alive = cc

  -- what a block answers
  answer_leads : (b : Body) (m at end : ℕ) (g : Going) (st : Value → List Value) → BodyPlaced literals b → BodyFew b → Stand at (body_code b ++ block_end (returns b))
      → Leads at [] g end st (then_go (body_value most b m g) (λ v. return_value most v))
  answer_leads b m at end g st p few has = by_end (returns b) refl has
    where
      by_end : (r : Bool) → returns b ≡ r → Stand at (body_code b ++ block_end r) → Leads at [] g end st (then_go (body_value most b m g) (λ v. return_value most v))
      by_end false e has =
          then_leads most literals bytes at (at + size (body_code b)) end [] g (λ (v : Value). v ∷ []) st (body_value most b m g) (λ v. return_value most v)
          (body_leads most literals bytes b m at [] g p few (front most literals bytes at (body_code b) _ has))
          (λ v g'. returns_leads most literals bytes (at + size (body_code b)) end ReturnBlock [] (v ∷ []) g' st v (back most literals bytes at (body_code b) _ has) (λ k. refl))
      by_end true e has =
          leads_where most literals bytes (λ (v : Value). body_goes b ≡ true) at (at + size (body_code b)) end [] g (λ (v : Value). v ∷ []) st (body_value most b m g) (λ v. return_value most v)
          (body_lives most literals b m g p) (body_leads most literals bytes b m at [] g p few (front most literals bytes at (body_code b) _ has))
          (λ v g' alive. absurd (ended b e alive))

  block_leads : (first i : ℕ) (b : Body) (m at end : ℕ) (g : Going) (st : Value → List Value) → BodyPlaced literals b → BodyFew b → Stand at (pop_arguments first i ++ (body_code b ++ block_end (returns b)))
      → Leads at (arguments_on first i) g end st (block_value most first i b m g)
  block_leads first i b m at end g st p few has =
      let c = pop_arguments first i in
      then_leads most literals bytes at (at + size c) end (arguments_on first i) g (λ (v : Value). []) st (take_arguments most first i g) (λ v. (body_value most b m >>= λ w. return_value most w))
      (arguments_lead first i at g (front most literals bytes at c _ has))
      (λ v g'. answer_leads b m (at + size c) end g' st p few (back most literals bytes at c _ has))

  -- what leads to an end comes to it
  reached : (at end : ℕ) (s : List Value) (g : Going) (st : Value → List Value) (o : Outcome Value) → IsEnded o → Leads at s g end st o → (n : ℕ) × (walk most literals bytes n at s g ≡ o)
  reached at end s g st (went v g') i l = absurd i
  reached at end s g st (over d) i l = l
  reached at end s g st long i l = l
  reached at end s g st (stuck d) i l = absurd i
  reached at end s g st unfinished i l = absurd i

  pub method_comes : (b : Body) (m : ℕ) (g : Going) → BodyPlaced literals b → BodyFew b → Stand 0 (method_code b) → IsEnded (method_value most b m g) → (n : ℕ) × (walk most literals bytes n 0 [] g ≡ method_value most b m g)
  method_comes b m g p few has i = let st : Value → List Value = λ v. [] in reached 0 0 [] g st (method_value most b m g) i (method_leads b m 0 0 g st p few has)

  pub block_comes : (first n : ℕ) (b : Body) (m at : ℕ) (g : Going) → BodyPlaced literals b → BodyFew b → Stand at (pop_arguments first n ++ (body_code b ++ block_end (returns b))) → IsEnded (block_value most first n b m g)
      → (j : ℕ) × (walk most literals bytes j at (arguments_on first n) g ≡ block_value most first n b m g)
  block_comes first n b m at g p few has i = let st : Value → List Value = λ v. [] in reached at at (arguments_on first n) g st (block_value most first n b m g) i (block_leads first n b m at at g st p few has)
