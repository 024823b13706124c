-- What a walk comes to, piece by piece.
use Rattle.std.proofs.Common.{◌≡◌, ℕ, suc, ◌+◌, ◌==◌, Bool, true, false, List, [], ◌∷◌, ◌++◌, length, drop, Option, Some, ap, ◌∙◌, subst, arith}
use Rattle.std.specs.Prelude.{if◌then◌else◌}
use Rattle.st_emit.specs.declared.instruction.Instruction.{Instruction}
use Rattle.st_emit.specs.Literals.{LiteralView}
use Rattle.st_emit.specs.Steps.{size, size_of}
use Rattle.st_resolved.specs.declared.reading.Found.{Found}
use Rattle.st_resolved.specs.Instructions.{instruction, read_as}
use Rattle.st_meaning.specs.declared.deed.Value.{Value}
use Rattle.st_meaning.specs.inside.Values.{DeedView}
use Rattle.st_meaning.specs.inside.Runs.{Going, Outcome, went, over, long, stuck, unfinished, Run, then_go, did, ends}
use Rattle.st_meaning.specs.inside.Walks.{Next, act_found, act, walk}

module _ (most : ℕ) (literals : List LiteralView) (bytes : List ℕ) where
  abbrev pub go : ℕ → Next
  go n = walk most literals bytes n

  -- these instructions stand at this place
  abbrev pub Stand : ℕ → List Instruction → Type 0
  Stand at [] = Unit {0}
  Stand at (x ∷ xs) = (instruction (drop at bytes) ≡ Some (record { step = read_as x; size = size_of x })) × Stand (at + size_of x) xs

  pub stand_front : (at : ℕ) (a b : List Instruction) → Stand at (a ++ b) → Stand at a
  stand_front at [] b h = tt
  stand_front at (x ∷ a) b h = (h.0, stand_front (at + size_of x) a b h.1)

  pub stand_back : (at : ℕ) (a b : List Instruction) → Stand at (a ++ b) → Stand (at + size a) b
  stand_back at [] b h = let e : at ≡ at + 0 = omega arith in subst (λ n. Stand n b) e h
  stand_back at (x ∷ a) b h =
      let e : at + size_of x + size a ≡ at + (size_of x + size a) = omega arith in
      subst (λ n. Stand n b) e (stand_back (at + size_of x) a b h.1)

  -- the walk goes from one place, stack and state to another
  pub record Comes (at : ℕ) (s : List Value) (g : Going) (at' : ℕ) (s' : List Value) (g' : Going) : Type 0 where
    pub by : (k : ℕ) → (j : ℕ) × (go j at s g ≡ go k at' s' g')

  -- it does what a run does that comes to this outcome: it goes on at a place with a stack, or it is over
  abbrev pub Leads : {A : Type 0} → ℕ → List Value → Going → ℕ → (A → List Value) → Outcome A → Type 0
  Leads at s g at' st (went x g') = Comes at s g at' (st x) g'
  Leads at s g at' st (over d) = (j : ℕ) × (go j at s g ≡ over d)
  Leads at s g at' st long = (j : ℕ) × (go j at s g ≡ long)
  Leads at s g at' st (stuck d) = (j : ℕ) × (go j at s g ≡ stuck d)
  Leads at s g at' st unfinished = Unit {0}

  pub comes_leads : {A : Type 0} (at at1 at2 : ℕ) (s s1 : List Value) (g g1 : Going) (st : A → List Value) (o : Outcome A) → Comes at s g at1 s1 g1 → Leads at1 s1 g1 at2 st o → Leads at s g at2 st o
  comes_leads at at1 at2 s s1 g g1 st (went x g') c l = record { by = λ k. let b = l.by k in let a = c.by b.0 in (a.0, a.1 ∙ b.1) }
  comes_leads at at1 at2 s s1 g g1 st (over d) c l = let a = c.by l.0 in (a.0, a.1 ∙ l.1)
  comes_leads at at1 at2 s s1 g g1 st long c l = let a = c.by l.0 in (a.0, a.1 ∙ l.1)
  comes_leads at at1 at2 s s1 g g1 st (stuck d) c l = let a = c.by l.0 in (a.0, a.1 ∙ l.1)
  comes_leads at at1 at2 s s1 g g1 st unfinished c l = tt

  -- one run after another
  pub leads_then : {A B : Type 0} (at at1 at2 : ℕ) (s : List Value) (g : Going) (st1 : A → List Value) (st2 : B → List Value) (o : Outcome A) (f : A → Run B)
      → Leads at s g at1 st1 o → ((x : A) (g' : Going) → Leads at1 (st1 x) g' at2 st2 (f x g')) → Leads at s g at2 st2 (then_go o f)
  leads_then at at1 at2 s g st1 st2 (went x g') f l r = comes_leads at at1 at2 s (st1 x) g g' st2 (f x g') l (r x g')
  leads_then at at1 at2 s g st1 st2 (over d) f l r = l
  leads_then at at1 at2 s g st1 st2 long f l r = l
  leads_then at at1 at2 s g st1 st2 (stuck d) f l r = l
  leads_then at at1 at2 s g st1 st2 unfinished f l r = tt

  pub leads_at : {A : Type 0} (at at1 at2 : ℕ) (s : List Value) (g : Going) (st : A → List Value) (o : Outcome A) → at1 ≡ at2 → Leads at s g at1 st o → Leads at s g at2 st o
  leads_at at at1 at2 s g st o e l = subst (λ n. Leads at s g n st o) e l

  -- one instruction
  pub one_act : (at : ℕ) (x : Instruction) (s : List Value) (g : Going) (xs : List Instruction) → Stand at (x ∷ xs) → (k : ℕ) → go (suc k) at s g ≡ act most literals (read_as x) (go k) (at + size_of x) s g
  unfolding walk
  one_act at x s g xs h k = ap (λ (o : Option Found). act_found most literals o (go k) at s g) h.0

  -- one instruction that does what a run does, and goes on
  pub act_leads : {A : Type 0} (at at' : ℕ) (s : List Value) (g : Going) (st : A → List Value) (o : Outcome A) → ((k : ℕ) → go (suc k) at s g ≡ then_go o (λ x. go k at' (st x))) → Leads at s g at' st o
  act_leads at at' s g st (went x g') h = record { by = λ k. (suc k, h k) }
  act_leads at at' s g st (over d) h = (1, h 0)
  act_leads at at' s g st long h = (1, h 0)
  act_leads at at' s g st (stuck d) h = (1, h 0)
  act_leads at at' s g st unfinished h = tt

  -- a run that is over at once
  pub over_leads : {A : Type 0} (at at' : ℕ) (s : List Value) (g : Going) (st : A → List Value) (d : DeedView) → ((k : ℕ) → go (suc k) at s g ≡ did most {A = Value} d ends g) → Leads at s g at' st (did most {A = A} d ends g)
  unfolding did
  over_leads at at' s g st d h = by_test (length g.deeds == most) h
    where
      by_test : (b : Bool) → ((k : ℕ) → go (suc k) at s g ≡ (if b then long else over (record g { deeds = g.deeds ++ d ∷ [] }))) → Leads at s g at' st (if b then long else over (record g { deeds = g.deeds ++ d ∷ [] }))
      by_test true h = (1, h 0)
      by_test false h = (1, h 0)
