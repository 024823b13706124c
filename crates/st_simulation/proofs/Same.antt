-- Two memories, one of births and one of pointers, or two of pointers, at which steps do the same.
--
-- The second may be bounded, and then doesn't make what the first makes beyond the capacities. From there on nothing is
-- said of the second, and of the first that it stays beyond them, since no step drops anything.
use Rattle.std.proofs.Common.{◌≡◌, ℕ, List, [], ◌∷◌, zero, suc, Option, Some, None, Bool, true, false, refl, ap, ◌∙◌, arith, length, is_some, ◌⊎◌, inl, inr}
use Rattle.std.specs.Prelude.{if◌then◌else◌, slice_get, slice_set, ◌==◌, ℤ, pos, negsuc}
use Rattle.std.proofs.lemmas.Bool.Decides.{nat_tests}
use Rattle.std.specs.Option.{option_map}
use Rattle.st_model.specs.declared.dead.Dead.{Dead}
use Rattle.st_model.specs.Values.{Value, Small, Ref, small_integer, renamed, renamed_all, IsLive, AllLive}
use Rattle.st_model.specs.Objects.{Object, renamed_object, IsLiveObject, words_of, with_field}
use Rattle.st_model.specs.declared.page.PageObject.{PageObject}
use Rattle.st_model.specs.Outcomes.{Outcome, renamed_outcome, IsLiveOutcome}
use Rattle.st_model.specs.Sends.{Call}
use Rattle.st_model.specs.Outcomes as outcome
use Rattle.st_model.specs.Steps.{code_byte, same_value}
use Rattle.st_model.specs.declared.device.Device.{Device}
use Rattle.st_model.specs.Surroundings.{Change, Hold, AddSignal, TakeSignal, SetDue, SetLow, MoveMouse, AddWord, TakeWord, SetSecondClock, SetMillisecondClock, named_by, renamed_change}
use Rattle.st_model.specs.inside.Calls.{itself}
use Rattle.st_model.specs.Show.{renamed_registers, renamed_world, renamed_head, renamed_option}
use Rattle.st_model.specs.Machine.{ObjectMemory, Registers, Head, State, Transition, Died, Went, Step, is_there, all_there, has_room, used, roots_of, answer, die, after, ◌>>=◌, ◌>>◌, or_left, tried}
use Rattle.std.proofs.lemmas.Bool.{and_parts}

pub set_all_live : (live : ℕ → Type 0) (vs : List Value) (i : ℕ) (v : Value) → AllLive live vs → IsLive live v → AllLive live (slice_set vs i v)
set_all_live live [] i v h k = h
set_all_live live (x ∷ vs) zero v h k = (k, h.1)
set_all_live live (x ∷ vs) (suc i) v h k = (h.0, set_all_live live vs i v h.1 k)

pub set-renamed : (f : ℕ → ℕ) (vs : List Value) (i : ℕ) (v : Value) → slice_set (renamed_all f vs) i (renamed f v) ≡ renamed_all f (slice_set vs i v)
set-renamed f [] i v = refl
set-renamed f (x ∷ vs) zero v = refl
set-renamed f (x ∷ vs) (suc i) v = ap (λ ws. renamed f x ∷ ws) (set-renamed f vs i v)

pub length-renamed : (f : ℕ → ℕ) (vs : List Value) → length (renamed_all f vs) ≡ length vs
length-renamed f [] = refl
length-renamed f (v ∷ vs) = ap (λ n. suc n) (length-renamed f vs)

pub code_byte-renamed : (f : ℕ → ℕ) (o : Object) (ip : ℤ) → code_byte (renamed_object f o) ip ≡ code_byte o ip
code_byte-renamed f o (pos i) = rw (length-renamed f o.fields) refl
code_byte-renamed f o (negsuc i) = refl

pub stored_is_live : (live : ℕ → Type 0) (o : Object) (i : ℕ) (v : Value) → IsLiveObject live o → IsLive live v → IsLiveObject live (with_field o i v)
stored_is_live live o i v h k = record { class = h.class; fields = set_all_live live o.fields i v h.fields k }

pub with_field-renamed : (f : ℕ → ℕ) (o : Object) (i : ℕ) (v : Value) → with_field (renamed_object f o) i (renamed f v) ≡ renamed_object f (with_field o i v)
with_field-renamed f o i v = λ j. record { class = f o.class; kind = o.kind; fields = set-renamed f o.fields i v j; units = o.units }

abbrev pub OptionSame : (ℕ → Type 0) → (ℕ → ℕ) → Option Object → Option Object → Type 0
OptionSame live f None o = o ≡ None
OptionSame live f (Some a) o = IsLiveObject live a × (o ≡ Some (renamed_object f a))

-- when the first memory is beyond the capacities, where the second may be bounded
pub record Beyond {H : Type 0} (M : ObjectMemory H) (live : ℕ → Type 0) : Type 1 where
  pub over : H → Type 0
  pub lax : Type 0
  pub over_lax : (h : H) → over h → lax
  pub over_live : (h : H) (n : ℕ) → over h → live n
  pub over_replace : (h : H) (n : ℕ) (o p : Object) → over h → M.read h n ≡ Some o → words_of p ≡ words_of o → over (M.replace h n p)
  pub over_exchange : (h : H) (a b : ℕ) (o p : Object) → over h → M.read h a ≡ Some o → M.read h b ≡ Some p → over (M.exchange h a b)
  pub over_append : (h : H) (o : Object) → over h → over (M.append h o)

-- never
abbrev pub never_beyond : {H : Type 0} (M : ObjectMemory H) (live : ℕ → Type 0) → Beyond M live
never_beyond M live = record {
  over = λ h. ⊥;
  lax = ⊥;
  over_lax = λ h o. o;
  over_live = λ h n o. absurd o;
  over_replace = λ h n o p v e f. v;
  over_exchange = λ h a b o p v e f. v;
  over_append = λ h o v. v;
}

-- how names of one memory stand for names of the other, through one cycle
pub record Simulation {H K : Type 0} (M : ObjectMemory H) (N : ObjectMemory K) : Type 1 where
  pub live : ℕ → Type 0
  pub name : ℕ → ℕ
  pub heaps : H → K → Type 0
  -- what is known besides of a name that stands in the first memory, or is a root
  pub there : H → ℕ → Type 0
  -- the capacities
  pub limits : Head → Type 0
  -- steps may make objects
  pub makes : Type 0
  pub beyond : Beyond M live
  pub injective : (m n : ℕ) → live m → live n → name m ≡ name n → m ≡ n
  pub read : (h : H) (k : K) (n : ℕ) → heaps h k → live n → OptionSame live name (M.read h n) (N.read k (name n))
  pub read_there : (h : H) (k : K) (n : ℕ) (o : Object) → heaps h k → M.read h n ≡ Some o → there h n × IsLiveObject (there h) o
  pub replace : (h : H) (k : K) (n : ℕ) (o p : Object) → heaps h k → live n → M.read h n ≡ Some o → IsLiveObject live p → IsLiveObject (there h) p
      → heaps (M.replace h n p) (N.replace k (name n) (renamed_object name p))
  pub exchange : (h : H) (k : K) (a b : ℕ) (o p : Object) → heaps h k → live a → live b → M.read h a ≡ Some o → M.read h b ≡ Some p
      → heaps (M.exchange h a b) (N.exchange k (name a) (name b))
  pub append : (h : H) (k : K) (a : Head) (o : Object) → heaps h k → limits a → has_room M a h o ≡ true → IsLiveObject live o → IsLiveObject (there h) o → heaps (M.append h o) (N.append k (renamed_object name o))
  pub next_live : (h : H) (k : K) → heaps h k → live (M.next h)
  pub next : (h : H) (k : K) → heaps h k → N.next k ≡ name (M.next h)
  pub named_live : (h : H) (k : K) (p : PageObject) → heaps h k → live (M.named h p) × there h (M.named h p)
  pub named : (h : H) (k : K) (p : PageObject) → heaps h k → N.named k p ≡ name (M.named h p)
  pub pointer : (h : H) (k : K) (n : ℕ) (o : Object) → heaps h k → live n → M.read h n ≡ Some o → N.pointer k (name n) ≡ M.pointer h n
  pub borne_live : (h : H) (k : K) (p n : ℕ) → heaps h k → M.borne_by h p ≡ Some n → live n
  pub borne_by : (h : H) (k : K) (p : ℕ) → heaps h k → N.borne_by k p ≡ option_map name (M.borne_by h p)
  pub used : (h : H) (k : K) → heaps h k → used N k ≡ used M h
  -- and_parts have room for a new object, or neither has; or only the first has, and is beyond the capacities then
  pub rooms : (h : H) (k : K) (a b : Head) (o : Object) → makes → heaps h k → limits a → b ≡ renamed_head name a
      → (has_room N b k (renamed_object name o) ≡ has_room M a h o) ⊎ ((has_room M a h o ≡ true) × beyond.over (M.append h o))
  pub there_replace : (h : H) (n m : ℕ) (o p : Object) → M.read h n ≡ Some o → there h m → there (M.replace h n p) m
  pub there_exchange : (h : H) (a b m : ℕ) (o p : Object) → M.read h a ≡ Some o → M.read h b ≡ Some p → there h m → there (M.exchange h a b) m
  pub there_append : (h : H) (m : ℕ) (o : Object) → there h m → there (M.append h o) m

-- the same names where nothing is made: then the first is never beyond the capacities
abbrev pub strict : {H K : Type 0} {M : ObjectMemory H} {N : ObjectMemory K} → Simulation M N → Simulation M N
strict {M = M} sim = record sim { makes = ⊥; beyond = never_beyond M sim.live; rooms = λ h k a b o m s l e. absurd m }

pub record StateSame {H K : Type 0} {M : ObjectMemory H} {N : ObjectMemory K} (sim : Simulation M N) (s : State H) (t : State K) : Type 0 where
  pub memory : sim.heaps s.memory t.memory
  pub limits : sim.limits s.head
  pub there : AllLive (sim.there s.memory) (roots_of s)
  pub roots : AllLive sim.live (roots_of s)
  pub registers : t.registers ≡ renamed_registers sim.name s.registers
  pub world : t.world ≡ renamed_world sim.name s.world
  pub head : t.head ≡ renamed_head sim.name s.head

abbrev pub TransitionSame : {H K A B : Type 0} {M : ObjectMemory H} {N : ObjectMemory K} (sim : Simulation M N)
    → (A → Type 0) → (A → B) → Transition (State H) A → Transition (State K) B → Type 0
TransitionSame sim P r (Died a) (Died b) = (b ≡ a) ⊎ sim.beyond.lax
TransitionSame sim P r (Died a) (Went b t) = sim.beyond.lax
TransitionSame sim P r (Went a s) (Died b) = P a × sim.beyond.over s.memory
TransitionSame sim P r (Went a s) (Went b t) = (P a × sim.beyond.over s.memory) ⊎ (P a × (b ≡ r a) × StateSame sim s t)

-- the first goes on beyond the capacities, if it goes on
abbrev pub StaysOver : {H K A : Type 0} {M : ObjectMemory H} {N : ObjectMemory K} (sim : Simulation M N) → (A → Type 0) → Transition (State H) A → Type 0
StaysOver sim P (Died a) = Unit {0}
StaysOver sim P (Went a s) = P a × sim.beyond.over s.memory

-- from states that are the same, and_parts steps die of one cause, or answer the same and leave states that are the same
pub record Same {H K A B : Type 0} {M : ObjectMemory H} {N : ObjectMemory K} (sim : Simulation M N)
    (P : A → Type 0) (r : A → B) (m : Step H A) (n : Step K B) : Type 0 where
  pub go : (s : State H) (t : State K) → StateSame sim s t → TransitionSame sim P r (m.run s) (n.run t)
  pub stay : (s : State H) → sim.beyond.over s.memory → StaysOver sim P (m.run s)

-- nothing is said of the second
over-same : {H K A B : Type 0} {M : ObjectMemory H} {N : ObjectMemory K} (sim : Simulation M N)
    (P : A → Type 0) (r : A → B) (o : Transition (State H) A) (q : Transition (State K) B) → sim.beyond.lax → StaysOver sim P o → TransitionSame sim P r o q
over-same sim P r (Died a) (Died b) l h = inr l
over-same sim P r (Died a) (Went b t) l h = l
over-same sim P r (Went a s) (Died b) l h = h
over-same sim P r (Went a s) (Went b t) l h = inl h

after-same : {H K A B A' B' : Type 0} {M : ObjectMemory H} {N : ObjectMemory K} (sim : Simulation M N)
    (P : A → Type 0) (r : A → B) (Q : A' → Type 0) (q : A' → B')
    (o : Transition (State H) A) (o' : Transition (State K) B) (f : A → Step H A') (g : B → Step K B')
    → TransitionSame sim P r o o' → ((a : A) → P a → Same sim Q q (f a) (g (r a)))
    → TransitionSame sim Q q (after o (λ a s. (f a).run s)) (after o' (λ b t. (g b).run t))
unfolding after
after-same sim P r Q q (Died a) (Died b) f g h k = h
after-same sim P r Q q (Died a) (Went b t) f g h k = over-same sim Q q (Died a) ((g b).run t) h tt
after-same sim P r Q q (Went a s) (Died b) f g h k = over-same sim Q q ((f a).run s) (Died b) (sim.beyond.over_lax s.memory h.1) ((k a h.0).stay s h.1)
after-same sim P r Q q (Went a s) (Went b t) f g (inl h) k = over-same sim Q q ((f a).run s) ((g b).run t) (sim.beyond.over_lax s.memory h.1) ((k a h.0).stay s h.1)
after-same sim P r Q q (Went a s) (Went b t) f g (inr h) k = rw h.1 ((k a h.0).go s t h.2)

after-stay : {H K A B A' B' : Type 0} {M : ObjectMemory H} {N : ObjectMemory K} (sim : Simulation M N)
    (P : A → Type 0) (r : A → B) (Q : A' → Type 0) (q : A' → B')
    (o : Transition (State H) A) (f : A → Step H A') (g : B → Step K B')
    → StaysOver sim P o → ((a : A) → P a → Same sim Q q (f a) (g (r a)))
    → StaysOver sim Q (after o (λ a s. (f a).run s))
unfolding after
after-stay sim P r Q q (Died a) f g h k = tt
after-stay sim P r Q q (Went a s) f g h k = (k a h.0).stay s h.1

pub then-same : {H K A B A' B' : Type 0} {M : ObjectMemory H} {N : ObjectMemory K} (sim : Simulation M N)
    (P : A → Type 0) (r : A → B) (Q : A' → Type 0) (q : A' → B')
    (m : Step H A) (n : Step K B) (f : A → Step H A') (g : B → Step K B')
    → Same sim P r m n → ((a : A) → P a → Same sim Q q (f a) (g (r a))) → Same sim Q q (m >>= f) (n >>= g)
unfolding ◌>>=◌
then-same sim P r Q q m n f g h k = record {
  go = λ s t st. after-same sim P r Q q (m.run s) (n.run t) f g (h.go s t st) k;
  stay = λ s o. after-stay sim P r Q q (m.run s) f g (h.stay s o) k;
}

-- nothing is asked of the answer, which is the same
abbrev pub Anything : {A : Type 0} → A → Type 0
Anything a = Unit {0}

pub next-same : {H K A B A' B' : Type 0} {M : ObjectMemory H} {N : ObjectMemory K} (sim : Simulation M N)
    (P : A → Type 0) (r : A → B) (Q : A' → Type 0) (q : A' → B')
    (m : Step H A) (n : Step K B) (f : Step H A') (g : Step K B')
    → Same sim P r m n → Same sim Q q f g → Same sim Q q (m >> f) (n >> g)
unfolding ◌>>◌
next-same sim P r Q q m n f g h k = then-same sim P r Q q m n (λ a. f) (λ a. g) h (λ a p. k)

pub answer-same : {H K A B : Type 0} {M : ObjectMemory H} {N : ObjectMemory K} (sim : Simulation M N) (P : A → Type 0) (r : A → B) (a : A) (b : B)
    → P a → b ≡ r a → Same sim P r (answer a) (answer b)
unfolding answer
answer-same sim P r a b h e = record { go = λ s t st. inr (h, e, st); stay = λ s o. (h, o) }

pub die-same : {H K A B : Type 0} {M : ObjectMemory H} {N : ObjectMemory K} (sim : Simulation M N) (P : A → Type 0) (r : A → B) (cause : Dead)
    → Same sim P r (die cause) (die cause)
unfolding die
die-same sim P r cause = record { go = λ s t st. inl refl; stay = λ s o. tt }

-- values, lists of them, a value or none, and registers that stand for one another: those of the first memory live, and
-- those of the second are they with their names changed

pub record ValueNamed (lives : ℕ → Type 0) (f : ℕ → ℕ) (v w : Value) : Type 0 where
  pub live : IsLive lives v
  pub is : w ≡ renamed f v

abbrev pub ValueSame : {H K : Type 0} {M : ObjectMemory H} {N : ObjectMemory K} → Simulation M N → Value → Value → Type 0
ValueSame sim v w = ValueNamed sim.live sim.name v w

pub record ValuesNamed (lives : ℕ → Type 0) (f : ℕ → ℕ) (vs ws : List Value) : Type 0 where
  pub live : AllLive lives vs
  pub is : ws ≡ renamed_all f vs

abbrev pub ValuesSame : {H K : Type 0} {M : ObjectMemory H} {N : ObjectMemory K} → Simulation M N → List Value → List Value → Type 0
ValuesSame sim vs ws = ValuesNamed sim.live sim.name vs ws

abbrev pub IsLiveOption : (ℕ → Type 0) → Option Value → Type 0
IsLiveOption live None = Unit {0}
IsLiveOption live (Some v) = IsLive live v

pub record OptionNamed (lives : ℕ → Type 0) (f : ℕ → ℕ) (v w : Option Value) : Type 0 where
  pub live : IsLiveOption lives v
  pub is : w ≡ renamed_option f v

abbrev pub OptionalSame : {H K : Type 0} {M : ObjectMemory H} {N : ObjectMemory K} → Simulation M N → Option Value → Option Value → Type 0
OptionalSame sim v w = OptionNamed sim.live sim.name v w

abbrev pub IsLiveRegisters : (ℕ → Type 0) → Registers → Type 0
IsLiveRegisters live r = IsLive live r.active × IsLive live r.home × IsLive live r.method × IsLive live r.receiver

pub record RegistersNamed (lives : ℕ → Type 0) (f : ℕ → ℕ) (r q : Registers) : Type 0 where
  pub live : IsLiveRegisters lives r
  pub is : q ≡ renamed_registers f r

abbrev pub RegistersSame : {H K : Type 0} {M : ObjectMemory H} {N : ObjectMemory K} → Simulation M N → Registers → Registers → Type 0
RegistersSame sim r q = RegistersNamed sim.live sim.name r q

pub record ChangeNamed (lives : ℕ → Type 0) (f : ℕ → ℕ) (c d : Change) : Type 0 where
  pub live : AllLive lives (named_by c)
  pub is : d ≡ renamed_change f c

abbrev pub ChangeSame : {H K : Type 0} {M : ObjectMemory H} {N : ObjectMemory K} → Simulation M N → Change → Change → Type 0
ChangeSame sim c d = ChangeNamed sim.live sim.name c d

abbrev pub IsLiveCall : (ℕ → Type 0) → Call → Type 0
IsLiveCall live c = IsLive live c.method

abbrev pub renamed_call : (ℕ → ℕ) → Call → Call
renamed_call f c = record { method = renamed f c.method; arguments = c.arguments }

pub record CallNamed (lives : ℕ → Type 0) (f : ℕ → ℕ) (c d : Call) : Type 0 where
  pub live : IsLiveCall lives c
  pub is : d ≡ renamed_call f c

abbrev pub CallSame : {H K : Type 0} {M : ObjectMemory H} {N : ObjectMemory K} → Simulation M N → Call → Call → Type 0
CallSame sim c d = CallNamed sim.live sim.name c d

abbrev pub IsLiveAnyCall : (ℕ → Type 0) → Option Call → Type 0
IsLiveAnyCall live None = Unit {0}
IsLiveAnyCall live (Some c) = IsLiveCall live c

abbrev pub renamed_any_call : (ℕ → ℕ) → Option Call → Option Call
renamed_any_call f c = option_map (renamed_call f) c

pub record AnyCallNamed (lives : ℕ → Type 0) (f : ℕ → ℕ) (c d : Option Call) : Type 0 where
  pub live : IsLiveAnyCall lives c
  pub is : d ≡ renamed_any_call f c

abbrev pub AnyCallSame : {H K : Type 0} {M : ObjectMemory H} {N : ObjectMemory K} → Simulation M N → Option Call → Option Call → Type 0
AnyCallSame sim c d = AnyCallNamed sim.live sim.name c d

-- how a bytecode ends
-- steps that do the same, by what they answer: a value, values, a value or none, registers, the world, an object; something
-- that stays as it is; a call, or none; or how a bytecode ends

abbrev pub SameValue : {H K : Type 0} {M : ObjectMemory H} {N : ObjectMemory K} → Simulation M N → Step H Value → Step K Value → Type 0
SameValue sim m n = Same sim (IsLive sim.live) (renamed sim.name) m n

abbrev pub SameValues : {H K : Type 0} {M : ObjectMemory H} {N : ObjectMemory K} → Simulation M N → Step H (List Value) → Step K (List Value) → Type 0
SameValues sim m n = Same sim (AllLive sim.live) (renamed_all sim.name) m n

abbrev pub SameOption : {H K : Type 0} {M : ObjectMemory H} {N : ObjectMemory K} → Simulation M N → Step H (Option Value) → Step K (Option Value) → Type 0
SameOption sim m n = Same sim (IsLiveOption sim.live) (renamed_option sim.name) m n

abbrev pub SameRegisters : {H K : Type 0} {M : ObjectMemory H} {N : ObjectMemory K} → Simulation M N → Step H Registers → Step K Registers → Type 0
SameRegisters sim m n = Same sim (IsLiveRegisters sim.live) (renamed_registers sim.name) m n

abbrev pub SameObject : {H K : Type 0} {M : ObjectMemory H} {N : ObjectMemory K} → Simulation M N → Step H Object → Step K Object → Type 0
SameObject sim m n = Same sim (IsLiveObject sim.live) (renamed_object sim.name) m n

abbrev pub SameAnswer : {H K A : Type 0} {M : ObjectMemory H} {N : ObjectMemory K} → Simulation M N → Step H A → Step K A → Type 0
SameAnswer sim m n = Same sim Anything itself m n

abbrev pub SameCall : {H K : Type 0} {M : ObjectMemory H} {N : ObjectMemory K} → Simulation M N → Step H Call → Step K Call → Type 0
SameCall sim m n = Same sim (IsLiveCall sim.live) (renamed_call sim.name) m n

abbrev pub SameAnyCall : {H K : Type 0} {M : ObjectMemory H} {N : ObjectMemory K} → Simulation M N → Step H (Option Call) → Step K (Option Call) → Type 0
SameAnyCall sim m n = Same sim (IsLiveAnyCall sim.live) (renamed_any_call sim.name) m n

abbrev pub SameEnd : {H K : Type 0} {M : ObjectMemory H} {N : ObjectMemory K} → Simulation M N → Step H Outcome → Step K Outcome → Type 0
SameEnd sim m n = Same sim (IsLiveOutcome sim.live) (renamed_outcome sim.name) m n

-- one rule for each sort of answer, so that a search need not guess it
module _ {H K A B : Type 0} {M : ObjectMemory H} {N : ObjectMemory K} (sim : Simulation M N) (Q : A → Type 0) (q : A → B) where
  pub then_value-same : (m : Step H Value) (n : Step K Value) (f : Value → Step H A) (g : Value → Step K B)
      → SameValue sim m n → ((a b : Value) → ValueSame sim a b → Same sim Q q (f a) (g b)) → Same sim Q q (m >>= f) (n >>= g)
  then_value-same m n f g h k = then-same sim _ _ Q q m n f g h (λ a l. k a (renamed sim.name a) (record { live = l; is = refl }))

  pub then_values-same : (m : Step H (List Value)) (n : Step K (List Value)) (f : List Value → Step H A) (g : List Value → Step K B)
      → SameValues sim m n → ((a b : List Value) → ValuesSame sim a b → Same sim Q q (f a) (g b)) → Same sim Q q (m >>= f) (n >>= g)
  then_values-same m n f g h k = then-same sim _ _ Q q m n f g h (λ a l. k a (renamed_all sim.name a) (record { live = l; is = refl }))

  pub then_option-same : (m : Step H (Option Value)) (n : Step K (Option Value)) (f : Option Value → Step H A) (g : Option Value → Step K B)
      → SameOption sim m n → ((a b : Option Value) → OptionalSame sim a b → Same sim Q q (f a) (g b)) → Same sim Q q (m >>= f) (n >>= g)
  then_option-same m n f g h k = then-same sim _ _ Q q m n f g h (λ a l. k a (renamed_option sim.name a) (record { live = l; is = refl }))

  pub then_registers-same : (m : Step H Registers) (n : Step K Registers) (f : Registers → Step H A) (g : Registers → Step K B)
      → SameRegisters sim m n → ((a b : Registers) → RegistersSame sim a b → Same sim Q q (f a) (g b)) → Same sim Q q (m >>= f) (n >>= g)
  then_registers-same m n f g h k = then-same sim _ _ Q q m n f g h (λ a l. k a (renamed_registers sim.name a) (record { live = l; is = refl }))

  pub then_call-same : (m : Step H Call) (n : Step K Call) (f : Call → Step H A) (g : Call → Step K B)
      → SameCall sim m n → ((a b : Call) → CallSame sim a b → Same sim Q q (f a) (g b)) → Same sim Q q (m >>= f) (n >>= g)
  then_call-same m n f g h k = then-same sim _ _ Q q m n f g h (λ a l. k a (renamed_call sim.name a) (record { live = l; is = refl }))

  pub then_any_call-same : (m : Step H (Option Call)) (n : Step K (Option Call)) (f : Option Call → Step H A) (g : Option Call → Step K B)
      → SameAnyCall sim m n → ((a b : Option Call) → AnyCallSame sim a b → Same sim Q q (f a) (g b)) → Same sim Q q (m >>= f) (n >>= g)
  then_any_call-same m n f g h k = then-same sim _ _ Q q m n f g h (λ a l. k a (renamed_any_call sim.name a) (record { live = l; is = refl }))

  pub then_object-same : (m : Step H Object) (n : Step K Object) (f : Object → Step H A) (g : Object → Step K B)
      → SameObject sim m n → ((a : Object) → IsLiveObject sim.live a → Same sim Q q (f a) (g (renamed_object sim.name a))) → Same sim Q q (m >>= f) (n >>= g)
  then_object-same m n f g h k = then-same sim _ _ Q q m n f g h k

  pub then_answer-same : {X : Type 0} (m : Step H X) (n : Step K X) (f : X → Step H A) (g : X → Step K B)
      → SameAnswer sim m n → ((a : X) → Same sim Q q (f a) (g a)) → Same sim Q q (m >>= f) (n >>= g)
  then_answer-same m n f g h k = then-same sim _ _ Q q m n f g h (λ a l. k a)

  pub then_unit-same : (m : Step H Unit) (n : Step K Unit) (f : Step H A) (g : Step K B) → SameAnswer sim m n → Same sim Q q f g → Same sim Q q (m >> f) (n >> g)
  then_unit-same m n f g h k = next-same sim _ _ Q q m n f g h k

  pub if-same : (b c : Bool) (m n : Step H A) (m' n' : Step K B) → c ≡ b → Same sim Q q m m' → Same sim Q q n n' → Same sim Q q (if b then m else n) (if c then m' else n')
  if-same true c m n m' n' e h k = rw e h
  if-same false c m n m' n' e h k = rw e k

there_renamed : {H K : Type 0} {M : ObjectMemory H} {N : ObjectMemory K} (sim : Simulation M N) (a b : Option Object) → OptionSame sim.live sim.name a b → is_some b ≡ is_some a
there_renamed sim None b h = rw h refl
there_renamed sim (Some o) b h = rw h.1 refl

pub is_there-renamed : {H K : Type 0} {M : ObjectMemory H} {N : ObjectMemory K} (sim : Simulation M N) (h : H) (k : K) (v : Value) → sim.heaps h k → IsLive sim.live v
    → is_there N k (renamed sim.name v) ≡ is_there M h v
is_there-renamed sim h k (Small n) s l = refl
is_there-renamed {M = M} {N = N} sim h k (Ref n) s l = there_renamed sim (M.read h n) (N.read k (sim.name n)) (sim.read h k n s l)

same_test : (m n a b : ℕ) → (a ≡ b → m ≡ n) → (m ≡ n → a ≡ b) → (a == b) ≡ (m == n)
same_test m n a b f g = grind (arith, nat_tests)

pub some_object : (x : Option Object) → is_some x ≡ true → (o : Object) × x ≡ Some o
some_object None e = cc
some_object (Some o) e = (o, refl)

pub value_there : {H K : Type 0} {M : ObjectMemory H} {N : ObjectMemory K} (sim : Simulation M N) (h : H) (k : K) (v : Value) → sim.heaps h k → is_there M h v ≡ true → IsLive (sim.there h) v
value_there sim h k (Small n) s e = tt
value_there {M = M} sim h k (Ref n) s e = let o = some_object (M.read h n) e in (sim.read_there h k n o.0 s o.1).0

pub values_there : {H K : Type 0} {M : ObjectMemory H} {N : ObjectMemory K} (sim : Simulation M N) (h : H) (k : K) (vs : List Value) → sim.heaps h k → all_there M h vs ≡ true → AllLive (sim.there h) vs
values_there sim h k [] s e = tt
values_there {M = M} sim h k (v ∷ vs) s e = let p = and_parts (is_there M h v) (all_there M h vs) e in (value_there sim h k v s p.0, values_there sim h k vs s p.1)

pub all_there-renamed : {H K : Type 0} {M : ObjectMemory H} {N : ObjectMemory K} (sim : Simulation M N) (h : H) (k : K) (vs : List Value) → sim.heaps h k → AllLive sim.live vs
    → all_there N k (renamed_all sim.name vs) ≡ all_there M h vs
all_there-renamed sim h k [] s l = refl
all_there-renamed sim h k (v ∷ vs) s l = rw (is_there-renamed sim h k v s l.0, all_there-renamed sim h k vs s l.1) refl

-- where the first is beyond the capacities, all names live
module _ {H K : Type 0} {M : ObjectMemory H} {N : ObjectMemory K} (sim : Simulation M N) (h : H) (o : sim.beyond.over h) where
  pub over_value : (v : Value) → IsLive sim.live v
  over_value (Small n) = tt
  over_value (Ref n) = sim.beyond.over_live h n o

  pub over_values : (vs : List Value) → AllLive sim.live vs
  over_values [] = tt
  over_values (v ∷ vs) = (over_value v, over_values vs)

  pub over_object : (a : Object) → IsLiveObject sim.live a
  over_object a = record { class = sim.beyond.over_live h a.class o; fields = over_values a.fields }

pub get-renamed : (f : ℕ → ℕ) (vs : List Value) (i : ℕ) → slice_get (renamed_all f vs) i ≡ renamed_option f (slice_get vs i)
get-renamed f [] i = refl
get-renamed f (v ∷ vs) zero = refl
get-renamed f (v ∷ vs) (suc i) = get-renamed f vs i

pub get_is_live : (live : ℕ → Type 0) (vs : List Value) (i : ℕ) → AllLive live vs → IsLiveOption live (slice_get vs i)
get_is_live live [] i h = tt
get_is_live live (v ∷ vs) zero h = h.0
get_is_live live (v ∷ vs) (suc i) h = get_is_live live vs i h.1

-- what stands for one another
module _ (live : ℕ → Type 0) (f : ℕ → ℕ) where
  pub small-named : (n : ℕ) → ValueNamed live f (Small n) (Small n)
  small-named n = record { live = tt; is = refl }

  pub small_integer-named : (n : ℤ) → ValueNamed live f (small_integer n) (small_integer n)
  small_integer-named (pos n) = record { live = tt; is = refl }
  small_integer-named (negsuc n) = record { live = tt; is = refl }

  pub no_values-named : ValuesNamed live f [] []
  no_values-named = record { live = tt; is = refl }

  pub values-named : (v w : Value) (vs ws : List Value) → ValueNamed live f v w → ValuesNamed live f vs ws → ValuesNamed live f (v ∷ vs) (w ∷ ws)
  values-named v w vs ws h k = record { live = (h.live, k.live); is = λ i. h.is i ∷ k.is i }

  pub none-named : OptionNamed live f None None
  none-named = record { live = tt; is = refl }

  pub some-named : (v w : Value) → ValueNamed live f v w → OptionNamed live f (Some v) (Some w)
  some-named v w h = record { live = h.live; is = λ i. Some (h.is i) }

  pub field-named : (o : Object) (i : ℕ) → IsLiveObject live o → OptionNamed live f (slice_get o.fields i) (slice_get (renamed_all f o.fields) i)
  field-named o i h = record { live = get_is_live live o.fields i h.fields; is = get-renamed f o.fields i }

  pub registers-named : (a h m r a' h' m' r' : Value) (ip : ℤ) (sp : ℕ) → ValueNamed live f a a' → ValueNamed live f h h' → ValueNamed live f m m' → ValueNamed live f r r'
      → RegistersNamed live f (record { active = a; home = h; method = m; receiver = r; ip = ip; sp = sp }) (record { active = a'; home = h'; method = m'; receiver = r'; ip = ip; sp = sp })
  registers-named a h m r a' h' m' r' ip sp x y z w = record {
    live = (x.live, y.live, z.live, w.live);
    is = λ i. record { active = x.is i; home = y.is i; method = z.is i; receiver = w.is i; ip = ip; sp = sp };
  }

module _ {H K : Type 0} {M : ObjectMemory H} {N : ObjectMemory K} (sim : Simulation M N) where
  pub class-same : (o : Object) → IsLiveObject sim.live o → ValueSame sim (Ref o.class) (Ref (sim.name o.class))
  class-same o h = record { live = h.class; is = refl }

  -- changes of the world

  pub hold-same : (d : Device) (v w : Value) → ValueSame sim v w → ChangeSame sim (Hold d v) (Hold d w)
  hold-same d v w h = record { live = (h.live, tt); is = λ i. Hold d (h.is i) }

  pub add_signal-same : (v w : Value) → ValueSame sim v w → ChangeSame sim (AddSignal v) (AddSignal w)
  add_signal-same v w h = record { live = (h.live, tt); is = λ i. AddSignal (h.is i) }

  pub take_signal-same : ChangeSame sim TakeSignal TakeSignal
  take_signal-same = record { live = tt; is = refl }

  pub set_due-same : (t : ℕ) → ChangeSame sim (SetDue t) (SetDue t)
  set_due-same t = record { live = tt; is = refl }

  pub set_low-same : (a b : ℕ) → ChangeSame sim (SetLow a b) (SetLow a b)
  set_low-same a b = record { live = tt; is = refl }

  pub move_mouse-same : (x y : ℕ) → ChangeSame sim (MoveMouse x y) (MoveMouse x y)
  move_mouse-same x y = record { live = tt; is = refl }

  pub add_word-same : (n : ℕ) → ChangeSame sim (AddWord n) (AddWord n)
  add_word-same n = record { live = tt; is = refl }

  pub take_word-same : ChangeSame sim TakeWord TakeWord
  take_word-same = record { live = tt; is = refl }

  pub second_clock-same : (n : ℕ) → ChangeSame sim (SetSecondClock n) (SetSecondClock n)
  second_clock-same n = record { live = tt; is = refl }

  pub millisecond_clock-same : (n : ℕ) → ChangeSame sim (SetMillisecondClock n) (SetMillisecondClock n)
  millisecond_clock-same n = record { live = tt; is = refl }

  values_same : (v w : Value) → IsLive sim.live v → IsLive sim.live w → same_value (renamed sim.name v) (renamed sim.name w) ≡ same_value v w
  values_same (Small m) (Small n) h k = refl
  values_same (Small m) (Ref n) h k = refl
  values_same (Ref m) (Small n) h k = refl
  values_same (Ref m) (Ref n) h k = same_test m n (sim.name m) (sim.name n) (sim.injective m n h k) (ap sim.name)

  pub same_value-same : (v v' w w' : Value) → ValueSame sim v v' → ValueSame sim w w' → same_value v' w' ≡ same_value v w
  same_value-same v v' w w' h k = rw (h.is, k.is) (values_same v w h.live k.live)

  -- answers

  pub answer_value-same : (v w : Value) → ValueSame sim v w → SameValue sim (answer v) (answer w)
  answer_value-same v w h = answer-same sim _ _ v w h.live h.is

  pub answer_values-same : (v w : List Value) → ValuesSame sim v w → SameValues sim (answer v) (answer w)
  answer_values-same v w h = answer-same sim _ _ v w h.live h.is

  pub answer_option-same : (v w : Option Value) → OptionalSame sim v w → SameOption sim (answer v) (answer w)
  answer_option-same v w h = answer-same sim _ _ v w h.live h.is

  pub answer_registers-same : (v w : Registers) → RegistersSame sim v w → SameRegisters sim (answer v) (answer w)
  answer_registers-same v w h = answer-same sim _ _ v w h.live h.is

  pub answer_object-same : (o : Object) → IsLiveObject sim.live o → SameObject sim (answer o) (answer (renamed_object sim.name o))
  answer_object-same o h = answer-same sim _ _ o (renamed_object sim.name o) h refl

  pub answer_itself-same : {A : Type 0} (a : A) → SameAnswer sim (answer a) (answer a)
  answer_itself-same a = answer-same sim _ _ a a tt refl

  pub answer_call-same : (v w : Value) (n : ℕ) → ValueSame sim v w → SameCall sim (answer (record { method = v; arguments = n })) (answer (record { method = w; arguments = n }))
  answer_call-same v w n h = answer-same sim _ _ _ _ h.live (λ i. record { method = h.is i; arguments = n })

  pub answer_some_call-same : (c d : Call) → CallSame sim c d → SameAnyCall sim (answer (Some c)) (answer (Some d))
  answer_some_call-same c d h = answer-same sim _ _ _ _ h.live (ap (λ x. Some x) h.is)

  pub answer_no_call-same : SameAnyCall sim (answer None) (answer None)
  answer_no_call-same = answer-same sim _ _ _ _ tt refl

  pub went-same : SameEnd sim (answer outcome.Went) (answer outcome.Went)
  went-same = answer-same sim _ _ _ _ tt refl

  pub say_value-same : (v w : Value) → ValueSame sim v w → SameEnd sim (answer (outcome.Say v)) (answer (outcome.Say w))
  say_value-same v w h = answer-same sim _ _ _ _ h.live (ap (λ x. outcome.Say x) h.is)

-- A step that is only tried, and makes nothing. Of a value it answers a value or none, of anything else that or none.

module _ {H K : Type 0} {M : ObjectMemory H} {N : ObjectMemory K} (sim : Simulation M N) where
  pub strict_states : (s : State H) (t : State K) → StateSame sim s t → StateSame (strict sim) s t
  strict_states s t st = record { memory = st.memory; limits = st.limits; there = st.there; roots = st.roots; registers = st.registers; world = st.world; head = st.head }

  module _ {A B : Type 0} (P : A → Type 0) (r : A → B) (Q : Option A → Type 0) (q : Option A → Option B)
      (none : Q None × (None ≡ q None)) (some : (a : A) → P a → Q (Some a) × (Some (r a) ≡ q (Some a))) where
    left_same : (s : State H) (t : State K) (o : Transition (State H) A) (p : Transition (State K) B) → StateSame sim s t → TransitionSame (strict sim) P r o p
        → TransitionSame sim Q q (or_left s o) (or_left t p)
    left_same s t (Died a) (Died b) st h = inr (none.0, none.1, st)
    left_same s t (Died a) (Went b u) st h = absurd h
    left_same s t (Went a u) (Died b) st h = absurd h.1
    left_same s t (Went a u) (Went b v) st (inl h) = absurd h.1
    left_same s t (Went a u) (Went b v) st (inr h) =
        let k = some a h.0 in
        let n = h.2 in
        inr (k.0, ap (λ x. Some x) h.1 ∙ k.1, record { memory = n.memory; limits = n.limits; there = n.there; roots = n.roots; registers = n.registers; world = n.world; head = n.head })

    left_over : (s : State H) (o : Transition (State H) A) → sim.beyond.over s.memory → StaysOver sim P o → StaysOver sim Q (or_left s o)
    left_over s (Died a) o h = (none.0, o)
    left_over s (Went a t) o h = ((some a h.0).0, h.1)

    tried-same : (m : Step H A) (n : Step K B) → Same sim P r m n → Same (strict sim) P r m n → Same sim Q q (tried m) (tried n)
    unfolding tried
    tried-same m n h k = record {
      go = λ s t st. left_same s t (m.run s) (n.run t) st (k.go s t (strict_states s t st));
      stay = λ s o. left_over s (m.run s) o (h.stay s o);
    }

  pub tried_value-same : (m : Step H Value) (n : Step K Value) → SameValue sim m n → SameValue (strict sim) m n → SameOption sim (tried m) (tried n)
  tried_value-same m n h k = tried-same _ _ _ _ (tt, refl) (λ a l. (l, refl)) m n h k

  pub tried_itself-same : {A : Type 0} (m : Step H A) (n : Step K A) → SameAnswer sim m n → SameAnswer (strict sim) m n → SameAnswer sim (tried m) (tried n)
  tried_itself-same m n h k = tried-same _ _ _ _ (tt, refl) (λ a l. (tt, refl)) m n h k

-- what a search of steps that do the same goes by
pub ruleset steps_same = (then_value-same, then_values-same, then_object-same, then_answer-same, then_option-same, then_registers-same, then_call-same, then_any_call-same, then_unit-same, if-same, tried_value-same, tried_itself-same, die-same, answer_value-same, answer_values-same, answer_option-same, answer_registers-same, answer_object-same, answer_itself-same, answer_call-same, answer_some_call-same, answer_no_call-same, went-same, say_value-same, same_value-same, small-named, small_integer-named, class-same, no_values-named, values-named, none-named, some-named, field-named, registers-named, hold-same, add_signal-same, take_signal-same, set_due-same, set_low-same, move_mouse-same, add_word-same, take_word-same, second_clock-same, millisecond_clock-same, length-renamed, code_byte-renamed)
