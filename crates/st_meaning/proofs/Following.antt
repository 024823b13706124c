-- What the nodes of an arena do, from what their parts did.
use Rattle.std.proofs.Common.{◌≡◌, ℕ, zero, suc, ◌-◌, ◌<◌, ◌≤◌, ◌==◌, Bool, true, false, List, [], ◌∷◌, ◌++◌, length, get_or, take, Option, Some, None, refl, sym, ap, ◌∙◌, subst, arith, append-nil}
use Rattle.std.proofs.lemmas.List.{reverse-append}
use Rattle.std.proofs.lemmas.Option.{slice_get_past}
use Rattle.std.specs.Prelude.{Result, Ok, Err, IfOk, IfErr, OnOk, if◌then◌else◌}
use Rattle.st_emit.specs.declared.form.OneSided.{OneSided}
use Rattle.st_emit.specs.declared.form.TwoSided.{TwoSided}
use Rattle.st_emit.specs.declared.form.Loop.{Loop}
use Rattle.st_meaning.specs.declared.deed.Value.{Value}
use Rattle.st_meaning.specs.declared.arena.Statements.{Statements}
use Rattle.st_meaning.specs.declared.arena.Node.{Node}
use Rattle.st_meaning.specs.declared.arena.Act.{Act}
use Rattle.st_meaning.specs.declared.arena.Message.{Message}
use Rattle.st_meaning.specs.declared.course.Course.{Course}
use Rattle.st_meaning.specs.declared.fault.MeaningFault.{MeaningFault}
use Rattle.st_meaning.specs.declared.tracing.TurnEnd.{TurnEnd}
use Rattle.st_meaning.specs.declared.tracing.TurnEnd.TheVariants.{Again, Left, Over}
use Rattle.st_meaning.specs.inside.Runs.{Going, Outcome, went, over, long, Run, gives, then_go, ◌>>=◌, answer_to, return_value, jump_back, in_order, in_order_before}
use Rattle.st_meaning.specs.inside.Values.{returned}
use Rattle.st_meaning.specs.inside.Traces.{nil, goes_on, turns}
use Rattle.st_meaning.specs.inside.Meanings.{most}
use Rattle.st_meaning.specs.inside.Courses.{going_view, with_deed, with_back, stack_view, Goes, IsLong, Tests, IsLongTest}
use Rattle.st_meaning.specs.inside.Arenas.{Meaning, meant, runs_of}
use Rattle.st_meaning.specs.inside.Traced.{Cut, IsCut, IsPassed, IsFirstOn, IsLeftOn, message_in, arguments_in, nodes_in, EndsTurn, IsTurnCut, Repeats, IsRepeatCut, again_in, body_in, chosen_in, sided_in, node_in, start_in, acts_in}
use Rattle.st_meaning.proofs.Arenas.{cut_then, run_at, many_runs}
use Rattle.st_meaning.proofs.Continuing.{so_long}
use Rattle.st_meaning.proofs.Coursing.{few_deeds, full_deeds, return_on, return_long, back_on, back_long}

-- ONE RUN BEHIND ANOTHER

-- a value, and what follows it
followed : {A B : Type 0} (m : Run A) (f : A → Run B) (x : A) (g h : Going) → m g ≡ went x h → (m >>= f) g ≡ f x h
followed m f x g h e = ap (λ o. then_go o f) e

ended : {A B : Type 0} (m : Run A) (f : A → Run B) (d g : Going) → m g ≡ over d → (m >>= f) g ≡ over d
ended m f d g e = ap (λ o. then_go o f) e

cut : {A B : Type 0} (m : Run A) (f : A → Run B) (g : Going) → Cut (m g) → Cut ((m >>= f) g)
cut m f g h = cut_then (m g) f h

-- what is too long is cut
pub long_cut : {A : Type 0} (o : Outcome A) → o ≡ long → Cut o
long_cut o e = subst (λ p. Cut p) (sym e) tt

-- RESULTS

-- what is told of a run is told of one that does the same
pub goes_so : (w o : Outcome Value) (r : Result (Option Value) MeaningFault) (g : Going) → w ≡ o → IfOk r (λ v. Goes o v g) → IfOk r (λ v. Goes w v g)
goes_so w o r g e h = subst (λ (p : Outcome Value). IfOk r (λ v. Goes p v g)) (sym e) h

pub long_so : (w o : Outcome Value) (r : Result (Option Value) MeaningFault) → w ≡ o → IfErr r (IsLong (Cut o)) → IfErr r (IsLong (Cut w))
long_so w o r e h = subst (λ (p : Outcome Value). IfErr r (IsLong (Cut p))) (sym e) h

module _ {A : Type 0} where
  pub some_went : (m : Outcome A) (o : Option A) (x : A) (g : Going) → o ≡ Some x → Goes m o g → m ≡ went x g
  some_went m o x g is h = subst (λ (p : Option A). Goes m p g) is h

  pub none_over : (m : Outcome A) (o : Option A) (g : Going) → o ≡ None → Goes m o g → m ≡ over g
  none_over m o g is h = subst (λ (p : Option A). Goes m p g) is h

-- a run is a first one and what follows its value: what is told of both, told of it
module _ {A : Type 0} (w : Outcome Value) (m : Outcome A) (f : A → Run Value) (is : w ≡ then_go m f) where
  pub behind_went : (x : A) (g : Going) → m ≡ went x g → w ≡ f x g
  behind_went x g e = is ∙ ap (λ (o : Outcome A). then_go o f) e

  pub behind_goes : (o : Option A) (x : A) (g : Going) (r : Result (Option Value) MeaningFault) (h : Going) → o ≡ Some x → Goes m o g → IfOk r (λ v. Goes (f x g) v h) → IfOk r (λ v. Goes w v h)
  behind_goes o x g r h some e k = goes_so w (f x g) r h (behind_went x g (some_went m o x g some e)) k

  pub behind_long : (o : Option A) (x : A) (g : Going) (r : Result (Option Value) MeaningFault) → o ≡ Some x → Goes m o g → IfErr r (IsLong (Cut (f x g))) → IfErr r (IsLong (Cut w))
  behind_long o x g r some e k = long_so w (f x g) r (behind_went x g (some_went m o x g some e)) k

  pub behind_none : (o : Option A) (g : Going) → o ≡ None → Goes m o g → w ≡ over g
  behind_none o g none e = is ∙ ap (λ (p : Outcome A). then_go p f) (none_over m o g none e)

  pub behind_cut : Cut m → Cut w
  behind_cut h = subst (λ (o : Outcome Value). Cut o) (sym is) (cut_then m f h)

-- NODES

pub node_is : (xs : List Node) (i n : ℕ) (x : Node) (list : List Act) (g : Going) → i < length xs → x ≡ get_or xs i x → list ≡ x.acts.items → node_in xs n i g ≡ then_go (start_in (take i xs) n x.start g) (acts_in (take i xs) n list)
node_is xs i n x list g within is e =
    ap (λ (o : Option Meaning). meant o n g) (run_at most xs i x within is) ∙ ap (λ (l : List Act). then_go (start_in (take i xs) n x.start g) (acts_in (take i xs) n l)) (sym e)

pub no_node : (xs : List Node) (i n : ℕ) (g : Going) → length xs ≤ i → node_in xs n i g ≡ went nil g
no_node xs i n g past = ap (λ (o : Option Meaning). meant o n g) (slice_get_past (runs_of most xs) i (omega (arith, many_runs most [] xs, past)))

-- ARGUMENTS

before_append : (a b acc : List Value) → in_order_before (a ++ b) acc ≡ in_order_before b (in_order_before a acc)
before_append [] b acc = refl
before_append (v ∷ a) b acc = before_append a b (v ∷ acc)

onto_back : (vs acc : List Value) → in_order_before (stack_view vs) acc ≡ vs ++ acc
onto_back [] acc = refl
onto_back (v ∷ vs) acc =
    ap (λ (l : List Value). in_order_before l acc) (reverse-append (v ∷ []) vs) ∙ before_append (stack_view vs) (v ∷ []) acc ∙ ap (λ (l : List Value). v ∷ l) (onto_back vs acc)

pub in_order_back : (vs : List Value) → in_order (stack_view vs) ≡ vs
in_order_back vs = onto_back vs [] ∙ append-nil vs

-- a message whose arguments have these values
pub message_is : (xs : List Node) (n : ℕ) (above : Bool) (r : Value) (m : Message) (places : List ℕ) (vs : List Value) (old mid : Going) → places ≡ m.arguments.items → arguments_in xs n places old ≡ went (stack_view vs) mid
    → message_in xs n above r m old ≡ answer_to most r m.selector.items vs above mid
message_is xs n above r m places vs old mid e h =
    ap (λ (o : Outcome (List Value)). then_go o (λ ws. answer_to most r m.selector.items (in_order ws) above)) (sym (ap (λ (l : List ℕ). arguments_in xs n l old) e) ∙ h)
    ∙ ap (λ (l : List Value). answer_to most r m.selector.items l above mid) (in_order_back vs)

pub message_over : (xs : List Node) (n : ℕ) (above : Bool) (r : Value) (m : Message) (places : List ℕ) (d old : Going) → places ≡ m.arguments.items → arguments_in xs n places old ≡ over d → message_in xs n above r m old ≡ over d
message_over xs n above r m places d old e h =
    ap (λ (o : Outcome (List Value)). then_go o (λ ws. answer_to most r m.selector.items (in_order ws) above)) (sym (ap (λ (l : List ℕ). arguments_in xs n l old) e) ∙ h)

pub message_cut : (xs : List Node) (n : ℕ) (above : Bool) (r : Value) (m : Message) (places : List ℕ) (old : Going) → places ≡ m.arguments.items → Cut (arguments_in xs n places old) → Cut (message_in xs n above r m old)
message_cut xs n above r m places old e h =
    cut_then (arguments_in xs n m.arguments.items old) (λ ws. answer_to most r m.selector.items (in_order ws) above) (subst (λ (l : List ℕ). Cut (arguments_in xs n l old)) e h)

-- FORMS

-- a test that was made
pub tested : (on b : Bool) (v : Value) (old mid : Course) (o : Option Bool) (c : Bool) → o ≡ Some c → c ≡ b → Tests on v old mid o → Tests on v old mid (Some b)
tested on b v old mid o c some is t = subst (λ (p : Option Bool). Tests on v old mid p) (some ∙ ap (λ (q : Bool). Some q) is) t

pub untested : (on : Bool) (v : Value) (old mid : Course) (o : Option Bool) → o ≡ None → Tests on v old mid o → Tests on v old mid None
untested on v old mid o none t = subst (λ (p : Option Bool). Tests on v old mid p) none t

pub sided_is : (xs : List Node) (n : ℕ) (side : OneSided) (on b : Bool) (k v : Value) (a : Statements) (old mid : Course) → IsPassed side on k → Tests on v old mid (Some b)
    → sided_in xs n side v a (going_view old) ≡ (if b then gives k else body_in xs n a) (going_view mid)
sided_is xs n side on b k v a old mid is t = ap (λ (m : Run Value). m (going_view old)) (is v (body_in xs n a)) ∙ t (gives k) (body_in xs n a)

pub sided_over : (xs : List Node) (n : ℕ) (side : OneSided) (on : Bool) (k v : Value) (a : Statements) (old new : Course) → IsPassed side on k → Tests on v old new None
    → sided_in xs n side v a (going_view old) ≡ over (going_view new)
sided_over xs n side on k v a old new is t = ap (λ (m : Run Value). m (going_view old)) (is v (body_in xs n a)) ∙ t (gives k) (body_in xs n a)

pub sided_cut : (xs : List Node) (n : ℕ) (side : OneSided) (on : Bool) (k v : Value) (a : Statements) (old : Course) → IsPassed side on k → IsLongTest on v old → IsCut (sided_in xs n side v a) old
sided_cut xs n side on k v a old is t = long_cut (sided_in xs n side v a (going_view old)) (ap (λ (m : Run Value). m (going_view old)) (is v (body_in xs n a)) ∙ t (gives k) (body_in xs n a))

pub chosen_is : (xs : List Node) (n : ℕ) (side : TwoSided) (on c : Bool) (v : Value) (a b : Statements) (old mid : Course) → IsFirstOn side on → Tests on v old mid (Some c)
    → chosen_in xs n side v a b (going_view old) ≡ (if c then body_in xs n a else body_in xs n b) (going_view mid)
chosen_is xs n side on c v a b old mid is t = ap (λ (m : Run Value). m (going_view old)) (is v (body_in xs n a) (body_in xs n b)) ∙ t (body_in xs n a) (body_in xs n b)

pub chosen_over : (xs : List Node) (n : ℕ) (side : TwoSided) (on : Bool) (v : Value) (a b : Statements) (old new : Course) → IsFirstOn side on → Tests on v old new None
    → chosen_in xs n side v a b (going_view old) ≡ over (going_view new)
chosen_over xs n side on v a b old new is t = ap (λ (m : Run Value). m (going_view old)) (is v (body_in xs n a) (body_in xs n b)) ∙ t (body_in xs n a) (body_in xs n b)

pub chosen_cut : (xs : List Node) (n : ℕ) (side : TwoSided) (on : Bool) (v : Value) (a b : Statements) (old : Course) → IsFirstOn side on → IsLongTest on v old → IsCut (chosen_in xs n side v a b) old
chosen_cut xs n side on v a b old is t = long_cut (chosen_in xs n side v a b (going_view old)) (ap (λ (m : Run Value). m (going_view old)) (is v (body_in xs n a) (body_in xs n b)) ∙ t (body_in xs n a) (body_in xs n b))

-- BLOCKS

-- statements that gave a value, which is left, returned, or the end of a method
module _ {A : Type 0} (xs : List Node) (n : ℕ) (end : Bool → Value → Run A) (s : Statements) (places : List ℕ) (old : Going) (same : places ≡ s.nodes.items) where
  abbrev pub closed : Outcome A
  closed = then_go (nodes_in xs n s.nodes.items old) (end s.returns)

  pub ended_is : (b : Bool) (v : Value) (mid : Going) → s.returns ≡ b → nodes_in xs n places old ≡ went v mid → closed ≡ end b v mid
  ended_is b v mid r h = ap (λ (o : Outcome Value). then_go o (end s.returns)) (sym (ap (λ (l : List ℕ). nodes_in xs n l old) same) ∙ h) ∙ ap (λ (c : Bool). end c v mid) r

  pub ended_over : (d : Going) → nodes_in xs n places old ≡ over d → closed ≡ over d
  ended_over d h = ap (λ (o : Outcome Value). then_go o (end s.returns)) (sym (ap (λ (l : List ℕ). nodes_in xs n l old) same) ∙ h)

  pub ended_cut : Cut (nodes_in xs n places old) → Cut closed
  ended_cut h = cut_then (nodes_in xs n s.nodes.items old) (end s.returns) (subst (λ (l : List ℕ). Cut (nodes_in xs n l old)) same h)

-- LOOPS

-- a condition that leaves the loop, or is over
pub turn_left : (xs : List Node) (n : ℕ) (kind : Loop) (x a : Statements) (on : Bool) (v : Value) (old mid new : Course) → IsLeftOn kind on
    → Goes (body_in xs n x (going_view old)) (Some v) (going_view mid) → Tests on v mid new (Some true) → EndsTurn xs n kind x a old new Left
turn_left xs n kind x a on v old mid new is e t k =
    let again = body_in xs n a >>= λ w. jump_back most (turns most k kind (body_in xs n x) (body_in xs n a)) in
    followed (body_in xs n x) (λ v. goes_on most kind v again (gives nil)) v (going_view old) (going_view mid) e
    ∙ ap (λ (m : Run Value). m (going_view mid)) (is v again (gives nil)) ∙ t (gives nil) again

pub turn_over : (xs : List Node) (n : ℕ) (kind : Loop) (x a : Statements) (old new : Course) → Goes (body_in xs n x (going_view old)) None (going_view new) → EndsTurn xs n kind x a old new Over
turn_over xs n kind x a old new e k =
    ended (body_in xs n x) (λ v. goes_on most kind v (body_in xs n a >>= λ w. jump_back most (turns most k kind (body_in xs n x) (body_in xs n a))) (gives nil)) (going_view new) (going_view old) e

pub turn_unsure : (xs : List Node) (n : ℕ) (kind : Loop) (x a : Statements) (on : Bool) (v : Value) (old mid new : Course) → IsLeftOn kind on
    → Goes (body_in xs n x (going_view old)) (Some v) (going_view mid) → Tests on v mid new None → EndsTurn xs n kind x a old new Over
turn_unsure xs n kind x a on v old mid new is e t k =
    let again = body_in xs n a >>= λ w. jump_back most (turns most k kind (body_in xs n x) (body_in xs n a)) in
    followed (body_in xs n x) (λ v. goes_on most kind v again (gives nil)) v (going_view old) (going_view mid) e
    ∙ ap (λ (m : Run Value). m (going_view mid)) (is v again (gives nil)) ∙ t (gives nil) again

-- and one that is repeated
turn_on : (xs : List Node) (n : ℕ) (kind : Loop) (x a : Statements) (on : Bool) (v : Value) (old mid c : Course) (k : ℕ) → IsLeftOn kind on
    → Goes (body_in xs n x (going_view old)) (Some v) (going_view mid) → Tests on v mid c (Some false)
    → turns most (suc k) kind (body_in xs n x) (body_in xs n a) (going_view old) ≡ again_in xs n a (turns most k kind (body_in xs n x) (body_in xs n a)) (going_view c)
turn_on xs n kind x a on v old mid c k is e t =
    let again = body_in xs n a >>= λ w. jump_back most (turns most k kind (body_in xs n x) (body_in xs n a)) in
    followed (body_in xs n x) (λ v. goes_on most kind v again (gives nil)) v (going_view old) (going_view mid) e
    ∙ ap (λ (m : Run Value). m (going_view mid)) (is v again (gives nil)) ∙ t (gives nil) again

turn_repeats : (xs : List Node) (n : ℕ) (kind : Loop) (x a : Statements) (on : Bool) (v : Value) (old mid c new : Course) (t : TurnEnd) → IsLeftOn kind on
    → Goes (body_in xs n x (going_view old)) (Some v) (going_view mid) → Tests on v mid c (Some false) → Repeats xs n a c new t → EndsTurn xs n kind x a old new t
turn_repeats xs n kind x a on v old mid c new Again is e s r = λ k. turn_on xs n kind x a on v old mid c k is e s ∙ r (turns most k kind (body_in xs n x) (body_in xs n a))
turn_repeats xs n kind x a on v old mid c new Left is e s r = absurd r
turn_repeats xs n kind x a on v old mid c new Over is e s r = λ k. turn_on xs n kind x a on v old mid c k is e s ∙ r (turns most k kind (body_in xs n x) (body_in xs n a))

pub turn_again : (xs : List Node) (n : ℕ) (kind : Loop) (x a : Statements) (on : Bool) (v : Value) (old mid c new : Course) (r : Result TurnEnd MeaningFault) → IsLeftOn kind on
    → Goes (body_in xs n x (going_view old)) (Some v) (going_view mid) → Tests on v mid c (Some false) → IfOk r (Repeats xs n a c new) → IfOk r (EndsTurn xs n kind x a old new)
turn_again xs n kind x a on v old mid c new (Ok t) is e s h = turn_repeats xs n kind x a on v old mid c new t is e s h
turn_again xs n kind x a on v old mid c new (Err f) is e s h = tt

pub turn_cut : (xs : List Node) (n : ℕ) (kind : Loop) (x a : Statements) (old : Course) → IsCut (body_in xs n x) old → IsTurnCut xs n kind x a old
turn_cut xs n kind x a old h k = cut (body_in xs n x) (λ v. goes_on most kind v (body_in xs n a >>= λ w. jump_back most (turns most k kind (body_in xs n x) (body_in xs n a))) (gives nil)) (going_view old) h

pub turn_test_cut : (xs : List Node) (n : ℕ) (kind : Loop) (x a : Statements) (on : Bool) (v : Value) (old mid : Course) → IsLeftOn kind on
    → Goes (body_in xs n x (going_view old)) (Some v) (going_view mid) → IsLongTest on v mid → IsTurnCut xs n kind x a old
turn_test_cut xs n kind x a on v old mid is e t k =
    let again = body_in xs n a >>= λ w. jump_back most (turns most k kind (body_in xs n x) (body_in xs n a)) in
    long_cut _
    (followed (body_in xs n x) (λ v. goes_on most kind v again (gives nil)) v (going_view old) (going_view mid) e
    ∙ ap (λ (m : Run Value). m (going_view mid)) (is v again (gives nil)) ∙ t (gives nil) again)

repeat_cut : (xs : List Node) (n : ℕ) (kind : Loop) (x a : Statements) (on : Bool) (v : Value) (old mid c : Course) → IsLeftOn kind on
    → Goes (body_in xs n x (going_view old)) (Some v) (going_view mid) → Tests on v mid c (Some false) → IsRepeatCut xs n a c → IsTurnCut xs n kind x a old
repeat_cut xs n kind x a on v old mid c is e s h k =
    subst (λ o. Cut o) (sym (turn_on xs n kind x a on v old mid c k is e s)) (h (turns most k kind (body_in xs n x) (body_in xs n a)))

pub turn_again_cut : (xs : List Node) (n : ℕ) (kind : Loop) (x a : Statements) (on : Bool) (v : Value) (old mid c : Course) (r : Result TurnEnd MeaningFault) → IsLeftOn kind on
    → Goes (body_in xs n x (going_view old)) (Some v) (going_view mid) → Tests on v mid c (Some false) → IfErr r (IsLong (IsRepeatCut xs n a c)) → IfErr r (IsLong (IsTurnCut xs n kind x a old))
turn_again_cut xs n kind x a on v old mid c (Ok t) is e s h = tt
turn_again_cut xs n kind x a on v old mid c (Err f) is e s h = so_long (IsRepeatCut xs n a c) (IsTurnCut xs n kind x a old) f (repeat_cut xs n kind x a on v old mid c is e s) h

-- what is repeated
pub again_back : (xs : List Node) (n : ℕ) (a : Statements) (v : Value) (old mid new : Course) → Goes (body_in xs n a (going_view old)) (Some v) (going_view mid)
    → (mid.backs == most) ≡ false → going_view new ≡ with_back (going_view mid) → Repeats xs n a old new Again
again_back xs n a v old mid new e few w f =
    followed (body_in xs n a) (λ w. jump_back most f) v (going_view old) (going_view mid) e ∙ back_on most f (going_view mid) few ∙ ap f (sym w)

pub again_over : (xs : List Node) (n : ℕ) (a : Statements) (old new : Course) → Goes (body_in xs n a (going_view old)) None (going_view new) → Repeats xs n a old new Over
again_over xs n a old new e f = ended (body_in xs n a) (λ w. jump_back most f) (going_view new) (going_view old) e

pub again_cut : (xs : List Node) (n : ℕ) (a : Statements) (old : Course) → IsCut (body_in xs n a) old → IsRepeatCut xs n a old
again_cut xs n a old h f = cut (body_in xs n a) (λ w. jump_back most f) (going_view old) h

pub again_long : (xs : List Node) (n : ℕ) (a : Statements) (v : Value) (old mid : Course) → Goes (body_in xs n a (going_view old)) (Some v) (going_view mid)
    → (mid.backs == most) ≡ true → IsRepeatCut xs n a old
again_long xs n a v old mid e full f =
    long_cut _ (followed (body_in xs n a) (λ w. jump_back most f) v (going_view old) (going_view mid) e ∙ back_long most f (going_view mid) full)

-- a loop's next turn, where so many are left
module _ (xs : List Node) (n : ℕ) (kind : Loop) (x a : Statements) (w : Outcome Value) where
  pub turned_again : (k : ℕ) (old new : Course) → 0 < k → EndsTurn xs n kind x a old new Again → turns most k kind (body_in xs n x) (body_in xs n a) (going_view old) ≡ w
      → turns most (k - 1) kind (body_in xs n x) (body_in xs n a) (going_view new) ≡ w
  turned_again zero old new some e h = absurd (omega (arith, some))
  turned_again (suc k) old new some e h =
      let less : suc k - 1 ≡ k = omega arith in
      ap (λ (m : ℕ). turns most m kind (body_in xs n x) (body_in xs n a) (going_view new)) less ∙ sym (e k) ∙ h

  pub turned_left : (k : ℕ) (old new : Course) → 0 < k → EndsTurn xs n kind x a old new Left → turns most k kind (body_in xs n x) (body_in xs n a) (going_view old) ≡ w → w ≡ went nil (going_view new)
  turned_left zero old new some e h = absurd (omega (arith, some))
  turned_left (suc k) old new some e h = sym h ∙ e k

  pub turned_over : (k : ℕ) (old new : Course) → 0 < k → EndsTurn xs n kind x a old new Over → turns most k kind (body_in xs n x) (body_in xs n a) (going_view old) ≡ w → w ≡ over (going_view new)
  turned_over zero old new some e h = absurd (omega (arith, some))
  turned_over (suc k) old new some e h = sym h ∙ e k

  pub turned_cut : (k : ℕ) (old : Course) → 0 < k → IsTurnCut xs n kind x a old → turns most k kind (body_in xs n x) (body_in xs n a) (going_view old) ≡ w → Cut w
  turned_cut zero old some e h = absurd (omega (arith, some))
  turned_cut (suc k) old some e h = subst (λ (o : Outcome Value). Cut o) h (e k)

  pub no_turn : (k : ℕ) (old : Course) → k ≡ 0 → turns most k kind (body_in xs n x) (body_in xs n a) (going_view old) ≡ w → Cut w
  no_turn zero old none h = subst (λ (o : Outcome Value). Cut o) h tt
  no_turn (suc k) old none h = absurd (omega (arith, none))

-- ENDS

pub returned_over : (v : Value) (mid new : Course) → (length mid.deeds.items == most) ≡ false → going_view new ≡ with_deed (returned v) (going_view mid) → return_value most {A = Value} v (going_view mid) ≡ over (going_view new)
returned_over v mid new few w = return_on most v (going_view mid) (few_deeds most mid few) ∙ ap over (sym w)

pub returned_long : (v : Value) (mid : Course) → (length mid.deeds.items == most) ≡ true → return_value most {A = Value} v (going_view mid) ≡ long
returned_long v mid full = return_long most v (going_view mid) (full_deeds most mid full)

-- a method that returns a value, or finds no room for that deed
module _ {A : Type 0} (w : Outcome Value) (v : Value) (mid : Course) (is : w ≡ return_value most v (going_view mid)) where
  pub return_goes : (new : Course) (r : Result A MeaningFault) → OnOk r ((length mid.deeds.items == most) ≡ false) → OnOk r (going_view new ≡ with_deed (returned v) (going_view mid)) → OnOk r (w ≡ over (going_view new))
  return_goes new (Ok x) few e = is ∙ returned_over v mid new few e
  return_goes new (Err f) few e = tt

  pub return_faults : (r : Result A MeaningFault) → IfErr r (IsLong ((length mid.deeds.items == most) ≡ true)) → IfErr r (IsLong (Cut w))
  return_faults (Ok x) h = tt
  return_faults (Err f) h = so_long ((length mid.deeds.items == most) ≡ true) (Cut w) f (λ full. long_cut w (is ∙ returned_long v mid full)) h
