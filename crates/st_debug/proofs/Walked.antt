-- The contexts of a stack, one after the other.
use Rattle.std.proofs.Common.{◌≡◌, ℕ, zero, suc, ◌+◌, ◌-◌, ◌<◌, ◌≤◌, List, [], ◌∷◌, ◌++◌, length, Option, Some, None, Ok, Err, refl, sym, ap, ◌∙◌, subst, append-nil, append_assoc, arith}
use Rattle.std.specs.Prelude.{Result, IsErr, option_map}
use Rattle.std.specs.List.{flat_map}
use Rattle.st_host.specs.declared.host.Host.{Ghosts}
use Rattle.st_host.specs.declared.host.SayFault.{SayFault}
use Rattle.st_host.proofs.Telling.{OnlyNow}
use Rattle.st_model.specs.Values.{Value}
use Rattle.st_model.specs.Table.{Table}
use Rattle.st_call.specs.inside.Saying.{Pushes}
use Rattle.st_call.proofs.Pushing.{push_none, push_then, push_begun, push_as}
use Rattle.st_debug.specs.Stack.{Call, call_in, calls, frame_line}

module _ (t : Table) where
  -- no more
  pub none_left : (left : ℕ) (context : Value) → call_in t context ≡ None → calls t left context ≡ []
  unfolding calls
  none_left zero context e = refl
  none_left (suc left) context e = rw e refl

  -- one, and the others
  pub one_more : (left : ℕ) (context : Value) (call : Call) → call_in t context ≡ Some call → calls t (suc left) context ≡ call ∷ calls t left call.sender
  unfolding calls
  one_more left context call e = rw e refl

  one_left : (most count : ℕ) (context : Value) (call : Call) → count < most → call_in t context ≡ Some call → calls t (most - count) context ≡ call ∷ calls t (most - suc count) call.sender
  one_left most count context call less e =
      let k : most - count ≡ suc (most - suc count) = omega (arith, less) in
      ap (λ n. calls t n context) k ∙ one_more (most - suc count) context call e

  -- COUNTED

  abbrev pub Counts : (most count : ℕ) → (active context : Value) → Type 0
  Counts most count active context = length (calls t most active) ≡ count + length (calls t (most - count) context)

  pub none_counted : (most : ℕ) (active : Value) → Counts most 0 active active
  none_counted most active =
      let e : most ≡ most - 0 = omega arith in
      let l = ap (λ n. length (calls t n active)) e in
      omega (arith, l)

  pub counted_more : (most count : ℕ) (active context : Value) (call : Call) → count < most → call_in t context ≡ Some call → Counts most count active context → Counts most (suc count) active call.sender
  counted_more most count active context call less e h =
      let l = ap length (one_left most count context call less e) in
      omega (arith, h, l)

  pub counted_stopped : (most count : ℕ) (active context : Value) → call_in t context ≡ None → Counts most count active context → count ≡ length (calls t most active)
  counted_stopped most count active context e h =
      let l = ap length (none_left (most - count) context e) in
      omega (arith, h, l)

  pub counted_all : (most : ℕ) (active context : Value) → Counts most most active context → most ≡ length (calls t most active)
  unfolding calls
  counted_all most active context h =
      let z : most - most ≡ 0 = omega arith in
      let l : length (calls t (most - most) context) ≡ 0 = ap (λ n. length (calls t n context)) z in
      omega (arith, h, l)

  -- SAID

  module _ {D : Type 0} (host : Ghosts D) (most : ℕ) (active : Value) where
    -- what was added of them, and what is left
    pub record AddsSome (count : ℕ) (context : Value) (old new : D) (before after : List ℕ) : Type 0 where
      pub text : List ℕ
      pub whole : flat_map frame_line (calls t most active) ≡ text ++ flat_map frame_line (calls t (most - count) context)
      pub pushed : Pushes {E = SayFault} host text old new before after (Ok tt)

    pub none_added : (old : D) (before : List ℕ) → OnlyNow host old → AddsSome 0 active old old before before
    none_added old before only = record {
      text = [];
      whole = let e : most ≡ most - 0 = omega arith in ap (λ n. flat_map frame_line (calls t n active)) e;
      pushed = push_none host old only;
    }

    module _ {count : ℕ} {context : Value} {old mid : D} {p q : List ℕ} (some : AddsSome count context old mid p q) where
      -- where there is one more
      module _ (call : Call) (less : count < most) (e : call_in t context ≡ Some call) where
        with_one : flat_map frame_line (calls t most active) ≡ (some.text ++ frame_line call) ++ flat_map frame_line (calls t (most - suc count) call.sender)
        with_one =
            some.whole ∙ (ap (λ cs. some.text ++ flat_map frame_line cs) (one_left most count context call less e)
            ∙ sym (append_assoc some.text (frame_line call) (flat_map frame_line (calls t (most - suc count) call.sender))))

        pub added_more : {new : D} {r : List ℕ} → Pushes {E = SayFault} host (frame_line call) mid new q r (Ok tt) → AddsSome (suc count) call.sender old new p r
        added_more run = record { text = some.text ++ frame_line call; whole = with_one; pushed = push_then some.pushed run }

        pub added_part : {new : D} {r : List ℕ} {fault : SayFault} {result : Result Unit SayFault} → IsErr result → Pushes {E = SayFault} host (frame_line call) mid new q r (Err fault)
            → Pushes {E = SayFault} host (flat_map frame_line (calls t most active)) old new p r result
        added_part err run = push_as (push_begun (flat_map frame_line (calls t (most - suc count) call.sender)) err (push_then some.pushed run)) (sym with_one)

      -- or there is none
      pub added_stopped : call_in t context ≡ None → Pushes {E = SayFault} host (flat_map frame_line (calls t most active)) old mid p q (Ok tt)
      added_stopped e =
          push_as some.pushed (sym (append-nil some.text) ∙ (ap (λ cs. some.text ++ flat_map frame_line cs) (sym (none_left (most - count) context e)) ∙ sym some.whole))

    pub added_all : {context : Value} {old mid : D} {p q : List ℕ} → AddsSome most context old mid p q → Pushes {E = SayFault} host (flat_map frame_line (calls t most active)) old mid p q (Ok tt)
    unfolding calls
    added_all {context = context} some =
        let z : 0 ≡ most - most = omega arith in
        push_as some.pushed (sym (append-nil some.text) ∙ (ap (λ n. some.text ++ flat_map frame_line (calls t n context)) z ∙ sym some.whole))

-- where it is none of them there is none
pub none_there : {A : Type 0} (o : Option A) → ((x : A) → o ≡ Some x → ⊥) → o ≡ None
none_there None h = refl
none_there (Some x) h = absurd (h x refl)

pub one_later : (n : ℕ) → suc n ≡ n + 1
one_later n = omega arith
