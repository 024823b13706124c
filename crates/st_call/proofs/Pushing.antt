-- Runs of calls that add a text follow each other.
use Rattle.std.proofs.Common.{◌≡◌, ℕ, zero, suc, ◌+◌, ◌<◌, List, [], ◌∷◌, ◌++◌, ◌∙◌, length, take, drop, map, get_or, refl, sym, ap, subst, arith, append_assoc, append-nil}
use Rattle.std.specs.Prelude.{Result, Ok, Err, OnOk, OnErr, IsErr, Some, slice_get}
use Rattle.std.specs.List.{flat_map}
use Rattle.std.proofs.lemmas.List.{take_more, take-append-drop, length-map, get_or-map}
use Rattle.std.proofs.lemmas.Option.{slice_get-get_or}
use Rattle.st_host.specs.Runs.{SaysAll}
use Rattle.st_host.specs.inside.Telling.{Says}
use Rattle.st_host.specs.declared.host.Host.{Ghosts}
use Rattle.st_host.proofs.Joining.{all_join}
use Rattle.st_host.proofs.Telling.{OnlyNow, says_begun, says_then, says_none}
use Rattle.st_host.proofs.Rising.{cause_after}
use Rattle.st_call.specs.inside.Saying.{Adds, Pushes}

-- what is held back between two texts is said with the second one
carried : (p a q b s r t : List ℕ) → p ++ a ≡ s ++ q → q ++ b ≡ t ++ r → p ++ (a ++ b) ≡ (s ++ t) ++ r
carried p a q b s r t first second =
    sym (append_assoc p a b) ∙ (ap (λ x. x ++ b) first ∙ (append_assoc s q b ∙ (ap (λ x. s ++ x) second ∙ sym (append_assoc s t r))))

carries : (p a q b s : List ℕ) → p ++ a ≡ s ++ q → p ++ (a ++ b) ≡ s ++ (q ++ b)
carries p a q b s first = sym (append_assoc p a b) ∙ (ap (λ x. x ++ b) first ∙ append_assoc s q b)

module _ {D : Type 0} {host : Ghosts D} where
  adds_join : {a b : List ℕ} {old mid new : D} {p q r : List ℕ} → Adds host a old mid p q → Adds host b mid new q r → Adds host (a ++ b) old new p r
  adds_join {a = a} {b = b} {old = old} {mid = mid} {new = new} {p = p} {q = q} {r = r} first second = record {
    said = first.said ++ second.said;
    joined = carried p a q b first.said r second.said first.joined second.joined;
    all = all_join host first.said second.said old mid new first.all second.all;
    says = says_then first.says first.all second.says refl;
  }

  -- bytes that are only held back
  adds_held : {text p : List ℕ} {old : D} → OnlyNow host old → Adds host text old old p (p ++ text)
  adds_held {old = old} only_now = record {
    said = [];
    joined = refl;
    all = record { is = λ told. sym (append-nil (host.said old)) };
    says = says_none only_now;
  }

  module _ {E : Type 0} where
    -- one run more
    pub push_then : {a b : List ℕ} {old mid new : D} {p q r : List ℕ} {result : Result Unit E} → Pushes {E = E} host a old mid p q (Ok tt)
        → Pushes host b mid new q r result → Pushes host (a ++ b) old new p r result
    push_then {a = a} {b = b} {old = old} {mid = mid} {new = new} {p = p} {q = q} {r = r} {result = result} first second = record {
      adds = joined result second.adds;
      cut = cut result second.cut;
      cause = cause_after (host.say_faults old) (host.say_faults mid) (host.say_faults new) result first.cause.later second.cause;
    }
      where
        joined : (result : Result Unit E) → OnOk result (Adds host b mid new q r) → OnOk result (Adds host (a ++ b) old new p r)
        joined (Ok x) adds = adds_join first.adds adds
        joined (Err x) adds = adds

        cut : (result : Result Unit E) → OnErr result (Says host (q ++ b) mid new) → OnErr result (Says host (p ++ (a ++ b)) old new)
        cut (Ok x) says = says
        cut (Err x) says = says_then first.adds.says first.adds.all says (carries p a q b first.adds.said first.adds.joined)

    -- a run that failed, of a longer text
    pub push_begun : {a : List ℕ} (b : List ℕ) {old new : D} {p q : List ℕ} {fault : E} {result : Result Unit E} → IsErr result
        → Pushes {E = E} host a old new p q (Err fault) → Pushes host (a ++ b) old new p q result
    push_begun b {result = Ok x} err run = cc
    push_begun {a = a} b {p = p} {result = Err x} err run = record {
      adds = tt;
      cut = says_begun b run.cut (sym (append_assoc p a b));
      cause = record { later = run.cause.later; rose = λ err. run.cause.rose refl };
    }

    -- the same text in other words
    pub push_as : {t u : List ℕ} {old new : D} {p q : List ℕ} {result : Result Unit E} → Pushes {E = E} host t old new p q result → t ≡ u → Pushes host u old new p q result
    push_as run e = rw (sym e) run

  -- what was added to nothing, and then said, or not
  pub pushed_all : {E : Type 0} {t p q : List ℕ} {old mid new : D} → p ≡ [] → Pushes {E = E} host t old mid p q (Ok tt) → SaysAll host q mid new → SaysAll host t old new
  pushed_all {t = t} {q = q} {old = old} {mid = mid} {new = new} empty run end =
      rw (ap (λ x. x ++ t) (sym empty) ∙ run.adds.joined) (all_join host run.adds.said q old mid new run.adds.all end)

  pub pushed_says : {E : Type 0} {t p q : List ℕ} {old mid new : D} → p ≡ [] → Pushes {E = E} host t old mid p q (Ok tt) → Says host q mid new → Says host t old new
  pushed_says {t = t} empty run end = says_then run.adds.says run.adds.all end (ap (λ x. x ++ t) (sym empty) ∙ run.adds.joined)

  pub pushed_part : {E : Type 0} {t p q : List ℕ} {old new : D} {fault : E} → p ≡ [] → Pushes {E = E} host t old new p q (Err fault) → Says host t old new
  pushed_part {t = t} {old = old} {new = new} empty run = subst (λ x. Says host (x ++ t) old new) empty run.cut

-- bytes that are only held back, and no bytes
pub push_held : {D E : Type 0} (host : Ghosts D) (old : D) {text p q : List ℕ} → OnlyNow host old → q ≡ p ++ text → Pushes {E = E} host text old old p q (Ok tt)
push_held host old only_now e = rw e (record {
  adds = adds_held only_now;
  cut = tt;
  cause = record { later = omega arith; rose = λ err. cc };
})

pub push_none : {D E : Type 0} (host : Ghosts D) (old : D) {p : List ℕ} → OnlyNow host old → Pushes {E = E} host [] old old p p (Ok tt)
push_none host old {p = p} only_now = push_held host old only_now (sym (append-nil p))

-- a text of pieces: those before one of them, this one, and those behind it
grown : {A : Type 0} (f : A → List ℕ) (xs : List A) (i : ℕ) (x : A) → slice_get xs i ≡ Some x → flat_map f (take (suc i) xs) ≡ flat_map f (take i xs) ++ f x
grown f [] i x e = cc
grown f (y ∷ xs) zero x e = let q : y ≡ x = cc in ap (λ z. f z ++ []) q ∙ append-nil (f x)
grown f (y ∷ xs) (suc i) x e = ap (λ t. f y ++ t) (grown f xs i x e) ∙ sym (append_assoc (f y) (flat_map f (take i xs)) (f x))

cut : {A : Type 0} (f : A → List ℕ) (xs : List A) (i : ℕ) (x : A) → slice_get xs i ≡ Some x
    → flat_map f xs ≡ flat_map f (take i xs) ++ (f x ++ flat_map f (drop (suc i) xs))
cut f [] i x e = cc
cut f (y ∷ xs) zero x e = let q : y ≡ x = cc in ap (λ z. f z ++ flat_map f xs) q
cut f (y ∷ xs) (suc i) x e =
    ap (λ t. f y ++ t) (cut f xs i x e) ∙ sym (append_assoc (f y) (flat_map f (take i xs)) (f x ++ flat_map f (drop (suc i) xs)))

next : (i : ℕ) → i + 1 ≡ suc i
next i = omega arith

module _ {D E A : Type 0} {host : Ghosts D} (f : A → List ℕ) (xs : List A) (i : ℕ) where
  -- one piece more
  pub push_next : {x : A} {old mid new : D} {p q r : List ℕ} → slice_get xs i ≡ Some x → Pushes {E = E} host (flat_map f (take i xs)) old mid p q (Ok tt)
      → Pushes {E = E} host (f x) mid new q r (Ok tt) → Pushes {E = E} host (flat_map f (take (i + 1) xs)) old new p r (Ok tt)
  push_next {x = x} e first second = rw (next i) (push_as (push_then first second) (sym (grown f xs i x e)))

  -- a piece that failed
  pub push_stopped : {x : A} {old mid new : D} {p q r : List ℕ} {fault : E} {result : Result Unit E} → IsErr result → slice_get xs i ≡ Some x
      → Pushes {E = E} host (flat_map f (take i xs)) old mid p q (Ok tt) → Pushes {E = E} host (f x) mid new q r (Err fault)
      → Pushes host (flat_map f xs) old new p r result
  push_stopped {x = x} err e first second = push_as (push_then first (push_begun (flat_map f (drop (suc i) xs)) err second)) (sym (cut f xs i x e))

-- a place of a list that was made of another's elements
pub mapped_at : {A B : Type 0} (v : A → B) (xs : List A) (i : ℕ) (d : A) → i < length xs → slice_get (map v xs) i ≡ Some (v (get_or xs i d))
mapped_at v xs i d below =
    slice_get-get_or (map v xs) i (v d) (omega (arith, below, length-map xs v)) ∙ ap Some (get_or-map v xs i d (v d) below)

-- the first bytes and the next one, and those that are left
pub byte_more : (xs : List ℕ) (i : ℕ) → i < length xs → take (i + 1) xs ≡ take i xs ++ (get_or xs i 0 ∷ [])
byte_more xs i below = take_more xs i 0 below

pub bytes_left : (xs : List ℕ) (i : ℕ) → i < length xs → xs ≡ take i xs ++ ((get_or xs i 0 ∷ []) ++ drop (i + 1) xs)
bytes_left xs i below =
    sym (take-append-drop (i + 1) xs)
    ∙ (ap (λ t. t ++ drop (i + 1) xs) (byte_more xs i below) ∙ append_assoc (take i xs) (get_or xs i 0 ∷ []) (drop (i + 1) xs))
