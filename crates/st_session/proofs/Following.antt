-- A script that is followed in pieces.
use Rattle.std.proofs.Common.{◌≡◌, ℕ, ◌+◌, ◌-◌, ◌≤◌, ◌<◌, List, [], ◌∷◌, ◌++◌, length, take, true, false, Bool, IsTrue, refl, sym, ap, ◌∙◌, append_assoc, arith, length-append}
use Rattle.std.specs.Prelude.{nat_le, Result, Ok, Err}
use Rattle.std.proofs.lemmas.Bool.Decides.{nat_tests}
use Rattle.std.proofs.Math.Seq.{take-append-add}
use Rattle.std.proofs.lemmas.List.{take-append-le}
use Rattle.st_host.specs.Files.{Files}
use Rattle.st_host.specs.Runs.{IsAtRest}
use Rattle.st_host.specs.declared.host.Host.{Ghosts}
use Rattle.st_host.proofs.Telling.{OnlyNow}
use Rattle.st_chunk.specs.Reading.{Reading, read}
use Rattle.st_chunk.specs.Scripts.{Asked, asked_by, asked_from, asked_at_end, told_from, read_through}
use Rattle.st_protocol.specs.declared.status.Status.{Status}
use Rattle.st_protocol.specs.declared.status.Status.TheVariants as status
use Rattle.st_protocol.specs.Courses.{Course, Ends, and_then}
use Rattle.st_protocol.specs.inside.Obeying.{Obeys}
use Rattle.st_protocol.proofs.Courses.{preceded_none, then_then, then_goes}
use Rattle.st_protocol.proofs.Joins.{obeys_as, obeys_then, obeys_err, obeys_end}
use Rattle.st_protocol.specs.Installing.{Install}
use Rattle.st_session.specs.Points.{Point}
use Rattle.st_session.specs.Keeping.{Keeping}
use Rattle.st_session.specs.Answers.{answer}
use Rattle.st_session.specs.Sessions.{follow, follow_rest}
use Rattle.st_chunk.proofs.Cases.{by_test}

pub told_both : (r : Reading) (a b : List ℕ) → told_from r (a ++ b) ≡ told_from r a ++ told_from (read_through r a) b
told_both r [] b = refl
told_both r (x ∷ a) b = ap (λ l. asked_by (read r x) ++ l) (told_both (read r x).0 a b) ∙ sym (append_assoc (asked_by (read r x)) (told_from (read r x).0 a) (told_from (read_through (read r x).0 a) b))

pub read_both : (r : Reading) (a b : List ℕ) → read_through r (a ++ b) ≡ read_through (read_through r a) b
read_both r [] b = refl
read_both r (x ∷ a) b = read_both (read r x).0 a b

pub asked_both : (r : Reading) (a b : List ℕ) → asked_from r (a ++ b) ≡ told_from r a ++ asked_from (read_through r a) b
asked_both r [] b = refl
asked_both r (x ∷ a) b = ap (λ l. asked_by (read r x) ++ l) (asked_both (read r x).0 a b) ∙ sym (append_assoc (asked_by (read r x)) (told_from (read r x).0 a) (asked_from (read_through (read r x).0 a) b))

same_tests : (a b c d : ℕ) → (a ≤ b → c ≤ d) → (c ≤ d → a ≤ b) → nat_le a b ≡ nat_le c d
same_tests a b c d f g = by_test (nat_le a b)
    (λ e. let h = f (grind (arith, nat_tests)) in grind (arith, nat_tests))
    (λ e. by_test (nat_le c d) (λ k. let h = g (grind (arith, nat_tests)) in grind (arith, nat_tests)) (λ k. e ∙ sym k))

-- how many bytes more there may be, behind some
room_behind : (bytes rest : List ℕ) (left : ℕ) → length bytes ≤ left → nat_le (length (bytes ++ rest)) left ≡ nat_le (length rest) (left - length bytes)
room_behind bytes rest left few =
    let both = length-append bytes rest in
    same_tests (length (bytes ++ rest)) left (length rest) (left - length bytes) (λ h. omega (arith, h, both, few)) (λ h. omega (arith, h, both, few))

pub take_behind : (bytes rest : List ℕ) (left : ℕ) → length bytes ≤ left → take left (bytes ++ rest) ≡ bytes ++ take (left - length bytes) rest
take_behind bytes rest left few =
    let e : left ≡ length bytes + (left - length bytes) = omega (arith, few) in
    ap (λ n. take n (bytes ++ rest)) e ∙ take-append-add bytes rest (left - length bytes)

module _ {C : Type 0} (keeping : Keeping C) (install : Install) where
  abbrev Follow : Type 0
  Follow = Course C (Point C)

  abbrev pub follows : Point C → List Asked → Follow
  follows p asked = follow keeping install p asked

  pub follow_both : (p : Point C) (a b : List Asked) → follows p (a ++ b) ≡ and_then (follows p a) (λ q. follows q b)
  follow_both p [] b = sym (preceded_none (follows p b))
  follow_both p (x ∷ a) b = (λ i. and_then (answer keeping install p x) (λ q. follow_both q a b i)) ∙ sym (then_then (answer keeping install p x) (λ q. follows q a) (λ q. follows q b))

  -- one request
  pub follow_one : (p : Point C) (x : Asked) → follows p (x ∷ []) ≡ answer keeping install p x
  follow_one p x = then_goes (answer keeping install p x)

  told_then : (r : Reading) (p : Point C) (a b : List ℕ) → follows p (told_from r (a ++ b)) ≡ and_then (follows p (told_from r a)) (λ q. follows q (told_from (read_through r a) b))
  told_then r p a b = ap (follows p) (told_both r a b) ∙ follow_both p (told_from r a) (told_from (read_through r a) b)

  abbrev pub rest_of : Reading → ℕ → Point C → List ℕ → Follow
  rest_of r left p rest = follow_rest keeping install r left p rest (nat_le (length rest) left)

  -- what is left behind some bytes
  pub rest_behind : (r : Reading) (left : ℕ) (p : Point C) (bytes rest : List ℕ) → length bytes ≤ left
      → rest_of r left p (bytes ++ rest) ≡ and_then (follows p (told_from r bytes)) (λ q. rest_of (read_through r bytes) (left - length bytes) q rest)
  rest_behind r left p bytes rest few =
      ap (follow_rest keeping install r left p (bytes ++ rest)) (room_behind bytes rest left few) ∙ over (nat_le (length rest) (left - length bytes))
    where
      behind : List Asked → Status → List Asked → Follow
      behind asked e others = and_then (follows p asked) (λ q. and_then (follows q others) (λ o. Ends [] e))

      over : (b : Bool) → follow_rest keeping install r left p (bytes ++ rest) b ≡ and_then (follows p (told_from r bytes)) (λ q. follow_rest keeping install (read_through r bytes) (left - length bytes) q rest b)
      over true =
          (λ i. and_then (follows p (asked_both r bytes rest i)) (λ q. Ends [] status.Done))
          ∙ ((λ i. and_then (follow_both p (told_from r bytes) (asked_from (read_through r bytes) rest) i) (λ q. Ends [] status.Done))
          ∙ then_then (follows p (told_from r bytes)) (λ q. follows q (asked_from (read_through r bytes) rest)) (λ q. Ends [] status.Done))
      over false =
          (λ i. and_then (follows p (told_from r (take_behind bytes rest left few i))) (λ q. Ends [] status.TooLarge))
          ∙ ((λ i. and_then (told_then r p bytes (take (left - length bytes) rest) i) (λ q. Ends [] status.TooLarge))
          ∙ then_then (follows p (told_from r bytes)) (λ q. follows q (told_from (read_through r bytes) (take (left - length bytes) rest))) (λ q. Ends [] status.TooLarge))

  -- the script has ended
  pub rest_none : (r : Reading) (left : ℕ) (p : Point C) → rest_of r left p [] ≡ and_then (follows p (asked_at_end r)) (λ q. Ends [] status.Done)
  rest_none r left p = ap (follow_rest keeping install r left p []) (let e : nat_le 0 left ≡ true = grind (arith, nat_tests) in e)

  -- or has more bytes than may come
  pub rest_over : (r : Reading) (left : ℕ) (p : Point C) (bytes rest : List ℕ) → left < length bytes
      → rest_of r left p (bytes ++ rest) ≡ and_then (follows p (told_from r (take left bytes))) (λ q. Ends [] status.TooLarge)
  rest_over r left p bytes rest more =
      let both = length-append bytes rest in
      let over : nat_le (length (bytes ++ rest)) left ≡ false = grind (arith, nat_tests, both) in
      ap (follow_rest keeping install r left p (bytes ++ rest)) over ∙ (λ i. and_then (follows p (told_from r (take_within i))) (λ q. Ends [] status.TooLarge))
    where
      take_within : take left (bytes ++ rest) ≡ take left bytes
      take_within = take-append-le left bytes rest (omega (arith, more))

  module _ {D : Type 0} (host : Ghosts D) (opens : C → Files → Type 0) (spared : List ℕ → Type 0) (at on : Point C → Type 0) where
    abbrev kept : Point C → C
    kept q = q.kept

    -- what a call does, from a commit on
    abbrev Doing : (Point C → Type 0) → C → Follow → Result Unit Status → D → D → Type 0
    Doing where_to c course result old new = Obeys host opens spared where_to kept c course result old new

    -- some bytes more
    pub told_more : (r : Reading) (p : Point C) (a b : List ℕ) (result : Result Unit Status) (old mid new : D) → Doing at p.kept (follows p (told_from r a)) (Ok tt) old mid
        → ((q : Point C) → at q → Doing on q.kept (follows q (told_from (read_through r a) b)) result mid new)
        → Doing on p.kept (follows p (told_from r (a ++ b))) result old new
    told_more r p a b result old mid new first next =
        obeys_as host opens spared on kept p.kept (and_then (follows p (told_from r a)) (λ q. follows q (told_from (read_through r a) b))) (follows p (told_from r (a ++ b))) result old new (sym (told_then r p a b))
        (obeys_then host opens spared at kept on kept p.kept (follows p (told_from r a)) (λ q. follows q (told_from (read_through r a) b)) result old mid new first next)

    -- so many bytes more may come behind some
    pub rest_then : (r : Reading) (left more : ℕ) (p : Point C) (bytes rest : List ℕ) (result : Result Unit Status) (old mid new : D) → length bytes + more ≡ left → Doing at p.kept (follows p (told_from r bytes)) (Ok tt) old mid
        → ((q : Point C) → at q → Doing on q.kept (rest_of (read_through r bytes) more q rest) result mid new)
        → Doing on p.kept (rest_of r left p (bytes ++ rest)) result old new
    rest_then r left more p bytes rest result old mid new sum first next =
        let few : length bytes ≤ left = omega (arith, sum) in
        let same : more ≡ left - length bytes = omega (arith, sum) in
        obeys_as host opens spared on kept p.kept (and_then (follows p (told_from r bytes)) (λ q. rest_of (read_through r bytes) (left - length bytes) q rest)) (rest_of r left p (bytes ++ rest)) result old new (sym (rest_behind r left p bytes rest few))
        (obeys_then host opens spared at kept on kept p.kept (follows p (told_from r bytes)) (λ q. rest_of (read_through r bytes) (left - length bytes) q rest) result old mid new first
        (λ q stands. obeys_as host opens spared on kept q.kept (rest_of (read_through r bytes) more q rest) (rest_of (read_through r bytes) (left - length bytes) q rest) result mid new (ap (λ n. rest_of (read_through r bytes) n q rest) same) (next q stands)))

    pub rest_err : (r : Reading) (left : ℕ) (p : Point C) (bytes rest : List ℕ) (e : Status) (old new : D) → length bytes ≤ left → Doing at p.kept (follows p (told_from r bytes)) (Err e) old new → Doing on p.kept (rest_of r left p (bytes ++ rest)) (Err e) old new
    rest_err r left p bytes rest e old new few h =
        obeys_as host opens spared on kept p.kept (and_then (follows p (told_from r bytes)) (λ q. rest_of (read_through r bytes) (left - length bytes) q rest)) (rest_of r left p (bytes ++ rest)) (Err e) old new (sym (rest_behind r left p bytes rest few))
        (obeys_err host opens spared at kept on kept p.kept (follows p (told_from r bytes)) (λ q. rest_of (read_through r bytes) (left - length bytes) q rest) e old new h)

    -- behind a course the session ends
    pub ends_then : (k : C) (c : Follow) (e : Status) (old new : D) → OnlyNow host new → ((q : Point C) → at q → IsTrue host.is_told → IsAtRest host opens q.kept new) → Doing at k c (Ok tt) old new
        → Doing on k (and_then c (λ q. Ends [] e)) (Err e) old new
    ends_then k c e old new only_now rest h = obeys_then host opens spared at kept on kept k c (λ q. Ends [] e) (Err e) old new new h (λ q stands. obeys_end host opens spared on kept q.kept e only_now (rest q stands))

    pub ends_err : (k : C) (c : Follow) (end e : Status) (old new : D) → Doing at k c (Err e) old new → Doing on k (and_then c (λ q. Ends [] end)) (Err e) old new
    ends_err k c end e old new h = obeys_err host opens spared at kept on kept k c (λ q. Ends [] end) e old new h
