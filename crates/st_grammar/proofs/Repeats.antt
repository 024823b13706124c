-- A loop of a reader, by the list of phrases that it reads.
use Rattle.std.proofs.Common.{◌≡◌, ℕ, zero, suc, ◌<◌, ◌≤◌, Bool, true, false, cond, ◌||◌, ◌&&◌, List, [], ◌∷◌, ◌++◌, ◌⊎◌, inl, inr, length, Ok, Err, refl, sym, ap, ◌∙◌, subst, append_assoc, length-append, arith}
use Rattle.std.proofs.lemmas.List.{append-nil}
use Rattle.st_scan.specs.declared.fault.Cause.TheVariants.{Expected, Deep}
use Rattle.st_grammar.specs.declared.leaf.Leaf.{Leaf}
use Rattle.st_grammar.specs.Reading.{Stop, Read, stop, ◌>>=◌, first, many}
use Rattle.st_grammar.specs.Faults.{highest}
use Rattle.st_grammar.proofs.Heights.{IsBalanced, behind_balanced}
use Rattle.st_grammar.proofs.Loops.{many_stop, many_step}
use Rattle.st_grammar.proofs.Readers.{Alike, first_alike, alike_behind, first_same, ToldOk, ToldErr, Told, Reads, IsDeep, Reason, is_nil, or_left, or_right}
use Rattle.std.proofs.lemmas.Bool.{or_from}

module _ {A P L : Type 0} (looks : A → Leaf → Bool) (text : P → List Leaf) (after : P → A → A) (goes : P → Leaf → Bool) (Valid : A → L → Type 0) (texts : L → List Leaf) (afters : L → A → A) (last : L → Leaf → Bool) where
  -- a list that is a phrase and another list
  pub record IsMore (a : A) (l : L) : Type 0 where
    pub p : P
    pub rest : L
    pub valid : Valid (after p a) rest
    pub parts : texts l ≡ text p ++ texts rest
    pub is : afters l a ≡ afters rest (after p a)
    pub last_is : (x : Leaf) → last l x ≡ (last rest x || (is_nil (texts rest) && goes p x))
    pub starts : (k : List Leaf) → first (looks a) (text p ++ k) ≡ true
    pub ends : (x : Leaf) → looks (after p a) x ≡ true → goes p x ≡ false

  -- lists of phrases, with the values that they are read from
  pub record IsRepeat : Type 0 where
    pub some : (p : P) → 0 < length (text p)
    pub nil : L
    pub nil_valid : (a : A) → Valid a nil
    pub nil_text : texts nil ≡ []
    pub nil_is : (a : A) → afters nil a ≡ a
    pub nil_last : (x : Leaf) → last nil x ≡ false
    pub cons : P → L → L
    pub cons_more : (a : A) (p : P) (l : L) (x : Leaf) → looks a x ≡ true → Valid (after p a) l → Valid a (cons p l) × (texts (cons p l) ≡ text p ++ texts l) × (afters (cons p l) a ≡ afters l (after p a))
    pub cons_last : (a : A) (p : P) (l : L) (x : Leaf) → Valid (after p a) l → last (cons p l) x ≡ (last l x || (is_nil (texts l) && goes p x))
    pub uncons : (a : A) (l : L) → Valid a l → ((texts l ≡ []) × (afters l a ≡ a)) ⊎ IsMore a l

module _ {A P L : Type 0} {looks : A → Leaf → Bool} {text : P → List Leaf} {after : P → A → A} {goes : P → Leaf → Bool} {Valid : A → L → Type 0} {texts : L → List Leaf} {afters : L → A → A} {last : L → Leaf → Bool}
    (R : IsRepeat looks text after goes Valid texts afters last) (n m : ℕ) (le : n ≤ m) (step step' : A → List Leaf → Read A)
    (S : (a : A) → Reads text (λ p. after p a) goes (looks a) n m (step a) (step' a))
    (balanced : (l : L) → IsBalanced (texts l)) where
  abbrev pub goes_on : A → L → Leaf → Bool
  goes_on a l x = looks (afters l a) x || last l x

  -- the same as ToldErr, with any bound that is large enough
  record LoopErr (a : A) (ts : List Leaf) (s : Stop) : Type 0 where
    before : List Leaf
    rest : List Leaf
    p : L
    valid : Valid a p
    more : List Leaf
    parts : ts ≡ before ++ rest
    place : length rest ≡ s.left
    begins : texts p ≡ before ++ more
    low : highest 0 before ≤ n
    why : ((s.cause ≡ Expected) × ((l : List Leaf) (k : ℕ) → length (before ++ l) ≤ k → Alike rest l → many looks step' k a (before ++ l) ≡ stop Expected l) × (first (looks a) ts ≡ true → 0 < length before))
        ⊎ ((s.cause ≡ Deep) × IsDeep n before more rest)

  record LoopOk (a : A) (ts : List Leaf) (x : A × List Leaf) : Type 0 where
    p : L
    valid : Valid a p
    parts : ts ≡ texts p ++ x.1
    is : afters p a ≡ x.0
    stops : first (goes_on a p) x.1 ≡ false
    low : highest 0 (texts p) ≤ n

  abbrev LoopTold : A → List Leaf → Read A → Type 0
  LoopTold a ts (Ok x) = LoopOk a ts x
  LoopTold a ts (Err s) = LoopErr a ts s

  first_of : (f g : Leaf → Bool) (l : List Leaf) → ((x : Leaf) → f x ≡ g x) → first f l ≡ first g l
  first_of f g [] e = refl
  first_of f g (x ∷ l) e = e x

  -- nothing is read
  none : (a : A) (ts : List Leaf) → first (looks a) ts ≡ false → LoopOk a ts (a, ts)
  none a ts e = record {
    p = R.nil;
    valid = R.nil_valid a;
    parts = ap (λ (l : List Leaf). l ++ ts) (sym R.nil_text);
    is = R.nil_is a;
    stops = stops ts e;
    low = omega (arith, ap (highest 0) R.nil_text);
  }
    where
      stops : (ts : List Leaf) → first (looks a) ts ≡ false → first (goes_on a R.nil) ts ≡ false
      stops [] e = refl
      stops (x ∷ ts) e = or_from (looks (afters R.nil a) x) (last R.nil x) (ap (λ (b : A). looks b x) (R.nil_is a) ∙ e) (R.nil_last x)

  first_leaf : (f : Leaf → Bool) (ts : List Leaf) → first f ts ≡ true → (x : Leaf) × (f x ≡ true)
  first_leaf f [] e = absurd cc
  first_leaf f (x ∷ ts) e = (x, e)

  -- a phrase, and then a list
  more_ok : (a : A) (ts : List Leaf) (x y : A × List Leaf) → first (looks a) ts ≡ true → ToldOk text (λ p. after p a) goes n ts x → LoopOk x.0 x.1 y → LoopOk a ts y
  more_ok a ts x y e t u =
      let leaf = first_leaf (looks a) ts e in
      let valid = subst (λ (b : A). Valid b u.p) (sym t.is) u.valid in
      let c = R.cons_more a t.p u.p leaf.0 leaf.1 valid in
      record {
        p = R.cons t.p u.p;
        valid = c.0;
        parts = t.parts ∙ ap (λ (l : List Leaf). text t.p ++ l) u.parts ∙ sym (append_assoc (text t.p) (texts u.p) y.1) ∙ ap (λ (l : List Leaf). l ++ y.1) (sym c.1);
        is = c.2 ∙ ap (afters u.p) t.is ∙ u.is;
        stops = stops y.1 u.p valid (c.2 ∙ ap (afters u.p) t.is) refl u.stops (subst (λ (l : List Leaf). first (goes t.p) l ≡ false) u.parts t.stops);
        low = omega (arith, ap (highest 0) c.1, behind_balanced 0 (text t.p) (texts u.p) ((S a).balanced t.p), t.low, u.low);
      }
    where
      stops : (rest : List Leaf) (l : L) → Valid (after t.p a) l → afters (R.cons t.p l) a ≡ afters l x.0 → l ≡ l → first (goes_on x.0 l) rest ≡ false → first (goes t.p) (texts l ++ rest) ≡ false → first (goes_on a (R.cons t.p l)) rest ≡ false
      stops [] l v is same e f = refl
      stops (z ∷ rest) l v is same e f =
          or_from (looks (afters (R.cons t.p l) a) z) (last (R.cons t.p l) z) (ap (λ (b : A). looks b z) is ∙ or_left (looks (afters l x.0) z) _ e)
          (R.cons_last a t.p l z v ∙ or_from (last l z) _ (or_right (looks (afters l x.0) z) _ e) (behind (texts l) f))
        where
          behind : (us : List Leaf) → first (goes t.p) (us ++ z ∷ rest) ≡ false → (is_nil us && goes t.p z) ≡ false
          behind [] f = f
          behind (u ∷ us) f = refl

  -- r' reads the first phrase again, and then goes on
  once_more : (a b : A) (t_p : P) (before l : List Leaf) (k : ℕ) (z : Read A) → after t_p a ≡ b → first (looks a) (text t_p ++ (before ++ l)) ≡ true → first (goes t_p) (before ++ l) ≡ false → highest 0 (text t_p) ≤ m
      → length ((text t_p ++ before) ++ l) ≤ k → ((j : ℕ) → length (before ++ l) ≤ j → many looks step' j b (before ++ l) ≡ z) → many looks step' k a ((text t_p ++ before) ++ l) ≡ z
  once_more a b p before l zero z is e stops low le again = absurd (omega (arith, R.some p, ap length (append_assoc (text p) before l), length-append (text p) (before ++ l)))
  once_more a b p before l (suc k) z is e stops low le again =
      ap (many looks step' (suc k) a) (append_assoc (text p) before l)
      ∙ many_step looks step' k a (text p ++ (before ++ l)) e
      ∙ ap (λ (r : Read A). r >>= λ x. many looks step' k x.0 x.1) ((S a).again p (before ++ l) stops low)
      ∙ ap (λ (c : A). many looks step' k c (before ++ l)) is
      ∙ again k (omega (arith, R.some p, ap length (append_assoc (text p) before l), length-append (text p) (before ++ l)))

  more_err : (a : A) (ts : List Leaf) (x : A × List Leaf) (s : Stop) → first (looks a) ts ≡ true → ToldOk text (λ p. after p a) goes n ts x → LoopErr x.0 x.1 s → LoopErr a ts s
  more_err a ts x s e t u =
      let leaf = first_leaf (looks a) ts e in
      let c = R.cons_more a t.p u.p leaf.0 leaf.1 (subst (λ (b : A). Valid b u.p) (sym t.is) u.valid) in
      record {
        before = text t.p ++ u.before;
        rest = u.rest;
        p = R.cons t.p u.p;
        valid = c.0;
        more = u.more;
        parts = t.parts ∙ ap (λ (l : List Leaf). text t.p ++ l) u.parts ∙ sym (append_assoc (text t.p) u.before u.rest);
        place = u.place;
        begins = c.1 ∙ ap (λ (l : List Leaf). text t.p ++ l) u.begins ∙ sym (append_assoc (text t.p) u.before u.more);
        low = omega (arith, behind_balanced 0 (text t.p) u.before ((S a).balanced t.p), t.low, u.low);
        why = why u.why;
      }
    where
      why : ((s.cause ≡ Expected) × ((l : List Leaf) (k : ℕ) → length (u.before ++ l) ≤ k → Alike u.rest l → many looks step' k x.0 (u.before ++ l) ≡ stop Expected l) × (first (looks x.0) x.1 ≡ true → 0 < length u.before)) ⊎ ((s.cause ≡ Deep) × IsDeep n u.before u.more u.rest)
          → ((s.cause ≡ Expected) × ((l : List Leaf) (k : ℕ) → length ((text t.p ++ u.before) ++ l) ≤ k → Alike u.rest l → many looks step' k a ((text t.p ++ u.before) ++ l) ≡ stop Expected l) × (first (looks a) ts ≡ true → 0 < length (text t.p ++ u.before)))
          ⊎ ((s.cause ≡ Deep) × IsDeep n (text t.p ++ u.before) u.more u.rest)
      why (inr (six, d)) = inr (six, record { bracket = d.bracket; rest_behind = d.rest_behind; more_behind = d.more_behind; opens = d.opens; rest_is = d.rest_is; more_is = d.more_is; high = λ h. ((S a).balanced t.p).flat h u.before ∙ d.high h })
      why (inl (three, go, takes)) = inl (
        three,
        λ l k enough alike.
            let stops : first (goes t.p) (u.before ++ l) ≡ false = first_alike (goes t.p) (u.before ++ u.rest) (u.before ++ l) (alike_behind u.before u.rest l alike) (subst (λ (z : List Leaf). first (goes t.p) z ≡ false) u.parts t.stops) in
            let begins : first (looks a) (text t.p ++ (u.before ++ l)) ≡ true = first_same (looks a) (text t.p) (u.before ++ l) x.1 (R.some t.p) ∙ ap (first (looks a)) (sym t.parts) ∙ e in
            once_more a x.0 t.p u.before l k (stop Expected l) t.is begins stops (omega (arith, t.low, le)) enough (λ j lt. go l j lt alike),
        λ b. omega (arith, R.some t.p, length-append (text t.p) u.before),
      )

  first_err : (a : A) (ts : List Leaf) (s : Stop) → first (looks a) ts ≡ true → ToldErr text (looks a) n (step' a) ts s → LoopErr a ts s
  first_err a ts s e t =
      let leaf = first_leaf (looks a) ts e in
      let c = R.cons_more a t.p R.nil leaf.0 leaf.1 (R.nil_valid (after t.p a)) in
      record {
        before = t.before;
        rest = t.rest;
        p = R.cons t.p R.nil;
        valid = c.0;
        more = t.more;
        parts = t.parts;
        place = t.place;
        begins = c.1 ∙ ap (λ (l : List Leaf). text t.p ++ l) R.nil_text ∙ append-nil (text t.p) ∙ t.begins;
        low = t.low;
        why = why t.why;
      }
    where
      fails : (l : List Leaf) (k : ℕ) → 0 < length t.before → length (t.before ++ l) ≤ k → step' a (t.before ++ l) ≡ stop Expected l → many looks step' k a (t.before ++ l) ≡ stop Expected l
      fails l zero some enough w = absurd (omega (arith, length-append t.before l))
      fails l (suc k) some enough w =
          many_step looks step' k a (t.before ++ l) (sym (first_same (looks a) t.before t.rest l some) ∙ ap (first (looks a)) (sym t.parts) ∙ e)
          ∙ ap (λ (r : Read A). r >>= λ x. many looks step' k x.0 x.1) w

      why : Reason (looks a) n (step' a) s.cause t.before t.more t.rest
          → ((s.cause ≡ Expected) × ((l : List Leaf) (k : ℕ) → length (t.before ++ l) ≤ k → Alike t.rest l → many looks step' k a (t.before ++ l) ≡ stop Expected l) × (first (looks a) ts ≡ true → 0 < length t.before))
          ⊎ ((s.cause ≡ Deep) × IsDeep n t.before t.more t.rest)
      why (inr d) = inr d
      why (inl (three, w)) =
          let some = w.takes (ap (first (looks a)) (sym t.parts) ∙ e) in
          inl (three, λ l k enough alike. fails l k some enough (w.fails l alike), λ b. some)

  loop_told : (k : ℕ) (a : A) (ts : List Leaf) → length ts ≤ k → LoopTold a ts (many looks step k a ts)
  unfolding many
  loop_told zero a [] le = none a [] refl
  loop_told zero a (x ∷ ts) le = absurd (omega arith)
  loop_told (suc k) a ts le = chosen (λ b l lt. loop_told k b l lt) (first (looks a) ts) refl
    where
      rest_told : (x : A × List Leaf) (z : Read A) → first (looks a) ts ≡ true → ToldOk text (λ p. after p a) goes n ts x → LoopTold x.0 x.1 z → LoopTold a ts z
      rest_told x (Ok y) e t u = more_ok a ts x y e t u
      rest_told x (Err s) e t u = more_err a ts x s e t u

      stepped : ((b : A) (l : List Leaf) → length l ≤ k → LoopTold b l (many looks step k b l)) → (z : Read A) → first (looks a) ts ≡ true → Told text (λ p. after p a) goes (looks a) n (step' a) ts z → LoopTold a ts (z >>= λ x. many looks step k x.0 x.1)
      stepped again (Ok x) e t = rest_told x (many looks step k x.0 x.1) e t (again x.0 x.1 (omega (arith, R.some t.p, ap length t.parts, length-append (text t.p) x.1)))
      stepped again (Err s) e t = first_err a ts s e t

      chosen : ((b : A) (l : List Leaf) → length l ≤ k → LoopTold b l (many looks step k b l)) → (b : Bool) → first (looks a) ts ≡ b → LoopTold a ts (cond b (step a ts >>= λ x. many looks step k x.0 x.1) (Ok (a, ts)))
      chosen again true e = stepped again (step a ts) e ((S a).told ts)
      chosen again false e = none a ts e

  looks_stop : (a : A) (l : L) (rest : List Leaf) → afters l a ≡ a → first (goes_on a l) rest ≡ false → first (looks a) rest ≡ false
  looks_stop a l [] is e = refl
  looks_stop a l (x ∷ rest) is e = ap (λ (b : A). looks b x) (sym is) ∙ or_left (looks (afters l a) x) _ e

  rest_stop : (a : A) (l : L) (rest : List Leaf) (i : IsMore looks text after goes Valid texts afters last a l) → first (goes_on a l) rest ≡ false → first (goes_on (after i.p a) i.rest) rest ≡ false
  rest_stop a l [] i e = refl
  rest_stop a l (x ∷ rest) i e =
      or_from (looks (afters i.rest (after i.p a)) x) (last i.rest x) (ap (λ (b : A). looks b x) (sym i.is) ∙ or_left (looks (afters l a) x) _ e) (or_left (last i.rest x) _ (sym (i.last_is x) ∙ or_right (looks (afters l a) x) _ e))

  -- the first phrase ends before the rest
  phrase_stop : (a : A) (l : L) (rest us : List Leaf) (i : IsMore looks text after goes Valid texts afters last a l) → us ≡ texts i.rest → first (goes_on a l) rest ≡ false → first (goes i.p) (us ++ rest) ≡ false
  phrase_stop a l rest (u ∷ us) i is e = i.ends u (next (R.uncons (after i.p a) i.rest i.valid))
    where
      next : ((texts i.rest ≡ []) × (afters i.rest (after i.p a) ≡ after i.p a)) ⊎ IsMore looks text after goes Valid texts afters last (after i.p a) i.rest → looks (after i.p a) u ≡ true
      next (inl (empty, _)) = let no : u ∷ us ≡ [] = is ∙ empty in absurd cc
      next (inr j) =
          let here : first (looks (after i.p a)) (u ∷ us) ≡ true = ap (first (looks (after i.p a))) (is ∙ j.parts) ∙ j.starts (texts j.rest) in
          here
  phrase_stop a l [] [] i is e = refl
  phrase_stop a l (x ∷ rest) [] i is e =
      let whole : (is_nil (texts i.rest) && goes i.p x) ≡ false = or_right (last i.rest x) _ (sym (i.last_is x) ∙ or_right (looks (afters l a) x) _ e) in
      subst (λ (us : List Leaf). (is_nil us && goes i.p x) ≡ false) (sym is) whole

  loop_empty : (k : ℕ) (a : A) (l : L) (rest : List Leaf) → first (goes_on a l) rest ≡ false → (texts l ≡ []) × (afters l a ≡ a) → many looks step' k a (texts l ++ rest) ≡ Ok (afters l a, rest)
  loop_empty k a l rest e (empty, is) =
      ap (λ (us : List Leaf). many looks step' k a (us ++ rest)) empty ∙ many_stop looks step' k a rest (looks_stop a l rest is e) ∙ ap (λ (b : A). Ok (b, rest)) (sym is)

  loop_more : (k : ℕ) (a : A) (l : L) (rest : List Leaf) → first (goes_on a l) rest ≡ false → highest 0 (texts l) ≤ m → length (texts l ++ rest) ≤ suc k → (i : IsMore looks text after goes Valid texts afters last a l)
      → ((b : A) (j : L) → Valid b j → first (goes_on b j) rest ≡ false → highest 0 (texts j) ≤ m → length (texts j ++ rest) ≤ k → many looks step' k b (texts j ++ rest) ≡ Ok (afters j b, rest))
      → many looks step' (suc k) a (texts l ++ rest) ≡ Ok (afters l a, rest)
  loop_more k a l rest e low enough i again =
      let high = behind_balanced 0 (text i.p) (texts i.rest) ((S a).balanced i.p) in
      let flat : texts l ++ rest ≡ text i.p ++ (texts i.rest ++ rest) = ap (λ (us : List Leaf). us ++ rest) i.parts ∙ append_assoc (text i.p) (texts i.rest) rest in
      ap (many looks step' (suc k) a) flat
      ∙ many_step looks step' k a (text i.p ++ (texts i.rest ++ rest)) (i.starts (texts i.rest ++ rest))
      ∙ ap (λ (r : Read A). r >>= λ x. many looks step' k x.0 x.1) ((S a).again i.p (texts i.rest ++ rest) (phrase_stop a l rest (texts i.rest) i refl e) (omega (arith, low, high, ap (highest 0) i.parts)))
      ∙ again (after i.p a) i.rest i.valid (rest_stop a l rest i e) (omega (arith, low, high, ap (highest 0) i.parts)) (omega (arith, enough, ap length flat, length-append (text i.p) (texts i.rest ++ rest), R.some i.p))
      ∙ ap (λ (b : A). Ok (b, rest)) (sym i.is)

  loop_again : (k : ℕ) (a : A) (l : L) (rest : List Leaf) → Valid a l → first (goes_on a l) rest ≡ false → highest 0 (texts l) ≤ m → length (texts l ++ rest) ≤ k → many looks step' k a (texts l ++ rest) ≡ Ok (afters l a, rest)
  loop_again zero a l rest v e low enough = elim (R.uncons a l v) [
    | inl empty ↦ loop_empty zero a l rest e empty
    | inr i ↦ absurd (omega (arith, length-append (texts l) rest, ap length i.parts, length-append (text i.p) (texts i.rest), R.some i.p))
  ]
  loop_again (suc k) a l rest v e low enough = elim (R.uncons a l v) [
    | inl empty ↦ loop_empty (suc k) a l rest e empty
    | inr i ↦ loop_more k a l rest e low enough i (λ b j v f lo en. loop_again k b j rest v f lo en)
  ]

  pub repeated : (a : A) → Reads {P = (l : L) × Valid a l} (λ l. texts l.0) (λ l. afters l.0 a) (λ l. goes_on a l.0) (looks a) n m (λ ts. many looks step (length ts) a ts) (λ ts. many looks step' (length ts) a ts)
  repeated a = record {
    fewer = le;
    told = λ ts. told ts (many looks step (length ts) a ts) (loop_told (length ts) a ts (omega arith));
    again = λ l rest e low. loop_again (length (texts l.0 ++ rest)) a l.0 rest l.1 e low (omega arith);
    balanced = λ l. balanced l.0;
  }
    where
      why : (ts : List Leaf) (s : Stop) (t : LoopErr a ts s) → Reason (looks a) n (λ l. many looks step' (length l) a l) s.cause t.before t.more t.rest
      why ts s t = elim t.why [
        | inl w ↦ inl (w.0, record { fails = λ l alike. w.1 l (length (t.before ++ l)) (omega arith) alike; takes = λ b. w.2 (ap (first (looks a)) t.parts ∙ b) })
        | inr d ↦ inr d
      ]

      told : (ts : List Leaf) (z : Read A) → LoopTold a ts z → Told {P = (l : L) × Valid a l} (λ l. texts l.0) (λ l. afters l.0 a) (λ l. goes_on a l.0) (looks a) n (λ l. many looks step' (length l) a l) ts z
      told ts (Ok x) t = record { p = (t.p, t.valid); parts = t.parts; is = t.is; stops = t.stops; low = t.low }
      told ts (Err s) t = record { before = t.before; rest = t.rest; p = (t.p, t.valid); more = t.more; parts = t.parts; place = t.place; begins = t.begins; low = t.low; why = why ts s t }
