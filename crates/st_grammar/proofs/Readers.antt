-- What a reader does by the phrases that it reads, and how readers are put together.
use Rattle.std.proofs.Common.{◌≡◌, ℕ, ◌+◌, ◌<◌, ◌≤◌, Bool, true, false, cond, ◌||◌, ◌&&◌, List, [], ◌∷◌, ◌++◌, ◌⊎◌, inl, inr, length, Ok, Err, refl, sym, ap, ◌∙◌, subst, append_assoc, arith}
use Rattle.std.proofs.lemmas.List.{append-nil}
use Rattle.std.proofs.lemmas.Bool.{cases_Bool, or_from as or_neither}
use Rattle.st_scan.specs.declared.fault.Cause.{Cause}
use Rattle.st_scan.specs.declared.fault.Cause.TheVariants.{Expected, Deep}
use Rattle.st_grammar.specs.declared.leaf.Leaf.{Leaf}
use Rattle.st_grammar.specs.declared.leaf.Kind.{Kind}
use Rattle.st_grammar.specs.Leaves.{among, openings, closings}
use Rattle.st_grammar.specs.Phrases.{One, one_text}
use Rattle.st_grammar.specs.Reading.{Stop, Read, stop, ◌>>=◌, first, token_at}
use Rattle.st_grammar.specs.Faults.{height, highest}
use Rattle.st_grammar.proofs.Heights.{IsBalanced, balanced_nil, balanced_one, balanced_append, behind_balanced}

-- l ends here, or begins as rest does
abbrev pub Alike : List Leaf → List Leaf → Type 0
Alike rest [] = Unit {0}
Alike [] (y ∷ ys) = ⊥
Alike (x ∷ xs) (y ∷ ys) = x ≡ y

pub first_alike : (looks : Leaf → Bool) (rest l : List Leaf) → Alike rest l → first looks rest ≡ false → first looks l ≡ false
first_alike looks rest [] a e = refl
first_alike looks [] (y ∷ ys) a e = absurd a
first_alike looks (x ∷ xs) (y ∷ ys) a e = ap looks (sym a) ∙ e

pub alike_behind : (used y l : List Leaf) → Alike y l → Alike (used ++ y) (used ++ l)
alike_behind [] y l a = a
alike_behind (u ∷ us) y l a = refl

-- behind a leaf or more the first one is the same
pub first_same : (looks : Leaf → Bool) (used y l : List Leaf) → 0 < length used → first looks (used ++ y) ≡ first looks (used ++ l)
first_same looks [] y l lt = absurd (omega arith)
first_same looks (u ∷ us) y l lt = refl

-- a phrase p that was read, with this value and these leaves behind it
pub record ToldOk {P A : Type 0} (text : P → List Leaf) (tree : P → A) (goes : P → Leaf → Bool) (n : ℕ) (ts : List Leaf) (x : A × List Leaf) : Type 0 where
  pub p : P
  pub parts : ts ≡ text p ++ x.1
  pub is : tree p ≡ x.0
  pub stops : first (goes p) x.1 ≡ false
  pub low : highest 0 (text p) ≤ n

-- r' fails there too, whatever stands behind the first leaf; and not at the first leaf, where a phrase may begin with it
pub record IsStuck {A : Type 0} (begin : Leaf → Bool) (r' : List Leaf → Read A) (before rest : List Leaf) : Type 0 where
  pub fails : (l : List Leaf) → Alike rest l → r' (before ++ l) ≡ stop Expected l
  pub takes : first begin (before ++ rest) ≡ true → 0 < length before

-- a bracket that may stand there is one too many
pub record IsDeep (n : ℕ) (before more rest : List Leaf) : Type 0 where
  pub bracket : Leaf
  pub rest_behind : List Leaf
  pub more_behind : List Leaf
  pub opens : among openings bracket ≡ true
  pub rest_is : rest ≡ bracket ∷ rest_behind
  pub more_is : more ≡ bracket ∷ more_behind
  pub high : (h : ℕ) → height h before ≡ h + n

abbrev pub Reason : {A : Type 0} → (begin : Leaf → Bool) → ℕ → (List Leaf → Read A) → Cause → (before more rest : List Leaf) → Type 0
Reason begin n r' cause before more rest = ((cause ≡ Expected) × IsStuck begin r' before rest) ⊎ ((cause ≡ Deep) × IsDeep n before more rest)

-- the front of a phrase that was read, up to a fault
pub record ToldErr {P A : Type 0} (text : P → List Leaf) (begin : Leaf → Bool) (n : ℕ) (r' : List Leaf → Read A) (ts : List Leaf) (s : Stop) : Type 0 where
  pub before : List Leaf
  pub rest : List Leaf
  pub p : P
  pub more : List Leaf
  pub parts : ts ≡ before ++ rest
  pub place : length rest ≡ s.left
  pub begins : text p ≡ before ++ more
  pub low : highest 0 before ≤ n
  pub why : Reason begin n r' s.cause before more rest

abbrev pub Told : {P A : Type 0} → (P → List Leaf) → (P → A) → (P → Leaf → Bool) → (Leaf → Bool) → ℕ → (List Leaf → Read A) → List Leaf → Read A → Type 0
Told text tree goes begin n r' ts (Ok x) = ToldOk text tree goes n ts x
Told text tree goes begin n r' ts (Err s) = ToldErr text begin n r' ts s

-- The reader r, with n brackets to open, reads these phrases; so does r', with m, as many or more. `goes` says which
-- leaves a phrase would go on with, and `begin` which ones it may begin with.
pub record Reads {P A : Type 0} (text : P → List Leaf) (tree : P → A) (goes : P → Leaf → Bool) (begin : Leaf → Bool) (n m : ℕ) (r r' : List Leaf → Read A) : Type 0 where
  pub fewer : n ≤ m
  pub told : (ts : List Leaf) → Told text tree goes begin n r' ts (r ts)
  pub again : (p : P) (l : List Leaf) → first (goes p) l ≡ false → highest 0 (text p) ≤ m → r' (text p ++ l) ≡ Ok (tree p, l)
  pub balanced : (p : P) → IsBalanced (text p)

-- nothing follows
abbrev pub nothing : Leaf → Bool
nothing x = false

pub first_nothing : (l : List Leaf) → first nothing l ≡ false
first_nothing [] = refl
first_nothing (x ∷ l) = refl

-- ONE LEAF

module _ (kinds : List Kind) (some : One kinds) (neutral : (x : Leaf) → among kinds x ≡ true → (among openings x ≡ false) × (among closings x ≡ false)) (n m : ℕ) (le : n ≤ m) where
  token_fails : (x : Leaf) (l : List Leaf) → among kinds x ≡ false → token_at kinds (x ∷ l) ≡ stop Expected (x ∷ l)
  token_fails x l e = rw e refl

  token_err : (ts : List Leaf) → first (among kinds) ts ≡ false → ToldErr {P = One kinds} {A = Leaf} (one_text {kinds = kinds}) (among kinds) n (token_at kinds) ts (record { cause = Expected; left = length ts })
  token_err ts e = record {
    before = [];
    rest = ts;
    p = some;
    more = some.leaf ∷ [];
    parts = refl;
    place = refl;
    begins = refl;
    low = omega arith;
    why = inl (refl, record { fails = λ l a. fails l (first_alike (among kinds) ts l a e); takes = λ t. absurd cc });
  }
    where
      fails : (l : List Leaf) → first (among kinds) l ≡ false → token_at kinds l ≡ stop Expected l
      fails [] e = refl
      fails (x ∷ l) e = token_fails x l e

  token_one : (x : Leaf) (ts : List Leaf) (b : Bool) → among kinds x ≡ b → Told {P = One kinds} (one_text {kinds = kinds}) (λ o. o.leaf) (λ o. nothing) (among kinds) n (token_at kinds) (x ∷ ts) (cond b (Ok (x, ts)) (stop Expected (x ∷ ts)))
  token_one x ts true e =
      let o = neutral x e in
      let flat = balanced_one x o.0 o.1 in
      record { p = record { leaf = x; fits = e }; parts = refl; is = refl; stops = first_nothing ts; low = omega (arith, neutral_low x o.0 o.1) }
    where
      neutral_low : (x : Leaf) → among openings x ≡ false → among closings x ≡ false → highest 0 (x ∷ []) ≡ 0
      neutral_low x p q = rw (p, q) refl
  token_one x ts false e = token_err (x ∷ ts) e

  token_told : (ts : List Leaf) → Told {P = One kinds} (one_text {kinds = kinds}) (λ o. o.leaf) (λ o. nothing) (among kinds) n (token_at kinds) ts (token_at kinds ts)
  token_told [] = token_err [] refl
  token_told (x ∷ ts) = token_one x ts (among kinds x) refl

  pub token_reads : Reads {P = One kinds} (one_text {kinds = kinds}) (λ o. o.leaf) (λ o. nothing) (among kinds) n m (token_at kinds) (token_at kinds)
  token_reads = record {
    fewer = le;
    told = token_told;
    again = λ o l e low. taken o.leaf l o.fits;
    balanced = λ o. let b = neutral o.leaf o.fits in balanced_one o.leaf b.0 b.1;
  }
    where
      taken : (x : Leaf) (l : List Leaf) → among kinds x ≡ true → token_at kinds (x ∷ l) ≡ Ok (x, l)
      taken x l e = rw e refl

-- ANOTHER VALUE

module _ {P A B : Type 0} {text : P → List Leaf} {tree : P → A} {goes : P → Leaf → Bool} {begin : Leaf → Bool} {n m : ℕ} {r r' : List Leaf → Read A} (f : A → B) (R : Reads text tree goes begin n m r r') where
  mapped_told : (ts : List Leaf) (x : Read A) → Told text tree goes begin n r' ts x → Told text (λ p. f (tree p)) goes begin n (λ l. r' l >>= λ y. Ok (f y.0, y.1)) ts (x >>= λ y. Ok (f y.0, y.1))
  mapped_told ts (Ok x) t = record { p = t.p; parts = t.parts; is = ap f t.is; stops = t.stops; low = t.low }
  mapped_told ts (Err s) t = record { before = t.before; rest = t.rest; p = t.p; more = t.more; parts = t.parts; place = t.place; begins = t.begins; low = t.low; why = why t.why }
    where
      why : Reason begin n r' s.cause t.before t.more t.rest → Reason begin n (λ l. r' l >>= λ y. Ok (f y.0, y.1)) s.cause t.before t.more t.rest
      why (inl (e, w)) = inl (e, record { fails = λ l a. ap (λ (z : Read A). z >>= λ y. Ok (f y.0, y.1)) (w.fails l a); takes = w.takes })
      why (inr w) = inr w

  pub mapped : Reads text (λ p. f (tree p)) goes begin n m (λ l. r l >>= λ y. Ok (f y.0, y.1)) (λ l. r' l >>= λ y. Ok (f y.0, y.1))
  mapped = record {
    fewer = R.fewer;
    told = λ ts. mapped_told ts (r ts) (R.told ts);
    again = λ p l e low. ap (λ (z : Read A). z >>= λ y. Ok (f y.0, y.1)) (R.again p l e low);
    balanced = R.balanced;
  }

-- OTHER PHRASES

module _ {P Q A : Type 0} {text : P → List Leaf} {tree : P → A} {goes : P → Leaf → Bool} {begin : Leaf → Bool} {n m : ℕ} {r r' : List Leaf → Read A} (R : Reads text tree goes begin n m r r')
    (text2 : Q → List Leaf) (tree2 : Q → A) (goes2 : Q → Leaf → Bool)
    (to : P → Q) (text_to : (p : P) → text2 (to p) ≡ text p) (tree_to : (p : P) → tree2 (to p) ≡ tree p) (goes_to : (p : P) (x : Leaf) → goes2 (to p) x ≡ goes p x)
    (from : Q → P) (text_from : (q : Q) → text (from q) ≡ text2 q) (tree_from : (q : Q) → tree (from q) ≡ tree2 q) (goes_from : (q : Q) (x : Leaf) → goes (from q) x ≡ goes2 q x) where
  first_eq : (f g : Leaf → Bool) (l : List Leaf) → ((x : Leaf) → f x ≡ g x) → first g l ≡ false → first f l ≡ false
  first_eq f g [] same e = refl
  first_eq f g (x ∷ l) same e = same x ∙ e

  renamed_told : (ts : List Leaf) (x : Read A) → Told text tree goes begin n r' ts x → Told text2 tree2 goes2 begin n r' ts x
  renamed_told ts (Ok x) t = record {
    p = to t.p;
    parts = t.parts ∙ ap (λ (l : List Leaf). l ++ x.1) (sym (text_to t.p));
    is = tree_to t.p ∙ t.is;
    stops = first_eq (goes2 (to t.p)) (goes t.p) x.1 (goes_to t.p) t.stops;
    low = omega (arith, t.low, ap (highest 0) (text_to t.p));
  }
  renamed_told ts (Err s) t = record { before = t.before; rest = t.rest; p = to t.p; more = t.more; parts = t.parts; place = t.place; begins = text_to t.p ∙ t.begins; low = t.low; why = t.why }

  pub renamed : Reads text2 tree2 goes2 begin n m r r'
  renamed = record {
    fewer = R.fewer;
    told = λ ts. renamed_told ts (r ts) (R.told ts);
    again = λ q l e low.
        ap (λ (k : List Leaf). r' (k ++ l)) (sym (text_from q))
        ∙ R.again (from q) l (first_eq (goes (from q)) (goes2 q) l (goes_from q) e) (omega (arith, low, ap (highest 0) (text_from q)))
        ∙ ap (λ (a : A). Ok (a, l)) (tree_from q);
    balanced = λ q. subst IsBalanced (text_from q) (R.balanced (from q));
  }

-- ONE BEHIND ANOTHER

-- nothing was read
abbrev pub is_nil : List Leaf → Bool
is_nil [] = true
is_nil (x ∷ l) = false

-- what goes on behind two phrases: what goes on behind the second, and where it is empty, behind the first
abbrev pub goes_both : {P Q : Type 0} → (P → Leaf → Bool) → (Q → List Leaf) → (Q → Leaf → Bool) → P × Q → Leaf → Bool
goes_both goesP textQ goesQ pq x = goesQ pq.1 x || (is_nil (textQ pq.1) && goesP pq.0 x)

abbrev pub text_both : {P Q : Type 0} → (P → List Leaf) → (Q → List Leaf) → P × Q → List Leaf
text_both textP textQ pq = textP pq.0 ++ textQ pq.1

module _ {P Q A B : Type 0} {textP : P → List Leaf} {treeP : P → A} {goesP : P → Leaf → Bool} {beginP : Leaf → Bool} {n m : ℕ} {r1 r1' : List Leaf → Read A}
    (First : Reads textP treeP goesP beginP n m r1 r1')
    (textQ : Q → List Leaf) (treeQ : Q → A → B) (goesQ : Q → Leaf → Bool) (beginQ : Leaf → Bool) (r2 r2' : A → List Leaf → Read B)
    (Second : (a : A) → Reads textQ (λ q. treeQ q a) goesQ beginQ n m (r2 a) (r2' a))
    (some : Q) (begin : Leaf → Bool)
    -- no second phrase begins with a leaf with which the first one would go on
    (between : (p : P) (q : Q) (l : List Leaf) → first (goesP p) l ≡ false → first (goesP p) (textQ q ++ l) ≡ false)
    -- what both may begin with
    (takes1 : (x : Leaf) (ts : List Leaf) → begin x ≡ true → (beginP x ≡ true) ⊎ ((s : Stop) → r1 (x ∷ ts) ≡ Err s → ⊥))
    (takes2 : (p : P) (x : Leaf) → begin x ≡ true → (0 < length (textP p)) ⊎ (goesP p x ≡ false → beginQ x ≡ true)) where
  abbrev goes : P × Q → Leaf → Bool
  goes = goes_both goesP textQ goesQ

  abbrev text : P × Q → List Leaf
  text = text_both textP textQ

  or_parts : (a b : Bool) → (a || b) ≡ false → (a ≡ false) × (b ≡ false)
  or_parts true b e = absurd cc
  or_parts false b e = (refl, e)

  parts_of : (p : P) (q : Q) (l : List Leaf) → first (goes (p, q)) l ≡ false → first (goesQ q) l ≡ false
  parts_of p q [] e = refl
  parts_of p q (x ∷ l) e = (or_parts (goesQ q x) _ e).0

  -- the first phrase ends before the second
  ends_first : (p : P) (q : Q) (l : List Leaf) (us : List Leaf) → us ≡ textQ q → first (goes (p, q)) l ≡ false → first (goesP p) (us ++ l) ≡ false
  ends_first p q l (u ∷ us) is e = subst (λ (k : List Leaf). first (goesP p) (k ++ l) ≡ false) (sym is) (ends_some p q l us u is)
    where
      ends_some : (p : P) (q : Q) (l us : List Leaf) (u : Leaf) → u ∷ us ≡ textQ q → first (goesP p) (textQ q ++ l) ≡ false
      ends_some p q l us u is =
          let no_more : first (goesP p) (textQ q ++ []) ≡ false = between p q [] refl in
          let one : first (goesP p) (u ∷ us ++ []) ≡ false = subst (λ (k : List Leaf). first (goesP p) (k ++ []) ≡ false) (sym is) no_more in
          subst (λ (k : List Leaf). first (goesP p) (k ++ l) ≡ false) is one
  ends_first p q [] [] is e = refl
  ends_first p q (x ∷ l) [] is e =
      let second = (or_parts (goesQ q x) _ e).1 in
      subst (λ (k : List Leaf). (is_nil k && goesP p x) ≡ false) (sym is) second

  or_from : (a b : Bool) → a ≡ false → b ≡ false → (a || b) ≡ false
  or_from true b e f = absurd cc
  or_from false b e f = f

  -- nothing goes on behind both
  stops_both : (p : P) (q : Q) (rest us : List Leaf) → us ≡ textQ q → first (goesP p) (us ++ rest) ≡ false → first (goesQ q) rest ≡ false → first (goes (p, q)) rest ≡ false
  stops_both p q [] us is e f = refl
  stops_both p q (x ∷ rest) [] is e f = or_from (goesQ q x) _ f (subst (λ (k : List Leaf). (is_nil k && goesP p x) ≡ false) is e)
  stops_both p q (x ∷ rest) (u ∷ us) is e f = or_from (goesQ q x) _ f (subst (λ (k : List Leaf). (is_nil k && goesP p x) ≡ false) is refl)

  second_ok : (ts : List Leaf) (x : A × List Leaf) (y : B × List Leaf) → ToldOk textP treeP goesP n ts x → ToldOk textQ (λ q. treeQ q x.0) goesQ n x.1 y
      → ToldOk text (λ pq. treeQ pq.1 (treeP pq.0)) goes n ts y
  second_ok ts x y t u = record {
    p = (t.p, u.p);
    parts = t.parts ∙ ap (λ (l : List Leaf). textP t.p ++ l) u.parts ∙ sym (append_assoc (textP t.p) (textQ u.p) y.1);
    is = ap (treeQ u.p) t.is ∙ u.is;
    stops = stops_both t.p u.p y.1 (textQ u.p) refl (subst (λ (l : List Leaf). first (goesP t.p) l ≡ false) u.parts t.stops) u.stops;
    low = omega (arith, behind_balanced 0 (textP t.p) (textQ u.p) (First.balanced t.p), t.low, u.low);
  }

  -- the first phrase again, before what the second one begins with
  first_again : (t_p : P) (rest before l : List Leaf) (x : A) → treeP t_p ≡ x → first (goesP t_p) (before ++ rest) ≡ false → highest 0 (textP t_p) ≤ n → Alike rest l
      → r1' (textP t_p ++ (before ++ l)) ≡ Ok (x, before ++ l)
  first_again t_p rest before l x is stops low alike =
      First.again t_p (before ++ l) (first_alike (goesP t_p) (before ++ rest) (before ++ l) (alike_behind before rest l alike) stops) (omega (arith, low, First.fewer))
      ∙ ap (λ (a : A). Ok (a, before ++ l)) is

  second_why : (ts : List Leaf) (x : A × List Leaf) (c : Cause) (before more rest : List Leaf) → (t : ToldOk textP treeP goesP n ts x) → x.1 ≡ before ++ rest
      → Reason beginQ n (r2' x.0) c before more rest → Reason begin n (λ l. r1' l >>= λ y. r2' y.0 y.1) c (textP t.p ++ before) more rest
  second_why ts x c before more rest t e (inl (three, w)) = inl (
    three,
    record {
      fails = λ l a.
          let stops = subst (λ (k : List Leaf). first (goesP t.p) k ≡ false) e t.stops in
          ap (λ (k : List Leaf). r1' k >>= λ y. r2' y.0 y.1) (append_assoc (textP t.p) before l)
          ∙ ap (λ (k : Read A). k >>= λ y. r2' y.0 y.1) (first_again t.p rest before l x.0 t.is stops t.low a)
          ∙ w.fails l a;
      takes = λ b. takes_more (textP t.p) before rest refl (subst (λ (k : List Leaf). first (goesP t.p) k ≡ false) e t.stops) w.takes (subst (λ (k : List Leaf). first begin k ≡ true) (append_assoc (textP t.p) before rest) b);
    },
  )
    where
      takes_more : (us before rest : List Leaf) → us ≡ textP t.p → first (goesP t.p) (before ++ rest) ≡ false → (first beginQ (before ++ rest) ≡ true → 0 < length before)
          → first begin (us ++ (before ++ rest)) ≡ true → 0 < length (us ++ before)
      takes_more (u ∷ us) before rest is stops f b = omega arith
      takes_more [] before rest is stops f b = f (begins_second (before ++ rest) stops b)
        where
          begins_second : (l : List Leaf) → first (goesP t.p) l ≡ false → first begin l ≡ true → first beginQ l ≡ true
          begins_second [] s b = absurd cc
          begins_second (y ∷ l) s b = elim (takes2 t.p y b) [
            | inl some ↦ absurd (omega (arith, some, ap length is))
            | inr into ↦ into s
          ]
  second_why ts x c before more rest t e (inr (six, d)) = inr (
    six,
    record { bracket = d.bracket; rest_behind = d.rest_behind; more_behind = d.more_behind; opens = d.opens; rest_is = d.rest_is; more_is = d.more_is; high = λ h. (First.balanced t.p).flat h before ∙ d.high h },
  )

  second_err : (ts : List Leaf) (x : A × List Leaf) (s : Stop) → ToldOk textP treeP goesP n ts x → ToldErr textQ beginQ n (r2' x.0) x.1 s → ToldErr text begin n (λ l. r1' l >>= λ y. r2' y.0 y.1) ts s
  second_err ts x s t u = record {
    before = textP t.p ++ u.before;
    rest = u.rest;
    p = (t.p, u.p);
    more = u.more;
    parts = t.parts ∙ ap (λ (l : List Leaf). textP t.p ++ l) u.parts ∙ sym (append_assoc (textP t.p) u.before u.rest);
    place = u.place;
    begins = ap (λ (l : List Leaf). textP t.p ++ l) u.begins ∙ sym (append_assoc (textP t.p) u.before u.more);
    low = omega (arith, behind_balanced 0 (textP t.p) u.before (First.balanced t.p), t.low, u.low);
    why = second_why ts x s.cause u.before u.more u.rest t u.parts u.why;
  }

  first_err : (ts : List Leaf) (s : Stop) → r1 ts ≡ Err s → ToldErr textP beginP n r1' ts s → ToldErr text begin n (λ l. r1' l >>= λ y. r2' y.0 y.1) ts s
  first_err ts s was t = record {
    before = t.before;
    rest = t.rest;
    p = (t.p, some);
    more = t.more ++ textQ some;
    parts = t.parts;
    place = t.place;
    begins = ap (λ (l : List Leaf). l ++ textQ some) t.begins ∙ append_assoc t.before t.more (textQ some);
    low = t.low;
    why = why t.why;
  }
    where
      takes : (l : List Leaf) → ts ≡ l → (first beginP l ≡ true → 0 < length t.before) → first begin l ≡ true → 0 < length t.before
      takes [] e f b = absurd cc
      takes (x ∷ l) e f b = elim (takes1 x l b) [
        | inl into ↦ f into
        | inr never ↦ absurd (never s (ap r1 (sym e) ∙ was))
      ]

      why : Reason beginP n r1' s.cause t.before t.more t.rest → Reason begin n (λ l. r1' l >>= λ y. r2' y.0 y.1) s.cause t.before (t.more ++ textQ some) t.rest
      why (inl (e, w)) = inl (e, record { fails = λ l a. ap (λ (z : Read A). z >>= λ y. r2' y.0 y.1) (w.fails l a); takes = takes (t.before ++ t.rest) t.parts w.takes })
      why (inr (e, d)) = inr (e, record { bracket = d.bracket; rest_behind = d.rest_behind; more_behind = d.more_behind ++ textQ some; opens = d.opens; rest_is = d.rest_is; more_is = ap (λ (l : List Leaf). l ++ textQ some) d.more_is; high = d.high })

  second_told : (ts : List Leaf) (x : A × List Leaf) (z : Read B) → ToldOk textP treeP goesP n ts x → Told textQ (λ q. treeQ q x.0) goesQ beginQ n (r2' x.0) x.1 z
      → Told text (λ pq. treeQ pq.1 (treeP pq.0)) goes begin n (λ l. r1' l >>= λ y. r2' y.0 y.1) ts z
  second_told ts x (Ok y) t u = second_ok ts x y t u
  second_told ts x (Err s) t u = second_err ts x s t u

  both_told : (ts : List Leaf) (z : Read A) → r1 ts ≡ z → Told textP treeP goesP beginP n r1' ts z
      → Told text (λ pq. treeQ pq.1 (treeP pq.0)) goes begin n (λ l. r1' l >>= λ y. r2' y.0 y.1) ts (z >>= λ y. r2 y.0 y.1)
  both_told ts (Ok x) was t = second_told ts x (r2 x.0 x.1) t ((Second x.0).told x.1)
  both_told ts (Err s) was t = first_err ts s was t

  both_again : (pq : P × Q) (l : List Leaf) → first (goes pq) l ≡ false → highest 0 (text pq) ≤ m → (r1' (text pq ++ l) >>= λ y. r2' y.0 y.1) ≡ Ok (treeQ pq.1 (treeP pq.0), l)
  both_again pq l e low =
      let high = behind_balanced 0 (textP pq.0) (textQ pq.1) (First.balanced pq.0) in
      ap (λ (k : List Leaf). r1' k >>= λ y. r2' y.0 y.1) (append_assoc (textP pq.0) (textQ pq.1) l)
      ∙ ap (λ (k : Read A). k >>= λ y. r2' y.0 y.1) (First.again pq.0 (textQ pq.1 ++ l) (ends_first pq.0 pq.1 l (textQ pq.1) refl e) (omega (arith, high, low)))
      ∙ (Second (treeP pq.0)).again pq.1 l (parts_of pq.0 pq.1 l e) (omega (arith, high, low))

  pub both : Reads text (λ pq. treeQ pq.1 (treeP pq.0)) goes begin n m (λ l. r1 l >>= λ y. r2 y.0 y.1) (λ l. r1' l >>= λ y. r2' y.0 y.1)
  both = record {
    fewer = First.fewer;
    told = λ ts. both_told ts (r1 ts) refl (First.told ts);
    again = both_again;
    balanced = λ pq. balanced_append (textP pq.0) (textQ pq.1) (First.balanced pq.0) ((Second (treeP pq.0)).balanced pq.1);
  }

-- ONE OR THE OTHER

-- the same of leaves the first of which passes
pub record ReadsIf {P A : Type 0} (looks : Leaf → Bool) (text : P → List Leaf) (tree : P → A) (goes : P → Leaf → Bool) (begin : Leaf → Bool) (n m : ℕ) (r r' : List Leaf → Read A) : Type 0 where
  pub fewer : n ≤ m
  pub told : (ts : List Leaf) → first looks ts ≡ true → Told text tree goes begin n r' ts (r ts)
  pub again : (p : P) (l : List Leaf) → first (goes p) l ≡ false → highest 0 (text p) ≤ m → r' (text p ++ l) ≡ Ok (tree p, l)
  pub balanced : (p : P) → IsBalanced (text p)

pub anyway : {P A : Type 0} {text : P → List Leaf} {tree : P → A} {goes : P → Leaf → Bool} {begin : Leaf → Bool} {n m : ℕ} {r r' : List Leaf → Read A} (looks : Leaf → Bool)
    → Reads text tree goes begin n m r r' → ReadsIf looks text tree goes begin n m r r'
anyway looks R = record { fewer = R.fewer; told = λ ts e. R.told ts; again = R.again; balanced = R.balanced }

-- only the phrases that begin so
module _ {P A : Type 0} {text : P → List Leaf} {tree : P → A} {goes : P → Leaf → Bool} {n m : ℕ} {r r' : List Leaf → Read A} (looks : Leaf → Bool) (R : Reads text tree goes looks n m r r')
    (empty : (p : P) (x : Leaf) → text p ≡ [] → looks x ≡ true → goes p x ≡ true) where
  abbrev pub Some : Type 0
  Some = (p : P) × (first looks (text p) ≡ true)

  some_ok : (ts rest us : List Leaf) (p : P) → us ≡ text p → ts ≡ us ++ rest → first looks ts ≡ true → first (goes p) rest ≡ false → first looks (text p) ≡ true
  some_ok ts rest (u ∷ us) p is parts e s = ap (first looks) (sym is) ∙ (ap (first looks) (sym parts) ∙ e)
  some_ok ts [] [] p is parts e s =
      let no : first looks [] ≡ true = ap (first looks) (sym parts) ∙ e in
      absurd cc
  some_ok ts (x ∷ rest) [] p is parts e s =
      let yes = empty p x (sym is) (ap (first looks) (sym parts) ∙ e) in
      absurd cc

  some_err : (c : Cause) (before more rest : List Leaf) (p : P) → text p ≡ before ++ more → first looks (before ++ rest) ≡ true → Reason looks n r' c before more rest → first looks (text p) ≡ true
  some_err c (b ∷ before) more rest p begins e w = ap (first looks) begins ∙ e
  some_err c [] more rest p begins e (inl (three, w)) = absurd (omega (arith, w.takes e))
  some_err c [] more rest p begins e (inr (six, d)) =
      let here : looks d.bracket ≡ true = ap (first looks) (sym d.rest_is) ∙ e in
      ap (first looks) begins ∙ ap (first looks) d.more_is ∙ here

  some_told : (ts : List Leaf) (z : Read A) → first looks ts ≡ true → Told text tree goes looks n r' ts z → Told {P = Some} (λ p. text p.0) (λ p. tree p.0) (λ p. goes p.0) looks n r' ts z
  some_told ts (Ok x) e t = record { p = (t.p, some_ok ts x.1 (text t.p) t.p refl t.parts e t.stops); parts = t.parts; is = t.is; stops = t.stops; low = t.low }
  some_told ts (Err s) e t = record {
    before = t.before;
    rest = t.rest;
    p = (t.p, some_err s.cause t.before t.more t.rest t.p t.begins (ap (first looks) (sym t.parts) ∙ e) t.why);
    more = t.more;
    parts = t.parts;
    place = t.place;
    begins = t.begins;
    low = t.low;
    why = t.why;
  }

  pub nonempty : ReadsIf {P = Some} looks (λ p. text p.0) (λ p. tree p.0) (λ p. goes p.0) looks n m r r'
  nonempty = record { fewer = R.fewer; told = λ ts e. some_told ts (r ts) e (R.told ts); again = λ p l e low. R.again p.0 l e low; balanced = λ p. R.balanced p.0 }

abbrev pub text_either : {P Q : Type 0} → (P → List Leaf) → (Q → List Leaf) → P ⊎ Q → List Leaf
text_either textP textQ (inl p) = textP p
text_either textP textQ (inr q) = textQ q

abbrev pub tree_either : {P Q A : Type 0} → (P → A) → (Q → A) → P ⊎ Q → A
tree_either treeP treeQ (inl p) = treeP p
tree_either treeP treeQ (inr q) = treeQ q

abbrev pub goes_either : {P Q : Type 0} → (Leaf → Bool) → (P → Leaf → Bool) → (Q → List Leaf) → (Q → Leaf → Bool) → P ⊎ Q → Leaf → Bool
goes_either looks goesP textQ goesQ (inl p) x = goesP p x
goes_either looks goesP textQ goesQ (inr q) x = goesQ q x || (is_nil (textQ q) && looks x)

pub or_left : (a b : Bool) → (a || b) ≡ false → a ≡ false
or_left true b e = absurd cc
or_left false b e = refl

pub or_right : (a b : Bool) → (a || b) ≡ false → b ≡ false
or_right true b e = absurd cc
or_right false b e = e

pub first_into : (f g : Leaf → Bool) (l : List Leaf) → ((x : Leaf) → f x ≡ true → g x ≡ true) → first f l ≡ true → first g l ≡ true
first_into f g [] into e = absurd cc
first_into f g (x ∷ l) into e = into x e

module _ {P Q A : Type 0} {textP : P → List Leaf} {treeP : P → A} {goesP : P → Leaf → Bool} {beginP : Leaf → Bool} {n m : ℕ} {r1 r1' : List Leaf → Read A}
    {textQ : Q → List Leaf} {treeQ : Q → A} {goesQ : Q → Leaf → Bool} {beginQ : Leaf → Bool} {r2 r2' : List Leaf → Read A}
    (looks : Leaf → Bool) (First : ReadsIf looks textP treeP goesP beginP n m r1 r1') (Second : Reads textQ treeQ goesQ beginQ n m r2 r2') (begin : Leaf → Bool)
    (inside : (x : Leaf) → looks x ≡ true → beginP x ≡ true)
    (starts : (p : P) (l : List Leaf) → first looks (textP p ++ l) ≡ true)
    (others : (q : Q) (x : Leaf) (us : List Leaf) → textQ q ≡ x ∷ us → looks x ≡ false)
    (begins : (x : Leaf) → begin x ≡ true → looks x ≡ false → beginQ x ≡ true) where
  abbrev choice : List Leaf → Read A
  choice ts = cond (first looks ts) (r1 ts) (r2 ts)

  abbrev choice' : List Leaf → Read A
  choice' ts = cond (first looks ts) (r1' ts) (r2' ts)

  chosen1 : (l : List Leaf) → first looks l ≡ true → choice' l ≡ r1' l
  chosen1 l e = rw e refl

  chosen2 : (l : List Leaf) → first looks l ≡ false → choice' l ≡ r2' l
  chosen2 l e = rw e refl

  empty_second : (q : Q) (ts rest us : List Leaf) → us ≡ textQ q → ts ≡ us ++ rest → first looks ts ≡ false → first (goesQ q) rest ≡ false → first (goes_either looks goesP textQ goesQ (inr q)) rest ≡ false
  empty_second q ts [] us is parts e s = refl
  empty_second q ts (x ∷ rest) [] is parts e s =
      let no : looks x ≡ false = ap (first looks) (sym parts) ∙ e in
      or_neither (goesQ q x) _ s (subst (λ (k : List Leaf). (is_nil k && looks x) ≡ false) is no)
  empty_second q ts (x ∷ rest) (u ∷ us) is parts e s = or_neither (goesQ q x) _ s (subst (λ (k : List Leaf). (is_nil k && looks x) ≡ false) is refl)

  first_told : (ts : List Leaf) (z : Read A) → first looks ts ≡ true → Told textP treeP goesP beginP n r1' ts z
      → Told (text_either textP textQ) (tree_either treeP treeQ) (goes_either looks goesP textQ goesQ) begin n choice' ts z
  first_told ts (Ok x) e t = record { p = inl t.p; parts = t.parts; is = t.is; stops = t.stops; low = t.low }
  first_told ts (Err s) e t = record { before = t.before; rest = t.rest; p = inl t.p; more = t.more; parts = t.parts; place = t.place; begins = t.begins; low = t.low; why = why t.why }
    where
      why : Reason beginP n r1' s.cause t.before t.more t.rest → Reason begin n choice' s.cause t.before t.more t.rest
      why (inr d) = inr d
      why (inl (three, w)) =
          let here : first looks (t.before ++ t.rest) ≡ true = ap (first looks) (sym t.parts) ∙ e in
          let some : 0 < length t.before = w.takes (first_into looks beginP (t.before ++ t.rest) inside here) in
          inl (
            three,
            record {
              fails = λ l a. chosen1 (t.before ++ l) (sym (first_same looks t.before t.rest l some) ∙ here) ∙ w.fails l a;
              takes = λ b. some;
            },
          )

  other_told : (ts : List Leaf) (z : Read A) → first looks ts ≡ false → Told textQ treeQ goesQ beginQ n r2' ts z
      → Told (text_either textP textQ) (tree_either treeP treeQ) (goes_either looks goesP textQ goesQ) begin n choice' ts z
  other_told ts (Ok x) e t = record { p = inr t.p; parts = t.parts; is = t.is; stops = empty_second t.p ts x.1 (textQ t.p) refl t.parts e t.stops; low = t.low }
  other_told ts (Err s) e t = record { before = t.before; rest = t.rest; p = inr t.p; more = t.more; parts = t.parts; place = t.place; begins = t.begins; low = t.low; why = why t.why }
    where
      here : first looks (t.before ++ t.rest) ≡ false
      here = ap (first looks) (sym t.parts) ∙ e

      second : (l : List Leaf) → first looks l ≡ false → first begin l ≡ true → first beginQ l ≡ true
      second [] e b = absurd cc
      second (x ∷ l) e b = begins x b e

      why : Reason beginQ n r2' s.cause t.before t.more t.rest → Reason begin n choice' s.cause t.before t.more t.rest
      why (inr d) = inr d
      why (inl (three, w)) = inl (
        three,
        record {
          fails = λ l a. chosen2 (t.before ++ l) (first_alike looks (t.before ++ t.rest) (t.before ++ l) (alike_behind t.before t.rest l a) here) ∙ w.fails l a;
          takes = λ b. w.takes (second (t.before ++ t.rest) here b);
        },
      )

  either_told : (ts : List Leaf) (b : Bool) → first looks ts ≡ b → Told (text_either textP textQ) (tree_either treeP treeQ) (goes_either looks goesP textQ goesQ) begin n choice' ts (cond b (r1 ts) (r2 ts))
  either_told ts true e = first_told ts (r1 ts) e (First.told ts e)
  either_told ts false e = other_told ts (r2 ts) e (Second.told ts)

  not_looked : (q : Q) (l us : List Leaf) → us ≡ textQ q → first (goes_either looks goesP textQ goesQ (inr q)) l ≡ false → first looks (us ++ l) ≡ false
  not_looked q [] [] is e = refl
  not_looked q (x ∷ l) [] is e = subst (λ (k : List Leaf). (is_nil k && looks x) ≡ false) (sym is) (or_right (goesQ q x) _ e)
  not_looked q l (u ∷ us) is e = others q u us (sym is)

  second_goes : (q : Q) (l : List Leaf) → first (goes_either looks goesP textQ goesQ (inr q)) l ≡ false → first (goesQ q) l ≡ false
  second_goes q [] e = refl
  second_goes q (x ∷ l) e = or_left (goesQ q x) _ e

  either_again : (pq : P ⊎ Q) (l : List Leaf) → first (goes_either looks goesP textQ goesQ pq) l ≡ false → highest 0 (text_either textP textQ pq) ≤ m
      → choice' (text_either textP textQ pq ++ l) ≡ Ok (tree_either treeP treeQ pq, l)
  either_again (inl p) l e low = chosen1 (textP p ++ l) (starts p l) ∙ First.again p l e low
  either_again (inr q) l e low = chosen2 (textQ q ++ l) (not_looked q l (textQ q) refl e) ∙ Second.again q l (second_goes q l e) low

  either_balanced : (pq : P ⊎ Q) → IsBalanced (text_either textP textQ pq)
  either_balanced (inl p) = First.balanced p
  either_balanced (inr q) = Second.balanced q

  pub either : Reads (text_either textP textQ) (tree_either treeP treeQ) (goes_either looks goesP textQ goesQ) begin n m choice choice'
  either = record { fewer = First.fewer; told = λ ts. either_told ts (first looks ts) refl; again = either_again; balanced = either_balanced }

-- NO LEAF

pub pure : {A : Type 0} (a : A) (begin : Leaf → Bool) (n m : ℕ) → n ≤ m → Reads {P = Unit {0}} (λ u. []) (λ u. a) (λ u. nothing) begin n m (λ ts. Ok (a, ts)) (λ ts. Ok (a, ts))
pure a begin n m le = record {
  fewer = le;
  told = λ ts. record { p = tt; parts = refl; is = refl; stops = first_nothing ts; low = omega arith };
  again = λ u l e low. refl;
  balanced = λ u. balanced_nil;
}

-- A TEST OF WHAT WAS READ

module _ {P A : Type 0} {text : P → List Leaf} {tree : P → A} {goes : P → Leaf → Bool} {begin : Leaf → Bool} {n m : ℕ} {r r' : List Leaf → Read A} (R : Reads text tree goes begin n m r r')
    (bad : A → Bool) (some : (p : P) → 0 < length (text p))
    -- each phrase with a bad value is the front of one without
    (extend : (p : P) → bad (tree p) ≡ true → (q : P) × (more : List Leaf) × (text q ≡ text p ++ more) × (bad (tree q) ≡ false)) where
  abbrev pub Good : Type 0
  Good = (p : P) × (bad (tree p) ≡ false)

  abbrev test : Read A → Read A
  test z = z >>= λ x. cond (bad x.0) (stop Expected x.1) (Ok (x.0, x.1))

  test_good : (a : A) (l : List Leaf) → bad a ≡ false → test (Ok (a, l)) ≡ Ok (a, l)
  test_good a l e = rw e refl

  test_bad : (a : A) (l : List Leaf) → bad a ≡ true → test (Ok (a, l)) ≡ stop Expected l
  test_bad a l e = rw e refl

  tested_ok : (ts : List Leaf) (x : A × List Leaf) (b : Bool) → bad x.0 ≡ b → ToldOk text tree goes n ts x
      → Told {P = Good} (λ p. text p.0) (λ p. tree p.0) (λ p. goes p.0) begin n (λ l. test (r' l)) ts (cond b (stop Expected x.1) (Ok (x.0, x.1)))
  tested_ok ts x false e t = record { p = (t.p, ap bad t.is ∙ e); parts = t.parts; is = t.is; stops = t.stops; low = t.low }
  tested_ok ts x true e t =
      let longer = extend t.p (ap bad t.is ∙ e) in
      record {
        before = text t.p;
        rest = x.1;
        p = (longer.0, longer.3);
        more = longer.1;
        parts = t.parts;
        place = refl;
        begins = longer.2;
        low = t.low;
        why = inl (
          refl,
          record {
            fails = λ l a. ap test (R.again t.p l (first_alike (goes t.p) x.1 l a t.stops) (omega (arith, t.low, R.fewer))) ∙ test_bad (tree t.p) l (ap bad t.is ∙ e);
            takes = λ b. some t.p;
          },
        );
      }

  tested_told : (ts : List Leaf) (z : Read A) → Told text tree goes begin n r' ts z → ((p : P) → bad (tree p) ≡ true → (q : P) × (more : List Leaf) × (text q ≡ text p ++ more) × (bad (tree q) ≡ false))
      → Told {P = Good} (λ p. text p.0) (λ p. tree p.0) (λ p. goes p.0) begin n (λ l. test (r' l)) ts (test z)
  tested_told ts (Ok x) t more = tested_ok ts x (bad x.0) refl t
  tested_told ts (Err s) t more = failed (cases_Bool (bad (tree t.p)))
    where
      why : (more2 : List Leaf) → Reason begin n r' s.cause t.before t.more t.rest → (behind : List Leaf) → more2 ≡ t.more ++ behind → Reason begin n (λ l. test (r' l)) s.cause t.before more2 t.rest
      why more2 (inl (three, w)) behind is = inl (three, record { fails = λ l a. ap test (w.fails l a); takes = w.takes })
      why more2 (inr (six, d)) behind is = inr (six, record { bracket = d.bracket; rest_behind = d.rest_behind; more_behind = d.more_behind ++ behind; opens = d.opens; rest_is = d.rest_is; more_is = is ∙ ap (λ (l : List Leaf). l ++ behind) d.more_is; high = d.high })

      failed : (bad (tree t.p) ≡ true) ⊎ (bad (tree t.p) ≡ false) → ToldErr {P = Good} (λ p. text p.0) begin n (λ l. test (r' l)) ts s
      failed (inr good) = record { before = t.before; rest = t.rest; p = (t.p, good); more = t.more; parts = t.parts; place = t.place; begins = t.begins; low = t.low; why = why t.more t.why [] (sym (append-nil t.more)) }
      failed (inl wrong) =
          let longer = extend t.p wrong in
          record { before = t.before; rest = t.rest; p = (longer.0, longer.3); more = t.more ++ longer.1; parts = t.parts; place = t.place; begins = longer.2 ∙ ap (λ (l : List Leaf). l ++ longer.1) t.begins ∙ append_assoc t.before t.more longer.1; low = t.low; why = why (t.more ++ longer.1) t.why longer.1 refl }

  pub tested : Reads {P = Good} (λ p. text p.0) (λ p. tree p.0) (λ p. goes p.0) begin n m (λ l. test (r l)) (λ l. test (r' l))
  tested = record {
    fewer = R.fewer;
    told = λ ts. tested_told ts (r ts) (R.told ts) extend;
    again = λ p l e low. ap test (R.again p.0 l e low) ∙ test_good (tree p.0) l p.1;
    balanced = λ p. R.balanced p.0;
  }

-- fewer leaves to begin with
module _ {P A : Type 0} {text : P → List Leaf} {tree : P → A} {goes : P → Leaf → Bool} {begin : Leaf → Bool} {n m : ℕ} {r r' : List Leaf → Read A} (begin2 : Leaf → Bool) (less : (x : Leaf) → begin2 x ≡ true → begin x ≡ true) (R : Reads text tree goes begin n m r r') where
  weaker_told : (ts : List Leaf) (z : Read A) → Told text tree goes begin n r' ts z → Told text tree goes begin2 n r' ts z
  weaker_told ts (Ok x) t = t
  weaker_told ts (Err s) t = record { before = t.before; rest = t.rest; p = t.p; more = t.more; parts = t.parts; place = t.place; begins = t.begins; low = t.low; why = why t.why }
    where
      why : Reason begin n r' s.cause t.before t.more t.rest → Reason begin2 n r' s.cause t.before t.more t.rest
      why (inl (three, w)) = inl (three, record { fails = w.fails; takes = λ e. w.takes (first_into begin2 begin (t.before ++ t.rest) less e) })
      why (inr d) = inr d

  pub weaker : Reads text tree goes begin2 n m r r'
  weaker = record { fewer = R.fewer; told = λ ts. weaker_told ts (r ts) (R.told ts); again = R.again; balanced = R.balanced }

-- other readers that do the same
module _ {P A : Type 0} {text : P → List Leaf} {tree : P → A} {goes : P → Leaf → Bool} {begin : Leaf → Bool} {n m : ℕ} {r r' : List Leaf → Read A} (r2 r2' : List Leaf → Read A)
    (one : (ts : List Leaf) → r2 ts ≡ r ts) (two : (ts : List Leaf) → r2' ts ≡ r' ts) (R : Reads text tree goes begin n m r r') where
  agreeing_told : (ts : List Leaf) (z : Read A) → Told text tree goes begin n r' ts z → Told text tree goes begin n r2' ts z
  agreeing_told ts (Ok x) t = t
  agreeing_told ts (Err s) t = record { before = t.before; rest = t.rest; p = t.p; more = t.more; parts = t.parts; place = t.place; begins = t.begins; low = t.low; why = why t.why }
    where
      why : Reason begin n r' s.cause t.before t.more t.rest → Reason begin n r2' s.cause t.before t.more t.rest
      why (inl (three, w)) = inl (three, record { fails = λ l a. two (t.before ++ l) ∙ w.fails l a; takes = w.takes })
      why (inr d) = inr d

  pub agreeing : Reads text tree goes begin n m r2 r2'
  agreeing = record {
    fewer = R.fewer;
    told = λ ts. subst (Told text tree goes begin n r2' ts) (sym (one ts)) (agreeing_told ts (r ts) (R.told ts));
    again = λ p l e low. two (text p ++ l) ∙ R.again p l e low;
    balanced = R.balanced;
  }
