-- A reader of brackets: an opening leaf, what is inside, where one bracket fewer may be open, and a closing leaf.
use Rattle.std.proofs.Common.{◌≡◌, ℕ, zero, suc, ◌+◌, ◌≤◌, Bool, true, false, List, [], ◌∷◌, ◌++◌, inl, inr, length, Ok, Err, refl, sym, ap, ◌∙◌, subst, append_assoc, arith}
use Rattle.st_scan.specs.declared.fault.Cause.TheVariants.{Expected, Deep}
use Rattle.st_grammar.specs.declared.leaf.Leaf.{Leaf}
use Rattle.st_grammar.specs.declared.leaf.Kind.{Kind}
use Rattle.st_grammar.specs.Leaves.{among, openings, closings}
use Rattle.st_grammar.specs.Phrases.{One}
use Rattle.st_grammar.specs.Reading.{Read, stop, ◌>>=◌, first, token_at}
use Rattle.st_grammar.specs.Faults.{highest}
use Rattle.st_grammar.proofs.Heights.{IsBalanced, highest_bracket, balanced_bracket, highest_inside, height_inside, highest_up}
use Rattle.st_grammar.proofs.Readers.{first_alike, ToldOk, ToldErr, Told, Reads, Reason, nothing, first_nothing}

module _ {P A B : Type 0} (opens closes : List Kind) (some_open : One opens) (some : P) (some_close : One closes)
    (opening : (x : Leaf) → among opens x ≡ true → among openings x ≡ true) (closing : (x : Leaf) → among closes x ≡ true → (among openings x ≡ false) × (among closings x ≡ true))
    (text : P → List Leaf) (tree : P → A) (goes : P → Leaf → Bool) (balanced : (p : P) → IsBalanced (text p))
    -- no phrase goes on with what closes it
    (ends : (p : P) (x : Leaf) → among closes x ≡ true → goes p x ≡ false)
    (body : ℕ → List Leaf → Read A) (inner : ℕ → List Leaf → Read A)
    (inner_zero : (ts : List Leaf) → inner zero ts ≡ Err (record { cause = Deep; left = suc (length ts) }))
    (inner_suc : (k : ℕ) (ts : List Leaf) → inner (suc k) ts ≡ (body k ts >>= λ x. token_at closes x.1 >>= λ c. Ok (x.0, c.1)))
    (f : Leaf → A → B) where
  abbrev Bracket : Type 0
  Bracket = One opens × P × One closes

  abbrev bracket_text : Bracket → List Leaf
  bracket_text b = b.0.leaf ∷ (text b.1 ++ b.2.leaf ∷ [])

  abbrev bracket_tree : Bracket → B
  bracket_tree b = f b.0.leaf (tree b.1)

  abbrev reader : ℕ → List Leaf → Read B
  reader n ts = token_at opens ts >>= λ o. inner n o.1 >>= λ x. Ok (f o.0 x.0, x.1)

  token_taken : (kinds : List Kind) (x : Leaf) (l : List Leaf) → among kinds x ≡ true → token_at kinds (x ∷ l) ≡ Ok (x, l)
  token_taken kinds x l e = rw e refl

  token_fails : (kinds : List Kind) (l : List Leaf) → first (among kinds) l ≡ false → token_at kinds l ≡ stop Expected l
  token_fails kinds [] e = refl
  token_fails kinds (x ∷ l) e = rw e refl

  opened : (n : ℕ) (x : Leaf) (l : List Leaf) → among opens x ≡ true → reader n (x ∷ l) ≡ (inner n l >>= λ y. Ok (f x y.0, y.1))
  opened n x l e = ap (λ (r : Read Leaf). r >>= λ o. inner n o.1 >>= λ y. Ok (f o.0 y.0, y.1)) (token_taken opens x l e)

  abbrev close_with : A → Read Leaf → Read A
  close_with a r = r >>= λ c. Ok (a, c.1)

  abbrev closed : Read A → Read A
  closed r = r >>= λ z. close_with z.0 (token_at closes z.1)

  abbrev given : Leaf → Read A → Read B
  given x r = r >>= λ y. Ok (f x y.0, y.1)

  opened_suc : (k : ℕ) (x : Leaf) (l : List Leaf) → among opens x ≡ true → reader (suc k) (x ∷ l) ≡ given x (closed (body k l))
  opened_suc k x l e = opened (suc k) x l e ∙ ap (given x) (inner_suc k l)

  not_opened : (n m : ℕ) (ts : List Leaf) → first (among opens) ts ≡ false → ToldErr {A = B} bracket_text (among opens) n (reader m) ts (record { cause = Expected; left = length ts })
  not_opened n m ts e = record {
    before = [];
    rest = ts;
    p = (some_open, some, some_close);
    more = bracket_text (some_open, some, some_close);
    parts = refl;
    place = refl;
    begins = refl;
    low = omega arith;
    why = inl (
      refl,
      record {
        fails = λ l a. ap (λ (r : Read Leaf). r >>= λ o. inner m o.1 >>= λ y. Ok (f o.0 y.0, y.1)) (token_fails opens l (first_alike (among opens) ts l a e));
        takes = λ t. absurd cc;
      },
    );
  }

  too_deep : (m : ℕ) (x : Leaf) (ts : List Leaf) → among opens x ≡ true → ToldErr {A = B} bracket_text (among opens) zero (reader m) (x ∷ ts) (record { cause = Deep; left = suc (length ts) })
  too_deep m x ts e = record {
    before = [];
    rest = x ∷ ts;
    p = (record { leaf = x; fits = e }, some, some_close);
    more = x ∷ (text some ++ some_close.leaf ∷ []);
    parts = refl;
    place = refl;
    begins = refl;
    low = omega arith;
    why = inr (refl, record { bracket = x; rest_behind = ts; more_behind = text some ++ some_close.leaf ∷ []; opens = opening x e; rest_is = refl; more_is = refl; high = λ h. omega arith });
  }

  -- with no bracket left to open
  zero_told : (m : ℕ) (ts : List Leaf) (b : Bool) → first (among opens) ts ≡ b → Told {P = Bracket} {A = B} bracket_text bracket_tree (λ b. nothing) (among opens) zero (reader m) ts (reader zero ts)
  zero_told m [] b e = not_opened zero m [] refl
  zero_told m (x ∷ ts) true e =
      let is = opened zero x ts e ∙ ap (λ (r : Read A). r >>= λ y. Ok (f x y.0, y.1)) (inner_zero ts) in
      subst (λ (r : Read B). Told {P = Bracket} {A = B} bracket_text bracket_tree (λ b. nothing) (among opens) zero (reader m) (x ∷ ts) r) (sym is) (too_deep m x ts e)
  zero_told m (x ∷ ts) false e =
      let is = ap (λ (r : Read Leaf). r >>= λ o. inner zero o.1 >>= λ y. Ok (f o.0 y.0, y.1)) (token_fails opens (x ∷ ts) e) in
      subst (λ (r : Read B). Told {P = Bracket} {A = B} bracket_text bracket_tree (λ b. nothing) (among opens) zero (reader m) (x ∷ ts) r) (sym is) (not_opened zero m (x ∷ ts) e)

  bracket_balanced : (b : Bracket) → IsBalanced (bracket_text b)
  bracket_balanced b = let c = closing b.2.leaf b.2.fits in balanced_bracket b.0.leaf (text b.1) b.2.leaf (opening b.0.leaf b.0.fits) c.0 c.1 (balanced b.1)

  high : (b : Bracket) → highest 0 (bracket_text b) ≡ highest 0 (text b.1) + 1
  high b =
      let c = closing b.2.leaf b.2.fits in
      omega (arith, highest_bracket b.0.leaf (text b.1) b.2.leaf (opening b.0.leaf b.0.fits) c.0 c.1 (balanced b.1) 0)

  pub bracket_zero_zero : Reads {P = Bracket} bracket_text bracket_tree (λ b. nothing) (among opens) zero zero (reader zero) (reader zero)
  bracket_zero_zero = record {
    fewer = omega arith;
    told = λ ts. zero_told zero ts (first (among opens) ts) refl;
    again = λ b l e low. absurd (omega (arith, high b, low));
    balanced = bracket_balanced;
  }

  module _ {begin : Leaf → Bool} (j k : ℕ) (R : Reads text tree goes begin j k (body j) (body k)) where
    suc_again : (b : Bracket) (l : List Leaf) → highest 0 (bracket_text b) ≤ suc k → reader (suc k) (bracket_text b ++ l) ≡ Ok (bracket_tree b, l)
    suc_again b l low =
        opened_suc k b.0.leaf ((text b.1 ++ b.2.leaf ∷ []) ++ l) b.0.fits
        ∙ ap (λ (ts : List Leaf). given b.0.leaf (closed (body k ts))) (append_assoc (text b.1) (b.2.leaf ∷ []) l)
        ∙ ap (λ (r : Read A). given b.0.leaf (closed r)) (R.again b.1 (b.2.leaf ∷ l) (ends b.1 b.2.leaf b.2.fits) (omega (arith, low, high b)))
        ∙ ap (λ (r : Read Leaf). given b.0.leaf (close_with (tree b.1) r)) (token_taken closes b.2.leaf l b.2.fits)

    pub bracket_zero_suc : Reads {P = Bracket} bracket_text bracket_tree (λ b. nothing) (among opens) zero (suc k) (reader zero) (reader (suc k))
    bracket_zero_suc = record {
      fewer = omega arith;
      told = λ ts. zero_told (suc k) ts (first (among opens) ts) refl;
      again = λ b l e low. suc_again b l low;
      balanced = bracket_balanced;
    }

    -- behind what is inside: a closing leaf, or none
    close_told : (x : Leaf) (e : among opens x ≡ true) (ts : List Leaf) (y : A × List Leaf) (rest : List Leaf) → y.1 ≡ rest → ToldOk text tree goes j ts y → (b : Bool) → first (among closes) rest ≡ b
        → Told {P = Bracket} {A = B} bracket_text bracket_tree (λ b. nothing) (among opens) (suc j) (reader (suc k)) (x ∷ ts) (given x (close_with y.0 (token_at closes rest)))
    close_told x e ts y (c ∷ rest) at t true ec =
        let b : Bracket = (record { leaf = x; fits = e }, t.p, record { leaf = c; fits = ec }) in
        let ok : ToldOk {P = Bracket} bracket_text bracket_tree (λ b. nothing) (suc j) (x ∷ ts) (f x y.0, rest) = record {
          p = b;
          parts = ap (λ (l : List Leaf). x ∷ l) (t.parts ∙ ap (λ (l : List Leaf). text t.p ++ l) at ∙ sym (append_assoc (text t.p) (c ∷ []) rest));
          is = ap (f x) t.is;
          stops = first_nothing rest;
          low = omega (arith, high b, t.low);
        } in
        let is = ap (λ (r : Read Leaf). given x (close_with y.0 r)) (token_taken closes c rest ec) in
        subst (λ (r : Read B). Told {P = Bracket} {A = B} bracket_text bracket_tree (λ b. nothing) (among opens) (suc j) (reader (suc k)) (x ∷ ts) r) (sym is) ok
    close_told x e ts y [] at t true ec = absurd cc
    close_told x e ts y rest at t false ec =
        let is = ap (λ (r : Read Leaf). given x (close_with y.0 r)) (token_fails closes rest ec) in
        subst (λ (r : Read B). Told {P = Bracket} {A = B} bracket_text bracket_tree (λ b. nothing) (among opens) (suc j) (reader (suc k)) (x ∷ ts) r) (sym is) err
      where
        up : highest 0 (x ∷ text t.p) ≤ suc j
        up = omega (arith, highest_inside 0 x (text t.p) (opening x e), highest_up 0 (text t.p), t.low)

        err : ToldErr {P = Bracket} {A = B} bracket_text (among opens) (suc j) (reader (suc k)) (x ∷ ts) (record { cause = Expected; left = length rest })
        err = record {
          before = x ∷ text t.p;
          rest = rest;
          p = (record { leaf = x; fits = e }, t.p, some_close);
          more = some_close.leaf ∷ [];
          parts = ap (λ (l : List Leaf). x ∷ l) (t.parts ∙ ap (λ (l : List Leaf). text t.p ++ l) at);
          place = refl;
          begins = refl;
          low = up;
          why = inl (
            refl,
            record {
              fails = λ l a.
                  opened_suc k x (text t.p ++ l) e
                  ∙ ap (λ (r : Read A). given x (closed r)) (R.again t.p l (first_alike (goes t.p) rest l a (subst (λ (k : List Leaf). first (goes t.p) k ≡ false) at t.stops)) (omega (arith, t.low, R.fewer)))
                  ∙ ap (λ (r : Read Leaf). given x (close_with (tree t.p) r)) (token_fails closes l (first_alike (among closes) rest l a ec));
              takes = λ b. omega arith;
            },
          );
        }

    body_told : (x : Leaf) (e : among opens x ≡ true) (ts : List Leaf) (z : Read A) → Told text tree goes begin j (body k) ts z
        → Told {P = Bracket} {A = B} bracket_text bracket_tree (λ b. nothing) (among opens) (suc j) (reader (suc k)) (x ∷ ts) (given x (closed z))
    body_told x e ts (Ok y) t = close_told x e ts y y.1 refl t (first (among closes) y.1) refl
    body_told x e ts (Err s) t = record {
      before = x ∷ t.before;
      rest = t.rest;
      p = (record { leaf = x; fits = e }, t.p, some_close);
      more = t.more ++ some_close.leaf ∷ [];
      parts = ap (λ (l : List Leaf). x ∷ l) t.parts;
      place = t.place;
      begins = ap (λ (l : List Leaf). x ∷ l) (ap (λ (l : List Leaf). l ++ some_close.leaf ∷ []) t.begins ∙ append_assoc t.before t.more (some_close.leaf ∷ []));
      low = omega (arith, highest_inside 0 x t.before (opening x e), highest_up 0 t.before, t.low);
      why = why t.why;
    }
      where
        why : Reason begin j (body k) s.cause t.before t.more t.rest → Reason (among opens) (suc j) (reader (suc k)) s.cause (x ∷ t.before) (t.more ++ some_close.leaf ∷ []) t.rest
        why (inl (three, w)) = inl (
          three,
          record {
            fails = λ l a. opened_suc k x (t.before ++ l) e ∙ ap (λ (r : Read A). given x (closed r)) (w.fails l a);
            takes = λ b. omega arith;
          },
        )
        why (inr (six, d)) = inr (
          six,
          record {
            bracket = d.bracket;
            rest_behind = d.rest_behind;
            more_behind = d.more_behind ++ some_close.leaf ∷ [];
            opens = d.opens;
            rest_is = d.rest_is;
            more_is = ap (λ (l : List Leaf). l ++ some_close.leaf ∷ []) d.more_is;
            high = λ h. height_inside h x t.before (opening x e) ∙ d.high (h + 1) ∙ omega arith;
          },
        )

    suc_told : (ts : List Leaf) (b : Bool) → first (among opens) ts ≡ b → Told {P = Bracket} {A = B} bracket_text bracket_tree (λ b. nothing) (among opens) (suc j) (reader (suc k)) ts (reader (suc j) ts)
    suc_told [] b e = not_opened (suc j) (suc k) [] refl
    suc_told (x ∷ ts) true e =
        subst (λ (r : Read B). Told {P = Bracket} {A = B} bracket_text bracket_tree (λ b. nothing) (among opens) (suc j) (reader (suc k)) (x ∷ ts) r) (sym (opened_suc j x ts e)) (body_told x e ts (body j ts) (R.told ts))
    suc_told (x ∷ ts) false e =
        let is = ap (λ (r : Read Leaf). r >>= λ o. inner (suc j) o.1 >>= λ y. Ok (f o.0 y.0, y.1)) (token_fails opens (x ∷ ts) e) in
        subst (λ (r : Read B). Told {P = Bracket} {A = B} bracket_text bracket_tree (λ b. nothing) (among opens) (suc j) (reader (suc k)) (x ∷ ts) r) (sym is) (not_opened (suc j) (suc k) (x ∷ ts) e)

    pub bracket_suc_suc : Reads {P = Bracket} bracket_text bracket_tree (λ b. nothing) (among opens) (suc j) (suc k) (reader (suc j)) (reader (suc k))
    bracket_suc_suc = record {
      fewer = omega (arith, R.fewer);
      told = λ ts. suc_told ts (first (among opens) ts) refl;
      again = λ b l e low. suc_again b l low;
      balanced = bracket_balanced;
    }
