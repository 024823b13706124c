-- What reading says of the grammar.
use Rattle.std.proofs.Common.{◌≡◌, ℕ, ◌+◌, ◌<◌, ◌≤◌, max, true, List, [], ◌∷◌, ◌++◌, inl, inr, length, Ok, Err, refl, sym, ap, ◌∙◌, subst, append_assoc, length-append, arith}
use Rattle.std.proofs.lemmas.List.{append-nil, append_cancel_left}
use Rattle.std.proofs.lemmas.Bool.{cases_lt}
use Rattle.st_scan.specs.declared.fault.Cause.{Cause}
use Rattle.st_scan.specs.declared.fault.Cause.TheVariants.{Expected, Deep, Trailing}
use Rattle.st_scan.specs.Views.{MethodView}
use Rattle.st_grammar.specs.declared.leaf.Leaf.{Leaf}
use Rattle.st_grammar.specs.Leaves.{among, openings}
use Rattle.st_grammar.specs.Phrases.{method_text}
use Rattle.st_grammar.specs.Trees.{method_tree}
use Rattle.st_grammar.specs.Reading.{Stop, Read, stop, ◌>>=◌, method_at, end_at, whole_at}
use Rattle.st_grammar.specs.Faults.{level, height, highest, most, IsMethod, IsMethodOf, Begins, CannotStand, IsTooDeep, Why, FaultAt}
use Rattle.st_grammar.proofs.Heights.{from_start, highest_append}
use Rattle.st_grammar.proofs.Readers.{Alike, Reads, Told, ToldOk, ToldErr, Reason, nothing}
use Rattle.st_grammar.proofs.Blocks.{inner_reads}
use Rattle.st_grammar.proofs.Methods.{FitMethod, method_goes, method_reads}

same_front : (a b x y : List Leaf) → a ++ x ≡ b ++ y → length x ≡ length y → a ≡ b
same_front [] [] x y e n = refl
same_front [] (b ∷ bs) x y e n = absurd (omega (arith, ap length e, length-append bs y))
same_front (a ∷ front) [] x y e n = absurd (omega (arith, ap length e, length-append front x))
same_front (a ∷ front) (b ∷ bs) x y e n =
    let tails : front ++ x ≡ bs ++ y = cc in
    let t = same_front front bs x y tails n in
    cc

same_back : (a b x y : List Leaf) → a ≡ b → a ++ x ≡ b ++ y → x ≡ y
same_back a b x y same e = append_cancel_left b x y (ap (λ (z : List Leaf). z ++ x) (sym same) ∙ e)

split : (a b x y : List Leaf) → a ++ x ≡ b ++ y → length a < length b → (z : Leaf) × (m : List Leaf) × (b ≡ a ++ z ∷ m) × (x ≡ z ∷ (m ++ y))
split [] [] x y e lt = absurd (omega arith)
split [] (b ∷ bs) x y e lt = (b, bs, refl, e)
split (a ∷ front) [] x y e lt = absurd (omega arith)
split (a ∷ front) (b ∷ bs) x y e lt =
    let tails : front ++ x ≡ bs ++ y = cc in
    let heads : a ≡ b = cc in
    let s = split front bs x y tails (omega arith) in
    (s.0, s.1, ap (λ (l : List Leaf). b ∷ l) s.2 ∙ ap (λ (t : Leaf). t ∷ (front ++ s.0 ∷ s.1)) (sym heads), s.3)

front_highest : (h : ℕ) (a b : List Leaf) → highest (height h a) b ≤ highest h (a ++ b)
front_highest h a b = omega (arith, highest_append h a b)

level_opening : (h : ℕ) (x : Leaf) → among openings x ≡ true → level h x ≡ h + 1
level_opening h x e = rw e refl

same_value : (r : Read MethodView) (x y : MethodView × List Leaf) → r ≡ Ok x → r ≡ Ok y → x ≡ y
same_value r x y p q = cc

module _ (text : List ℕ) where
  abbrev reads : (n m : ℕ) → n ≤ m → Reads {P = FitMethod text} (λ p. method_text p.0) (λ p. method_tree text p.0) (method_goes text) nothing n m (method_at text n) (method_at text m)
  reads n m le = method_reads text n m (inner_reads text m n le)

  abbrev MethodTold : ℕ → List Leaf → Read MethodView → Type 0
  MethodTold m ts z = Told {P = FitMethod text} (λ p. method_text p.0) (λ p. method_tree text p.0) (method_goes text) nothing most (method_at text m) ts z

  told : (m : ℕ) → most ≤ m → (ts : List Leaf) (z : Read MethodView) → method_at text most ts ≡ z → MethodTold m ts z
  told m le ts z e = subst (MethodTold m ts) e ((reads most m le).told ts)

  -- a method is read to its end, with brackets enough to open
  whole : (m : ℕ) → most ≤ m → (p : FitMethod text) → highest 0 (method_text p.0) ≤ m → method_at text m (method_text p.0) ≡ Ok (method_tree text p.0, [])
  whole m le p high = ap (method_at text m) (sym (append-nil (method_text p.0))) ∙ (reads most m le).again p [] refl high

  -- leaves up to a fault go on with none like that one
  stuck : (m : ℕ) → most ≤ m → (ts before rest l : List Leaf) (s : Stop) → method_at text most ts ≡ Err s → s.cause ≡ Expected → ts ≡ before ++ rest → length rest ≡ s.left → Alike rest l
      → (p : FitMethod text) → highest 0 (method_text p.0) ≤ m → method_text p.0 ≡ before ++ l → ⊥
  stuck m le ts before rest l s was three parts place alike p high is = check (told m le ts (Err s) was)
    where
      check : ToldErr {P = FitMethod text} (λ p. method_text p.0) nothing most (method_at text m) ts s → ⊥
      check t = why t.why
        where
          lengths : length rest ≡ length t.rest
          lengths = place ∙ sym t.place

          front : before ≡ t.before
          front = same_front before t.before rest t.rest (sym parts ∙ t.parts) lengths

          back : rest ≡ t.rest
          back = same_back before t.before rest t.rest front (sym parts ∙ t.parts)

          why : Reason nothing most (method_at text m) s.cause t.before t.more t.rest → ⊥
          why (inr (six, d)) = let no_way : Expected ≡ Deep = sym three ∙ six in absurd cc
          why (inl (e, w)) =
              let one : method_at text m (t.before ++ l) ≡ stop Expected l = w.fails l (subst (λ (r : List Leaf). Alike r l) back alike) in
              let two : method_at text m (t.before ++ l) ≡ Ok (method_tree text p.0, []) = ap (λ (b : List Leaf). method_at text m (b ++ l)) (sym front) ∙ ap (method_at text m) (sym is) ∙ whole m le p high in
              absurd cc

  cannot : (before rest : List Leaf) → ((l : List Leaf) → Alike rest l → (p : FitMethod text) → method_text p.0 ≡ before ++ l → ⊥) → CannotStand text before rest
  cannot before [] never = λ (p, f, e). never [] tt (p, f) (e ∙ sym (append-nil before))
  cannot before (x ∷ rest) never = λ (p, f, more, e). never (x ∷ more) refl (p, f) (e ∙ append_assoc before (x ∷ []) more)

  expected : (ts : List Leaf) (s : Stop) → method_at text most ts ≡ Err s → ToldErr {P = FitMethod text} (λ p. method_text p.0) nothing most (method_at text most) ts s → FaultAt text ts s.cause s.left
  expected ts s was t = record { before = t.before; rest = t.rest; parts = t.parts; place = t.place; begins = (t.p.0, t.p.1, t.more, t.begins); shallow = t.low; why = why t.why }
    where
      never : s.cause ≡ Expected → (l : List Leaf) → Alike t.rest l → (p : FitMethod text) → method_text p.0 ≡ t.before ++ l → ⊥
      never three l alike p is = stuck (max most (highest 0 (method_text p.0))) (omega arith) ts t.before t.rest l s was three t.parts t.place alike p (omega arith) is

      why : Reason nothing most (method_at text most) s.cause t.before t.more t.rest → Why text s.cause t.before t.rest
      why (inl (three, w)) = inr (cannot t.before t.rest (never three), inr (three, λ (p, f, e). never three [] tt (p, f) (e ∙ sym (append-nil t.before))))
      why (inr (six, d)) = inl (
        six,
        record {
          bracket = d.bracket;
          behind = d.rest_behind;
          parts = d.rest_is;
          opens = d.opens;
          could = (t.p.0, t.p.1, d.more_behind, t.begins ∙ ap (λ (l : List Leaf). t.before ++ l) d.more_is ∙ sym (append_assoc t.before (d.bracket ∷ []) d.more_behind));
          open_before = d.high 0 ∙ omega arith;
        },
      )

  -- nothing follows a method that was read, with what it would go on with
  trailing : (ts : List Leaf) (t : MethodView) (x : Leaf) (rest : List Leaf) → ToldOk {P = FitMethod text} (λ p. method_text p.0) (λ p. method_tree text p.0) (method_goes text) most ts (t, x ∷ rest) → FaultAt text ts Trailing (length (x ∷ rest))
  trailing ts t x rest u = record {
    before = method_text u.p.0;
    rest = x ∷ rest;
    parts = u.parts;
    place = refl;
    begins = (u.p.0, u.p.1, [], sym (append-nil (method_text u.p.0)));
    shallow = u.low;
    why = inr (λ (p, f, more, e). goes_no_further (p, f) more e, inl (refl, (u.p.0, u.p.1, refl)));
  }
    where
      goes_no_further : (p : FitMethod text) (more : List Leaf) → method_text p.0 ≡ (method_text u.p.0 ++ x ∷ []) ++ more → ⊥
      goes_no_further p more e =
          let m = max most (highest 0 (method_text p.0)) in
          let one : method_at text m (method_text u.p.0 ++ (x ∷ more)) ≡ Ok (method_tree text u.p.0, x ∷ more) = (reads most m (omega arith)).again u.p (x ∷ more) u.stops (omega (arith, u.low)) in
          let two : method_at text m (method_text u.p.0 ++ (x ∷ more)) ≡ Ok (method_tree text p.0, []) = ap (method_at text m) (sym (append_assoc (method_text u.p.0) (x ∷ []) more) ∙ sym e) ∙ whole m (omega arith) p (omega arith) in
          let left : x ∷ more ≡ [] = ap (λ (v : MethodView × List Leaf). v.1) (same_value _ (method_tree text u.p.0, x ∷ more) (method_tree text p.0, []) one two) in
          absurd (omega (arith, ap length left))

  -- a fault of reading
  fault_of : (ts : List Leaf) (s : Stop) (z : Read MethodView) → method_at text most ts ≡ z → MethodTold most ts z → (z >>= λ m. end_at m.0 m.1) ≡ Err s → FaultAt text ts s.cause s.left
  fault_of ts s (Ok (t, [])) was u e = absurd cc
  fault_of ts s (Ok (t, x ∷ rest)) was u e =
      let same : record { cause = Trailing; left = length (x ∷ rest) } ≡ s = cc in
      subst (λ (r : Stop). FaultAt text ts r.cause r.left) same (trailing ts t x rest u)
  fault_of ts s (Err r) was u e =
      let same : r ≡ s = cc in
      subst (λ (q : Stop). FaultAt text ts q.cause q.left) same (expected ts r was u)

  pub whole_fault : (ts : List Leaf) (s : Stop) → whole_at text most ts ≡ Err s → FaultAt text ts s.cause s.left
  unfolding whole_at
  whole_fault ts s e = fault_of ts s (method_at text most ts) refl (told most (omega arith) ts (method_at text most ts) refl) e

  method_of : (ts : List Leaf) (t : MethodView) (z : Read MethodView) → MethodTold most ts z → (z >>= λ m. end_at m.0 m.1) ≡ Ok t → IsMethodOf text ts t × (highest 0 ts ≤ most)
  method_of ts t (Ok (v, [])) u e =
      let same : v ≡ t = cc in
      let is : method_text u.p.0 ≡ ts = sym (u.parts ∙ append-nil (method_text u.p.0)) in
      ((u.p.0, u.p.1, is, u.is ∙ same), omega (arith, u.low, ap (highest 0) is))
  method_of ts t (Ok (v, x ∷ rest)) u e = absurd cc
  method_of ts t (Err s) u e = absurd cc

  pub whole_method : (ts : List Leaf) (t : MethodView) → whole_at text most ts ≡ Ok t → IsMethodOf text ts t × (highest 0 ts ≤ most)
  unfolding whole_at
  whole_method ts t e = method_of ts t (method_at text most ts) (told most (omega arith) ts (method_at text most ts) refl) e

  -- leaves have one tree
  pub one_tree : (ts : List Leaf) (t u : MethodView) → IsMethodOf text ts t → IsMethodOf text ts u → t ≡ u
  one_tree ts t u (p, f, e, is) (q, g, d, at) =
      let m = max most (max (highest 0 (method_text p)) (highest 0 (method_text q))) in
      let one : method_at text m ts ≡ Ok (t, []) = ap (method_at text m) (sym e) ∙ whole m (omega arith) (p, f) (omega arith) ∙ ap (λ (v : MethodView). Ok (v, [])) is in
      let two : method_at text m ts ≡ Ok (u, []) = ap (method_at text m) (sym d) ∙ whole m (omega arith) (q, g) (omega arith) ∙ ap (λ (v : MethodView). Ok (v, [])) at in
      ap (λ (v : MethodView × List Leaf). v.0) (same_value (method_at text m ts) (t, []) (u, []) one two)

  -- ONE FAULT

  begins_front : (a m : List Leaf) (z : Leaf) → Begins text (a ++ z ∷ m) → Begins text (a ++ z ∷ [])
  begins_front a m z (p, f, more, e) = (p, f, m ++ more, e ∙ append_assoc a (z ∷ m) more ∙ sym (append_assoc a (z ∷ []) (m ++ more)))

  -- one bracket more than may be open
  too_high : (before l : List Leaf) (x : Leaf) → among openings x ≡ true → height 0 before ≡ most → highest 0 (before ++ x ∷ l) ≤ most → ⊥
  too_high before l x opens h low =
      omega (arith, front_highest 0 before (x ∷ l), from_start (level (height 0 before) x) l, level_opening (height 0 before) x opens)

  no_earlier : (ts : List Leaf) (c1 c2 : Cause) (l1 l2 : ℕ) (f : FaultAt text ts c1 l1) (g : FaultAt text ts c2 l2) → length f.before < length g.before → ⊥
  no_earlier ts c1 c2 l1 l2 f g lt =
      let s = split f.before g.before f.rest g.rest (sym f.parts ∙ g.parts) lt in
      elim f.why [
        | inl (six, d) ↦
            let same : s.0 ≡ d.bracket = head_is s.0 d.bracket (s.1 ++ g.rest) d.behind (sym s.3 ∙ d.parts) in
            too_high f.before s.1 s.0 (ap (among openings) same ∙ d.opens) d.open_before (subst (λ (b : List Leaf). highest 0 b ≤ most) s.2 g.shallow)
        | inr (never, _) ↦
            let here = subst (CannotStand text f.before) s.3 never in
            here (begins_front f.before s.1 s.0 (subst (Begins text) s.2 g.begins))
      ]
    where
      head_is : (x y : Leaf) (xs ys : List Leaf) → x ∷ xs ≡ y ∷ ys → x ≡ y
      head_is x y xs ys e = cc

  deep_stands : (before rest : List Leaf) → IsTooDeep text before rest → CannotStand text before rest → ⊥
  deep_stands before rest d never = let here = subst (CannotStand text before) d.parts never in here d.could

  one_cause : (c d : Cause) (before rest : List Leaf) → Why text c before rest → Why text d before rest → c ≡ d
  one_cause c d before rest (inl (p, x)) (inl (q, y)) = p ∙ sym q
  one_cause c d before rest (inl (p, x)) (inr (never, y)) = absurd (deep_stands before rest x never)
  one_cause c d before rest (inr (never, x)) (inl (q, y)) = absurd (deep_stands before rest y never)
  one_cause c d before rest (inr (_, inl (p, x))) (inr (_, inl (q, y))) = p ∙ sym q
  one_cause c d before rest (inr (_, inl (p, x))) (inr (_, inr (q, y))) = absurd (y x)
  one_cause c d before rest (inr (_, inr (p, x))) (inr (_, inl (q, y))) = absurd (x y)
  one_cause c d before rest (inr (_, inr (p, x))) (inr (_, inr (q, y))) = p ∙ sym q

  pub one_fault : (ts : List Leaf) (c1 c2 : Cause) (l1 l2 : ℕ) → FaultAt text ts c1 l1 → FaultAt text ts c2 l2 → (c1 ≡ c2) × (l1 ≡ l2)
  one_fault ts c1 c2 l1 l2 f g =
      elim (cases_lt (length f.before) (length g.before)) [
        | inl lt ↦ absurd (no_earlier ts c1 c2 l1 l2 f g lt)
        | inr le ↦ elim (cases_lt (length g.before) (length f.before)) [
          | inl lt ↦ absurd (no_earlier ts c2 c1 l2 l1 g f lt)
          | inr more ↦
              let parts = sym f.parts ∙ g.parts in
              let lengths : length f.rest ≡ length g.rest = omega (arith, ap length parts, length-append f.before f.rest, length-append g.before g.rest) in
              let front = same_front f.before g.before f.rest g.rest parts lengths in
              let back = same_back f.before g.before f.rest g.rest front parts in
              let w1 = subst (λ (b : List Leaf). Why text c1 b f.rest) front f.why in
              let w2 = subst (λ (r : List Leaf). Why text c1 g.before r) back w1 in
              (one_cause c1 c2 g.before g.rest w2 g.why, sym f.place ∙ lengths ∙ g.place)
        ]
      ]

  -- leaves that are a method, with no bracket too many, have no fault
  pub method_no_fault : (ts : List Leaf) (c : Cause) (l : ℕ) → IsMethod text ts → highest 0 ts ≤ most → FaultAt text ts c l → ⊥
  method_no_fault ts c l p low f = elim f.why [
    | inl (six, d) ↦ too_high f.before d.behind d.bracket d.opens d.open_before (subst (λ (b : List Leaf). highest 0 b ≤ most) (f.parts ∙ ap (λ (r : List Leaf). f.before ++ r) d.parts) low)
    | inr (never, _) ↦ stands f.rest f.parts never
  ]
    where
      stands : (rest : List Leaf) → ts ≡ f.before ++ rest → CannotStand text f.before rest → ⊥
      stands [] parts never = never (p.0, p.1, p.2 ∙ parts ∙ append-nil f.before)
      stands (x ∷ rest) parts never = never (p.0, p.1, rest, p.2 ∙ parts ∙ sym (append_assoc f.before (x ∷ []) rest))
