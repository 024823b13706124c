-- What is read of expressions: names with assignments, and a cascade.
use Rattle.std.proofs.Common.{◌≡◌, ℕ, ◌<◌, ◌≤◌, Bool, true, false, ◌||◌, ◌&&◌, List, [], ◌∷◌, ◌++◌, inl, inr, length, Ok, Err, refl, sym, ap, ◌∙◌, subst, arith}
use Rattle.std.proofs.lemmas.Bool.{cases_Bool, and_parts, and_from, and_right, or_from}
use Rattle.st_scan.specs.Views.{NameView, ExpressionView}
use Rattle.st_scan.specs.Views as views
use Rattle.st_grammar.specs.declared.leaf.Leaf.{Leaf}
use Rattle.st_grammar.specs.declared.leaf.Kind.{Kind}
use Rattle.st_grammar.specs.declared.leaf.Kind.TheVariants.{Opening, Assign, Semicolon, Open, OpenBlock}
use Rattle.st_grammar.specs.Leaves.{among, keywords, operators}
use Rattle.st_grammar.specs.Phrases.{names, constants, constant, array, Target, name, literal, block, group, unary, binary, no_operations, operation, keyworded, no_parts, part, Cascade, cascade, Messages, no_messages, message, Message, unary_message, binary_message, keyword_message, Expression, expression, messages_text, cascade_text, targets_text, expression_text}
use Rattle.st_grammar.specs.Trees.{name_at, assigned, cascade_tree, expression_tree, CascadeFits}
use Rattle.st_grammar.specs.Reading.{Read, ◌>>=◌, first, primary_starts, message_starts, is_target, array_at, bracket_at, cascade_at, targets_at, assigned_to, expression_at}
use Rattle.st_grammar.specs.Faults.{height, highest}
use Rattle.st_grammar.proofs.Heights.{IsBalanced, balanced_nil, behind_balanced}
use Rattle.st_grammar.proofs.KindSets.{apart, within, neutral, are_apart}
use Rattle.st_grammar.proofs.Balanced.{expression_balanced, one_and}
use Rattle.st_grammar.proofs.Readers.{Alike, Reads, Told, ToldOk, Reason, or_left, or_right, is_nil}
use Rattle.st_grammar.proofs.Expressions.{Inner, FitExpression}
use Rattle.st_grammar.proofs.Cascades.{FitCascade, tail_goes, message_goes, messages_last, cascade_goes, cascade_reads}

abbrev assignment : List Kind
assignment = Assign ∷ []

-- a name and an assignment stand first
abbrev first_target : List Leaf → Bool
first_target [] = false
first_target (x ∷ us) = among names x && first (among assignment) us

-- a name alone
abbrev pub is_bare : Cascade → Bool
is_bare (cascade (keyworded (binary (unary (name o) []) no_operations) no_parts) no_messages) = true
is_bare c = false

-- what an expression goes on with
abbrev pub expression_goes : List ℕ → Expression → Leaf → Bool
expression_goes text (expression ts c) x = cascade_goes text c x || (is_bare c && among assignment x)

first_behind : (f : Leaf → Bool) (l : List Leaf) (x : Leaf) (us : List Leaf) → l ≡ x ∷ us → first f l ≡ f x
first_behind f l x us e = ap (first f) e

no_name : (x : Leaf) (us : List Leaf) → among names x ≡ false → first_target (x ∷ us) ≡ false
no_name x us e = rw e refl

no_assignment : (x : Leaf) (us : List Leaf) → first (among assignment) us ≡ false → first_target (x ∷ us) ≡ false
no_assignment x us e = ap (λ (b : Bool). among names x && b) e ∙ none (among names x)
  where
    none : (b : Bool) → (b && false) ≡ false
    none true = refl
    none false = refl

goes_not : (text : List ℕ) (c : Cascade) (l : List Leaf) → first (λ x. cascade_goes text c x || (is_bare c && among assignment x)) l ≡ false → is_bare c ≡ true → first (among assignment) l ≡ false
goes_not text c [] e bare = refl
goes_not text c (x ∷ l) e bare = subst (λ (b : Bool). (b && among assignment x) ≡ false) bare (or_right (cascade_goes text c x) _ e)

goes_cascade : (text : List ℕ) (c : Cascade) (l : List Leaf) → first (λ x. cascade_goes text c x || (is_bare c && among assignment x)) l ≡ false → first (cascade_goes text c) l ≡ false
goes_cascade text c [] e = refl
goes_cascade text c (x ∷ l) e = or_left (cascade_goes text c x) _ e

-- no cascade begins with a name and an assignment
cascade_no_target : (text : List ℕ) (c : Cascade) (l : List Leaf) → first (λ x. cascade_goes text c x || (is_bare c && among assignment x)) l ≡ false → first_target (cascade_text c ++ l) ≡ false
cascade_no_target text (cascade (keyworded (binary (unary (name o) (k ∷ ns)) os) ks) ms) l e = and_right (among names o.leaf) (among assignment k.leaf) (apart names assignment refl k.leaf k.fits)
cascade_no_target text (cascade (keyworded (binary (unary (name o) []) (operation p u os)) ks) ms) l e = and_right (among names o.leaf) (among assignment p.leaf) (apart operators assignment refl p.leaf p.fits)
cascade_no_target text (cascade (keyworded (binary (unary (name o) []) no_operations) (part k b ks)) ms) l e = and_right (among names o.leaf) (among assignment k.leaf) (apart keywords assignment refl k.leaf k.fits)
cascade_no_target text (cascade (keyworded (binary (unary (name o) []) no_operations) no_parts) (message s k ms)) l e = and_right (among names o.leaf) (among assignment s.leaf) (apart (Semicolon ∷ []) assignment refl s.leaf s.fits)
cascade_no_target text (cascade (keyworded (binary (unary (name o) []) no_operations) no_parts) no_messages) l e = no_assignment o.leaf l (goes_not text (cascade (keyworded (binary (unary (name o) []) no_operations) no_parts) no_messages) l e refl)
cascade_no_target text (cascade (keyworded (binary (unary (literal (constant o)) ns) os) ks) ms) l e = rw (apart constants names refl o.leaf o.fits) refl
cascade_no_target text (cascade (keyworded (binary (unary (literal (array o es c)) ns) os) ks) ms) l e = rw (apart (Opening ∷ []) names refl o.leaf o.fits) refl
cascade_no_target text (cascade (keyworded (binary (unary (block o b c) ns) os) ks) ms) l e = rw (apart (OpenBlock ∷ []) names refl o.leaf o.fits) refl
cascade_no_target text (cascade (keyworded (binary (unary (group o x c) ns) os) ks) ms) l e = rw (apart (Open ∷ []) names refl o.leaf o.fits) refl

pair_balanced : (x y : Leaf) → among names x ≡ true → among assignment y ≡ true → IsBalanced (x ∷ y ∷ [])
pair_balanced x y ex ey = one_and names (record { leaf = x; fits = ex }) (y ∷ []) refl (one_and assignment (record { leaf = y; fits = ey }) [] refl balanced_nil)

target_low : (x y : Leaf) (ts : List Leaf) → among names x ≡ true → among assignment y ≡ true → highest 0 (x ∷ y ∷ ts) ≡ highest 0 ts
target_low x y ts ex ey =
    let b = pair_balanced x y ex ey in
    let up = behind_balanced 0 (x ∷ y ∷ []) ts b in
    let flat : highest 0 (x ∷ y ∷ []) ≡ 0 = pair_low x y ex ey in
    omega arith
  where
    pair_low : (x y : Leaf) → among names x ≡ true → among assignment y ≡ true → highest 0 (x ∷ y ∷ []) ≡ 0
    pair_low x y ex ey =
        let nx = neutral names refl x ex in
        let ny = neutral assignment refl y ey in
        rw (nx.0, nx.1, ny.0, ny.1) refl

target_flat : (x y : Leaf) (ts : List Leaf) → among names x ≡ true → among assignment y ≡ true → (h : ℕ) → height h (x ∷ y ∷ ts) ≡ height h ts
target_flat x y ts ex ey h = (pair_balanced x y ex ey).flat h ts

module _ (text : List ℕ) where
  abbrev assigning : Leaf → Read ExpressionView → Read ExpressionView
  assigning x r = r >>= λ e. Ok (views.assign (name_at text x) e.0, e.1)

  abbrev read : ℕ → List Leaf → Read ExpressionView
  read n = expression_at text (array_at text n) (bracket_at text n)

  abbrev read_cascade : ℕ → List Leaf → Read ExpressionView
  read_cascade n = cascade_at text (array_at text n) (bracket_at text n)

  abbrev ending : List NameView → Read ExpressionView → Read ExpressionView
  ending ns r = r >>= λ c. Ok (assigned_to ns c.0, c.1)

  one_target : (n : ℕ) (x y : Leaf) (ts : List Leaf) → is_target x y ≡ true → read n (x ∷ y ∷ ts) ≡ assigning x (read n ts)
  unfolding expression_at targets_at
  one_target n x y ts e = rw e (later (targets_at text ts).0 (read_cascade n (targets_at text ts).1))
    where
      later : (ns : List NameView) (r : Read ExpressionView) → ending (name_at text x ∷ ns) r ≡ assigning x (ending ns r)
      later ns (Ok c) = refl
      later ns (Err s) = refl

  same_read : (r : Read ExpressionView) → ending [] r ≡ r
  same_read (Ok c) = refl
  same_read (Err s) = refl

  no_target : (n : ℕ) (ts : List Leaf) → first_target ts ≡ false → read n ts ≡ read_cascade n ts
  unfolding expression_at targets_at
  no_target n [] e = same_read (read_cascade n [])
  no_target n (x ∷ []) e = same_read (read_cascade n (x ∷ []))
  no_target n (x ∷ y ∷ ts) e = rw e (same_read (read_cascade n (x ∷ y ∷ ts)))

  module _ (n m : ℕ) (I : Inner text n m) where
    abbrev ExpressionTold : List Leaf → Read ExpressionView → Type 0
    ExpressionTold ts z = Told {P = FitExpression text} (λ e. expression_text e.0) (λ e. expression_tree text e.0) (λ e. expression_goes text e.0) (among primary_starts) n (read m) ts z

    abbrev CascadeTold : List Leaf → Read ExpressionView → Type 0
    CascadeTold ts z = Told {P = FitCascade text} (λ c. cascade_text c.0) (λ c. cascade_tree text c.0) (λ c. cascade_goes text c.0) (among primary_starts) n (read_cascade m) ts z

    name_starts : (x : Leaf) → among names x ≡ true → among primary_starts x ≡ true
    name_starts x e = within names primary_starts refl x e

    -- where no target stands first, none does in tokens that begin alike up to a fault
    alike_target : (before rest l : List Leaf) → first_target (before ++ rest) ≡ false → Alike rest l → (first (among primary_starts) (before ++ rest) ≡ true → 0 < length before) → first_target (before ++ l) ≡ false
    alike_target (x ∷ y ∷ before) rest l e a takes = e
    alike_target (x ∷ []) rest [] e a takes = no_assignment x [] refl
    alike_target (x ∷ []) [] (z ∷ l) e a takes = absurd a
    alike_target (x ∷ []) (y ∷ rest) (z ∷ l) e a takes = ap (λ (w : Leaf). first_target (x ∷ w ∷ l)) (sym a) ∙ e
    alike_target [] rest [] e a takes = refl
    alike_target [] [] (z ∷ l) e a takes = absurd a
    alike_target [] (y ∷ rest) (z ∷ l) e a takes = elim (cases_Bool (among names z)) [
      | inr other ↦ no_name z l other
      | inl same ↦ absurd (omega (arith, takes (name_starts y (ap (among names) a ∙ same))))
    ]

    bare_stops : (c : Cascade) (ts rest : List Leaf) → ts ≡ cascade_text c ++ rest → first_target ts ≡ false → first (cascade_goes text c) rest ≡ false → first (λ x. cascade_goes text c x || (is_bare c && among assignment x)) rest ≡ false
    bare_stops c ts [] parts e s = refl
    bare_stops (cascade (keyworded (binary (unary (name o) []) no_operations) no_parts) no_messages) ts (x ∷ rest) parts e s =
        let no : (among names o.leaf && among assignment x) ≡ false = ap first_target (sym parts) ∙ e in
        or_from _ _ s (subst (λ (b : Bool). (b && among assignment x) ≡ false) o.fits no)
    bare_stops c ts (x ∷ rest) parts e s = or_from (cascade_goes text c x) _ s (not_bare c ts (x ∷ rest) parts e)
      where
        not_bare : (c : Cascade) (ts rest : List Leaf) → ts ≡ cascade_text c ++ rest → first_target ts ≡ false → (is_bare c && first (among assignment) rest) ≡ false
        not_bare (cascade (keyworded (binary (unary (name o) []) no_operations) no_parts) no_messages) ts rest parts e =
            let no : (among names o.leaf && first (among assignment) rest) ≡ false = ap first_target (sym parts) ∙ e in
            subst (λ (b : Bool). (b && first (among assignment) rest) ≡ false) o.fits no
        not_bare _ ts rest parts e = refl

    plain_told : (ts : List Leaf) (z : Read ExpressionView) → first_target ts ≡ false → CascadeTold ts z → ExpressionTold ts z
    plain_told ts (Ok x) e t = record { p = (expression [] t.p.0, t.p.1); parts = t.parts; is = t.is; stops = bare_stops t.p.0 ts x.1 t.parts e t.stops; low = t.low }
    plain_told ts (Err s) e t = record { before = t.before; rest = t.rest; p = (expression [] t.p.0, t.p.1); more = t.more; parts = t.parts; place = t.place; begins = t.begins; low = t.low; why = why t.why }
      where
        why : Reason (among primary_starts) n (read_cascade m) s.cause t.before t.more t.rest → Reason (among primary_starts) n (read m) s.cause t.before t.more t.rest
        why (inr d) = inr d
        why (inl (three, w)) = inl (
          three,
          record {
            fails = λ l a. no_target m (t.before ++ l) (alike_target t.before t.rest l (ap first_target (sym t.parts) ∙ e) a w.takes) ∙ w.fails l a;
            takes = w.takes;
          },
        )

    -- with one more target
    target_told : (x y : Leaf) (ts : List Leaf) (z : Read ExpressionView) → among names x ≡ true → among assignment y ≡ true → is_target x y ≡ true → ExpressionTold ts z → ExpressionTold (x ∷ y ∷ ts) (assigning x z)
    target_told x y ts (Ok v) ex ey e t = found t.p t
      where
        found : (p : FitExpression text) → (u : ToldOk {P = FitExpression text} (λ e. expression_text e.0) (λ e. expression_tree text e.0) (λ e. expression_goes text e.0) n ts v) → ExpressionTold (x ∷ y ∷ ts) (assigning x (Ok v))
        found p u = longer u.p u.parts u.is u.stops u.low
          where
            longer : (p : FitExpression text) → ts ≡ expression_text p.0 ++ v.1 → expression_tree text p.0 ≡ v.0 → first (expression_goes text p.0) v.1 ≡ false → highest 0 (expression_text p.0) ≤ n → ExpressionTold (x ∷ y ∷ ts) (assigning x (Ok v))
            longer (expression xs c, f) parts is stops low = record {
              p = (expression (record { name = record { leaf = x; fits = ex }; assign = record { leaf = y; fits = ey } } ∷ xs) c, f);
              parts = ap (λ (l : List Leaf). x ∷ y ∷ l) parts;
              is = ap (views.assign (name_at text x)) is;
              stops = stops;
              low = omega (arith, low, target_low x y (expression_text (expression xs c)) ex ey);
            }
    target_told x y ts (Err s) ex ey e t = longer t.p t.begins
      where
        why : Reason (among primary_starts) n (read m) s.cause t.before t.more t.rest → Reason (among primary_starts) n (read m) s.cause (x ∷ y ∷ t.before) t.more t.rest
        why (inl (three, w)) = inl (three, record { fails = λ l a. one_target m x y (t.before ++ l) e ∙ ap (assigning x) (w.fails l a); takes = λ b. omega arith })
        why (inr (six, d)) = inr (six, record { bracket = d.bracket; rest_behind = d.rest_behind; more_behind = d.more_behind; opens = d.opens; rest_is = d.rest_is; more_is = d.more_is; high = λ h. target_flat x y t.before ex ey h ∙ d.high h })

        longer : (p : FitExpression text) → expression_text p.0 ≡ t.before ++ t.more → ExpressionTold (x ∷ y ∷ ts) (assigning x (Err s))
        longer (expression xs c, f) begins = record {
          before = x ∷ y ∷ t.before;
          rest = t.rest;
          p = (expression (record { name = record { leaf = x; fits = ex }; assign = record { leaf = y; fits = ey } } ∷ xs) c, f);
          more = t.more;
          parts = ap (λ (l : List Leaf). x ∷ y ∷ l) t.parts;
          place = t.place;
          begins = ap (λ (l : List Leaf). x ∷ y ∷ l) begins;
          low = omega (arith, t.low, target_low x y t.before ex ey);
          why = why t.why;
        }

    expression_told : (ts : List Leaf) → ExpressionTold ts (read n ts)
    expression_told [] = subst (ExpressionTold []) (sym (no_target n [] refl)) (plain_told [] (read_cascade n []) refl ((cascade_reads text n m I).told []))
    expression_told (x ∷ []) = subst (ExpressionTold (x ∷ [])) (sym (no_target n (x ∷ []) (no_assignment x [] refl))) (plain_told (x ∷ []) (read_cascade n (x ∷ [])) (no_assignment x [] refl) ((cascade_reads text n m I).told (x ∷ [])))
    expression_told (x ∷ y ∷ ts) = both_ways (is_target x y) refl (expression_told ts)
      where
        both_ways : (b : Bool) → is_target x y ≡ b → ExpressionTold ts (read n ts) → ExpressionTold (x ∷ y ∷ ts) (read n (x ∷ y ∷ ts))
        both_ways true e t =
            let parts = and_parts (among names x) (among assignment y) e in
            subst (ExpressionTold (x ∷ y ∷ ts)) (sym (one_target n x y ts e)) (target_told x y ts (read n ts) parts.0 parts.1 e t)
        both_ways false e t = subst (ExpressionTold (x ∷ y ∷ ts)) (sym (no_target n (x ∷ y ∷ ts) e)) (plain_told (x ∷ y ∷ ts) (read_cascade n (x ∷ y ∷ ts)) e ((cascade_reads text n m I).told (x ∷ y ∷ ts)))

    target_is : (t : Target) → is_target t.name.leaf t.assign.leaf ≡ true
    target_is t = and_from (among names t.name.leaf) (among assignment t.assign.leaf) t.name.fits t.assign.fits

    expression_again : (ts : List Target) (c : Cascade) (l : List Leaf) → CascadeFits text c → first (expression_goes text (expression ts c)) l ≡ false → highest 0 (targets_text ts ++ cascade_text c) ≤ m
        → read m ((targets_text ts ++ cascade_text c) ++ l) ≡ Ok (assigned text ts (cascade_tree text c), l)
    expression_again [] c l f e low = no_target m (cascade_text c ++ l) (cascade_no_target text c l e) ∙ (cascade_reads text n m I).again (c, f) l (goes_cascade text c l e) low
    expression_again (t ∷ ts) c l f e low =
        one_target m t.name.leaf t.assign.leaf ((targets_text ts ++ cascade_text c) ++ l) (target_is t)
        ∙ ap (assigning t.name.leaf) (expression_again ts c l f e (omega (arith, low, target_low t.name.leaf t.assign.leaf (targets_text ts ++ cascade_text c) t.name.fits t.assign.fits)))

    pub expression_reads : Reads {P = FitExpression text} (λ e. expression_text e.0) (λ e. expression_tree text e.0) (λ e. expression_goes text e.0) (among primary_starts) n m (read n) (read m)
    expression_reads = record { fewer = I.fewer; told = expression_told; again = again; balanced = λ e. expression_balanced e.0 }
      where
        again : (e : FitExpression text) (l : List Leaf) → first (expression_goes text e.0) l ≡ false → highest 0 (expression_text e.0) ≤ m → read m (expression_text e.0 ++ l) ≡ Ok (expression_tree text e.0, l)
        again (expression ts c, f) l e low = expression_again ts c l f e low

-- what no expression goes on with
pub record IsForeign (x : Leaf) : Type 0 where
  pub keyword : among keywords x ≡ false
  pub operator : among operators x ≡ false
  pub name : among names x ≡ false
  pub message : among message_starts x ≡ false
  pub semicolon : among (Semicolon ∷ []) x ≡ false
  pub assign : among assignment x ≡ false

pub foreign : (ks : List Kind) → are_apart ks keywords ≡ true → are_apart ks operators ≡ true → are_apart ks names ≡ true → are_apart ks message_starts ≡ true → are_apart ks (Semicolon ∷ []) ≡ true → are_apart ks assignment ≡ true → (x : Leaf) → among ks x ≡ true → IsForeign x
foreign ks b c d e f g x h = record { keyword = apart ks keywords b x h; operator = apart ks operators c x h; name = apart ks names d x h; message = apart ks message_starts e x h; semicolon = apart ks (Semicolon ∷ []) f x h; assign = apart ks assignment g x h }

module _ (text : List ℕ) where
  message_not : (k : Message) (x : Leaf) → IsForeign x → message_goes text k x ≡ false
  message_not (unary_message k) x f = refl
  message_not (binary_message o u) x f = f.name
  message_not (keyword_message k b ks) x f = or_from (among keywords x) _ f.keyword (or_from (among operators x) _ f.operator f.name)

  last_not : (ms : Messages) (x : Leaf) → IsForeign x → messages_last text ms x ≡ false
  last_not no_messages x f = refl
  last_not (message s k ms) x f = or_from (messages_last text ms x) _ (last_not ms x f) (and_right (is_nil (messages_text ms)) (message_goes text k x) (message_not k x f))

  tail_not : (x : Leaf) → IsForeign x → tail_goes x ≡ false
  tail_not x f = or_from (among keywords x) _ f.keyword (or_from (among operators x) _ f.operator f.name)

  sent_not : (ms : Messages) (x : Leaf) → IsForeign x → ((among (Semicolon ∷ []) x || messages_last text ms x) || (is_nil (messages_text ms) && tail_goes x)) ≡ false
  sent_not ms x f = or_from (among (Semicolon ∷ []) x || messages_last text ms x) _ (or_from (among (Semicolon ∷ []) x) _ f.semicolon (last_not ms x f)) (and_right (is_nil (messages_text ms)) (tail_goes x) (tail_not x f))

  cascade_not : (c : Cascade) (x : Leaf) → IsForeign x → cascade_goes text c x ≡ false
  cascade_not (cascade (keyworded (binary (unary p []) no_operations) no_parts) ms) x f = f.message
  cascade_not (cascade (keyworded (binary (unary p []) no_operations) (part k b ks)) ms) x f = sent_not ms x f
  cascade_not (cascade (keyworded (binary (unary p []) (operation o u os)) ks) ms) x f = sent_not ms x f
  cascade_not (cascade (keyworded (binary (unary p (n ∷ ns)) os) ks) ms) x f = sent_not ms x f

  pub expression_not : (e : Expression) (x : Leaf) → IsForeign x → expression_goes text e x ≡ false
  expression_not (expression ts c) x f = or_from (cascade_goes text c x) _ (cascade_not c x f) (and_right (is_bare c) (among assignment x) f.assign)
