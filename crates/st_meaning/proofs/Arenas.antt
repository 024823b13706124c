-- Lists of runs, and where the nodes of an arena stand.
use Rattle.std.proofs.Common.{◌≡◌, ℕ, zero, suc, ◌+◌, ◌<◌, ◌≤◌, List, [], ◌∷◌, ◌++◌, length, get_or, take, drop, Some, refl, sym, ap, ◌∙◌, subst, arith, length-append}
use Rattle.std.proofs.lemmas.List.{at_drop_more, at_drop_all, take-append-drop, drop_more, length-take-le}
use Rattle.std.specs.Prelude.{slice_get}
use Rattle.st_meaning.specs.declared.arena.Node.{Node}
use Rattle.st_meaning.specs.inside.Runs.{Going, Outcome, went, over, long, stuck, unfinished, Run, gives, then_go, ◌>>=◌}
use Rattle.st_meaning.specs.inside.Arenas.{Meaning, each, node_run, runs_behind, runs_of}
use Rattle.st_meaning.specs.inside.Traced.{Cut}

-- RUNS

pub cut_then : {A B : Type 0} (o : Outcome A) (f : A → Run B) → Cut o → Cut (then_go o f)
cut_then (went x g) f h = absurd h
cut_then (over d) f h = absurd h
cut_then long f h = tt
cut_then (stuck d) f h = absurd h
cut_then unfinished f h = tt

pub then_gives : {A : Type 0} (o : Outcome A) → then_go o (λ x. gives x) ≡ o
then_gives (went x g) = refl
then_gives (over d) = refl
then_gives long = refl
then_gives (stuck d) = refl
then_gives unfinished = refl

pub then_assoc : {A B C : Type 0} (o : Outcome A) (f : A → Run B) (h : B → Run C) → then_go (then_go o f) h ≡ then_go o (λ x. f x >>= h)
then_assoc (went x g) f h = refl
then_assoc (over d) f h = refl
then_assoc long f h = refl
then_assoc (stuck d) f h = refl
then_assoc unfinished f h = refl

-- EACH OF A LIST

-- the first of what is left
each_first : {X S : Type 0} (one : X → S → Run S) (xs : List X) (k : ℕ) (x : X) (s : S) (g : Going) → k < length xs → x ≡ get_or xs k x → each one (drop k xs) s g ≡ then_go (one x s g) (each one (drop (k + 1) xs))
each_first one xs k x s g within is =
    at_drop_more (λ ys. each one ys s g) xs k x within ∙ ap (λ y. each one (y ∷ drop (k + 1) xs) s g) (sym is)

pub each_went : {X S : Type 0} (one : X → S → Run S) (xs : List X) (k : ℕ) (x : X) (s t : S) (g h : Going) (w : Outcome S) → k < length xs → x ≡ get_or xs k x
    → one x s g ≡ went t h → each one (drop k xs) s g ≡ w → each one (drop (k + 1) xs) t h ≡ w
each_went one xs k x s t g h w within is e whole =
    sym (ap (λ o. then_go o (each one (drop (k + 1) xs))) e) ∙ sym (each_first one xs k x s g within is) ∙ whole

pub each_over : {X S : Type 0} (one : X → S → Run S) (xs : List X) (k : ℕ) (x : X) (s : S) (g d : Going) (w : Outcome S) → k < length xs → x ≡ get_or xs k x
    → one x s g ≡ over d → each one (drop k xs) s g ≡ w → w ≡ over d
each_over one xs k x s g d w within is e whole =
    sym whole ∙ each_first one xs k x s g within is ∙ ap (λ o. then_go o (each one (drop (k + 1) xs))) e

pub each_cut : {X S : Type 0} (one : X → S → Run S) (xs : List X) (k : ℕ) (x : X) (s : S) (g : Going) (w : Outcome S) → k < length xs → x ≡ get_or xs k x
    → Cut (one x s g) → each one (drop k xs) s g ≡ w → Cut w
each_cut one xs k x s g w within is e whole =
    subst (λ o. Cut o) (sym (each_first one xs k x s g within is) ∙ whole) (cut_then (one x s g) (each one (drop (k + 1) xs)) e)

pub each_end : {X S : Type 0} (one : X → S → Run S) (xs : List X) (k : ℕ) (s : S) (g : Going) (w : Outcome S) → length xs ≤ k → each one (drop k xs) s g ≡ w → w ≡ went s g
each_end one xs k s g w all whole = sym whole ∙ at_drop_all (λ ys. each one ys s g) xs k all

-- one more at the end
more_behind : {X S : Type 0} (one : X → S → Run S) (xs : List X) (x : X) (o : Outcome S) → ((s : S) (g : Going) → each one (xs ++ x ∷ []) s g ≡ then_go (each one xs s g) (one x))
    → then_go o (each one (xs ++ x ∷ [])) ≡ then_go o (λ s. each one xs s >>= one x)
more_behind one xs x (went s g) more = more s g
more_behind one xs x (over d) more = refl
more_behind one xs x long more = refl
more_behind one xs x (stuck d) more = refl
more_behind one xs x unfinished more = refl

pub each_more : {X S : Type 0} (one : X → S → Run S) (xs : List X) (x : X) (s : S) (g : Going) → each one (xs ++ x ∷ []) s g ≡ then_go (each one xs s g) (one x)
each_more one [] x s g = then_gives (one x s g)
each_more one (y ∷ xs) x s g = more_behind one xs x (one y s g) (λ t h. each_more one xs x t h) ∙ sym (then_assoc (one y s g) (each one xs) (one x))

-- PLACES

pub get_front : {X : Type 0} (a b : List X) (i : ℕ) (x : X) → slice_get a i ≡ Some x → slice_get (a ++ b) i ≡ Some x
get_front [] b i x h = absurd cc
get_front (y ∷ a) b zero x h = h
get_front (y ∷ a) b (suc i) x h = get_front a b i x h

pub get_last : {X : Type 0} (a : List X) (x : X) (i : ℕ) → i ≡ length a → slice_get (a ++ x ∷ []) i ≡ Some x
get_last [] x zero e = refl
get_last [] x (suc i) e = absurd (omega (arith, e))
get_last (y ∷ a) x zero e = absurd (omega (arith, e))
get_last (y ∷ a) x (suc i) e = get_last a x i (omega (arith, e))

module _ (most : ℕ) where
  pub runs_append : (before : List Meaning) (xs ys : List Node) → runs_behind most before (xs ++ ys) ≡ runs_behind most (runs_behind most before xs) ys
  runs_append before [] ys = refl
  runs_append before (x ∷ xs) ys = runs_append (before ++ (λ n. node_run most before n x) ∷ []) xs ys

  runs_grow : (before : List Meaning) (xs : List Node) (i : ℕ) (m : Meaning) → slice_get before i ≡ Some m → slice_get (runs_behind most before xs) i ≡ Some m
  runs_grow before [] i m h = h
  runs_grow before (x ∷ xs) i m h =
      runs_grow (before ++ (λ n. node_run most before n x) ∷ []) xs i m (get_front before ((λ n. node_run most before n x) ∷ []) i m h)

  pub many_runs : (before : List Meaning) (xs : List Node) → length (runs_behind most before xs) ≡ length before + length xs
  many_runs before [] = omega arith
  many_runs before (x ∷ xs) =
      omega (arith, many_runs (before ++ (λ n. node_run most before n x) ∷ []) xs, length-append before ((λ n. node_run most before n x) ∷ []))

  -- the run of the node at a place is by those before it
  pub run_at : (xs : List Node) (i : ℕ) (x : Node) → i < length xs → x ≡ get_or xs i x → slice_get (runs_of most xs) i ≡ Some (λ n. node_run most (runs_of most (take i xs)) n x)
  run_at xs i x within is =
      let front = take i xs in
      let here : Meaning = λ n. node_run most (runs_of most front) n x in
      let whole : xs ≡ front ++ x ∷ drop (i + 1) xs = sym (take-append-drop i xs) ∙ ap (λ (l : List Node). front ++ l) (drop_more xs i x within ∙ ap (λ (y : Node). y ∷ drop (i + 1) xs) (sym is)) in
      let many : i ≡ length (runs_of most front) = omega (arith, many_runs [] front, length-take-le i xs (omega (arith, within))) in
      ap (λ (l : List Node). slice_get (runs_of most l) i) whole
      ∙ ap (λ (ms : List Meaning). slice_get ms i) (runs_append [] front (x ∷ drop (i + 1) xs))
      ∙ runs_grow (runs_of most front ++ here ∷ []) (drop (i + 1) xs) i here (get_last (runs_of most front) here i many)

  -- one node more
  pub runs_push : (xs : List Node) (x : Node) → runs_of most (xs ++ x ∷ []) ≡ runs_of most xs ++ (λ n. node_run most (runs_of most xs) n x) ∷ []
  runs_push xs x = runs_append [] xs (x ∷ [])
