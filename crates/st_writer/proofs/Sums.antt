-- How many words, and how many objects, the first places of a table have.
use Rattle.std.proofs.Common.{◌≡◌, ℕ, zero, suc, ◌+◌, ◌-◌, ◌<◌, ◌≤◌, ◌⊎◌, inl, inr, Bool, true, false, cond, [], ◌∷◌, length, refl, sym, ap, ◌∙◌, arith}
use Rattle.std.specs.Prelude.{Option, Some, None, is_some}
use Rattle.std.proofs.lemmas.Bool.{cases_lt}
use Rattle.st_model.specs.Objects.{Object, words_of}
use Rattle.st_model.specs.Table.{Table, entry, total_used}
use Rattle.st_writer.specs.Written.{words_at, words_below, used_below}

-- the sum of a number over the objects of the first places

abbrev pub number_at : (Object → ℕ) → Option Object → ℕ
number_at weight None = 0
number_at weight (Some o) = weight o

abbrev pub sum_below : (Object → ℕ) → Table → ℕ → ℕ
sum_below weight t zero = 0
sum_below weight t (suc k) = sum_below weight t k + number_at weight (entry t k)

sum_front : (weight : Object → ℕ) (e : Option Object) (t : Table) (k : ℕ) → sum_below weight (e ∷ t) (suc k) ≡ number_at weight e + sum_below weight t k
sum_front weight e t zero = omega arith
sum_front weight e t (suc k) = let a = sum_front weight e t k in omega arith

pub sum_all : (weight : Object → ℕ) (t : Table) → sum_below weight t (length t) ≡ total_used weight t
sum_all weight [] = refl
sum_all weight (None ∷ t) = let a = sum_front weight None t (length t) in let b = sum_all weight t in omega arith
sum_all weight (Some o ∷ t) = let a = sum_front weight (Some o) t (length t) in let b = sum_all weight t in omega arith

pub sum_grows : (weight : Object → ℕ) (t : Table) (k d : ℕ) → sum_below weight t k ≤ sum_below weight t (k + d)
sum_grows weight t k zero = let e : k + 0 ≡ k = omega arith in rw e (omega arith)
sum_grows weight t k (suc d) = let e : k + suc d ≡ suc (k + d) = omega arith in let a = sum_grows weight t k d in rw e (omega arith)

pub words_are : (t : Table) (k : ℕ) → words_below t k ≡ sum_below words_of t k
words_are t zero = refl
words_are t (suc k) = let a = words_are t k in let b = here (entry t k) in omega arith
  where
    here : (e : Option Object) → words_at e ≡ number_at words_of e
    here None = refl
    here (Some o) = refl

-- past the last object

used_step : (b : Bool) (k n : ℕ) → n ≤ k → cond b (suc k) n ≤ suc k
used_step true k n le = omega arith
used_step false k n le = omega arith

pub used_within : (t : Table) (k : ℕ) → used_below t k ≤ k
unfolding used_below
used_within t zero = omega arith
used_within t (suc k) = used_step (is_some (entry t k)) k (used_below t k) (used_within t k)

pub past_used : (t : Table) (m j : ℕ) → used_below t m ≤ j → j < m → entry t j ≡ None
unfolding used_below
past_used t zero j le below = absurd (omega arith)
past_used t (suc k) j le below = last (cases_lt j k) (past_used t k j)
  where
    at : (e : Option Object) → cond (is_some e) (suc k) (used_below t k) ≤ j → (j < k → used_below t k ≤ j) × (k ≤ j → e ≡ None)
    at None le = (λ less. le, λ above. refl)
    at (Some o) le = (λ less. absurd (omega arith), λ above. absurd (omega arith))

    last : ((j < k) ⊎ (k ≤ j)) → (used_below t k ≤ j → j < k → entry t j ≡ None) → entry t j ≡ None
    last (inl less) more = more ((at (entry t k) le).0 less) less
    last (inr above) more = let same : j ≡ k = omega arith in ap (entry t) same ∙ (at (entry t k) le).1 above

sum_rest : (weight : Object → ℕ) (t : Table) (n d : ℕ) → ((j : ℕ) → n ≤ j → j < n + d → entry t j ≡ None) → sum_below weight t (n + d) ≡ sum_below weight t n
sum_rest weight t n zero none = let e : n + 0 ≡ n = omega arith in ap (sum_below weight t) e
sum_rest weight t n (suc d) none =
    let e : n + suc d ≡ suc (n + d) = omega arith in
    let a : number_at weight (entry t (n + d)) ≡ 0 = ap (number_at weight) (none (n + d) (omega arith) (omega arith)) in
    let b = sum_rest weight t n d (λ j low high. none j low (omega arith)) in
    ap (sum_below weight t) e ∙ omega arith

-- all objects are among the places that are used
pub sum_used : (weight : Object → ℕ) (t : Table) → sum_below weight t (used_below t (length t)) ≡ total_used weight t
sum_used weight t =
    let n = used_below t (length t) in
    let w = used_within t (length t) in
    let d = length t - n in
    let e : n + d ≡ length t = omega arith in
    sym (sum_rest weight t n d (λ j low high. past_used t (length t) j low (omega arith))) ∙ ap (sum_below weight t) e ∙ sum_all weight t
