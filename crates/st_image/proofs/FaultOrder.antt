-- There is at most one fault, and none exactly where the image is well-formed.
use Rattle.std.proofs.Common.{◌≡◌, ℕ, zero, suc, ◌<◌, ◌≤◌, ◌⊎◌, List, arith, refl, sym, ap, ◌∙◌, inl, inr}
use Rattle.std.proofs.lemmas.Bool.{cases_lt, cases_order}
use Rattle.st_model.specs.declared.head.ImageHead.{ImageHead}
use Rattle.st_model.specs.declared.fault.ImageFault.{ImageFault}
use Rattle.st_model.specs.declared.fault.ImageFault.TheVariants.{Short, Lengths, Capacity, Size, Overlap, Class, Field, Method, Root, Scheduler}
use Rattle.st_model.specs.Faults.{Fails, row, first_number, second_number, Before, IsImageFault, IsWellFormed}
use Rattle.st_image.specs.inside.Rows.{IsClean, IsFirstOf, IsCleanBelow}

-- a fault is determined by its row and its numbers
abbrev pub fault_at : ℕ → ℕ → ℕ → ImageFault
fault_at (suc (suc (suc (suc (suc (suc (suc (suc (suc (suc n)))))))))) a b = Scheduler
fault_at (suc (suc (suc (suc (suc (suc (suc (suc (suc zero))))))))) a b = Root a
fault_at (suc (suc (suc (suc (suc (suc (suc (suc zero)))))))) a b = Method a
fault_at (suc (suc (suc (suc (suc (suc (suc zero))))))) a b = Field a b
fault_at (suc (suc (suc (suc (suc (suc zero)))))) a b = Class a
fault_at (suc (suc (suc (suc (suc zero))))) a b = Overlap a b
fault_at (suc (suc (suc (suc zero)))) a b = Size a
fault_at (suc (suc (suc zero))) a b = Capacity
fault_at (suc (suc zero)) a b = Lengths
fault_at n a b = Short

pub is_fault_at : (f : ImageFault) → fault_at (row f) (first_number f) (second_number f) ≡ f
is_fault_at Short = refl
is_fault_at Lengths = refl
is_fault_at Capacity = refl
is_fault_at (Size p) = refl
is_fault_at (Overlap p q) = refl
is_fault_at (Class p) = refl
is_fault_at (Field p i) = refl
is_fault_at (Method p) = refl
is_fault_at (Root p) = refl
is_fault_at Scheduler = refl

pub same_fault : (f g : ImageFault) → row f ≡ row g → first_number f ≡ first_number g → second_number f ≡ second_number g → f ≡ g
same_fault f g a b d = sym (is_fault_at f) ∙ (ap (λ r. fault_at r (first_number f) (second_number f)) a
    ∙ (ap (λ r. fault_at (row g) r (second_number f)) b ∙ (ap (λ r. fault_at (row g) (first_number g) r) d ∙ is_fault_at g)))

pub order : (f g : ImageFault) → (f ≡ g) ⊎ (Before f g ⊎ Before g f)
order f g = rows (cases_order (row f) (row g)) (cases_order (first_number f) (first_number g)) (cases_order (second_number f) (second_number g))
  where
    rows : ((row f ≡ row g) ⊎ ((row f < row g) ⊎ (row g < row f)))
        → ((first_number f ≡ first_number g) ⊎ ((first_number f < first_number g) ⊎ (first_number g < first_number f)))
        → ((second_number f ≡ second_number g) ⊎ ((second_number f < second_number g) ⊎ (second_number g < second_number f)))
        → (f ≡ g) ⊎ (Before f g ⊎ Before g f)
    rows (inr (inl a)) b d = inr (inl (inl a))
    rows (inr (inr a)) b d = inr (inr (inl a))
    rows (inl a) (inr (inl b)) d = inr (inl (inr (a, inl b)))
    rows (inl a) (inr (inr b)) d = inr (inr (inr (sym a, inl b)))
    rows (inl a) (inl b) (inr (inl d)) = inr (inl (inr (a, inr (b, d))))
    rows (inl a) (inl b) (inr (inr d)) = inr (inr (inr (sym a, inr (sym b, d))))
    rows (inl a) (inl b) (inl d) = inl (same_fault f g a b d)

pub determined : (h : ImageHead) (bytes : List ℕ) (f g : ImageFault) → IsImageFault h bytes f → IsImageFault h bytes g → f ≡ g
determined h bytes f g is_f is_g = last (order f g)
  where
    last : ((f ≡ g) ⊎ (Before f g ⊎ Before g f)) → f ≡ g
    last (inl e) = e
    last (inr (inl e)) = absurd (is_g.least f e is_f.fails)
    last (inr (inr e)) = absurd (is_f.least g e is_g.fails)

-- induction on all lesser numbers
pub below_all : (P : ℕ → Type 0) → ((n : ℕ) → ((m : ℕ) → m < n → P m) → P n) → (n m : ℕ) → m < n → P m
below_all P step zero m m_in = absurd (omega arith)
below_all P step (suc n) m m_in = step m (λ k k_in. below_all P step n k (omega arith))

pub strong : (P : ℕ → Type 0) → ((n : ℕ) → ((m : ℕ) → m < n → P m) → P n) → (n : ℕ) → P n
strong P step n = below_all P step (suc n) n (omega arith)

abbrev pub CleanAt : ImageHead → List ℕ → ℕ → ℕ → ℕ → Type 0
CleanAt h bytes r a b = (f : ImageFault) → row f ≡ r → first_number f ≡ a → second_number f ≡ b → ¬ Fails h bytes f

pub clean_at : (h : ImageHead) (bytes : List ℕ) → ((f : ImageFault) → ¬ IsImageFault h bytes f) → (r a b : ℕ) → CleanAt h bytes r a b
clean_at h bytes none = strong (λ r. (a b : ℕ) → CleanAt h bytes r a b) (λ r rows.
    strong (λ a. (b : ℕ) → CleanAt h bytes r a b) (λ a firsts.
    strong (λ b. CleanAt h bytes r a b) (λ b seconds f r_is a_is b_is fails.
    none f (record { fails = fails; least = λ g before. last r a b rows firsts seconds f r_is a_is b_is g before }))))
  where
    last : (r a b : ℕ) → ((m : ℕ) → m < r → (a b : ℕ) → CleanAt h bytes m a b)
        → ((m : ℕ) → m < a → (b : ℕ) → CleanAt h bytes r m b) → ((m : ℕ) → m < b → CleanAt h bytes r a m)
        → (f : ImageFault) → row f ≡ r → first_number f ≡ a → second_number f ≡ b → (g : ImageFault) → Before g f → ¬ Fails h bytes g
    last r a b rows firsts seconds f r_is a_is b_is g (inl s) fails = rows (row g) (omega arith) (first_number g) (second_number g) g refl refl refl fails
    last r a b rows firsts seconds f r_is a_is b_is g (inr (e, inl s)) fails = firsts (first_number g) (omega arith) (second_number g) g (e ∙ r_is) refl refl fails
    last r a b rows firsts seconds f r_is a_is b_is g (inr (e, inr (d, s))) fails = seconds (second_number g) (omega arith) g (e ∙ r_is) (d ∙ a_is) refl fails

-- no fault, exactly where the image is well-formed
pub well_formed : (h : ImageHead) (bytes : List ℕ) → ((f : ImageFault) → ¬ IsImageFault h bytes f) → IsWellFormed h bytes
well_formed h bytes none f fails = clean_at h bytes none (row f) (first_number f) (second_number f) f refl refl refl fails

pub no_fault : (h : ImageHead) (bytes : List ℕ) → IsWellFormed h bytes → (f : ImageFault) → ¬ IsImageFault h bytes f
no_fault h bytes well f is = well f is.fails

-- a row's first fault, below which nothing fails
pub found_fault : (h : ImageHead) (bytes : List ℕ) (n : ℕ) (f : ImageFault) → IsCleanBelow h bytes n → IsFirstOf h bytes n f → IsImageFault h bytes f
found_fault h bytes n f clean is = record { fails = is.fails; least = λ g before. last g before }
  where
    last : (g : ImageFault) → Before g f → ¬ Fails h bytes g
    last g (inl s) = clean g (let a = is.at in omega arith)
    last g (inr s) = is.least g (s.0 ∙ is.at) s.1

pub clean_more : (h : ImageHead) (bytes : List ℕ) (n : ℕ) → IsCleanBelow h bytes n → IsClean h bytes n → IsCleanBelow h bytes (suc n)
clean_more h bytes n below here g g_in = last (cases_lt (row g) n)
  where
    last : ((row g < n) ⊎ (n ≤ row g)) → ¬ Fails h bytes g
    last (inl e) = below g e
    last (inr e) = here g (omega arith)

pub clean_none : (h : ImageHead) (bytes : List ℕ) → IsCleanBelow h bytes 1
clean_none h bytes Short e = absurd (omega arith)
clean_none h bytes g e = absurd (omega arith)

pub ruleset clean_rows = (found_fault, clean_more, clean_none)
