-- The values of numbers, by their bytes.
use Rattle.std.proofs.Common.{◌≡◌, ◌≢◌, ℕ, zero, suc, ◌+◌, ◌*◌, ◌^◌, ◌<◌, ◌≤◌, List, ◌∷◌, true, false, refl, arith, lit<}
use Rattle.std.specs.Prelude.{◌-◌}
use Rattle.std.proofs.Math.Nat.{pow-le-pow_right}
use Rattle.st_model.specs.Values.{Value, Small, Ref, is_small}
use Rattle.st_model.specs.Machine.{ObjectMemory, State, Transition, Died, Went, answer, after, ◌>>=◌}
use Rattle.st_model.specs.Table.{Table}
use Rattle.st_model.specs.Steps.{fetch_byte, fetch_bytes}
use Rattle.st_model.specs.Primitives.{positive_small, large_value, positive_value, number_of_bytes}
use Rattle.st_frames.specs.inside.Answering.{number_read}
use Rattle.st_frames.proofs.Doing.{rows}

pub value-small : (m : ObjectMemory Table) (most : ℕ) (v : Value) (s : State Table) → is_small v ≡ true → (positive_value m most v).run s ≡ (positive_small v).run s
unfolding positive_value
value-small m most (Small n) s e = refl
value-small m most (Ref n) s e = cc

pub value-large : (m : ObjectMemory Table) (most : ℕ) (v : Value) (s : State Table) → is_small v ≡ false → (positive_value m most v).run s ≡ (large_value m most v).run s
unfolding positive_value
value-large m most (Small n) s e = cc
value-large m most (Ref n) s e = refl

pub reads-none : (m : ObjectMemory Table) (v : Value) (from n : ℕ) (s : State Table) → n ≡ 0 → (number_read m v from n).run s ≡ Went 0 s
unfolding number_read fetch_bytes ◌>>=◌ after answer
reads-none m v from n s e = rw e refl

numbered : (b : ℕ) (x : Transition (State Table) (List ℕ))
    → after (after x (λ bs t. Went (b ∷ bs) t)) (λ bs t. Went (number_of_bytes bs) t) ≡ after (after x (λ bs t. Went (number_of_bytes bs) t)) (λ k t. Went (b + 256 * k) t)
unfolding after
numbered b (Died k) = refl
numbered b (Went bs t) = refl

read_on : (m : ObjectMemory Table) (v : Value) (from n : ℕ) (x : Transition (State Table) ℕ)
    → after (after x (λ b t. (fetch_bytes m v (suc from) n >>= (λ bs. answer (b ∷ bs))).run t)) (λ bs t. Went (number_of_bytes bs) t)
    ≡ after x (λ b t. (number_read m v (suc from) n >>= (λ k. answer (b + 256 * k))).run t)
unfolding after ◌>>=◌ answer number_read
read_on m v from n (Died k) = refl
read_on m v from n (Went b t) = numbered b ((fetch_bytes m v (suc from) n).run t)

pub reads-more : (m : ObjectMemory Table) (v : Value) (from n : ℕ) (s : State Table) → n ≢ 0
    → (number_read m v from n).run s ≡ (fetch_byte m v from >>= (λ b. number_read m v (from + 1) (n - 1) >>= (λ k. answer (b + 256 * k)))).run s
unfolding number_read fetch_bytes ◌>>=◌ answer
reads-more m v from zero s d = absurd (d refl)
reads-more m v from (suc n) s d =
    let e : from + 1 ≡ suc from = omega arith in
    let f : suc n - 1 ≡ n = omega arith in
    rw (e, f) (read_on m v from n ((fetch_byte m v from).run s))

-- a byte more before a number
more_bytes : (b k n : ℕ) → b < 256 → n ≢ 0 → k < 256 ^ (n - 1) → b + 256 * k < 256 ^ n
more_bytes b k zero l d e = absurd (d refl)
more_bytes b k (suc n) l d e =
    let f : suc n - 1 ≡ n = omega arith in
    let g : k < 256 ^ n = rw f at e in
    omega (arith, g)

pub power_within : (i j : ℕ) → i ≤ j → 256 ^ i ≤ 256 ^ j
power_within i j l = pow-le-pow_right (lit< tt) l

-- at most 16 of them
within_sixteen : (k n : ℕ) → k < 256 ^ n → n ≤ 16 → k < 2 ^ 128
within_sixteen k n e l = let f = power_within n 16 l in omega (arith, f, e)

pub next_byte : (b k n : ℕ) → b < 256 → n ≢ 0 → n ≤ 16 → k < 256 ^ (n - 1) → (b + 256 * k < 256 ^ n) × (b + 256 * k < 2 ^ 128)
next_byte b k n l d f e = let g = more_bytes b k n l d e in (g, within_sixteen (b + 256 * k) n g f)

-- a number of fewer bytes
pub fewer_bytes : (k n most : ℕ) → n ≤ most → k < 256 ^ n → k < 256 ^ most
fewer_bytes k n most l e = let f = power_within n most l in omega (arith, e, f)

pub small_within : (k most : ℕ) → 2 ≤ most → k < 16384 → k < 256 ^ most
small_within k most l e = let f = power_within 2 most l in omega (arith, e, f)

pub ruleset reads = (rows, reads-none, reads-more)

pub ruleset values = (value-small, value-large, small_within)

pub ruleset sizes = (fewer_bytes)
