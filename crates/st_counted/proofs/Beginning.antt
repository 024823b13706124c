-- A table of full length in which nothing stands yet.
use Rattle.std.proofs.Common.{◌≡◌, ℕ, zero, suc, [], ◌∷◌, length, replicate, refl, arith}
use Rattle.std.specs.Prelude.{None}
use Rattle.st_model.specs.Table.{Table, entry}
use Rattle.st_model.specs.Machine.{Head}
use Rattle.st_model.specs.View.{View, Held, nothing_held, empty_view}

pub all_none : (t : Table) (n : ℕ) → length t ≡ n → ((k : ℕ) → entry t k ≡ None) → t ≡ replicate n None
all_none [] zero l f = refl
all_none [] (suc n) l f = absurd (omega (arith, l))
all_none (e ∷ t) zero l f = absurd (omega (arith, l))
all_none (e ∷ t) (suc n) l f = λ i. f 0 i ∷ all_none t n (omega (arith, l)) (λ k. f (suc k)) i

pub empty_is : (t : Table) (held : Held) (head : Head) → length t ≡ 32768 → ((k : ℕ) → entry t k ≡ None) → held ≡ nothing_held → ◌≡◌ {A = View} (record { objects = t; held = held; head = head }) (empty_view head)
unfolding empty_view
empty_is t held head long none nothing =
    let objects = all_none t 32768 long none in
    λ i. record { objects = objects i; held = nothing i; head = head }
