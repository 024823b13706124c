-- Where what is known stands.
use Rattle.std.proofs.Common.{ℕ, arith}
use Rattle.std.proofs.Math.Logic.{∥∥₁_map}
use Rattle.st_model.specs.Values.{Value, word}
use Rattle.st_model.specs.View.{View}
use Rattle.st_memory.specs.inside.Places.{KeepsPlaces, KeepsPlacesIn}
use Rattle.st_at_once.specs.declared.known.NearPlaces.{NearPlaces}
use Rattle.st_at_once.specs.declared.known.TheConstants.NearPlaces.{NONE}
use Rattle.st_at_once.specs.inside.Known.{IsNear, ArePlaced}
use Rattle.st_at_once.proofs.Settled.{without_made}

pub placed_nothing : (stands : Value → ℕ → Type 0) → ∥ ArePlaced stands NONE ∥₁
placed_nothing stands = ∣ record { active = λ l. absurd (omega (arith, l)); home = λ l. absurd (omega (arith, l)); literals = λ l. absurd (omega (arith, l)); bytes = λ l. absurd (omega (arith, l)); made = λ l. absurd (omega (arith, l)) } ∣₁

pub placed_kept : (before after : Value → ℕ → Type 0) (k : NearPlaces) → KeepsPlaces before after → ∥ ArePlaced before k ∥₁ → ∥ ArePlaced after k ∥₁
placed_kept before after k keeps = λ q. ∥∥₁_map q (λ (p : ArePlaced before k). record {
  active = λ l. keeps (word k.active.object) k.active.place (p.active l);
  home = λ l. keeps (word k.home.object) k.home.place (p.home l);
  literals = λ l. keeps (word k.code.method) k.code.place (p.literals l);
  bytes = λ l. keeps (word k.code.method) k.code.place (p.bytes l);
  made = λ l. keeps (word k.made.object) k.made.place (p.made l);
})

-- what is held stays
pub placed_settled : (w : View) (before after : Value → ℕ → Type 0) (k : NearPlaces) → KeepsPlacesIn w.objects before after → IsNear w (without_made k) → ∥ ArePlaced before k ∥₁
    → ∥ ArePlaced after (without_made k) ∥₁
placed_settled w before after k keeps near = λ q. ∥∥₁_map q (λ (p : ArePlaced before k). record {
  active = λ l. keeps (word k.active.object) k.active.place (near.active l).live (p.active l);
  home = λ l. keeps (word k.home.object) k.home.place (near.home l).live (p.home l);
  literals = λ l. keeps (word k.code.method) k.code.place (near.code.literals l).live (p.literals l);
  bytes = λ l. keeps (word k.code.method) k.code.place (near.code.bytes l).live (p.bytes l);
  made = λ l. absurd (omega (arith, l));
})
