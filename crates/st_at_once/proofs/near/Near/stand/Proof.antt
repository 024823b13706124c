-- The field says only that a proof exists. An entailment is a proposition, so the proof may be opened in front of the walk that Rattle made.
use seplogic.Bi.Basic.{Entails-prop}
use mathlib.Core.Logic.{∥∥₁_elim}
use base.Logic.{via, mono_r}
use denote.Triple.Entry.{on_entry}
use borrow.Fn.Kinds.{sig_of}
use contract.Monad.{fact_mono}
use Rattle.st_at_once.specs.inside.Known.{ArePlaced}
use Rattle.st_at_once.proofs.near.Near.stand.Statement.{statement}
use Rattle.st_at_once.proofs.near.Near.stand.Lts as lts
use Rattle.st_at_once.proofs.near.Near.stand.Reads as reads
use Rattle.st_at_once.proofs.near.Near.stand.Tie as tie

pub stand_spec : {M : Type 1} → statement M
stand_spec {M} =
    tie.close (λ T L g d dd w met dropped 𝓤 𝓛 𝓣 y.
    ∥∥₁_elim y.0.3.0.now.places (Entails-prop 𝓤.op _ _) (λ placed.
    via 𝓤 _ (mono_r 𝓤 (on_entry 𝓛 (sig_of 3 (lts.ps T L g d dd) (lts.r T L g d dd)) y.0.0 y.0.1 y.0.3 y.0.4) (fact_mono 𝓤 _ (ArePlaced (g.stands y.0.3.0.now.memory.now) y.0.3.0.now.known) (λ _. placed)))
    (lts.spec T L g d dd (λ κs a. ArePlaced (g.stands a.0.now.memory.now) a.0.now.known) (reads.Post T L g d dd) (λ c. c.requires) 𝓤 𝓛 𝓣 y)))
