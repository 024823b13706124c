-- The copying of fields in a memory, as the step of the definitions.
use Rattle.std.proofs.Common.{◌≡◌, ◌≢◌, ℕ, zero, suc, refl, subst, arith}
use Rattle.std.proofs.lemmas.Option.{slice_get-get_or}
use Rattle.st_model.specs.declared.dead.Dead.{Dead}
use Rattle.st_model.specs.Values.{Value}
use Rattle.st_model.specs.Objects.{nil}
use Rattle.st_model.specs.Formed.{IsWord}
use Rattle.st_model.specs.Machine.{State, Died, Went}
use Rattle.st_model.specs.Steps.{transfer}
use Rattle.st_model.specs.Table.{Table, table, bounded_table}
use Rattle.st_model.specs.View.{View, IsWhole, IsKnown, Has, Lacks, object_of, with_fields, field_of, fields_from}
use Rattle.st_model.proofs.WholeLemmas.{field_known, formed_live}
use Rattle.st_model.proofs.Copies.{AreKnown, run-transfer_none, run-transfer, run-transfer_unread, run-transfer_unwritten}
use Rattle.st_memory.proofs.Wide.{transfer-bounded}

module _ (v : View) (whole : IsWhole v) where
  known_field : (x : Value) (i n : ℕ) → Has v.objects x i (suc n) → IsKnown v.objects (field_of v.objects x i) × IsWord (field_of v.objects x i)
  unfolding field_of
  known_field x i n has =
      let l = has.fields in
      let e = slice_get-get_or (object_of v.objects x).fields i nil (omega (arith, l)) in
      (field_known v whole x has.live i _ e, (formed_live v whole x has.live).values i _ e)

  are_known : (x : Value) (from n : ℕ) → Has v.objects x from n → AreKnown v.objects (fields_from v.objects x from n)
  unfolding fields_from
  are_known x from zero has = tt
  are_known x from (suc n) has =
      (known_field x from n has, are_known x (suc from) n (record { live = has.live; kind = has.kind; fields = let l = has.fields in omega (arith, l) }))

  module _ (n : ℕ) (source : Value) (from : ℕ) (target : Value) (to : ℕ) (s : State Table) (is : s.memory ≡ v.objects) where
    pub moves_none : n ≡ 0 → (transfer bounded_table n source from target to).run s ≡ Went tt s
    moves_none e = rw (transfer-bounded n source from target to) (run-transfer_none n source from target to s e)

    pub moves : Has v.objects source from n → Has v.objects target to n
        → (transfer bounded_table n source from target to).run s ≡ Went tt (record s { memory = with_fields v.objects target to (fields_from v.objects source from n) })
    moves h k = rw (transfer-bounded n source from target to)
        (subst (λ (t : Table). (transfer table n source from target to).run s ≡ Went tt (record s { memory = with_fields t target to (fields_from t source from n) })) is
        (run-transfer n source from target to s (rw is h) (rw is k) (rw is (are_known source from n h))))

  pub moves_unread : (n : ℕ) (source : Value) (from : ℕ) (target : Value) (to : ℕ) (s : State Table) (e : Dead) → s.memory ≡ v.objects → n ≢ 0 → Lacks v.objects source from n e
      → (transfer bounded_table n source from target to).run s ≡ Died e
  moves_unread zero source from target to s e is some h = absurd (some refl)
  moves_unread (suc n) source from target to s e is some h =
      rw (transfer-bounded (suc n) source from target to) (run-transfer_unread n source from target to s e (rw is h))

  pub moves_unwritten : (n : ℕ) (source : Value) (from : ℕ) (target : Value) (to : ℕ) (s : State Table) (e : Dead) → s.memory ≡ v.objects → n ≢ 0 → Has v.objects source from n
      → Lacks v.objects target to n e → (transfer bounded_table n source from target to).run s ≡ Died e
  moves_unwritten zero source from target to s e is some h k = absurd (some refl)
  moves_unwritten (suc n) source from target to s e is some h k =
      rw (transfer-bounded (suc n) source from target to) (run-transfer_unwritten n source from target to s e (rw is h) (rw is k) (rw is (are_known source from (suc n) h)))

pub ruleset moving = (moves_none, moves, moves_unread, moves_unwritten)
