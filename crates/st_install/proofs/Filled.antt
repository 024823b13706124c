-- What is made gets its fields and bytes, one after the other.
use Rattle.std.proofs.Common.{◌≡◌, ℕ, suc, zero, ◌<◌, ◌≤◌, ◌+◌, ◌*◌, List, [], ◌∷◌, length, drop, true, refl, sym, ap, ◌∙◌, subst, arith}
use Rattle.std.specs.Prelude.{slice_index_or, get_or}
use Rattle.std.specs.List.{AllByRecursion}
use Rattle.st_model.specs.declared.oop.Oop.{Oop}
use Rattle.st_model.specs.declared.kind.Kind.{Kind}
use Rattle.st_model.specs.declared.kind.Kind.TheVariants as kind
use Rattle.st_model.specs.Values.{Value, value, is_small}
use Rattle.st_model.specs.Objects.{nil}
use Rattle.st_model.specs.Formed.{literals_of}
use Rattle.st_model.specs.Machine.{Step, answer, ◌>>◌}
use Rattle.st_model.specs.Steps.{store_fields, store_byte, store_bytes}
use Rattle.st_model.specs.Table.{Table, table}
use Rattle.st_model.specs.View.{View}
use Rattle.st_install.specs.declared.plan.PlannedValue.{PlannedValue as CodePart}
use Rattle.st_install.specs.declared.plan.PlannedValue.TheVariants as part
use Rattle.st_install.specs.declared.plan.NewObject.{NewObject as CodeObject}
use Rattle.st_scope.specs.inside.Meanings.{values}
use Rattle.st_install.specs.inside.Readies.{part_of, parts_of, objects_of}
use Rattle.st_install.specs.inside.Readies.{object_of as planned_of}
use Rattle.st_install.specs.inside.Carried.{Goes, Becomes, KeepsFields, IsPlannable, IsShaped, AreShaped}
use Rattle.st_install.specs.inside.Goes.{HasHeader}
use Rattle.st_install.specs.Installing.{part_value, part_values, store_method_fields, fill_method, fill_by, fill_all}
use Rattle.st_install.proofs.InTurn.{InTurn}
use Rattle.st_install.proofs.Going.{goes-first, goes-after, goes-then, becomes-after, becomes-then, Left, left_goes, left_next, left_done}

-- LISTS

pub drop_next : {X : Type 0} (xs : List X) (i : ℕ) (d : X) → i < length xs → drop i xs ≡ slice_index_or xs i d ∷ drop (i + 1) xs
drop_next [] i d l = absurd (omega (arith, l))
drop_next (y ∷ ys) zero d l = refl
drop_next (y ∷ ys) (suc i) d l = let q : suc i + 1 ≡ suc (i + 1) = omega arith in rw q (drop_next ys i d (omega (arith, l)))

pub drop_past : {X : Type 0} (xs : List X) (i : ℕ) → length xs ≤ i → drop i xs ≡ []
drop_past [] zero l = refl
drop_past [] (suc i) l = refl
drop_past (y ∷ ys) zero l = absurd (omega (arith, l))
drop_past (y ∷ ys) (suc i) l = drop_past ys i (omega (arith, l))

-- PARTS

pub made_part : (os : List Oop) (k : ℕ) (d : Oop) → k < length os → value (slice_index_or os k d) ≡ get_or (values os) k nil
made_part [] k d l = absurd (omega (arith, l))
made_part (o ∷ os) zero d l = refl
made_part (o ∷ os) (suc k) d l = made_part os k d (omega (arith, l))

pub no_part : (os : List Oop) (k : ℕ) → length os ≤ k → nil ≡ get_or (values os) k nil
no_part [] k l = refl
no_part (o ∷ os) zero l = absurd (omega (arith, l))
no_part (o ∷ os) (suc k) l = no_part os k (omega (arith, l))

-- FIELDS

module _ (one : ℕ → Value → Step Table Unit) (all : ℕ → List Value → Step Table Unit) (turn : InTurn Table one all) (vs : List Value) (ps : List CodePart) where
  abbrev pub fields_from : ℕ → Step Table Unit
  fields_from i = all i (part_values nil vs (parts_of (drop i ps)))

  fields_turn : (i : ℕ) (d : CodePart) → i < length ps → fields_from i ≡ (one i (part_value nil vs (part_of (slice_index_or ps i d))) >> fields_from (i + 1))
  fields_turn i d l =
      let p = slice_index_or ps i d in
      let next : suc i ≡ i + 1 = omega arith in
      ap (λ (qs : List CodePart). all i (part_values nil vs (parts_of qs))) (drop_next ps i d l)
      ∙ (turn.more i (part_value nil vs (part_of p)) (part_values nil vs (parts_of (drop (i + 1) ps)))
      ∙ ap (λ j. one i (part_value nil vs (part_of p)) >> all j (part_values nil vs (parts_of (drop (i + 1) ps)))) next)

  fields_end : (i : ℕ) → length ps ≤ i → fields_from i ≡ answer tt
  fields_end i l = ap (λ (qs : List CodePart). all i (part_values nil vs (parts_of qs))) (drop_past ps i l) ∙ turn.none i

  module _ (v w : View) (i : ℕ) (h : Left (fields_from 0) (fields_from i) v w) where
    module _ (d : CodePart) (l : i < length ps) (y : Value) (q : y ≡ part_value nil vs (part_of (slice_index_or ps i d))) where
      pub next_goes : Goes (fields_from 0) v → Goes (one i y) w
      next_goes g =
          subst (λ (x : Value). Goes (one i x) w) (sym q) (left_goes (fields_from 0) (fields_from i) v w h (one i (part_value nil vs (part_of (slice_index_or ps i d)))) (fields_from (i + 1)) (fields_turn i d l) g)

      pub next_left : (u : View) → Becomes (one i y) w tt u → KeepsFields w.objects u.objects → Left (fields_from 0) (fields_from (i + 1)) v u
      next_left u b k =
          left_next (fields_from 0) (fields_from i) v w h (one i (part_value nil vs (part_of (slice_index_or ps i d)))) (fields_from (i + 1)) u (fields_turn i d l) (subst (λ (x : Value). Becomes (one i x) w tt u) q b) k

    pub fields_done : length ps ≤ i → Becomes (fields_from 0) v tt w
    fields_done l = left_done (fields_from 0) (fields_from i) v w h (fields_end i l)

length_parts : (ps : List CodePart) → length (parts_of ps) ≡ length ps
length_parts [] = refl
length_parts (p ∷ ps) = ap suc (length_parts ps)

header_counts : (vs : List Value) (p : CodePart) (ps : List CodePart) → HasHeader (parts_of (p ∷ ps)) → (is_small (part_value nil vs (part_of p)) ≡ true) × (literals_of (part_value nil vs (part_of p)) + 1 ≡ length (p ∷ ps))
header_counts vs (part.There o) ps h = let e = h.1 in let l = length_parts ps in (h.0, omega (arith, e, l))
header_counts vs (part.Made k) ps h = absurd h

-- what goes into field 0 counts the literals
pub headed : (vs : List Value) (ps : List CodePart) (i : ℕ) (d : CodePart) (y : Value) (n : ℕ) → HasHeader (parts_of ps) → i ≡ 0 → i < length ps → y ≡ part_value nil vs (part_of (slice_index_or ps i d)) → n ≡ length ps
    → (is_small y ≡ true) × (literals_of y + 1 ≡ n)
headed vs [] i d y n h z l e q = absurd (omega (arith, l))
headed vs (p ∷ ps) zero d y n h z l e q = rw (e, q) (header_counts vs p ps h)
headed vs (p ∷ ps) (suc i) d y n h z l e q = absurd (omega (arith, z))

-- BYTES

module _ (x : Value) (to : ℕ) (bs : List ℕ) where
  abbrev pub bytes_from : ℕ → Step Table Unit
  bytes_from i = store_bytes table x (to + i) (drop i bs)

  one_byte : (k b : ℕ) (cs : List ℕ) → store_bytes table x k (b ∷ cs) ≡ (store_byte table x k b >> store_bytes table x (suc k) cs)
  unfolding store_bytes
  one_byte k b cs = refl

  pub bytes_begin : store_bytes table x to bs ≡ bytes_from 0
  bytes_begin = let e : to ≡ to + 0 = omega arith in ap (λ k. store_bytes table x k bs) e

  pub bytes_turn : (i d : ℕ) → i < length bs → bytes_from i ≡ (store_byte table x (to + i) (slice_index_or bs i d) >> bytes_from (i + 1))
  bytes_turn i d l =
      let b = slice_index_or bs i d in
      let next : suc (to + i) ≡ to + (i + 1) = omega arith in
      ap (λ (cs : List ℕ). store_bytes table x (to + i) cs) (drop_next bs i d l)
      ∙ (one_byte (to + i) b (drop (i + 1) bs) ∙ ap (λ j. store_byte table x (to + i) b >> store_bytes table x j (drop (i + 1) bs)) next)

  pub bytes_end : (i : ℕ) → length bs ≤ i → bytes_from i ≡ answer tt
  unfolding store_bytes
  bytes_end i l = ap (λ (cs : List ℕ). store_bytes table x (to + i) cs) (drop_past bs i l)

-- OBJECTS

module _ (vs : List Value) (os : List Oop) (ns : List CodeObject) where
  abbrev pub objects_from : ℕ → Step Table Unit
  objects_from i = fill_all table nil vs (values (drop i os)) (objects_of (drop i ns))

  abbrev pub one_filled : Oop → CodeObject → Step Table Unit
  one_filled o n = fill_by table (value o) (part_values nil vs (parts_of n.fields.items)) n.bytes.items n.kind

  one_object : (o : Oop) (n : CodeObject) (ps : List Oop) (ms : List CodeObject) → fill_all table nil vs (values (o ∷ ps)) (objects_of (n ∷ ms)) ≡ (one_filled o n >> fill_all table nil vs (values ps) (objects_of ms))
  unfolding fill_all
  one_object o n ps ms = refl

  objects_turn : (i : ℕ) (o : Oop) (n : CodeObject) → i < length os → i < length ns → objects_from i ≡ (one_filled (slice_index_or os i o) (slice_index_or ns i n) >> objects_from (i + 1))
  objects_turn i o n k l =
      (λ j. fill_all table nil vs (values (drop_next os i o k j)) (objects_of (drop_next ns i n l j))) ∙ one_object (slice_index_or os i o) (slice_index_or ns i n) (drop (i + 1) os) (drop (i + 1) ns)

  pub objects_step : (i : ℕ) (o : Oop) (n : CodeObject) → i < length os → i < length ns → n ≡ slice_index_or ns i n → objects_from i ≡ (one_filled (slice_index_or os i o) n >> objects_from (i + 1))
  objects_step i o n k l e = objects_turn i o n k l ∙ ap (λ (a : CodeObject). one_filled (slice_index_or os i o) a >> objects_from (i + 1)) (sym e)

  none_left : (ps : List Oop) (ms : List CodeObject) → ms ≡ [] → fill_all table nil vs (values ps) (objects_of ms) ≡ answer tt
  unfolding fill_all
  none_left ps [] e = refl
  none_left ps (m ∷ ms) e = cc

  pub objects_end : (i : ℕ) → length ns ≤ i → objects_from i ≡ answer tt
  objects_end i l = none_left (drop i os) (drop i ns) (drop_past ns i l)

-- A METHOD

length_values : (vs : List Value) (ps : List CodePart) → length (part_values nil vs (parts_of ps)) ≡ length ps
length_values vs [] = refl
length_values vs (p ∷ ps) = ap suc (length_values vs ps)

module _ (x : Value) (vs : List Value) (ps : List CodePart) (bs : List ℕ) (v : View) (h : Goes (fill_method table x (part_values nil vs (parts_of ps)) bs) v) where
  abbrev method_fields : Step Table Unit
  method_fields = store_method_fields table x 0 (part_values nil vs (parts_of ps))

  abbrev method_bytes : Step Table Unit
  method_bytes = store_bytes table x (2 * length (part_values nil vs (parts_of ps))) bs

  both : Goes (method_fields >> method_bytes) v
  unfolding fill_method
  both = h

  pub method_goes : Goes (store_method_fields table x 0 (part_values nil vs (parts_of ps))) v
  method_goes = goes-first method_fields (λ a. method_bytes) v (goes-then method_fields method_bytes v both)

  module _ (w : View) (c : Becomes (store_method_fields table x 0 (part_values nil vs (parts_of ps))) v tt w) where
    pub method_bytes_go : Goes (store_bytes table x (2 * length ps) bs) w
    method_bytes_go =
        subst (λ n. Goes (store_bytes table x (2 * n) bs) w) (length_values vs ps)
        (goes-after method_fields (λ a. method_bytes) v (goes-then method_fields method_bytes v both) tt w c)

    pub method_filled : (u : View) → Becomes (store_bytes table x (2 * length ps) bs) w tt u → Becomes (fill_method table x (part_values nil vs (parts_of ps)) bs) v tt u
    unfolding fill_method
    method_filled u d =
        becomes-then method_fields method_bytes v tt u
        (becomes-after method_fields (λ a. method_bytes) v tt u tt w c (subst (λ n. Becomes (store_bytes table x (2 * n) bs) w tt u) (sym (length_values vs ps)) d))

-- BY KIND

module _ (x : Value) (vs : List Value) (p : CodeObject) where
  abbrev fields : List CodePart → List Value
  fields ps = part_values nil vs (parts_of ps)

  -- an object is filled with these fields and bytes as its kind says
  abbrev pub filled : Step Table Unit
  filled = fill_by table x (part_values nil vs (parts_of p.fields.items)) p.bytes.items p.kind

  by_kind : (k : Kind) → p.kind ≡ k → filled ≡ fill_by table x (fields p.fields.items) p.bytes.items k
  by_kind k e = ap (fill_by table x (fields p.fields.items) p.bytes.items) e

  pub fills_pointers : (ps : List CodePart) → ps ≡ p.fields.items → p.kind ≡ kind.Pointers → filled ≡ store_fields table x 0 (part_values nil vs (parts_of ps))
  unfolding fill_by
  fills_pointers ps a e = by_kind kind.Pointers e ∙ ap (λ (qs : List CodePart). store_fields table x 0 (fields qs)) (sym a)

  pub fills_bytes : (bs : List ℕ) → bs ≡ p.bytes.items → p.kind ≡ kind.Bytes → filled ≡ store_bytes table x 0 bs
  unfolding fill_by
  fills_bytes bs a e = by_kind kind.Bytes e ∙ ap (store_bytes table x 0) (sym a)

  pub fills_method : (ps : List CodePart) (bs : List ℕ) → ps ≡ p.fields.items → bs ≡ p.bytes.items → p.kind ≡ kind.Method → filled ≡ fill_method table x (part_values nil vs (parts_of ps)) bs
  unfolding fill_by
  fills_method ps bs a b e = by_kind kind.Method e ∙ (λ i. fill_method table x (fields (sym a i)) (sym b i))

-- EACH OF THEM

pub plannable_at : (ns : List CodeObject) (i : ℕ) (d : CodeObject) → i < length ns → AllByRecursion IsPlannable (objects_of ns) → IsPlannable (planned_of (slice_index_or ns i d))
plannable_at [] i d l h = absurd (omega (arith, l))
plannable_at (n ∷ ns) zero d l h = h.0
plannable_at (n ∷ ns) (suc i) d l h = plannable_at ns i d (omega (arith, l)) h.1

shaped_in : (t : Table) (os : List Oop) (ns : List CodeObject) (i : ℕ) (o : Oop) (d : CodeObject) → i < length os → i < length ns → AreShaped t (values os) (objects_of ns)
    → IsShaped t (value (slice_index_or os i o)) (planned_of (slice_index_or ns i d))
shaped_in t [] ns i o d k l h = absurd (omega (arith, k))
shaped_in t (p ∷ ps) [] i o d k l h = absurd (omega (arith, l))
shaped_in t (p ∷ ps) (n ∷ ns) zero o d k l h = h.0
shaped_in t (p ∷ ps) (n ∷ ns) (suc i) o d k l h = shaped_in t ps ns i o d (omega (arith, k)) (omega (arith, l)) h.1

pub shaped_at : (t u : Table) (os : List Oop) (ns : List CodeObject) (i : ℕ) (o : Oop) (d : CodeObject) → i < length os → i < length ns → AreShaped t (values os) (objects_of ns) → KeepsFields t u
    → IsShaped u (value (slice_index_or os i o)) (planned_of (slice_index_or ns i d))
shaped_at t u os ns i o d k l h keeps = λ m. keeps (value (slice_index_or os i o)) ∙ shaped_in t os ns i o d k l h m
