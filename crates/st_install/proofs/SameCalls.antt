-- The calls that read, over births and over a table that shows them: they answer the same, and change nothing.
use Rattle.std.proofs.Common.{◌≡◌, ℕ, List, [], ◌∷◌, Option, Some, None, Bool, true, false, Result, Ok, Err, refl, ap, ◌∙◌, is_some}
use Rattle.st_model.specs.declared.demand.Demand.{Demand}
use Rattle.st_model.specs.Values.{Value, renamed, AllLive}
use Rattle.st_model.specs.Machine.{Head, State, Transition, Died, Went, Step, answer, after, ◌>>=◌, or_left, tried, used, is_over, table_root, head_roots}
use Rattle.st_model.specs.Births.{Births, births}
use Rattle.st_model.specs.Table.{Table, table}
use Rattle.st_model.proofs.Names.{all_append}
use Rattle.st_simulation.proofs.Same.{IsLiveOption, no_values-named}
use Rattle.st_simulation.proofs.HeapsSame.{same_used}
use Rattle.st_simulation.proofs.Started.{naming, heaps_start}
use Rattle.st_scan.specs.Views.{MethodView}
use Rattle.st_code.specs.Methods.{PartsView}
use Rattle.st_scope.specs.declared.fault.InstallFault.{InstallFault}
use Rattle.st_scope.specs.declared.fault.InstallFault.TheVariants.{NoClass, NoRoom}
use Rattle.st_install.specs.Plans.{NewObject, Plan, words_of_all, demand_of_all}
use Rattle.st_scope.specs.Calls.{or_fault, class_among, class_of_name, as_table, names_seen, names}
use Rattle.st_install.specs.Calls.{both, is_crowded, room_or, with_room, planned_for, planned, ready}
use Rattle.st_install.specs.inside.SamePlans.{renamed_objects, renamed_plan, renamed_class, IsLiveClass, renamed_ready, IsLiveReady, as_it_was, IsNameless}
use Rattle.st_install.specs.inside.Same.{AnswersAlike, HasHeader, ClassShows, NamesShow, ReadyShows}
use Rattle.st_install.proofs.SameReads.{Shown, lives, name, TransitionAlike, Alike, ValueAlike, ValuesAlike, OptionalAlike, AlikeAnswer, IsLiveAny, any_renamed, then-alike, then_value-alike, then_option-alike, then_answer-alike, answer-alike, tried-alike, tried_value-alike, joins_alike}
use Rattle.st_install.proofs.SameSteps.{reads_alike, value_or_die-alike}
use Rattle.st_install.proofs.SameTables.{class_association-alike, class_named-alike, lineage-alike, then_lineage-alike}
use Rattle.st_install.proofs.SameNames.{append-alike, field_names-alike, pools-alike, shared_names-alike, check_dictionary-alike, check_symbols-alike}
use Rattle.st_install.proofs.SameParts.{length-parts, length-objects}
use Rattle.st_install.proofs.SamePlanning.{PlanLive, AlikePlan, plan-alike}

-- A STEP THAT GOES ON from each state

pub record Goes {H A : Type 0} (m : Step H A) : Type 0 where
  pub go : (s : State H) → (a : A) × (t : State H) × (m.run s ≡ Went a t)

module _ {H : Type 0} where
  answer-goes : {A : Type 0} (a : A) → Goes {H = H} (answer a)
  unfolding answer
  answer-goes a = record { go = λ s. (a, s, refl) }

  left_goes : {A : Type 0} (s : State H) (o : Transition (State H) A) → (a : Option A) × (t : State H) × (or_left s o ≡ Went a t)
  left_goes s (Died cause) = (None, s, refl)
  left_goes s (Went a t) = (Some a, t, refl)

  tried-goes : {A : Type 0} (m : Step H A) → Goes (tried m)
  unfolding tried
  tried-goes m = record { go = λ s. left_goes s (m.run s) }

  then-goes : {A B : Type 0} (m : Step H A) (f : A → Step H B) → Goes m → ((a : A) → Goes (f a)) → Goes (m >>= f)
  unfolding ◌>>=◌ after
  then-goes m f h k = record { go = λ s. let r = h.go s in let q = (k r.0).go r.1 in (q.0, q.1, rw r.2 q.2) }

-- what goes on over births, and is alike over the table, answers the same
module _ {A : Type 0} (z : Shown) (P : A → Type 0) (alive : (ℕ → Type 0) → A → Type 0) (written : (ℕ → ℕ) → A → A) (m : Step Births A) (n : Step Table A)
    (weaker : (a : A) → P a → alive (lives z) a) where
  answered_so : (o : Transition (State Births) A) (p : Transition (State Table) A) (a : A) (u : State Births) → m.run z.births ≡ o → n.run z.table ≡ p → o ≡ Went a u → TransitionAlike z P (written (name z)) o p
      → AnswersAlike alive written n m z.table z.births
  answered_so (Died k) p a u e f g h = cc
  answered_so (Went b t) (Died k) a u e f g h = absurd h
  answered_so (Went b t) (Went x d) a u e f g h = record {
    answer = b;
    born = rw e (rw h.2 refl);
    shown = rw f (rw (h.1, h.3) refl);
    kept = weaker b h.0;
  }

  answered : Alike z P (written (name z)) m n → Goes m → AnswersAlike alive written n m z.table z.births
  answered h g = let r = g.go z.births in answered_so (m.run z.births) (n.run z.table) r.0 r.1 refl refl r.2 h.go

module _ (z : Shown) where
  -- THE HEAD

  option_live : (a : Option Value) → AllLive (lives z) (table_root a) → IsLiveOption (lives z) a
  option_live None h = tt
  option_live (Some v) h = h.0

  head_live : AllLive (lives z) (table_root z.births.head.globals) × AllLive (lives z) (table_root z.births.head.symbols)
  head_live =
      let r = z.shows.roots.1.1.1.1 in
      let a = all_append (lives z) (head_roots z.births.head) _ r in
      all_append (lives z) (table_root z.births.head.globals) (table_root z.births.head.symbols) a.0

  globals-alike : OptionalAlike z z.births.head.globals z.table.head.globals
  globals-alike = record { live = option_live z.births.head.globals head_live.0; is = ap (λ (a : Head). a.globals) z.shows.head }

  symbols-alike : OptionalAlike z z.births.head.symbols z.table.head.symbols
  symbols-alike = record { live = option_live z.births.head.symbols head_live.1; is = ap (λ (a : Head). a.symbols) z.shows.head }

  -- CLASS

  class_among-alike : (a b : Option Value) (text : List ℕ) (meta : Bool) → OptionalAlike z a b → Alike z (IsLiveClass (lives z)) (renamed_class (name z)) (class_among births a text meta) (class_among table b text meta)
  unfolding class_among
  class_among-alike None b text meta h = rw h.is (answer-alike z _ _ _ _ tt refl)
  class_among-alike (Some v) b text meta h =
      rw h.is (then_option-alike z _ _ _ _ _ _ (tried_value-alike z _ _ (class_named-alike z v (renamed (name z) v) text meta (record { live = h.live; is = refl }))) fault_or)
    where
      fault_or : (x y : Option Value) → OptionalAlike z x y → Alike z (IsLiveClass (lives z)) (renamed_class (name z)) (answer (or_fault NoClass x)) (answer (or_fault NoClass y))
      fault_or None y k = rw k.is (answer-alike z _ _ _ _ tt refl)
      fault_or (Some x) y k = rw k.is (answer-alike z _ _ _ _ k.live refl)

  class_among-goes : (a : Option Value) (text : List ℕ) (meta : Bool) → Goes (class_among births a text meta)
  unfolding class_among
  class_among-goes None text meta = answer-goes _
  class_among-goes (Some v) text meta = then-goes _ _ (tried-goes _) (λ x. answer-goes _)

  class_of_name-alike : (text : List ℕ) (meta : Bool) → AnswersAlike IsLiveClass renamed_class (class_of_name table z.table.head text meta) (class_of_name births z.births.head text meta) z.table z.births
  unfolding class_of_name
  class_of_name-alike text meta = answered z (IsLiveClass (lives z)) IsLiveClass renamed_class _ _ (λ a h. h) (class_among-alike _ _ text meta globals-alike) (class_among-goes _ text meta)

  -- NAMES

  as_table-alike : (a b : Option Value) → OptionalAlike z a b → ValuesAlike z (as_table a) (as_table b)
  as_table-alike None b h = rw h.is (no_values-named _ _)
  as_table-alike (Some v) b h = rw h.is (record { live = (h.live, tt); is = refl })

  some-same : (a b : Option Value) → OptionalAlike z a b → is_some b ≡ is_some a
  some-same None b h = rw h.is refl
  some-same (Some v) b h = rw h.is refl

  names_seen-alike : (v w : Value) (meta : Bool) (tree : MethodView) → ValueAlike z v w → AlikeAnswer z (names_seen births z.births.head v meta tree) (names_seen table z.table.head w meta tree)
  unfolding names_seen
  names_seen-alike v w meta tree h =
      let g = as_table-alike z.births.head.globals z.table.head.globals globals-alike in
      let s = symbols-alike in
      let e = some-same z.births.head.symbols z.table.head.symbols s in
      rw e (then_lineage-alike z _ _ _ _ _ _ (lineage-alike z v w meta h) (λ a b o p. search (reads_alike, append-alike, field_names-alike, pools-alike, check_dictionary-alike, check_symbols-alike, shared_names-alike) depth 24 fits 4000))

  names-alike : (v w : Value) (meta : Bool) (tree : MethodView) → ValueAlike z v w → AlikeAnswer z (names births z.births.head v meta tree) (names table z.table.head w meta tree)
  unfolding names
  names-alike v w meta tree h = search (joins_alike, names_seen-alike) depth 16 fits 4000

  names-goes : (v : Value) (meta : Bool) (tree : MethodView) → Goes (names births z.births.head v meta tree)
  unfolding names
  names-goes v meta tree = then-goes _ _ (tried-goes _) (λ x. answer-goes _)

  pub names-answered : (v w : Value) (meta : Bool) (tree : MethodView) → ValueAlike z v w
      → AnswersAlike IsNameless as_it_was (names table z.table.head w meta tree) (names births z.births.head v meta tree) z.table z.births
  names-answered v w meta tree h = answered z (λ a. Unit {0}) IsNameless as_it_was _ _ (λ a l. tt) (names-alike v w meta tree h) (names-goes v meta tree)

  -- READY

  words-same : (os : List NewObject) → words_of_all (renamed_objects (name z) os) ≡ words_of_all os
  words-same [] = refl
  words-same (o ∷ os) = rw (length-parts (name z) o.fields, words-same os) refl

  demand-same : (os : List NewObject) → demand_of_all (renamed_objects (name z) os) ≡ demand_of_all os
  demand-same os = rw (length-objects (name z) os, words-same os) refl

  used-same : used table z.table.memory ≡ used births z.births.memory
  used-same = same_used (naming z.table z.births z.shows) z.births.memory z.table.memory (heaps_start z.table z.births z.shows)

  over-same : (d : Demand) → is_over d z.table.head ≡ is_over d z.births.head
  over-same d = ap (λ (a : Head). is_over d a) z.shows.head

  is_crowded-alike : (d : Demand) → AlikeAnswer z (is_crowded births z.births.head d) (is_crowded table z.table.head d)
  unfolding is_crowded
  is_crowded-alike d = record { go = (tt, ap (λ u. is_over (both u d) z.table.head) used-same ∙ over-same (both (used births z.births.memory) d), refl, refl) }

  -- a plan that is ready, whose objects have their forms, or why there is none
  abbrev pub ReadyLive : Result Plan InstallFault → Type 0
  ReadyLive (Ok p) = PlanLive (lives z) p
  ReadyLive (Err fault) = Unit {0}

  abbrev pub AlikeReady : Step Births (Result Plan InstallFault) → Step Table (Result Plan InstallFault) → Type 0
  AlikeReady m n = Alike z ReadyLive (renamed_ready (name z)) m n

  room_or-alike : (p : Plan) (b : Bool) → PlanLive (lives z) p → AlikeReady (answer (room_or p b)) (answer (room_or (renamed_plan (name z) p) b))
  room_or-alike p true h = answer-alike z _ _ _ _ tt (ap (λ d. Err (NoRoom d)) (demand-same p.objects))
  room_or-alike p false h = answer-alike z _ _ _ _ h refl

  with_room-alike : (a : Option Plan) → IsLiveAny (PlanLive (lives z)) a → AlikeReady (with_room births z.births.head a) (with_room table z.table.head (any_renamed (renamed_plan (name z)) a))
  unfolding with_room
  with_room-alike None h = answer-alike z _ _ _ _ tt refl
  with_room-alike (Some p) h =
      rw (demand-same p.objects) (then_answer-alike z _ _ _ _ _ _ (is_crowded-alike (demand_of_all p.objects)) (λ b. room_or-alike p b h))

  planned-alike : (v w : Value) (text : List ℕ) (meta : Bool) (parts : PartsView) → ValueAlike z v w → HasHeader parts
      → AlikePlan z (planned births z.births.head v text meta parts) (planned table z.table.head w text meta parts)
  unfolding planned planned_for
  planned-alike v w text meta parts h e =
      let g = globals-alike in
      let s = symbols-alike in
      then_value-alike z _ _ _ _ _ _ (value_or_die-alike z _ _ _ g)
      (λ a b ha.
      then_value-alike z _ _ _ _ _ _ (class_association-alike z a b text ha)
      (λ c d hc. then_value-alike z _ _ _ _ _ _ (value_or_die-alike z _ _ _ s) (λ t u ht. plan-alike z t u c d v w meta parts ht hc h e)))

  pub ready-alike : (v w : Value) (text : List ℕ) (meta : Bool) (parts : PartsView) → ValueAlike z v w → HasHeader parts
      → AlikeReady (ready births z.births.head v text meta parts) (ready table z.table.head w text meta parts)
  unfolding ready
  ready-alike v w text meta parts h e = then-alike z _ _ _ _ _ _ _ _ (tried-alike z _ _ _ _ (planned-alike v w text meta parts h e)) with_room-alike

  is_crowded-goes : (d : Demand) → Goes (is_crowded births z.births.head d)
  unfolding is_crowded
  is_crowded-goes d = record { go = λ s. (_, s, refl) }

  with_room-goes : (a : Option Plan) → Goes (with_room births z.births.head a)
  unfolding with_room
  with_room-goes None = answer-goes _
  with_room-goes (Some p) = then-goes _ _ (is_crowded-goes _) (λ b. answer-goes _)

  ready-goes : (v : Value) (text : List ℕ) (meta : Bool) (parts : PartsView) → Goes (ready births z.births.head v text meta parts)
  unfolding ready
  ready-goes v text meta parts = then-goes _ _ (tried-goes _) with_room-goes

  ready_live : (a : Result Plan InstallFault) → ReadyLive a → IsLiveReady (lives z) a
  ready_live (Ok p) h = h.is
  ready_live (Err fault) h = tt

  pub ready-answered : (v w : Value) (text : List ℕ) (meta : Bool) (parts : PartsView) → ValueAlike z v w → HasHeader parts
      → AnswersAlike IsLiveReady renamed_ready (ready table z.table.head w text meta parts) (ready births z.births.head v text meta parts) z.table z.births
  ready-answered v w text meta parts h e = answered z ReadyLive IsLiveReady renamed_ready _ _ ready_live (ready-alike v w text meta parts h e) (ready-goes v text meta parts)

-- THE LAWS

pub class_shows : ClassShows
class_shows text meta c s w = class_of_name-alike (record { table = c; births = s; shows = w }) text meta

pub names_show : NamesShow
names_show v meta tree c s w k = names-answered (record { table = c; births = s; shows = w }) v _ meta tree (record { live = k; is = refl })

pub ready_shows : ReadyShows
ready_shows v text meta parts c s w k e = ready-answered (record { table = c; births = s; shows = w }) v _ text meta parts (record { live = k; is = refl }) e
