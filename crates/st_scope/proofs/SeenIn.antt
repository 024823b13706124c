-- The names that a method sees, from their parts on.
use Rattle.std.proofs.Common.{◌≡◌, ℕ, ◌*◌, ◌/◌, Bool, true, false, not, ◌||◌, List, [], ◌∷◌, ◌++◌, Option, Some, None, is_some, Result, Ok, Err, refl, sym, ap, ◌∙◌, subst, arith}
use Rattle.std.specs.Prelude.{◌%◌, ◌==◌, bytes_eq, option_map, if◌then◌else◌}
use Rattle.std.specs.Global.{Vec}
use Rattle.std.specs.BTreeMap.{BTreeMap}
use Rattle.std.specs.Map.{lookup}
use Rattle.std.specs.List.{find}
use Rattle.std.specs.Cmp.Lexicographic.{bytes_decides}
use Rattle.std.proofs.lemmas.Bool.Decides.{nat_tests}
use Rattle.std.proofs.lemmas.List.{append-nil, map-append}
use Rattle.std.proofs.lemmas.Map.Text.{is_eq-slice_cmp}
use Rattle.st_model.specs.declared.dead.Dead.{Dead}
use Rattle.st_model.specs.declared.oop.Oop.{Oop}
use Rattle.st_model.specs.Values.{Value, Small, Ref, value_of, value}
use Rattle.st_model.specs.Objects.{Object}
use Rattle.st_model.specs.Machine.{Head, State, Transition, Went, Step, tried, answer, ◌>>=◌, ◌>>◌}
use Rattle.st_model.specs.Table.{Table, table, entry}
use Rattle.st_model.specs.Lookup.{half_word, pointer_if}
use Rattle.st_model.specs.inside.Calls.{Reads, itself}
use Rattle.st_model.specs.View.{is_live, table_of}
use Rattle.st_model.proofs.Runs.{run-then, run-next, after-went, run-answer}
use Rattle.st_scan.specs.Views.{MethodView}
use Rattle.st_emit.specs.declared.names.Names.{Names}
use Rattle.st_emit.specs.Names.{NamesView, SharedName}
use Rattle.st_emit.specs.inside.NameViews.{names_view, shared_view, pointer_of}
use Rattle.st_emit.proofs.Sharing.{shared_found}
use Rattle.st_scope.specs.declared.fault.InstallFault.TheVariants as fault
use Rattle.st_scope.specs.declared.lineage.Chains.{Chains}
use Rattle.st_scope.specs.declared.unread.Unread.{Unread}
use Rattle.st_scope.specs.declared.unread.Unread.TheVariants.{Dies, OutOfMemory}
use Rattle.st_scope.specs.Calls.{as_table, names_seen, names}
use Rattle.st_scope.specs.Classes.{lineage}
use Rattle.st_scope.specs.Mentions.{mentioned_in}
use Rattle.st_scope.specs.Shapes.{check_dictionary, check_symbols}
use Rattle.st_scope.specs.Variables.{field_names, pools, association_in, shared_by, shared_names}
use Rattle.st_scope.specs.inside.Meanings.{values, values_of}
use Rattle.st_scope.specs.Texts.{found}
use Rattle.st_scope.specs.inside.Findings.{Finds, texts_of}
use Rattle.st_scope.specs.inside.Lineages.{lineage_of}
use Rattle.st_scope.specs.inside.Sought.{is_among, shared_at, AreShared}
use Rattle.st_scope.specs.inside.Alike.{SeesAlike}
use Rattle.st_scope.proofs.Finding.{then_finds}
use Rattle.st_scope.specs.inside.Seen.{AreSeen, FindsNames}

-- POINTERS

abbrev answered : ℕ → State Table → Transition (State Table) ℕ
answered n s = Went n s

half_of : (w : ℕ) (b : Bool) (s : State Table) → (w % 2 == 1) ≡ b → is_live s.memory (if b then Small (w / 2) else Ref (w / 2)) ≡ true → (half_word table (if b then Small (w / 2) else Ref (w / 2))).run s ≡ Went (w / 2) s
unfolding half_word is_live
half_of w true s e live = cc
half_of w false s e live = by (entry s.memory (w / 2)) live
  where
    by : (o : Option Object) → is_some o ≡ true → answered (pointer_if table s.memory (w / 2) o) s ≡ answered (w / 2) s
    by None f = cc
    by (Some o) f = refl

even : (w : ℕ) (b : Bool) (t : Table) → (w % 2 == 1) ≡ b → is_live t (if b then Small (w / 2) else Ref (w / 2)) ≡ true → 2 * (w / 2) ≡ w
unfolding is_live
even w true t e live = cc
even w false t e live = grind (arith, nat_tests)

module _ (o : Oop) (s : State Table) (live : is_live s.memory (value o) ≡ true) where
  half_live : (half_word table (value o)).run s ≡ Went (o.0 / 2) s
  unfolding value_of
  half_live = half_of o.0 (o.0 % 2 == 1) s refl live

  twice_half : 2 * (o.0 / 2) ≡ o.0
  unfolding value_of
  twice_half = even o.0 (o.0 % 2 == 1) s.memory refl live

-- WHAT IS SHARED, IN THE ORDER OF A TEXT

abbrev as_shared : List ℕ → Option Oop → List SharedName
as_shared text None = []
as_shared text (Some a) = record { text = text; association = a.0 } ∷ []

abbrev in_order : List (Vec ℕ × Oop) → List (List ℕ) → List SharedName
in_order entries [] = []
in_order entries (text ∷ texts) = as_shared text (shared_at entries text) ++ in_order entries texts

shared_by_it : (text : List ℕ) (x : Option Oop) (s : State Table) → ((a : Oop) → x ≡ Some a → is_live s.memory (value a) ≡ true) → (shared_by table text (found x)).run s ≡ Went (as_shared text x) s
unfolding shared_by
shared_by_it text None s live = run-answer [] s
shared_by_it text (Some a) s live =
    simp (run-then, half_live a s (live a refl), after-went, run-answer) refl ∙ ap (λ n. Went (record { text = text; association = n } ∷ []) s) (twice_half a s (live a refl))

module _ (t : Table) (tables : List Oop) (entries : List (Vec ℕ × Oop)) (live : (text : List ℕ) (a : Oop) → shared_at entries text ≡ Some a → is_live t (value a) ≡ true) where
  order_read : (texts : List (List ℕ)) → ((text : List ℕ) → is_among texts text ≡ true → Reads (association_in table (values tables) text) found t (Ok (shared_at entries text)))
      → (s : State Table) → s.memory ≡ t → (shared_names table (values tables) texts).run s ≡ Went (in_order entries texts) s
  unfolding shared_names
  order_read [] each s e = run-answer [] s
  order_read (text ∷ texts) each s e =
      let here : (association_in table (values tables) text).run s ≡ Went (found (shared_at entries text)) s = each text (first_among text texts) s e in
      let one : (shared_by table text (found (shared_at entries text))).run s ≡ Went (as_shared text (shared_at entries text)) s =
      shared_by_it text (shared_at entries text) s (λ a q. subst (λ m. is_live m (value a) ≡ true) (sym e) (live text a q)) in
      let others : (shared_names table (values tables) texts).run s ≡ Went (in_order entries texts) s = order_read texts (λ x q. each x (later_among text texts x q)) s e in
      simp (run-then, here, after-went, one, others, run-answer) refl
    where
      first_among : (text : List ℕ) (texts : List (List ℕ)) → is_among (text ∷ texts) text ≡ true
      first_among text texts = by (bytes_eq text text) ((bytes_decides text text).1 refl)
        where
          by : (b : Bool) → b ≡ true → (b || is_among texts text) ≡ true
          by true f = refl
          by false f = cc

      later_among : (text : List ℕ) (texts : List (List ℕ)) (x : List ℕ) → is_among texts x ≡ true → is_among (text ∷ texts) x ≡ true
      later_among text texts x q = by (bytes_eq text x) (is_among texts x) q
        where
          by : (a b : Bool) → b ≡ true → (a || b) ≡ true
          by true b f = refl
          by false b f = f

module _ (entries : List (Vec ℕ × Oop)) (q : List ℕ) where
  abbrev named : List SharedName → Option ℕ
  named ss = option_map (λ s. s.association) (find (λ s. bytes_eq s.text q) ss)

  ordered : (texts : List (List ℕ)) → named (in_order entries texts) ≡ (if is_among texts q then option_map pointer_of (shared_at entries q) else None)
  ordered [] = refl
  ordered (text ∷ texts) = by (shared_at entries text) (bytes_eq text q) refl (λ e. ap (shared_at entries) ((bytes_decides text q).0 e)) (is_among texts q) (ordered texts)
    where
      by : (x : Option Oop) (b : Bool) → bytes_eq text q ≡ b → (b ≡ true → x ≡ shared_at entries q) → (c : Bool) → named (in_order entries texts) ≡ (if c then option_map pointer_of (shared_at entries q) else None)
          → named (as_shared text x ++ in_order entries texts) ≡ (if (b || c) then option_map pointer_of (shared_at entries q) else None)
      by None true e f c h = none c h (sym (f refl))
        where
          none : (c : Bool) → named (in_order entries texts) ≡ (if c then option_map pointer_of (shared_at entries q) else None) → shared_at entries q ≡ None → named (in_order entries texts) ≡ option_map pointer_of (shared_at entries q)
          none true h g = h
          none false h g = h ∙ ap (option_map pointer_of) (sym g)
      by None false e f c h = h
      by (Some a) true e f c h = rw e (ap (option_map pointer_of) (f refl))
      by (Some a) false e f c h = rw e h

  found_at : option_map pointer_of (shared_at entries q) ≡ named (shared_view entries)
  found_at = ap (λ (test : List ℕ → Bool). option_map pointer_of (lookup (λ k. test k.items) entries)) (λ i x. sym (is_eq-slice_cmp q x) i) ∙ shared_found entries q

  order_found : (texts : List (List ℕ)) → (is_among texts q ≡ false → shared_at entries q ≡ None) → named (in_order entries texts) ≡ named (shared_view entries)
  order_found texts none = ordered texts ∙ (by (is_among texts q) none ∙ found_at)
    where
      by : (b : Bool) → (b ≡ false → shared_at entries q ≡ None) → (if b then option_map pointer_of (shared_at entries q) else None) ≡ option_map pointer_of (shared_at entries q)
      by true f = refl
      by false f = ap (option_map pointer_of) (sym (f refl))

-- TABLES OF THE HEAD

pub symbols_there : (w : ℕ) (h : Option Value) → table_of w ≡ h → not (w == 0) ≡ is_some h
symbols_there w h e = by (w == 0) ∙ ap is_some e
  where
    by : (b : Bool) → not b ≡ is_some (if b then None else Some (value_of w))
    by true = refl
    by false = refl

pub globals_pushed : (o : Oop) (h : Option Value) (old new : List Oop) → table_of o.0 ≡ h → (o.0 ≡ 0 → ⊥) → new ≡ old ++ o ∷ [] → values new ≡ values old ++ as_table h
globals_pushed o h old new e other pushed = ap values pushed ∙ (map-append value old (o ∷ []) ∙ ap (λ vs. values old ++ vs) (by (o.0 == 0) (grind (arith, nat_tests)) ∙ ap as_table e))
  where
    by : (b : Bool) → b ≡ false → value o ∷ [] ≡ as_table (if b then None else Some (value_of o.0))
    by true f = cc
    by false f = refl

pub no_globals : (o : Oop) (h : Option Value) (old : List Oop) → table_of o.0 ≡ h → o.0 ≡ 0 → values old ≡ values old ++ as_table h
no_globals o h old e none = sym (append-nil (values old)) ∙ ap (λ vs. values old ++ vs) (by (o.0 == 0) (grind (arith, nat_tests)) ∙ ap as_table e)
  where
    by : (b : Bool) → b ≡ true → [] ≡ as_table (if b then None else Some (value_of o.0))
    by true f = refl
    by false f = cc

-- THE NAMES

module _ (head : Head) (class : Value) (meta : Bool) (tree : MethodView) (t : Table) where
  pub all_seen : (chains : Chains) → Reads (lineage table class meta) lineage_of t (Ok chains)
      → (fields : Vec (Vec ℕ)) → Reads (field_names table (values_of chains.owners)) texts_of t (Ok fields)
      → (own : Vec Oop) → Reads (pools table (values_of chains.sharers)) values_of t (Ok own)
      → (d : Unit {0}) → Reads (check_dictionary table class) itself t (Ok d)
      → (c : Unit {0}) → Reads (check_symbols table head.symbols) itself t (Ok c)
      → (tables : List Oop) → values tables ≡ values_of own ++ as_table head.globals
      → (shared : BTreeMap (Vec ℕ) Oop) → AreShared t tables (mentioned_in tree.body) shared.entries
      → (symbols : Bool) → symbols ≡ is_some head.symbols
      → AreSeen (names_seen table head class meta tree) itself t (record { fields = fields; shared = shared; symbols = symbols })
  unfolding names_seen
  all_seen chains r1 fields r2 own r3 d r4 c r5 tables e shared are symbols q =
      let listed : NamesView = record { fields = texts_of fields; shared = in_order shared.entries (mentioned_in tree.body); symbols = is_some head.symbols } in
      let alike : SeesAlike listed (names_view (record { fields = fields; shared = shared; symbols = symbols })) =
      record { fields = refl; shared = λ x. order_found shared.entries x (mentioned_in tree.body) (are.none x); symbols = sym q } in
      record {
        listed = listed;
        reads = λ s f.
            let last : (shared_names table (values_of own ++ as_table head.globals) (mentioned_in tree.body)).run s ≡ Went (in_order shared.entries (mentioned_in tree.body)) s =
            ap (λ vs. (shared_names table vs (mentioned_in tree.body)).run s) (sym e) ∙ order_read t tables shared.entries are.live (mentioned_in tree.body) are.each s f in
            simp (run-then, run-next, r1 s f, after-went, r2 s f, r3 s f, r4 s f, r5 s f, last, run-answer) refl;
        alike = alike;
      }

-- where the walk fails
pub names_fail : (step : Step Table NamesView) (t : Table) (r : Result Names Unread) (u : Unread) → r ≡ Err u → Finds step (itself {A = NamesView}) t (Err u) → FindsNames step t r
names_fail step t r (Dies k) e h = subst (λ x. FindsNames step t x) (sym e) h
names_fail step t r OutOfMemory e h = subst (λ x. FindsNames step t x) (sym e) tt

module _ (head : Head) (class : Value) (meta : Bool) (tree : MethodView) (t : Table) where
  pub answers_seen : (ns : Names) → AreSeen (names_seen table head class meta tree) itself t ns → AreSeen (names table head class meta tree) Ok t ns
  unfolding names tried
  answers_seen ns h = record {
    listed = h.listed;
    reads = λ s e. simp (run-then, h.reads s e, after-went, run-answer) refl;
    alike = h.alike;
  }

  pub answers_shape : (k : Dead) → Reads (names_seen table head class meta tree) (itself {A = NamesView}) t (Err k) → Reads (names table head class meta tree) itself t (Ok (Err fault.Shape))
  unfolding names tried
  answers_shape k h s e = simp (run-then, h s e, after-went, run-answer) refl

  -- what comes behind the tables
  abbrev pub behind_tables : List (List ℕ) → List Value → Step Table NamesView
  behind_tables fields tables = do
    check_dictionary table class
    check_symbols table head.symbols
    shared ← shared_names table (tables ++ as_table head.globals) (mentioned_in tree.body)
    answer (record { fields = fields; shared = shared; symbols = is_some head.symbols })

  pub seen_behind : (chains : Chains) → Reads (lineage table class meta) lineage_of t (Ok chains)
      → (owners : List Oop) → owners ≡ chains.owners.items → (fields : Vec (Vec ℕ)) → Reads (field_names table (values owners)) texts_of t (Ok fields)
      → (sharers : List Oop) → sharers ≡ chains.sharers.items → (tables : Vec Oop) → Reads (pools table (values sharers)) values_of t (Ok tables)
      → (r : Result Names Unread) (u : Unread) → r ≡ Err u → Finds (behind_tables (texts_of fields) (values_of tables)) (itself {A = NamesView}) t (Err u)
      → FindsNames (names_seen table head class meta tree) t r
  unfolding names_seen
  seen_behind chains ran owners e fields k sharers d tables l r u q h =
      let named = subst (λ os. Reads (field_names table (values os)) texts_of t (Ok fields)) e k in
      let shared = subst (λ os. Reads (pools table (values os)) values_of t (Ok tables)) d l in
      names_fail _ t r u q
      (then_finds (itself {A = NamesView}) lineage_of t (Err u) _ _ chains ran
      (then_finds (itself {A = NamesView}) texts_of t (Err u) _ _ fields named (then_finds (itself {A = NamesView}) values_of t (Err u) _ _ tables shared h)))
