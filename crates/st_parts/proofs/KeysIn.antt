-- Keys of values, and the names that are kept of them, one after the other.
use Rattle.std.proofs.Common.{◌≡◌, ℕ, ◌+◌, ◌<◌, ◌≤◌, Bool, true, false, List, [], ◌∷◌, length, drop, Option, Some, None, refl, sym, ap, ap₂, ◌∙◌, subst}
use Rattle.std.specs.Prelude.{slice_index_or, ◌&&◌, option_map, bytes_eq, if◌then◌else◌, Result, Ok, Err, OnOk}
use Rattle.std.specs.List.{find}
use Rattle.std.specs.Global.{Vec}
use Rattle.std.specs.Map.{lookup}
use Rattle.std.proofs.lemmas.List.{at_drop_more, drop_all}
use Rattle.std.proofs.lemmas.Map.Text.{is_eq-slice_cmp}
use Rattle.st_model.specs.declared.oop.Oop.{Oop}
use Rattle.st_model.specs.Values.{Value, value}
use Rattle.st_model.specs.Table.{Table}
use Rattle.st_scan.specs.Views.{StatementsView, no_statements}
use Rattle.st_emit.specs.Names.{NamesView, SharedName, Variable, field, shared, field_named, variable_named, or_else}
use Rattle.st_emit.specs.inside.NameViews.{pointer_of, shared_view}
use Rattle.st_emit.proofs.Sharing.{shared_found}
use Rattle.st_model.specs.Machine.{Step}
use Rattle.std.specs.BTreeMap.{BTreeMap}
use Rattle.st_emit.specs.declared.names.Names.{Names}
use Rattle.st_emit.specs.inside.NameViews.{names_view}
use Rattle.st_scope.specs.declared.fault.InstallFault.{InstallFault}
use Rattle.st_scope.specs.declared.fault.InstallFault.TheVariants as fault
use Rattle.st_scope.specs.inside.Seen.{AreSeen, AnswersNames}
use Rattle.st_scope.specs.inside.Alike.{SeesAlike}
use Rattle.st_scope.specs.inside.Meanings.{values}
use Rattle.st_scope.specs.inside.Sought.{shared_at}
use Rattle.st_parts.specs.Keys.{word_of, key_in, with_mentioned, with_keys, is_named_by, with_named, named_among, names_for}
use Rattle.st_parts.specs.inside.NamesFor.{AreNamesFor, AnswersFor}
use Rattle.st_expression_stack.specs.Names.{is_usable, is_value}
use Rattle.st_parts.specs.inside.Kept.{Keeps, KeepsIf, named_as, Says, AreKept}

-- WHAT IS MENTIONED

module _ (t : Table) (vs : List Oop) where
  abbrev pub LeftKeys : ℕ → StatementsView → Type 0
  LeftKeys i ss = with_keys t ss (values (drop i vs)) ≡ with_keys t no_statements (values vs)

  pub keys_begin : (ss : StatementsView) → ss ≡ no_statements → LeftKeys 0 ss
  keys_begin ss e = ap (λ x. with_keys t x (values vs)) e

  pub keys_next : (i : ℕ) (d : Oop) → i < length vs → (ss new : StatementsView) → LeftKeys i ss → new ≡ with_mentioned ss (key_in t (value (slice_index_or vs i d))) → LeftKeys (i + 1) new
  keys_next i d l ss new h e = ap (λ x. with_keys t x (values (drop (i + 1) vs))) e ∙ (sym (at_drop_more (λ xs. with_keys t ss (values xs)) vs i d l) ∙ h)

  pub keys_end : (i : ℕ) (ss : StatementsView) → length vs ≤ i → LeftKeys i ss → ss ≡ with_keys t no_statements (values vs)
  keys_end i ss l h = sym (ap (λ xs. with_keys t ss (values xs)) (drop_all i vs l)) ∙ h

-- WHAT IS KEPT

module _ (names : NamesView) (t : Table) (vs : List Oop) where
  -- what is kept so far, behind which what is left gives what the whole gives
  pub record LeftKept (i : ℕ) (entries : List (Vec ℕ × Oop)) : Type 0 where
    pub done : List SharedName
    pub left : named_among names t done (values (drop i vs)) ≡ named_among names t [] (values vs)
    pub says : Says done entries

  pub kept_begin : (entries : List (Vec ℕ × Oop)) → entries ≡ [] → LeftKept 0 entries
  kept_begin entries e = record { done = []; left = refl; says = λ text. ap (λ es. option_map pointer_of (shared_at es text)) e }

  pub kept_end : (i : ℕ) (entries : List (Vec ℕ × Oop)) → length vs ≤ i → LeftKept i entries → AreKept names t (values vs) entries
  kept_end i entries l h text = h.says text ∙ ap (λ ss. named_as ss text) (sym (ap (λ xs. named_among names t h.done (values xs)) (drop_all i vs l)) ∙ h.left)

  module _ (i : ℕ) (d : Oop) (l : i < length vs) (entries : List (Vec ℕ × Oop)) (h : LeftKept i entries) where
    abbrev this : Value
    this = value (slice_index_or vs i d)

    turn : (b : Bool) → is_named_by names (key_in t this) (word_of this) ≡ b → named_among names t (if b then with_named (key_in t this) (word_of this) h.done else h.done) (values (drop (i + 1) vs)) ≡ named_among names t [] (values vs)
    turn b e =
        ap (λ (c : Bool). named_among names t (if c then with_named (key_in t this) (word_of this) h.done else h.done) (values (drop (i + 1) vs))) (sym e)
        ∙ (sym (at_drop_more (λ xs. named_among names t h.done (values xs)) vs i d l) ∙ h.left)

    pub kept_passed : is_named_by names (key_in t this) (word_of this) ≡ false → LeftKept (i + 1) entries
    kept_passed e = record { done = h.done; left = turn false e; says = h.says }

    more : (key : Option (List ℕ)) (v : Oop) (new : List (Vec ℕ × Oop)) → Keeps key v entries new → Says (with_named key v.0 h.done) new
    more None v new k text = ap (λ es. option_map pointer_of (shared_at es text)) k ∙ h.says text
    more (Some key) v new k text = ap (option_map pointer_of) (k text) ∙ by (bytes_eq key text)
      where
        by : (b : Bool) → option_map pointer_of (if b then Some v else shared_at entries text) ≡ option_map (λ (s : SharedName). s.association) (if b then Some (record { text = key; association = v.0 }) else find (λ s. bytes_eq s.text text) h.done)
        by true = refl
        by false = h.says text

    pub kept_more : (v : Oop) (new : List (Vec ℕ × Oop)) → v.0 ≡ word_of this → is_named_by names (key_in t this) (word_of this) ≡ true → Keeps (key_in t this) v entries new → LeftKept (i + 1) new
    kept_more v new w e k = record {
      done = with_named (key_in t this) v.0 h.done;
      left = ap (λ p. named_among names t (with_named (key_in t this) p h.done) (values (drop (i + 1) vs))) w ∙ turn true e;
      says = more (key_in t this) v new k;
    }

    -- one value more, by its pointer
    pub kept_turn : (v : Oop) (new : List (Vec ℕ × Oop)) → value v ≡ this → v.0 ≡ word_of this → KeepsIf (is_named_by names (key_in t (value v)) v.0) (key_in t (value v)) v entries new → LeftKept (i + 1) new
    kept_turn v new e w k = by (is_named_by names (key_in t this) (word_of this)) refl (subst (λ x. KeepsIf (is_named_by names (key_in t x) (word_of this)) (key_in t x) v entries new) e (subst (λ p. KeepsIf (is_named_by names (key_in t (value v)) p) (key_in t (value v)) v entries new) w k))
      where
        by : (b : Bool) → is_named_by names (key_in t this) (word_of this) ≡ b → KeepsIf b (key_in t this) v entries new → LeftKept (i + 1) new
        by true f k = kept_more v new w f k
        by false f k = subst LeftKept_next (sym k) (kept_passed f)
          where
            LeftKept_next : List (Vec ℕ × Oop) → Type 0
            LeftKept_next es = LeftKept (i + 1) es

-- NAMES THAT TELL NO TEXT APART

pub found_at : (entries : List (Vec ℕ × Oop)) (q : List ℕ) → option_map pointer_of (shared_at entries q) ≡ named_as (shared_view entries) q
found_at entries q = ap (λ (test : List ℕ → Bool). option_map pointer_of (lookup (λ k. test k.items) entries)) (λ i x. sym (is_eq-slice_cmp q x) i) ∙ shared_found entries q

module _ (a b : NamesView) (alike : SeesAlike a b) where
  same_variable : (text : List ℕ) → variable_named a [] text ≡ variable_named b [] text
  same_variable text =
      ap₂ (λ (x y : Option ℕ). or_else (option_map field x) (option_map shared y))
      (ap (λ (fs : List (List ℕ)). field_named (record { fields = fs; shared = []; symbols = true }) text) alike.fields) (alike.shared text)

  pub same_named : (key : Option (List ℕ)) (p : ℕ) → is_named_by a key p ≡ is_named_by b key p
  same_named None p = refl
  same_named (Some key) p = ap (λ (x : Option Variable). is_usable key && is_value x p) (same_variable key)

  same_among : (t : Table) (ss : List SharedName) (vs : List Value) → named_among a t ss vs ≡ named_among b t ss vs
  same_among t ss [] = refl
  same_among t ss (v ∷ vs) =
      ap (λ (c : Bool). named_among a t (if c then with_named (key_in t v) (word_of v) ss else ss) vs) (same_named (key_in t v) (word_of v))
      ∙ same_among t (if is_named_by b (key_in t v) (word_of v) then with_named (key_in t v) (word_of v) ss else ss) vs

  pub alike_for : (t : Table) (vs : List Value) → SeesAlike (names_for t vs a) (names_for t vs b)
  alike_for t vs = record { fields = alike.fields; shared = λ text. ap (λ ss. named_as ss text) (same_among t [] vs); symbols = alike.symbols }

pub alike_then : (a b c : NamesView) → SeesAlike a b → SeesAlike b c → SeesAlike a c
alike_then a b c h k = record { fields = h.fields ∙ k.fields; shared = λ text. h.shared text ∙ k.shared text; symbols = h.symbols ∙ k.symbols }

-- ONE VALUE

module _ (names : NamesView) (key read : Option (List ℕ)) (v : Oop) (old : List (Vec ℕ × Oop)) where
  pub keeps_named : {E : Type 0} (new : List (Vec ℕ × Oop)) (r : Result (Unit {0}) E) → is_named_by names read v.0 ≡ true → read ≡ key → OnOk r (Keeps read v old new) → OnOk r (KeepsIf (is_named_by names key v.0) key v old new)
  keeps_named new (Ok u) e q h = subst (λ b. KeepsIf b key v old new) (sym (ap (λ k. is_named_by names k v.0) (sym q) ∙ e)) (subst (λ k. Keeps k v old new) q h)
  keeps_named new (Err f) e q h = h

  pub keeps_other : is_named_by names read v.0 ≡ false → read ≡ key → KeepsIf (is_named_by names key v.0) key v old old
  keeps_other e q = subst (λ b. KeepsIf b key v old old) (sym (ap (λ k. is_named_by names k v.0) (sym q) ∙ e)) refl

-- THE NAMES OF A METHOD

pub kept_alike : (names : Names) (t : Table) (vs : List Value) (map : BTreeMap (Vec ℕ) Oop) → AreKept (names_view names) t vs map.entries
    → SeesAlike (names_for t vs (names_view names)) (names_view (record { fields = names.fields; shared = map; symbols = names.symbols }))
kept_alike names t vs map h = record { fields = refl; shared = λ text. sym (h text) ∙ found_at map.entries text; symbols = refl }

-- those that were seen, once none is left but what names a literal
pub seen_for : (vs : List Value) (step : Step Table (Result NamesView InstallFault)) (t : Table) (seen names : Names) → AreSeen step Ok t seen
    → SeesAlike (names_for t vs (names_view seen)) (names_view names) → AreNamesFor vs step Ok t names
seen_for vs step t seen names h k = record {
  listed = h.listed;
  reads = h.reads;
  alike = alike_then (names_for t vs h.listed) (names_for t vs (names_view seen)) (names_view names) (alike_for h.listed (names_view seen) h.alike t vs) k;
}

pub fault_for : (vs : List Value) (step : Step Table (Result NamesView InstallFault)) (t : Table) (f : InstallFault) → AnswersNames step t (Err f) → AnswersFor vs step t (Err f)
fault_for vs step t fault.NoClass h = h
fault_for vs step t fault.NoGlobals h = h
fault_for vs step t (fault.NoRoom d) h = h
fault_for vs step t fault.Shape h = h
fault_for vs step t fault.OutOfMemory h = tt
