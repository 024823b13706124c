-- Where the names that a method sees are answered, the class's dictionary has the form that an installation asks.
use Rattle.std.proofs.Common.{ℕ, zero, suc, List, [], ◌∷◌, ◌++◌, Option, Some, None, Bool, true, false, Result, Ok, Err, refl}
use Rattle.st_model.specs.declared.dead.Dead.{Dead}
use Rattle.st_model.specs.declared.page.PageObject.{PageObject}
use Rattle.st_model.specs.declared.page.PageObject.TheVariants.{NilObject}
use Rattle.st_model.specs.Values.{Value, Small, Ref}
use Rattle.st_model.specs.Machine.{Head, State, Step, answer, die, tried, ◌>>=◌, ◌>>◌}
use Rattle.st_model.specs.Steps.{of_page, same_value, fetch_field, fetch_fields, count_fields}
use Rattle.st_model.specs.Lookup.{pointer_if, half_word}
use Rattle.st_model.specs.Table.{Table, entry, table}
use Rattle.st_scan.specs.Views.{MethodView}
use Rattle.st_emit.specs.Names.{NamesView}
use Rattle.st_scope.specs.declared.fault.InstallFault.{InstallFault}
use Rattle.st_scope.specs.declared.fault.InstallFault.TheVariants.{Shape}
use Rattle.st_scope.specs.Tables.{check_fields, bytes_of, member_named}
use Rattle.st_scope.specs.Classes.{none_if, until_nil, superclass, class_and, chain_within, chain, instance_lineage, metaclass_lineage, lineage}
use Rattle.st_scope.specs.Mentions.{mentioned_in}
use Rattle.st_scope.specs.Variables.{fields_unless, fields_or_none, name_unless, name_of, names_of, own_names, field_names, pool_unless, pool_or_none, own_pools, pools, member_if_any, or_later, association_in, shared_by, shared_names}
use Rattle.st_scope.specs.Shapes.{check_symbol_table, check_symbols}
use Rattle.st_scope.specs.Calls.{or_fault, as_table, names_seen, names}
use Rattle.st_install.proofs.GoesReading.{Gives, gives_told, gives_answer, gives_dead, gives_then, gives_next, gives_less, Any, IfAny, gives_tried, gives_page, gives_field, gives_count, IsSoundTable}
use Rattle.st_install.proofs.GoesSymbols.{gives_bytes, gives_checked, gives_member, fetch_gives}
use Rattle.st_install.proofs.GoesPlanning.{HasDictionary, gives_dictionary}

-- a step that only reads
pub record OnlyReads {A : Type 0} (s : State Table) (m : Step Table A) : Type 0 where
  pub gives : Gives s m Any

-- what holds where names are answered
abbrev pub IfSeen : Type 0 → Result NamesView InstallFault → Type 0
IfSeen P (Ok seen) = P
IfSeen P (Err f) = Unit {0}

pub or_shape : (P : Type 0) (x : Option NamesView) → IfAny (λ y. P) x → IfSeen P (or_fault Shape x)
or_shape P None h = tt
or_shape P (Some y) h = h

module _ (s : State Table) where
  answer_reads : {A : Type 0} (a : A) → OnlyReads s (answer a)
  answer_reads a = record { gives = gives_answer s Any a tt }

  dead_reads : {A : Type 0} (c : Dead) → OnlyReads s (die {A = A} c)
  dead_reads c = record { gives = gives_dead s Any c }

  then_reads : {A B : Type 0} (m : Step Table A) (f : A → Step Table B) → OnlyReads s m → ((a : A) → OnlyReads s (f a)) → OnlyReads s (m >>= f)
  then_reads m f g h = record { gives = gives_then s Any Any m f g.gives (λ a z. (h a).gives) }

  next_reads : {A B : Type 0} (m : Step Table A) (n : Step Table B) → OnlyReads s m → OnlyReads s n → OnlyReads s (m >> n)
  next_reads m n g h = record { gives = gives_next s Any Any m n g.gives (λ a z. h.gives) }

  tried_reads : {A : Type 0} (m : Step Table A) → OnlyReads s m → OnlyReads s (tried m)
  tried_reads m g = record { gives = gives_less s (tried m) _ Any (gives_tried s Any m g.gives) (λ x h. tt) }

  page_reads : (q : PageObject) → OnlyReads s (of_page table q)
  page_reads q = record { gives = gives_less s _ _ Any (gives_page s q) (λ a h. tt) }

  field_reads : (v : Value) (i : ℕ) → OnlyReads s (fetch_field table v i)
  field_reads v i = record { gives = gives_less s _ _ Any (gives_field s v i) (λ a h. tt) }

  count_reads : (v : Value) → OnlyReads s (count_fields table v)
  count_reads v = record { gives = gives_less s _ _ Any (gives_count s v) (λ a h. tt) }

  half_reads : (v : Value) → OnlyReads s (half_word table v)
  unfolding half_word
  half_reads (Small n) = answer_reads n
  half_reads (Ref n) = record { gives = gives_told s (half_word table (Ref n)) Any (pointer_if table s.memory n (entry s.memory n)) refl tt }

  none_reads : (b : Bool) (m : Step Table (List Value)) → OnlyReads s m → OnlyReads s (none_if b m)
  unfolding none_if
  none_reads true m h = answer_reads []
  none_reads false m h = h

  later_reads : (x : Option Value) (m : Step Table (Option Value)) → OnlyReads s m → OnlyReads s (or_later x m)
  unfolding or_later
  later_reads None m h = h
  later_reads (Some v) m h = answer_reads (Some v)

  module _ (sound : IsSoundTable s.memory) where
    bytes_reads : (v : Value) → OnlyReads s (bytes_of table v)
    bytes_reads v = record { gives = gives_bytes s sound v }

    checked_reads : (v : Value) (n : ℕ) → OnlyReads s (check_fields table v n)
    checked_reads v n = record { gives = gives_less s _ _ Any (gives_checked s sound v n) (λ a h. tt) }

    member_reads : (v : Value) (text : List ℕ) → OnlyReads s (member_named table v text)
    member_reads v text = record { gives = gives_less s _ _ Any (gives_member s sound v text) (λ a h. tt) }

    fields_reads : (v : Value) (i n : ℕ) → OnlyReads s (fetch_fields table v i n)
    fields_reads v i n = record { gives = gives_less s _ _ Any (fetch_gives s sound v i n) (λ a h. tt) }

    ruleset reading = (answer_reads, dead_reads, then_reads, next_reads, tried_reads, page_reads, field_reads, count_reads, half_reads, none_reads, later_reads, bytes_reads, checked_reads, member_reads, fields_reads)

    chain_reads : (least left : ℕ) (class : Value) → OnlyReads s (chain_within table least left class)
    unfolding chain_within until_nil class_and superclass
    chain_reads least zero class = search reading depth 16
    chain_reads least (suc left) class = search (reading, λ (v : Value). chain_reads least left v) depth 16

    pub lineage_reads : (class : Value) (meta : Bool) → OnlyReads s (lineage table class meta)
    unfolding lineage instance_lineage metaclass_lineage chain
    lineage_reads class false = search (reading, chain_reads) depth 16
    lineage_reads class true = search (reading, chain_reads) depth 16

    unless_reads : (v : Value) (b : Bool) → OnlyReads s (fields_unless table v b)
    unfolding fields_unless
    unless_reads v true = answer_reads []
    unless_reads v false = search reading depth 16

    name_reads : (v : Value) (b : Bool) → OnlyReads s (name_unless table v b)
    unfolding name_unless
    name_reads v true = answer_reads []
    name_reads v false = bytes_reads v

    one_name_reads : (v : Value) → OnlyReads s (name_of table v)
    unfolding name_of
    one_name_reads v = then_reads _ _ (page_reads NilObject) (λ nil. name_reads v (same_value v nil))

    names_reads : (vs : List Value) → OnlyReads s (names_of table vs)
    unfolding names_of
    names_reads [] = answer_reads []
    names_reads (v ∷ vs) = then_reads _ _ (one_name_reads v) (λ name. then_reads _ _ (names_reads vs) (λ names. answer_reads _))

    or_none_reads : (v : Value) → OnlyReads s (fields_or_none table v)
    unfolding fields_or_none
    or_none_reads v = then_reads _ _ (page_reads NilObject) (λ nil. unless_reads v (same_value v nil))

    own_reads : (class : Value) → OnlyReads s (own_names table class)
    unfolding own_names
    own_reads class = then_reads _ _ (field_reads class 4) (λ array. then_reads _ _ (or_none_reads array) (λ vs. names_reads vs))

    pub field_names_reads : (classes : List Value) → OnlyReads s (field_names table classes)
    unfolding field_names
    field_names_reads [] = answer_reads []
    field_names_reads (class ∷ classes) = then_reads _ _ (field_names_reads classes) (λ above. then_reads _ _ (own_reads class) (λ own. answer_reads _))

    pool_reads : (v : Value) (b : Bool) → OnlyReads s (pool_unless table v b)
    unfolding pool_unless
    pool_reads v true = answer_reads []
    pool_reads v false = search reading depth 16

    one_pool_reads : (v : Value) → OnlyReads s (pool_or_none table v)
    unfolding pool_or_none
    one_pool_reads v = then_reads _ _ (page_reads NilObject) (λ nil. pool_reads v (same_value v nil))

    own_pools_reads : (class : Value) → OnlyReads s (own_pools table class)
    unfolding own_pools
    own_pools_reads class =
        then_reads _ _ (field_reads class 7)
        (λ pool. then_reads _ _ (one_pool_reads pool)
        (λ own. then_reads _ _ (field_reads class 8)
        (λ array. then_reads _ _ (or_none_reads array)
        (λ shared. answer_reads _))))

    pub pools_reads : (classes : List Value) → OnlyReads s (pools table classes)
    unfolding pools
    pools_reads [] = answer_reads []
    pools_reads (class ∷ classes) = then_reads _ _ (own_pools_reads class) (λ own. then_reads _ _ (pools_reads classes) (λ above. answer_reads _))

    symbols_reads : (symbols : Option Value) → OnlyReads s (check_symbols table symbols)
    unfolding check_symbols check_symbol_table
    symbols_reads None = answer_reads tt
    symbols_reads (Some v) = search reading depth 16

    if_any_reads : (v : Value) (text : List ℕ) → OnlyReads s (member_if_any table v text)
    unfolding member_if_any
    if_any_reads v text = then_reads _ _ (tried_reads _ (member_reads v text)) (λ found. answer_reads _)

    association_reads : (tables : List Value) (text : List ℕ) → OnlyReads s (association_in table tables text)
    unfolding association_in
    association_reads [] text = answer_reads None
    association_reads (v ∷ tables) text = then_reads _ _ (if_any_reads v text) (λ found. later_reads found _ (association_reads tables text))

    shared_reads : (text : List ℕ) (x : Option Value) → OnlyReads s (shared_by table text x)
    unfolding shared_by
    shared_reads text None = answer_reads []
    shared_reads text (Some v) = search reading depth 16

    pub all_shared_reads : (tables : List Value) (texts : List (List ℕ)) → OnlyReads s (shared_names table tables texts)
    unfolding shared_names
    all_shared_reads tables [] = answer_reads []
    all_shared_reads tables (text ∷ texts) =
        then_reads _ _ (association_reads tables text)
        (λ association. then_reads _ _ (shared_reads text association)
        (λ first. then_reads _ _ (all_shared_reads tables texts) (λ others. answer_reads _)))

    seen_gives : (head : Head) (class : Value) (meta : Bool) (tree : MethodView) → Gives s (names_seen table head class meta tree) (λ x. HasDictionary s.memory class)
    unfolding names_seen
    seen_gives head class meta tree =
        gives_then s Any _ _ _ (lineage_reads class meta).gives
        (λ l z. gives_then s Any _ _ _ (field_names_reads l.owners).gives
        (λ fields y. gives_then s Any _ _ _ (pools_reads l.sharers).gives
        (λ tables x. gives_next s _ _ _ _ (gives_dictionary s sound class)
        (λ a h. gives_next s Any _ _ _ (symbols_reads head.symbols).gives
        (λ b w. gives_then s Any _ _ _ (all_shared_reads (tables ++ as_table head.globals) (mentioned_in tree.body)).gives
        (λ shared v. gives_answer s _ _ h))))))

    abbrev pub DictionaryIfOk : Value → Result NamesView InstallFault → Type 0
    DictionaryIfOk class = IfSeen (HasDictionary s.memory class)

    pub names_give : (head : Head) (class : Value) (meta : Bool) (tree : MethodView) → Gives s (names table head class meta tree) (DictionaryIfOk class)
    unfolding names
    names_give head class meta tree =
        gives_then s _ _ _ _ (gives_tried s _ _ (seen_gives head class meta tree)) (λ x h. gives_answer s (DictionaryIfOk class) _ (or_shape (HasDictionary s.memory class) x h))
