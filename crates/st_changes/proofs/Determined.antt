-- What bytes list, and where they are damaged, is determined.
use Rattle.std.proofs.Common.{◌≡◌, ◌⊎◌, inl, inr, ℕ, List, [], ◌∷◌, ◌++◌, length, drop, refl, sym, ap, ◌∙◌, subst, append_assoc, arith, codes}
use Rattle.std.specs.Prelude.{All}
use Rattle.std.proofs.lemmas.List.{append-nil}
use Rattle.st_chunk.specs.Texts.{mark, doubled}
use Rattle.st_chunk.specs.Groups.{header_text}
use Rattle.st_chunk.specs.Definitions.{Definition, IsDefinition, header_for, line_feed, method_part, entry, entries}
use Rattle.st_chunk.proofs.Entries.{others}
use Rattle.st_store.specs.declared.root.Root.{Root}
use Rattle.st_changes.specs.inside.Runs.{IsRun}
use Rattle.st_changes.specs.Entries.{BeginsWith}
use Rattle.st_changes.specs.Lists.{StandsAt, Lists, IsWrongEntry, IsDamaged, EndsShort}
use Rattle.st_changes.proofs.EntryTexts.{head_run, head_same, entry_head, entry_method, method_run, method_same}
use Rattle.st_changes.proofs.ListTexts.{entries_more, all_more, stands_more}
use Rattle.st_changes.proofs.Lasts.{entry_same}

-- an entry's text says no more than its header and its method's text
abbrev entry_text : List ℕ → List ℕ → List ℕ
entry_text header text = mark ∷ (doubled header ++ (mark ∷ line_feed ∷ (doubled text ++ (codes "! !" ++ line_feed ∷ []))))

-- a text begins with one definition's entry
begins_same : (d e : Definition) (text x y : List ℕ) → BeginsWith d text x → BeginsWith e text y → (d ≡ e) × (x ≡ y)
begins_same d e text x y a b =
    let head = head_same text (header_for d) (method_part d ++ x) (header_text (header_for e)) (10 ∷ (method_part e ++ y)) (entry_head d text x a)
    (head_run text (header_for e) (method_part e ++ y) (entry_head e text y b)) in
    let rest : method_part e ++ y ≡ method_part d ++ x = ap (drop 1) head.1 in
    let run : IsRun 33 (method_part d ++ x) e.text (32 ∷ 33 ∷ 10 ∷ y) = subst (λ (t : List ℕ). IsRun 33 t e.text (32 ∷ 33 ∷ 10 ∷ y)) rest (method_run (method_part e ++ y) e.text y (entry_method e y b.good)) in
    let method = method_same (method_part d ++ x) d.text x e.text (32 ∷ 33 ∷ 10 ∷ y) (entry_method d x a.good) run in
    let behind : y ≡ x = ap (drop 3) method.1 in
    let same : entry d ≡ entry e = λ i. entry_text (sym head.0 i) (sym method.0 i) in
    (entry_same d e a.good b.good same, sym behind)

good_first : (d : Definition) (ds : List Definition) → All IsDefinition (d ∷ ds) → IsDefinition d
good_first d ds all = all 0 d (omega arith)

nothing_begins : (d : Definition) (more : List ℕ) → BeginsWith d [] more → ⊥
nothing_begins d more begins = let l = ap length begins.is in absurd (omega (arith, l))

-- the right entries before what begins with none
one_before : (bs cs : List Definition) (x y : List ℕ) → All IsDefinition bs → All IsDefinition cs → ((d : Definition) (more : List ℕ) → BeginsWith d x more → ⊥) → ((d : Definition) (more : List ℕ) → BeginsWith d y more → ⊥)
    → entries bs ++ x ≡ entries cs ++ y → (bs ≡ cs) × (x ≡ y)
one_before [] [] x y a b p q e = (refl, e)
one_before [] (c ∷ cs) x y a b p q e = absurd (p c (entries cs ++ y) (record { good = good_first c cs b; is = e ∙ append_assoc (entry c) (entries cs) y }))
one_before (b ∷ bs) [] x y a c p q e = absurd (q b (entries bs ++ x) (record { good = good_first b bs a; is = sym e ∙ append_assoc (entry b) (entries bs) x }))
one_before (b ∷ bs) (c ∷ cs) x y all_b all_c p q e =
    let text : List ℕ = entries (b ∷ bs) ++ x in
    let first = begins_same b c text (entries bs ++ x) (entries cs ++ y)
    (record { good = good_first b bs all_b; is = append_assoc (entry b) (entries bs) x }) (record { good = good_first c cs all_c; is = e ∙ append_assoc (entry c) (entries cs) y }) in
    let rest = one_before bs cs x y (others b bs all_b) (others c cs all_c) p q first.1 in
    ((λ i. first.0 i ∷ rest.0 i), rest.1)

-- all are right, or one place isn't
all_or_wrong : (bytes : List ℕ) (ds : List Definition) (at : ℕ) → All IsDefinition ds → bytes ≡ entries ds → IsWrongEntry bytes at → ⊥
all_or_wrong bytes ds at good is x =
    let none = (one_before x.before ds x.behind [] x.good good x.wrong nothing_begins (sym x.is ∙ is ∙ sym (append-nil (entries ds)))).1 in
    absurd (omega (arith, ap length none, x.there))

same_entries : (bytes : List ℕ) (ds es : List Definition) → All IsDefinition ds → All IsDefinition es → bytes ≡ entries ds → bytes ≡ entries es → ds ≡ es
same_entries bytes ds es a b x y = (one_before ds es [] [] a b nothing_begins nothing_begins (append-nil (entries ds) ∙ sym x ∙ y ∙ sym (append-nil (entries es)))).0

pub same_list : (bytes : List ℕ) (base : ℕ) (ds es : List Definition) → Lists bytes base ds → Lists bytes base es → ds ≡ es
same_list bytes base ds es x y = same_entries bytes ds es x.good y.good x.is y.is

one_damaged : (bytes : List ℕ) (base at other : ℕ) → IsDamaged bytes base at → IsDamaged bytes base other → at ≡ other
one_damaged bytes base at other (inl x) (inl y) =
    x.place ∙ ap (λ (ds : List Definition). length (entries ds)) (one_before x.before y.before x.behind y.behind x.good y.good x.wrong y.wrong (sym x.is ∙ y.is)).0 ∙ sym y.place
one_damaged bytes base at other (inl x) (inr y) = absurd (all_or_wrong bytes y.ds at y.good y.is x)
one_damaged bytes base at other (inr x) (inl y) = absurd (all_or_wrong bytes x.ds other x.good x.is y)
one_damaged bytes base at other (inr x) (inr y) = x.place ∙ sym y.place

none_damaged : (bytes : List ℕ) (base at : ℕ) (ds : List Definition) → Lists bytes base ds → IsDamaged bytes base at → ⊥
none_damaged bytes base at ds l (inl x) = all_or_wrong bytes ds at l.good l.is x
none_damaged bytes base at ds l (inr y) = y.apart (subst (λ (es : List Definition). StandsAt es base) (same_entries bytes ds y.ds l.good y.good l.is y.is) l.stands)

pub one_place : (bytes : List ℕ) (root : Root) (at other : ℕ) → IsDamaged bytes root.base at ⊎ EndsShort bytes root at → IsDamaged bytes root.base other ⊎ EndsShort bytes root other → at ≡ other
one_place bytes root at other (inl x) (inl y) = one_damaged bytes root.base at other x y
one_place bytes root at other (inl x) (inr y) = absurd (none_damaged bytes root.base at y.ds y.lists x)
one_place bytes root at other (inr x) (inl y) = absurd (none_damaged bytes root.base other x.ds x.lists y)
one_place bytes root at other (inr x) (inr y) = x.place ∙ sym y.place

pub none_wrong : (bytes : List ℕ) (root : Root) (at : ℕ) (ds : List Definition) → Lists bytes root.base ds → root.length ≡ length bytes → IsDamaged bytes root.base at ⊎ EndsShort bytes root at → ⊥
none_wrong bytes root at ds l whole (inl x) = none_damaged bytes root.base at ds l x
none_wrong bytes root at ds l whole (inr y) = absurd (omega (arith, y.place, y.short, whole))

pub lists_back : (ds : List Definition) (base : ℕ) → All IsDefinition ds → StandsAt ds base → Lists (entries ds) base ds
lists_back ds base good stands = record { good = good; is = refl; stands = stands }

pub more_listed : (bytes : List ℕ) (base : ℕ) (ds : List Definition) (d : Definition) → Lists bytes base ds → IsDefinition d → Lists (bytes ++ entry d) base (ds ++ d ∷ [])
more_listed bytes base ds d l good = record {
  good = all_more ds d l.good good;
  is = ap (λ (x : List ℕ). x ++ entry d) l.is ∙ sym (entries_more ds d);
  stands = stands_more ds d base l.stands;
}
