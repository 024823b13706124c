use Rattle.std.proofs.Common.{Ok, Err, refl, ap, ◌∙◌, subst, rules}
use Rattle.st_model.specs.Values.{value}
use Rattle.st_model.specs.Machine.{◌>>◌}
use Rattle.st_model.specs.Table.{table}
use Rattle.st_model.specs.inside.Calls.{Reads, itself}
use Rattle.st_scan.specs.Views.{method_view}
use Rattle.st_emit.specs.Names.{NamesView}
use Rattle.st_scope.specs.declared.unread.Unread.TheVariants.{Dies}
use Rattle.st_scope.specs.Calls.{names_seen}
use Rattle.st_scope.specs.Mentions.{mentioned_in}
use Rattle.st_scope.specs.Variables.{field_names, pools}
use Rattle.st_scope.specs.inside.Meanings.{values, values_of}
use Rattle.st_scope.specs.inside.Findings.{Finds, texts_of}
use Rattle.st_scope.specs.inside.Lineages.{lineage_of}
use Rattle.st_scope.specs.inside.Walks.{mentions_of}
use Rattle.st_scope.specs.inside.Sought.{AreShared}
use Rattle.st_scope.proofs.Finding.{first_dies, first_fails, then_finds}
use Rattle.st_scope.proofs.SeenIn.{all_seen, names_fail, seen_behind}
use Rattle.st_scope.proofs.naming.names_seen.Goals as goal

pub returns-in_err-chains : goal.returns-in_err-chains
unfolding names_seen
returns-in_err-chains g c =
    let u = c.in_err-chains.field-0.0 in
    names_fail _ _ _ u (search rules) (first_fails (itself {A = NamesView}) lineage_of _ (Err u) _ _ u refl c.in_err-chains.ensures)

pub returns-in_err-fields : goal.returns-in_err-fields
unfolding names_seen
returns-in_err-fields g c =
    let u = c.in_err-fields.field-0.0 in
    let t = (g.M.Memory.view c.args.m.now).objects in
    let fails = subst (λ os. Finds (field_names table (values os)) texts_of t (Err u)) c.deref.ensures.value c.in_err-fields.ensures in
    names_fail _ _ _ u (search rules)
    (then_finds (itself {A = NamesView}) lineage_of _ (Err u) _ _ c.in_ok-chains.chains c.in_ok-chains.ensures (first_fails (itself {A = NamesView}) texts_of _ (Err u) _ _ u refl fails))

pub returns-in_err-tables : goal.returns-in_err-tables
unfolding names_seen
returns-in_err-tables g c =
    let u = c.in_err-tables.field-0.0 in
    let t = (g.M.Memory.view c.args.m.now).objects in
    let fields = subst (λ os. Reads (field_names table (values os)) texts_of t (Ok c.in_ok-fields.fields)) c.deref.ensures.value c.in_ok-fields.ensures in
    let fails = subst (λ os. Finds (pools table (values os)) values_of t (Err u)) c.deref-2.ensures.value c.in_err-tables.ensures in
    names_fail _ _ _ u (search rules)
    (then_finds (itself {A = NamesView}) lineage_of _ (Err u) _ _ c.in_ok-chains.chains c.in_ok-chains.ensures
    (then_finds (itself {A = NamesView}) texts_of _ (Err u) _ _ c.in_ok-fields.fields fields (first_fails (itself {A = NamesView}) values_of _ (Err u) _ _ u refl fails)))

pub returns-in_err-check_dictionary : goal.returns-in_err-check_dictionary
unfolding ◌>>◌
returns-in_err-check_dictionary g c =
    let k = c.in_err-check_dictionary.field-0.0 in
    seen_behind _ _ _ _ _ c.in_ok-chains.chains c.in_ok-chains.ensures _ c.deref.ensures.value c.in_ok-fields.fields c.in_ok-fields.ensures _ c.deref-2.ensures.value c.in_ok-tables.tables c.in_ok-tables.ensures _ (Dies k) (search rules)
    (first_dies (itself {A = NamesView}) (itself {A = Unit {0}}) _ (Err (Dies k)) _ _ k refl c.in_err-check_dictionary.ensures)

pub returns-in_err-check_symbols : goal.returns-in_err-check_symbols
unfolding ◌>>◌
returns-in_err-check_symbols g c =
    let k = c.in_err-check_symbols.field-0.0 in
    seen_behind _ _ _ _ _ c.in_ok-chains.chains c.in_ok-chains.ensures _ c.deref.ensures.value c.in_ok-fields.fields c.in_ok-fields.ensures _ c.deref-2.ensures.value c.in_ok-tables.tables c.in_ok-tables.ensures _ (Dies k) (search rules)
    (then_finds (itself {A = NamesView}) (itself {A = Unit {0}}) _ (Err (Dies k)) _ _ c.in_ok-check_dictionary.field-0 c.in_ok-check_dictionary.ensures
    (first_dies (itself {A = NamesView}) (itself {A = Unit {0}}) _ (Err (Dies k)) _ _ k refl c.in_err-check_symbols.ensures))

pub returns : goal.returns
returns g c =
    let v = g.M.Memory.view c.args.m.now in
    let t = v.objects in
    let texts = mentioned_in (method_view c.args.t.now).body in
    let entries = c.in_ok-shared.shared.entries in
    let fields = subst (λ os. Reads (field_names table (values os)) texts_of t (Ok c.in_ok-fields.fields)) c.deref.ensures.value c.in_ok-fields.ensures in
    let tables = subst (λ os. Reads (pools table (values os)) values_of t (Ok c.in_ok-tables.tables)) c.deref-2.ensures.value c.in_ok-tables.ensures in
    let listed = subst (λ names. AreShared t c.deref-3.result.now names entries) (ap mentions_of c.deref-4.ensures.value ∙ c.in_ok-mentions.ensures) c.in_ok-shared.ensures in
    let shared = subst (λ os. AreShared t os texts entries) c.deref-3.ensures.value listed in
    all_seen v.head (value c.args.class) c.args.meta (method_view c.args.t.now) t c.in_ok-chains.chains c.in_ok-chains.ensures c.in_ok-fields.fields fields c.in_ok-tables.tables tables
    c.in_ok-check_dictionary.field-0 c.in_ok-check_dictionary.ensures c.in_ok-check_symbols.field-0 c.in_ok-check_symbols.ensures c.push_globals.new.tables.items c.in_ok-push_globals.ensures
    c.in_ok-shared.shared shared c.has_symbols.result c.has_symbols.ensures
