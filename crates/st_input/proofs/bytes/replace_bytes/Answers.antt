use Rattle.std.proofs.Common.{rules, ◌≡◌, ℕ, ◌∙◌, ◌-◌, ap}
use Rattle.std.specs.Prelude.{min}
use Rattle.st_model.specs.Values.{value, word}
use Rattle.st_model.specs.Deeds.{changed_by, bytes_replaced, bytes_from}
use Rattle.st_input.proofs.Done.{unchanged}
use Rattle.st_input.proofs.Replacing.{no_target, no_source, has_source, has_target, replaced, none_replaced}
use Rattle.st_input.proofs.bytes.replace_bytes.Goals as goal

-- how many are copied
least : (count to from size_to size_from into source room there wanted copied : ℕ) → room ≡ size_to - to → size_to ≡ into → there ≡ size_from - from → size_from ≡ source
    → wanted ≡ min count room → copied ≡ min wanted there → copied ≡ min (min count (into - to)) (source - from)
least count to from size_to size_from into source room there wanted copied a b c d e f = f ∙ (λ i. min ((e ∙ ap (min count) (a ∙ ap (λ k. k - to) b)) i) ((c ∙ ap (λ k. k - from) d) i))

pub returns-in_default : goal.returns-in_default
returns-in_default g c =
    let t = (g.M.Memory.view c.args.m.now).objects in
    unchanged (g.M.Memory.view c.args.m.now) _ _
    (no_target t (word c.args.target) c.args.to (bytes_from t (word c.args.source) c.args.from c.args.count) c.in_default.ensures.none)

pub returns-in_default-bytes_named : goal.returns-in_default-bytes_named
returns-in_default-bytes_named g c =
    unchanged (g.M.Memory.view c.args.m.now) _ _
    (no_source (g.M.Memory.view c.args.m.now).objects (word c.args.target) (word c.args.source) c.args.to c.args.from c.args.count c.in_default-bytes_named.ensures.none)

pub copy_bytes-requires : goal.copy_bytes-requires
copy_bytes-requires g c =
    let a = c.in-Some.ensures in
    let b = c.in-Some-bytes_named.ensures in
    let copied = least c.args.count c.args.to c.args.from _ _ _ _ _ _ _ _ c.saturating_sub-room.ensures c.size.ensures.size c.saturating_sub-there.ensures c.size-2.ensures.size c.min.ensures c.min-copied.ensures in
    record {
      source = has_source (g.met.M.Memory.whole c.args.m.now) (value c.in-Some.into) (value c.in-Some-bytes_named.source) c.args.to c.args.from c.args.count c.min-copied.result a.live b.live a.kind b.kind copied c.if-copied-gt0.true;
      target = has_target (g.met.M.Memory.whole c.args.m.now) (value c.in-Some.into) (value c.in-Some-bytes_named.source) c.args.to c.args.from c.args.count c.min-copied.result a.live b.live a.kind b.kind copied c.if-copied-gt0.true;
      small = search rules;
    }

pub returns-then-copied-gt0 : goal.returns-then-copied-gt0
returns-then-copied-gt0 g c =
    let a = c.in-Some.ensures in
    let b = c.in-Some-bytes_named.ensures in
    record {
      objects = c.copy_bytes.ensures.objects
          ∙ replaced (g.met.M.Memory.whole c.args.m.now) (value c.in-Some.into) (value c.in-Some-bytes_named.source) c.args.to c.args.from c.args.count c.min-copied.result a.live b.live a.kind b.kind (least c.args.count c.args.to c.args.from _ _ _ _ _ _ _ _ c.saturating_sub-room.ensures c.size.ensures.size c.saturating_sub-there.ensures c.size-2.ensures.size c.min.ensures c.min-copied.ensures)
          ∙ (λ i. changed_by (bytes_replaced c.args.to (bytes_from (g.M.Memory.view c.args.m.now).objects (b.same i) c.args.from c.args.count)) (g.M.Memory.view c.args.m.now).objects (a.same i));
      held = c.copy_bytes.ensures.held;
      head = c.copy_bytes.ensures.head;
    }

pub returns-else-copied-gt0 : goal.returns-else-copied-gt0
returns-else-copied-gt0 g c =
    let a = c.in-Some.ensures in
    let b = c.in-Some-bytes_named.ensures in
    unchanged (g.M.Memory.view c.args.m.now) _ _
    (none_replaced (g.met.M.Memory.whole c.args.m.now) (value c.in-Some.into) (value c.in-Some-bytes_named.source) c.args.to c.args.from c.args.count c.min-copied.result a.live b.live a.kind b.kind (least c.args.count c.args.to c.args.from _ _ _ _ _ _ _ _ c.saturating_sub-room.ensures c.size.ensures.size c.saturating_sub-there.ensures c.size-2.ensures.size c.min.ensures c.min-copied.ensures) c.if-copied-gt0.false
    ∙ (λ i. changed_by (bytes_replaced c.args.to (bytes_from (g.M.Memory.view c.args.m.now).objects (b.same i) c.args.from c.args.count)) (g.M.Memory.view c.args.m.now).objects (a.same i)))
