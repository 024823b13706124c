use Rattle.std.proofs.Common.{◌≡◌, ◌+◌, [], ◌∷◌, ◌++◌, length, take, sym, ap, ◌∙◌, subst, arith, length-append, Ok}
use Rattle.std.proofs.lemmas.Grind.{common_steps}
use Rattle.st_host.specs.declared.host.HostFault.{HostFault}
use Rattle.st_host.specs.inside.Pieces.{Pushes}
use Rattle.st_host.proofs.Pushing.{push_none, push_then}
use Rattle.st_chunk.specs.Definitions.{entry, entries}
use Rattle.st_changes.specs.inside.Views.{definition_of, definitions_of}
use Rattle.st_changes.specs.Condensing.{kept_by}
use Rattle.st_changes.proofs.ListTexts.{entries_more}
use Rattle.st_changes.proofs.Extending.{extends_cut}
use Rattle.st_changes.proofs.Superseding.{kept_none, more_kept, none_kept_at, kept_within, many_bytes}
use Rattle.st_changes.proofs.condensing.push_kept.Goals as goal
use Rattle.st_changes.proofs.condensing.push_kept.Goals.{then-stays+in_ok-entry+in_ok-push_bytes, else-stays}

pub loop-i-init : goal.loop-i-init
loop-i-init g c =
    let H = g.H.Host in
    let a = c.args.host.now in
    let p = c.args.piece.now in
    record {
      pushes = subst (λ ds. Pushes {E = HostFault} H c.args.name.now (entries ds) a a p p (Ok tt)) (sym (kept_none c.args.marks.now)) (push_none H c.args.name.now a p (λ told f s left. g.met.H.Host.only_now a f s told left));
      bytes = ap (λ ds. length (entries ds)) (sym (kept_none c.args.marks.now));
      count = ap (λ ds. length ds) (sym (kept_none c.args.marks.now));
    }

pub push_bytes-requires : goal.push_bytes-requires
push_bytes-requires g c =
    let within = kept_within c.args.marks.now c.args.listed.now c.loop-i.i c.index-listed-i.result c.loop-i-test.true c.index-listed-i.is in
    let l = ap length (c.deref.ensures.value ∙ c.in_ok-entry.ensures) in
    omega (arith, c.requires, within, l, c.loop-i.invariant.pushes.adds.end)

pub returns-in_err-push_bytes-clause-pushes : goal.returns-in_err-push_bytes-clause-pushes
returns-in_err-push_bytes-clause-pushes g c =
    extends_cut g.H.Host c.args.name.now _ (entries (kept_by c.args.marks.now (definitions_of (take c.loop-i.i c.args.listed.now)))) c.deref.result.now _ _ _ _ _ _ _ _ c.from_residual-in_err-push_bytes.ensures.0 c.loop-i.invariant.pushes c.in_err-push_bytes.ensures

pub overflow_add-bytes : goal.overflow_add-bytes
overflow_add-bytes g c =
    let within = kept_within c.args.marks.now c.args.listed.now c.loop-i.i c.index-listed-i.result c.loop-i-test.true c.index-listed-i.is in
    let l = ap length c.in_ok-entry.ensures in
    let n : c.len.result ≡ length c.in_ok-entry.entry.items = grind (arith, common_steps) in
    let b = c.loop-i.invariant.bytes in
    omega (arith, c.requires, within, l, n, b)

pub overflow_add-count : goal.overflow_add-count
overflow_add-count g c =
    let ks = kept_by c.args.marks.now (definitions_of (take c.loop-i.i c.args.listed.now)) in
    let within = kept_within c.args.marks.now c.args.listed.now c.loop-i.i c.index-listed-i.result c.loop-i-test.true c.index-listed-i.is in
    let few = many_bytes ks in
    let n = c.loop-i.invariant.count in
    let one = many_bytes (definition_of c.index-listed-i.result ∷ []) in
    let a = length-append (entry (definition_of c.index-listed-i.result)) [] in
    omega (arith, c.requires, within, few, n, one, a)

pub loop-i-preserved : goal.loop-i-preserved
loop-i-preserved g c =
    let H = g.H.Host in
    let name = c.args.name.now in
    let marks = c.args.marks.now in
    let listed = c.args.listed.now in
    let i = c.loop-i.i in
    let inv = c.loop-i.invariant in
    let ks = kept_by marks (definitions_of (take i listed)) in
    let a = c.args.host.now in
    let p = c.args.piece.now in
    elim c.if-stays.branch [
      | then-stays+in_ok-entry+in_ok-push_bytes b ↦
          let x = b.index-listed-i.result in
          let d = definition_of x in
          let more = more_kept marks listed i x c.loop-i-test.true b.index-listed-i.is (sym c.stays.ensures ∙ b.if-stays.true) in
          let text : entries (kept_by marks (definitions_of (take (i + 1) listed))) ≡ entries ks ++ entry d = ap entries more ∙ entries_more ks d in
          let is : b.deref.result.now ≡ entry d = b.deref.ensures.value ∙ b.in_ok-entry.ensures in
          let n : b.len.result ≡ length (entry d) = let o = b.in_ok-entry.entry.ok in let m = ap length b.in_ok-entry.ensures in let k = b.len.ensures in omega (arith, k, m, o) in
          let e = b.bytes-is in
          let f = b.count-is in
          let pushed = push_then H name _ (entries ks) b.deref.result.now _ _ _ _ _ _ _ inv.pushes b.in_ok-push_bytes.ensures (text ∙ ap (λ y. entries ks ++ y) (sym is)) in
          record {
            pushes = subst (λ h. Pushes {E = HostFault} H name (entries (kept_by marks (definitions_of (take (i + 1) listed)))) a h p c.if-stays.piece (Ok tt)) (sym b.host-is) (subst (λ q. Pushes {E = HostFault} H name (entries (kept_by marks (definitions_of (take (i + 1) listed)))) a b.push_bytes.new.host p q (Ok tt)) (sym b.piece-is) pushed);
            bytes = let l = ap length text ∙ length-append (entries ks) (entry d) in omega (arith, e, n, l, inv.bytes);
            count = let l = ap length more ∙ length-append ks (d ∷ []) in omega (arith, f, l, inv.count);
          }
      | else-stays b ↦
          let none = none_kept_at marks listed i c.loop-i-test.true (sym c.stays.ensures ∙ b.if-stays.false) in
          let e = b.bytes-is in
          let f = b.count-is in
          record {
            pushes = subst (λ h. Pushes {E = HostFault} H name (entries (kept_by marks (definitions_of (take (i + 1) listed)))) a h p c.if-stays.piece (Ok tt)) (sym b.host-is) (subst (λ q. Pushes {E = HostFault} H name (entries (kept_by marks (definitions_of (take (i + 1) listed)))) a c.loop-i.host p q (Ok tt)) (sym b.piece-is)
                (subst (λ ds. Pushes {E = HostFault} H name (entries ds) a c.loop-i.host p c.loop-i.piece (Ok tt)) (sym none) inv.pushes));
            bytes = let l = ap (λ ds. length (entries ds)) none in omega (arith, e, l, inv.bytes);
            count = let l = ap (λ ds. length ds) none in omega (arith, f, l, inv.count);
          }
    ]
