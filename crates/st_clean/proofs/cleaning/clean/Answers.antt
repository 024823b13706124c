use Rattle.std.proofs.Common.{◌≡◌, List, Bool, true, length, sym, subst, ap, ◌∙◌}
use Rattle.st_model.specs.Objects.{one, words_of}
use Rattle.st_model.specs.Settled.{is_marked}
use Rattle.st_model.specs.Table.{total_used}
use Rattle.st_model.specs.View.{View}
use Rattle.st_model.proofs.WholeLemmas.{used_live}
use Rattle.st_writer.specs.Written.{image_of}
use Rattle.st_clean.specs.Reach.{IsReach}
use Rattle.st_clean.proofs.Cleaned.{above_none}
use Rattle.st_clean.proofs.Closed.{reach_closed, reached_used}
use Rattle.st_clean.proofs.cleaning.clean.Goals as goal

pub returns-in_err-marks-clause-writes : goal.returns-in_err-marks-clause-writes
returns-in_err-marks-clause-writes g c = above_none g.H.Host 0 c.args.name.now c.args.host.now (λ f s told left. g.met.H.Host.only_now c.args.host.now f s told left)

pub returns-in_err-needed-clause-writes : goal.returns-in_err-needed-clause-writes
returns-in_err-needed-clause-writes g c = above_none g.H.Host 0 c.args.name.now c.args.host.now (λ f s told left. g.met.H.Host.only_now c.args.host.now f s told left)

pub restricted-requires-clause-long : goal.restricted-requires-clause-long
restricted-requires-clause-long g c = ap length c.deref.ensures.value ∙ c.in_ok-marks.ensures.long

pub restricted-requires-clause-live : goal.restricted-requires-clause-live
restricted-requires-clause-live g c k marked =
    let v = g.M.Memory.view c.args.m.now in
    let in_marks : is_marked c.in_ok-marks.marks.items k ≡ true = sym (ap (λ (bs : List Bool). is_marked bs k) c.deref.ensures.value) ∙ marked in
    used_live v.objects k (reached_used v (g.met.M.Memory.whole c.args.m.now) k ((c.in_ok-marks.ensures.reach k).0 in_marks))

pub restricted-requires-clause-closed : goal.restricted-requires-clause-closed
restricted-requires-clause-closed g c =
    let v = g.M.Memory.view c.args.m.now in
    let reach = subst (λ (bs : List Bool). IsReach v.objects v.head (is_marked bs)) (sym c.deref.ensures.value) c.in_ok-marks.ensures.reach in
    reach_closed v.objects v.head (is_marked c.deref.result.now) reach

pub returns-clause-file : goal.returns-clause-file
returns-clause-file g c =
    let v = g.M.Memory.view c.args.m.now in
    let needed = g.L.Done.Memory.view c.in_ok-needed.needed in
    let is = c.in_ok-needed.ensures in
    record {
      image = image_of needed;
      cleaned = record {
        set = is_marked c.deref.result.now;
        reach = subst (λ (bs : List Bool). IsReach v.objects v.head (is_marked bs)) (sym c.deref.ensures.value) c.in_ok-marks.ensures.reach;
        is = ap image_of is;
        entries = ap (λ d. d.entries) c.used.ensures ∙ ap (λ (w : View). total_used one w.objects) is;
        words = ap (λ d. d.words) c.used.ensures ∙ ap (λ (w : View). total_used words_of w.objects) is;
      };
      written = λ told. c.in_ok-write.ensures.file told;
    }
