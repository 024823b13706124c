use Rattle.std.proofs.Common.{rules, ◌≡◌, Err, ◌+◌, refl, arith}
use Rattle.std.specs.Prelude.{◌-◌}
use Rattle.st_frames.proofs.Doing.{row-memory}
use Rattle.st_frames.proofs.Leaves.{leaves-died}
use Rattle.st_storage.proofs.Left.{replace-none, replace-unfetched, replace-unstored, replace-left}
use Rattle.st_storage.proofs.replacing.replace_and_answer.Goals as goal

pub returns-then-count-eq0 : goal.returns-then-count-eq0
returns-then-count-eq0 g c =
    let e : c.args.p.last + 1 - c.args.p.first ≡ 0 = omega arith in
    record { does = record { does = replace-none g.O.Objects.names g.met.O.Objects.tabular _ _ _ _ e; world = refl }; plain = refl }

pub returns-in_err-find_source : goal.returns-in_err-find_source
returns-in_err-find_source g c =
    let e : c.from_residual.result ≡ Err c.in_err-find_source.field-0.0 = search rules in
    record { does = leaves-died _ _ _ _ _ _ _ _ _ _ e refl (replace-unfetched g.O.Objects.names g.met.O.Objects.tabular _ _ _ _ _ c.in_err-find_source.ensures.does); plain = search rules }

pub returns-in_err-find_bytes : goal.returns-in_err-find_bytes
returns-in_err-find_bytes g c =
    let e : c.from_residual-in_err-find_bytes.result ≡ Err c.in_err-find_bytes.field-0.0 = search rules in
    record {
      does = leaves-died _ _ _ _ _ _ _ _ _ _ e refl (replace-unstored g.O.Objects.names g.met.O.Objects.tabular _ _ _ _ _ _ c.in_ok-find_source.ensures.does (c.in_err-find_bytes.ensures _ c.in_ok-find_source.ensures.all));
      plain = search rules;
    }

pub returns : goal.returns
returns g c = record {
  does = record {
    does = replace-left g.O.Objects.names g.met.O.Objects.tabular _ _ _ _ _ (row-memory _ _ _) c.in_ok-find_source.ensures.does (c.in_ok-find_bytes.ensures _ c.in_ok-find_source.ensures.all) (c.requires.target _ (row-memory _ _ _));
    world = refl;
  };
  plain = refl;
}
