use Rattle.std.proofs.Common.{sym, ◌∙◌}
use Rattle.st_session.specs.declared.making.Origin.TheVariants as origin
use Rattle.st_session.specs.Builds.{Builds}
use Rattle.st_session.specs.Imports.{ReadsAs}
use Rattle.st_session.proofs.Built.{one_built}
use Rattle.st_session.proofs.Joining.{rest_joins, ready_joins, failed_joins, made_joins, session_joins, followed_joins, refused_joins, export_joins, condense_joins, making_joins, begun_joins}
use Rattle.st_session.proofs.laws.calls_join.Goals as goal

pub returns : goal.returns
returns g c = record {
  rest = rest_joins g.H.Host (λ h n told. g.met.H.Host.read_counts h n told);
  ready = ready_joins g.H.Host (λ h n told. g.met.H.Host.read_counts h n told);
  failed = failed_joins g.H.Host;
  import_made = λ over image. made_joins g.H.Host (λ h n told. g.met.H.Host.read_counts h n told) (λ h t f s told le here. g.met.H.Host.counts_now h t f s told le here)
      origin.Image (ReadsAs over image) _ (λ c d x y. x.is ∙ sym y.is);
  build_made = λ text. made_joins g.H.Host (λ h n told. g.met.H.Host.read_counts h n told) (λ h t f s told le here. g.met.H.Host.counts_now h t f s told le here)
      origin.Kernel (Builds text) _ (one_built text);
  session = session_joins g.H.Host g.N.Host;
  followed = followed_joins g.H.Host g.N.Host;
  refused = refused_joins g.H.Host g.N.Host (λ h n told. g.met.H.Host.read_counts h n told);
  export = export_joins g.H.Host g.N.Host;
  condense = condense_joins g.H.Host g.N.Host;
  import = λ over image. making_joins g.H.Host g.N.Host origin.Image _ _;
  build = λ text. making_joins g.H.Host g.N.Host origin.Kernel _ _;
  import_begun = λ over image. begun_joins g.H.Host g.N.Host origin.Image _ _;
  build_begun = λ text. begun_joins g.H.Host g.N.Host origin.Kernel _ _;
}
