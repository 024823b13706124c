-- What is prepared of a definition is installed, and what nothing supports then is dropped.
use Rattle.std.proofs.Common.{◌≡◌, ◌∙◌, refl, sym, ap, subst}
use Rattle.st_model.specs.Machine.{State, World}
use Rattle.st_model.specs.Births.{Births}
use Rattle.st_model.specs.Table.{Table, table}
use Rattle.st_model.specs.Settled.{reclaim}
use Rattle.st_model.specs.Show.{Shows}
use Rattle.st_simulation.specs.inside.Laws.{Runs}
use Rattle.st_model.specs.View.{View, IsWhole}
use Rattle.st_frames.specs.declared.frame.Frame.{Frame}
use Rattle.st_frames.specs.inside.Shown.{IsFrame, IsReady, shown}
use Rattle.st_frames.proofs.Closed.{is_closed}
use Rattle.st_frames.proofs.Settled.{settled_same}
use Rattle.st_chunk.specs.Definitions.{Definition}
use Rattle.st_install.specs.inside.Carried.{Installs}
use Rattle.st_install.specs.inside.Goes.{IsReadyFor}
use Rattle.st_install.specs.inside.Readies.{plan_of}
use Rattle.st_install.proofs.GoesLaw.{ready_installs}
use Rattle.st_install.proofs.Headed.{code_headed}
use Rattle.st_protocol.specs.declared.refusal.Refusal.{Refusal}
use Rattle.st_protocol.specs.declared.installation.Installation.TheVariants as installation
use Rattle.st_install.specs.declared.preparing.Prepared.{Prepared}
use Rattle.st_protocol.specs.Installing.{Installed, Refused, Accepted}
use Rattle.st_protocol.specs.inside.Installations.{InstallsAs}
use Rattle.st_install.specs.Defining.{installed}
use Rattle.st_install.specs.inside.Prepareds.{IsPrepared}
use Rattle.st_install.proofs.Joining.{installs}

-- a memory that holds the same is ready for the same registers and world
frame_held : (u v : View) (f : Frame) → u.held ≡ v.held → IsFrame v f → IsFrame u f
frame_held u v f held h = record {
  active = h.active ∙ (λ i. (sym held i).active);
  home = h.home ∙ (λ i. (sym held i).home);
  method = h.method ∙ (λ i. (sym held i).method);
  receiver = h.receiver ∙ (λ i. (sym held i).receiver);
  ip_low = h.ip_low;
  ip_high = h.ip_high;
  sp_low = h.sp_low;
  sp_high = h.sp_high;
}

pub ready_held : (u v : View) (f : Frame) (w : World) → u.held ≡ v.held → IsReady v f w → IsReady u f w
ready_held u v f w held h = record { frame = frame_held u v f held h.frame; devices = (λ i. (held i).devices) ∙ h.devices }

pub ready_for : (v : View) (d : Definition) (p : Prepared) → IsPrepared v d p → IsReadyFor v (plan_of p.ready)
ready_for v d p h = record {
  class = h.class;
  name = d.class;
  meta = d.meta;
  tree = h.tree;
  seen = h.seen;
  parts = h.parts;
  headed = code_headed h.tree h.seen h.parts h.coded;
  named = h.sees;
  ready = h.ready;
}

-- what is refused, and want of memory
pub refused_as : (o : Installed) (why : Refusal) (c : State Table) → o ≡ Refused why → InstallsAs o (installation.Refused why) c
refused_as o why c e = subst (λ x. InstallsAs x (installation.Refused why) c) (sym e) refl

pub without_memory : (o : Installed) (c : State Table) → InstallsAs o installation.OutOfMemory c
without_memory (Refused why) c = tt
without_memory (Accepted selector t) c = tt

module _ (v : View) (d : Definition) (p : Prepared) (prepared : IsPrepared v d p) (whole : IsWhole v) (f : Frame) (w : World) (ready : IsReady v f w) (s : State Births) (shows : Shows (shown v f w) s) where
  runs : Runs (shown v f w) s
  runs = record {
    shows = shows;
    sound = record { places = whole.places; closed = is_closed v f w whole ready };
    entries = whole.most_entries;
  }

  -- the state with the objects of u, which is as before otherwise
  same_state : (u : View) → u.head ≡ v.head → record (shown v f w) { memory = u.objects } ≡ shown u f w
  same_state u head = λ i. record (shown u f w) { head = sym head i }

  pub carried : (x : View) → Installs (plan_of p.ready) v x → InstallsAs (installed d s) (installation.Accepted p.selector) (shown x f w)
  carried x h =
      let u = h.between in
      let becomes = h.becomes in
      let c = shown v f w in
      let e : State Table = record c { memory = u.objects } in
      let i = installs c s shows d prepared.class (prepared.found c refl) prepared.tree prepared.reads prepared.seen (prepared.sees c refl) prepared.parts prepared.coded (plan_of p.ready) e runs (prepared.ready c refl) (becomes.run c refl refl) in
      let settled : reclaim table e ≡ shown x f w = ap (reclaim table) (same_state u becomes.head) ∙ settled_same u x f w (ready_held u v f w becomes.held ready) h.settles in
      subst (λ o. InstallsAs o (installation.Accepted p.selector) (shown x f w)) (sym i.installs) (prepared.selector, subst (λ t. Shows t i.state) settled i.runs.shows)

  -- what is prepared is accepted, also where nothing is installed yet
  pub is_accepted : (t : State Births) × (installed d s ≡ Accepted prepared.parts.selector t)
  is_accepted =
      let c = shown v f w in
      let all = ready_installs v (plan_of p.ready) whole (ready_for v d p prepared) in
      let e : State Table = record c { memory = all.after } in
      let i = installs c s shows d prepared.class (prepared.found c refl) prepared.tree prepared.reads prepared.seen (prepared.sees c refl) prepared.parts prepared.coded (plan_of p.ready) e runs (prepared.ready c refl) (all.goes c refl refl) in
      (i.state, i.installs)
