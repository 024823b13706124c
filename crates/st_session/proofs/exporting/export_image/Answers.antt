use Rattle.st_session.proofs.exporting.export_image.Goals as goal

pub returns-in-Kept : goal.returns-in-Kept
returns-in-Kept g c = rw c.in-Kept.is c.export_kept.ensures

pub returns-in-Reachable : goal.returns-in-Reachable
returns-in-Reachable g c = rw c.in-Reachable.is c.export_reachable.ensures
