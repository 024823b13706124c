use Rattle.st_model.specs.Values.{word}
use Rattle.st_at_once.proofs.Keeping.{fields_named}
use Rattle.st_at_once.proofs.looking.look_at_places.Goals as goal

pub returns-clause-near : goal.returns-clause-near
returns-clause-near g c =
    let v = g.M.Memory.view c.args.m.now in
    let made = word c.args.known.made.object in
    record {
      active = c.place_fields.ensures.known v.held.active c.requires.active;
      home = c.place_fields-2.ensures.known v.held.home c.requires.home;
      code = c.place_code.ensures.known v.held.method c.requires.code;
      made = fields_named v.objects made c.place_fields-3.result (c.place_fields-3.ensures.known made c.requires.made);
    }
