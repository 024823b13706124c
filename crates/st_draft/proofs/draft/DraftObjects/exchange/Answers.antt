use Rattle.std.proofs.Common.{◌≡◌, true, false, sym, ◌∙◌, arith}
use Rattle.st_model.specs.Values.{word, is_small}
use Rattle.st_model.specs.View.{is_live}
use Rattle.st_memory.specs.inside.Tabular.{apart_tabular}
use Rattle.st_draft.specs.inside.Noted.{noted, drafted}
use Rattle.st_draft.proofs.Exchanged.{live_all}
use Rattle.st_draft.proofs.Moved.{live_there}
use Rattle.st_memory.proofs.Swapping.{exchanges_small_first, exchanges_small_second, exchanges_gone_first, exchanges_gone_second, exchanges}
use Rattle.st_draft.proofs.draft.DraftObjects.exchange.Goals as goal

pub returns-then-is_small-clause-exchanges : goal.returns-then-is_small-clause-exchanges
returns-then-is_small-clause-exchanges g c =
    let d = c.args.self.now in
    let now = drafted (g.M.Memory.view d.base.now).objects d.notes d.exchanges in
    exchanges_small_first apart_tabular now now (word c.args.a) (word c.args.b) (g.M.Memory.view d.base.now).head (sym c.is_small.ensures ∙ c.if-is_small.true)

pub returns-then-is_small-2-clause-exchanges : goal.returns-then-is_small-2-clause-exchanges
returns-then-is_small-2-clause-exchanges g c =
    let d = c.args.self.now in
    let now = drafted (g.M.Memory.view d.base.now).objects d.notes d.exchanges in
    exchanges_small_second apart_tabular now now (word c.args.a) (word c.args.b) (g.M.Memory.view d.base.now).head (sym c.is_small-2.ensures ∙ c.if-is_small-2.true)

pub returns-then-not-is_there-clause-exchanges : goal.returns-then-not-is_there-clause-exchanges
returns-then-not-is_there-clause-exchanges g c =
    let d = c.args.self.now in
    let now = drafted (g.M.Memory.view d.base.now).objects d.notes d.exchanges in
    let even_a : is_small (word c.args.a) ≡ false = sym c.is_small.ensures ∙ c.if-is_small.false in
    let even_b : is_small (word c.args.b) ≡ false = sym c.is_small-2.ensures ∙ c.if-is_small-2.false in
    exchanges_gone_first apart_tabular now now (word c.args.a) (word c.args.b) (g.M.Memory.view d.base.now).head even_a even_b (live_there now (word c.args.a) even_a ∙ (sym c.is_there.ensures ∙ c.if-not-is_there.true))

pub returns-then-not-is_there-2-clause-exchanges : goal.returns-then-not-is_there-2-clause-exchanges
returns-then-not-is_there-2-clause-exchanges g c =
    let d = c.args.self.now in
    let now = drafted (g.M.Memory.view d.base.now).objects d.notes d.exchanges in
    let even_a : is_small (word c.args.a) ≡ false = sym c.is_small.ensures ∙ c.if-is_small.false in
    let even_b : is_small (word c.args.b) ≡ false = sym c.is_small-2.ensures ∙ c.if-is_small-2.false in
    exchanges_gone_second apart_tabular now now (word c.args.a) (word c.args.b) (g.M.Memory.view d.base.now).head even_a even_b (live_there now (word c.args.b) even_b ∙ (sym c.is_there-2.ensures ∙ c.if-not-is_there-2.true))

pub invariant_of-self : goal.invariant_of-self
invariant_of-self g c =
    let d = c.args.self.now in
    let now = drafted (g.M.Memory.view d.base.now).objects d.notes d.exchanges in
    let before = noted (g.M.Memory.view d.base.now).objects d.notes in
    let even_a : is_small (word c.args.a) ≡ false = sym c.is_small.ensures ∙ c.if-is_small.false in
    let even_b : is_small (word c.args.b) ≡ false = sym c.is_small-2.ensures ∙ c.if-is_small-2.false in
    let live_a : is_live now (word c.args.a) ≡ true = live_there now (word c.args.a) even_a ∙ (sym c.is_there.ensures ∙ c.if-not-is_there.false) in
    let live_b : is_live now (word c.args.b) ≡ true = live_there now (word c.args.b) even_b ∙ (sym c.is_there-2.ensures ∙ c.if-not-is_there-2.false) in
    let count = c.add.ensures.count in
    let live = live_all d.exchanges.pairs before d.exchanges.count d.there in
    record {
      few = let r = c.requires in omega (arith, count, r);
      closed = d.closed;
      there = c.add.ensures.of before d.there (sym (live (word c.args.a)) ∙ live_a) (sym (live (word c.args.b)) ∙ live_b);
    }

pub returns-clause-exchanges : goal.returns-clause-exchanges
returns-clause-exchanges g c =
    let d = c.args.self.now in
    let now = drafted (g.M.Memory.view d.base.now).objects d.notes d.exchanges in
    let even_a : is_small (word c.args.a) ≡ false = sym c.is_small.ensures ∙ c.if-is_small.false in
    let even_b : is_small (word c.args.b) ≡ false = sym c.is_small-2.ensures ∙ c.if-is_small-2.false in
    let live_a : is_live now (word c.args.a) ≡ true = live_there now (word c.args.a) even_a ∙ (sym c.is_there.ensures ∙ c.if-not-is_there.false) in
    let live_b : is_live now (word c.args.b) ≡ true = live_there now (word c.args.b) even_b ∙ (sym c.is_there-2.ensures ∙ c.if-not-is_there-2.false) in
    exchanges apart_tabular now _ (word c.args.a) (word c.args.b) (g.M.Memory.view d.base.now).head live_a live_b (c.add.ensures.more (noted (g.M.Memory.view d.base.now).objects d.notes))
