-- From what the calls answer over a table to what comes of the definition over the births that the table shows.
use Rattle.std.proofs.Common.{◌≡◌, Result, Ok, Err, refl, ap, subst, ◌∙◌}
use Rattle.st_model.specs.Values.{Value}
use Rattle.st_model.specs.Machine.{State, Went, Step, answer, after, ◌>>=◌, ◌>>◌}
use Rattle.st_model.specs.Births.{Births, births}
use Rattle.st_model.specs.Table.{Table, table, bounded_table}
use Rattle.st_model.specs.Settled.{reclaim}
use Rattle.st_model.specs.Show.{Shows}
use Rattle.st_simulation.specs.inside.Laws.{Runs}
use Rattle.st_scan.specs.declared.fault.Fault as syntax_fault
use Rattle.st_scan.specs.Views.{MethodView}
use Rattle.st_emit.specs.Names.{NamesView}
use Rattle.st_code.specs.declared.fault.Fault as code_fault
use Rattle.st_code.specs.Methods.{PartsView, code}
use Rattle.st_scope.specs.declared.fault.InstallFault.{InstallFault}
use Rattle.st_install.specs.Plans.{Plan}
use Rattle.st_scope.specs.Calls.{class_of_name, names}
use Rattle.st_install.specs.Calls.{ready}
use Rattle.st_install.specs.Installing.{install}
use Rattle.st_install.proofs.SameAnswers.{class_answered, class_refused, names_answered, ready_answered, ready_refused, install_answered}
use Rattle.st_install.proofs.SameHeaders.{code_header}
use Rattle.st_chunk.specs.Definitions.{Definition}
use Rattle.st_protocol.specs.declared.refusal.Refusal.{Refusal}
use Rattle.st_protocol.specs.Installing.{Refused, Accepted}
use Rattle.st_grammar.specs.Syntax.{syntax}
use Rattle.st_install.specs.Defining.{of_syntax, of_code, of_install, Prepared, on_ok_by, on_ok, prepare, carry_out, define, outcome_of, installed}

module _ {H A B : Type 0} where
  then_at : (m : Step H A) (f : A → Step H B) (a : A) (s t : State H) → m.run s ≡ Went a t → (m >>= f).run s ≡ (f a).run t
  unfolding ◌>>=◌ after
  then_at m f a s t e = rw e refl

module _ {H A B E : Type 0} (says : E → Refusal) (m : Step H (Result A E)) (f : A → Step H (Result B Refusal)) (s : State H) where
  pub refuses_at : (fault : E) → m.run s ≡ Went (Err fault) s → (on_ok says m f).run s ≡ Went (Err (says fault)) s
  unfolding on_ok answer
  refuses_at fault e = then_at m (on_ok_by says f) (Err fault) s s e

  pub goes_at : (a : A) → m.run s ≡ Went (Ok a) s → (on_ok says m f).run s ≡ (f a).run s
  unfolding on_ok
  goes_at a e = then_at m (on_ok_by says f) (Ok a) s s e

module _ (s : State Births) (d : Definition) where
  -- what is prepared is refused, or carried out

  refused : (why : Refusal) → (prepare births s.head d).run s ≡ Went (Err why) s → installed d s ≡ Refused why
  unfolding installed define carry_out answer
  refused why e = ap outcome_of (then_at (prepare births s.head d) (carry_out births) (Err why) s s e)

  accepted : (p : Prepared) (u : State Births) → (prepare births s.head d).run s ≡ Went (Ok p) s → (install births p.plan).run s ≡ Went tt u → installed d s ≡ Accepted p.selector (reclaim births u)
  unfolding installed define carry_out answer ◌>>◌
  accepted p u e f =
      ap outcome_of (then_at (prepare births s.head d) (carry_out births) (Ok p) s s e ∙ then_at (install births p.plan) (λ x. answer (Ok p.selector)) tt s u f)

  -- how far it comes

  told : {A : Type 0} (a b : A) → a ≡ b → (answer {H = Births} a).run s ≡ Went b s
  unfolding answer
  told a b e = ap (λ x. Went x s) e

  no_class : (fault : InstallFault) → (class_of_name births s.head d.class d.meta).run s ≡ Went (Err fault) s → (prepare births s.head d).run s ≡ Went (Err (of_install fault)) s
  unfolding prepare
  no_class fault e = refuses_at of_install _ _ s fault e

  module _ (class : Value) (found : (class_of_name births s.head d.class d.meta).run s ≡ Went (Ok class) s) where
    no_tree : (fault : syntax_fault.Fault) → syntax d.text ≡ Err fault → (prepare births s.head d).run s ≡ Went (Err (of_syntax fault)) s
    unfolding prepare
    no_tree fault e = goes_at of_install _ _ s class found ∙ refuses_at of_syntax _ _ s fault (told _ _ e)

    module _ (tree : MethodView) (reads : syntax d.text ≡ Ok tree) where
      no_names : (fault : InstallFault) → (names births s.head class d.meta tree).run s ≡ Went (Err fault) s → (prepare births s.head d).run s ≡ Went (Err (of_install fault)) s
      unfolding prepare
      no_names fault e = goes_at of_install _ _ s class found ∙ goes_at of_syntax _ _ s tree (told _ _ reads) ∙ refuses_at of_install _ _ s fault e

      module _ (seen : NamesView) (sees : (names births s.head class d.meta tree).run s ≡ Went (Ok seen) s) where
        no_code : (fault : code_fault.Fault) → code tree seen ≡ Err fault → (prepare births s.head d).run s ≡ Went (Err (of_code fault)) s
        unfolding prepare
        no_code fault e = goes_at of_install _ _ s class found ∙ goes_at of_syntax _ _ s tree (told _ _ reads) ∙ goes_at of_install _ _ s seen sees
            ∙ refuses_at of_code _ _ s fault (told _ _ e)

        module _ (parts : PartsView) (coded : code tree seen ≡ Ok parts) where
          no_plan : (fault : InstallFault) → (ready births s.head class d.class d.meta parts).run s ≡ Went (Err fault) s → (prepare births s.head d).run s ≡ Went (Err (of_install fault)) s
          unfolding prepare
          no_plan fault e = goes_at of_install _ _ s class found ∙ goes_at of_syntax _ _ s tree (told _ _ reads) ∙ goes_at of_install _ _ s seen sees
              ∙ goes_at of_code _ _ s parts (told _ _ coded) ∙ refuses_at of_install _ _ s fault e

          a_plan : (p : Plan) → (ready births s.head class d.class d.meta parts).run s ≡ Went (Ok p) s
              → (prepare births s.head d).run s ≡ Went (Ok (record { selector = parts.selector; plan = p })) s
          unfolding prepare answer
          a_plan p e = goes_at of_install _ _ s class found ∙ goes_at of_syntax _ _ s tree (told _ _ reads) ∙ goes_at of_install _ _ s seen sees
              ∙ goes_at of_code _ _ s parts (told _ _ coded) ∙ goes_at of_install _ _ s p e

-- FROM THE TABLE: each exit of an installation

module _ (c : State Table) (s : State Births) (shows : Shows c s) (d : Definition) where
  pub refused_class : (fault : InstallFault) → (class_of_name table c.head d.class d.meta).run c ≡ Went (Err fault) c → installed d s ≡ Refused (of_install fault)
  refused_class fault e = refused s d _ (no_class s d fault (class_refused c s shows d.class d.meta fault e))

  module _ (w : Value) (found : (class_of_name table c.head d.class d.meta).run c ≡ Went (Ok w) c) where
    pub refused_syntax : (fault : syntax_fault.Fault) → syntax d.text ≡ Err fault → installed d s ≡ Refused (of_syntax fault)
    refused_syntax fault e = let k = class_answered c s shows d.class d.meta w found in refused s d _ (no_tree s d k.class k.born fault e)

    module _ (tree : MethodView) (reads : syntax d.text ≡ Ok tree) where
      names_born : (r : Result NamesView InstallFault) → (names table c.head w d.meta tree).run c ≡ Went r c → (names births s.head (class_answered c s shows d.class d.meta w found).class d.meta tree).run s ≡ Went r s
      names_born r e =
          let k = class_answered c s shows d.class d.meta w found in
          names_answered c s shows k.class k.kept d.meta tree r (subst (λ x. (names table c.head x d.meta tree).run c ≡ Went r c) k.shown e)

      pub refused_names : (fault : InstallFault) → (names table c.head w d.meta tree).run c ≡ Went (Err fault) c → installed d s ≡ Refused (of_install fault)
      refused_names fault e =
          let k = class_answered c s shows d.class d.meta w found in
          refused s d _ (no_names s d k.class k.born tree reads fault (names_born (Err fault) e))

      module _ (seen : NamesView) (sees : (names table c.head w d.meta tree).run c ≡ Went (Ok seen) c) where
        pub refused_code : (fault : code_fault.Fault) → code tree seen ≡ Err fault → installed d s ≡ Refused (of_code fault)
        refused_code fault e =
            let k = class_answered c s shows d.class d.meta w found in
            refused s d _ (no_code s d k.class k.born tree reads seen (names_born (Ok seen) sees) fault e)

        module _ (parts : PartsView) (coded : code tree seen ≡ Ok parts) where
          pub refused_ready : (fault : InstallFault) → (ready table c.head w d.class d.meta parts).run c ≡ Went (Err fault) c → installed d s ≡ Refused (of_install fault)
          refused_ready fault e =
              let k = class_answered c s shows d.class d.meta w found in
              let r = ready_refused c s shows k.class k.kept d.class d.meta parts fault (code_header tree seen parts coded)
              (subst (λ x. (ready table c.head x d.class d.meta parts).run c ≡ Went (Err fault) c) k.shown e) in
              refused s d _ (no_plan s d k.class k.born tree reads seen (names_born (Ok seen) sees) parts coded fault r)

          -- it is installed, and a running machine goes on with what is left once it is reclaimed
          pub record Installs (e : State Table) : Type 0 where
            pub state : State Births
            pub installs : installed d s ≡ Accepted parts.selector state
            pub runs : Runs (reclaim table e) state

          pub installs : (q : Plan) (e : State Table) → Runs c s → (ready table c.head w d.class d.meta parts).run c ≡ Went (Ok q) c → (install bounded_table q).run c ≡ Went tt e → Installs e
          installs q e runs f g =
              let k = class_answered c s shows d.class d.meta w found in
              let r = ready_answered c s shows k.class k.kept d.class d.meta parts q (code_header tree seen parts coded)
              (subst (λ x. (ready table c.head x d.class d.meta parts).run c ≡ Went (Ok q) c) k.shown f) in
              let i = install_answered r.plan c e s runs r.is_ready (subst (λ x. (install bounded_table x).run c ≡ Went tt e) r.shown g) in
              record {
                state = reclaim births i.state;
                installs = accepted s d (record { selector = parts.selector; plan = r.plan }) i.state (a_plan s d k.class k.born tree reads seen (names_born (Ok seen) sees) parts coded r.plan r.born) i.born;
                runs = i.settled;
              }
