use Rattle.std.proofs.Common.{◌≡◌, ◌+◌, ◌/◌, ◌%◌, false, sym, subst}
use Rattle.std.specs.Prelude.{nat_eq}
use Rattle.st_model.specs.declared.kind.Kind.{Kind}
use Rattle.st_model.specs.Formed.{IsMakeable, fresh}
use Rattle.st_heap.specs.inside.Forms.{object_from, IsSound}
use Rattle.st_heap.specs.inside.Fresh.{new_stored}
use Rattle.st_heap.proofs.Fresh.{new_pointers, new_words, new_bytes, new_method}
use Rattle.st_heap.proofs.adding.ObjectLayout.new.Goals as goal

pub returns-in-Pointers-clause-fresh : goal.returns-in-Pointers-clause-fresh
returns-in-Pointers-clause-fresh c =
    let makeable = subst (λ (k : Kind). IsMakeable (c.args.class.0 / 2) k c.args.size c.args.literals) c.in-Pointers.is c.requires.makeable in
    subst (λ (k : Kind). object_from (new_stored (record { class = c.args.class; kind = k; odd = false; fields = c.args.size; literals = c.args.literals; words = 2 + c.args.size })) ≡ fresh (c.args.class.0 / 2) k c.args.size c.args.literals) (sym c.in-Pointers.is) (new_pointers c.args.class c.args.size c.args.literals c.requires.even makeable).fresh

pub returns-in-Pointers-clause-sound : goal.returns-in-Pointers-clause-sound
returns-in-Pointers-clause-sound c =
    let makeable = subst (λ (k : Kind). IsMakeable (c.args.class.0 / 2) k c.args.size c.args.literals) c.in-Pointers.is c.requires.makeable in
    subst (λ (k : Kind). IsSound (new_stored (record { class = c.args.class; kind = k; odd = false; fields = c.args.size; literals = c.args.literals; words = 2 + c.args.size }))) (sym c.in-Pointers.is) (new_pointers c.args.class c.args.size c.args.literals c.requires.even makeable).sound

pub returns-in-Words-clause-fresh : goal.returns-in-Words-clause-fresh
returns-in-Words-clause-fresh c =
    let makeable = subst (λ (k : Kind). IsMakeable (c.args.class.0 / 2) k c.args.size c.args.literals) c.in-Words.is c.requires.makeable in
    subst (λ (k : Kind). object_from (new_stored (record { class = c.args.class; kind = k; odd = false; fields = 0; literals = c.args.literals; words = 2 + c.args.size })) ≡ fresh (c.args.class.0 / 2) k c.args.size c.args.literals) (sym c.in-Words.is) (new_words c.args.class c.args.size c.args.literals c.requires.even makeable).fresh

pub returns-in-Words-clause-sound : goal.returns-in-Words-clause-sound
returns-in-Words-clause-sound c =
    let makeable = subst (λ (k : Kind). IsMakeable (c.args.class.0 / 2) k c.args.size c.args.literals) c.in-Words.is c.requires.makeable in
    subst (λ (k : Kind). IsSound (new_stored (record { class = c.args.class; kind = k; odd = false; fields = 0; literals = c.args.literals; words = 2 + c.args.size }))) (sym c.in-Words.is) (new_words c.args.class c.args.size c.args.literals c.requires.even makeable).sound

pub returns-in-Bytes-clause-fresh : goal.returns-in-Bytes-clause-fresh
returns-in-Bytes-clause-fresh c =
    let makeable = subst (λ (k : Kind). IsMakeable (c.args.class.0 / 2) k c.args.size c.args.literals) c.in-Bytes.is c.requires.makeable in
    subst (λ (k : Kind). object_from (new_stored (record { class = c.args.class; kind = k; odd = nat_eq (c.args.size % 2) 1; fields = 0; literals = c.args.literals; words = 2 + (c.args.size + 1) / 2 })) ≡ fresh (c.args.class.0 / 2) k c.args.size c.args.literals) (sym c.in-Bytes.is) (new_bytes c.args.class c.args.size c.args.literals c.requires.even makeable).fresh

pub returns-in-Bytes-clause-sound : goal.returns-in-Bytes-clause-sound
returns-in-Bytes-clause-sound c =
    let makeable = subst (λ (k : Kind). IsMakeable (c.args.class.0 / 2) k c.args.size c.args.literals) c.in-Bytes.is c.requires.makeable in
    subst (λ (k : Kind). IsSound (new_stored (record { class = c.args.class; kind = k; odd = nat_eq (c.args.size % 2) 1; fields = 0; literals = c.args.literals; words = 2 + (c.args.size + 1) / 2 }))) (sym c.in-Bytes.is) (new_bytes c.args.class c.args.size c.args.literals c.requires.even makeable).sound

pub returns-in-Method-clause-fresh : goal.returns-in-Method-clause-fresh
returns-in-Method-clause-fresh c =
    let makeable = subst (λ (k : Kind). IsMakeable (c.args.class.0 / 2) k c.args.size c.args.literals) c.in-Method.is c.requires.makeable in
    subst (λ (k : Kind). object_from (new_stored (record { class = c.args.class; kind = k; odd = nat_eq (c.args.size % 2) 1; fields = c.args.literals + 1; literals = c.args.literals; words = 2 + (c.args.size + 1) / 2 })) ≡ fresh (c.args.class.0 / 2) k c.args.size c.args.literals) (sym c.in-Method.is) (new_method c.args.class c.args.size c.args.literals c.requires.even makeable).fresh

pub returns-in-Method-clause-sound : goal.returns-in-Method-clause-sound
returns-in-Method-clause-sound c =
    let makeable = subst (λ (k : Kind). IsMakeable (c.args.class.0 / 2) k c.args.size c.args.literals) c.in-Method.is c.requires.makeable in
    subst (λ (k : Kind). IsSound (new_stored (record { class = c.args.class; kind = k; odd = nat_eq (c.args.size % 2) 1; fields = c.args.literals + 1; literals = c.args.literals; words = 2 + (c.args.size + 1) / 2 }))) (sym c.in-Method.is) (new_method c.args.class c.args.size c.args.literals c.requires.even makeable).sound
