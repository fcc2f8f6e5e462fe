use Rattle.std.specs.Prelude.{◌==◌, Result, Ok, Err, IfOk, OnOk}
use Rattle.std.proofs.Common.{◌≡◌, ◌≢◌, [], true, false, length, sym, ◌∙◌, ap}
use Rattle.std.proofs.lemmas.List.{length-map}
use Rattle.ab_norm.specs.Nominals.{nominal_of}
use Rattle.ab_instances.specs.ListReadings.{names_read}
use Rattle.ab_alternatives.proofs.Raised.{raised_is}
use Rattle.ab_alternatives.proofs.alternatives.raise_over.Goals as goal

on_all : {X E P : Type 0} {A B C Q : X → Type 0} (r : Result X E) → ((v : X) → P → A v → B v → C v → Q v) → OnOk r P → IfOk r A → IfOk r B → IfOk r C → IfOk r Q
on_all (Ok v) f p a b c = f v p a b c
on_all (Err e) f p a b c = tt

pub returns-clause-raised : goal.returns-clause-raised
returns-clause-raised c =
    let T = c.args.types.now in
    let ns = names_read T c.args.fresh.now in
    let some : ns ≢ [] = λ (none : ns ≡ []).
    let zero : length c.args.fresh.now ≡ 0 = sym (length-map c.args.fresh.now (nominal_of T)) ∙ ap length none in
    let clash : false ≡ true = sym c.if-is_empty.false ∙ c.is_empty.ensures ∙ ap (λ n. n == 0) zero in cc in
    let e = c.make_over.ensures in
    on_all c.make_over.result (λ over cells made terms typed.
    raised_is T c.make_over.new.types c.args.store.now c.make_over.new.store c.requires.store e.grows c.args.variables.now c.requires.variables c.requires.different ns some over cells made terms typed)
    e.cells e.made e.terms e.typed
