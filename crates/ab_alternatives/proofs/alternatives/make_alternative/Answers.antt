use Rattle.std.proofs.Common.{◌≡◌, List, ℕ, map, Some, sym, ◌∙◌, ap, subst}
use Rattle.ab_term.specs.Typing.{Signature}
use Rattle.ab_term.specs.Terms.{Nominal}
use Rattle.ab_norm.specs.ab_types.specs.Entries.{signature}
use Rattle.ab_norm.specs.Nominals.{HoldsNominal}
use Rattle.std.specs.List.{All}
use Rattle.ab_unifiers.specs.Choices.{outside}
use Rattle.ab_unifiers.specs.Clauses.{Clause as Case}
use Rattle.ab_unify.specs.UnifyAnswers.{IsTypedPair}
use Rattle.ab_logic.specs.Forms.{sign_of}
use Rattle.ab_formulas.specs.BodyMarks.{marked_in}
use Rattle.ab_norm.specs.ab_store.specs.Trees.{tree_of}
use Rattle.ab_formulas.specs.Clauses.{Clause}
use Rattle.ab_formulas.specs.CaseClauses.{case_of, IsWellKept}
use Rattle.ab_typing.specs.DefinitionReadings.{clause_of, name_of}
use Rattle.ab_unify.proofs.Growth.{grows_on}
use Rattle.ab_instances.specs.ListReadings.{names_read}
use Rattle.ab_instances.proofs.Made.{names_stay, names_held}
use Rattle.ab_alternatives.specs.LeftAlternatives.{equate, trees_from}
use Rattle.ab_alternatives.proofs.Assembled.{clause_stays, clause_held, same_signature}
use Rattle.ab_alternatives.proofs.Whole as whole
use Rattle.ab_alternatives.proofs.alternatives.make_alternative.Goals as goal

pub instance_of-requires-clause-clause : goal.instance_of-requires-clause-clause
instance_of-requires-clause-clause g c =
    clause_held c.args.types.now c.raise_over.new.types c.args.store.now c.raise_over.new.store c.requires.store c.in_ok-raised.ensures.grows c.args.clause.now c.requires.clause.held

pub instance_of-requires-clause-kept : goal.instance_of-requires-clause-kept
instance_of-requires-clause-kept g c =
    let T0 = c.args.types.now in
    let T1 = c.raise_over.new.types in
    let S0 = c.args.store.now in
    let S1 = c.raise_over.new.store in
    let g1 = c.in_ok-raised.ensures.grows in
    subst (λ (sg : Signature). IsWellKept sg (clause_of T1 S1 c.args.clause.now)) (sym (same_signature T0 T1 S0 S1 g1))
    (subst (λ (k : Clause). IsWellKept (signature T0) k) (sym (clause_stays T0 T1 S0 S1 c.requires.store g1 c.args.clause.now c.requires.clause.held)) c.requires.clause.well)

pub instance_of-requires-clause-unchosen : goal.instance_of-requires-clause-unchosen
instance_of-requires-clause-unchosen g c =
    subst (All (HoldsNominal c.raise_over.new.types)) (sym c.deref-2.ensures.value) (names_held c.args.types.now c.raise_over.new.types c.in_ok-raised.ensures.grows.table c.in_ok-unchosen.unchosen.items c.in_ok-unchosen.ensures.held)

pub instance_of-requires-clause-names : goal.instance_of-requires-clause-names
instance_of-requires-clause-names g c = names_held c.args.types.now c.raise_over.new.types c.in_ok-raised.ensures.grows.table c.args.names.now c.requires.names

pub instance_of-requires-clause-fit : goal.instance_of-requires-clause-fit
instance_of-requires-clause-fit g c =
    let T0 = c.args.types.now in
    let T1 = c.raise_over.new.types in
    let S0 = c.args.store.now in
    let S1 = c.raise_over.new.store in
    let g1 = c.in_ok-raised.ensures.grows in
    ap (map (λ (a : Nominal). a.type)) (names_stay T0 T1 g1.table c.args.names.now c.requires.names) ∙ c.requires.fit
    ∙ ap (λ k. map (λ z. z.type) (case_of k).names) (sym (clause_stays T0 T1 S0 S1 c.requires.store g1 c.args.clause.now c.requires.clause.held))

pub returns-in_err-made-clause-grows : goal.returns-in_err-made-clause-grows
returns-in_err-made-clause-grows g c =
    grows_on c.args.types.now c.raise_over.new.types c.instance_of.new.types c.args.store.now c.raise_over.new.store c.instance_of.new.store c.raise_over.ensures.grows c.instance_of.ensures.grows

pub returns-in_err-equations-clause-grows : goal.returns-in_err-equations-clause-grows
returns-in_err-equations-clause-grows g c =
    grows_on c.args.types.now c.raise_over.new.types c.instance_of.new.types c.args.store.now c.raise_over.new.store c.instance_of.new.store c.raise_over.ensures.grows c.instance_of.ensures.grows

pub returns-in_err-body-clause-grows : goal.returns-in_err-body-clause-grows
returns-in_err-body-clause-grows g c =
    whole.g03 c.args.types.now c.raise_over.new.types c.instance_of.new.types c.args.store.now c.raise_over.new.store c.instance_of.new.store c.mark_atoms.new.store c.raise_over.ensures.grows c.instance_of.ensures.grows c.mark_atoms.ensures.adds

pub returns-clause-grows : goal.returns-clause-grows
returns-clause-grows g c =
    whole.g03 c.args.types.now c.raise_over.new.types c.instance_of.new.types c.args.store.now c.raise_over.new.store c.instance_of.new.store c.mark_atoms.new.store c.raise_over.ensures.grows c.instance_of.ensures.grows c.mark_atoms.ensures.adds

pub returns-clause-made : goal.returns-clause-made
returns-clause-made g c =
    let T0 = c.args.types.now in
    let T1 = c.raise_over.new.types in
    let T2 = c.instance_of.new.types in
    let S0 = c.args.store.now in
    let S1 = c.raise_over.new.store in
    let S2 = c.instance_of.new.store in
    let S3 = c.mark_atoms.new.store in
    let g1 = c.in_ok-raised.ensures.grows in
    let g2 = c.in_ok-made.ensures.grows in
    let adds = c.in_ok-body.ensures.adds in
    let ys = c.args.variables.now in
    let ts = c.args.atom.now.arguments.items in
    let us = c.in_ok-made.made.arguments.items in
    let held = c.requires.arguments in
    let made_held = c.in_ok-made.ensures.arguments_held in
    let k0 = clause_of T0 S0 c.args.clause.now in
    let k1 = clause_of T1 S1 c.args.clause.now in
    let ns = names_read T0 c.args.names.now in
    let ns1 = names_read T1 c.args.names.now in
    let fresh = names_read T0 c.in_ok-fresh.fresh.items in
    let unchosen = names_read T1 c.deref-2.result.now in
    let same_c = ap case_of (clause_stays T0 T1 S0 S1 c.requires.store g1 c.args.clause.now c.requires.clause.held) in
    let same_ns = names_stay T0 T1 g1.table c.args.names.now c.requires.names in
    let is_fresh = c.in_ok-fresh.ensures.list ∙ ap (outside ns) c.requires.constants in
    let is_unchosen = ap (names_read T1) c.deref-2.ensures.value ∙ names_stay T0 T1 g1.table c.in_ok-unchosen.unchosen.items c.in_ok-unchosen.ensures.held ∙ c.in_ok-unchosen.ensures.list ∙ ap (λ l. outside l ns) c.requires.constants in
    let over = c.in_ok-raised.raised in
    let equations_are : c.in_ok-equations.equations.items ≡ equate ts us = c.in_ok-equations.ensures ∙ ap (λ l. equate l c.deref-4.result.now) c.deref-3.ensures.value ∙ ap (equate ts) c.deref-4.ensures.value in
    let b = c.in_ok-made.made.body in
    let m = sign_of c.args.atom.now.sign in
    let ps = c.args.atom.now.block.predicates in
    let fresh_d = c.deref.result.now in
    let is_fresh_d = ap (names_read T0) c.deref.ensures.value ∙ is_fresh in
    let first = c.in_ok-raised.ensures.cells in
    let A = c.requires.taken.0 in
    let predicate : signature T2 (case_of k1).predicate ≡ Some A =
    ap (λ (k : Case (List ℕ)). signature T2 k.predicate) same_c ∙ ap (signature T2) c.requires.predicate
    ∙ ap (λ (sg : Signature). sg (name_of T0 c.args.atom.now.predicate)) (same_signature T0 T2 S0 S2 (whole.g02 T0 T1 T2 S0 S1 S2 S3 g1 g2 adds)) ∙ c.requires.taken.1 in
    record {
      cells = whole.cells_are T0 T1 T2 S0 S1 S2 S3 g1 g2 adds ys ts us held made_held (case_of k0) (case_of k1) ns ns1 (names_read T0 fresh_d) unchosen same_c same_ns is_fresh_d is_unchosen first c.in_ok-made.ensures.cells;
      raised = whole.raised_are T0 T1 T2 S0 S1 S2 S3 g1 g2 adds ys ts us held made_held (case_of k0) (case_of k1) ns ns1 (names_read T0 fresh_d) unchosen same_c same_ns is_fresh_d is_unchosen first g1.typed over c.in_ok-raised.ensures.held c.in_ok-raised.ensures.raised;
      own = whole.own_are T0 T1 T2 S0 S1 S2 S3 g1 g2 adds ys ts us held made_held (case_of k0) (case_of k1) ns ns1 (names_read T0 fresh_d) unchosen same_c same_ns is_fresh_d is_unchosen first c.in_ok-made.made.own.items c.in_ok-made.ensures.own;
      equations = ap (trees_from T2 S3 0) equations_are
          ∙ whole.equations_are T0 T1 T2 S0 S1 S2 S3 g1 g2 adds ys ts us held made_held (case_of k0) (case_of k1) ns ns1 (names_read T0 fresh_d) unchosen same_c same_ns is_fresh_d is_unchosen first c.in_ok-made.ensures.arguments;
      typed = subst (All (IsTypedPair T2 S3)) (sym equations_are) (whole.typed_are T0 T1 T2 S0 S1 S2 S3 g1 g2 adds ys ts us held made_held (case_of k0) (case_of k1) ns ns1 (names_read T0 fresh_d) unchosen same_c same_ns is_fresh_d is_unchosen first
          A c.requires.taken.2 (c.in_ok-made.ensures.arguments_typed A predicate));
      body = whole.body_is T0 T1 T2 S0 S1 S2 S3 g1 g2 adds ys ts us held made_held (case_of k0) (case_of k1) ns ns1 (names_read T0 fresh_d) unchosen same_c same_ns is_fresh_d is_unchosen first
          ps m b c.in_ok-body.body
          (c.in_ok-body.ensures.reads ∙ ap (λ l. marked_in (map (name_of T2) l) (sign_of c.mark_below-mark.result) (tree_of T2 S2 b)) c.as_slice-predicates.ensures ∙ ap (λ k. marked_in (map (name_of T2) ps) k (tree_of T2 S2 b)) c.mark_below-mark.ensures)
          c.in_ok-made.ensures.body;
      held = c.in_ok-body.ensures.held;
    }
