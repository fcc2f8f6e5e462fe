use Rattle.std.proofs.Common.{◌≡◌, ◌++◌, [], codes, map, Some, length, refl, sym, ◌∙◌, ap, subst}
use Rattle.std.specs.List.{All}
use Rattle.ab_term.specs.Types.{prop}
use Rattle.ab_term.specs.Typing.{Signature, HasType}
use Rattle.ab_term.specs.Variables.{image, image_all, value_in}
use Rattle.ab_term.specs.Sameness.{same_number}
use Rattle.ab_norm.specs.ab_types.specs.Entries.{signature}
use Rattle.ab_term.specs.Terms.{Read}
use Rattle.ab_norm.specs.ab_store.specs.Trees.{tree_of}
use Rattle.ab_norm.specs.Nominals.{HoldsNominal}
use Rattle.ab_unifiers.specs.Choices.{outside}
use Rattle.ab_unifiers.specs.Clauses.{filled}
use Rattle.ab_unifiers.specs.Alternatives.{cells_over, made_over, made_terms, arguments_equal}
use Rattle.ab_unify.specs.UnifyAnswers.{IsTypedPair}
use Rattle.ab_logic.specs.Forms.{sign_of}
use Rattle.ab_formulas.specs.Formulas.{a_formula, StandsIn}
use Rattle.ab_formulas.proofs.Images.{image_stands}
use Rattle.ab_formulas.specs.BodyMarks.{mark_above, marked_in}
use Rattle.ab_formulas.proofs.MarkedFormulas.{one_marked}
use Rattle.ab_formulas.specs.CaseClauses.{case_of}
use Rattle.ab_typing.specs.DefinitionReadings.{clause_of, name_of}
use Rattle.ab_unify.specs.Problem.{cells_read}
use Rattle.ab_unify.proofs.Growth.{grows_on, grows_terms}
use Rattle.ab_instances.specs.ListReadings.{names_read, given_at}
use Rattle.ab_alternatives.specs.LeftAlternatives.{equate, trees_from, unchosen_in}
use Rattle.ab_alternatives.proofs.Assembled.{equate_trees, equate_typed, given_stays, still_held, same_signature, names_same, taken_on, cells_same, variables_same}
use Rattle.ab_alternatives.proofs.clause_bodies.make_unfolding.Goals as goal

pub instance_of-requires-clause-unchosen : goal.instance_of-requires-clause-unchosen
instance_of-requires-clause-unchosen g c = subst (All (HoldsNominal c.args.types.now)) (sym c.deref.ensures.value) c.in_ok-unchosen.ensures.held

pub returns-in_err-body-clause-grows : goal.returns-in_err-body-clause-grows
returns-in_err-body-clause-grows g c =
    let T2 = c.instance_of.new.types in
    let S2 = c.instance_of.new.store in
    let S3 = c.mark_atoms.new.store in
    grows_on c.args.types.now T2 T2 c.args.store.now S2 S3 c.instance_of.ensures.grows (grows_terms T2 S2 S3 c.mark_atoms.ensures.adds)

pub returns-clause-grows : goal.returns-clause-grows
returns-clause-grows g c =
    let T2 = c.instance_of.new.types in
    let S2 = c.instance_of.new.store in
    let S3 = c.mark_atoms.new.store in
    grows_on c.args.types.now T2 T2 c.args.store.now S2 S3 c.instance_of.ensures.grows (grows_terms T2 S2 S3 c.mark_atoms.ensures.adds)

pub returns-clause-made : goal.returns-clause-made
returns-clause-made g c =
    let x = codes "x" in
    let T0 = c.args.types.now in
    let T2 = c.instance_of.new.types in
    let S0 = c.args.store.now in
    let S2 = c.instance_of.new.store in
    let S3 = c.mark_atoms.new.store in
    let g2 = c.instance_of.ensures.grows in
    let adds = c.mark_atoms.ensures.adds in
    let g23 = grows_terms T2 S2 S3 adds in
    let g03 = grows_on T0 T2 T2 S0 S2 S3 g2 g23 in
    let ts = c.args.atom.now.arguments.items in
    let us = c.in_ok-made.made.arguments.items in
    let held = c.requires.arguments in
    let made_held = c.in_ok-made.ensures.arguments_held in
    let k = case_of (clause_of T0 S0 c.args.clause.now) in
    let ns = names_read T0 c.args.names.now in
    let n = length S0.cells in
    let is_unchosen : names_read T0 c.deref.result.now ≡ unchosen_in (given_at T0 S0 ts) (record { clause = k; names = ns }) =
    ap (names_read T0) c.deref.ensures.value ∙ c.in_ok-unchosen.ensures.list ∙ ap (λ l. outside l ns) c.requires.constants in
    let equations_are : c.in_ok-equations.equations.items ≡ equate ts us = c.in_ok-equations.ensures ∙ ap (λ l. equate l c.deref-3.result.now) c.deref-2.ensures.value ∙ ap (equate ts) c.deref-3.ensures.value in
    let b = c.in_ok-made.made.body in
    let m = sign_of c.args.atom.now.sign in
    let ps = c.args.atom.now.block.predicates in
    let A = c.requires.taken.0 in
    let predicate : signature T2 k.predicate ≡ Some A =
    ap (signature T2) c.requires.predicate ∙ ap (λ (sg : Signature). sg (name_of T0 c.args.atom.now.predicate)) (same_signature T0 T2 S0 S2 g2) ∙ c.requires.taken.1 in
    let marked = c.in_ok-body.ensures.reads
    ∙ ap (λ l. marked_in (map (name_of T2) l) (sign_of c.mark_above-mark.result) (tree_of T2 S2 b)) c.as_slice-predicates.ensures
    ∙ ap (λ s. marked_in (map (name_of T2) ps) s (tree_of T2 S2 b)) c.mark_above-mark.ensures in
    let put = filled x k (made_terms x n (names_read T0 c.deref.result.now) k.variables) ns in
    let stands = subst (StandsIn a_formula) (sym c.in_ok-made.ensures.body) (image_stands (value_in same_number put) a_formula k.body c.requires.formula.stands) in
    let typed = (one_marked (signature T2) (map (name_of T2) ps) (mark_above m) [] (tree_of T2 S2 b) c.in_ok-made.ensures.body_typed.1 stands).0 in
    record {
      cells = cells_same T2 S2 S3 adds.cells ∙ c.in_ok-made.ensures.cells ∙ ap (λ l. cells_read T0 S0 ++ cells_over x l k.variables) is_unchosen;
      own = variables_same T2 S2 S3 adds.cells c.in_ok-made.made.own.items ∙ c.in_ok-made.ensures.own ∙ ap (λ l. made_over x n l k.variables) is_unchosen;
      equations = ap (trees_from T2 S3 0) equations_are
          ∙ equate_trees T2 S3 0 0 refl ts us
          ∙ ap (λ l. arguments_equal x 0 l (given_at T2 S3 us)) (given_stays T0 T2 S0 S3 g03 ts held)
          ∙ ap (arguments_equal x 0 (given_at T0 S0 ts)) (given_stays T2 T2 S2 S3 g23 us made_held ∙ c.in_ok-made.ensures.arguments
          ∙ ap (λ l. image_all same_number (filled x k (made_terms x n l k.variables) ns) k.arguments) is_unchosen);
      typed = subst (All (IsTypedPair T2 S3)) (sym equations_are)
          (equate_typed T2 S3 A (codes "prop") (codes "prop") ts us (still_held T0 T2 S0 S3 g03 ts held) (still_held T2 T2 S2 S3 g23 us made_held)
          (taken_on T0 T2 S0 S3 g03 ts A prop held c.requires.taken.2) (taken_on T2 T2 S2 S3 g23 us A prop made_held (c.in_ok-made.ensures.arguments_typed A predicate)));
      body = marked
          ∙ ap (λ l. marked_in l (mark_above m) (tree_of T2 S2 b)) (names_same T0 T2 S0 S2 g2 ps)
          ∙ ap (marked_in (map (name_of T0) ps) (mark_above m)) (c.in_ok-made.ensures.body ∙ ap (λ l. image same_number (filled x k (made_terms x n l k.variables) ns) k.body) is_unchosen);
      term = (c.in_ok-body.ensures.held, subst (λ (F : Read). HasType (signature T2) [] F prop) (sym marked) typed);
    }
