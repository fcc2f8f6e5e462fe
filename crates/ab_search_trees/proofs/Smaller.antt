-- What a way leaves of a goal is smaller: fewer conclusions may be unfolded below it, or as many and fewer layers opened, or
-- as many of both and there is less to take apart.
use Rattle.std.proofs.Common.{◌≡◌, ℕ, zero, suc, ◌<◌, List, [], ◌∷◌, ◌++◌, map, filter, codes, Bool, true, false, cond, bytes_eq, Option, Some, None, option_map, refl, ◌∙◌, ap, subst, arith}
use Rattle.std.specs.Prelude.{Contains}
use Rattle.std.proofs.lemmas.List.Elements.{All-filter, All-contains}
use Rattle.ab_term.specs.Logical as plain
use Rattle.ab_term.specs.Logical.{Logical}
use Rattle.ab_term.specs.Terms.{Nominal, constant, logical, nominal, variable, index, lam, spine, no_terms, term, Read}
use Rattle.ab_term.specs.Names.{support, support_of_all, permute}
use Rattle.ab_term.proofs.Lists.{Contains-here, Contains-there, Contains-from_map}
use Rattle.ab_unifiers.specs.Clauses.{Clause, name_term}
use Rattle.ab_unifiers.specs.Choices.{in_order, new_constant, choices, for_each}
use Rattle.ab_unifiers.proofs.Choosing.{gathered_from}
use Rattle.ab_formulas.specs.Formulas.{a_formula, StandsIn}
use Rattle.ab_formulas.specs.Declarations.{Declarations, Block, block_in, signature_in, IsDefining, HaveDefinitions}
use Rattle.ab_formulas.specs.Forms.{Form, truth, falsity, both, either, implies, equal, for_all, exists, nabla, marked, other, form_of}
use Rattle.ab_formulas.specs.Marks.{Sign, plain, erased}
use Rattle.ab_formulas.specs.BodyMarks.{mark_above}
use Rattle.ab_theory.specs.Atoms.{Defined, Choice, defined_as, defined_form, defined_atom, choices_of}
use Rattle.ab_theory.specs.Judgements.{Judgement, as_judgement}
use Rattle.ab_search_trees.specs.Goals.{Goal, Now, asking}
use Rattle.ab_search_trees.specs.Maps.{maps}
use Rattle.ab_search_trees.specs.Judgements.{layer_of, opened_once, is_blind, search_rules}
use Rattle.ab_search_trees.specs.Ways.{Way, equating, unfolds, new_term, by_truth, by_hypothesis, by_layer, by_form, by_choice, by_definition, in_turn, by_rule, by_judgement, ways}
use Rattle.ab_search_trees.proofs.Weights.{weight, instance_weighs, instance_stands, body_stands, Parts, parts_of}
use Rattle.ab_formulas.proofs.Images.{image_stands}
use Rattle.ab_theory.proofs.Demands.{demand_stands}

pub data Less (g h : Goal) : Type 0 where
  in_depth : h.depth < g.depth → Less g h
  in_layers : h.depth ≡ g.depth → h.layers < g.layers → Less g h
  in_weight : h.depth ≡ g.depth → h.layers ≡ g.layers → weight h.conclusion < weight g.conclusion → Less g h

pub record IsSmaller (g h : Goal) : Type 0 where
  pub stands : StandsIn a_formula h.conclusion
  pub less : Less g h

abbrev pub AllSmaller : Goal → List Goal → Type 0
AllSmaller g [] = Unit {0}
AllSmaller g (h ∷ hs) = IsSmaller g h × AllSmaller g hs

abbrev pub EachWay : Goal → List Way → Type 0
EachWay g [] = Unit {0}
EachWay g (w ∷ ws) = AllSmaller g w.goals × EachWay g ws

each_append : (g : Goal) (vs ws : List Way) → EachWay g vs → EachWay g ws → EachWay g (vs ++ ws)
each_append g [] ws a b = b
each_append g (v ∷ vs) ws a b = (a.0, each_append g vs ws a.1 b)

each_map : {X : Type 0} (g : Goal) (f : X → Way) (xs : List X) → ((x : X) → Contains xs x → AllSmaller g (f x).goals) → EachWay g (map f xs)
each_map g f [] a = tt
each_map g f (x ∷ xs) a = (a x (Contains-here x xs), each_map g f xs (λ y m. a y (Contains-there x xs y m)))

each_for : {X : Type 0} (g : Goal) (f : X → List Way) (xs : List X) → ((x : X) → EachWay g (f x)) → EachWay g (for_each f xs)
each_for g f [] a = tt
each_for g f (x ∷ xs) a = each_append g (f x) (for_each f xs) (a x) (each_for g f xs a)

each_cond : (g : Goal) (b : Bool) (vs ws : List Way) → EachWay g vs → EachWay g ws → EachWay g (cond b vs ws)
each_cond g true vs ws a c = a
each_cond g false vs ws a c = c

abbrev StandsIf : Option Read → Type 0
StandsIf None = Unit {0}
StandsIf (Some F) = StandsIn a_formula F

layer_if : (L G : Read) → StandsIf (layer_of L G)
layer_if L (spine (logical plain.spec_conjunction) (term A (term B no_terms))) = (tt, ((tt, (tt, (tt, tt))), ((tt, (tt, (tt, tt))), tt)))
layer_if L (spine (logical plain.spec_implication) (term A (term B no_terms))) = (tt, (tt, (tt, tt)))
layer_if L (spine (logical (plain.spec_universal A)) (term (lam B x t) no_terms)) = (tt, ((tt, (tt, (tt, tt))), tt))
layer_if L _ = tt

opened_if : (C : Read) → StandsIf (opened_once C)
opened_if (spine (logical plain.judgement) (term L (term G no_terms))) = layer_if L G
opened_if _ = tt

-- a defined atom's block is declared
as_block : (D : Declarations) (m : Sign) (F : Read) (d : Defined) → defined_as D m F ≡ Some d → (p : List ℕ) × (block_in D p ≡ Some d.block)
as_block D m (spine (constant p) ts) d e = go (block_in D p) refl e
  where
    go : (o : Option Block) → block_in D p ≡ o → option_map (λ b. record { sign = m; predicate = p; arguments = ts; block = b }) o ≡ Some d → (q : List ℕ) × (block_in D q ≡ Some d.block)
    go None f e = absurd (cc)
    go (Some b) f e =
        let made : Defined = record { sign = m; predicate = p; arguments = ts; block = b } in
        let same : made ≡ d = cc in
        (p, f ∙ ap (λ k. Some k.block) same)
as_block D m (spine (logical l) ts) d e = absurd (cc)
as_block D m (spine (nominal a) ts) d e = absurd (cc)
as_block D m (spine (variable y) ts) d e = absurd (cc)
as_block D m (spine (index i) ts) d e = absurd (cc)
as_block D m (lam A x t) d e = absurd (cc)

pub form_block : (D : Declarations) (f : Form) (F : Read) (d : Defined) → defined_form D f F ≡ Some d → (p : List ℕ) × (block_in D p ≡ Some d.block)
form_block D (marked m A) F d e = as_block D m A d e
form_block D other F d e = as_block D plain F d e
form_block D _ F d e = absurd (cc)

-- the clause of a choice is one of the definition
pub choice_defining : (D : Declarations) → HaveDefinitions D → (C : Read) (d : Defined) → defined_atom D C ≡ Some d → (held : List Nominal) (c : Choice) → Contains (choices_of held d) c → IsDefining (signature_in D) c.clause
choice_defining D defs C d e held c m =
    let b = form_block D (form_of C) C d e in
    let sg = signature_in D in
    let P : Clause (List ℕ) → Type 0 = IsDefining sg in
    let found = gathered_from (λ k. map (λ ns. record { clause = k; names = ns }) (choices (map (λ z. z.type) k.names) (in_order (support_of_all d.arguments)) held)) (filter (λ k. bytes_eq k.predicate d.predicate) d.block.clauses) c m in
    let made = Contains-from_map (λ ns. record { clause = found.0; names = ns }) (choices (map (λ z. z.type) (found.0).names) (in_order (support_of_all d.arguments)) held) c found.2 in
    let is : IsDefining sg found.0 = All-contains P (filter (λ k. bytes_eq k.predicate d.predicate) d.block.clauses) found.0 (All-filter (λ k. bytes_eq k.predicate d.predicate) P d.block.clauses (defs b.0 d.block b.1)) found.1 in
    subst P (ap (λ k. k.clause) made.2) is

module _ (D : Declarations) (now : Now) (g : Goal) (stands : StandsIn a_formula g.conclusion) where
  truth_smaller : (f : Form) → EachWay g (by_truth D now g f)
  truth_smaller truth = (tt, tt)
  truth_smaller _ = tt

  layer_smaller : (n : ℕ) → g.layers ≡ n → (o : Option Read) → StandsIf o → EachWay g (by_layer D now g n o)
  layer_smaller zero e o s = tt
  layer_smaller (suc n) e None s = tt
  layer_smaller (suc n) e (Some F) s = ((record { stands = s; less = in_layers refl (omega (arith, e)) }, tt), tt)

  form_smaller : (f : Form) → Parts (weight g.conclusion) f → EachWay g (by_form D now g f)
  form_smaller truth p = tt
  form_smaller falsity p = tt
  form_smaller (equal A t u) p = (tt, tt)
  form_smaller (both A B) p = (turn g.member_first, tt)
    where
      left : IsSmaller g (asking A g)
      left = record { stands = p.0; less = in_weight refl refl (let w = p.2 in omega (arith, w)) }

      right : IsSmaller g (asking B g)
      right = record { stands = p.1; less = in_weight refl refl (let w = p.2 in omega (arith, w)) }

      turn : (b : Bool) → AllSmaller g (in_turn b (asking A g) (asking B g))
      turn true = (right, (left, tt))
      turn false = (left, (right, tt))
  form_smaller (either A B) p = ((record { stands = p.0; less = in_weight refl refl (let w = p.2 in omega (arith, w)) }, tt), ((record { stands = p.1; less = in_weight refl refl (let w = p.2 in omega (arith, w)) }, tt), tt))
  form_smaller (implies A B) p = ((record { stands = p.1; less = in_weight refl refl (let w = p.2 in omega (arith, w)) }, tt), tt)
  form_smaller (nabla A F) p =
      let u = name_term (codes "x") (new_constant g.constants A) in
      ((record { stands = instance_stands F u p.0; less = in_weight refl refl (let w = p.1 in let same = instance_weighs F u p.0 in omega (arith, w, same)) }, tt), tt)
  form_smaller (exists A F) p =
      let u = new_term D now g A g.constants in
      ((record { stands = instance_stands F u p.0; less = in_weight refl refl (let w = p.1 in let same = instance_weighs F u p.0 in omega (arith, w, same)) }, tt), tt)
  form_smaller (for_all A F) p =
      let u = new_term D now g A (in_order (support g.conclusion)) in
      each_cond g g.untouched _ [] ((record { stands = instance_stands F u p.0; less = in_weight refl refl (let w = p.1 in let same = instance_weighs F u p.0 in omega (arith, w, same)) }, tt), tt) tt
  form_smaller (marked m A) p = tt
  form_smaller other p = layer_smaller g.layers refl (opened_once g.conclusion) (opened_if g.conclusion)

  definition_smaller : HaveDefinitions D → (n : ℕ) → g.depth ≡ n → (o : Option Defined) → defined_atom D g.conclusion ≡ o → EachWay g (by_definition D now g n o)
  definition_smaller defs zero e o f = tt
  definition_smaller defs (suc n) e None f = tt
  definition_smaller defs (suc n) e (Some d) f = each_cond g (unfolds d.sign) _ []
      (each_map g (by_choice D now g n d) (choices_of g.constants d) (λ c m. (
        record {
          stands = body_stands d.block.predicates (mark_above d.sign) _ (image_stands _ a_formula c.clause.body (choice_defining D defs g.conclusion d f g.constants c m).body.stands);
          less = in_depth (omega (arith, e));
        },
        tt,
      )))
      tt

  judgement_smaller : (n : ℕ) → g.depth ≡ n → (o : Option Judgement) → EachWay g (by_judgement D now g n o)
  judgement_smaller zero e o = tt
  judgement_smaller (suc n) e None = tt
  judgement_smaller (suc n) e (Some j) =
      each_cond g (unfolds j.sign) _ []
      (each_map g (by_rule D now g n j) (search_rules D j) (λ r m. (record { stands = demand_stands _ _ j r; less = in_depth (omega (arith, e)) }, tt)))
      tt

  hypothesis_smaller : (B : Read) → EachWay g (by_hypothesis D now g B)
  hypothesis_smaller B = each_map g (λ ps. equating D now g (permute ps (erased B)) (erased g.conclusion) ((g.conclusion, B) ∷ [])) (maps (in_order (support B)) g.constants) (λ ps m. tt)

  -- EACH WAY LEAVES SMALLER GOALS
  pub ways_smaller : HaveDefinitions D → EachWay g (ways D now g)
  ways_smaller defs =
      each_append g (by_truth D now g (form_of g.conclusion) ++ for_each (by_hypothesis D now g) g.hypotheses) _
      (each_append g (by_truth D now g (form_of g.conclusion)) _ (truth_smaller (form_of g.conclusion))
      (each_for g (by_hypothesis D now g) g.hypotheses (λ B. hypothesis_smaller B)))
      (each_cond g (is_blind now.flexible g.conclusion) [] _ tt
      (each_append g (by_form D now g (form_of g.conclusion) ++ by_definition D now g g.depth (defined_atom D g.conclusion)) _
      (each_append g (by_form D now g (form_of g.conclusion)) _ (form_smaller (form_of g.conclusion) (parts_of g.conclusion stands))
      (definition_smaller defs g.depth refl (defined_atom D g.conclusion) refl))
      (judgement_smaller g.depth refl (as_judgement g.conclusion))))
