-- A question that is asked lasts as the world grows, and stands for the same.
use Rattle.std.specs.List.{All}
use Rattle.std.specs.Option.{option_map}
use Rattle.std.specs.Prelude.{Contains}
use Rattle.std.proofs.Common.{◌≡◌, ◌≤◌, List, [], ◌∷◌, ◌++◌, map, length, Option, Some, None, refl, sym, ◌∙◌, ap, subst}
use Rattle.std.proofs.lemmas.List.Elements.{All-head, All-tail, All-weaker}
use Rattle.ab_term.specs.Types.{Ty, prop}
use Rattle.ab_term.specs.Terms.{Read}
use Rattle.ab_term.specs.Typing.{HasType}
use Rattle.ab_norm.specs.ab_types.specs.Entries.{Table, signature, IsExtendedBy as IsPartOf}
use Rattle.ab_norm.specs.ab_types.specs.Ids.{HoldsType, type_of}
use Rattle.ab_norm.specs.ab_types.specs.declared.ids.TypeId.{TypeId}
use Rattle.ab_norm.specs.ab_types.proofs.Entries.{same_type, type_still_held}
use Rattle.ab_norm.specs.ab_store.specs.declared.node.TermId.{TermId}
use Rattle.ab_norm.specs.ab_store.specs.Trees.{tree_of}
use Rattle.ab_norm.specs.ab_store.specs.Naming.{IsTerm}
use Rattle.ab_unify.proofs.Growth.{lifted}
use Rattle.ab_alternatives.specs.ab_instances.specs.ListReadings.{names_read}
use Rattle.ab_alternatives.specs.ab_instances.proofs.Made.{names_stay, names_held}
use Rattle.ab_logic.specs.WorldGrowth.{Grows}
use Rattle.ab_formulas.specs.Sequents.{Sequent}
use Rattle.ab_logic.specs.declared.world.World.{World}
use Rattle.ab_theory.specs.Pieces as plain
use Rattle.ab_theory.specs.Pieces.{given_term, variable_for, constant_for}
use Rattle.ab_theory.specs.Uses.{given_constants, Aim as Told}
use Rattle.ab_consequences.specs.UsesFollow.{antecedents_among, AreNone}
use Rattle.ab_uses.specs.UseCells.{HoldsPart, part_read, parts_read, HasParts, has_none, has_variable, has_given, has_constant, has_antecedent}
use Rattle.ab_uses.specs.declared.part.Part.{Part}
use Rattle.ab_uses.specs.declared.part.Part.TheVariants.{Variable, Given, Constant, Antecedent}
use Rattle.ab_uses.specs.UseSolutions.{IsFormulaTermIfAny, aim_in}
use Rattle.ab_uses.specs.Questions.{IsPosed, using_at}
use Rattle.ab_uses.specs.declared.aim.Aim.{Aim}
use Rattle.ab_uses.specs.declared.question.Question.{Question}

module _ (T U : Table) (part : IsPartOf T U) where
  pub type_stays : (a : TypeId) → HoldsType T a → type_of U a ≡ type_of T a
  type_stays a h = ap (λ t. type_of t a) part.1 ∙ same_type T part.0 a h

  -- the parts in front, by a larger table
  front_stays : {ps : List plain.Part} {F : Read} → HasParts (signature T) ps F → HasParts (signature U) ps F
  front_stays has_none = has_none
  front_stays (has_variable p) = has_variable (front_stays p)
  front_stays (has_given d p) = has_given (lifted T U part d) (front_stays p)
  front_stays (has_constant p) = has_constant (front_stays p)
  front_stays (has_antecedent p) = has_antecedent (front_stays p)

module _ (w v : World) (g : Grows w v) where
  term_stays : (t : TermId) (A : Ty) → IsTerm w.types w.store [] t A → IsTerm v.types v.store [] t A
  term_stays t A h = (g.ids t h.0, subst (λ r. HasType (signature v.types) [] r A) (sym (g.readings t h.0)) (lifted w.types v.types g.types h.1))

  any_stays : (o : Option TermId) → IsFormulaTermIfAny w.types w.store o → IsFormulaTermIfAny v.types v.store o
  any_stays None h = tt
  any_stays (Some t) h = term_stays t prop h

  any_read : (o : Option TermId) → IsFormulaTermIfAny w.types w.store o → option_map (tree_of v.types v.store) o ≡ option_map (tree_of w.types w.store) o
  any_read None h = refl
  any_read (Some t) h = ap Some (g.readings t h.0)

  all_read : (os : List (Option TermId)) → All (IsFormulaTermIfAny w.types w.store) os → map (option_map (tree_of v.types v.store)) os ≡ map (option_map (tree_of w.types w.store)) os
  all_read [] all = refl
  all_read (o ∷ os) all =
      ap (λ r. r ∷ map (option_map (tree_of v.types v.store)) os) (any_read o (All-head (IsFormulaTermIfAny w.types w.store) o os all))
      ∙ ap (λ l. option_map (tree_of w.types w.store) o ∷ l) (all_read os (All-tail (IsFormulaTermIfAny w.types w.store) o os all))

  same_aim : (a : Aim) → All (IsFormulaTermIfAny w.types w.store) a.hypotheses.items → IsFormulaTermIfAny w.types w.store a.conclusion → aim_in v.types v.store a ≡ aim_in w.types w.store a
  same_aim a hs c =
      ap (λ l. record { hypotheses = l; conclusion = option_map (tree_of v.types v.store) a.conclusion }) (all_read a.hypotheses.items hs)
      ∙ ap (λ o. record { hypotheses = map (option_map (tree_of w.types w.store)) a.hypotheses.items; conclusion = o }) (any_read a.conclusion c)

  part_stays : (p : Part) → HoldsPart w.types w.store p → HoldsPart v.types v.store p
  part_stays (Variable x a) h = type_still_held w.types v.types g.types a h
  part_stays (Given t) h = g.ids t h
  part_stays (Constant a) h = type_still_held w.types v.types g.types a h
  part_stays Antecedent h = tt

  same_part : (p : Part) → HoldsPart w.types w.store p → part_read v.types v.store p ≡ part_read w.types w.store p
  same_part (Variable x a) h = ap (variable_for x) (type_stays w.types v.types g.types a h)
  same_part (Given t) h = ap given_term (g.readings t h)
  same_part (Constant a) h = ap constant_for (type_stays w.types v.types g.types a h)
  same_part Antecedent h = refl

  pub same_parts : (ps : List Part) → All (HoldsPart w.types w.store) ps → parts_read v.types v.store ps ≡ parts_read w.types w.store ps
  same_parts [] all = refl
  same_parts (p ∷ ps) all =
      ap (λ r. r ∷ parts_read v.types v.store ps) (same_part p (All-head (HoldsPart w.types w.store) p ps all))
      ∙ ap (λ l. part_read w.types w.store p ∷ l) (same_parts ps (All-tail (HoldsPart w.types w.store) p ps all))

  module _ (s : Sequent) (q : Question) (aim : Aim) (h : IsPosed w s q aim) where
    -- THE SAME IS ASKED
    pub same_using : using_at v s q aim ≡ using_at w s q aim
    same_using =
        ap (λ l. record { goal = s; parts = l; aim = aim_in v.types v.store aim; formula = tree_of v.types v.store q.formula }) (same_parts q.parts.items h.parts)
        ∙ ap (λ a. record { goal = s; parts = parts_read w.types w.store q.parts.items; aim = a; formula = tree_of v.types v.store q.formula }) (same_aim aim h.hypotheses h.conclusion)
        ∙ ap (λ F. record { goal = s; parts = parts_read w.types w.store q.parts.items; aim = aim_in w.types w.store aim; formula = F }) (g.readings q.formula h.formula.0)

    -- AND IT MAY BE ASKED STILL
    pub still_posed : IsPosed v s q aim
    still_posed = record {
      world = g.world;
      held = names_held w.types v.types g.types q.held.items h.held;
      names = names_stay w.types v.types g.types q.held.items h.held ∙ h.names;
      known = names_held w.types v.types g.types q.known.items h.known;
      all_known = λ a m.
          let same = ap (λ l. l ++ given_constants (parts_read v.types v.store q.parts.items)) (names_stay w.types v.types g.types q.held.items h.held)
          ∙ ap (λ ps. names_read w.types q.held.items ++ given_constants ps) (same_parts q.parts.items h.parts) in
          subst (λ l. Contains l a) (sym (names_stay w.types v.types g.types q.known.items h.known)) (h.all_known a (subst (λ l. Contains l a) same m));
      parts = All-weaker (HoldsPart w.types w.store) (HoldsPart v.types v.store) part_stays q.parts.items h.parts;
      formula = term_stays q.formula prop h.formula;
      front = subst (λ ps. HasParts (signature v.types) ps (tree_of v.types v.store q.formula)) (sym (same_parts q.parts.items h.parts))
          (subst (HasParts (signature v.types) (parts_read w.types w.store q.parts.items)) (sym (g.readings q.formula h.formula.0)) (front_stays w.types v.types g.types h.front));
      hypotheses = All-weaker (IsFormulaTermIfAny w.types w.store) (IsFormulaTermIfAny v.types v.store) any_stays aim.hypotheses.items h.hypotheses;
      conclusion = any_stays aim.conclusion h.conclusion;
      enough = subst (λ ps. length aim.hypotheses.items ≤ antecedents_among ps) (sym (same_parts q.parts.items h.parts)) h.enough;
      alone = λ e. subst (λ (a : Told). AreNone a.hypotheses) (sym (same_aim aim h.hypotheses h.conclusion)) (h.alone e);
    }
