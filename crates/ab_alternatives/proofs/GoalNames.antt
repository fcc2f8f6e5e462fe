-- The constants of a goal's formulas, and the choices by them.
use Rattle.std.specs.List.{All}
use Rattle.std.specs.Prelude.{filter}
use Rattle.std.proofs.Common.{◌≡◌, ℕ, List, [], ◌∷◌, ◌++◌, bytes_eq, map, refl, sym, ◌∙◌, ap, subst}
use Rattle.std.proofs.lemmas.List.Elements.{All-cons, All-map}
use Rattle.ab_term.specs.Terms.{Nominal, terms_of, Read}
use Rattle.ab_term.specs.Names.{support, support_of_all}
use Rattle.ab_norm.specs.ab_store.specs.declared.node.TermId.{TermId}
use Rattle.ab_unifiers.specs.Clauses.{Clause}
use Rattle.ab_unifiers.specs.Choices.{in_order, for_each}
use Rattle.ab_unifiers.proofs.Choosing.{ordered_contains, contains_ordered}
use Rattle.ab_instances.specs.ListReadings.{given_at}
use Rattle.ab_logic.specs.Worlds.{Holds, read}
use Rattle.ab_logic.specs.SequentReadings.{sequent_of, hypothesis_of, HoldsSequent}
use Rattle.ab_formulas.specs.Sequents.{names_of, formulas, goal_names}
use Rattle.ab_logic.specs.declared.world.World.{World}
use Rattle.ab_logic.specs.declared.sequent.Sequent.{Sequent as Kept}
use Rattle.ab_logic.specs.declared.sequent.Hypothesis.{Hypothesis}
use Rattle.ab_theory.specs.Atoms.{Defined, choices_of}
use Rattle.ab_formulas.specs.Members.{SameMembers}
use Rattle.ab_formulas.proofs.AlternativesAgreeing.{choices_same}
use Rattle.ab_alternatives.specs.ChoiceCounts.{choices_with}

given_names : (ts : List Read) → support_of_all (terms_of ts) ≡ names_of ts
given_names [] = refl
given_names (t ∷ ts) = ap (λ l. support t ++ l) (given_names ts)

module _ (w : World) where
  same_formulas : (hs : List Hypothesis) → map (read w) (map (λ (h : Hypothesis). h.formula) hs) ≡ formulas (map (hypothesis_of w) hs)
  same_formulas [] = refl
  same_formulas (h ∷ hs) = ap (λ l. read w h.formula ∷ l) (same_formulas hs)

  module _ (s : Kept) (ids : List TermId) (is : ids ≡ s.conclusion ∷ map (λ (h : Hypothesis). h.formula) s.hypotheses) where
    pub names_are : in_order (support_of_all (given_at w.types w.store ids)) ≡ in_order (goal_names (sequent_of w s))
    names_are = ap in_order
        (given_names (map (read w) ids)
        ∙ ap (λ l. names_of (map (read w) l)) is
        ∙ ap (λ l. names_of (read w s.conclusion ∷ l)) (same_formulas s.hypotheses))

    pub ids_held : HoldsSequent w s → All (Holds w) ids
    ids_held h =
        subst (All (Holds w)) (sym is)
        (All-cons (Holds w) s.conclusion (map (λ (k : Hypothesis). k.formula) s.hypotheses) h.conclusion (All-map (Holds w) (λ (k : Hypothesis). k.formula) s.hypotheses h.hypotheses))

for_each_same : {X Y : Type 0} (f g : X → List Y) → ((x : X) → f x ≡ g x) → (xs : List X) → for_each f xs ≡ for_each g xs
for_each_same f g e [] = refl
for_each_same f g e (x ∷ xs) = ap (λ l. l ++ for_each f xs) (e x) ∙ ap (λ l. g x ++ l) (for_each_same f g e xs)

-- the choices are the same by the same constants
choices_of_same : (xs ys : List Nominal) → SameMembers xs ys → (d : Defined) → choices_of xs d ≡ choices_of ys d
choices_of_same xs ys same d =
    for_each_same (choices_with xs d) (choices_with ys d)
    (λ c. ap (map (λ ns. record { clause = c; names = ns })) (choices_same (map (λ z. z.type) c.names) (in_order (support_of_all d.arguments)) xs ys same))
    (filter (λ (c : Clause (List ℕ)). bytes_eq c.predicate d.predicate) d.block.clauses)

-- constants put in order are the same ones
pub members_in_order : (ns xs : List Nominal) → ns ≡ in_order xs → SameMembers ns xs
members_in_order ns xs e = subst (λ l. SameMembers l xs) (sym e) (λ a. (contains_ordered xs a, ordered_contains xs a))

-- and so are the choices by them
pub choices_in_order : (ns xs : List Nominal) → ns ≡ in_order xs → (d : Defined) → choices_of ns d ≡ choices_of xs d
choices_in_order ns xs e d = ap (λ l. choices_of l d) e ∙ choices_of_same (in_order xs) xs (λ a. (contains_ordered xs a, ordered_contains xs a)) d
