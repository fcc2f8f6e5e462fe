-- What the row of the command says, by how the numbers stand in the goal.
use Rattle.std.proofs.Common.{◌≡◌, ◌≢◌, inl, inr, ℕ, List, [], ◌∷◌, Option, Some, None, refl, subst}
use Rattle.ab_term.specs.Names as tree
use Rattle.ab_norm.specs.ab_types.specs.Entries.{Table}
use Rattle.ab_norm.specs.ab_types.specs.Ids.{type_of}
use Rattle.ab_norm.specs.ab_types.specs.declared.ids.TypeId.{TypeId}
use Rattle.ab_term.specs.Terms.{Read}
use Rattle.ab_grammar.specs.CommandTrees as told
use Rattle.ab_formulas.specs.Declarations.{Declarations}
use Rattle.ab_formulas.specs.NewNames.{Label}
use Rattle.ab_formulas.specs.Sequents.{Sequent, formula_of, goal_names, proving, assuming, without}
use Rattle.ab_formulas.specs.Cycles.{MayCycle, cycle}
use Rattle.ab_sequents.specs.NameTypes.{IsCommon}
use Rattle.ab_sequents.specs.declared.name_types.Standing.{Standing}
use Rattle.ab_sequents.specs.declared.name_types.Standing.TheVariants.{Nowhere, At, Mixed}
use Rattle.ab_effects.specs.ProofCommands.{effect}
use Rattle.ab_meaning.specs.Refusals.{type_clash, no_hypothesis, wrong_shape}
use Rattle.ab_effects.specs.Row.{Leads, Refuses}

module _ (types : Table) (D : Declarations) (l : Label) (ns : List ℕ) (s : Sequent) (k : Standing) (common : IsCommon types ns (goal_names s) k) where
  told_so : (j : Standing) → k ≡ j → IsCommon types ns (goal_names s) j
  told_so j e = subst (IsCommon types ns (goal_names s)) e common

  pub mixed_refused : k ≡ Mixed → (x : Option (List ℕ)) → Refuses (effect D l (told.permute ns x) s) (type_clash 0)
  mixed_refused e None = inl (told_so Mixed e, refl)
  mixed_refused e (Some H) = inl (told_so Mixed e, refl)

  pub nowhere_refused : k ≡ Nowhere → Refuses (effect D l (told.permute ns None) s) wrong_shape
  nowhere_refused e = let so = told_so Nowhere e in inr (tt, so.0, inl (so.1, refl))

  pub nowhere_refused_in : k ≡ Nowhere → (H : List ℕ) (F : Read) → formula_of s H ≡ Some F → Refuses (effect D l (told.permute ns (Some H)) s) wrong_shape
  nowhere_refused_in e H F has = let so = told_so Nowhere e in inr (tt, so.0, inr (F, has, inl (so.1, refl)))

  missing : MayCycle ns (goal_names s) → (H : List ℕ) → formula_of s H ≡ None → Refuses (effect D l (told.permute ns (Some H)) s) (no_hypothesis H)
  missing may H none = inr (tt, may, inl (none, refl))

  pub nowhere_missing : k ≡ Nowhere → (H : List ℕ) → formula_of s H ≡ None → Refuses (effect D l (told.permute ns (Some H)) s) (no_hypothesis H)
  nowhere_missing e H none = missing (told_so Nowhere e).0 H none

  pub at_missing : (ty : TypeId) → k ≡ At ty → (H : List ℕ) → formula_of s H ≡ None → Refuses (effect D l (told.permute ns (Some H)) s) (no_hypothesis H)
  at_missing ty e H none = missing (told_so (At ty) e).0 H none

  pub conclusion_leads : (ty : TypeId) → k ≡ At ty → Leads (effect D l (told.permute ns None) s) (proving (tree.permute (cycle (type_of types ty) ns) s.conclusion) s ∷ [])
  conclusion_leads ty e = let so = told_so (At ty) e in (tt, so.0, (type_of types ty, so.2, refl))

  pub hypothesis_leads : (ty : TypeId) → k ≡ At ty → (H : List ℕ) (F : Read) → formula_of s H ≡ Some F
      → Leads (effect D l (told.permute ns (Some H)) s) (assuming H (tree.permute (cycle (type_of types ty) ns) F) (without H s) ∷ [])
  hypothesis_leads ty e H F has = let so = told_so (At ty) e in (tt, so.0, (F, has, (type_of types ty, so.2, refl)))
