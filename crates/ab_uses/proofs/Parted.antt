-- Parts on shared terms, in a table and a store that grow.
use Rattle.std.proofs.Common.{◌≡◌, List, [], ◌∷◌, refl, sym, ◌∙◌, ap, subst}
use Rattle.std.specs.List.{All}
use Rattle.std.proofs.lemmas.List.Elements.{All-head, All-tail, All-weaker}
use Rattle.ab_norm.specs.ab_types.specs.Entries.{Table, signature, IsExtendedBy as IsPartOf}
use Rattle.ab_norm.specs.ab_types.specs.Ids.{HoldsType, type_of}
use Rattle.ab_norm.specs.ab_types.specs.declared.ids.TypeId.{TypeId}
use Rattle.ab_norm.specs.ab_types.proofs.Entries.{same_type, type_still_held, same_signature}
use Rattle.ab_term.specs.Typing.{IsExtendedBy}
use Rattle.ab_norm.specs.ab_store.specs.Trees.{Contents}
use Rattle.ab_unify.specs.StoreChanges.{Grows}
use Rattle.ab_theory.specs.Pieces.{variable_for, given_term, constant_for}
use Rattle.ab_uses.specs.UseCells.{part_read, parts_read, HoldsPart}
use Rattle.ab_uses.specs.declared.part.Part.{Part}
use Rattle.ab_uses.specs.declared.part.Part.TheVariants.{Variable, Given, Constant, Antecedent}

pub type_stays : (T U : Table) → IsPartOf T U → (id : TypeId) → HoldsType T id → type_of U id ≡ type_of T id
type_stays T U e id h = ap (λ X. type_of X id) e.1 ∙ same_type T e.0 id h

module _ (T U : Table) (S V : Contents) (g : Grows T S U V) where
  pub part_stays : (p : Part) → HoldsPart T S p → part_read U V p ≡ part_read T S p
  part_stays (Variable x a) h = ap (variable_for x) (type_stays T U g.table a h)
  part_stays (Given t) h = ap given_term (g.trees t h).1
  part_stays (Constant a) h = ap constant_for (type_stays T U g.table a h)
  part_stays Antecedent h = refl

  pub parts_stay : (ps : List Part) → All (HoldsPart T S) ps → parts_read U V ps ≡ parts_read T S ps
  parts_stay [] h = refl
  parts_stay (p ∷ ps) h =
      ap (λ q. q ∷ parts_read U V ps) (part_stays p (All-head (HoldsPart T S) p ps h))
      ∙ ap (λ qs. part_read T S p ∷ qs) (parts_stay ps (All-tail (HoldsPart T S) p ps h))

  pub part_held : (p : Part) → HoldsPart T S p → HoldsPart U V p
  part_held (Variable x a) h = type_still_held T U g.table a h
  part_held (Given t) h = (g.trees t h).0
  part_held (Constant a) h = type_still_held T U g.table a h
  part_held Antecedent h = tt

  pub parts_held : (ps : List Part) → All (HoldsPart T S) ps → All (HoldsPart U V) ps
  parts_held ps h = All-weaker (HoldsPart T S) (HoldsPart U V) (λ p k. part_held p k) ps h

  pub signature_more : IsExtendedBy (signature T) (signature U)
  signature_more = subst (λ X. IsExtendedBy (signature T) (signature X)) (sym g.table.1) (same_signature T g.table.0)
