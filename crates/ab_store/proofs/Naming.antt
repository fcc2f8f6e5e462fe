-- A nominal constant of a kind, as a term.
use Rattle.std.proofs.Common.{◌≡◌, ℕ, List, [], map, sym, ◌∙◌, ap, subst, Some}
use Rattle.ab_term.specs.Types.{Ty, kind}
use Rattle.ab_term.specs.Terms.{Nominal, nominal, spine, no_terms, terms_of, Read}
use Rattle.ab_term.specs.Typing.{Signature, HasType, typed_spine, take_none}
use Rattle.ab_types.specs.Entries.{Table, signature}
use Rattle.ab_types.specs.Ids.{type_of}
use Rattle.ab_types.specs.declared.ids.TypeId.{TypeId}
use Rattle.ab_store.specs.declared.node.TermId.{TermId}
use Rattle.ab_store.specs.declared.node.Head.TheVariants as head
use Rattle.ab_store.specs.Trees.{Contents, Holds, tree_of, head_reading}
use Rattle.ab_store.specs.Naming.{IsTerm}

name_typed : (sg : Signature) (a : Nominal) (k : List ℕ) → a.type ≡ kind k → HasType sg {Var = ℕ} {Hint = List ℕ} [] (spine (nominal a) no_terms) (kind k)
name_typed sg a k e = typed_spine (ap Some e) take_none

pub name_term : (types : Table) (old new : Contents) (t : TermId) (ty : TypeId) (number : ℕ) (args : List TermId) (A : Ty) (k : List ℕ) → Holds new t
    → tree_of types new t ≡ spine (head_reading types old (head.Nominal number ty)) (terms_of (map (tree_of types old) args)) → args ≡ []
    → type_of types ty ≡ kind k → A ≡ type_of types ty → IsTerm types new [] t A
name_term types old new t ty number args A k held tree none is same = (
  held,
  subst (λ B. HasType (signature types) [] (tree_of types new t) B) (sym (same ∙ is))
      (subst (λ (r : Read). HasType (signature types) [] r (kind k))
      (sym (tree ∙ ap (λ l. spine (head_reading types old (head.Nominal number ty)) (terms_of (map (tree_of types old) l))) none))
      (name_typed (signature types) (record { number = number; type = type_of types ty }) k is)),
)
