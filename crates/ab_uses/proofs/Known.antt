-- The constants that aren't new, in order: choices are the same.
use Rattle.std.specs.Prelude.{Contains}
use Rattle.std.specs.List.{All}
use Rattle.std.proofs.Common.{◌≡◌, inl, inr, List, ◌++◌, sym, ◌∙◌, ap, subst}
use Rattle.std.proofs.lemmas.List.{map-append}
use Rattle.std.proofs.lemmas.List.Elements.{Contains-append_left, Contains-append_right, Contains-append_cases}
use Rattle.ab_term.specs.Types.{Ty}
use Rattle.ab_term.specs.Terms.{Nominal}
use Rattle.ab_norm.specs.ab_types.specs.Entries.{Table, IsExtendedBy as IsPartOf}
use Rattle.ab_norm.specs.declared.nominal.Nominal.{Nominal as Kept}
use Rattle.ab_norm.specs.Nominals.{nominal_of, HoldsNominal}
use Rattle.ab_unifiers.specs.Choices.{in_order, choices}
use Rattle.ab_unifiers.proofs.Choosing.{ordered_contains, contains_ordered}
use Rattle.ab_alternatives.specs.ab_instances.specs.ListReadings.{names_read}
use Rattle.ab_alternatives.specs.ab_instances.proofs.Made.{names_stay}
use Rattle.ab_formulas.specs.Members.{SameMembers}
use Rattle.ab_formulas.proofs.AlternativesAgreeing.{choices_same}

both_members : (xs ys : List Nominal) → SameMembers (in_order xs ++ in_order ys) (xs ++ ys)
both_members xs ys a = (
  λ m. elim (Contains-append_cases (in_order xs) (in_order ys) a m) [
    | inl l ↦ Contains-append_left xs ys a (contains_ordered xs a l)
    | inr r ↦ Contains-append_right xs ys a (contains_ordered ys a r)
  ],
  λ m. elim (Contains-append_cases xs ys a m) [
    | inl l ↦ Contains-append_left (in_order xs) (in_order ys) a (ordered_contains xs a l)
    | inr r ↦ Contains-append_right (in_order xs) (in_order ys) a (ordered_contains ys a r)
  ],
)

-- the choices are the same, if constants that aren't new are put in order
pub choices_by_known : (As : List Ty) (free xs ys : List Nominal) → choices As free (in_order xs ++ in_order ys) ≡ choices As free (xs ++ ys)
choices_by_known As free xs ys = choices_same As free (in_order xs ++ in_order ys) (xs ++ ys) (both_members xs ys)

-- the goal's constants and those of given terms are known
pub known_within : (held known gs cs : List Nominal) → held ≡ in_order gs → known ≡ in_order gs ++ in_order cs → (a : Nominal) → Contains (held ++ cs) a → Contains known a
known_within held known gs cs held_is known_is a m =
    subst (λ l. Contains l a) (sym known_is)
    (elim (Contains-append_cases held cs a m) [
      | inl l ↦ Contains-append_left (in_order gs) (in_order cs) a (subst (λ k. Contains k a) held_is l)
      | inr r ↦ Contains-append_right (in_order gs) (in_order cs) a (ordered_contains cs a r)
    ])

-- and with them those that are chosen
pub all_within : (T U : Table) → IsPartOf T U → (known names all : List Kept) → all ≡ known ++ names → All (HoldsNominal T) known → All (HoldsNominal T) names
    → (gs cs held : List Nominal) → held ≡ in_order gs → ((a : Nominal) → Contains (held ++ cs) a → Contains (names_read T known) a)
    → (a : Nominal) → Contains (names_read T names ++ (gs ++ cs)) a → Contains (names_read U all) a
all_within T U part known names all all_is known_held names_held gs cs held held_is within a m =
    let e = ap (names_read U) all_is
    ∙ map-append (nominal_of U) known names
    ∙ ap (λ l. l ++ names_read U names) (names_stay T U part known known_held)
    ∙ ap (λ l. names_read T known ++ l) (names_stay T U part names names_held) in
    subst (λ l. Contains l a) (sym e)
    (elim (Contains-append_cases (names_read T names) (gs ++ cs) a m) [
      | inl l ↦ Contains-append_right (names_read T known) (names_read T names) a l
      | inr r ↦ Contains-append_left (names_read T known) (names_read T names) a (within a (elim (Contains-append_cases gs cs a r) [
        | inl k ↦ Contains-append_left held cs a (subst (λ l. Contains l a) (sym held_is) (ordered_contains gs a k))
        | inr k ↦ Contains-append_right held cs a k
      ]))
    ])
