-- WHERE A CONCLUSION HAS COME TO STAND: the sequent's variables are cells there, what is put in for variables in scope holds these alone, and terms for what stays open bring no constants.
use Rattle.std.proofs.Common.{◌≡◌, inl, inr, ℕ, List, [], ◌∷◌, ◌++◌, map, Some, None, option_map, sym, ◌∙◌, ap, subst}
use Rattle.std.specs.Prelude.{All, Contains, slice_get}
use Rattle.std.proofs.lemmas.List.Elements.{All-contains, Contains-append_cases, Contains-append_left, Contains-append_right}
use Rattle.ab_term.specs.Terms as tree
use Rattle.ab_term.specs.Terms.{Nominal, Read}
use Rattle.ab_term.specs.Typing.{Signature}
use Rattle.ab_term.specs.Names.{support, permute, moved_by}
use Rattle.ab_term.specs.Variables.{variables, value_in, image}
use Rattle.ab_term.specs.Sameness.{same_number}
use Rattle.ab_term.proofs.Lists.{Contains-none, Contains-here, Contains-there, Contains-from_map, All-from_contains}
use Rattle.ab_term.proofs.Stands.{variables-image}
use Rattle.ab_unifiers.specs.Replacements.{Cell}
use Rattle.ab_unifiers.specs.Unifiers.{IsCell}
use Rattle.ab_formulas.specs.GoalTerms.{HoldsOnly}
use Rattle.ab_formulas.specs.Sequents.{Variable, Sequent, in_terms, names_of}
use Rattle.ab_theory.specs.Equations.{AreCells}
use Rattle.ab_search_trees.proofs.Unmarked.{variables_rename}
use Rattle.ab_search_proofs.specs.Likeness.{StandIn, replaced, put_in, replacing, AreStandIns}
use Rattle.ab_search_proofs.proofs.Back.{found_in}
use Rattle.ab_search_proofs.proofs.StandIns.{stand_ins_known}

pub cell_here : (s : Sequent) (cells : List (Cell (List ℕ))) → AreCells cells s → (y : tree.Variable ℕ) → Contains (map in_terms s.variables) y → IsCell cells y
cell_here s cells are y m =
    let from = Contains-from_map in_terms s.variables y m in
    subst (IsCell cells) from.2 (ap (option_map (λ (k : Cell (List ℕ)). k.type)) (All-contains (λ (v : Variable). slice_get cells v.number ≡ Some (record { hint = v.name; type = v.type })) s.variables from.0 are from.1))

-- WHAT IS PUT IN THERE
pub stood_known : (sg : Signature) (s : Sequent) (vs : List StandIn) → AreStandIns s vs → (ps : List (Nominal × Nominal)) (ys : List (tree.Variable ℕ)) → map replaced vs ≡ ys → (us : List Read) → All (HoldsOnly ys) us
    → All (HoldsOnly (map in_terms s.variables)) (map (λ u. permute ps (image same_number (replacing vs) u)) us)
stood_known sg s vs are ps ys same us known =
    let here : Read → Read = λ u. permute ps (image same_number (replacing vs) u) in
    All-from_contains (HoldsOnly (map in_terms s.variables)) (map here us) (λ w i.
    let from = Contains-from_map here us w i in
    let u = from.0 in
    subst (HoldsOnly (map in_terms s.variables)) from.2 (All-from_contains (Contains (map in_terms s.variables)) (variables (here u)) (λ y l.
    elim (variables-image (value_in same_number (replacing vs)) u y (subst (λ l. Contains l y) (variables_rename (moved_by ps) (image same_number (replacing vs) u)) l)) [
      | inl a ↦ (
          let scoped : Contains (map replaced vs) y = subst (λ l. Contains l y) (sym same) (All-contains (Contains ys) (variables u) y (All-contains (HoldsOnly ys) us u known from.1) a.0) in
          let v = Contains-from_map replaced vs y scoped in
          absurd (let bad : None ≡ Some (put_in v.0) = sym a.1 ∙ ap (value_in same_number (replacing vs)) (sym v.2) ∙ found_in sg s vs are.numbers_differ v.0 v.1 in cc))
      | inr a ↦ stand_ins_known s vs are a.0 a.1 (a.2).1 y a.3
    ])))

-- CONSTANTS of some of the values
pub names_from : (values us : List Read) → ((v : Read) → Contains values v → (a : Nominal) → Contains (support v) a → Contains (names_of us) a) → (ts : List Read) → ((t : Read) → Contains ts t → Contains values t)
    → (a : Nominal) → Contains (names_of ts) a → Contains (names_of us) a
names_from values us held [] f a m = absurd (Contains-none a m)
names_from values us held (t ∷ ts) f a m = elim (Contains-append_cases (support t) (names_of ts) a m) [
  | inl i ↦ held t (f t (Contains-here t ts)) a i
  | inr i ↦ names_from values us held ts (λ u j. f u (Contains-there t ts u j)) a i
]

-- behind others
pub kept_behind : (front ns ms : List Nominal) → ((a : Nominal) → Contains ns a → Contains ms a) → (a : Nominal) → Contains (front ++ ns) a → Contains (front ++ ms) a
kept_behind front ns ms f a m = elim (Contains-append_cases front ns a m) [
  | inl i ↦ Contains-append_left front ms a i
  | inr i ↦ Contains-append_right front ms a (f a i)
]
