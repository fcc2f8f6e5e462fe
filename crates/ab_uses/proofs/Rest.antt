-- One part is taken off, and then the others.
use Rattle.std.proofs.Common.{◌≡◌, ℕ, ◌+◌, List, [], ◌∷◌, ◌++◌, map, length, false, ◌&&◌, refl, sym, ◌∙◌, ap, subst, length-append}
use Rattle.std.specs.List.{All}
use Rattle.std.proofs.lemmas.List.{length-map}
use Rattle.std.proofs.lemmas.List.Elements.{All-tail}
use Rattle.ab_term.specs.Terms as tree
use Rattle.ab_norm.specs.ab_types.specs.Entries.{Table, signature}
use Rattle.ab_term.specs.Terms.{Read}
use Rattle.ab_norm.specs.ab_store.specs.Trees.{Contents, tree_of}
use Rattle.ab_norm.specs.declared.nominal.Nominal.{Nominal}
use Rattle.ab_norm.specs.Nominals.{HoldsNominal}
use Rattle.ab_unify.specs.Problem.{cell_read, cells_read}
use Rattle.ab_unify.specs.StoreChanges.{Grows}
use Rattle.ab_alternatives.specs.ab_instances.specs.ListReadings.{names_read}
use Rattle.ab_alternatives.specs.ab_instances.proofs.Made.{names_stay, names_held}
use Rattle.ab_theory.specs.Pieces as plain
use Rattle.ab_theory.specs.Pieces.{variable_for, given_term, constant_for, antecedent}
use Rattle.ab_theory.specs.Uses.{Use, used, types_chosen}
use Rattle.ab_consequences.specs.UseStages.{stages_of}
use Rattle.ab_uses.specs.UseCells.{part_read, parts_read, HoldsPart, HasParts, names_left, and_then, GoesOn}
use Rattle.ab_uses.specs.declared.made_uses.Made.{Made}
use Rattle.ab_uses.specs.declared.part.Part.{Part}
use Rattle.ab_uses.proofs.Fronts.{front_rest, front_more}
use Rattle.ab_uses.proofs.Parted.{parts_stay, signature_more}
use Rattle.ab_uses.proofs.Steps.{used_step, stages_step}

pub chosen_apart : (p : plain.Part) (ps : List plain.Part) → types_chosen (p ∷ ps) ≡ types_chosen (p ∷ []) ++ types_chosen ps
chosen_apart (variable_for x A) ps = refl
chosen_apart (given_term t) ps = refl
chosen_apart (constant_for A) ps = refl
chosen_apart antecedent ps = refl

-- the constants that are left fit the parts that are left
pub fit_rest : (p : plain.Part) (ps : List plain.Part) (names : List tree.Nominal) → map (λ a. a.type) names ≡ types_chosen (p ∷ ps) → map (λ a. a.type) (names_left p names) ≡ types_chosen ps
fit_rest (variable_for x A) ps [] e = e
fit_rest (variable_for x A) ps (a ∷ names) e = e
fit_rest (given_term t) ps [] e = e
fit_rest (given_term t) ps (a ∷ names) e = e
fit_rest (constant_for A) ps [] e = absurd (cc)
fit_rest (constant_for A) ps (a ∷ names) e = cc
fit_rest antecedent ps [] e = e
fit_rest antecedent ps (a ∷ names) e = e

pub left_read : (types : Table) (p : plain.Part) (names : List Nominal) → names_read types (names_left p names) ≡ names_left p (names_read types names)
left_read types p [] = refl
left_read types (variable_for x A) (a ∷ names) = refl
left_read types (given_term t) (a ∷ names) = refl
left_read types (constant_for A) (a ∷ names) = refl
left_read types antecedent (a ∷ names) = refl

pub left_held : (P : Nominal → Type 0) (p : plain.Part) (names : List Nominal) → All P names → All P (names_left p names)
left_held P p [] h = h
left_held P (variable_for x A) (a ∷ names) h = h
left_held P (given_term t) (a ∷ names) h = h
left_held P (constant_for A) (a ∷ names) h = All-tail P a names h
left_held P antecedent (a ∷ names) h = h

module _ (T U : Table) (S V : Contents) (g : Grows T S U V) (m k : Made) (held chosen left : List Nominal) (held_all : All (HoldsNominal T) held) (chosen_all : All (HoldsNominal T) chosen)
    (p : Part) (rest : List Part) (rest_all : All (HoldsPart T S) rest)
    (fit : map (λ a. a.type) (names_read T chosen) ≡ types_chosen (parts_read T S (p ∷ rest))) (left_is : left ≡ names_left (part_read T S p) chosen) where
  abbrev C : List tree.Nominal
  C = names_read T chosen

  abbrev F : Read
  F = tree_of T S m.result

  abbrev first : Use
  first = used (names_read T held) (length S.cells) (part_read T S p ∷ []) C F

  pub names_are : names_read U left ≡ names_left (part_read T S p) C
  names_are = ap (names_read U) left_is ∙ names_stay T U g.table (names_left (part_read T S p) chosen) (left_held (HoldsNominal T) (part_read T S p) chosen chosen_all) ∙ left_read T (part_read T S p) chosen

  pub names_are_held : All (HoldsNominal U) left
  names_are_held = subst (All (HoldsNominal U)) (sym left_is) (left_held (HoldsNominal U) (part_read T S p) chosen (names_held T U g.table chosen chosen_all))

  parts_are : parts_read U V rest ≡ parts_read T S rest
  parts_are = parts_stay T U S V g rest rest_all

  pub fit_is : map (λ a. a.type) (names_read U left) ≡ types_chosen (parts_read U V rest)
  fit_is = ap (map (λ a. a.type)) names_are ∙ fit_rest (part_read T S p) (parts_read T S rest) C fit ∙ sym (ap types_chosen parts_are)

  module _ (a : GoesOn T S m first U V k) where
    pub front_is : HasParts (signature T) (parts_read T S (p ∷ rest)) F → HasParts (signature U) (parts_read U V rest) (tree_of U V k.result)
    front_is h =
        subst (λ ps. HasParts (signature U) ps (tree_of U V k.result)) (sym parts_are)
        (subst (HasParts (signature U) (parts_read T S rest)) (sym a.result)
        (front_more (signature T) (signature U) (signature_more T U S V g) (front_rest (signature T) (names_read T held) (length S.cells) C fit h)))

    count : length V.cells ≡ length S.cells + length first.variables
    count = sym (length-map V.cells (cell_read U)) ∙ ap length a.all ∙ length-append (cells_read T S) first.variables ∙ ap (λ n. n + length first.variables) (length-map S.cells (cell_read T))

    pub rest_used : used (names_read T held) (length S.cells) (parts_read T S (p ∷ rest)) C F ≡ and_then first (used (names_read U held) (length V.cells) (parts_read U V rest) (names_read U left) (tree_of U V k.result))
    rest_used =
        used_step (names_read T held) (length S.cells) (part_read T S p) (parts_read T S rest) C F fit
        ∙ ap (λ l. and_then first (used l (length S.cells + length first.variables) (parts_read T S rest) (names_left (part_read T S p) C) first.result)) (sym (names_stay T U g.table held held_all))
        ∙ ap (λ n. and_then first (used (names_read U held) n (parts_read T S rest) (names_left (part_read T S p) C) first.result)) (sym count)
        ∙ ap (λ ps. and_then first (used (names_read U held) (length V.cells) ps (names_left (part_read T S p) C) first.result)) (sym parts_are)
        ∙ ap (λ l. and_then first (used (names_read U held) (length V.cells) (parts_read U V rest) l first.result)) (sym names_are)
        ∙ ap (λ G. and_then first (used (names_read U held) (length V.cells) (parts_read U V rest) (names_read U left) G)) (sym a.result)

    pub rest_stages : stages_of (names_read T held) (length S.cells) (parts_read T S (p ∷ rest)) C
        ≡ stages_of (names_read T held) (length S.cells) (part_read T S p ∷ []) C ++ stages_of (names_read U held) (length V.cells) (parts_read U V rest) (names_read U left)
    rest_stages =
        let ss = stages_of (names_read T held) (length S.cells) (part_read T S p ∷ []) C in
        stages_step (names_read T held) (length S.cells) (part_read T S p) (parts_read T S rest) C F fit
        ∙ ap (λ l. ss ++ stages_of l (length S.cells + length first.variables) (parts_read T S rest) (names_left (part_read T S p) C)) (sym (names_stay T U g.table held held_all))
        ∙ ap (λ n. ss ++ stages_of (names_read U held) n (parts_read T S rest) (names_left (part_read T S p) C)) (sym count)
        ∙ ap (λ ps. ss ++ stages_of (names_read U held) (length V.cells) ps (names_left (part_read T S p) C)) (sym parts_are)
        ∙ ap (λ l. ss ++ stages_of (names_read U held) (length V.cells) (parts_read U V rest) l) (sym names_are)

-- where the first is passed over, all is
pub passed_first : (held : List tree.Nominal) (n : ℕ) (p : plain.Part) (ps : List plain.Part) (names : List tree.Nominal) (F : Read) → map (λ a. a.type) names ≡ types_chosen (p ∷ ps)
    → (used held n (p ∷ []) names F).outside ≡ false → (used held n (p ∷ ps) names F).outside ≡ false
passed_first held n p ps names F fit e =
    ap (λ (u : Use). u.outside) (used_step held n p ps names F fit)
    ∙ ap (λ b. b && (used held (n + length (used held n (p ∷ []) names F).variables) ps (names_left p names) (used held n (p ∷ []) names F).result).outside) e
