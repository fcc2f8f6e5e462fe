-- Atoms that aren't determined, by the outermost connective of a formula that is taken apart.
use Rattle.std.proofs.Common.{◌≡◌, ℕ, List, [], ◌∷◌, ◌++◌, map, Bool, true, false, ◌||◌, refl, sym, ap, ◌∙◌}
use Rattle.std.specs.List.{list_any}
use Rattle.ab_term.specs.Types.{Ty}
use Rattle.ab_term.specs.Terms as tree
use Rattle.ab_term.specs.Terms.{lam, spine, Terms, Read}
use Rattle.ab_unifiers.specs.Replacements.{Cell}
use Rattle.ab_theory.specs.Opening.{kind_of, is_undetermined}
use Rattle.ab_theory.specs.Parts.{Part, under_name, with_goal, parts_of}
use Rattle.ab_judgement_forms.specs.Shapes.{for_names, behind, together, other, shape_of}
use Rattle.ab_judgement_forms.proofs.Connectives.{parts_by, seen}

abbrev pub open_atom : Part → Bool
open_atom p = is_undetermined (kind_of p.atom)

under_same : (n : Cell (List ℕ)) (ps : List Part) → list_any open_atom (map (under_name n) ps) ≡ list_any open_atom ps
under_same n [] = refl
under_same n (p ∷ ps) = ap (λ b. open_atom p || b) (under_same n ps)

goal_same : (G : Read) (ps : List Part) → list_any open_atom (map (with_goal G) ps) ≡ list_any open_atom ps
goal_same G [] = refl
goal_same G (p ∷ ps) = ap (λ b. open_atom p || b) (goal_same G ps)

either_false : (b : Bool) → (b || false) ≡ b
either_false true = refl
either_false false = refl

either_more : (a b c : Bool) → (a || (b || c)) ≡ ((a || b) || c)
either_more true b c = refl
either_more false b c = refl

any_append : (ps qs : List Part) → list_any open_atom (ps ++ qs) ≡ (list_any open_atom ps || list_any open_atom qs)
any_append [] qs = refl
any_append (p ∷ ps) qs = ap (λ b. open_atom p || b) (any_append ps qs) ∙ either_more (open_atom p) (list_any open_atom ps) (list_any open_atom qs)

pub open_pi : (F a t : Read) (A B : Ty) (x : List ℕ) → shape_of F ≡ for_names A a → a ≡ lam B x t → list_any open_atom (parts_of t) ≡ list_any open_atom (parts_of F)
open_pi F a t A B x shape is =
    sym (under_same (record { hint = x; type = A }) (parts_of t)) ∙ ap (list_any open_atom) (sym ((seen F).parts ∙ ap (parts_by F) (shape ∙ ap (for_names A) is)))

pub open_imply : (F G H : Read) → shape_of F ≡ behind G H → list_any open_atom (parts_of H) ≡ list_any open_atom (parts_of F)
open_imply F G H shape = sym (goal_same G (parts_of H)) ∙ ap (list_any open_atom) (sym ((seen F).parts ∙ ap (parts_by F) shape))

pub open_with : (F G H : Read) → shape_of F ≡ together G H → (list_any open_atom (parts_of G) || list_any open_atom (parts_of H)) ≡ list_any open_atom (parts_of F)
open_with F G H shape = sym (any_append (parts_of G) (parts_of H)) ∙ ap (list_any open_atom) (sym ((seen F).parts ∙ ap (parts_by F) shape))

pub open_other : (F : Read) → shape_of F ≡ other → is_undetermined (kind_of F) ≡ list_any open_atom (parts_of F)
open_other F shape = sym (either_false (is_undetermined (kind_of F))) ∙ ap (list_any open_atom) (sym ((seen F).parts ∙ ap (parts_by F) shape))

pub open_spine : (F a : Read) (A : Ty) (h : tree.Head ℕ) (ts : Terms ℕ (List ℕ)) → shape_of F ≡ for_names A a → a ≡ spine h ts → is_undetermined (kind_of F) ≡ list_any open_atom (parts_of F)
open_spine F a A h ts shape is =
    sym (either_false (is_undetermined (kind_of F))) ∙ ap (list_any open_atom) (sym ((seen F).parts ∙ ap (parts_by F) (shape ∙ ap (for_names A) is)))
