-- The atoms of a formula in focus, by how it is taken apart.
use Rattle.std.proofs.Common.{◌≡◌, ℕ, List, [], ◌∷◌, ◌++◌, map, Bool, true, false, ◌||◌, refl, sym, ◌∙◌, ap}
use Rattle.std.specs.List.{list_any}
use Rattle.ab_term.specs.Terms.{Read}
use Rattle.ab_unifiers.specs.Replacements.{Cell}
use Rattle.ab_theory.specs.Parts.{Part, under_name, with_goal, parts_of}
use Rattle.ab_search_ways.specs.Blindness.{atoms_of}

pub under_same : (n : Cell (List ℕ)) (ps : List Part) → map (λ (p : Part). p.atom) (map (under_name n) ps) ≡ map (λ (p : Part). p.atom) ps
under_same n [] = refl
under_same n (p ∷ ps) = ap (λ l. p.atom ∷ l) (under_same n ps)

pub goal_same : (G : Read) (ps : List Part) → map (λ (p : Part). p.atom) (map (with_goal G) ps) ≡ map (λ (p : Part). p.atom) ps
goal_same G [] = refl
goal_same G (p ∷ ps) = ap (λ l. p.atom ∷ l) (goal_same G ps)

pub both_atoms : (ps qs : List Part) → map (λ (p : Part). p.atom) (ps ++ qs) ≡ map (λ (p : Part). p.atom) ps ++ map (λ (p : Part). p.atom) qs
both_atoms [] qs = refl
both_atoms (p ∷ ps) qs = ap (λ l. p.atom ∷ l) (both_atoms ps qs)

-- a test of atoms
pub any_atom : (h : Read → Bool) (ps : List Part) → list_any (λ (p : Part). h p.atom) ps ≡ list_any h (map (λ (p : Part). p.atom) ps)
any_atom h [] = refl
any_atom h (p ∷ ps) = ap (λ b. h p.atom || b) (any_atom h ps)

either_more : (a b c : Bool) → (a || (b || c)) ≡ ((a || b) || c)
either_more true b c = refl
either_more false b c = refl

pub any_both : (h : Read → Bool) (ts us : List Read) → list_any h (ts ++ us) ≡ (list_any h ts || list_any h us)
any_both h [] us = refl
any_both h (t ∷ ts) us = ap (λ b. h t || b) (any_both h ts us) ∙ either_more (h t) (list_any h ts) (list_any h us)

either_false : (b : Bool) → (b || false) ≡ b
either_false true = refl
either_false false = refl

module _ (h : Read → Bool) (F : Read) where
  pub any_here : atoms_of F ≡ F ∷ [] → h F ≡ list_any (λ (p : Part). h p.atom) (parts_of F)
  any_here e = sym (either_false (h F)) ∙ ap (list_any h) (sym e) ∙ sym (any_atom h (parts_of F))

  pub any_under : (B : Read) → atoms_of F ≡ atoms_of B → list_any (λ (p : Part). h p.atom) (parts_of B) ≡ list_any (λ (p : Part). h p.atom) (parts_of F)
  any_under B e = any_atom h (parts_of B) ∙ ap (list_any h) (sym e) ∙ sym (any_atom h (parts_of F))

  pub any_of_both : (A B : Read) → atoms_of F ≡ atoms_of A ++ atoms_of B → (list_any (λ (p : Part). h p.atom) (parts_of A) || list_any (λ (p : Part). h p.atom) (parts_of B)) ≡ list_any (λ (p : Part). h p.atom) (parts_of F)
  any_of_both A B e =
      ap (λ b. b || list_any (λ (p : Part). h p.atom) (parts_of B)) (any_atom h (parts_of A))
      ∙ ap (λ b. list_any h (atoms_of A) || b) (any_atom h (parts_of B))
      ∙ sym (any_both h (atoms_of A) (atoms_of B))
      ∙ ap (list_any h) (sym e)
      ∙ sym (any_atom h (parts_of F))
