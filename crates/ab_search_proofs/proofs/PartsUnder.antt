-- A FORMULA IN FOCUS, and what terms put in make of it: where no atom of it is undetermined, its parts stay, each with the terms.
use Rattle.std.proofs.Common.{◌≡◌, ℕ, zero, List, [], ◌∷◌, ◌++◌, map, length, false, ◌||◌, refl, sym, ◌∙◌, ap}
use Rattle.std.specs.List.{list_any}
use Rattle.std.proofs.lemmas.Bool.{false≢true, or_parts, or_from}
use Rattle.ab_term.specs.Types.{Ty, o, arrow}
use Rattle.ab_term.specs.Logical.{spec_universal, spec_implication, spec_conjunction}
use Rattle.ab_term.specs.Terms.{Head, constant, logical, nominal, variable, index, lam, spine, Terms, no_terms, term, Read}
use Rattle.ab_term.specs.Typing.{Signature, HasType, TakeType}
use Rattle.ab_term.specs.Variables.{Substitution, value_in, image, IsTyped}
use Rattle.ab_term.specs.Sameness.{same_number}
use Rattle.ab_term.proofs.ClosedMaps.{IsClosedMap, raise-image}
use Rattle.ab_term.proofs.Compositions.{map_typed}
use Rattle.ab_term.proofs.Images.{closed_map}
use Rattle.ab_unifiers.specs.Replacements.{Cell}
use Rattle.ab_theory.specs.Opening.{kind_of, is_undetermined}
use Rattle.ab_theory.specs.Parts.{Part, parts_of, under_name, with_goal}
use Rattle.ab_search_proofs.proofs.OpenedAlike.{IsSingle, arguments_of, first_of, rest_of, body_of}
use Rattle.ab_search_proofs.proofs.PartsAlike.{single_part, hides_atom}

-- the part, with terms put in
abbrev pub part_under : Substitution ℕ (List ℕ) → Part → Part
part_under r p = record { names = p.names; goals = map (image same_number r) p.goals; atom = image same_number r p.atom }

pub determined_under : (r : Substitution ℕ (List ℕ)) (G : Read) → is_undetermined (kind_of G) ≡ false → is_undetermined (kind_of (image same_number r G)) ≡ false
determined_under r (lam A x t) e = absurd (false≢true (sym e))
determined_under r (spine (constant c) ts) e = refl
determined_under r (spine (logical l) ts) e = refl
determined_under r (spine (nominal a) ts) e = refl
determined_under r (spine (variable y) ts) e = absurd (false≢true (sym e))
determined_under r (spine (index i) ts) e = absurd (false≢true (sym e))

pub atoms_under : (r : Substitution ℕ (List ℕ)) (ps : List Part) → list_any hides_atom ps ≡ false → list_any hides_atom (map (part_under r) ps) ≡ false
atoms_under r [] e = refl
atoms_under r (p ∷ ps) e =
    let two = or_parts (hides_atom p) (list_any hides_atom ps) e in
    or_from (hides_atom (part_under r p)) (list_any hides_atom (map (part_under r) ps)) (determined_under r p.atom two.0) (atoms_under r ps two.1)

-- other names and goals leave the atoms as they are
atoms_named : (c : Cell (List ℕ)) (ps : List Part) → list_any hides_atom (map (under_name c) ps) ≡ list_any hides_atom ps
atoms_named c [] = refl
atoms_named c (p ∷ ps) = ap (λ b. hides_atom p || b) (atoms_named c ps)

atoms_behind : (G : Read) (ps : List Part) → list_any hides_atom (map (with_goal G) ps) ≡ list_any hides_atom ps
atoms_behind G [] = refl
atoms_behind G (p ∷ ps) = ap (λ b. hides_atom p || b) (atoms_behind G ps)

atoms_both : (ps qs : List Part) → list_any hides_atom (ps ++ qs) ≡ false → (list_any hides_atom ps ≡ false) × (list_any hides_atom qs ≡ false)
atoms_both [] qs e = (refl, e)
atoms_both (p ∷ ps) qs e =
    let two = or_parts (hides_atom p) (list_any hides_atom (ps ++ qs)) e in
    let rest = atoms_both ps qs two.1 in
    (or_from (hides_atom p) (list_any hides_atom ps) two.0 rest.0, rest.1)

map_joined : {X Y : Type 0} (f : X → Y) (xs zs : List X) → map f (xs ++ zs) ≡ map f xs ++ map f zs
map_joined f [] zs = refl
map_joined f (x ∷ xs) zs = ap (λ l. f x ∷ l) (map_joined f xs zs)

change_places : {X : Type 0} (f g h : X → X) → ((x : X) → f (h x) ≡ h (g x)) → (xs : List X) → map f (map h xs) ≡ map h (map g xs)
change_places f g h e [] = refl
change_places f g h e (x ∷ xs) = ap (λ l. f (h x) ∷ l) (change_places f g h e xs) ∙ ap (λ z. z ∷ map h (map g xs)) (e x)

module _ (sg : Signature) (r : Substitution ℕ (List ℕ)) (typed : IsTyped sg r) where
  closed : IsClosedMap (value_in same_number r)
  closed = closed_map sg ℕ (List ℕ) (value_in same_number r) (map_typed sg same_number r typed)

  no_spine : {Γ : List Ty} {A B : Ty} {X : Type 0} {h : Head ℕ} {ts : Terms ℕ (List ℕ)} → HasType sg Γ (spine h ts) (arrow A B) → X
  no_spine d = elim d [ ]

  no_second : {Γ : List Ty} {X : Type 0} {u : Read} {us : Terms ℕ (List ℕ)} → TakeType sg Γ (term u us) o o → X
  no_second d = elim d [ ]

  single_under : (Γ : List Ty) (G : Read) → HasType sg Γ G o → IsSingle G → is_undetermined (kind_of G) ≡ false → IsSingle (image same_number r G)
  single_under Γ (lam A x t) d i k = absurd (false≢true (sym k))
  single_under Γ (spine (variable y) ts) d i k = absurd (false≢true (sym k))
  single_under Γ (spine (index n) ts) d i k = absurd (false≢true (sym k))
  single_under Γ (spine (constant c) ts) d i k = tt
  single_under Γ (spine (nominal a) ts) d i k = tt
  single_under Γ (spine (logical (spec_universal A)) no_terms) d i k = tt
  single_under Γ (spine (logical (spec_universal A)) (term (lam B x G) no_terms)) d i k = absurd i
  single_under Γ (spine (logical (spec_universal A)) (term (spine h ts) no_terms)) d i k = no_spine (first_of sg (arguments_of sg (spec_universal A) d))
  single_under Γ (spine (logical (spec_universal A)) (term t (term u us))) d i k = no_second (rest_of sg (arguments_of sg (spec_universal A) d))
  single_under Γ (spine (logical spec_implication) (term F (term G no_terms))) d i k = absurd i
  single_under Γ (spine (logical spec_conjunction) (term F (term G no_terms))) d i k = absurd i
  single_under Γ (spine (logical spec_implication) no_terms) d i k = tt
  single_under Γ (spine (logical spec_implication) (term F no_terms)) d i k = tt
  single_under Γ (spine (logical spec_implication) (term F (term G (term H ts)))) d i k = tt
  single_under Γ (spine (logical spec_conjunction) no_terms) d i k = tt
  single_under Γ (spine (logical spec_conjunction) (term F no_terms)) d i k = tt
  single_under Γ (spine (logical spec_conjunction) (term F (term G (term H ts)))) d i k = tt
  single_under Γ (spine (logical l) ts) d i k = tt

  -- THE PARTS
  pub parts_under : (Γ : List Ty) (F : Read) → HasType sg Γ F o → list_any hides_atom (parts_of F) ≡ false → parts_of (image same_number r F) ≡ map (part_under r) (parts_of F)
  parts_under Γ (spine (logical (spec_universal A)) (term (lam B x F) no_terms)) d e =
      let c : Cell (List ℕ) = record { hint = x; type = A } in
      ap (map (under_name c)) (parts_under (A ∷ Γ) F (body_of sg (first_of sg (arguments_of sg (spec_universal A) d))) (sym (atoms_named c (parts_of F)) ∙ e))
      ∙ change_places (under_name c) (under_name c) (part_under r) (λ p. refl) (parts_of F)
  parts_under Γ (spine (logical spec_implication) (term G (term F no_terms))) d e =
      ap (map (with_goal (image same_number r G))) (parts_under Γ F (first_of sg (rest_of sg (arguments_of sg spec_implication d))) (sym (atoms_behind G (parts_of F)) ∙ e))
      ∙ change_places (with_goal (image same_number r G)) (with_goal G) (part_under r) (λ p i. record { names = p.names; goals = raise-image (value_in same_number r) closed G (length p.names) zero i ∷ map (image same_number r) p.goals; atom = image same_number r p.atom }) (parts_of F)
  parts_under Γ (spine (logical spec_conjunction) (term F (term G no_terms))) d e =
      let two = atoms_both (parts_of F) (parts_of G) e in
      ap (λ l. l ++ parts_of (image same_number r G)) (parts_under Γ F (first_of sg (arguments_of sg spec_conjunction d)) two.0)
      ∙ ap (λ l. map (part_under r) (parts_of F) ++ l) (parts_under Γ G (first_of sg (rest_of sg (arguments_of sg spec_conjunction d))) two.1)
      ∙ sym (map_joined (part_under r) (parts_of F) (parts_of G))
  parts_under Γ F d e = single_part (image same_number r F) (single_under Γ F d tt (or_parts (is_undetermined (kind_of F)) false e).0)
