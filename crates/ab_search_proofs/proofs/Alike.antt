-- What is like a formula is of its form, and its parts are like the formula's.
use Rattle.std.proofs.Common.{◌≡◌, ℕ, List, map, refl, sym, ◌∙◌, ap, subst}
use Rattle.ab_term.specs.Types.{Ty}
use Rattle.ab_term.specs.Terms.{Nominal, Read}
use Rattle.ab_term.specs.Names.{rename, permute, moved_by}
use Rattle.ab_term.specs.Translation.{forget}
use Rattle.ab_term.specs.Variables.{Substitution, value_in, image, image_by}
use Rattle.ab_term.specs.Sameness.{same_number}
use Rattle.ab_term.proofs.Translations.{translate-rename}
use Rattle.ab_term.proofs.Depends.{nothing, image_nothing}
use Rattle.ab_unifiers.proofs.Following.{Put, plain, image_plain}
use Rattle.ab_formulas.proofs.Images.{image_stands}
use Rattle.ab_formulas.specs.Declarations.{Declarations, signature_in}
use Rattle.ab_formulas.specs.Formulas.{a_formula}
use Rattle.ab_formulas.specs.Forms.{Form, truth, both, either, implies, equal, for_all, exists, nabla, form_of}
use Rattle.ab_search_trees.proofs.Forms.{Makes, FormMade, form_made}
use Rattle.ab_search_trees.proofs.Images.{form_under, form_image}
use Rattle.ab_search_proofs.specs.Likeness.{StandIn, replaced, replacing, IsLike}
use Rattle.ab_search_proofs.proofs.Renamed.{form_renamed, form_of-rename, rename_stands}
use Rattle.ab_search_proofs.proofs.Parts.{Parts, parts, IsPart, IsScope}

pub makes_it : (t u : Read) → forget t ≡ forget u → Makes nothing t u
makes_it t u e = image_nothing (forget t) ∙ e

pub made_so : (t u : Read) → Makes nothing t u → forget t ≡ forget u
made_so t u e = sym (image_nothing (forget t)) ∙ e

-- FORMS that are made of these

pub truth_made : (f : Put) (X : Form) → FormMade f truth X → X ≡ truth
truth_made f truth m = refl
truth_made f _ m = absurd m

pub both_made : (f : Put) (A B : Read) (X : Form) → FormMade f (both A B) X → (C : Read) × (E : Read) × (X ≡ both C E) × Makes f A C × Makes f B E
both_made f A B (both C E) m = (C, E, refl, m.0, m.1)
both_made f A B _ m = absurd m

pub either_made : (f : Put) (A B : Read) (X : Form) → FormMade f (either A B) X → (C : Read) × (E : Read) × (X ≡ either C E) × Makes f A C × Makes f B E
either_made f A B (either C E) m = (C, E, refl, m.0, m.1)
either_made f A B _ m = absurd m

pub implies_made : (f : Put) (A B : Read) (X : Form) → FormMade f (implies A B) X → (C : Read) × (E : Read) × (X ≡ implies C E) × Makes f A C × Makes f B E
implies_made f A B (implies C E) m = (C, E, refl, m.0, m.1)
implies_made f A B _ m = absurd m

pub equal_made : (f : Put) (A : Ty) (t u : Read) (X : Form) → FormMade f (equal A t u) X → (B : Ty) × (v : Read) × (w : Read) × (X ≡ equal B v w) × Makes f t v × Makes f u w
equal_made f A t u (equal B v w) m = (B, v, w, refl, m.0, m.1)
equal_made f A t u _ m = absurd m

pub for_all_made : (f : Put) (A : Ty) (F : Read) (X : Form) → FormMade f (for_all A F) X → (H : Read) × (X ≡ for_all A H) × Makes f F H
for_all_made f A F (for_all B H) m = (H, ap (λ C. for_all C H) (sym m.0), m.1)
for_all_made f A F _ m = absurd m

pub exists_made : (f : Put) (A : Ty) (F : Read) (X : Form) → FormMade f (exists A F) X → (H : Read) × (X ≡ exists A H) × Makes f F H
exists_made f A F (exists B H) m = (H, ap (λ C. exists C H) (sym m.0), m.1)
exists_made f A F _ m = absurd m

pub nabla_made : (f : Put) (A : Ty) (F : Read) (X : Form) → FormMade f (nabla A F) X → (H : Read) × (X ≡ nabla A H) × Makes f F H
nabla_made f A F (nabla B H) m = (H, ap (λ C. nabla C H) (sym m.0), m.1)
nabla_made f A F _ m = absurd m

module _ (D : Declarations) (vs : List StandIn) where
  abbrev pub r : Substitution ℕ (List ℕ)
  r = replacing vs

  abbrev pub under : Read → Read
  under = image same_number r

  -- the form of a like formula, by the permutation
  pub like_form : (F G : Read) (l : IsLike D vs F G) → FormMade nothing (form_renamed (moved_by (l.same).0) (form_under r (form_of F))) (form_of G)
  like_form F G l =
      let m = moved_by (l.same).0 in
      let stands = rename_stands m a_formula (under F) (image_stands (value_in same_number r) a_formula F (l.formula).stands) in
      subst (λ k. FormMade nothing k (form_of G)) (form_of-rename m (under F) ∙ ap (form_renamed m) (form_image r F (l.formula).stands))
      (form_made nothing (rename m (under F)) G stands (makes_it (rename m (under F)) G (l.same).2))

  from_parts : (F G : Read) (l : IsLike D vs F G) (X : Form) → form_of F ≡ X → FormMade nothing (form_renamed (moved_by (l.same).0) (form_under r X)) (form_of G)
  from_parts F G l X e = subst (λ k. FormMade nothing (form_renamed (moved_by (l.same).0) (form_under r k)) (form_of G)) e (like_form F G l)

  known : (F G : Read) (X : Form) → IsLike D vs F G → form_of F ≡ X → Parts (signature_in D) (map replaced vs) X
  known F G X l e = subst (Parts (signature_in D) (map replaced vs)) e (parts (signature_in D) (map replaced vs) F l.formula l.known)

  part_like : (F G : Read) (l : IsLike D vs F G) (A C : Read) → IsPart (signature_in D) (map replaced vs) A → Makes nothing (permute (l.same).0 (under A)) C → IsLike D vs A C
  part_like F G l A C p m = record { formula = p.formula; known = p.known; same = ((l.same).0, (l.same).1, made_so (permute (l.same).0 (under A)) C m) }

  pub like_truth : (F G : Read) → IsLike D vs F G → form_of F ≡ truth → form_of G ≡ truth
  like_truth F G l e = truth_made nothing (form_of G) (from_parts F G l truth e)

  pub like_both : (F G A B : Read) → IsLike D vs F G → form_of F ≡ both A B → (C : Read) × (E : Read) × (form_of G ≡ both C E) × IsLike D vs A C × IsLike D vs B E
  like_both F G A B l e =
      let m = moved_by (l.same).0 in
      let b = both_made nothing (rename m (under A)) (rename m (under B)) (form_of G) (from_parts F G l (both A B) e) in
      let k = known F G (both A B) l e in
      (b.0, b.1, b.2, part_like F G l A b.0 k.0 b.3, part_like F G l B b.1 k.1 b.4)

  pub like_either : (F G A B : Read) → IsLike D vs F G → form_of F ≡ either A B → (C : Read) × (E : Read) × (form_of G ≡ either C E) × IsLike D vs A C × IsLike D vs B E
  like_either F G A B l e =
      let m = moved_by (l.same).0 in
      let b = either_made nothing (rename m (under A)) (rename m (under B)) (form_of G) (from_parts F G l (either A B) e) in
      let k = known F G (either A B) l e in
      (b.0, b.1, b.2, part_like F G l A b.0 k.0 b.3, part_like F G l B b.1 k.1 b.4)

  pub like_implies : (F G A B : Read) → IsLike D vs F G → form_of F ≡ implies A B → (C : Read) × (E : Read) × (form_of G ≡ implies C E) × IsLike D vs A C × IsLike D vs B E
  like_implies F G A B l e =
      let m = moved_by (l.same).0 in
      let b = implies_made nothing (rename m (under A)) (rename m (under B)) (form_of G) (from_parts F G l (implies A B) e) in
      let k = known F G (implies A B) l e in
      (b.0, b.1, b.2, part_like F G l A b.0 k.0 b.3, part_like F G l B b.1 k.1 b.4)

  -- what one permutation makes of sides that are the same past hints
  pub like_equal : (F G : Read) (A : Ty) (t u : Read) → IsLike D vs F G → form_of F ≡ equal A t u → forget t ≡ forget u → (B : Ty) × (v : Read) × (w : Read) × (form_of G ≡ equal B v w) × (forget v ≡ forget w)
  like_equal F G A t u l e q =
      let m = moved_by (l.same).0 in
      let b = equal_made nothing A (rename m (under t)) (rename m (under u)) (form_of G) (from_parts F G l (equal A t u) e) in
      (b.0, b.1, b.2, b.3, sym (made_so (rename m (under t)) b.1 b.4) ∙ renamed m ∙ made_so (rename m (under u)) b.2 b.5)
    where
      renamed : (m : Nominal → Nominal) → forget (rename m (under t)) ≡ forget (rename m (under u))
      renamed m = translate-rename (λ v. v) (λ x. tt) m (under t) ∙ ap (rename m) (image_plain r t ∙ ap (image_by (plain r)) q ∙ sym (image_plain r u)) ∙ sym (translate-rename (λ v. v) (λ x. tt) m (under u))

  -- a quantifier's scope, by the permutation of the whole
  pub like_nabla : (F G : Read) (A : Ty) (S : Read) (l : IsLike D vs F G) → form_of F ≡ nabla A S → (H : Read) × (form_of G ≡ nabla A H) × (forget (permute (l.same).0 (under S)) ≡ forget H)
  like_nabla F G A S l e =
      let m = moved_by (l.same).0 in
      let b = nabla_made nothing A (rename m (under S)) (form_of G) (from_parts F G l (nabla A S) e) in
      (b.0, b.1, made_so (rename m (under S)) b.0 b.2)

  pub like_exists : (F G : Read) (A : Ty) (S : Read) (l : IsLike D vs F G) → form_of F ≡ exists A S → (H : Read) × (form_of G ≡ exists A H) × (forget (permute (l.same).0 (under S)) ≡ forget H)
  like_exists F G A S l e =
      let m = moved_by (l.same).0 in
      let b = exists_made nothing A (rename m (under S)) (form_of G) (from_parts F G l (exists A S) e) in
      (b.0, b.1, made_so (rename m (under S)) b.0 b.2)

  pub like_for_all : (F G : Read) (A : Ty) (S : Read) (l : IsLike D vs F G) → form_of F ≡ for_all A S → (H : Read) × (form_of G ≡ for_all A H) × (forget (permute (l.same).0 (under S)) ≡ forget H)
  like_for_all F G A S l e =
      let m = moved_by (l.same).0 in
      let b = for_all_made nothing A (rename m (under S)) (form_of G) (from_parts F G l (for_all A S) e) in
      (b.0, b.1, made_so (rename m (under S)) b.0 b.2)

  pub nabla_known : (F G : Read) (A : Ty) (S : Read) → IsLike D vs F G → form_of F ≡ nabla A S → IsScope (signature_in D) (map replaced vs) A S
  nabla_known F G A S l e = known F G (nabla A S) l e

  pub exists_known : (F G : Read) (A : Ty) (S : Read) → IsLike D vs F G → form_of F ≡ exists A S → IsScope (signature_in D) (map replaced vs) A S
  exists_known F G A S l e = known F G (exists A S) l e

  pub for_all_known : (F G : Read) (A : Ty) (S : Read) → IsLike D vs F G → form_of F ≡ for_all A S → IsScope (signature_in D) (map replaced vs) A S
  for_all_known F G A S l e = known F G (for_all A S) l e
