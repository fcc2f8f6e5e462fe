-- What is like a defined atom is one, of the same predicate and mark.
use Rattle.std.proofs.Common.{◌≡◌, List, Option, Some, None, option_map, refl, sym, ◌∙◌, ap, subst}
use Rattle.std.specs.Prelude.{Contains}
use Rattle.ab_term.specs.Terms.{Nominal, constant, logical, nominal, variable, index, lam, spine, Read}
use Rattle.ab_term.specs.Names.{support, support_of_all, rename_all, permute, moved_by}
use Rattle.ab_term.specs.Translation.{forget, forget_all}
use Rattle.ab_term.specs.Variables.{image, image_all}
use Rattle.ab_term.specs.Sameness.{same_number}
use Rattle.ab_term.proofs.Depends.{nothing}
use Rattle.ab_unifiers.proofs.Following.{Put}
use Rattle.ab_formulas.specs.Declarations.{Declarations, Block, block_in}
use Rattle.ab_formulas.specs.Forms.{Form, truth, falsity, both, either, implies, equal, for_all, exists, nabla, marked, other, form_of}
use Rattle.ab_formulas.specs.Marks.{Sign, plain}
use Rattle.ab_theory.proofs.Marked.{with_mark_support}
use Rattle.ab_theory.proofs.Sized.{atom_of}
use Rattle.ab_theory.specs.Atoms.{Defined, defined_as, defined_form, defined_atom}
use Rattle.ab_search_trees.proofs.Forms.{Makes, FormMade, begins_constant}
use Rattle.ab_search_trees.proofs.Images.{form_under}
use Rattle.ab_search_proofs.specs.Likeness.{StandIn, replacing, IsLike}
use Rattle.ab_search_proofs.proofs.Renamed.{form_renamed}
use Rattle.ab_search_proofs.proofs.Alike.{like_form, made_so}

pub marked_made : (f : Put) (m : Sign) (A : Read) (X : Form) → FormMade f (marked m A) X → (B : Read) × (X ≡ marked m B) × Makes f A B
marked_made f m A (marked n B) k = (B, ap (λ s. marked s B) (sym k.0), k.1)
marked_made f m A _ k = absurd k

pub other_made : (f : Put) (X : Form) → FormMade f other X → X ≡ other
other_made f other k = refl
other_made f _ k = absurd k

module _ (D : Declarations) (vs : List StandIn) where
  -- THE ATOM of the sequent
  pub record AtomLike (ps : List (Nominal × Nominal)) (d : Defined) (G : Read) : Type 0 where
    pub atom : Defined
    pub is : defined_atom D G ≡ Some atom
    pub sign : atom.sign ≡ d.sign
    pub predicate : atom.predicate ≡ d.predicate
    pub block : atom.block ≡ d.block
    pub arguments : forget_all (rename_all (moved_by ps) (image_all same_number (replacing vs) d.arguments)) ≡ forget_all atom.arguments
    pub holds : (a : Nominal) → Contains (support G) a → Contains (support_of_all atom.arguments) a

  as_like : (ps : List (Nominal × Nominal)) (m : Sign) (A B G : Read) (d : Defined) → defined_as D m A ≡ Some d → forget (permute ps (image same_number (replacing vs) A)) ≡ forget B → defined_atom D G ≡ defined_as D m B → AtomLike ps d G
  as_like ps m (lam C x t) B G d e s g = absurd (cc)
  as_like ps m (spine (variable y) us) B G d e s g = absurd (cc)
  as_like ps m (spine (nominal a) us) B G d e s g = absurd (cc)
  as_like ps m (spine (logical l) us) B G d e s g = absurd (cc)
  as_like ps m (spine (index i) us) B G d e s g = absurd (cc)
  as_like ps m (spine (constant p) us) B G d e s g = go (block_in D p) refl e
    where
      go : (o : Option Block) → block_in D p ≡ o → option_map (λ b. record { sign = m; predicate = p; arguments = us; block = b }) o ≡ Some d → AtomLike ps d G
      go None k q = absurd (cc)
      go (Some b) k q =
          let was : Defined = record { sign = m; predicate = p; arguments = us; block = b } in
          let same : was ≡ d = cc in
          let begun = begins_constant p (forget_all (rename_all (moved_by ps) (image_all same_number (replacing vs) us))) B s in
          let ts = begun.0 in
          let atom : Defined = record { sign = m; predicate = p; arguments = ts; block = b } in
          let is : defined_atom D G ≡ Some atom = g ∙ ap (defined_as D m) begun.1 ∙ ap (option_map (λ b. record { sign = m; predicate = p; arguments = ts; block = b })) k in
          record {
            atom = atom;
            is = is;
            sign = ap (λ z. z.sign) same;
            predicate = ap (λ z. z.predicate) same;
            block = ap (λ z. z.block) same;
            arguments = ap (λ z. forget_all (rename_all (moved_by ps) (image_all same_number (replacing vs) z.arguments))) (sym same) ∙ begun.2;
            holds = λ a i. subst (λ l. Contains l a) (ap support (atom_of D G atom is).formula ∙ with_mark_support m (spine (constant p) ts)) i;
          }

  pub atom_like : (C G : Read) (l : IsLike D vs C G) (d : Defined) → defined_atom D C ≡ Some d → AtomLike (l.same).0 d G
  atom_like C G l d e = go (form_of C) refl (like_form D vs C G l) e
    where
      go : (k : Form) → form_of C ≡ k → FormMade nothing (form_renamed (moved_by (l.same).0) (form_under (replacing vs) k)) (form_of G) → defined_form D k C ≡ Some d → AtomLike (l.same).0 d G
      go (marked m A) p made q =
          let b = marked_made nothing m (permute (l.same).0 (image same_number (replacing vs) A)) (form_of G) made in
          as_like (l.same).0 m A b.0 G d q (made_so (permute (l.same).0 (image same_number (replacing vs) A)) b.0 b.2) (ap (λ k. defined_form D k G) b.1)
      go other p made q = as_like (l.same).0 plain C G G d q (l.same).2 (ap (λ k. defined_form D k G) (other_made nothing (form_of G) made))
      go truth p made q = absurd (cc)
      go falsity p made q = absurd (cc)
      go (both A B) p made q = absurd (cc)
      go (either A B) p made q = absurd (cc)
      go (implies A B) p made q = absurd (cc)
      go (equal A t u) p made q = absurd (cc)
      go (for_all A F) p made q = absurd (cc)
      go (exists A F) p made q = absurd (cc)
      go (nabla A F) p made q = absurd (cc)
