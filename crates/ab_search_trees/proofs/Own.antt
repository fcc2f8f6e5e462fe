-- THE GUESS THAT CHANGES NOTHING: each variable that may be replaced is its own value. By it, what is known of lifted goals is known of goals as they stand.
use Rattle.std.proofs.Common.{◌≡◌, ℕ, List, [], Bool, true, false, cond, Some, None, refl, sym, ◌∙◌, ap, subst}
use Rattle.ab_term.specs.Types.{Ty, prop}
use Rattle.ab_term.specs.Terms.{Nominal, Variable, variable, Term, constant, spine, Read}
use Rattle.ab_term.specs.Typing.{HasType}
use Rattle.ab_term.specs.Abstraction.{Only}
use Rattle.ab_term.specs.Translation.{forget}
use Rattle.ab_term.specs.Variables.{image_by}
use Rattle.ab_term.proofs.Expansions.{expansion_typed}
use Rattle.ab_term.proofs.OwnExpansion.{image_by-own}
use Rattle.ab_term.proofs.Only.{expansion_only}
use Rattle.ab_term.proofs.Translations.{translate_typed}
use Rattle.ab_unifiers.specs.Replacements.{holds}
use Rattle.ab_unifiers.proofs.Ruling.{image_none}
use Rattle.ab_unifiers.proofs.Following.{Put}
use Rattle.ab_unifiers.specs.Member.{HasMember}
use Rattle.ab_unifiers.proofs.Past.{bare_own, maps_agree}
use Rattle.ab_formulas.specs.Declarations.{Declarations, signature_in}
use Rattle.ab_theory.specs.Atoms.{Defined, defined_atom}
use Rattle.ab_search_trees.specs.Goals.{Now}
use Rattle.ab_search_trees.specs.Judgements.{opened_once, is_blind}
use Rattle.ab_search_trees.proofs.Lifts.{own_stays}
use Rattle.ab_search_trees.proofs.Forms.{Makes, form_made}
use Rattle.ab_search_trees.proofs.Facts.{Facts, IsPart, form_facts}
use Rattle.ab_search_trees.proofs.Against.{IsState}
use Rattle.ab_search_trees.proofs.Atoms.{atom_lifts}
use Rattle.ab_search_trees.proofs.Layers.{opened_lifts}
use Rattle.ab_search_trees.proofs.Carried.{AreFlexible}

module _ (D : Declarations) (now : Now) (flexible : AreFlexible now) where
  abbrev pub own : Put
  own y = cond (holds now.flexible y) (Some (bare_own y)) None

  own_value : (P : Term ℕ (Unit {0}) → Type 0) (y : Variable ℕ) → P (bare_own y) → (b : Bool) (u : Term ℕ (Unit {0})) → cond b (Some (bare_own y)) None ≡ Some u → P u
  own_value P y p true u e = let same : bare_own y ≡ u = cc in subst P same p
  own_value P y p false u e = absurd (cc)

  pub own_state : IsState (signature_in D) now own
  own_state = record {
    cells = flexible;
    fits = record {
      typed = λ y u e. own_value (λ t. HasType (signature_in D) [] t y.type) y (expansion_typed (signature_in D) tt y.type [] (variable y) refl) (holds now.flexible y) u e;
      has = λ y u e. own_value (Only []) y (expansion_only tt y.type [] (variable y) refl) (holds now.flexible y) u e;
      some = λ y h. (bare_own y, ap (λ b. cond b (Some (bare_own y)) None) h);
      none = λ y h. ap (λ b. cond b (Some (bare_own y)) None) h;
    };
  }

  abbrev none : Put
  none y = None

  own_same : (y : Variable ℕ) → image_by own (bare_own y) ≡ image_by none (bare_own y)
  own_same y = go (holds now.flexible y) refl
    where
      go : (b : Bool) → holds now.flexible y ≡ b → image_by own (bare_own y) ≡ image_by none (bare_own y)
      go true h = image_by-own (signature_in D) ℕ own own_state.fits.typed y (bare_own y) (ap (λ b. cond b (Some (bare_own y)) None) h) ∙ sym (own_stays none y refl)
      go false h = own_stays own y (ap (λ b. cond b (Some (bare_own y)) None) h) ∙ sym (own_stays none y refl)

  pub own_makes : (t : Read) {A : Ty} → HasType (signature_in D) [] t A → Makes own t t
  own_makes t d =
      maps_agree (signature_in D) own none own_state.fits.typed (λ y u e. absurd (let bad : None ≡ Some u = e in cc)) (translate_typed (signature_in D) (λ v. v) (λ h. tt) d) (λ y h. own_same y)
      ∙ image_none (forget t)

  module _ (branch : List Nominal) (u : Bool) (C : Read) (part : IsPart (signature_in D) now branch u C) where
    makes_itself : Makes own C C
    makes_itself = own_makes C part.formula.typed

    -- an opened layer is a part
    pub opened_part : HasMember (signature_in D) → is_blind now.flexible C ≡ false → (F : Read) → opened_once C ≡ Some F → IsPart (signature_in D) now branch u F
    opened_part has_list seen F e =
        let r = opened_lifts D now own own_state has_list branch u C C F part makes_itself seen e in
        let same : r.0 ≡ F = (let two : Some r.0 ≡ Some F = sym r.1 ∙ e in cc) in
        subst (IsPart (signature_in D) now branch u) same r.2

    -- what is known of a defined atom
    pub atom_known : (d : Defined) → defined_atom D C ≡ Some d → HasType (signature_in D) [] (spine (constant d.predicate) d.arguments) prop × Facts now branch u (spine (constant d.predicate) d.arguments)
    atom_known d e =
        let k = atom_lifts own D (signature_in D) now branch u C C d part makes_itself (form_made own C C part.formula.stands makes_itself) (form_facts (signature_in D) now branch u C part) e in
        let same : k.atom ≡ d = (let two : Some k.atom ≡ Some d = sym k.is ∙ e in cc) in
        subst (λ (a : Defined). HasType (signature_in D) [] (spine (constant a.predicate) a.arguments) prop × Facts now branch u (spine (constant a.predicate) a.arguments)) same (k.typed, k.facts)
