-- ATOMS AND CHOICES: what a choice of a list is, what becomes of a defined atom under a substitution, and when two marked atoms are one.
use Rattle.std.proofs.Common.{◌≡◌, ◌≢◌, ℕ, suc, List, [], map, filter, codes, bytes_eq, true, Option, Some, None, option_map, refl, sym, ◌∙◌, ap, subst}
use Rattle.std.specs.Prelude.{Contains, AllPairs}
use Rattle.std.proofs.lemmas.Bool.{false≢true}
use Rattle.std.proofs.lemmas.Slice.Eq.{bytes_eq-Decides}
use Rattle.ab_term.specs.Types.{Ty, kind, arrow}
use Rattle.ab_term.specs.Logical as logicals
use Rattle.ab_term.specs.Logical.{Logical}
use Rattle.ab_term.specs.Terms.{Nominal, constant, logical, nominal, variable, index, lam, spine, Terms, no_terms, term, Read}
use Rattle.ab_term.specs.Typing.{Signature, TakeType, take_none, take_term}
use Rattle.ab_term.specs.Names.{support_of_all}
use Rattle.ab_term.specs.Translation.{forget, forget_all}
use Rattle.ab_term.specs.Variables.{Substitution, image, image_all}
use Rattle.ab_term.specs.Sameness.{same_number}
use Rattle.ab_term.proofs.Lists.{Contains-from_map}
use Rattle.ab_unifiers.specs.Unifiers.{Unifies}
use Rattle.ab_unifiers.specs.Choices.{in_order, choices}
use Rattle.ab_unifiers.specs.Alternatives.{arguments_equal}
use Rattle.ab_unifiers.proofs.Choosing.{contains_kept, contains_ordered, gathered_from}
use Rattle.ab_unifiers.proofs.Matching.{choice_right}
use Rattle.ab_formulas.specs.Declarations.{Declarations, Block, block_in}
use Rattle.ab_formulas.specs.BodyMarks.{MayBeUnfolded, with_mark}
use Rattle.ab_formulas.specs.Forms.{Form, truth, falsity, both, either, implies, equal, for_all, exists, nabla, marked, other, form_of}
use Rattle.ab_formulas.specs.Formulas.{a_formula, StandsIn}
use Rattle.ab_formulas.specs.Marks.{Sign, plain, star_of, at_of, plus_of, hash_of}
use Rattle.ab_theory.specs.Atoms.{Defined, Choice, defined_as, defined_form, defined_atom, choices_of}
use Rattle.ab_search_trees.specs.Ways.{unfolds}
use Rattle.ab_search_trees.proofs.Images.{form_under, form_image}

-- A CHOICE of those of an atom: a clause of its predicate, and different constants for its names
pub record IsChoice (held : List Nominal) (d : Defined) (c : Choice) : Type 0 where
  pub types : map (λ a. a.type) c.names ≡ map (λ z. z.type) c.clause.names
  pub different : AllPairs (λ a b. a ≢ b) c.names
  pub one : Contains d.block.clauses c.clause
  pub predicate : c.clause.predicate ≡ d.predicate

pub is_choice : (held : List Nominal) (d : Defined) → ((a : Nominal) → Contains (support_of_all d.arguments) a → Contains held a) → (c : Choice) → Contains (choices_of held d) c → IsChoice held d c
is_choice held d sub c m =
    let S = in_order (support_of_all d.arguments) in
    let from = gathered_from (λ k. map (λ ns. record { clause = k; names = ns }) (choices (map (λ z. z.type) k.names) S held)) (filter (λ k. bytes_eq k.predicate d.predicate) d.block.clauses) c m in
    let k = from.0 in
    let made = Contains-from_map (λ ns. record { clause = k; names = ns }) (choices (map (λ z. z.type) k.names) S held) c from.2 in
    let right = choice_right (map (λ z. z.type) k.names) S held (λ b q. sub b (contains_ordered (support_of_all d.arguments) b q)) made.0 made.1 in
    let parts = contains_kept (λ k. bytes_eq k.predicate d.predicate) d.block.clauses k from.1 in
    subst (IsChoice held d) made.2 (record { types = right.0; different = right.1; one = parts.0; predicate = (bytes_eq-Decides k.predicate d.predicate).0 parts.1 })

pub may_unfold : (m : Sign) → unfolds m ≡ true → MayBeUnfolded m
may_unfold plain e = tt
may_unfold (hash_of i) e = tt
may_unfold (star_of i) e = absurd (false≢true e)
may_unfold (at_of i) e = absurd (false≢true e)
may_unfold (plus_of i) e = absurd (false≢true e)

-- no arguments and some aren't of one type
module _ (sg : Signature) where
  at_a_kind : (k : List ℕ) {A : Ty} → TakeType sg {Var = ℕ} {Hint = List ℕ} [] no_terms A (kind k) → A ≡ kind k
  at_a_kind k take_none = refl

  at_an_arrow : {A C : Ty} {v : Read} {us : Terms ℕ (List ℕ)} → TakeType sg [] (term v us) A C → (B : Ty) × (D : Ty) × (A ≡ arrow B D)
  at_an_arrow (take_term {A = B} {B = D} d ds) = (B, D, refl)

  pub not_both : (k : List ℕ) {A C : Ty} {v : Read} {us : Terms ℕ (List ℕ)} → TakeType sg {Var = ℕ} {Hint = List ℕ} [] no_terms A (kind k) → TakeType sg [] (term v us) A C → ⊥
  not_both k d e = let r = at_an_arrow e in let bad : kind k ≡ arrow r.0 r.1 = sym (at_a_kind k d) ∙ r.2 in cc

-- SIDES that are equal one by one
pub arguments_met : (sg : Signature) (q : Substitution ℕ (List ℕ)) (p : ℕ) {A : Ty} {k l : List ℕ} (ts us : Terms ℕ (List ℕ)) → TakeType sg [] ts A (kind k) → TakeType sg [] us A (kind l) → Unifies q (arguments_equal (codes "x") p ts us)
    → forget_all (image_all same_number q ts) ≡ forget_all (image_all same_number q us)
arguments_met sg q p no_terms no_terms take_none take_none u = refl
arguments_met sg q p {k = k} no_terms (term v us) d e u = absurd (not_both sg k d e)
arguments_met sg q p {l = l} (term t ts) no_terms d e u = absurd (not_both sg l e d)
arguments_met sg q p (term t ts) (term v us) (take_term d ds) (take_term e es) u =
    ap (λ w. term w (forget_all (image_all same_number q ts))) u.0 ∙ ap (term (forget (image same_number q v))) (arguments_met sg q (suc p) ts us ds es u.1)

-- MARKED ATOMS
pub mark_under : (f : Read → Read) → ((l : Logical) (t : Read) → f (spine (logical l) (term t no_terms)) ≡ spine (logical l) (term (f t) no_terms)) → (m : Sign) (t : Read) → f (with_mark m t) ≡ with_mark m (f t)
mark_under f e plain t = refl
mark_under f e (star_of i) t = e (logicals.star i) t
mark_under f e (at_of i) t = e (logicals.at_sign i) t
mark_under f e (plus_of i) t = e (logicals.plus i) t
mark_under f e (hash_of i) t = e (logicals.hash i) t

pub unmarked_same : (m : Sign) (t u : Read) → forget (with_mark m t) ≡ forget (with_mark m u) → forget t ≡ forget u
unmarked_same plain t u e = e
unmarked_same (star_of i) t u e = cc
unmarked_same (at_of i) t u e = cc
unmarked_same (plus_of i) t u e = cc
unmarked_same (hash_of i) t u e = cc

-- THE DEFINED ATOM of an image
module _ (D : Declarations) (r : Substitution ℕ (List ℕ)) where
  abbrev pub atom_under : Defined → Defined
  atom_under d = record d { arguments = image_all same_number r d.arguments }

  as_image : (m : Sign) (A : Read) (d : Defined) → defined_as D m A ≡ Some d → defined_as D m (image same_number r A) ≡ Some (atom_under d)
  as_image m (lam B x t) d e = absurd (cc)
  as_image m (spine (variable y) ts) d e = absurd (cc)
  as_image m (spine (index i) ts) d e = absurd (cc)
  as_image m (spine (nominal a) ts) d e = absurd (cc)
  as_image m (spine (logical l) ts) d e = absurd (cc)
  as_image m (spine (constant p) ts) d e = go (block_in D p) e
    where
      go : (o : Option Block) → option_map (λ b. record { sign = m; predicate = p; arguments = ts; block = b }) o ≡ Some d → option_map (λ b. record { sign = m; predicate = p; arguments = image_all same_number r ts; block = b }) o ≡ Some (atom_under d)
      go None e = absurd (cc)
      go (Some b) e = let same : record { sign = m; predicate = p; arguments = ts; block = b } ≡ d = cc in ap (λ k. Some (atom_under k)) same

  form_atom : (k : Form) (C : Read) (d : Defined) → defined_form D k C ≡ Some d → defined_form D (form_under r k) (image same_number r C) ≡ Some (atom_under d)
  form_atom (marked m A) C d e = as_image m A d e
  form_atom other C d e = as_image plain C d e
  form_atom truth C d e = absurd (cc)
  form_atom falsity C d e = absurd (cc)
  form_atom (both A B) C d e = absurd (cc)
  form_atom (either A B) C d e = absurd (cc)
  form_atom (implies A B) C d e = absurd (cc)
  form_atom (equal A t u) C d e = absurd (cc)
  form_atom (for_all A F) C d e = absurd (cc)
  form_atom (exists A F) C d e = absurd (cc)
  form_atom (nabla A F) C d e = absurd (cc)

  pub atom_image : (C : Read) (d : Defined) → StandsIn a_formula C → defined_atom D C ≡ Some d → defined_atom D (image same_number r C) ≡ Some (atom_under d)
  atom_image C d stands e = ap (λ k. defined_form D k (image same_number r C)) (form_image r C stands) ∙ form_atom (form_of C) C d e
